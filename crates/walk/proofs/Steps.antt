-- The steps of the walk, from state to state. Between two turns: the parts that came out, how many members were removed, and the members
-- that are left. Within a turn also the current part and the members that were passed by.
use Rattle.std.proofs.Common.{◌≡◌, ℕ, ◌+◌, ◌-◌, ◌*◌, ◌<◌, ◌≤◌, Bool, true, false, cond, eqb, leb, List, [], ◌∷◌, ◌++◌, map, length, get_or, take}
use Rattle.std.proofs.Common.{drop, sym, refl, ap, ◌∙◌, subst, append-nil, arith, length-append, eqb-true, leb-false, leb-true}
use mathlib.Core.Option.{none, some}
use Rattle.paper.specs.Tree.{Tree, of_list, weight, records, recordses}
use Rattle.paper.specs.Walk.{WalkEnd, then_walk, turn, walk, last_first}
use Rattle.paper.specs.Rules as paper
use Rattle.paper.specs.Rules.{all_in_range}
use Rattle.paper.proofs.EncodeLaws.{records_weight}
use Rattle.paper.proofs.Value.{total, total_append, list_weights}
use Rattle.paper.proofs.WalkLaws.{plus_laws, fold_last_first}
use Rattle.paper.proofs.OutcomeLaws.{total_fold}
use Rattle.note.specs.Note.{note}
use Rattle.note.specs.Noted.{encode_by, encodes_by}
use Rattle.stretch.specs.Put.{put, part}
use Rattle.part.specs.Like.{Like, node_of, split, merge, join}
use Rattle.part.specs.Part.{Shows, From, in_range}
use Rattle.part.specs.declared.Part.{Part}
use Rattle.walk.specs.Listed.{short_key, bits_of, Entry, Entries}
use Rattle.walk.specs.Walked.{Walkable, combined, came_out, CameOut, OneOf, AllOf, OneNew, Says, answer_of, key_of}
use Rattle.std.proofs.Common.{None, Some, Ok, Err}
use Rattle.walk.specs.declared.Done.{Done}
use Rattle.paper.proofs.Tests.{true_not_false}
use Rattle.paper.proofs.WalkFuel.{last_first_length, map_length}
use Rattle.walk.proofs.TurnLaws.{map_last_first, map-append, resumed, resumed_none, after, turn_begins, turn_refused}
use Rattle.walk.proofs.TurnLaws.{passes_by, takes_up, turn_ends, turn_over, walk_ends, turn_keeps}
use Rattle.part.proofs.PartLaws.{joins_bad}
use Rattle.walk.proofs.RoomLaws.{stays_bad, join_first, join_grows}
use Rattle.walk.proofs.KeyedLaws.{member_key, key_stays}
use Rattle.walk.specs.Numbers.{AfterTelling, Lonely}
use Rattle.walk.proofs.KeptLaws.{lone_refuses}
use Rattle.walk.proofs.EntryLaws.{entries_still, entries_snoc, swap_pending, swap_before, swap_after}
use Rattle.walk.proofs.NewLaws.{all_of_snoc, all_own, all_last_first, News, news_kept, news_new}
use Rattle.walk.proofs.States.{walked, outs, idle_outcome, over_outcome, done_outcome, all_snoc, outs_snoc, outs_many, Came, Common}
use Rattle.walk.proofs.States.{common_ticks, common_written, common_late, common_done, shows_still}

abbrev pub parts : (b : Bool) → List Tree → List (Like b)
parts b l = map (split b) l

-- what is left of the walk between two turns, and within a turn, put onto what was done
abbrev pub rest_of_walk : (b : Bool) → List (Like b) → ℕ → List Tree → WalkEnd (Like b)
rest_of_walk b done r left = resumed done r (walk (merge b) (length (parts b left)) (parts b left))

abbrev pub rest_of_turn : (b : Bool) → List (Like b) → ℕ → Like b → List Tree → List Tree → WalkEnd (Like b)
rest_of_turn b done r c passed left =
    resumed done r (after (merge b) (turn (merge b) (length (parts b left)) c (parts b passed) (parts b left)))

pub record Outer (b : Bool) (l : List Tree) (o₀ w₀ : List ℕ) (d p count : ℕ) (o w : List ℕ) (n i e : ℕ) (late : Bool) (new f : ℕ) : Type 0 where
  pub done : List (Like b)
  pub removed : ℕ
  pub left : List Tree
  pub whole : walked b l ≡ rest_of_walk b done removed left
  pub gone : n + removed ≡ count
  pub many : i + length left ≡ n
  pub entries : Entries b w p i left
  pub room : e + total weight left ≤ d + (1 + total weight l)
  pub common : Common b o₀ w₀ d p o w i e late done
  pub left_of : AllOf l left
  pub news : late ≡ false → News l (outs b done) d new f

-- the member whose turn it is stands at entry i, and is its own part as long as there are as many members as it `had` before it
pub record Inner (b : Bool) (l : List Tree) (o₀ w₀ : List ℕ) (d p count : ℕ) (o w : List ℕ) (n i e : ℕ) (late : Bool) (new f : ℕ) (c : Part)
    (key had j : ℕ) : Type 0 where
  pub done : List (Like b)
  pub removed : ℕ
  pub current : Like b
  pub passed : List Tree
  pub left : List Tree
  pub shown : Shows b w c current
  pub keyed : key ≡ short_key (key_of b current)
  pub place : From p c
  pub whole : walked b l ≡ rest_of_turn b done removed current passed left
  pub gone : n + removed ≡ count
  pub behind : i + 1 + length passed ≡ j
  pub many : j + length left ≡ n
  pub passed_entries : Entries b w p (i + 1) passed
  pub entries : Entries b w p j left
  pub room : e + (weight (join b current).0 + (total weight passed + total weight left)) ≤ d + (1 + total weight l)
  pub common : Common b o₀ w₀ d p o w i e late done
  pub member : Tree
  pub own_entry : Entry b w p i member
  pub own : n ≡ had → current ≡ split b member
  pub fewer : n ≤ had
  pub member_of : OneOf member l
  pub passed_of : AllOf l passed
  pub left_of : AllOf l left
  pub news : late ≡ false → News l (outs b done) d new f

-- ---- the first of the members that are left
pub record Head (b : Bool) (w : List ℕ) (p i : ℕ) (left : List Tree) : Type 0 where
  pub tree : Tree
  pub others : List Tree
  pub is : left ≡ tree ∷ others
  pub entry : Entry b w p i tree
  pub rest : Entries b w p (i + 1) others

pub head_of : (b : Bool) (w : List ℕ) (p i : ℕ) (left : List Tree) → Entries b w p i left → 0 < length left → Head b w p i left
head_of b w p i [] e h = absurd (omega arith)
head_of b w p i (t ∷ l) e h = record { tree = t; others = l; is = refl; entry = e.0; rest = e.1 }

pub none_left : (l : List Tree) → length l ≡ 0 → l ≡ []
none_left [] e = refl
none_left (t ∷ l) e = absurd (omega arith)

module _ {b : Bool} {l : List Tree} {o₀ w₀ : List ℕ} {d p count : ℕ} where
  -- the members that are alone with their keys are told, or not
  pub outer_begins : {o w : List ℕ} {told : Bool} → Walkable b o₀ w₀ d p count l → AfterTelling b o₀ o w₀ w d p count told
      → Outer b l o₀ w₀ d p count o w count 0 (d + 1) false 0 0
  unfolding all_in_range of_list records encode_by
  outer_begins {o} {w} h t =
      let still = t.only.behind (p * 16) h.listed.low in
      record {
        done = [];
        removed = 0;
        left = l;
        whole = ap (λ n. walk (merge b) n (parts b l)) (sym (map_length (split b) l)) ∙ sym (resumed_none _);
        gone = omega arith;
        many = omega (arith, h.listed.many);
        entries = entries_still w₀ w p still b 0 l (λ j g u. (t.only.starts j, t.only.bits j)) h.listed.entries;
        room = omega arith;
        common = record {
          many = refl;
          pending = still;
          low = omega arith;
          front = t.front;
          came = (refl, t.front ∙ sym (append-nil (take ((d + 1) * 16) o₀)), omega arith);
        };
        left_of = all_own l;
        news = λ q. tt;
      }

  module _ {o w : List ℕ} {n i e : ℕ} {late : Bool} {new f : ℕ} (v : Outer b l o₀ w₀ d p count o w n i e late new f) where
    module _ (less : i < n) where
      abbrev pub first : Head b w p i v.left
      first = head_of b w p i v.left v.entries (omega (arith, v.many))

      pub inner_begins : (c : Part) (key : ℕ) → Shows b w c (split b first.tree) → From p c → key ≡ bits_of w i
          → Inner b l o₀ w₀ d p count o w n i e late new f c key n (i + 1)
      unfolding total
      inner_begins c key s from k =
          let t = first.tree in
          let m = first.others in
          let size = ap length first.is in
          let heavy = ap (total weight) first.is in
          let all = subst (AllOf l) first.is v.left_of in
          record {
            done = v.done;
            removed = v.removed;
            current = split b t;
            passed = [];
            left = m;
            shown = s;
            keyed = k ∙ first.entry.key ∙ ap short_key (member_key b t);
            place = from;
            whole =
                v.whole
                ∙ ap (rest_of_walk b v.done v.removed) first.is
                ∙ turn_begins (merge b) v.done v.removed (split b t) (parts b m);
            gone = v.gone;
            behind = omega arith;
            many = omega (arith, v.many);
            passed_entries = tt;
            entries = first.rest;
            room = omega (arith, v.room, join_first b t);
            common = v.common;
            member = t;
            own_entry = first.entry;
            own = λ q. refl;
            fewer = omega arith;
            member_of = all.0;
            passed_of = tt;
            left_of = all.1;
            news = v.news;
          }

      -- a member that is alone with its key passes all later ones by, and comes out as it stands
      pub outer_lone : (o' : List ℕ) (x : ℕ) → e * 16 ≤ length o → Lonely b w p n → 128 ≤ get_or w (i * 4 + 3) 0
          → join b (split b first.tree) ≡ (first.tree, true) → x ≡ e + records first.tree → o' ≡ put o (e * 16) (encode_by note first.tree)
          → Outer b l o₀ w₀ d p count o' w n (i + 1) x late new f
      unfolding total
      outer_lone o' x r lonely bit itself q s =
          let t = first.tree in
          let m = first.others in
          let c = split b t in
          let size = ap length first.is in
          let heavy = ap (total weight) first.is in
          let all = subst (AllOf l) first.is v.left_of in
          let tree : (join b c).0 ≡ t = ap (λ (y : Tree × Bool). y.0) itself in
          let free = lone_refuses b w p i n t m (i + 1) first.entry first.rest (omega (arith, v.many))
          (λ y g u. lonely i y less u (λ same. omega (arith, same, g)) bit) in
          let turned = turn_refused (merge b) c (parts b m) free in
          record {
            done = v.done ++ (c ∷ []);
            removed = v.removed;
            left = m;
            whole =
                v.whole
                ∙ ap (rest_of_walk b v.done v.removed) first.is
                ∙ turn_begins (merge b) v.done v.removed c (parts b m)
                ∙ ap (λ z. resumed v.done v.removed (after (merge b) z)) turned
                ∙ turn_over (merge b) v.done v.removed c (parts b m);
            gone = v.gone;
            many = omega (arith, v.many);
            entries = first.rest;
            room = omega (arith, v.room, records_weight t);
            common =
                common_written v.common o' c x r (ap (λ (y : Tree × Bool). y.1) itself) (q ∙ ap (λ u. e + records u) (sym tree))
                (s ∙ ap (λ u. put o (e * 16) (encode_by note u)) (sym tree));
            left_of = all.1;
            news = λ k.
                subst (λ y. News l y d new f) (sym (outs_snoc b v.done c))
                (news_kept l (outs b v.done) d new f (join b c).0 (v.news k) (subst (λ u. OneOf u l) (sym tree) all.0));
          }

    module _ (over : n ≤ i) where
      all_out : walked b l ≡ record { parts = v.done; removed = v.removed }
      all_out =
          let no_more = none_left v.left (omega (arith, v.many)) in
          v.whole
          ∙ ap (rest_of_walk b v.done v.removed) no_more
          ∙ walk_ends (merge b) v.done v.removed

      says_idle : count ≤ n → (μ : ℕ) → combined b μ l ≡ paper.does_not_apply
      says_idle h μ = idle_outcome b l v.done v.removed all_out μ (omega (arith, v.gone))

      says_late : n < count → late ≡ true → (μ : ℕ) → combined b μ l ≡ paper.range_exceeded
      says_late h q μ =
          over_outcome b l v.done v.removed all_out μ (omega (arith, v.gone)) (subst (Came b d o₀ o e v.done) q v.common.came)

      says_done : n < count → late ≡ false → CameOut b l o₀ o d n e
      says_done h q =
          let came = subst (Came b d o₀ o e v.done) q v.common.came in
          let these : came_out b l ≡ outs b v.done = ap (λ w. outs b w.parts) all_out in
          record {
            applies =
                λ μ. done_outcome b l v.done v.removed all_out μ (omega (arith, v.gone)) came.0
                ∙ ap (λ m. paper.applies (node_of b μ m)) (sym these);
            many = ap length these ∙ outs_many b v.done ∙ v.common.many ∙ omega (arith, v.many);
            built = came.1 ∙ ap (λ m. take ((d + 1) * 16) o₀ ++ encodes_by note (of_list m)) (sym these);
            end = came.2 ∙ ap (λ m. d + 1 + recordses (of_list m)) (sym these);
            small = omega (arith, v.room, list_weights l);
          }

      -- where one of them is new, it stands at record f
      says_new : late ≡ false → new ≡ 1 → OneNew l (came_out b l) d f
      says_new q one =
          let these : came_out b l ≡ outs b v.done = ap (λ w. outs b w.parts) all_out in
          subst (λ m. OneNew l m d f) (sym these) (subst (λ k. News l (outs b v.done) d k f) one (v.news q))

      -- the answer, by its tests
      abbrev done_at : Bool → Done
      done_at one = record { count = n; end = e; new = cond one (Some f) None }

      says_which : n < count → late ≡ false → (one : Bool) → eqb new 1 ≡ one → Says b l o₀ o d (Ok (Some (done_at one)))
      says_which h q true one = (says_done h q, says_new q (eqb-true new 1 one))
      says_which h q false one = (says_done h q, tt)

      says_judged : n < count → (judged : Bool) → late ≡ judged → Says b l o₀ o d (cond judged (Err record {}) (Ok (Some (done_at (eqb new 1)))))
      says_judged h true q = says_late h q
      says_judged h false q = says_which h q (eqb new 1) refl

      pub says_answer : Says b l o₀ o d (answer_of count n e late new f)
      unfolding answer_of
      says_answer = go (leb count n) refl
        where
          go : (all : Bool) → leb count n ≡ all → Says b l o₀ o d (cond all (Ok None) (cond late (Err record {}) (Ok (Some (done_at (eqb new 1))))))
          go true h = says_idle (leb-true count n h)
          go false h = says_judged (leb-false count n h) late refl

  module _ {o w : List ℕ} {n i e : ℕ} {late : Bool} {new f : ℕ} {c : Part} {key had j : ℕ}
      (v : Inner b l o₀ w₀ d p count o w n i e late new f c key had j) where
    module _ (less : j < n) where
      abbrev pub next : Head b w p j v.left
      next = head_of b w p j v.left v.entries (omega (arith, v.many))

      faced : walked b l ≡ rest_of_turn b v.done v.removed v.current v.passed (next.tree ∷ next.others)
      faced = v.whole ∙ ap (rest_of_turn b v.done v.removed v.current v.passed) next.is

      pub enough : e * 16 + records next.tree ≤ (d + (1 + total weight l)) * 16
      unfolding total
      enough = omega (arith, v.room, ap (total weight) next.is, records_weight next.tree)

      -- it is passed by
      pub inner_apart : (o' : List ℕ) → take (e * 16) o' ≡ take (e * 16) o → merge b v.current (split b next.tree) ≡ none
          → Inner b l o₀ w₀ d p count o' w n i e late new f c key had (j + 1)
      unfolding total
      inner_apart o' s q =
          let x = next.tree in
          let m = next.others in
          let size = ap length next.is in
          let heavy = ap (total weight) next.is in
          let all = subst (AllOf l) next.is v.left_of in
          record {
            done = v.done;
            removed = v.removed;
            current = v.current;
            passed = v.passed ++ (x ∷ []);
            left = m;
            shown = v.shown;
            keyed = v.keyed;
            place = v.place;
            whole =
                faced
                ∙ passes_by (merge b) v.done v.removed (length (parts b m)) v.current (split b x) (parts b v.passed) (parts b m) q
                ∙ ap (λ (y : List (Like b)). resumed v.done v.removed (after (merge b) (turn (merge b) (length (parts b m)) v.current y (parts b m))))
                (sym (map-append (split b) v.passed (x ∷ [])));
            gone = v.gone;
            behind = omega (arith, v.behind, length-append v.passed (x ∷ []));
            many = omega (arith, v.many);
            passed_entries = entries_snoc b w p (i + 1) j v.passed x (sym v.behind) v.passed_entries next.entry;
            entries = next.rest;
            room = omega (arith, v.room, total_append weight v.passed (x ∷ []));
            common = common_ticks v.common o' w s refl;
            member = v.member;
            own_entry = v.own_entry;
            own = v.own;
            fewer = v.fewer;
            member_of = v.member_of;
            passed_of = all_of_snoc l v.passed x v.passed_of all.0;
            left_of = all.1;
            news = v.news;
          }

      -- it is taken up, and the last member moves into its place
      pub inner_into : (o' w' : List ℕ) (c' : Part) (x : Like b) → take (e * 16) o' ≡ take (e * 16) o
          → merge b v.current (split b next.tree) ≡ some x → Shows b w c' x → From p c' → n * 4 ≤ p * 16 → p * 16 ≤ length w
          → w' ≡ put w (j * 4) (part w ((n - 1) * 4) 4) → Inner b l o₀ w₀ d p count o' w' (n - 1) i e late new f c' key had j
      unfolding total
      inner_into o' w' c' x s q h from low within k =
          let t = next.tree in
          let m = next.others in
          let size = ap length next.is in
          let heavy = ap (total weight) next.is in
          let rest : n - 1 ≡ j + length m = omega (arith, v.many) in
          let still = swap_pending w w' p j (n - 1) t m rest (omega arith) within k in
          let same = total_fold weight (last_first m) ∙ fold_last_first plus_laws weight m ∙ sym (total_fold weight m) in
          let grown = join_grows b v.current x t next.entry.there.wf q in
          let all = subst (AllOf l) next.is v.left_of in
          let its = swap_before w w' p j (n - 1) t m rest (omega arith) within k b i (v.member ∷ []) (omega (arith, v.behind)) (v.own_entry, tt) in
          let fuel : length (parts b m) ≡ length (parts b (last_first m)) =
          map_length (split b) m ∙ sym (last_first_length m) ∙ sym (map_length (split b) (last_first m)) in
          record {
            done = v.done;
            removed = v.removed + 1;
            current = x;
            passed = v.passed;
            left = last_first m;
            shown = shows_still b w w' p c' x still from h;
            keyed = v.keyed ∙ ap short_key (sym (key_stays b v.current (split b t) x q));
            place = from;
            whole =
                faced
                ∙ takes_up (merge b) v.done v.removed (length (parts b m)) v.current (split b t) x (parts b v.passed) (parts b m) q
                ∙ ap
                (λ (y : List (Like b)).
                resumed v.done (v.removed + 1) (after (merge b) (turn (merge b) (length (parts b m)) x (parts b v.passed) y)))
                (sym (map_last_first (split b) m))
                ∙ ap (λ n. resumed v.done (v.removed + 1) (after (merge b) (turn (merge b) n x (parts b v.passed) (parts b (last_first m))))) fuel;
            gone = omega (arith, v.gone);
            behind = v.behind;
            many = omega (arith, last_first_length m);
            passed_entries =
                swap_before w w' p j (n - 1) t m rest (omega arith) within k b (i + 1) v.passed (omega (arith, v.behind)) v.passed_entries;
            entries = swap_after w w' p j (n - 1) t m rest (omega arith) within k b (subst (Entries b w p j) next.is v.entries);
            room = omega (arith, v.room);
            common = common_ticks v.common o' w' s still;
            member = v.member;
            own_entry = its.0;
            own = λ same. absurd (omega (arith, same, v.fewer, less));
            fewer = omega (arith, v.fewer);
            member_of = v.member_of;
            passed_of = v.passed_of;
            left_of = all_last_first l m all.1;
            news = v.news;
          }

      -- it is taken up, and the range is left
      pub says_over : (x : Like b) → merge b v.current (split b next.tree) ≡ some x → in_range b x ≡ false → (μ : ℕ)
          → combined b μ l ≡ paper.range_exceeded
      unfolding resumed after then_walk
      says_over x q bad μ =
          let t = next.tree in
          let m = parts b next.others in
          let last = turn (merge b) (length m) x (parts b v.passed) (last_first m) in
          let rest = walk (merge b) (length last.later) last.later in
          let stays = turn_keeps (merge b) (λ y. in_range b y ≡ false) (λ y z u. stays_bad b y z u) (length m) x (parts b v.passed) (last_first m) bad in
          over_outcome b l (v.done ++ (last.current ∷ rest.parts)) (v.removed + 1 + (last.removed + rest.removed))
          (faced
          ∙ takes_up (merge b) v.done v.removed (length m) v.current (split b t) x (parts b v.passed) m q)
          μ (omega arith) (all_snoc b v.done rest.parts last.current (joins_bad b last.current stays))

    -- ---- the turn is done
    module _ (over : n ≤ j) where
      no_later : v.left ≡ []
      no_later = none_left v.left (omega (arith, v.many))

      pub fitting : ((e + records (join b v.current).0) * 16 ≤ (d + (1 + total weight l)) * 16) × (weight (join b v.current).0 ≤ total weight l)
      fitting = (omega (arith, v.room, records_weight (join b v.current).0), omega (arith, v.room, v.common.low))

      turned : walked b l ≡ resumed (v.done ++ (v.current ∷ [])) v.removed (walk (merge b) (length (parts b v.passed)) (parts b v.passed))
      turned =
          v.whole
          ∙ ap (rest_of_turn b v.done v.removed v.current v.passed) no_later
          ∙ turn_ends (merge b) v.done v.removed v.current (parts b v.passed)

      pub outer_written : (o' : List ℕ) (x : ℕ) → e * 16 ≤ length o → (join b v.current).1 ≡ true → x ≡ e + records (join b v.current).0
          → o' ≡ put o (e * 16) (encode_by note (join b v.current).0) → (new' f' : ℕ)
          → (late ≡ false → News l (outs b (v.done ++ (v.current ∷ []))) d new' f') → Outer b l o₀ w₀ d p count o' w n (i + 1) x late new' f'
      outer_written o' x r g q s new' f' told =
          let size = ap length no_later in
          record {
            done = v.done ++ (v.current ∷ []);
            removed = v.removed;
            left = v.passed;
            whole = turned;
            gone = v.gone;
            many = omega (arith, v.behind, v.many);
            entries = v.passed_entries;
            room = omega (arith, v.room, records_weight (join b v.current).0);
            common = common_written v.common o' v.current x r g q s;
            left_of = v.passed_of;
            news = told;
          }

      -- it is the member whose turn it was; or a new one, and stands at record e
      as_before : (k : ℕ) (g : ℕ) → News l (outs b v.done ++ ((join b v.current).0 ∷ [])) d k g → News l (outs b (v.done ++ (v.current ∷ []))) d k g
      as_before k g = subst (λ m. News l m d k g) (sym (outs_snoc b v.done v.current))

      pub kept_news : (join b v.current).0 ≡ v.member → late ≡ false → News l (outs b (v.done ++ (v.current ∷ []))) d new f
      kept_news is q =
          as_before new f
          (news_kept l (outs b v.done) d new f (join b v.current).0 (v.news q) (subst (λ t. OneOf t l) (sym is) v.member_of))

      pub new_news : late ≡ false → News l (outs b (v.done ++ (v.current ∷ []))) d (new + 1) e
      new_news q =
          let came = subst (Came b d o₀ o e v.done) q v.common.came in
          as_before (new + 1) e (news_new l (outs b v.done) d new f e (join b v.current).0 (v.news q) came.2)

      pub outer_late : (o' : List ℕ) → (join b v.current).1 ≡ false → o' ≡ o → Outer b l o₀ w₀ d p count o' w n (i + 1) e true new f
      outer_late o' g s =
          let size = ap length no_later in
          record {
            done = v.done ++ (v.current ∷ []);
            removed = v.removed;
            left = v.passed;
            whole = turned;
            gone = v.gone;
            many = omega (arith, v.behind, v.many);
            entries = v.passed_entries;
            room = omega (arith, v.room);
            common = common_late v.common o' v.current g s;
            left_of = v.passed_of;
            news = λ q. absurd (true_not_false refl q);
          }

    -- where the walk is left, what is pending and what is done stay
    pub left_alone : (o' : List ℕ) → take (e * 16) o' ≡ take (e * 16) o
        → (drop (p * 16) w ≡ drop (p * 16) w₀) × (take (d * 16) o' ≡ take (d * 16) o₀)
    left_alone o' s =
        let u = common_ticks v.common o' w s refl in
        (u.pending, common_done u)

-- Steps 1 and 4 on the way through the members: some are done, and what is kept of them stands in `out`; the others are left. What is
-- kept of all is what is kept of the first followed by what is kept of the others, so at the end it all stands in `out`.
use Prim.Native.Nat.{ℕ, ◌+◌, ◌-◌, ◌*◌, ◌<◌, ◌≤◌}
use mathlib.Core.Path.{◌≡◌, refl, sym, ap, ◌∙◌, subst}
use mathlib.Core.Bool.{Bool, true, false}
use mathlib.Core.List.{List, [], ◌∷◌, ◌++◌, append-nil, append_assoc}
use native.Mathlib.Omega.{arith}
use lib.ListN.{length, take, drop, length-append, length-drop}
use lib.Seq.{length-take-le, take-take, take-append-le, drop_at, drop-drop}
use lib.IntN.{pos}
use Rattle.paper.specs.Tree.{Tree, Forest, nil, count, records, recordses, weight, weights, to_list, of_list}
use Rattle.paper.specs.WellFormed.{Mark, WFs, WFl}
use Rattle.paper.specs.Record.{count_in}
use Rattle.paper.specs.Rules.{is_the, drop_all, unless}
use Rattle.paper.proofs.EncodeLaws.{recordses_weights, count_records}
use Rattle.note.proofs.NotedLaws.{encode_by_length, encodes_by_length}
use Rattle.paper.proofs.Value.{total, weights_list}
use Rattle.paper.proofs.OutcomeLaws.{sum_of_weight, product_of_weight}
use Rattle.paper.proofs.DropRules.{drop_all_wf}
use Rattle.paper.proofs.WFLaws.{list_count, wf_list, sum_of_wf, product_of_wf}
use Rattle.note.specs.Note.{note}
use Rattle.note.specs.Noted.{encode_by, encodes_by}
use Rattle.split.specs.Standing.{ToldTrees, SomeTold}
use Rattle.stretch.specs.Put.{put, part}
use Rattle.part.specs.Like.{node_of}
use Rattle.rebuilt.specs.Written.{Light}
use Rattle.rebuilt.proofs.Encoded.{recordses_snoc, stands_part, built_more}
use Rattle.rules.specs.Tried.{Held, MembersIn, Built}
use Rattle.note.proofs.ToldLaws.{FirstOf, first_of, none_of, some_told}
use Rattle.rules.proofs.Nodes.{after_first, members_in_lem}

-- ---- what is left of the members weighs no more than they do, and the node of it can be closed
pub dropped_weight : (p : Tree → Bool) (l : List Tree) → total weight (drop_all p l) ≤ total weight l
unfolding total drop_all unless
dropped_weight p [] = omega arith
dropped_weight p (t ∷ l) = go (p t) (dropped_weight p l)
  where
    go : (b : Bool) → total weight (drop_all p l) ≤ total weight l → total weight (unless b t (drop_all p l)) ≤ total weight (t ∷ l)
    go true h = omega arith
    go false h = omega arith

pub node_light : (b : Bool) (μ : ℕ) (l : List Tree) → Mark μ → WFl l → 1 + total weight l < 65536 → Light (node_of b μ l)
node_light true μ l m w h = (sum_of_wf μ m l w, omega (arith, sum_of_weight μ l))
node_light false μ l m w h = (product_of_wf μ m l w, omega (arith, product_of_weight μ l))

pub dropped_light : (b : Bool) (μ z : ℕ) (f : Forest) → Mark μ → WFs f → 1 + weights f < 65536
    → Light (node_of b μ (drop_all (is_the (pos z)) (to_list f)))
dropped_light b μ z f m w h =
    let p = is_the (pos z) in
    node_light b μ (drop_all p (to_list f)) m (drop_all_wf p (to_list f) (wf_list f w)) (omega (arith, dropped_weight p (to_list f), weights_list f))

-- what a function that only reads asks for
pub held_members : {o w : List ℕ} {d p : ℕ} {f : Forest} {rest : List ℕ} → Held o w d p f rest → MembersIn w p f
held_members {f = f} {rest = rest} h =
    record {
      seen = record { counted = h.counted; two = h.two; wf = h.wf; stand = record { after = rest; there = h.stand } };
      few = omega (arith, h.light, recordses_weights f);
    }

-- the records of the members, and of what follows, are all that is left of the table
pub held_length : {o w : List ℕ} {d p : ℕ} {f : Forest} {rest : List ℕ} → Held o w d p f rest
    → length w ≡ (p + 1 + recordses f) * 16 + length rest
held_length {w = w} {p = p} {f = f} {rest = rest} h =
    let e : length w - (p + 1) * 16 ≡ length (encodes_by note f) + length rest =
    sym (length-drop ((p + 1) * 16) w) ∙ ap length h.stand ∙ length-append (encodes_by note f) rest in
    omega (arith, encodes_by_length note f, h.work_room, recordses_weights f, records_two f h.two)
  where
    records_two : (f : Forest) → 2 ≤ count f → 1 ≤ recordses f
    records_two f t = omega (arith, count_records f)

module _ (z : ℕ) where
  abbrev pub kept : List Tree → List Tree
  kept l = drop_all (is_the (pos z)) l

  pub record Dropping (o₀ w : List ℕ) (d p : ℕ) (f : Forest) (rest o : List ℕ) (at left e n : ℕ) : Type 0 where
    pub done : List Tree
    pub others : Forest
    pub stand : ToldTrees note w at left others
    pub follow : drop (at * 16) w ≡ encodes_by note others ++ rest
    pub built : take (e * 16) o ≡ take ((d + 1) * 16) o₀ ++ encodes_by note (of_list done)
    pub end : e ≡ d + 1 + recordses (of_list done)
    pub many : n ≡ length done
    pub same : kept (to_list f) ≡ done ++ kept (to_list others)
    pub room : e + recordses others ≤ d + 1 + recordses f
    pub place : at + recordses others ≡ p + 1 + recordses f

  -- none is left: all that is kept stands in `out`, and what follows the node follows
  pub record Ended (o₀ w : List ℕ) (d p : ℕ) (f : Forest) (rest o : List ℕ) (at e n : ℕ) : Type 0 where
    pub built : Built o d e (kept (to_list f))
    pub many : length (kept (to_list f)) ≡ n
    pub done : take (d * 16) o ≡ take (d * 16) o₀
    pub follow : drop (at * 16) w ≡ rest
    pub within : at * 16 ≤ length w
    pub short : e ≤ d + at

-- the member from record at up to record next can be read, and copied to record e of `out`; no more are kept than stand there
pub record Room (o₀ w o : List ℕ) (at next e n : ℕ) : Type 0 where
  pub long : length o ≡ length o₀
  pub forward : at ≤ next
  pub read : next * 16 ≤ length w
  pub written : (e + (next - at)) * 16 ≤ length o₀
  pub few : n ≤ e

module _ {z : ℕ} {o₀ w : List ℕ} {d p : ℕ} {f : Forest} {rest : List ℕ} (h : Held o₀ w d p f rest) where
  pub begins : {n : ℕ} → n ≡ count_in w p → Dropping z o₀ w d p f rest o₀ (p + 1) n (d + 1) 0
  unfolding of_list records encode_by
  begins c =
      record {
        done = [];
        others = f;
        stand = subst (λ n. ToldTrees note w (p + 1) n f) (sym c) (members_in_lem w p f (held_members h));
        follow = h.stand;
        built = sym (append-nil (take ((d + 1) * 16) o₀));
        end = omega arith;
        many = refl;
        same = refl;
        room = omega arith;
        place = refl;
      }

  module _ {o : List ℕ} {at left e n : ℕ} (v : Dropping z o₀ w d p f rest o at left e n) (l : 0 < left) where
    -- the first of those that are left
    abbrev pub head : FirstOf note w at left v.others
    head = first_of v.others v.stand l

    pub some_member : SomeTold w at
    some_member = some_told head.there

    sizes : recordses v.others ≡ records head.tree + recordses head.others
    unfolding records
    sizes = ap recordses head.whole

    module _ (next : ℕ) (q : next ≡ at + records head.tree) (long : length o ≡ length o₀) where
      pub room : Room o₀ w o at next e n
      room =
          let s = sizes in
          let far = held_length h in
          record {
            long = long;
            forward = omega arith;
            read = omega (arith, v.place);
            written = omega (arith, v.room, h.out_room, recordses_weights f);
            few = omega (arith, v.many, list_count v.done, count_records (of_list v.done), v.end);
          }

      follows : drop (next * 16) w ≡ encodes_by note head.others ++ rest
      unfolding encode_by
      follows =
          let x = encode_by note head.tree in
          let y = encodes_by note head.others in
          let sum : next * 16 ≡ at * 16 + records head.tree * 16 = omega arith in
          ap (λ k. drop k w) sum
          ∙ sym (drop-drop (records head.tree * 16) (at * 16) w)
          ∙ ap (drop (records head.tree * 16)) (v.follow ∙ ap (λ g. encodes_by note g ++ rest) head.whole ∙ append_assoc x y rest)
          ∙ drop_at x (y ++ rest) (records head.tree * 16) (encode_by_length note head.tree ∙ omega arith)

      -- a member that is dropped
      pub passes : is_the (pos z) head.tree ≡ true → Dropping z o₀ w d p f rest o next (left - 1) e n
      unfolding to_list drop_all unless
      passes t =
          let s = sizes in
          record {
            done = v.done;
            others = head.others;
            stand = after_first head next q;
            follow = follows;
            built = v.built;
            end = v.end;
            many = v.many;
            same =
                v.same
                ∙ ap (λ g. v.done ++ kept z (to_list g)) head.whole
                ∙ ap (λ b. v.done ++ unless b head.tree (kept z (to_list head.others))) t;
            room = omega (arith, v.room);
            place = omega (arith, v.place);
          }

      -- a member that is kept
      pub keeps : (o' : List ℕ) → is_the (pos z) head.tree ≡ false
          → o' ≡ put o (e * 16) (part w (at * 16) ((next - at) * 16)) → Dropping z o₀ w d p f rest o' next (left - 1) (e + (next - at)) (n + 1)
      unfolding to_list drop_all unless
      keeps o' t c =
          let s = sizes in
          let r : e * 16 ≤ length o = omega (arith, long, room.written) in
          let m : (next - at) * 16 ≡ records head.tree * 16 = omega arith in
          let copied = c ∙ ap (put o (e * 16)) (stands_part w at ((next - at) * 16) head.tree head.there.stands m) in
          let sum : e + (next - at) ≡ e + records head.tree = omega arith in
          record {
            done = v.done ++ (head.tree ∷ []);
            others = head.others;
            stand = after_first head next q;
            follow = follows;
            built = built_more o o' (take ((d + 1) * 16) o₀) e (e + (next - at)) v.done head.tree v.built r copied sum;
            end = omega (arith, v.end, recordses_snoc v.done head.tree);
            many = omega (arith, v.many, length-append v.done (head.tree ∷ []));
            same =
                v.same
                ∙ ap (λ g. v.done ++ kept z (to_list g)) head.whole
                ∙ ap (λ b. v.done ++ unless b head.tree (kept z (to_list head.others))) t
                ∙ sym (append_assoc v.done (head.tree ∷ []) (kept z (to_list head.others)));
            room = omega (arith, v.room);
            place = omega (arith, v.place);
          }

  -- none is left
  pub ends : {o : List ℕ} {at left e n : ℕ} → length o ≡ length o₀ → Dropping z o₀ w d p f rest o at left e n → left ≤ 0
      → Ended z o₀ w d p f rest o at e n
  unfolding to_list drop_all encode_by records
  ends {o} {at} {left} {e} {n} long v l =
      let none : v.others ≡ nil = none_of v.others v.stand (omega arith) in
      let all : kept z (to_list f) ≡ v.done =
      v.same ∙ ap (λ g. v.done ++ kept z (to_list g)) none ∙ append-nil v.done in
      let zero : recordses v.others ≡ 0 = ap recordses none in
      let far = held_length h in
      let front = take ((d + 1) * 16) o₀ in
      let size : length front ≡ (d + 1) * 16 = length-take-le ((d + 1) * 16) o₀ (omega (arith, h.out_room)) in
      record {
        built = subst (Built o d e) (sym all) (record {
          front = front;
          free = size;
          built = v.built;
          end = v.end;
          within = omega (arith, v.room, h.out_room, recordses_weights f);
        });
        many = ap length all ∙ sym v.many;
        done =
            sym (take-take (d * 16) (e * 16) o (omega (arith, v.end)))
            ∙ ap (take (d * 16)) v.built
            ∙ take-append-le (d * 16) front (encodes_by note (of_list v.done)) (omega arith)
            ∙ take-take (d * 16) ((d + 1) * 16) o₀ (omega arith);
        follow = v.follow ∙ ap (λ g. encodes_by note g ++ rest) none;
        within = omega (arith, v.place);
        short = omega (arith, v.place, v.room, h.light, h.work_room, recordses_weights f);
      }

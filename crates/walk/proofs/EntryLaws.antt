-- The members' entries at the front of `work`: an entry that is written is read back, the others stay, and what stands from the node's
-- record on stays too; so where the last entry moves into the place of a removed one, the entries from there on are those of the last
-- member and of the others in order. By induction on the members.
use Rattle.std.proofs.Common.{◌≡◌, ℕ, suc, ◌+◌, ◌-◌, ◌*◌, ◌%◌, ◌<◌, ◌≤◌, Bool, List, [], ◌∷◌, ◌++◌, length, get_or, drop, sym, refl, ap, ◌∙◌, subst}
use Rattle.std.proofs.Common.{append_assoc, append-nil, add-zero, arith, length-append, get_or-drop, get_or-take, drop-drop}
use native.Mathlib.Decide.{dec_lt}
use Rattle.paper.specs.Bytes.{bytes, le, le2}
use Rattle.paper.specs.Tree.{Tree, Forest, nil, to_list, of_list, records, recordses, weight, weights}
use Rattle.paper.specs.Record.{count_in}
use Rattle.paper.specs.Walk.{last_of, init_of, last_first}
use Rattle.paper.proofs.BytesLaws.{le_bytes, le2_drop, le2_append}
use Rattle.paper.proofs.EncodeLaws.{records_pos}
use Rattle.paper.proofs.Stands.{Stands}
use Rattle.paper.proofs.Value.{total, total_append, weights_list}
use Rattle.note.specs.Note.{note}
use Rattle.note.specs.Part.{part_key}
use Rattle.note.specs.Noted.{encode_by, encodes_by}
use Rattle.stretch.specs.Put.{put, part}
use Rattle.stretch.proofs.Laws.{length_part, drop_put, drop_put_at, get_d_put_before, get_d_put_after}
use Rattle.split.specs.Standing.{Told, ToldTrees}
use Rattle.note.proofs.ToldLaws.{FirstOf, first_of, none_of}
use Rattle.rebuilt.proofs.Encoded.{recordses_snoc}
use Rattle.walk.specs.Listed.{short_key, bits_of, entry_of, Entry, Entries, Listable, ListedIs}

-- ---- what stands from record p on
module _ (w w' : List ℕ) (p : ℕ) (same : drop (p * 16) w' ≡ drop (p * 16) w) where
  pub later_same : (i : ℕ) → p ≤ i → drop (i * 16) w' ≡ drop (i * 16) w
  later_same i h =
      let e : i * 16 ≡ p * 16 + (i * 16 - p * 16) = omega arith in
      ap (λ k. drop k w') e
      ∙ sym (drop-drop (i * 16 - p * 16) (p * 16) w')
      ∙ ap (drop (i * 16 - p * 16)) same
      ∙ drop-drop (i * 16 - p * 16) (p * 16) w
      ∙ ap (λ k. drop k w) (sym e)

  stands_still : (i : ℕ) (x : List ℕ) → p ≤ i → Stands w i x → Stands w' i x
  stands_still i x h s = record { after = s.after; there = later_same i h ∙ s.there }

  pub tree_still : (i : ℕ) (t : Tree) → p ≤ i → Told note w i t → Told note w' i t
  tree_still i t h s = record { tells = s.tells; wf = s.wf; few = s.few; stands = stands_still i (encode_by note t) h s.stands }

  pub trees_still : (i n : ℕ) (f : Forest) → p ≤ i → ToldTrees note w i n f → ToldTrees note w' i n f
  trees_still i n f h s =
      record { tells = s.tells; counted = s.counted; wf = s.wf; few = s.few; stand = stands_still i (encodes_by note f) h s.stand }

  -- ---- entries that stay
  abbrev Kept : ℕ → Type 0
  Kept j = (le2 w' (j * 4) ≡ le2 w (j * 4)) × (bits_of w' j ≡ bits_of w j)

  -- an entry that is copied from entry j to entry k
  pub moved : (b : Bool) (j k : ℕ) (t : Tree) → le2 w' (k * 4) ≡ le2 w (j * 4) → bits_of w' k ≡ bits_of w j
      → Entry b w p j t → Entry b w' p k t
  moved b j k t start key h =
      record {
        there = subst (λ n. Told note w' (p + n) t) (sym start) (tree_still (p + le2 w (j * 4)) t (omega arith) h.there);
        key = key ∙ h.key;
      }

  pub entries_still : (b : Bool) (k : ℕ) (l : List Tree) → ((j : ℕ) → k ≤ j → j < k + length l → Kept j)
      → Entries b w p k l → Entries b w' p k l
  entries_still b k [] s h = tt
  entries_still b k (t ∷ l) s h =
      let a = s k (omega arith) (omega arith) in
      (moved b k k t a.0 a.1 h.0, entries_still b (k + 1) l (λ j g u. s j (omega arith) (omega arith)) h.1)

-- ---- the member of entry k stands where the entry's start says
pub entry_there : {b : Bool} {w : List ℕ} {p k : ℕ} {t : Tree} → Entry b w p k t → (start : ℕ) → start ≡ le2 w (k * 4) → Told note w (p + start) t
entry_there {b} {w} {p} {k} {t} h start e = subst (λ n. Told note w (p + n) t) (sym e) h.there

-- ---- four bytes put at entry a
module _ (w x : List ℕ) (a : ℕ) (four : length x ≡ 4) (room : a * 4 + 4 ≤ length w) where
  before : (j b : ℕ) → j < a → b < 3 → le2 (put w (a * 4) x) (j * 4 + b) ≡ le2 w (j * 4 + b)
  unfolding le2
  before j b h l =
      let first = get_d_put_before w (a * 4) x (j * 4 + b) (omega arith) (omega arith) in
      let second = get_d_put_before w (a * 4) x (j * 4 + b + 1) (omega arith) (omega arith) in
      rw (first, second) refl

  past : (j b : ℕ) → a < j → le2 (put w (a * 4) x) (j * 4 + b) ≡ le2 w (j * 4 + b)
  unfolding le2
  past j b h =
      let first = get_d_put_after w (a * 4) x (j * 4 + b) (omega arith) (omega arith) in
      let second = get_d_put_after w (a * 4) x (j * 4 + b + 1) (omega arith) (omega arith) in
      rw (first, second) refl

  pub put_other : (j : ℕ) → (j ≡ a → ⊥)
      → (le2 (put w (a * 4) x) (j * 4) ≡ le2 w (j * 4)) × (bits_of (put w (a * 4) x) j ≡ bits_of w j)
  put_other j h = go (dec_lt j a)
    where
      go : Dec (j < a) → (le2 (put w (a * 4) x) (j * 4) ≡ le2 w (j * 4)) × (bits_of (put w (a * 4) x) j ≡ bits_of w j)
      go (yes l) = (rw add-zero at (before j 0 l (omega arith)), ap (λ x. x % 32768) (before j 2 l (omega arith)))
      go (no l) = by (dec_lt a j)
        where
          by : Dec (a < j) → (le2 (put w (a * 4) x) (j * 4) ≡ le2 w (j * 4)) × (bits_of (put w (a * 4) x) j ≡ bits_of w j)
          by (yes g) = (rw add-zero at (past j 0 g), ap (λ x. x % 32768) (past j 2 g))
          by (no g) = absurd (h (omega arith))

  pub put_here : (b : ℕ) → b + 2 ≤ 4 → le2 (put w (a * 4) x) (a * 4 + b) ≡ le2 x b
  put_here b h =
      sym (le2_drop (a * 4) (put w (a * 4) x) b)
      ∙ ap (λ (y : List ℕ). le2 y b) (drop_put_at w (a * 4) x (omega arith))
      ∙ le2_append x (drop (a * 4 + length x) w) b (omega arith)

  pub pending_still : (p : ℕ) → a * 4 + 4 ≤ p * 16 → drop (p * 16) (put w (a * 4) x) ≡ drop (p * 16) w
  pending_still p h = drop_put w (a * 4) x (p * 16) (omega arith) (omega arith)

-- ---- an entry that is written
entry_length : (a b : ℕ) → length (entry_of a b) ≡ 4
unfolding entry_of bytes
entry_length a c = refl

entry_start : (a b : ℕ) → a < 65536 → le2 (entry_of a b) 0 ≡ a
unfolding entry_of bytes le2
entry_start a b h = le_bytes 2 a h

entry_key : (a b : ℕ) → b < 65536 → le2 (entry_of a b) 2 ≡ b
unfolding entry_of bytes le2
entry_key a b h = le_bytes 2 b h

short_lt : (key : ℕ) → short_key key < 32768
unfolding short_key
short_lt key = omega arith

-- ---- entries in a row
pub entries_snoc : (b : Bool) (w : List ℕ) (p k n : ℕ) (l : List Tree) (t : Tree) → n ≡ k + length l → Entries b w p k l → Entry b w p n t
    → Entries b w p k (l ++ (t ∷ []))
entries_snoc b w p k n [] t e h g = (subst (λ n. Entry b w p n t) (e ∙ omega arith) g, tt)
entries_snoc b w p k n (u ∷ l) t e h g = (h.0, entries_snoc b w p (k + 1) n l t (e ∙ omega arith) h.1 g)

entries_last : (b : Bool) (w : List ℕ) (p k n : ℕ) (a : Tree) (l : List Tree) → n ≡ k + length l → Entries b w p k (a ∷ l)
    → Entry b w p n (last_of a l) × Entries b w p k (init_of a l)
unfolding last_of init_of
entries_last b w p k n a [] e h = (subst (λ n. Entry b w p n a) (omega arith) h.0, tt)
entries_last b w p k n a (u ∷ l) e h =
    let r = entries_last b w p (k + 1) n u l (e ∙ omega arith) h.1 in
    (r.0, (h.0, r.1))

init_many : (a : Tree) (l : List Tree) → length (init_of a l) ≡ length l
unfolding init_of
init_many a [] = refl
init_many a (b ∷ l) = ap suc (init_many b l)

-- ---- the last entry, n, moves into the place of entry j
module _ (w w' : List ℕ) (p j n : ℕ) (x : Tree) (l : List Tree) (many : n ≡ j + length l) (low : n * 4 + 4 ≤ p * 16) (within : p * 16 ≤ length w)
    (swap : w' ≡ put w (j * 4) (part w (n * 4) 4)) where
  four : length (part w (n * 4) 4) ≡ 4
  four = length_part w (n * 4) 4 (omega arith)

  read : (b : ℕ) → b + 2 ≤ 4 → le2 (part w (n * 4) 4) b ≡ le2 w (n * 4 + b)
  unfolding part le2
  read b h =
      rw (
        get_or-take 4 (drop (n * 4) w) b 0 (omega arith),
        get_or-take 4 (drop (n * 4) w) (b + 1) 0 (omega arith),
        get_or-drop (n * 4) w b 0,
        get_or-drop (n * 4) w (b + 1) 0,
      )
      (ap (λ k. le (get_or w (n * 4 + b) 0 ∷ get_or w k 0 ∷ [])) (omega arith))

  pub swap_pending : drop (p * 16) w' ≡ drop (p * 16) w
  swap_pending = ap (drop (p * 16)) swap ∙ pending_still w (part w (n * 4) 4) j four (omega arith) p (omega arith)

  stays : (i : ℕ) → (i ≡ j → ⊥) → (le2 w' (i * 4) ≡ le2 w (i * 4)) × (bits_of w' i ≡ bits_of w i)
  stays i h = rw swap (put_other w (part w (n * 4) 4) j four (omega arith) i h)

  arrives : (b : ℕ) → b + 2 ≤ 4 → le2 w' (j * 4 + b) ≡ le2 w (n * 4 + b)
  arrives b h = ap (λ (y : List ℕ). le2 y (j * 4 + b)) swap ∙ put_here w (part w (n * 4) 4) j four (omega arith) b h ∙ read b h

  pub swap_before : (b : Bool) (k : ℕ) (m : List Tree) → k + length m ≤ j → Entries b w p k m → Entries b w' p k m
  swap_before b k m h e = entries_still w w' p swap_pending b k m (λ i g u. stays i (λ q. omega arith)) e

  pub swap_after : (b : Bool) → Entries b w p j (x ∷ l) → Entries b w' p j (last_first l)
  unfolding last_first
  swap_after b e = go l many e.1
    where
      go : (l : List Tree) → n ≡ j + length l → Entries b w p (j + 1) l → Entries b w' p j (last_first l)
      go [] m h = tt
      go (a ∷ l) m h =
          let r = entries_last b w p (j + 1) n a l (m ∙ omega arith) h in
          let start = rw (add-zero (j * 4), add-zero (n * 4)) at (arrives 0 (omega arith)) in (
            moved w w' p swap_pending b n j (last_of a l) start (ap (λ x. x % 32768) (arrives 2 (omega arith))) r.0,
            entries_still w w' p swap_pending b (j + 1) (init_of a l) (λ i g u. stays i (λ q. omega arith)) r.1,
          )

-- ---- the entries that are filled in, one after the other
pub record Listing (b : Bool) (w₀ w : List ℕ) (p n : ℕ) (f : Forest) (at k : ℕ) : Type 0 where
  pub done : List Tree
  pub others : Forest
  pub whole : to_list f ≡ done ++ to_list others
  pub entries : Entries b w p 0 done
  pub many : length done ≡ k
  pub stand : ToldTrees note w at (n - k) others
  pub pending : drop (p * 16) w ≡ drop (p * 16) w₀
  pub place : at + recordses others ≡ p + 1 + recordses f
  pub past : at ≡ p + (1 + recordses (of_list done))

pub listing_begins : {b : Bool} {w : List ℕ} {p : ℕ} (n : ℕ) {f : Forest} → Listable w p f → n ≡ count_in w p → Listing b w w p n f (p + 1) 0
unfolding of_list records
listing_begins {b} {w} {p} n {f} h e =
    record {
      done = [];
      others = f;
      whole = refl;
      entries = tt;
      many = refl;
      stand = subst (λ n. ToldTrees note w (p + 1) n f) (sym e ∙ omega arith) h.stand;
      pending = refl;
      place = refl;
      past = omega arith;
    }

module _ {b : Bool} {w₀ w : List ℕ} {p n : ℕ} {f : Forest} {at k : ℕ} (v : Listing b w₀ w p n f at k) (l : k < n) where
  abbrev pub head : FirstOf note w at (n - k) v.others
  head = first_of v.others v.stand (omega arith)

  -- it is no heavier than all of them
  pub head_light : weights f < 65536 → weight head.tree < 65536
  unfolding weight
  head_light light =
      omega (
        arith,
        light,
        weights_list f,
        ap (total weight) v.whole,
        total_append weight v.done (to_list v.others),
        weights_list v.others,
        ap weights head.whole,
      )

  pub listing_more : (w' : List ℕ) (next c : ℕ) → next ≡ at + records head.tree → c ≡ short_key (part_key b head.tree) → recordses f < 65536
      → n * 4 ≤ p * 16 → p * 16 ≤ length w → w' ≡ put w (k * 4) (entry_of (at - p) c) → Listing b w₀ w' p n f next (k + 1)
  unfolding records to_list
  listing_more w' next c e key_is few low within q =
      let t = head.tree in
      let a = at - p in
      let x = entry_of a c in
      let sizes = ap recordses head.whole in
      let still : drop (p * 16) w' ≡ drop (p * 16) w = ap (drop (p * 16)) q ∙ pending_still w x k (entry_length a c) (omega arith) p (omega arith) in
      let start : le2 w' (k * 4) ≡ a =
      rw add-zero at
      (ap (λ (y : List ℕ). le2 y (k * 4 + 0)) q
      ∙ put_here w x k (entry_length a c) (omega arith) 0 (omega arith)
      ∙ entry_start a c (omega (arith, v.place, v.past, records_pos t))) in
      let key : le2 w' (k * 4 + 2) ≡ c =
      ap (λ (y : List ℕ). le2 y (k * 4 + 2)) q
      ∙ put_here w x k (entry_length a c) (omega arith) 2 (omega arith)
      ∙ entry_key a c (omega (arith, key_is, short_lt (part_key b t))) in
      let here : p + le2 w' (k * 4) ≡ at = omega (arith, v.past) in
      let kept = entries_still w w' p still b 0 v.done
      (λ j g u. rw q (put_other w x k (entry_length a c) (omega arith) j (λ m. omega (arith, v.many)))) v.entries in
      let entry : Entry b w' p k t = record {
        there = subst (λ i. Told note w' i t) (sym here) (tree_still w w' p still at t (omega (arith, v.past)) head.there);
        key = omega (arith, key, key_is, short_lt (part_key b t));
      } in
      record {
        done = v.done ++ (t ∷ []);
        others = head.others;
        whole = v.whole ∙ ap (λ g. v.done ++ to_list g) head.whole ∙ sym (append_assoc v.done (t ∷ []) (to_list head.others));
        entries = entries_snoc b w' p 0 k v.done t (sym v.many ∙ omega arith) kept entry;
        many = length-append v.done (t ∷ []) ∙ omega (arith, v.many);
        stand =
            subst (λ i. ToldTrees note w' i (n - (k + 1)) head.others) (sym e)
            (subst (λ m. ToldTrees note w' (at + records t) m head.others) (omega arith)
            (trees_still w w' p still (at + records t) (n - k - 1) head.others (omega (arith, v.past)) head.after));
        pending = still ∙ v.pending;
        place = omega (arith, v.place);
        past = omega (arith, v.past, recordses_snoc v.done t);
      }

-- all are filled in
pub listing_ends : {b : Bool} {w₀ w : List ℕ} {p n : ℕ} {f : Forest} {at k : ℕ} → Listing b w₀ w p n f at k → n ≤ k → k ≤ n → n ≡ count_in w₀ p
    → n * 4 ≤ p * 16 → p * 16 ≤ length w → ListedIs b w₀ w p f
unfolding to_list
listing_ends {b} {w₀} {w} {p} {n} {f} {at} {k} v h g e low within =
    let none : v.others ≡ nil = none_of v.others v.stand (omega arith) in
    let all : to_list f ≡ v.done = v.whole ∙ ap (λ g. v.done ++ to_list g) none ∙ append-nil v.done in
    record {
      listed = record {
        entries = subst (Entries b w p 0) (sym all) v.entries;
        many = ap length all ∙ v.many ∙ omega arith;
        low = omega arith;
        within = within;
      };
      pending = v.pending;
    }

-- What a shared formula is refused for, in the request's words, without the functions that find it.
use Rattle.std.specs.Prelude.{ℕ, ◌+◌, ◌*◌, ◌<◌, ◌≡◌, cond, List, length, get_or, eqb}
use Rattle.std.proofs.Math.Option.{some}
use Rattle.paper.specs.Tree.{Tree, weight}
use Rattle.paper.specs.Answers.{Lent}
use Rattle.paper.specs.Refusals.{Faulty, Under, rank}
use Rattle.paper_shared.specs.Shared.{Circle}
use Rattle.paper_shared.specs.Answers.{Handed, max_definitions, beginning, table_at, tree_in, definitions_of, opened_of}

-- 8: "the two lists differ in length or the lengths miss the bytes given"
pub data Misses (h : Handed) : Type 0 where
  lists_differ : ¬ (length h.lengths ≡ 8 * length h.symbols) → Misses h
  lengths_miss : ¬ (beginning h.lengths (length h.symbols) ≡ length h.definitions) → Misses h

-- 16: "over 16 definitions or a symbol defined twice"
pub data Crowded (symbols : List ℕ) : Type 0 where
  over_sixteen : max_definitions < length symbols → Crowded symbols
  defined_twice : (i j : ℕ) → i < j → j < length symbols → get_or symbols i 0 ≡ get_or symbols j 0 → Crowded symbols

-- the refusals: number, "given exactly when", place; each by itself, whatever the others are. `Short w` says that a lent area is too
-- short for an opened table of weight w
pub data AppliesToOpening (lim : ℕ) (h : Handed) (Short : ℕ → Type 0) : ℕ → ℕ → Type 0 where
  refusal_19 : ¬ (lim ≡ 3072) → ¬ (lim ≡ 16384) → AppliesToOpening lim h Short 19 0
  refusal_8 : Misses h → AppliesToOpening lim h Short 8 0
  of_formula : {k p : ℕ} → Faulty lim h.table k p → AppliesToOpening lim h Short k p
  refusal_15 : {i k p : ℕ} → i < length h.symbols → Faulty lim (table_at h.lengths h.definitions i) k p → AppliesToOpening lim h Short 15 0
  refusal_16 : Crowded h.symbols → AppliesToOpening lim h Short 16 0
  refusal_17 : Circle (definitions_of h) (tree_in h.table) → AppliesToOpening lim h Short 17 0
  refusal_18 : {v : Tree} → opened_of h ≡ some v → lim < weight v → AppliesToOpening lim h Short 18 0
  refusal_6 : {v : Tree} → opened_of h ≡ some v → Short (weight v) → AppliesToOpening lim h Short 6 0

-- 6 of the call that opens: "the area for the opened table is under 16 x W"
pub data NoRoom (area : List ℕ) (w : ℕ) : Type 0 where
  area_under : length area < 16 * w → NoRoom area w

-- 6 of the call that opens and simplifies, which is lent areas besides
pub data Shorter (lim : ℕ) (area : List ℕ) (l : Lent) (w : ℕ) : Type 0 where
  the_area : NoRoom area w → Shorter lim area l w
  the_others : Under lim w l → Shorter lim area l w

-- the same refusals with 9, "an unknown edition", for the call that opens and simplifies
pub data AppliesToShared (lim ed : ℕ) (h : Handed) (area : List ℕ) (l : Lent) : ℕ → ℕ → Type 0 where
  of_opening : {k p : ℕ} → AppliesToOpening lim h (Shorter lim area l) k p → AppliesToShared lim ed h area l k p
  refusal_9 : ¬ (ed ≡ 1) → ¬ (ed ≡ 2) → AppliesToShared lim ed h area l 9 0

-- the order is that of the other calls, 19, 9 and 8 "before 1", but that 15 to 18 come "after 5 and before 6, in this order"
unfoldable pub turn_of : ℕ → ℕ
turn_of k = cond (eqb k 6) (rank 18 + 1) (rank k)

-- of the refusals that apply, k at p is the one whose turn comes first
pub record Foremost (Apply : ℕ → ℕ → Type 0) (k p : ℕ) : Type 0 where
  pub given : Apply k p
  pub foremost : (j q : ℕ) → turn_of j < turn_of k → ¬ Apply j q

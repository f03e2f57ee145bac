-- "What is refused, and in which order": refusals 1 to 5 of a table, 6 and 9 of the simplifier, and 19, in the papers' words, without
-- the functions that find them.
use Rattle.std.specs.Prelude.{ℕ, suc, ◌+◌, ◌*◌, ◌<◌, ◌≤◌, ◌≡◌, cond, List, ◌⊎◌, length, get_or, eqb, pos, ◌≤ℤ◌}
use Rattle.paper.specs.Limits.{max_bytes, work_bytes}
use Rattle.paper.specs.Bytes.{signed}
use Rattle.paper.specs.Record.{kind, count_in, bits, may_be, Flaw, sound, bad_kind, bad_byte, bad_count, arity}
use Rattle.paper.specs.Verdict.{Verdict, records_in, table_weight}
use Rattle.paper.specs.Answers.{Lent}

-- "first such": P holds at p and nowhere before it
abbrev pub First : (ℕ → Type 0) → ℕ → Type 0
First P p = P p × ((j : ℕ) → j < p → ¬ P j)

-- 1: "length is zero, no multiple of 16, or over 49,152 bytes"
pub data BadLength (lim : ℕ) (s : List ℕ) : Type 0 where
  is_zero : length s ≡ 0 → BadLength lim s
  no_multiple : ((m : ℕ) → ¬ (length s ≡ 16 * m)) → BadLength lim s
  is_over : max_bytes lim < length s → BadLength lim s

-- 2: record i has "a kind over 4, a byte other than zero that must be zero, or a sum or product count under 2"
pub data Flawed (s : List ℕ) (i : ℕ) : Type 0 where
  kind_over : 4 < kind s i → Flawed s i
  byte_other : (j : ℕ) → j < 16 → ¬ (get_or s (i * 16 + j) 0 ≡ 0) → may_be (kind s i) j ≡ 0 → Flawed s i
  count_under : (kind s i ≡ 2) ⊎ (kind s i ≡ 3) → count_in s i < 2 → Flawed s i

-- byte j of record i is "a byte other than zero that must be zero"
abbrev pub Stray : List ℕ → ℕ → ℕ → Type 0
Stray s i j = (j < 16) × (¬ (get_or s (i * 16 + j) 0 ≡ 0)) × (may_be (kind s i) j ≡ 0)

-- what is wrong with record i: "kind, a byte that must be zero (the lowest), or the count, in that order when several are"
pub data Names (s : List ℕ) (i : ℕ) : Flaw → Type 0 where
  names_kind : 4 < kind s i → Names s i bad_kind
  names_byte : {j : ℕ} → kind s i ≤ 4 → First (Stray s i) j → Names s i (bad_byte j)
  names_count : kind s i ≤ 4 → ((j : ℕ) → ¬ Stray s i j) → (kind s i ≡ 2) ⊎ (kind s i ≡ 3) → count_in s i < 2 → Names s i bad_count

-- after 2 a refusal says what is wrong with the record at its place, after any other number nothing
abbrev pub Tells : List ℕ → Verdict → Type 0
Tells s v = (v.number ≡ 2 → Names s v.place v.flaw) × (¬ (v.number ≡ 2) → v.flaw ≡ sound)

-- of n records, those from i up to e are k trees one after the other: no tree takes no record; a tree is its first record and then
-- as many trees as that record has members
pub data Spans (s : List ℕ) (n : ℕ) : ℕ → ℕ → ℕ → Type 0 where
  no_tree : {i : ℕ} → Spans s n i 0 i
  one_tree : {i k m e : ℕ} → i < n → Spans s n (i + 1) (arity s i) m → Spans s n m k e → Spans s n i (suc k) e

-- 4: "the records end before the tree, or the tree before the records", with the place
pub data BadShape (s : List ℕ) (n p : ℕ) : Type 0 where
  records_end : ((e : ℕ) → ¬ Spans s n 0 1 e) → p ≡ n → BadShape s n p
  tree_ends : Spans s n 0 1 p → p < n → BadShape s n p

-- record e is an exponent: it comes right after the base of a power
pub data Exponent (s : List ℕ) (n e : ℕ) : Type 0 where
  after_base : (i : ℕ) → i < n → kind s i ≡ 4 → Spans s n (i + 1) 1 e → e < n → Exponent s n e

-- "integer record of at least 1"
abbrev pub AtLeastOne : List ℕ → ℕ → Type 0
AtLeastOne s e = (kind s e ≡ 0) × (pos 1 ≤ℤ signed (bits s e))

-- the table of refusals: number, "given exactly when", place; each by itself, whatever the others are
pub data Faulty (lim : ℕ) (s : List ℕ) : ℕ → ℕ → Type 0 where
  refusal_1 : BadLength lim s → Faulty lim s 1 0
  refusal_2 : {p : ℕ} → First (λ i. (i < records_in s) × Flawed s i) p → Faulty lim s 2 p
  refusal_3 : lim < table_weight s → Faulty lim s 3 0
  refusal_4 : {p : ℕ} → BadShape s (records_in s) p → Faulty lim s 4 p
  refusal_5 : {p : ℕ} → First (λ e. Exponent s (records_in s) e × ¬ AtLeastOne s e) p → Faulty lim s 5 p

-- the same with 19: "another limit"
pub data Applies (lim : ℕ) (s : List ℕ) : ℕ → ℕ → Type 0 where
  of_records : {k p : ℕ} → Faulty lim s k p → Applies lim s k p
  refusal_19 : ¬ (lim ≡ 3072) → ¬ (lim ≡ 16384) → Applies lim s 19 0

-- 6: "`out` under 16 x W bytes, `steps` under W, or `work` under 65,536"
pub data Under (lim w : ℕ) (l : Lent) : Type 0 where
  out_under : length l.out < 16 * w → Under lim w l
  steps_under : length l.steps < w → Under lim w l
  work_under : length l.work < work_bytes lim → Under lim w l

-- the same table of refusals with 6, for the simplifier, which is lent areas besides, and with 9, "an unknown edition"
pub data AppliesToCall (lim ed : ℕ) (s : List ℕ) (l : Lent) : ℕ → ℕ → Type 0 where
  of_table : {k p : ℕ} → Applies lim s k p → AppliesToCall lim ed s l k p
  refusal_6 : Under lim (table_weight s) l → AppliesToCall lim ed s l 6 0
  refusal_9 : ¬ (ed ≡ 1) → ¬ (ed ≡ 2) → AppliesToCall lim ed s l 9 0

-- the order of the refusals: "The lowest number wins", but 19 comes "before all others" and 9 "before 8 and 1"
unfoldable pub rank : ℕ → ℕ
rank k = cond (eqb k 19) 0 (cond (eqb k 9) 1 (cond (eqb k 8) 2 (k + 2)))

-- of the refusals that apply, k at p is the first in that order
pub record Lowest (Apply : ℕ → ℕ → Type 0) (k p : ℕ) : Type 0 where
  pub given : Apply k p
  pub lowest : (j q : ℕ) → rank j < rank k → ¬ Apply j q

-- "a machine without this release refuses a marked record with 2": the judgement of a table by that machine. It differs in the table of
-- bytes alone (`may_table_before`): what it holds to be wrong with a record, and the first record with which something is; where nothing is,
-- it goes on to 3, 4 and 5 as every machine does.
use Rattle.std.specs.Prelude.{ℕ, zero, suc, ◌+◌, ◌*◌, ◌<◌, ◌≡◌, true, false, cond, ◌&&◌, ◌||◌, not, List, [], ◌⊎◌, eqb, ltb, length, get_or}
use Rattle.paper.specs.Limits.{is_limit}
use Rattle.paper.specs.Record.{kind, count_in, mark_in, may_table_before, is_node, Flaw, sound, bad_kind, bad_byte, bad_count, flaw, is_flawed}
use Rattle.paper.specs.Verdict.{Verdict, refused, flawed, records_in, bad_length, judged_table}

unfoldable pub may_be_before : ℕ → ℕ → ℕ
may_be_before k j = get_or (get_or may_table_before k []) j 0

unfoldable pub stray_before : List ℕ → ℕ → ℕ → ℕ → ℕ → ℕ
stray_before s i k j zero = j
stray_before s i k j (suc n) =
    cond (eqb (get_or s (i * 16 + j) 0) 0 || not (eqb (may_be_before k j) 0)) (stray_before s i k (j + 1) n) j

unfoldable pub flaw_before : List ℕ → ℕ → Flaw
flaw_before s i =
    cond (ltb 4 (kind s i)) bad_kind
    (cond (ltb (stray_before s i (kind s i) 0 16) 16) (bad_byte (stray_before s i (kind s i) 0 16))
    (cond (is_node (kind s i) && ltb (count_in s i) 2) bad_count
    sound))

unfoldable pub first_flawed_before : List ℕ → ℕ → ℕ → ℕ
first_flawed_before s i zero = i
first_flawed_before s i (suc n) = cond (is_flawed (flaw_before s i)) i (first_flawed_before s (i + 1) n)

unfoldable pub judged_before : ℕ → List ℕ → Verdict
judged_before lim s =
    let p = first_flawed_before s 0 (records_in s) in
    cond (bad_length lim (length s)) (refused 1 0) (cond (ltb p (records_in s)) (flawed p (flaw_before s p)) (judged_table lim s))

unfoldable pub verdict_before : ℕ → List ℕ → Verdict
verdict_before lim s = cond (is_limit lim) (judged_before lim s) (refused 19 0)

abbrev pub MarkedOrFlawed : List ℕ → ℕ → Type 0
MarkedOrFlawed s i = ¬ (mark_in s i ≡ 0) ⊎ (is_flawed (flaw s i) ≡ true)

abbrev pub NoneBefore : List ℕ → ℕ → Type 0
NoneBefore s p = (i : ℕ) → i < p → (mark_in s i ≡ 0) × (is_flawed (flaw s i) ≡ false)

-- it refuses the table with 2, at the first record that is marked or flawed
pub record RefusedBefore (lim : ℕ) (s : List ℕ) : Type 0 where
  pub place : ℕ
  pub inside : place < records_in s
  pub by_two : verdict_before lim s ≡ flawed place (flaw_before s place)
  pub marked_or_flawed : MarkedOrFlawed s place
  pub first : NoneBefore s place

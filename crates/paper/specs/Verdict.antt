-- "What is refused, and in which order": refusals 1 to 5 of a table, and 19 of a limit.
use Rattle.std.specs.Prelude.{ℕ, zero, suc, ◌+◌, ◌-◌, ◌/◌, ◌%◌, ◌^◌, min, Bool, cond, ◌&&◌, ◌||◌, not, List, length, eqb, ltb}
use Rattle.paper.specs.Limits.{is_limit, max_bytes}
use Rattle.paper.specs.Record.{kind, bits, Flaw, sound, flaw, is_flawed, arity, weight_from}

-- a refusal's number and place, and after 2 what is wrong with the record; number 0, place 0 where there is none
pub record Verdict : Type 0 where
  pub number : ℕ
  pub place : ℕ
  pub flaw : Flaw

abbrev pub told : ℕ → ℕ → Flaw → Verdict
told k p f = record { number = k; place = p; flaw = f }

abbrev pub refused : ℕ → ℕ → Verdict
refused k p = told k p sound

-- "The judgement of a single record should name what is wrong"
abbrev pub flawed : ℕ → Flaw → Verdict
flawed p f = told 2 p f

abbrev pub accepted : Verdict
accepted = refused 0 0

unfoldable pub is_accepted : Verdict → Bool
is_accepted v = eqb v.number 0

-- the number of records
unfoldable pub records_in : List ℕ → ℕ
records_in s = length s / 16

-- 1: "length is zero, no multiple of 16, or over 49,152 bytes", which is 16 times the limit
unfoldable pub bad_length : ℕ → ℕ → Bool
bad_length lim n = eqb n 0 || not (eqb (n % 16) 0) || ltb (max_bytes lim) n

-- 2: the first flawed record of the n from record i on; i + n where there is none
unfoldable pub first_flawed : List ℕ → ℕ → ℕ → ℕ
first_flawed s i zero = i
first_flawed s i (suc n) = cond (is_flawed (flaw s i)) i (first_flawed s (i + 1) n)

-- 3: W, the weight of the table
unfoldable pub table_weight : List ℕ → ℕ
table_weight s = weight_from s 0 (records_in s)

-- 4: the record after `owed` trees that stand one after the other from record i on, where f of the n records are left;
-- n + 1 where the records end before the trees. Each record is one of the trees owed, and owes its members.
unfoldable pub skip : List ℕ → ℕ → ℕ → ℕ → ℕ → ℕ
skip s n zero owed i = cond (eqb owed 0) i (n + 1)
skip s n (suc f) owed i = cond (eqb owed 0) i (skip s n f (owed - 1 + arity s i) (i + 1))

-- the record after the tree that begins at record i
unfoldable pub tree_end : List ℕ → ℕ → ℕ → ℕ
tree_end s n i = skip s n (n - i) 1 i

-- 5: record e is an integer record of at least 1
unfoldable pub is_positive : List ℕ → ℕ → Bool
is_positive s e = eqb (kind s e) 0 && ltb 0 (bits s e) && ltb (bits s e) (2 ^ 63)

-- where record i is a power whose exponent, the record after its base, is no integer record of at least 1: that record; else n
unfoldable pub bad_exponent : List ℕ → ℕ → ℕ → ℕ
bad_exponent s n i =
    cond (eqb (kind s i) 4)
    (cond (ltb (tree_end s n (i + 1)) n && not (is_positive s (tree_end s n (i + 1)))) (tree_end s n (i + 1)) n)
    n

-- the first of these of the f records from i on; n where there is none
unfoldable pub first_bad_exponent : List ℕ → ℕ → ℕ → ℕ → ℕ
first_bad_exponent s n i zero = n
first_bad_exponent s n i (suc f) = min (bad_exponent s n i) (first_bad_exponent s n (i + 1) f)

-- 2 to 5 of a table of n records: "The lowest number wins."
unfoldable pub judge_records : ℕ → List ℕ → ℕ → Verdict
judge_records lim s n =
    cond (ltb (first_flawed s 0 n) n) (flawed (first_flawed s 0 n) (flaw s (first_flawed s 0 n)))
    (cond (ltb lim (weight_from s 0 n)) (refused 3 0)
    (cond (not (eqb (tree_end s n 0) n)) (refused 4 (min (tree_end s n 0) n))
    (cond (ltb (first_bad_exponent s n 0 n) n) (refused 5 (first_bad_exponent s n 0 n))
    accepted)))

-- 1 to 5 of any bytes
unfoldable pub judged_table : ℕ → List ℕ → Verdict
judged_table lim s = cond (bad_length lim (length s)) (refused 1 0) (judge_records lim s (records_in s))

-- the checker's answer on any bytes: "another limit is 19, before all others"
unfoldable pub verdict : ℕ → List ℕ → Verdict
verdict lim s = cond (is_limit lim) (judged_table lim s) (refused 19 0)

-- A table is accepted exactly when the limit is one and it passes the checker's five tests: its length is good, every record is fine, it
-- is not too heavy, and the tree ends with the records. The checker is a chain of tests that answers at the first one that holds.
use Prim.Native.Nat.{ℕ, ◌%◌, ◌<◌, ◌≤◌, min}
use mathlib.Core.Path.{◌≡◌, refl, ap}
use mathlib.Core.Bool.{Bool, true, false, cond, ◌||◌, not}
use mathlib.Core.List.{List}
use native.Mathlib.Nat.{le_antisymm, le_trans, pos_of_ne-zero, ne_of_gt}
use native.Mathlib.Omega.{arith}
use borrow.Author.Tests.{eq-eqb, ne_eqb, le-ltb, eqb-true, eqb-false, ltb-false, not-false}
use lib.Dec.{eqb, ltb, lit<}
use lib.ListN.{length}
use Rattle.paper.specs.Limits.{is_limit, max_bytes}
use Rattle.paper.specs.Record.{sound, flaw, is_flawed, weight_from}
use Rattle.paper.specs.Verdict.{Verdict, refused, flawed, accepted, records_in, bad_length, first_flawed, table_weight, tree_end}
use Rattle.paper.specs.Verdict.{bad_exponent, first_bad_exponent, judge_records, judged_table, verdict}
use Rattle.paper.proofs.Tests.{or_neither}
use Rattle.paper.proofs.FirstLaws.{All, first, first_flawed_lem, first_before, bad_exponent_le, bad_exponent_first, no_flaw, no_bad_exponent}
use Rattle.paper.proofs.RecordLaws.{sound_of}

-- the lengths that 1 lets pass
pub record GoodLength (lim m : ℕ) : Type 0 where
  pub positive : 0 < m
  pub sixteens : m % 16 ≡ 0
  pub short : m ≤ max_bytes lim

-- record j of n has no flaw, and no bad exponent belongs to it
abbrev pub Fine : List ℕ → ℕ → ℕ → Type 0
Fine s n j = (flaw s j ≡ sound) × (bad_exponent s n j ≡ n)

-- the tables that 1 to 5 let pass
pub record Passes (lim : ℕ) (s : List ℕ) : Type 0 where
  pub known : is_limit lim ≡ true
  pub long : GoodLength lim (length s)
  pub fine : All (Fine s (records_in s)) 0 (records_in s)
  pub light : table_weight s ≤ lim
  pub ends : tree_end s (records_in s) 0 ≡ records_in s

pub good_length : (lim m : ℕ) → GoodLength lim m → bad_length lim m ≡ false
unfolding bad_length
good_length lim m h = rw (ne_eqb m 0 (ne_of_gt h.positive), h.sixteens, le-ltb (max_bytes lim) m h.short)

pub length_good : (lim m : ℕ) → bad_length lim m ≡ false → GoodLength lim m
unfolding bad_length
length_good lim m h =
    let x = or_neither (eqb m 0 || not (eqb (m % 16) 0)) (ltb (max_bytes lim) m) h in
    let y = or_neither (eqb m 0) (not (eqb (m % 16) 0)) x.0 in
    record {
      positive = pos_of_ne-zero (eqb-false m 0 y.0);
      sixteens = eqb-true (m % 16) 0 (not-false (eqb (m % 16) 0) y.1);
      short = ltb-false (max_bytes lim) m x.1;
    }

pub passes_accepted : (lim : ℕ) (s : List ℕ) → Passes lim s → verdict lim s ≡ accepted
unfolding verdict judged_table judge_records table_weight
passes_accepted lim s h =
    let n = records_in s in
    let flawless : first_flawed s 0 n ≡ n = no_flaw s n (λ j a b. (h.fine j a b).0) in
    let exponents : first_bad_exponent s n 0 n ≡ n = no_bad_exponent s n (λ j a b. (h.fine j a b).1) in
    rw (
      h.known,
      good_length lim (length s) h.long,
      flawless,
      le-ltb n n (omega arith),
      le-ltb lim (weight_from s 0 n) h.light,
      h.ends,
      eq-eqb n n refl,
      exponents,
      le-ltb n n (omega arith),
    )

all_sound : (s : List ℕ) (n : ℕ) → n ≤ first_flawed s 0 n → All (λ j. flaw s j ≡ sound) 0 n
all_sound s n l j a b =
    let h : n ≤ first (λ k. is_flawed (flaw s k)) 0 n = rw (first_flawed_lem s 0 n) at l in
    sound_of (flaw s j) (first_before (λ k. is_flawed (flaw s k)) 0 n j a (omega arith))

all_exponents : (s : List ℕ) (n : ℕ) → n ≤ first_bad_exponent s n 0 n → All (λ j. bad_exponent s n j ≡ n) 0 n
all_exponents s n l j a b = le_antisymm (bad_exponent_le s n j) (le_trans l (bad_exponent_first s n 0 n j a (omega arith)))

-- one test of the chain that did not answer
passed : (b : Bool) (w v : Verdict) → 0 < w.number → cond b w v ≡ accepted → (b ≡ false) × (v ≡ accepted)
passed true w v l e = absurd (omega (arith, ap (λ (x : Verdict). x.number) e))
passed false w v l e = (refl, e)

pub accepted_passes : (lim : ℕ) (s : List ℕ) → verdict lim s ≡ accepted → Passes lim s
unfolding verdict judged_table judge_records table_weight
accepted_passes lim s h =
    let n = records_in s in
    let p0 = known_limit (is_limit lim) refl h in
    let p1 = passed (bad_length lim (length s)) (refused 1 0) _ (lit< tt) p0.1 in
    let p2 = passed (ltb (first_flawed s 0 n) n) (flawed (first_flawed s 0 n) (flaw s (first_flawed s 0 n))) _ (lit< tt) p1.1 in
    let p3 = passed (ltb lim (weight_from s 0 n)) (refused 3 0) _ (lit< tt) p2.1 in
    let p4 = passed (not (eqb (tree_end s n 0) n)) (refused 4 (min (tree_end s n 0) n)) _ (lit< tt) p3.1 in
    let p5 = passed (ltb (first_bad_exponent s n 0 n) n) (refused 5 (first_bad_exponent s n 0 n)) accepted (lit< tt) p4.1 in
    let sounds = all_sound s n (ltb-false (first_flawed s 0 n) n p2.0) in
    let exponents = all_exponents s n (ltb-false (first_bad_exponent s n 0 n) n p5.0) in
    record {
      known = p0.0;
      long = length_good lim (length s) p1.0;
      fine = λ j a b. (sounds j a b, exponents j a b);
      light = ltb-false lim (weight_from s 0 n) p3.0;
      ends = eqb-true (tree_end s n 0) n (not-false (eqb (tree_end s n 0) n) p4.0);
    }
  where
    known_limit : (b : Bool) → is_limit lim ≡ b → cond b (judged_table lim s) (refused 19 0) ≡ accepted → (is_limit lim ≡ true) ×
        (judged_table lim s ≡ accepted)
    known_limit true p e = (p, e)
    known_limit false p e = absurd (omega (arith, ap (λ (x : Verdict). x.number) e))

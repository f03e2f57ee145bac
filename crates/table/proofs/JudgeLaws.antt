-- The cases of the checker's definitions, one law for each answer of the code: what was found so far decides each test of the
-- definition before the last.
use Prim.Native.Nat.{ℕ, ◌+◌, ◌-◌, ◌*◌, ◌/◌, ◌%◌, ◌<◌, ◌≤◌, min}
use mathlib.Core.Path.{◌≡◌, refl, sym, ap, ◌∙◌}
use mathlib.Core.Bool.{true, false, not}
use mathlib.Core.List.{List}
use native.Mathlib.Decide.{dec_lt}
use native.Mathlib.Omega.{arith}
use borrow.Author.Tests.{eq-eqb, ne_eqb, lt-ltb, le-ltb}
use lib.ListN.{length}
use Rattle.std.specs.Prelude.{Option, Some, None, unwrap_or}
use Rattle.paper.specs.Limits.{is_limit, max_bytes}
use Rattle.paper.specs.Record.{flaw, is_flawed, weight_from}
use Rattle.paper.specs.Verdict.{Verdict, accepted, refused, flawed, records_in, bad_length, first_flawed, tree_end, first_bad_exponent}
use Rattle.paper.specs.Verdict.{judge_records, judged_table, verdict}
use Rattle.record.specs.declared.Flaw.{Flaw}
use Rattle.record.specs.declared.Flaw.TheVariants.{Kind, Byte, Count}
use Rattle.record.specs.Flaw.{flaw_of, found_below}
use Rattle.table.specs.Judged.{first_flaw}
use Rattle.table.proofs.StepLaws.{flawed_here, flawed_later, flawed_done}

-- refusal 19
pub limit_unknown : (lim : ℕ) (s : List ℕ) → is_limit lim ≡ false → verdict lim s ≡ refused 19 0
unfolding verdict
limit_unknown lim s e = rw e

-- refusal 1
module _ (lim : ℕ) (known : is_limit lim ≡ true) (s : List ℕ) where
  pub length_zero : length s < 1 → verdict lim s ≡ refused 1 0
  unfolding verdict judged_table bad_length
  length_zero h = rw (known, eq-eqb (length s) 0 (omega arith))

  pub length_uneven : 1 ≤ length s → 0 < length s % 16 → verdict lim s ≡ refused 1 0
  unfolding verdict judged_table bad_length
  length_uneven l h = rw (known, ne_eqb (length s) 0 (λ e. omega arith), ne_eqb (length s % 16) 0 (λ e. omega arith))

  pub length_over : 1 ≤ length s → length s % 16 ≤ 0 → max_bytes lim < length s → verdict lim s ≡ refused 1 0
  unfolding verdict judged_table bad_length
  length_over l m h = rw (known, ne_eqb (length s) 0 (λ e. omega arith), eq-eqb (length s % 16) 0 (omega arith), lt-ltb (max_bytes lim) (length s) h)

  pub length_good : 1 ≤ length s → length s % 16 ≤ 0 → length s ≤ max_bytes lim → verdict lim s ≡ judge_records lim s (records_in s)
  unfolding verdict judged_table bad_length
  length_good l m h = rw (known, ne_eqb (length s) 0 (λ e. omega arith), eq-eqb (length s % 16) 0 (omega arith), le-ltb (max_bytes lim) (length s) h) refl

module _ (s : List ℕ) where
  pub records_there : length s / 16 ≡ records_in s
  unfolding records_in
  records_there = omega arith

  pub records_within : (n : ℕ) → n ≡ records_in s → n * 16 ≤ length s
  unfolding records_in
  records_within n h = omega arith

-- refusal 2, by what is found wrong with each record
some_flawed : (f : Flaw) → is_flawed (flaw_of (Some f)) ≡ true
unfolding is_flawed
some_flawed Kind = refl
some_flawed (Byte j) = refl
some_flawed Count = refl

none_flawed : (f : Option Flaw) → ((x : Flaw) → f ≡ Some x → ⊥) → is_flawed (flaw_of f) ≡ false
unfolding is_flawed
none_flawed None h = refl
none_flawed (Some x) h = absurd (h x refl)

module _ (s : List ℕ) (n i : ℕ) where
  pub flaw_found : (f : Flaw) → i < n → flaw_of (Some f) ≡ flaw s i → first_flawed s 0 n ≡ first_flawed s i (n - i)
      → flawed i (flaw_of (Some f)) ≡ first_flaw s n
  flaw_found f h e first =
      let here = first ∙ flawed_here s n i h false (sym (ap not (sym (ap is_flawed e) ∙ some_flawed f))) refl in
      rw (here, lt-ltb i n h, e) refl

  pub flaw_passed : i < n → (f : Option Flaw) → flaw_of f ≡ flaw s i → ((x : Flaw) → f ≡ Some x → ⊥)
      → first_flawed s i (n - i) ≡ first_flawed s (i + 1) (n - (i + 1))
  flaw_passed h f e none = flawed_later s n i h true (sym (ap not (sym (ap is_flawed e) ∙ none_flawed f none))) refl

  pub no_flaw : n ≤ i → first_flawed s 0 n ≡ first_flawed s i (n - i) → accepted ≡ first_flaw s n
  no_flaw h first = let past = first ∙ flawed_done s n i h in rw (past, le-ltb i n h) refl

-- by what is told of all of them
module _ (lim : ℕ) (s : List ℕ) (n : ℕ) where
  pub unflawed : accepted ≡ first_flaw s n → n ≤ first_flawed s 0 n
  unflawed e = by (dec_lt (first_flawed s 0 n) n)
    where
      by : Dec (first_flawed s 0 n < n) → n ≤ first_flawed s 0 n
      by (no h) = omega arith
      by (yes h) = absurd (omega (arith, rw (lt-ltb (first_flawed s 0 n) n h) at (ap (λ (x : Verdict). x.number) e)))

  pub flawed_there : (v : Verdict) → 0 < v.number → v ≡ first_flaw s n → judge_records lim s n ≡ v
  unfolding judge_records
  flawed_there v some e = by (dec_lt (first_flawed s 0 n) n)
    where
      by : Dec (first_flawed s 0 n < n) → judge_records lim s n ≡ v
      by (yes h) = rw (lt-ltb (first_flawed s 0 n) n h) (sym (rw (lt-ltb (first_flawed s 0 n) n h) at e))
      by (no h) =
          let z = rw (le-ltb (first_flawed s 0 n) n (omega arith)) at (ap (λ (x : Verdict). x.number) e) in
          absurd (omega (arith, z, some))

-- where a tree ends, of n records
pub ends_at : (e n : ℕ) → unwrap_or (found_below (n + 1) e) n ≡ min e n
ends_at e n = by (dec_lt e (n + 1))
  where
    by : Dec (e < n + 1) → unwrap_or (found_below (n + 1) e) n ≡ min e n
    by (yes h) = rw (lt-ltb e (n + 1) h) (omega arith)
    by (no h) = rw (le-ltb e (n + 1) (omega arith)) (omega arith)

-- refusals 3 to 5 of n records without a flaw
module _ (lim : ℕ) (s : List ℕ) (n : ℕ) (sound : n ≤ first_flawed s 0 n) (w : ℕ) (weight : w ≡ weight_from s 0 n) where
  pub heavy : lim < w → judge_records lim s n ≡ refused 3 0
  unfolding judge_records
  heavy h = rw (le-ltb (first_flawed s 0 n) n sound, ← weight, lt-ltb lim w h)

  module _ (light : w ≤ lim) where
    pub shapeless : (tree_end s n 0 ≡ n → ⊥) → judge_records lim s n ≡ refused 4 (min (tree_end s n 0) n)
    unfolding judge_records
    shapeless h = rw (le-ltb (first_flawed s 0 n) n sound, ← weight, le-ltb lim w light, ne_eqb (tree_end s n 0) n h)

    module _ (end : tree_end s n 0 ≡ n) where
      pub exponent : first_bad_exponent s n 0 n < n → judge_records lim s n ≡ refused 5 (first_bad_exponent s n 0 n)
      unfolding judge_records
      exponent h =
          rw (le-ltb (first_flawed s 0 n) n sound, ← weight, le-ltb lim w light, end, eq-eqb n n refl, lt-ltb (first_bad_exponent s n 0 n) n h)

      pub fine : n ≤ first_bad_exponent s n 0 n → judge_records lim s n ≡ accepted
      unfolding judge_records
      fine h =
          rw (le-ltb (first_flawed s 0 n) n sound, ← weight, le-ltb lim w light, end, eq-eqb n n refl, le-ltb (first_bad_exponent s n 0 n) n h)

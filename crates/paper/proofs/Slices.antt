-- The answer slice of the calls from C: each call is the same two definitions over its numbers, and there the test of the length
-- decides.
use Prim.Native.Nat.{ℕ, ◌*◌}
use mathlib.Core.Path.{◌≡◌, refl}
use mathlib.Core.List.{List, [], ◌∷◌}
use native.Mathlib.Omega.{arith}
use lib.ListN.{length, length-append}
use borrow.Author.Tests.{le-ltb, lt-ltb}
use Rattle.paper.specs.Calls.{verdict_numbers, measured_numbers, compared_numbers, answer_numbers, is_too_short, returned, answered}
use Rattle.paper.specs.Calls.{check_returns, check_answers, weight_returns, weight_answers, value_returns, value_answers}
use Rattle.paper.specs.Calls.{equal_returns, equal_answers, simplify_returns, simplify_answers, simplify_leaves}
use Rattle.paper.specs.Record.{Flaw, sound, bad_kind, bad_byte, bad_count, flaw_numbers}
use Rattle.paper.specs.Verdict.{Verdict, verdict}
use Rattle.paper.specs.Answers.{Measured, weighed, valued, Compared, compared, Answer, simplified}
use Rattle.paper.specs.Slices.{check_bytes, measure_bytes, equal_bytes, simplify_bytes, TellsIn, Slices}

pub tells_in : (n number : ℕ) (ns : List ℕ) → n ≡ 8 * length ns → TellsIn n number ns (returned ns number) (answered ns)
unfolding returned answered is_too_short
tells_in n number ns q slice = (
  λ h. let e = lt-ltb (length slice) (8 * length ns) (omega arith) in (rw e refl, rw e refl),
  λ h. let e = le-ltb (length slice) (8 * length ns) (omega arith) in (rw e refl, rw (e, q) refl),
)

-- how many numbers an answer has: the last two say what is wrong with the record
flaw_count : (f : Flaw) → length (flaw_numbers f) ≡ 2
unfolding flaw_numbers
flaw_count sound = refl
flaw_count bad_kind = refl
flaw_count (bad_byte j) = refl
flaw_count bad_count = refl

pub verdict_count : (v : Verdict) → length (verdict_numbers v) ≡ 4
unfolding verdict_numbers
verdict_count v = omega (arith, flaw_count v.flaw)

pub measured_count : (m : Measured) → length (measured_numbers m) ≡ 5
unfolding measured_numbers
measured_count m = omega (arith, flaw_count m.flaw)

pub compared_count : (c : Compared) → length (compared_numbers c) ≡ 6
unfolding compared_numbers
compared_count c = omega (arith, flaw_count c.flaw)

pub answer_count : (a : Answer) → length (answer_numbers a) ≡ 10
unfolding answer_numbers
answer_count a = omega (arith, flaw_count a.flaw, length-append (flaw_numbers a.flaw) (a.tries ∷ []))

pub slices : Slices
unfolding
    check_returns check_answers weight_returns weight_answers value_returns
    value_answers equal_returns equal_answers simplify_returns simplify_answers simplify_leaves is_too_short
slices = record {
  check = λ lim s. tells_in check_bytes _ _ (omega (arith, verdict_count (verdict lim s)));
  weight = λ lim s. tells_in measure_bytes _ _ (omega (arith, measured_count (weighed lim s)));
  value = λ lim s regs. tells_in measure_bytes _ _ (omega (arith, measured_count (valued lim s regs)));
  equal = λ lim s t. tells_in equal_bytes _ _ (omega (arith, compared_count (compared lim s t)));
  simplify = λ lim ed s l. tells_in simplify_bytes _ _ (omega (arith, answer_count (simplified lim ed s l).answer));
  areas = λ lim ed s l slice.
      let ns = answer_numbers (simplified lim ed s l).answer in
      let q = answer_count (simplified lim ed s l).answer in
      (λ h. rw (lt-ltb (length slice) (8 * length ns) (omega arith)) refl, λ h. rw (le-ltb (length slice) (8 * length ns) (omega arith)) refl);
}

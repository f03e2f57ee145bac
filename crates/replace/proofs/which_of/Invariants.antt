-- The array has the places among the symbols from i on.
use Rattle.std.proofs.Common.{◌≡◌, ℕ, ◌-◌, ◌<◌, length, get_or}
use Rattle.replace.specs.Place.{place_from}
use Rattle.replace.proofs.which_of.Given as goal

abbrev pub invariant-loop-i : goal.invariant-loop-i
invariant-loop-i l = record {
  long : length l.which ≡ 256;
  places : (x : ℕ) → x < 256 → get_or l.which x 0 ≡ place_from l.symbols x l.i (length l.symbols - l.i);
}

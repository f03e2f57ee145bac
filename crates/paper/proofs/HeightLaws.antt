-- A well-formed tree is at most half as high as its records are many: each node that stands inside another has a fellow there, a second member or
-- the exponent, and both are records. By induction on the tree; of members that stand side by side the tallest pays for the height and each
-- other one for itself.
use Prim.Native.Nat.{◌+◌, ◌*◌, ◌≤◌}
use native.Mathlib.Omega.{arith}
use Rattle.paper.specs.Tree.{Tree, Forest, integer, symbol, sum, product, power, nil, cons, count, records, recordses, weight}
use Rattle.paper.specs.WellFormed.{WF, WFs}
use Rattle.paper.specs.Height.{height, tallest}
use Rattle.paper.proofs.EncodeLaws.{records_weight}

mutual
  unfolding height records count

  pub height_records : (t : Tree) → WF t → 2 * height t + 1 ≤ records t
  height_records (integer μ z) w = omega arith
  height_records (symbol μ s) w = omega arith
  height_records (sum μ f) w = omega (arith, tallest_records f w.1, w.0)
  height_records (product μ f) w = omega (arith, tallest_records f w.1, w.0)
  height_records (power μ b ξ e) w = omega (arith, height_records b w.0)

  pub tallest_records : (f : Forest) → WFs f → 2 * tallest f + count f ≤ recordses f
  tallest_records nil w = omega arith
  tallest_records (cons t f) w = omega (arith, height_records t w.0, tallest_records f w.1)

pub height_weight : (t : Tree) → WF t → 2 * height t + 1 ≤ weight t
height_weight t w = omega (arith, height_records t w, records_weight t)

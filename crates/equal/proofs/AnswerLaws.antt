-- Equality either way round, and the answer of a comparison as yes or no, and as a number.
use Prim.Native.Nat.{ℕ}
use mathlib.Core.Path.{◌≡◌, refl}
use mathlib.Core.Bool.{Bool, true, false}
use Rattle.paper.specs.Tree.{Tree}
use Rattle.paper.specs.Equal.{equal}
use Rattle.paper.proofs.Tests.{both_ways}
use Rattle.paper.proofs.Equality.{equal_sym}
use Rattle.equal.specs.Matching.{match_of}
use Rattle.std.specs.Option.{is_some as some_of}

-- equality either way round
pub equal_turned : (t u : Tree) → equal t u ≡ equal u t
equal_turned t u = both_ways (equal t u) (equal u t) (equal_sym t u) (equal_sym u t)

pub is_match : (q : Bool) (e : ℕ) → some_of (match_of q e) ≡ q
is_match true e = refl
is_match false e = refl

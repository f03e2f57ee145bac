-- The bulk of a tree: what it weighs, but 3 at least if it is no integer. A well-formed tree that is no integer weighs 3 at least (a
-- symbol 3, a sum or product 1 and two members, a power 2 and its base), so its bulk is its weight.
use Prim.Native.Nat.{ℕ, ◌≤◌, max}
use mathlib.Core.Path.{◌≡◌, refl}
use mathlib.Core.Option.{Option, none, some}
use native.Mathlib.Omega.{arith}
use lib.IntN.{ℤ}
use Rattle.paper.specs.Tree.{Tree, Forest, integer, symbol, sum, product, power, nil, cons, count, weight, weights}
use Rattle.paper.specs.WellFormed.{WF}
use Rattle.paper.specs.Rules.{as_integer}
use Rattle.paper.proofs.Value.{weight_pos}
use Rattle.paper.proofs.EqualView.{Same, s_integer, s_symbol, s_sum, s_product, s_power, same_weight}

unfoldable pub at_least : Option ℤ → ℕ → ℕ
at_least (some z) n = n
at_least none n = max 3 n

unfoldable pub bulk : Tree → ℕ
bulk t = at_least (as_integer t) (weight t)

pub weight_bulk : (t : Tree) → weight t ≤ bulk t
unfolding bulk at_least
weight_bulk t = go (as_integer t)
  where
    go : (a : Option ℤ) → weight t ≤ at_least a (weight t)
    go (some z) = omega arith
    go none = omega arith

pub bulk_pos : (t : Tree) → 1 ≤ bulk t
bulk_pos t = omega (arith, weight_pos t, weight_bulk t)

-- two members weigh 2 at least
pub two_members : (f : Forest) → 2 ≤ count f → 2 ≤ weights f
unfolding count weight
two_members nil h = omega arith
two_members (cons t nil) h = omega arith
two_members (cons t (cons u f)) h = omega (arith, weight_pos t, weight_pos u)

pub bulk_wf : (t : Tree) → WF t → bulk t ≡ weight t
unfolding bulk at_least as_integer weight
bulk_wf (integer μ z) w = refl
bulk_wf (symbol μ s) w = refl
bulk_wf (sum μ f) w = omega (arith, two_members f w.0)
bulk_wf (product μ f) w = omega (arith, two_members f w.0)
bulk_wf (power μ b ξ e) w = omega (arith, weight_pos b)

-- equal trees are the same integer, if any, and have the same bulk
pub same_integer : {t u : Tree} → Same t u → as_integer t ≡ as_integer u
unfolding as_integer
same_integer s_integer = refl
same_integer s_symbol = refl
same_integer (s_sum r) = refl
same_integer (s_product r) = refl
same_integer (s_power r) = refl

pub same_bulk : {t u : Tree} → Same t u → bulk t ≡ bulk u
unfolding bulk
same_bulk {t} {u} s = rw (same_integer s, same_weight s) refl

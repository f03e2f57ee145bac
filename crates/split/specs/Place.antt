-- Which records the splits of a tree at record i name: the one of its base, and those of its rest.
use Rattle.std.specs.Prelude.{ℕ, ◌+◌, cond, ℤ, length, eqb, ltb}
use Rattle.std.proofs.Math.Option.{Option, none, some}
use Rattle.paper.specs.Tree.{Tree, Forest, integer, symbol, sum, product, power, nil, cons, count, records, to_list}
use Rattle.paper.specs.Rules.{as_integer, others_of}
use Rattle.split.specs.declared.Rest.{Rest}
use Rattle.split.specs.declared.Rest.TheVariants.{One, At, Others}

-- a power's base stands behind its record; any other tree is its own
unfoldable pub base_at : ℕ → Tree → ℕ
base_at i (integer μ z) = i
base_at i (symbol μ v) = i
base_at i (sum μ f) = i
base_at i (product μ f) = i
base_at i (power μ b ξ e) = i + 1

-- the record of the last of the trees f that is no integer, the first of them standing at record i; `last` where all are
unfoldable pub later_other : Option ℤ → (i last : ℕ) → ℕ
later_other (some z) i last = last
later_other none i last = i

unfoldable pub last_other : (i last : ℕ) → Forest → ℕ
last_other i last nil = last
last_other i last (cons t f) = last_other (i + records t) (later_other (as_integer t) i last) f

-- the rest of the product of n members at record i, m of them no integers, the last of these at record `last`: itself where it has no
-- integer; 1 where it has nothing else; the single other; or the product of the others
unfoldable pub product_rest : (i n m last : ℕ) → Rest
product_rest i n m last = cond (eqb m n) (At i) (cond (ltb m 1) One (cond (ltb m 2) (At last) (Others i m)))

-- an integer leaves 1; a tree that is neither an integer nor a product leaves itself
unfoldable pub rest_at : ℕ → Tree → Rest
rest_at i (integer μ z) = One
rest_at i (symbol μ v) = At i
rest_at i (sum μ f) = At i
rest_at i (product μ f) = product_rest i (count f) (length (others_of (to_list f))) (last_other (i + 1) i f)
rest_at i (power μ b ξ e) = At i

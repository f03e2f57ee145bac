-- The table of kinds by bytes is the paper's rule: all eighty entries are compared by one computed test.
use Prim.Native.Nat.{ℕ, zero, suc}
use mathlib.Core.Path.{◌≡◌, refl}
use mathlib.Core.Bool.{not}
use mathlib.Core.List.{List, [], ◌∷◌, map}
use lib.Dec.{eqb}
use Rattle.paper.specs.Record.{may_table, may_be, may_rule, is_node}

-- the numbers below n
unfoldable pub below : ℕ → List ℕ
below zero = []
below (suc n) = n ∷ below n

pub may_rule_lem : map (λ k. map (λ j. not (eqb (may_be k j) 0)) (below 16)) (below 5) ≡ map (λ k. map (λ j. may_rule k j) (below 16)) (below 5)
unfolding below may_table may_be may_rule is_node
may_rule_lem = refl

-- Every rule of edition two is good: those of edition one, and the three on powers. So whatever the edition, its rules are good. Assumes
-- nothing.
use Prim.Native.Nat.{ℕ}
use mathlib.Core.Bool.{Bool, true, false, cond}
use mathlib.Core.List.{List, ◌++◌}
use lib.Dec.{eqb}
use Rattle.paper.specs.Rules.{Rule, edition_one, edition_two, rules_of}
use Rattle.paper.specs.Good.{Goods, no_rules, a_rule}
use Rattle.paper.proofs.EditionOne.{edition_one_good}
use Rattle.paper.proofs.PowerRules.{power_one_good, power_constant_good, power_power_good}

both_good : {rs qs : List Rule} → Goods rs → Goods qs → Goods (rs ++ qs)
both_good no_rules h = h
both_good (a_rule g gs) h = a_rule g (both_good gs h)

pub edition_two_good : Goods edition_two
unfolding edition_two
edition_two_good =
    both_good edition_one_good (a_rule power_one_good (a_rule power_constant_good (a_rule power_power_good no_rules)))

pub edition_good : (ed : ℕ) → Goods (rules_of ed)
unfolding rules_of
edition_good ed = go (eqb ed 2)
  where
    go : (b : Bool) → Goods (cond b edition_two edition_one)
    go true = edition_two_good
    go false = edition_one_good

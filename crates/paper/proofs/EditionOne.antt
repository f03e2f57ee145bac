-- Every rule of edition one is good: each was shown so on its own.
use Rattle.paper.specs.Rules.{edition_one}
use Rattle.paper.specs.Good.{Goods, no_rules, a_rule}
use Rattle.paper.proofs.DropRules.{add_zero_good, multiply_zero_good, multiply_one_good}
use Rattle.paper.proofs.LikeTermsGood.{like_terms_good}
use Rattle.paper.proofs.LikeFactorsGood.{like_factors_good}

-- the five rules, in the paper's order
pub edition_one_good : Goods edition_one
unfolding edition_one
edition_one_good =
    a_rule add_zero_good (a_rule like_terms_good (a_rule multiply_zero_good (a_rule multiply_one_good (a_rule like_factors_good no_rules))))

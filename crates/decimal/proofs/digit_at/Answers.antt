-- A character is looked at where there is one.
use Rattle.decimal.proofs.ReadLaws.{digit_shown}
use Rattle.decimal.proofs.digit_at.Goals as goal

pub returns : goal.returns
returns c =
    digit_shown c.args.text.now c.args.at c.get.result c.is_some_and.result c.get.ensures.lookup c.is_some_and.ensures (λ x h. h.0)

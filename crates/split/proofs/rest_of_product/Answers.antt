-- `split::rest_of_product` meets its contract: each return is one case, by the number of the members that are no integers.
use Rattle.std.proofs.Common.{refl}
use Rattle.note.proofs.ToldLaws.{record_within}
use Rattle.split.proofs.SplitLaws.{rest_whole, rest_one, rest_single, rest_others, place_whole, place_one, place_single, place_others}
use Rattle.split.proofs.rest_of_product.Goals as goal

pub count-requires : goal.count-requires
count-requires c = record_within c.requires.there

pub returns-then-others-count-clause-by_index : goal.returns-then-others-count-clause-by_index
returns-then-others-count-clause-by_index c = λ how t h k.
    rest_whole t h k c.count.ensures.0 (c.count_others-others.ensures how) c.if-others-count.true

pub returns-then-others-count-clause-place : goal.returns-then-others-count-clause-place
returns-then-others-count-clause-place c = λ how t h k.
    place_whole t h k c.count.ensures.0 (c.count_others-others.ensures how) c.if-others-count.true

pub returns-then-others-lt1-clause-by_index : goal.returns-then-others-lt1-clause-by_index
returns-then-others-lt1-clause-by_index c = λ how t h k.
    rest_one t h k c.count.ensures.0 (c.count_others-others.ensures how) c.if-others-count.false c.if-others-lt1.true

pub returns-then-others-lt1-clause-place : goal.returns-then-others-lt1-clause-place
returns-then-others-lt1-clause-place c = λ how t h k.
    place_one t h k c.count.ensures.0 (c.count_others-others.ensures how) c.if-others-count.false c.if-others-lt1.true

pub returns-then-others-lt-PAIR-clause-by_index : goal.returns-then-others-lt-PAIR-clause-by_index
returns-then-others-lt-PAIR-clause-by_index c = λ how t h k.
    rest_single t h k c.count.ensures.0 (c.count_others-others.ensures how) c.if-others-count.false c.if-others-lt1.false c.if-others-lt-PAIR.true

pub returns-then-others-lt-PAIR-clause-place : goal.returns-then-others-lt-PAIR-clause-place
returns-then-others-lt-PAIR-clause-place c = λ how t h k.
    place_single t h k c.count.ensures.0 (c.count_others-others.ensures how) c.if-others-count.false c.if-others-lt1.false c.if-others-lt-PAIR.true

pub returns-clause-by_index : goal.returns-clause-by_index
returns-clause-by_index c = λ how t h k.
    (refl, rest_others t h k c.count.ensures.0 (c.count_others-others.ensures how) c.if-others-count.false c.if-others-lt-PAIR.false)

pub returns-clause-place : goal.returns-clause-place
returns-clause-place c = λ how t h k.
    place_others t h k c.count.ensures.0 (c.count_others-others.ensures how) c.if-others-count.false c.if-others-lt-PAIR.false

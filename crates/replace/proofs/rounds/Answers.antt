-- `replace::rounds` meets its contract: each round opens one definition deeper.
use Rattle.std.proofs.Common.{replicate, None}
use Rattle.replace.proofs.WeighLaws.{knows_none, knows_next, which_few, nones, none_counted}
use Rattle.replace.proofs.rounds.Goals as goal

pub loop-init : goal.loop-init
loop-init c =
    let a = c.args in
    record { knows = λ ds h. knows_none a.limit ds a.which.now (replicate 16 None) (nones 16); few = none_counted 16 }

pub round-weights-requires : goal.round-weights-requires
round-weights-requires c =
    let a = c.args in
    let index = c.requires.2.1 in
    let few = which_few c.requires.2.0 a.definitions.now a.which.now a.from.now a.n index c.requires.1 in
    (c.requires.0, c.requires.1, index.lies, few, c.loop.invariant.few)

pub loop-preserved : goal.loop-preserved
loop-preserved c =
    let a = c.args in
    let l = c.loop in
    let w = c.round-weights in
    record {
      knows = λ ds h. knows_next a.limit ds a.definitions.now a.which.now a.from.now l.weights
          a.n l.counter h (l.invariant.knows ds h) w.result w.ensures.weighs;
      few = w.ensures.few;
    }

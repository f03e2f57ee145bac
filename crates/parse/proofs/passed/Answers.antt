-- The group ends where the skim does, and at the end of the text none is closed.
use Rattle.std.proofs.Common.{refl, subst}
use Rattle.paper.specs.Table.{encode}
use Rattle.paper_text.specs.Levels.{stand_in}
use Rattle.parse.specs.Written.{Written}
use Rattle.parse.proofs.SkimLaws.{begin_passing, passed_out, never_closed}
use Rattle.parse.proofs.passed.Goals as goal

pub loop-e-init : goal.loop-e-init
loop-e-init c = record { passing = begin_passing c.args.text.now c.args.at c.requires.0; same = refl }

pub returns-in_default : goal.returns-in_default
returns-in_default c =
    let a = c.args in
    let l = c.loop-e in
    let put = c.put_stand_in in
    passed_out a.text.now a.at l.k l.deep l.e c.loop-e-test.true l.invariant.passing c.in_default.ensures
    (subst (λ old. Written (encode (stand_in l.k)) old a.d put.new.out) l.invariant.same put.ensures)

pub returns : goal.returns
returns c =
    let l = c.loop-e in
    never_closed c.args.text.now c.args.at l.k l.deep l.e c.loop-e-test.false l.invariant.passing

-- `rules::members::is_the`: the tree there is an integer where its record is of that kind, and which one its bits tell.
use mathlib.Core.Path.{ap, ◌∙◌}
use native.Mathlib.Omega.{arith}
use lib.Dec.{eqb}
use Rattle.paper.specs.Record.{kind}
use Rattle.record.specs.declared.kinds.Kind.TheVariants.{Integer}
use Rattle.record.proofs.KindLaws.{kind_is, kind_is_not}
use Rattle.note.proofs.ToldLaws.{record_within}
use Rattle.rules.proofs.Nodes.{other_kind, integer_kind}
use Rattle.rules.proofs.members.is_the.Goals as goal

pub at-requires : goal.at-requires
at-requires c = record_within c.requires.0.there

pub bits-requires : goal.bits-requires
bits-requires c = record_within c.requires.0.there

pub returns-then-eq : goal.returns-then-eq
returns-then-eq c =
    let g = c.args in
    let is = kind_is _ Integer _ (kind g.s.now g.i) c.at.ensures.all c.eq.ensures c.if-eq.true in
    λ t h. ap (λ n. eqb n g.z) c.bits.ensures ∙ integer_kind _ _ _ t h (omega (arith, is)) c.requires.1

pub returns-else-eq : goal.returns-else-eq
returns-else-eq c =
    let g = c.args in
    let other = kind_is_not _ Integer _ (kind g.s.now g.i) c.at.ensures.all c.eq.ensures c.if-eq.false in
    λ t h. c.if-eq.false ∙ other_kind _ _ _ t h (omega (arith, other))

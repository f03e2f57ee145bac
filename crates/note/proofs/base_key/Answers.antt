-- `note::base_key` meets its contract: by the kind of the record.
use Rattle.std.proofs.Common.{◌∙◌, arith}
use Rattle.paper.specs.Record.{kind}
use Rattle.record.specs.declared.kinds.Kind.TheVariants.{Integer}
use Rattle.record.proofs.KindLaws.{kind_is, kind_is_not}
use Rattle.note.proofs.ToldLaws.{noted_told, record_within, kind_number_lem}
use Rattle.note.proofs.BaseLaws.{integer_base, other_base}
use Rattle.note.proofs.base_key.Goals as goal

pub at-requires : goal.at-requires
at-requires c = record_within (noted_told c.requires.1)

pub returns-then-eq : goal.returns-then-eq
returns-then-eq c = λ t h.
    let k = kind_is _ Integer _ (kind c.args.s.now c.args.i) c.at.ensures.all c.eq.ensures c.if-eq.true in
    integer_base t (omega (arith, k, kind_number_lem (noted_told h)))

pub returns-else-eq : goal.returns-else-eq
returns-else-eq c = λ t h.
    let k = kind_is_not _ Integer _ (kind c.args.s.now c.args.i) c.at.ensures.all c.eq.ensures c.if-eq.false in
    c.note_at.ensures t h ∙ other_base t (omega (arith, k, kind_number_lem (noted_told h)))

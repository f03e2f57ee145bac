-- `note::node_note` meets its contract: each of its two callees is asked for its kind.
use Rattle.std.proofs.Common.{arith}
use Rattle.paper.specs.Record.{kind}
use Rattle.record.specs.declared.kinds.Kind.TheVariants.{Power}
use Rattle.record.proofs.KindLaws.{kind_is, kind_is_not}
use Rattle.note.proofs.NotedLaws.{own_within, own_kind, kind_lt}
use Rattle.note.proofs.AddingLaws.{headed}
use Rattle.note.proofs.node_note.Goals as goal

pub at-requires : goal.at-requires
at-requires c = own_within (headed c.requires.1)

pub power_note-requires : goal.power_note-requires
power_note-requires c =
    let some = c.requires in
    let k = kind_is _ Power _ (kind c.args.s.now c.args.i) c.at.ensures.all c.eq.ensures c.if-eq.true in
    (some.0, some.1, omega (arith, k, own_kind (headed some.1)))

pub members_note-requires : goal.members_note-requires
members_note-requires c =
    let some = c.requires in
    let k = kind_is_not _ Power _ (kind c.args.s.now c.args.i) c.at.ensures.all c.eq.ensures c.if-eq.false in
    (some.0, some.1, omega (arith, k, own_kind (headed some.1), kind_lt some.0))

pub returns-then-eq : goal.returns-then-eq
returns-then-eq c = λ t q.
    let k = kind_is _ Power _ (kind c.args.s.now c.args.i) c.at.ensures.all c.eq.ensures c.if-eq.true in
    c.power_note.ensures t q (omega (arith, k, own_kind (headed q)))

pub returns-else-eq : goal.returns-else-eq
returns-else-eq c = λ t q.
    let k = kind_is_not _ Power _ (kind c.args.s.now c.args.i) c.at.ensures.all c.eq.ensures c.if-eq.false in
    c.members_note.ensures t q (omega (arith, k, own_kind (headed q), kind_lt t))

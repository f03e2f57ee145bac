-- `note::note_all` meets its contract: a turn notes the record that is reached, where it is a node.
use Rattle.std.proofs.Common.{arith, ◌+◌, ◌-◌, ◌<◌, refl}
use Rattle.note.specs.Note.{note}
use Rattle.note.proofs.RelabelLaws.{half_start, half_end, reached_tree, reached_within, reached_leaf, reached_node, reached_unnoted}
use Rattle.paper.specs.Record.{kind}
use Rattle.record.proofs.KindLaws.{leaf_low, node_high}
use Rattle.note.proofs.note_all.Goals as goal
use Rattle.note.proofs.note_all.Goals.{in-Integer, in_default}

pub loop-j-init : goal.loop-j-init
loop-j-init c = λ t q. half_start q note

pub overflow_add-i : goal.overflow_add-i
overflow_add-i c = omega (arith, reached_within c.requires.1 c.loop-j.j c.loop-j-test.true c.loop-j.auto.j)

pub at-requires : goal.at-requires
at-requires c = omega (arith, reached_within c.requires.1 c.loop-j.j c.loop-j-test.true c.loop-j.auto.j)

pub overflow_add-i-then-not-matches : goal.overflow_add-i-then-not-matches
overflow_add-i-then-not-matches c = omega (arith, reached_within c.requires.1 c.loop-j.j c.loop-j-test.true c.loop-j.auto.j)

pub close-requires : goal.close-requires
close-requires c =
    let some = c.requires in
    let j = c.loop-j.j in
    let t = c.loop-j-test.true in
    let l = c.loop-j.auto.j in
    let w : 1 < kind c.loop-j.s (c.args.i + (c.loop-j.j - 1)) =
    elim c.match-matches.branch [
      | in-Integer v ↦ absurd cc
      | in_default v ↦ node_high _ _ c.at.ensures.all v.in_default.not-Integer v.in_default.not-Symbol
    ] in (
      reached_tree some.1 j t l,
      reached_unnoted some.1 j t l (c.loop-j.invariant some.0 some.1) _ refl w,
    )

pub loop-j-preserved-then-not-matches : goal.loop-j-preserved-then-not-matches
loop-j-preserved-then-not-matches c = λ t q.
    let j = c.loop-j.j in
    let p = c.loop-j-test.true in
    let l = c.loop-j.auto.j in
    let a = c.loop-j.invariant t q in
    let w : 1 < kind c.loop-j.s (c.args.i + (c.loop-j.j - 1)) =
    elim c.match-matches.branch [
      | in-Integer v ↦ absurd cc
      | in_default v ↦ node_high _ _ c.at.ensures.all v.in_default.not-Integer v.in_default.not-Symbol
    ] in
    reached_node q j p l a _ refl w c.close.new.s
    (c.close.ensures (reached_tree q j p l) (reached_unnoted q j p l a _ refl w))

pub loop-j-preserved : goal.loop-j-preserved
loop-j-preserved c = λ t q.
    let w : kind c.loop-j.s (c.args.i + (c.loop-j.j - 1)) < 2 =
    elim c.match-matches.branch [ in-Integer v ↦ leaf_low _ _ c.at.ensures.all v.in-Integer.is | in_default v ↦ absurd cc ] in
    reached_leaf q c.loop-j.j c.loop-j-test.true c.loop-j.auto.j (c.loop-j.invariant t q) _ refl (omega (arith, w))

pub returns : goal.returns
returns c = λ t q. half_end q note (omega arith) (c.loop-j.invariant t q)

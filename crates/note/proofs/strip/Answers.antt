-- `note::strip` meets its contract: a turn takes the note out of the record that is reached, where it is a node.
use Rattle.std.proofs.Common.{◌*◌, ap, ◌∙◌, arith, ◌+◌, ◌-◌, ◌<◌, refl}
use Rattle.stretch.specs.Put.{put}
use Rattle.note.proofs.NotedLaws.{plain_encode}
use Rattle.note.proofs.RelabelLaws.{half_start, half_end, reached_within, reached_leaf, reached_node}
use Rattle.paper.specs.Record.{kind}
use Rattle.record.proofs.KindLaws.{leaf_low, node_high}
use Rattle.note.proofs.strip.Goals as goal
use Rattle.note.proofs.strip.Goals.{in-Integer, in_default}

pub loop-j-init : goal.loop-j-init
loop-j-init c = λ t q. half_start q (λ u. 0)

pub overflow_add-i : goal.overflow_add-i
overflow_add-i c = omega (arith, reached_within c.requires.1 c.loop-j.j c.loop-j-test.true c.loop-j.auto.j)

pub at-requires : goal.at-requires
at-requires c = omega (arith, reached_within c.requires.1 c.loop-j.j c.loop-j-test.true c.loop-j.auto.j)

pub overflow_add-i-then-not-matches : goal.overflow_add-i-then-not-matches
overflow_add-i-then-not-matches c = omega (arith, reached_within c.requires.1 c.loop-j.j c.loop-j-test.true c.loop-j.auto.j)

pub overflow_mul-i : goal.overflow_mul-i
overflow_mul-i c = omega (arith, reached_within c.requires.1 c.loop-j.j c.loop-j-test.true c.loop-j.auto.j)

pub overflow_add-i-then-not-matches-2 : goal.overflow_add-i-then-not-matches-2
overflow_add-i-then-not-matches-2 c = omega (arith, reached_within c.requires.1 c.loop-j.j c.loop-j-test.true c.loop-j.auto.j)

pub write8-requires : goal.write8-requires
write8-requires c = omega (arith, reached_within c.requires.1 c.loop-j.j c.loop-j-test.true c.loop-j.auto.j)

pub loop-j-preserved-then-not-matches : goal.loop-j-preserved-then-not-matches
loop-j-preserved-then-not-matches c = λ t q.
    let w : 1 < kind c.loop-j.s (c.args.i + (c.loop-j.j - 1)) =
    elim c.match-matches.branch [
      | in-Integer v ↦ absurd cc
      | in_default v ↦ node_high _ _ c.at.ensures.all v.in_default.not-Integer v.in_default.not-Symbol
    ] in
    reached_node q c.loop-j.j c.loop-j-test.true c.loop-j.auto.j (c.loop-j.invariant t q) _ refl w
    c.write8.new.d c.write8.ensures

pub loop-j-preserved : goal.loop-j-preserved
loop-j-preserved c = λ t q.
    let w : kind c.loop-j.s (c.args.i + (c.loop-j.j - 1)) < 2 =
    elim c.match-matches.branch [ in-Integer v ↦ leaf_low _ _ c.at.ensures.all v.in-Integer.is | in_default v ↦ absurd cc ] in
    reached_leaf q c.loop-j.j c.loop-j-test.true c.loop-j.auto.j (c.loop-j.invariant t q) _ refl (omega (arith, w))

pub returns : goal.returns
returns c = λ t q.
    let a = c.args in
    half_end q (λ u. 0) (omega arith) (c.loop-j.invariant t q) ∙ ap (put a.s.now (a.i * 16)) (plain_encode t)

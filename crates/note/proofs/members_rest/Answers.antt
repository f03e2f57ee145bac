-- `note::members_rest` meets its contract: a turn passes the next member, and the last ones are the returns of the rest's three forms.
use Rattle.std.proofs.Common.{◌≡◌, ◌+◌, ◌-◌, ◌%◌, ◌^◌, ◌<◌, ◌∙◌, arith}
use native.Mathlib.Nat.{sub-zero}
use Rattle.paper.specs.Limits.{modulus}
use Rattle.paper.specs.Tree.{product}
use Rattle.paper.specs.Standing.{kind_number}
use Rattle.note.specs.Noted.{inner}
use Rattle.note.proofs.ToldLaws.{note_tells, noted_told, tree_within, record_within, kind_number_lem}
use Rattle.note.proofs.LightLaws.{members_by}
use Rattle.note.proofs.RestingLaws.{resting_start, resting_first, turn_integer, turn_other, resting_none, resting_one, resting_many}
use Rattle.note.proofs.members_rest.Goals as goal
use Rattle.note.proofs.members_rest.Goals.{then-k-lt-SYMBOL, else-k-lt-SYMBOL}

pub overflow_add-at : goal.overflow_add-at
overflow_add-at c = omega (arith, record_within (noted_told c.requires.2.there))

pub count-end-requires : goal.count-end-requires
count-end-requires c = record_within (noted_told c.requires.2.there)

pub loop-init : goal.loop-init
unfolding inner kind_number
loop-init c =
    let n = c.count-end in
    let i = c.args.i in record {
      few = omega arith;
      resting = λ μ f q.
          rw sub-zero
          (resting_start (i + 1) n.result i (members_by (product μ f) note_tells q.there (omega arith) (omega arith) n.result n.ensures.0));
    }

pub kind-k-requires : goal.kind-k-requires
kind-k-requires c =
    let some = c.requires in
    record_within (noted_told (resting_first (c.loop.invariant.resting some.0 some.1 some.2) (omega arith)).there)

pub note_at-out-requires : goal.note_at-out-requires
note_at-out-requires c =
    let some = c.requires in
    let f = resting_first (c.loop.invariant.resting some.0 some.1 some.2) (omega arith) in
    (f.tree, f.there)

pub overflow_add-kept : goal.overflow_add-kept
overflow_add-kept c = omega arith

pub size_at-at-requires : goal.size_at-at-requires
size_at-at-requires c =
    let some = c.requires in
    let f = resting_first (c.loop.invariant.resting some.0 some.1 some.2) (omega arith) in
    (f.tree, f.there, c.kind-k.ensures ∙ kind_number_lem (noted_told f.there))

pub overflow_add-at-in-loop : goal.overflow_add-at-in-loop
overflow_add-at-in-loop c =
    let some = c.requires in
    let f = resting_first (c.loop.invariant.resting some.0 some.1 some.2) (omega arith) in
    let z = c.size_at-at.ensures f.tree f.there (c.kind-k.ensures ∙ kind_number_lem (noted_told f.there)) in
    omega (arith, z, tree_within (noted_told f.there))

pub loop-preserved : goal.loop-preserved
loop-preserved c =
    let z = c.size_at-at in
    let k = c.kind-k in
    let i = c.if-k-lt-SYMBOL in
    let inv = c.loop.invariant in
    let p : 0 < c.count-end.result - c.loop.counter = omega arith in
    let fewer : c.count-end.result - (c.loop.counter + 1) ≡ c.count-end.result - c.loop.counter - 1 = omega arith in
    elim i.branch [
      | then-k-lt-SYMBOL w ↦ record {
        few = omega arith;
        resting = λ μ f q.
            let a = inv.resting μ f q in
            let u = resting_first a p in
            let size = z.ensures u.tree u.there (k.ensures ∙ kind_number_lem (noted_told u.there)) in
            rw fewer
            (turn_integer a p k.result z.result k.ensures size w.if-k-lt-SYMBOL.true w.note_at-out.result i.out i.kept i.last
            (w.note_at-out.ensures u.tree u.there) w.out-is w.kept-is w.last-is);
      }
      | else-k-lt-SYMBOL w ↦ record {
        few = omega arith;
        resting = λ μ f q.
            let a = inv.resting μ f q in
            let u = resting_first a p in
            let size = z.ensures u.tree u.there (k.ensures ∙ kind_number_lem (noted_told u.there)) in
            rw fewer
            (turn_other a p k.result z.result k.ensures size w.if-k-lt-SYMBOL.false i.out i.kept i.last w.out-is w.kept-is w.last-is);
      }
    ]

pub returns-then-kept-lt1 : goal.returns-then-kept-lt1
returns-then-kept-lt1 c = λ μ f q.
    c.leaf_note.ensures ∙ resting_none (c.loop.invariant.resting μ f q) (omega arith) c.if-kept-lt1.true

pub note_at-requires : goal.note_at-requires
note_at-requires c =
    let some = c.requires in
    let one = (c.loop.invariant.resting some.0 some.1 some.2).single (omega arith) in
    (one.tree, one.there)

pub returns-then-kept-lt-PAIR : goal.returns-then-kept-lt-PAIR
returns-then-kept-lt-PAIR c = λ μ f q.
    let a = c.loop.invariant.resting μ f q in
    let k : c.loop.kept ≡ 1 = omega arith in
    c.note_at.ensures (a.single k).tree (a.single k).there ∙ resting_one a (omega arith) k

pub returns : goal.returns
returns c = λ μ f q.
    let n = c.args.n in
    let out = c.loop.out in
    let left : ((n + (2 ^ 64 - out)) % 2 ^ 64 + out) % modulus ≡ n = omega arith in
    resting_many (c.loop.invariant.resting μ f q) (omega arith) c.if-kept-lt-PAIR.false _ (omega arith) (left ∙ q.note_known)

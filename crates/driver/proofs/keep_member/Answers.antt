-- `driver::keep_member`: what the first record tells, and the keys, decide whether the tree is kept, and each answer is a law of Keeping.
use Prim.Native.Nat.{◌+◌, ◌≤◌}
use mathlib.Core.Path.{◌≡◌, sym, ap, ◌∙◌}
use mathlib.Core.Bool.{false, ◌&&◌}
use native.Mathlib.Omega.{arith}
use lib.Dec.{eqb}
use Rattle.paper.specs.Record.{kind, arity, is_node}
use Rattle.paper.specs.Tree.{records}
use Rattle.note.proofs.LightLaws.{size_of_node}
use Rattle.note.proofs.ToldLaws.{noted_told, record_within}
use Rattle.driver.proofs.Keeping.{tree_pending, pending_kind, pending_ends, room, leaf_kept, calm_size, calm_kept}
use Rattle.driver.proofs.keep_member.Goals as goal

pub kind-j-requires : goal.kind-j-requires
kind-j-requires c = record_within (noted_told (tree_pending c.requires.1.2))

pub copy_record-requires : goal.copy_record-requires
copy_record-requires c =
    let h = c.requires.1.2 in
    let fits = room h in
    (omega (arith, fits.0, fits.1), record_within (noted_told (tree_pending h)))

pub returns-then-j-lt-SUM : goal.returns-then-j-lt-SUM
returns-then-j-lt-SUM c =
    λ t rest h. leaf_kept h c.args.edition (kind c.args.out.now c.args.d) (omega (arith, c.if-j-lt-SUM.true, c.kind-j.ensures)) _ c.copy_record.ensures

pub arity-n-requires : goal.arity-n-requires
arity-n-requires c = record_within (noted_told (tree_pending c.requires.1.2))

pub bits-requires : goal.bits-requires
bits-requires c = record_within (noted_told (tree_pending c.requires.1.2))

pub overflow_mul-q : goal.overflow_mul-q
overflow_mul-q c = omega (arith, record_within (noted_told (tree_pending c.requires.1.2)))

pub copy_bytes-requires : goal.copy_bytes-requires
copy_bytes-requires c =
    let q = c.requires.1 in
    let there = tree_pending q.2 in
    let scratch = c.still.ensures.around q.0 there in
    let size : c.records_of.result ≡ records q.0 = c.records_of.ensures
    ∙ size_of_node there (omega (arith, c.if-j-lt-SUM.false, c.kind-j.ensures, pending_kind q.2)) c.bits.result c.bits.ensures in
    let whole = calm_size q.2 (omega (arith, c.if-n-records_of.false, c.arity-n.ensures.0)) in
    (omega (arith, (room q.2).0, scratch.long, c.arity-n.ensures.0), omega (arith, pending_ends q.2, c.arity-n.ensures.0))

pub returns-then-still : goal.returns-then-still
returns-then-still c =
    let g = c.args in
    let k = kind g.out.now g.d in
    let node : c.kind.result ≡ k = c.kind.ensures in
    let member : c.kind-j.result ≡ kind g.work.now g.q = c.kind-j.ensures in
    let shut : (eqb (kind g.work.now g.q) k && is_node k) ≡ false =
    ap (λ j. eqb j k && is_node k) (sym member) ∙ ap (λ i. eqb c.kind-j.result i && is_node i) (sym node) ∙ sym c.opens.ensures ∙ c.if-opens.false in
    λ t rest h.
    let there = tree_pending h in
    let size : c.records_of.result ≡ records t = c.records_of.ensures
    ∙ size_of_node there (omega (arith, c.if-j-lt-SUM.false, pending_kind h)) c.bits.result c.bits.ensures in
    let few : records t ≤ arity g.work.now g.q + 1 = omega (arith, c.if-n-records_of.false, c.arity-n.ensures.0) in
    calm_kept h g.edition k shut _ (ap (λ a. a + 1) c.arity-n.ensures.0 ∙ calm_size h few) few
    (sym (c.still.ensures.value t there) ∙ c.if-still.true) (c.still.ensures.around t there) _ c.copy_bytes.ensures

-- A member that comes out as it stands is copied whole, and of any other nothing is written.
use Rattle.std.proofs.Common.{◌≡◌, ◌+◌, ◌-◌, ◌*◌, None, Some, sym, refl, ◌∙◌, subst, arith}
use Rattle.paper.specs.Tree.{records}
use Rattle.note.specs.Note.{note}
use Rattle.note.specs.Noted.{encode_by}
use Rattle.note.proofs.NotedLaws.{encode_by_length}
use Rattle.note.proofs.ToldLaws.{record_within, tree_within, some_told}
use Rattle.rebuilt.proofs.Encoded.{copied}
use Rattle.walk.specs.Walked.{KeptIs}
use Rattle.walk.proofs.EntryLaws.{entry_there}
use Rattle.walk.proofs.keep.Goals as goal

pub overflow_add-start : goal.overflow_add-start
overflow_add-start c = record { fits = omega (arith, record_within (entry_there c.requires.entry _ c.read2.ensures.0)) }

pub skip_tree-requires : goal.skip_tree-requires
skip_tree-requires c = some_told (entry_there c.requires.entry _ c.read2.ensures.0)

pub overflow_sub-k : goal.overflow_sub-k
overflow_sub-k c = omega (arith, c.skip_tree.ensures note _ (entry_there c.requires.entry _ c.read2.ensures.0))

pub overflow_mul-e : goal.overflow_mul-e
overflow_mul-e c =
    let q = c.requires in
    let there = entry_there q.entry _ c.read2.ensures.0 in
    let kept = sym (c.is_kept.ensures _ q.entry) ∙ c.if-is_kept.true in
    record { fits = omega (arith, q.room kept, c.skip_tree.ensures note _ there) }

pub overflow_mul-start : goal.overflow_mul-start
overflow_mul-start c =
    let there = entry_there c.requires.entry _ c.read2.ensures.0 in
    record { fits = omega (arith, tree_within there, c.skip_tree.ensures note _ there) }

pub overflow_mul-k : goal.overflow_mul-k
overflow_mul-k c =
    let there = entry_there c.requires.entry _ c.read2.ensures.0 in
    record { fits = omega (arith, tree_within there, c.skip_tree.ensures note _ there) }

pub copy_bytes-requires : goal.copy_bytes-requires
copy_bytes-requires c =
    let q = c.requires in
    let there = entry_there q.entry _ c.read2.ensures.0 in
    let kept = sym (c.is_kept.ensures _ q.entry) ∙ c.if-is_kept.true in
    let size = c.skip_tree.ensures note _ there in
    (omega (arith, q.room kept, size), omega (arith, tree_within there, size))

pub returns-then-is_kept : goal.returns-then-is_kept
returns-then-is_kept c = λ t h.
    let g = c.args in
    let at = g.p + c.read2.result in
    let k = c.skip_tree.result - at in
    let there = entry_there h _ c.read2.ensures.0 in
    let size : k ≡ records t = omega (arith, c.skip_tree.ensures note t there) in
    subst (λ b. KeptIs b t g.out.now c.copy_bytes.new.dst g.e (Some (g.e + k))) (sym (sym (c.is_kept.ensures t h) ∙ c.if-is_kept.true)) (
      omega (arith, size),
      copied g.out.now _ g.work.now (g.e * 16) at (k * 16) (encode_by note t) there.stands (omega (arith, encode_by_length note t, size))
          c.copy_bytes.ensures,
    )

pub returns : goal.returns
returns c = λ t h.
    subst (λ b. KeptIs b t c.args.out.now c.args.out.now c.args.e None) (sym (sym (c.is_kept.ensures t h) ∙ c.if-is_kept.false)) refl

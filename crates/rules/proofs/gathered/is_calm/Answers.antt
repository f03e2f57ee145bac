-- `rules::gathered::is_calm`: where the tree ends tells how many records it has, and its own record how many members; then the test by keys is made.
use mathlib.Core.Path.{◌≡◌, ◌∙◌}
use native.Mathlib.Omega.{arith}
use lib.ListN.{length}
use Rattle.std.proofs.lemmas.Bool.{lt-leb}
use Rattle.paper.specs.Driver.{members}
use Rattle.note.specs.Note.{note}
use Rattle.note.proofs.ToldLaws.{noted_told, record_within, some_told}
use Rattle.rules.proofs.Emerging.{arity_told, calm_not, calm_still}
use Rattle.rules.proofs.gathered.is_calm.Goals as goal

pub skip_tree-next-requires : goal.skip_tree-next-requires
skip_tree-next-requires c = some_told (noted_told c.requires.1)

pub arity-requires : goal.arity-requires
arity-requires c = record_within (noted_told c.requires.1)

pub overflow_add-i : goal.overflow_add-i
overflow_add-i c = omega (arith, record_within (noted_told c.requires.1), c.arity.ensures.1)

pub overflow_add-i-2 : goal.overflow_add-i-2
overflow_add-i-2 c = omega (arith, record_within (noted_told c.requires.1), c.arity.ensures.1)

pub returns-then-next-i-clause-value : goal.returns-then-next-i-clause-value
returns-then-next-i-clause-value c =
    λ t h.
    let end = c.skip_tree-next.ensures note t (noted_told h) in
    let many : c.arity.result ≡ length (members t) = c.arity.ensures.0 ∙ arity_told (noted_told h) in
    c.still.ensures.value t h ∙ calm_still _ t (omega (arith, c.if-next-i.true))

pub returns-else-next-i-clause-value : goal.returns-else-next-i-clause-value
returns-else-next-i-clause-value c =
    λ t h.
    let end = c.skip_tree-next.ensures note t (noted_told h) in
    let many : c.arity.result ≡ length (members t) = c.arity.ensures.0 ∙ arity_told (noted_told h) in
    lt-leb _ _ c.if-next-i.false ∙ calm_not _ t (omega (arith, c.if-next-i.false))

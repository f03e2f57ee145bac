-- Each contract, as the check reads it off the source, leaves one answer open and no other: some tree stands at the record, and each answer
-- equals one definition of that tree and its record.
use mathlib.Core.Path.{sym, ◌∙◌}
use Rattle.paper.specs.Once.{Once}
use Rattle.split.proofs.skip_tree.Reads as skip-tree
use Rattle.split.proofs.skip_tree.Kinds as skip-tree-kinds
use Rattle.split.proofs.coefficient.Reads as coefficient
use Rattle.split.proofs.coefficient.Kinds as coefficient-kinds
use Rattle.split.proofs.rest_of.Reads as rest_of
use Rattle.split.proofs.rest_of.Kinds as rest-of-kinds
use Rattle.split.proofs.base.Reads as base
use Rattle.split.proofs.base.Kinds as base-kinds
use Rattle.split.proofs.exponent.Reads as exponent
use Rattle.split.proofs.exponent.Kinds as exponent-kinds

pub skip_tree_once : Once 1 skip-tree-kinds.ps skip-tree-kinds.r skip-tree.Pre skip-tree.Post
skip_tree_once κs a v v' x x' q p p' = p q.how q.tree q.there ∙ sym (p' q.how q.tree q.there)

pub coefficient_once : Once 1 coefficient-kinds.ps coefficient-kinds.r coefficient.Pre coefficient.Post
coefficient_once κs a v v' x x' q p p' = p q.how q.tree q.there ∙ sym (p' q.how q.tree q.there)

pub rest_of_once : Once 1 rest-of-kinds.ps rest-of-kinds.r rest_of.Pre rest_of.Post
rest_of_once κs a v v' x x' q p p' = p.1 q.how q.tree q.there ∙ sym (p'.1 q.how q.tree q.there)

pub base_once : Once 1 base-kinds.ps base-kinds.r base.Pre base.Post
base_once κs a v v' x x' q p p' = p.1 q.how q.tree q.there ∙ sym (p'.1 q.how q.tree q.there)

pub exponent_once : Once 1 exponent-kinds.ps exponent-kinds.r exponent.Pre exponent.Post
exponent_once κs a v v' x x' q p p' = (p q.how q.tree q.there).0 ∙ sym (p' q.how q.tree q.there).0

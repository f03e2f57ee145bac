-- Two answers that meet the contract of the equality test, as the check reads it from the source, are the same: the contract gives the
-- paper's answer. So are two of the comparisons inside: trees stand at the records, and the
-- answer is the paper's of those trees. Of the ticks nothing is said.
use mathlib.Core.Path.{◌≡◌, sym, ap, ◌∙◌}
use mathlib.Core.Bool.{Bool}
use native.Mathlib.Omega.{arith}
use Rattle.std.specs.Prelude.{Result, Ok, Err}
use Rattle.paper.specs.Verdict.{Verdict, told}
use Rattle.paper.specs.Answers as paper
use Rattle.paper.specs.Once.{Once}
use Rattle.table.specs.declared.refusals.Refused.{Refused}
use Rattle.table.proofs.RefusalLaws.{some_number}
use Rattle.table.proofs.Unique.{refused_told}
use Rattle.equal.specs.Compared.{says}
use Rattle.equal.proofs.equal.Reads as reads
use Rattle.equal.proofs.equal.Kinds as kinds
use Rattle.equal.proofs.same_tree.Reads as same_tree
use Rattle.equal.proofs.same_tree.Kinds as same-tree-kinds
use Rattle.equal.proofs.same.Reads as same
use Rattle.equal.proofs.same.Kinds as same-kinds
use Rattle.equal.proofs.is_whole.Reads as is_whole
use Rattle.equal.proofs.is_whole.Kinds as is-whole-kinds
use Rattle.equal.proofs.rests_differ.Reads as rests-differ
use Rattle.equal.proofs.rests_differ.Kinds as rests-differ-kinds
use Rattle.equal.proofs.same_rest.Reads as same_rest
use Rattle.equal.proofs.same_rest.Kinds as same-rest-kinds

said : paper.Compared → Verdict
said d = told d.number d.place d.flaw

says_once : (r r' : Result Bool Refused) (d : paper.Compared) → says r ≡ d → says r' ≡ d → r ≡ r'
unfolding said
says_once (Ok n) (Ok m) d e q = ap (λ (x : paper.Compared). Ok x.yes) (e ∙ sym q)
says_once (Ok n) (Err r) d e q = absurd (omega (arith, some_number r.refusal, ap (λ (x : paper.Compared). x.number) (e ∙ sym q)))
says_once (Err r) (Ok n) d e q = absurd (omega (arith, some_number r.refusal, ap (λ (x : paper.Compared). x.number) (e ∙ sym q)))
says_once (Err r) (Err r') d e q =
    ap Err (refused_told r r' (ap said (e ∙ sym q))
    (ap (λ (x : paper.Compared). x.which) (e ∙ sym q)))

pub equal_once : Once 2 kinds.ps kinds.r reads.Pre reads.Post
equal_once κs a v v' x x' q p p' = says_once v v' _ p p'

pub same_tree_once : Once 3 same-tree-kinds.ps same-tree-kinds.r same_tree.Pre same_tree.Post
same_tree_once κs a v v' x x' q p p' =
    p q.how q.one q.other q.one_there q.other_there ∙ sym (p' q.how q.one q.other q.one_there q.other_there)

pub same_once : Once 3 same-kinds.ps same-kinds.r same.Pre same.Post
same_once κs a v v' x x' q p p' =
    p q.how q.one q.other q.one_there q.other_there ∙ sym (p' q.how q.one q.other q.one_there q.other_there)

pub is_whole_once : Once 1 is-whole-kinds.ps is-whole-kinds.r is_whole.Pre is_whole.Post
is_whole_once κs a v v' x x' q p p' = p ∙ sym p'

pub rests_differ_once : Once 1 rests-differ-kinds.ps rests-differ-kinds.r rests-differ.Pre rests-differ.Post
rests_differ_once κs a v v' x x' q p p' = p ∙ sym p'

pub same_rest_once : Once 2 same-rest-kinds.ps same-rest-kinds.r same_rest.Pre same_rest.Post
same_rest_once κs a v v' x x' q p p' =
    p q.how q.one q.other q.one_there q.other_there ∙ sym (p' q.how q.one q.other q.one_there q.other_there)

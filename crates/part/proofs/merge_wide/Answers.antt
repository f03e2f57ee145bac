-- As for other terms the comparison of the rests decides, and what is out of range stays so.
use Rattle.std.proofs.Common.{sym, ap, ◌∙◌}
use Rattle.paper.specs.Equal.{equal}
use Rattle.paper.specs.Rules.{term_of}
use Rattle.note.specs.Note.{note}
use Rattle.part.proofs.PartLaws.{term_apart, wide_over}
use Rattle.part.proofs.merge_wide.Goals as goal

pub returns-then-same_rest-clause-merged_is : goal.returns-then-same_rest-clause-merged_is
returns-then-same_rest-clause-merged_is c = λ x t h there.
    wide_over x t
    (ap (λ r. equal r (term_of t).rest) h.rest ∙ sym (c.same_rest.ensures note h.member t h.there there) ∙ c.if-same_rest.true) h.wide

pub returns-clause-merged_is : goal.returns-clause-merged_is
returns-clause-merged_is c = λ x t h there.
    term_apart x t
    (ap (λ r. equal r (term_of t).rest) h.rest ∙ sym (c.same_rest.ensures note h.member t h.there there) ∙ c.if-same_rest.false)

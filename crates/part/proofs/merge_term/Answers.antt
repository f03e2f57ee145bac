-- Terms are like where their rests are equal, so the rests decide: where they are seen to differ (HeadLaws), or the comparison says so, the two
-- stay apart; where they are equal the coefficients are added.
use Rattle.std.proofs.Common.{sym, ap, ◌∙◌}
use Rattle.paper.specs.Equal.{equal}
use Rattle.paper.specs.Rules.{term_of}
use Rattle.note.proofs.ToldLaws.{some_told}
use Rattle.note.specs.Note.{note}
use Rattle.equal.proofs.HeadLaws.{rests_unlike}
use Rattle.part.proofs.PartLaws.{term_apart}
use Rattle.part.proofs.merge_term.Goals as goal

pub rests_differ-requires : goal.rests_differ-requires
rests_differ-requires c = let some = c.requires in (some_told some.one_there, some_told some.other_there)

pub returns-then-rests_differ-clause-merged_is : goal.returns-then-rests_differ-clause-merged_is
returns-then-rests_differ-clause-merged_is c = λ x t h there.
    term_apart x t
    (ap (λ r. equal r (term_of t).rest) h.rest ∙ rests_unlike h.there there (sym c.rests_differ.ensures ∙ c.if-rests_differ.true))

pub returns-then-same_rest-clause-merged_is : goal.returns-then-same_rest-clause-merged_is
returns-then-same_rest-clause-merged_is c = λ x t h there.
    c.add_term.ensures.merged_is x t h there
    (ap (λ r. equal r (term_of t).rest) h.rest ∙ sym (c.same_rest.ensures note h.member t h.there there) ∙ c.if-same_rest.true)

pub returns-clause-merged_is : goal.returns-clause-merged_is
returns-clause-merged_is c = λ x t h there.
    term_apart x t
    (ap (λ r. equal r (term_of t).rest) h.rest ∙ sym (c.same_rest.ensures note h.member t h.there there) ∙ c.if-same_rest.false)

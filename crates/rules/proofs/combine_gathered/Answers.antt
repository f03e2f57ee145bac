-- `rules::combine_gathered`: at a leaf, at a power, and where a member is one that an earlier rule looks for, nothing is said, and what is pending and done is
-- as it was; else the node's like members are combined.
use mathlib.Core.Path.{refl, sym, ap, ◌∙◌}
use Rattle.note.proofs.ToldLaws.{record_within}
use Rattle.rules.specs.Alike.{any_earlier}
use Rattle.rules.proofs.Dropping.{held_members}
use Rattle.rules.proofs.RuleLaws.{ready_tree, is_node_lem, kind_told}
use Rattle.rules.proofs.Gathering.{own_members}
use Rattle.rules.proofs.combine_gathered.Goals as goal

pub at-requires : goal.at-requires
at-requires c = record_within (ready_tree c.requires.2)

pub returns-in_default : goal.returns-in_default
returns-in_default c = λ t rest h. (h.stands, refl)

pub any_earlier-requires : goal.any_earlier-requires
any_earlier-requires c =
    let h = c.requires.2 in
    (_, held_members (is_node_lem h _ (sym (kind_told h c.at.ensures.named) ∙ c.in-Some.ensures)).held)

pub returns-then-any_earlier : goal.returns-then-any_earlier
returns-then-any_earlier c = λ t rest h. (h.stands, refl)

pub combine_members-requires : goal.combine_members-requires
combine_members-requires c = (c.requires, sym (kind_told c.requires.2 c.at.ensures.named) ∙ c.in-Some.ensures)

pub returns : goal.returns
returns c =
    λ t rest h.
    let s = is_node_lem h _ (sym (kind_told h c.at.ensures.named) ∙ c.in-Some.ensures) in
    c.combine_members.ensures t rest h
    (ap (any_earlier c.in-Some.terms) (own_members h s) ∙ sym (c.any_earlier.ensures s.members (held_members s.held)) ∙ c.if-any_earlier.false)

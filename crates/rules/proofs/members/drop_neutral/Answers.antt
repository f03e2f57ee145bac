-- `rules::members::drop_neutral`: at a tree of another kind neither step applies; at a node of its kind the step applies where a member is the integer that the
-- node can do without, and then all such are dropped.
use mathlib.Core.Path.{refl, sym, ap, ◌∙◌}
use lib.IntN.{pos}
use Rattle.paper.specs.Record.{mark_in}
use Rattle.paper.specs.Tree.{to_list}
use Rattle.paper.specs.Rules as paper
use Rattle.paper.specs.Rules.{is_the, any_of, drop_all}
use Rattle.part.specs.Like.{node_of}
use Rattle.note.proofs.ToldLaws.{record_within}
use Rattle.rules.proofs.Dropping.{held_members}
use Rattle.rules.proofs.RuleLaws.{ready_tree, of_kind, told_is_not, drops, looks_elsewhere, finds, finds_none}
use Rattle.rules.proofs.members.drop_neutral.Goals as goal

pub at-requires : goal.at-requires
at-requires c = record_within (ready_tree c.requires.2)

pub returns-then-ne : goal.returns-then-ne
returns-then-ne c =
    λ t rest h.
    (looks_elsewhere h (drops c.args.sum) (λ e. told_is_not _ _ c.at.ensures.all c.ne.ensures c.if-ne.true (e ∙ sym c.node_kind.ensures)), refl, refl)

pub any_member-requires : goal.any_member-requires
any_member-requires c =
    let s = of_kind c.requires.2 _ _ c.at.ensures.all c.ne.ensures c.if-ne.false c.node_kind.ensures in
    ((s.members, held_members s.held), c.neutral-z.ensures.1)

pub drop_members-requires : goal.drop_members-requires
drop_members-requires c =
    let s = of_kind c.requires.2 _ _ c.at.ensures.all c.ne.ensures c.if-ne.false c.node_kind.ensures in
    ((s.members, c.requires.1, s.held), c.neutral-z.ensures.1)

pub returns-then-any_member : goal.returns-then-any_member
returns-then-any_member c =
    let g = c.args in
    λ t rest h.
    let s = of_kind h _ _ c.at.ensures.all c.ne.ensures c.if-ne.false c.node_kind.ensures in
    let l = to_list s.members in
    let searched = c.any_member.ensures s.members (held_members s.held) ∙ ap (λ z. any_of (is_the (pos z)) l) c.neutral-z.ensures.0 in
    let b = c.drop_members.ensures s.members rest s.held in
    let same = ap (λ z. paper.applies (node_of g.sum (mark_in g.work.now g.p) (drop_all (is_the (pos z)) l))) (sym c.neutral-z.ensures.0) in
    (_, finds s (drops g.sum) (sym searched ∙ c.if-any_member.true) ∙ same, b.stands, b.done)

pub returns : goal.returns
returns c =
    λ t rest h.
    let s = of_kind h _ _ c.at.ensures.all c.ne.ensures c.if-ne.false c.node_kind.ensures in
    let searched = c.any_member.ensures s.members (held_members s.held)
    ∙ ap (λ z. any_of (is_the (pos z)) (to_list s.members)) c.neutral-z.ensures.0 in
    (finds_none s (drops c.args.sum) (sym searched ∙ c.if-any_member.false), refl, refl)

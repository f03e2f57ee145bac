-- `rules::gathered::combine_members`: the members are walked over; where nothing is removed, or the range is left, what is pending and done is as it was,
-- and where nothing is removed no rule applies; else a node is made of what came out, and what is said of that is said of the step (Gathering).
use mathlib.Core.Path.{◌∙◌}
use Rattle.note.proofs.ToldLaws.{some_told, record_within}
use Rattle.rules.proofs.RuleLaws.{ready_tree, ready_again, is_node_lem}
use Rattle.rules.proofs.CombineLaws.{standing}
use Rattle.rules.proofs.Gathering.{no_rule_applies, emerges, combines}
use Rattle.rules.proofs.gathered.combine_members.Goals as goal

pub mark-mark-requires : goal.mark-mark-requires
mark-mark-requires c = record_within (ready_tree c.requires.0.2)

pub walk_members-requires : goal.walk_members-requires
walk_members-requires c =
    let s = is_node_lem c.requires.0.2 _ c.requires.1 in
    (s.members, standing s.held)

pub returns-in_default : goal.returns-in_default
returns-in_default c =
    λ t rest h none.
    let s = is_node_lem h _ c.requires.1 in
    let v = c.walk_members.ensures s.members (standing s.held) in
    (v.pending ∙ h.stands, v.done)

pub returns-in_default-walked : goal.returns-in_default-walked
returns-in_default-walked c =
    λ t rest h none.
    let s = is_node_lem h _ c.requires.1 in
    let v = c.walk_members.ensures s.members (standing s.held) in
    let a = c.in-Ok.ensures s.members (standing s.held) in
    (no_rule_applies h s c.args.edition c.requires.1 none (rw c.in_default-walked.is at a.answers), v.pending ∙ h.stands, v.done)

pub skip_tree-end-requires : goal.skip_tree-end-requires
skip_tree-end-requires c =
    let h = c.requires.0.2 in
    let s = is_node_lem h _ c.requires.1 in
    let r = c.walk_members in
    let v = r.ensures s.members (standing s.held) in
    some_told (ready_tree (ready_again h _ _ r.auto.out r.auto.work v.pending))

pub make_node-requires : goal.make_node-requires
make_node-requires c =
    let h = c.requires.0.2 in
    let s = is_node_lem h _ c.requires.1 in
    let r = c.walk_members in
    let v = r.ensures s.members (standing s.held) in
    let a = c.in-Ok.ensures s.members (standing s.held) in
    let m = rw c.in-Some.is at a.answers in
    let ends = c.skip_tree-end.ensures _ _ (ready_tree (ready_again h _ _ r.auto.out r.auto.work v.pending)) in
    (_, _, _, emerges h s ends m.0 _ c.mark-mark.ensures.0 _ _ r.auto.out r.auto.work v.pending m.1)

pub returns : goal.returns
returns c =
    let r = c.walk_members in
    λ t rest h none.
    let s = is_node_lem h _ c.requires.1 in
    let v = r.ensures s.members (standing s.held) in
    let a = c.in-Ok.ensures s.members (standing s.held) in
    let m = rw c.in-Some.is at a.answers in
    let ends = c.skip_tree-end.ensures _ _ (ready_tree (ready_again h _ _ r.auto.out r.auto.work v.pending)) in
    combines h s ends m.0 _ c.mark-mark.ensures.0 c.requires.1 none c.args.edition v.done c.make_node.new.out c.make_node.new.work c.make_node.result
    (c.make_node.ensures _ _ _ (emerges h s ends m.0 _ c.mark-mark.ensures.0 _ _ r.auto.out r.auto.work v.pending m.1))

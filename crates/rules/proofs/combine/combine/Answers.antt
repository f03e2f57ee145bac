-- `rules::combine::combine`: at a tree of another kind the step does not apply; at a node of its kind the members are walked over, and what comes out is put
-- back before all that followed the node.
use mathlib.Core.Path.{refl, sym, ◌∙◌, subst}
use native.Mathlib.Omega.{arith}
use Rattle.std.proofs.lemmas.Result.{err_from_is_err_and}
use Rattle.paper.specs.Record.{mark_in}
use Rattle.paper.specs.Tree.{to_list}
use Rattle.part.specs.Like.{node_of}
use Rattle.note.proofs.ToldLaws.{some_told, record_within}
use Rattle.rebuilt.specs.Written.{Light}
use Rattle.walk.specs.Walked.{came_out}
use Rattle.rules.proofs.Dropping.{held_length}
use Rattle.rules.proofs.RuleLaws.{ready_tree, ready_again, combine_other, combine_light, of_kind, told_is_not, combine_at}
use Rattle.rules.proofs.CombineLaws.{standing, after_walk, came_built, came_short, end_within}
use Rattle.rules.proofs.Gathering.{own_end}
use Rattle.rules.proofs.Puts.{put_follows}
use Rattle.rules.proofs.combine.combine.Goals as goal

pub at-requires : goal.at-requires
at-requires c = record_within (ready_tree c.requires.2)

pub returns-then-ne : goal.returns-then-ne
returns-then-ne c =
    λ t rest h. (combine_other h c.args.terms (λ e. told_is_not _ _ c.at.ensures.all c.ne.ensures c.if-ne.true (e ∙ sym c.node_kind.ensures)), refl, refl)

pub mark-mark-requires : goal.mark-mark-requires
mark-mark-requires c =
    let s = of_kind c.requires.2 _ _ c.at.ensures.all c.ne.ensures c.if-ne.false c.node_kind.ensures in
    omega (arith, held_length s.held)

pub walk_members-requires : goal.walk_members-requires
walk_members-requires c =
    let s = of_kind c.requires.2 _ _ c.at.ensures.all c.ne.ensures c.if-ne.false c.node_kind.ensures in
    (s.members, standing s.held)

pub returns-in_err-walked : goal.returns-in_err-walked
returns-in_err-walked c =
    let left = err_from_is_err_and c.from_residual.result c.from_residual.ensures.1 in
    λ t rest h.
    let s = of_kind h _ _ c.at.ensures.all c.ne.ensures c.if-ne.false c.node_kind.ensures in
    rw left.1 (combine_at s ∙ (c.in_err-walked.ensures s.members (standing s.held)).answers _)

pub returns-in_default : goal.returns-in_default
returns-in_default c =
    λ t rest h.
    let s = of_kind h _ _ c.at.ensures.all c.ne.ensures c.if-ne.false c.node_kind.ensures in
    let v = c.in_ok-walked.ensures s.members (standing s.held) in
    (combine_at s ∙ (rw c.in_default.is at v.answers) _, v.pending, v.done)

pub skip_tree-end-requires : goal.skip_tree-end-requires
skip_tree-end-requires c =
    let h = c.requires.2 in
    let s = of_kind h _ _ c.at.ensures.all c.ne.ensures c.if-ne.false c.node_kind.ensures in
    let r = c.walk_members in
    let v = r.ensures s.members (standing s.held) in
    some_told (ready_tree (ready_again h _ _ r.auto.out r.auto.work v.pending))

pub put_back-requires : goal.put_back-requires
put_back-requires c =
    let g = c.args in
    let h = c.requires.2 in
    let s = of_kind h _ _ c.at.ensures.all c.ne.ensures c.if-ne.false c.node_kind.ensures in
    let r = c.walk_members in
    let v = c.in_ok-walked.ensures s.members (standing s.held) in
    let m = (rw c.in-Some.is at v.answers).0 in
    let k = own_end h s (c.skip_tree-end.ensures _ _ (ready_tree (ready_again h _ _ r.auto.out r.auto.work v.pending))) in
    let light = subst (λ μ. Light (node_of g.terms μ (came_out g.terms (to_list s.members)))) (sym c.mark-mark.ensures.0)
    (combine_light h g.terms _ (combine_at s ∙ m.applies _)) in (
      (_, came_built s.held k m r.auto.out, m.many, light),
      came_short s.held k m,
      omega (arith, end_within s.held k, r.auto.work),
    )

pub returns : goal.returns
returns c =
    let g = c.args in
    let r = c.walk_members in
    λ t rest h.
    let s = of_kind h _ _ c.at.ensures.all c.ne.ensures c.if-ne.false c.node_kind.ensures in
    let v = c.in_ok-walked.ensures s.members (standing s.held) in
    let m = (rw c.in-Some.is at v.answers).0 in
    let k = own_end h s (c.skip_tree-end.ensures _ _ (ready_tree (ready_again h _ _ r.auto.out r.auto.work v.pending))) in
    let l = came_out g.terms (to_list s.members) in
    let light = subst (λ μ. Light (node_of g.terms μ l)) (sym c.mark-mark.ensures.0) (combine_light h g.terms _ (combine_at s ∙ m.applies _)) in
    let p = c.put_back.ensures l (came_built s.held k m r.auto.out) m.many light in
    let b = put_follows p c.mark-mark.ensures.0 (after_walk s.held k _ v.pending) v.done in
    (node_of g.terms (mark_in g.work.now g.p) l, combine_at s ∙ m.applies _, b.stands, b.done)

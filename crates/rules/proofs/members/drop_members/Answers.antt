-- `rules::members::drop_members`: where one member alone is kept, the node of it is itself, and it is moved to where the node ended (`lone_put`); where one
-- member alone is dropped, those before it are moved (`one_put`); else what is kept is copied and put back.
use Prim.Native.Nat.{◌+◌}
use mathlib.Core.Path.{◌≡◌, sym, ◌∙◌}
use native.Mathlib.Omega.{arith}
use lib.ListN.{length}
use Rattle.paper.specs.Tree.{count, to_list}
use Rattle.paper.proofs.EncodeLaws.{count_records}
use Rattle.rules.proofs.Dropping.{held_members, held_length, kept}
use Rattle.rules.proofs.Counting.{lone, lone_put}
use Rattle.rules.proofs.Around.{kept_most, one_dropped, around, one_put}
use Rattle.rules.proofs.members.drop_members.Goals as goal

pub count_kept-kept-requires : goal.count_kept-kept-requires
count_kept-kept-requires c = let q = c.requires in ((q.0.0, held_members q.0.2), q.1)

pub move_to_end-requires : goal.move_to_end-requires
move_to_end-requires c =
    let h = c.requires.0.2 in
    let m = held_members h in
    let e = c.count_kept-kept.ensures _ m in
    let s = lone m (sym e.0 ∙ c.if-kept-eq1.true) e.1 e.3 in
    ((s.tree, s.there, s.before), omega (arith, held_length h, e.3))

pub returns-then-kept-eq1 : goal.returns-then-kept-eq1
returns-then-kept-eq1 c =
    λ f rest h.
    let m = held_members h in
    let e = c.count_kept-kept.ensures f m in
    let s = lone m (sym e.0 ∙ c.if-kept-eq1.true) e.1 e.3 in
    lone_put h c.args.sum _ s e.3 (c.move_to_end.ensures s.tree s.there s.before)

pub overflow_add-kept : goal.overflow_add-kept
overflow_add-kept c =
    let q = c.requires.0 in
    let e = c.count_kept-kept.ensures q.0 (held_members q.2) in
    omega (arith, e.0, kept_most c.args.z q.0, count_records q.0, held_length q.2)

pub count-requires : goal.count-requires
count-requires c = omega (arith, held_length c.requires.0.2)

pub drop_one-requires : goal.drop_one-requires
drop_one-requires c =
    let q = c.requires.0 in
    let h = q.2 in
    let e = c.count_kept-kept.ensures q.0 (held_members h) in
    let all_but : length (kept c.args.z (to_list q.0)) + 1 ≡ count q.0 = omega (arith, e.0, c.if-kept-count.true, c.count.ensures.0, h.counted) in
    let r = one_dropped h all_but e.2 in
    (r.before, r.behind, _, around h all_but (λ x. c.if-kept-eq1.false (e.0 ∙ x)) r)

pub returns-then-kept-count : goal.returns-then-kept-count
returns-then-kept-count c =
    λ f rest h.
    let e = c.count_kept-kept.ensures f (held_members h) in
    let all_but : length (kept c.args.z (to_list f)) + 1 ≡ count f = omega (arith, e.0, c.if-kept-count.true, c.count.ensures.0, h.counted) in
    let r = one_dropped h all_but e.2 in
    one_put c.args.sum _ r (c.drop_one.ensures r.before r.behind rest (around h all_but (λ x. c.if-kept-eq1.false (e.0 ∙ x)) r))

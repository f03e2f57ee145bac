-- `rules::gathered::make_node`: the node is made (`Collapsed`); with fewer than two members, or where no new member is named, it is put back; else it is
-- looked at, and stays or is put back (Emerging).
use Prim.Native.Nat.{◌≤◌}
use mathlib.Core.Path.{refl, sym, ◌∙◌}
use native.Mathlib.Omega.{arith}
use lib.ListN.{length}
use Rattle.rules.proofs.Emerging.{back_fits, goes_back, looked, stays}
use Rattle.rules.proofs.gathered.make_node.Goals as goal

pub collapse-from-requires : goal.collapse-from-requires
collapse-from-requires c = let q = c.requires in (_, q.1, q.3.built, q.3.many, q.3.light)

pub copy_back-requires : goal.copy_back-requires
copy_back-requires c =
    let h = c.requires.3 in
    let q = back_fits h (c.collapse-from.ensures _ _ h.built h.many h.light) in
    (q.0, q.1, omega (arith, q.2, c.collapse-from.auto.out), q.3)

pub returns-then-came-lt-SEVERAL : goal.returns-then-came-lt-SEVERAL
returns-then-came-lt-SEVERAL c =
    let back = c.copy_back.ensures in
    λ l m rest h. goes_back h (c.collapse-from.ensures _ _ h.built h.many h.light) 0 _ _ _ _ refl refl back.0 back.1 c.step_of-step.ensures

pub copy_back-requires-in_default : goal.copy_back-requires-in_default
copy_back-requires-in_default c =
    let h = c.requires.3 in
    let q = back_fits h (c.collapse-from.ensures _ _ h.built h.many h.light) in
    (q.0, q.1, omega (arith, q.2, c.collapse-from.auto.out), q.3)

pub returns-in_default : goal.returns-in_default
returns-in_default c =
    let back = c.copy_back-in_default.ensures in
    λ l m rest h. goes_back h (c.collapse-from.ensures _ _ h.built h.many h.light) 0 _ _ _ _ refl refl back.0 back.1 c.step_of-step.ensures

pub is_quiet-requires : goal.is_quiet-requires
is_quiet-requires c =
    let h = c.requires.3 in
    let two : 2 ≤ length c.requires.1 = omega (arith, c.if-came-lt-SEVERAL.false, h.many) in
    (_, _, _, looked h (c.collapse-from.ensures _ _ h.built h.many h.light) two c.in-Some.new c.in-Some.is)

pub returns-then-is_quiet : goal.returns-then-is_quiet
returns-then-is_quiet c =
    λ l m rest h.
    let two : 2 ≤ length m = omega (arith, c.if-came-lt-SEVERAL.false, h.many) in
    let made = c.collapse-from.ensures _ _ h.built h.many h.light in
    let v = looked h made two c.in-Some.new c.in-Some.is in
    stays h made two c.in-Some.new c.in-Some.is c.args.edition _ _ (sym (c.is_quiet.ensures.by_index _ _ _ v) ∙ c.if-is_quiet.true)
    (c.is_quiet.ensures.around _ _ _ v) c.step_of-step.ensures

pub copy_back-requires-2 : goal.copy_back-requires-2
copy_back-requires-2 c =
    let h = c.requires.3 in
    let q = back_fits h (c.collapse-from.ensures _ _ h.built h.many h.light) in
    (q.0, q.1, omega (arith, q.2, c.collapse-from.auto.out), omega (arith, q.3, c.is_quiet.auto))

pub returns : goal.returns
returns c =
    let back = c.copy_back-2.ensures in
    λ l m rest h.
    let two : 2 ≤ length m = omega (arith, c.if-came-lt-SEVERAL.false, h.many) in
    let made = c.collapse-from.ensures _ _ h.built h.many h.light in
    let v = looked h made two c.in-Some.new c.in-Some.is in
    goes_back h made 0 _ _ _ _ (c.is_quiet.ensures.around _ _ _ v) c.is_quiet.auto.work back.0 back.1 c.step_of-step.ensures

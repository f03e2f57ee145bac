-- `driver::take_up`: each need is one law of Taking, for the node that is gathered.
use Prim.Native.Nat.{◌+◌, ◌-◌, ◌*◌}
use mathlib.Core.Path.{◌≡◌, refl, sym, ap, ◌∙◌}
use mathlib.Core.Bool.{true}
use native.Mathlib.Omega.{arith}
use lib.ListN.{drop}
use Rattle.std.specs.Prelude.{Ok}
use Rattle.std.proofs.lemmas.Result.{err_from_is_err_and}
use Rattle.paper.specs.Rules.{rules_of}
use Rattle.paper.specs.Driver.{ask}
use Rattle.still.specs.Still.{still_by}
use Rattle.still.proofs.StillLaws.{still_no_rule, still_by_lem}
use Rattle.driver.specs.declared.TakenUp.TheVariants as taken
use Rattle.driver.specs.Driven.{Burst, TakenIs}
use Rattle.driver.proofs.Taking.{tree_done, ends_quiet, scratch_room, size_fits, left_alone, place_kept, set_back}
use Rattle.driver.proofs.Taking.{same_tree, same_steps, ends_there, left_there, done_again, back_for_every}
use Rattle.driver.proofs.take_up.Goals as goal

pub still-requires : goal.still-requires
still-requires c =
    let b = c.requires.2 in
    (c.requires.0, tree_done b, scratch_room b)

pub returns-then-still : goal.returns-then-still
returns-then-still c =
    let g = c.args in
    let t = c.requires.0 in
    let b = c.requires.2 in
    let told : still_by g.edition t ≡ true = sym (c.still.ensures.value t (tree_done b)) ∙ c.if-still.true in
    let scratch = c.still.ensures.around t (tree_done b) in
    back_for_every b
    (λ u r. TakenIs (rules_of g.edition) u r g.out.now g.out.now c.still.new.d g.steps.now g.steps.now g.d g.e g.s (Ok (taken.Finished g.q)))
    (still_no_rule g.edition t (still_by_lem g.edition t told), refl, left_alone b scratch, place_kept b scratch, refl)

pub overflow_sub-at : goal.overflow_sub-at
overflow_sub-at c =
    let fits = size_fits c.requires.2 in
    omega (arith, fits)

pub overflow_mul-size : goal.overflow_mul-size
overflow_mul-size c = omega (arith, size_fits c.requires.2, c.well_formed)

pub copy_bytes-requires : goal.copy_bytes-requires
copy_bytes-requires c =
    let k = c.still.auto in
    let fits = size_fits c.requires.2 in
    (omega (arith, fits, k), omega (arith, fits, k))

pub ease-requires : goal.ease-requires
ease-requires c =
    let b = c.requires.2 in
    let scratch = c.still.ensures.around c.requires.0 (tree_done b) in
    (c.requires.0, c.requires.1, set_back b scratch c.copy_bytes.new.dst c.copy_bytes.ensures c.copy_bytes.auto.dst)

pub returns-in_err-eased : goal.returns-in_err-eased
returns-in_err-eased c =
    let g = c.args in
    let b = c.requires.2 in
    let scratch = c.still.ensures.around c.requires.0 (tree_done b) in
    let moved = set_back b scratch c.copy_bytes.new.dst c.copy_bytes.ensures c.copy_bytes.auto.dst in
    let left = err_from_is_err_and c.from_residual.result c.from_residual.ensures.1 in
    rw (left.1, left.2)
    (back_for_every b (λ t x. Burst (rules_of g.edition) t g.s c.in_err-eased.field-0.0.steps) (c.in_err-eased.ensures c.requires.0 c.requires.1 moved))

pub returns-in-Quiet : goal.returns-in-Quiet
returns-in-Quiet c =
    let g = c.args in
    let b = c.requires.2 in
    let scratch = c.still.ensures.around c.requires.0 (tree_done b) in
    let moved = set_back b scratch c.copy_bytes.new.dst c.copy_bytes.ensures c.copy_bytes.auto.dst in
    let r = c.ease in
    let a = rw c.in-Quiet.is at (c.in_ok-eased.ensures c.requires.0 c.requires.1 moved) in
    let ends = ends_quiet b in
    back_for_every b
    (λ t x. TakenIs (rules_of g.edition) t x g.out.now r.new.out r.new.work g.steps.now r.new.steps g.d g.e g.s (Ok (taken.Quiet c.in-Quiet.f g.q))) (
      a.0,
      a.1,
      a.2,
      a.3,
      a.4,
      ap (λ i. drop (i * 16) r.new.work) (sym ends) ∙ a.5,
      b.place ∙ sym (r.auto.work ∙ c.copy_bytes.auto.dst ∙ c.still.auto.d),
      a.6,
      a.7,
    )

pub returns-then-s-settled : goal.returns-then-s-settled
returns-then-s-settled c =
    let g = c.args in
    let b = c.requires.2 in
    let scratch = c.still.ensures.around c.requires.0 (tree_done b) in
    let moved = set_back b scratch c.copy_bytes.new.dst c.copy_bytes.ensures c.copy_bytes.auto.dst in
    let r = c.ease in
    let a = rw c.in-Settled.is at (c.in_ok-eased.ensures c.requires.0 c.requires.1 moved) in
    back_for_every b
    (λ t x. TakenIs (rules_of g.edition) t x g.out.now r.new.out r.new.work g.steps.now r.new.steps g.d g.e g.s (Ok (taken.Stepped c.in-Settled.settled)))
    (a.0, a.1, c.if-s-settled.true, a.2)

pub overflow_mul-settled : goal.overflow_mul-settled
overflow_mul-settled c =
    let b = c.requires.2 in
    let scratch = c.still.ensures.around c.requires.0 (tree_done b) in
    let moved = set_back b scratch c.copy_bytes.new.dst c.copy_bytes.ensures c.copy_bytes.auto.dst in
    let a = rw c.in-Settled.is at (c.in_ok-eased.ensures c.requires.0 c.requires.1 moved) in
    let ends = ends_there b _ a.1 c.ease.auto.out c.if-s-settled.false in
    omega (arith, ends, c.ease.auto, c.copy_bytes.auto, c.still.auto, c.well_formed)

pub overflow_mul-size-in-Settled : goal.overflow_mul-size-in-Settled
overflow_mul-size-in-Settled c = omega (arith, size_fits c.requires.2, c.well_formed)

pub copy_bytes-requires-in-Settled : goal.copy_bytes-requires-in-Settled
copy_bytes-requires-in-Settled c =
    let b = c.requires.2 in
    let scratch = c.still.ensures.around c.requires.0 (tree_done b) in
    let moved = set_back b scratch c.copy_bytes.new.dst c.copy_bytes.ensures c.copy_bytes.auto.dst in
    let a = rw c.in-Settled.is at (c.in_ok-eased.ensures c.requires.0 c.requires.1 moved) in
    let ends = ends_there b _ a.1 c.ease.auto.out c.if-s-settled.false in
    let fits = size_fits b in
    (omega (arith, fits, c.ease.auto), omega (arith, ends, fits))

pub overflow_add-result : goal.overflow_add-result
overflow_add-result c =
    let b = c.requires.2 in
    let scratch = c.still.ensures.around c.requires.0 (tree_done b) in
    let moved = set_back b scratch c.copy_bytes.new.dst c.copy_bytes.ensures c.copy_bytes.auto.dst in
    let a = rw c.in-Settled.is at (c.in_ok-eased.ensures c.requires.0 c.requires.1 moved) in
    let ends = ends_there b _ a.1 c.ease.auto.out c.if-s-settled.false in
    omega (arith, ends, c.ease.auto, c.copy_bytes.auto, c.still.auto, c.well_formed)

pub returns-else-s-settled : goal.returns-else-s-settled
returns-else-s-settled c =
    let g = c.args in
    let b = c.requires.2 in
    let scratch = c.still.ensures.around c.requires.0 (tree_done b) in
    let moved = set_back b scratch c.copy_bytes.new.dst c.copy_bytes.ensures c.copy_bytes.auto.dst in
    let r = c.ease in
    let a = rw c.in-Settled.is at (c.in_ok-eased.ensures c.requires.0 c.requires.1 moved) in
    let none = c.if-s-settled.false in
    let back = c.copy_bytes-in-Settled in
    back_for_every b
    (λ t x. TakenIs (rules_of g.edition) t x g.out.now back.new.dst r.new.work g.steps.now r.new.steps g.d g.e g.s
    (Ok (taken.Finished (c.in-Settled.settled.at + (g.e - g.d))))) (
      ap (ask (rules_of g.edition)) (same_tree b _ a.1 r.auto.out none) ∙ a.2,
      done_again b _ a.1 r.auto.out none back.new.dst back.ensures,
      left_there b _ a.1 r.auto.out none,
      ends_there b _ a.1 r.auto.out none,
      same_steps b _ a.1 r.auto.out none,
    )

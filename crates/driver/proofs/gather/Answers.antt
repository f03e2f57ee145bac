-- `driver::gather`: each need is one law of Between on the member that the driver waited for.
use Prim.Native.Nat.{ℕ, ◌+◌, ◌-◌}
use mathlib.Core.Path.{◌≡◌, refl, sym, ap, ◌∙◌, subst}
use mathlib.Core.Bool.{Bool, ◌&&◌}
use native.Mathlib.Omega.{arith}
use lib.Dec.{eqb}
use Rattle.paper.specs.Record.{is_node}
use Rattle.driver.specs.Paused.{joined_to, Midway}
use Rattle.driver.proofs.Between.{onward, gather_fits, kept_whole, opened_into}
use Rattle.driver.proofs.gather.Goals as goal

-- the test, in terms of what is done
told : {k k' j j' : ℕ} {r b : Bool} → k' ≡ k → j' ≡ j → r ≡ (eqb j' k' && is_node k') → r ≡ b → (eqb j k && is_node k) ≡ b
told {k} {k'} {j} {j'} node member e f = ap (λ i. eqb i k && is_node k) (sym member) ∙ ap (λ i. eqb j' i && is_node i) (sym node) ∙ sym e ∙ f

pub kind-k-requires : goal.kind-k-requires
kind-k-requires c = (gather_fits c.requires.3).2

pub kind-requires : goal.kind-requires
kind-requires c = omega (arith, gather_fits c.requires.3)

pub count-m-requires : goal.count-m-requires
count-m-requires c = omega (arith, gather_fits c.requires.3)

pub overflow_mul-e : goal.overflow_mul-e
overflow_mul-e c = omega (arith, gather_fits c.requires.3, c.well_formed)

pub overflow_mul-e-then-opens : goal.overflow_mul-e-then-opens
overflow_mul-e-then-opens c = omega (arith, gather_fits c.requires.3, c.well_formed)

pub overflow_add-e : goal.overflow_add-e
overflow_add-e c = omega (arith, gather_fits c.requires.3, c.well_formed)

pub overflow_sub-g : goal.overflow_sub-g
overflow_sub-g c = omega (arith, gather_fits c.requires.3, c.well_formed)

pub overflow_sub-g-then-opens : goal.overflow_sub-g-then-opens
overflow_sub-g-then-opens c = omega (arith, gather_fits c.requires.3, c.well_formed)

pub overflow_mul-g : goal.overflow_mul-g
overflow_mul-g c = omega (arith, gather_fits c.requires.3, c.well_formed)

pub shift_left-requires : goal.shift_left-requires
shift_left-requires c =
    let f = gather_fits c.requires.3 in
    (omega arith, omega (arith, f))

pub overflow_add-s : goal.overflow_add-s
overflow_add-s c = omega (arith, gather_fits c.requires.3)

pub joined-requires : goal.joined-requires
joined-requires c =
    let f = gather_fits c.requires.3 in
    (f.5, omega (arith, f.4, c.count-m.ensures.1))

pub returns-then-opens : goal.returns-then-opens
returns-then-opens c =
    let g = c.args in
    let m = c.count-m in
    let d = c.shift_left in
    let e : c.joined.result ≡ joined_to g.s (g.g - 1) (g.s.openings + 1) m.result = c.joined.ensures in
    let same = e ∙ ap (joined_to g.s (g.g - 1) (g.s.openings + 1)) m.ensures.0 in (
      onward g.s e refl (omega arith),
      λ x work steps v. subst (λ y. Midway x d.new.d work steps y) (sym same)
          (opened_into v (told c.kind-k.ensures c.kind.ensures c.opens.ensures c.if-opens.true) d.new.d d.ensures d.auto.d),
    )

pub joined-requires-2 : goal.joined-requires-2
joined-requires-2 c =
    let f = gather_fits c.requires.3 in
    (f.5, omega (arith, f.4))

pub returns : goal.returns
returns c =
    let g = c.args in
    let e : c.joined-2.result ≡ joined_to g.s g.g g.s.openings 1 = c.joined-2.ensures in (
      onward g.s e refl (omega arith),
      λ x work steps v. subst (λ y. Midway x g.out.now work steps y) (sym e)
          (kept_whole v (told c.kind-k.ensures c.kind.ensures c.opens.ensures c.if-opens.false)),
    )

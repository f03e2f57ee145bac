-- One test a sign.
use Rattle.std.proofs.Common.{arith, sym, ◌≡◌, ℕ}
use mathlib.Core.Logic.{⊎_elim}
use borrow.Author.Tests.{eq-eqb, ne_eqb}
use Rattle.paper_text.specs.Levels.{sign_rank}
use Rattle.parse.proofs.sign_rank.Goals as goal

plus : (c : ℕ) → c ≡ 43 → 3 ≡ sign_rank c
unfolding sign_rank
plus c h = sym (rw (eq-eqb c 43 h))

times : (c : ℕ) → c ≡ 42 → 2 ≡ sign_rank c
unfolding sign_rank
times c h = sym (rw (ne_eqb c 43 (λ e. omega (arith, e, h)), eq-eqb c 42 h))

raised : (c : ℕ) → c ≡ 94 → 1 ≡ sign_rank c
unfolding sign_rank
raised c h = sym (rw (ne_eqb c 43 (λ e. omega (arith, e, h)), ne_eqb c 42 (λ e. omega (arith, e, h)), eq-eqb c 94 h))

minus : (c : ℕ) → c ≡ 45 → 1 ≡ sign_rank c
unfolding sign_rank
minus c h =
    sym (rw (ne_eqb c 43 (λ e. omega (arith, e, h)), ne_eqb c 42 (λ e. omega (arith, e, h)), ne_eqb c 94 (λ e. omega (arith, e, h)), eq-eqb c 45 h))

other : (c : ℕ) → (c ≡ 43 → ⊥) → (c ≡ 42 → ⊥) → (c ≡ 94 → ⊥) → (c ≡ 45 → ⊥) → 0 ≡ sign_rank c
unfolding sign_rank
other c p t r m = sym (rw (ne_eqb c 43 p, ne_eqb c 42 t, ne_eqb c 94 r, ne_eqb c 45 m))

pub returns-in-43 : goal.returns-in-43
returns-in-43 c = (plus c.args.c c.in-43.is, omega arith)

pub returns-in-42 : goal.returns-in-42
returns-in-42 c = (times c.args.c c.in-42.is, omega arith)

pub returns-in-94 : goal.returns-in-94
returns-in-94 c = (⊎_elim (λ h. minus c.args.c h) (λ h. raised c.args.c h) c.in-94.is, omega arith)

pub returns-in_default : goal.returns-in_default
returns-in_default c =
    (other c.args.c (λ e. omega (arith, e)) (λ e. omega (arith, e)) (λ e. grind (arith, e)) (λ e. grind (arith, e)), omega arith)

-- The evaluator's answer, case by case. An accepted table holds a tree, whose records are the table and whose value is the answer;
-- only the registers of its symbols, which are below 256, count.
use Rattle.std.proofs.Common.{◌≡◌, ℕ, ◌%◌, ◌^◌, ◌<◌, List, length, refl, ap, arith, ne_eqb}
use Rattle.paper.specs.Limits.{modulus}
use Rattle.paper.specs.Tree.{Tree, Forest, integer, symbol, sum, product, power, nil, cons, value, sum_value, product_value}
use Rattle.paper.specs.WellFormed.{WF, WFs}
use Rattle.paper.specs.Record.{Flaw, sound}
use Rattle.paper.specs.Verdict.{accepted, told, is_accepted, verdict}
use Rattle.paper.specs.Answers.{measured, register, tree_value, registers_verdict, valued}
use Rattle.paper.proofs.AcceptedLaws.{Holds}

-- the value depends on the registers of symbols below 256 only
module _ (ρ σ : ℕ → ℕ) (same : (k : ℕ) → k < 256 → ρ k ≡ σ k) where
  mutual
    unfolding value

    pub same_value : (t : Tree) → WF t → value t ρ ≡ value t σ
    same_value (integer μ z) w = refl
    same_value (symbol μ v) w = ap (λ (n : ℕ). n % modulus) (same v w.0)
    same_value (sum μ f) w = same_sum f w.1
    same_value (product μ f) w = same_product f w.1
    same_value (power μ b ξ e) w = ap (λ (n : ℕ). n ^ e % modulus) (same_value b w.0)

    same_sum : (f : Forest) → WFs f → sum_value f ρ ≡ sum_value f σ
    same_sum nil w = refl
    same_sum (cons t f) w = rw (same_value t w.0, same_sum f w.1)

    same_product : (f : Forest) → WFs f → product_value f ρ ≡ product_value f σ
    same_product nil w = refl
    same_product (cons t f) w = rw (same_value t w.0, same_product f w.1)

-- ---- the answer: refused by 1 to 5, by 6, or the tree's value
pub refused_table : (lim : ℕ) (s regs : List ℕ) (k p : ℕ) (f : Flaw) → told k p f ≡ verdict lim s → 0 < k
    → record { number = k; place = p; flaw = f; result = 0 } ≡ valued lim s regs
unfolding valued measured registers_verdict is_accepted
refused_table lim s regs k p f e h = let n = ne_eqb k 0 (λ z. omega arith) in rw (← e, n, n)

pub refused_registers : (lim : ℕ) (s regs : List ℕ) → verdict lim s ≡ accepted → (length regs ≡ 2048 → ⊥)
    → record { number = 6; place = 0; flaw = sound; result = 0 } ≡ valued lim s regs
unfolding valued measured registers_verdict is_accepted
refused_registers lim s regs e h = rw (e, ne_eqb (length regs) 2048 h)

pub value_told : (lim : ℕ) (s regs : List ℕ) (h : Holds lim s) → verdict lim s ≡ accepted → length regs ≡ 2048 → (v : ℕ)
    → v ≡ value h.tree (register regs) → record { number = 0; place = 0; flaw = sound; result = v } ≡ valued lim s regs
unfolding valued measured registers_verdict is_accepted tree_value
value_told lim s regs h e l v q = rw (e, l, h.read, q)

-- The arithmetic of the bound on tries, by weights alone: a tree of weight w whose run ends in weight v takes n tries, and
-- n + v·w² ≤ w + w·w². Each law is one way that a run goes.
use Prim.Native.Nat.{ℕ, suc, ◌+◌, ◌*◌, ◌-◌, ◌≤◌}
use mathlib.Core.Path.{◌≡◌}
use native.Mathlib.Omega.{arith}
use native.Mathlib.Nat.{mul-le-mul_left, mul-le-mul_right, mul-le-mul}
use Rattle.paper.specs.Cost.{cost}

-- n tries on a tree of weight w that ends in weight v
abbrev pub Within : ℕ → ℕ → ℕ → Type 0
Within w v n = n + v * (w * w) ≤ w + w * (w * w)

-- the larger with the larger: for v ≤ u and p ≤ q
crossed : (u v p q : ℕ) → v ≤ u → p ≤ q → u * p + v * q ≤ u * q + v * p
crossed u v p q h k = go (u - v) (q - p) (omega arith) (omega arith)
  where
    go : (d e : ℕ) → u ≡ v + d → q ≡ p + e → u * p + v * q ≤ u * q + v * p
    go d e x y = rw (x, y) (omega arith)

squares : {a b : ℕ} → a ≤ b → a * a ≤ b * b
squares h = mul-le-mul h h

-- a bound by a heavier tree's square
pub under : (w v n b : ℕ) → v ≤ w → w ≤ b → Within w v n → n + v * (b * b) ≤ w + w * (b * b)
under w v n b h k t = omega (arith, crossed w v (w * w) (b * b) h (squares k))

-- a step, and then the run of what it gives, of weight u
pub step_within : (x u v m : ℕ) → u ≤ x → v ≤ u → Within u v m → Within (suc x) v (suc m)
step_within x u v m h k t =
    let a = under u v m x k h t in
    let b : u * (x * x) ≤ x * (x * x) = mul-le-mul_right (x * x) h in
    let c : v * x ≤ x * x = mul-le-mul_right x (omega arith) in
    omega arith

-- members that weigh x together at the most, and nothing changed: as many tries as they weigh at the most
pub still_within : (x n : ℕ) → n ≤ x → Within (suc x) (suc x) (suc n)
still_within x n h = omega arith

-- members that weigh x together, their results y, gathered to a tree of weight u, and run again
pub again_within_lem : (x y n u v m : ℕ) → n + y * (x * x) ≤ x + x * (x * x) → u ≤ y + 1 → u ≤ x → v ≤ u → Within u v m
    → Within (suc x) v (suc (n + m))
again_within_lem x y n u v m h g k l t =
    let a = under u v m x l k t in
    let b : u * (x * x) ≤ (y + 1) * (x * x) = mul-le-mul_right (x * x) g in
    let c : v * x ≤ x * x = mul-le-mul_right x (omega arith) in
    omega arith

-- "at most the cube of the weight going in"
pub cube : (w v n : ℕ) → 1 ≤ w → 1 ≤ v → Within w v n → n ≤ w * (w * w)
cube w v n h k t =
    let a : 1 * (w * w) ≤ v * (w * w) = mul-le-mul_right (w * w) k in
    let b : 1 * w ≤ w * w = mul-le-mul_right w h in
    omega arith

-- what may still come, so that the count never leaves its range: how a pass pays for itself
pub pass_cost : (x y n u : ℕ) → n + y * (x * x) ≤ x + x * (x * x) → u ≤ y + 1 → u ≤ x → suc n + cost u ≤ cost (suc x)
unfolding cost
pass_cost x y n u h g k =
    let a : u * (u * u) ≤ u * (x * x) = mul-le-mul_left u (squares k) in
    let b : u * (x * x) ≤ (y + 1) * (x * x) = mul-le-mul_right (x * x) g in
    omega arith

-- The arithmetic of the square as a bound on tries, by weights alone: a tree of weight w whose run ends in weight v takes n tries. Two bounds:
-- where k levels under the node may not be finished yet, and all below is, 2n + v² ≤ w² + w + v + 2kw;
-- and of any tree, 4n + 2v² + 3 ≤ 3w² + 4w + 2v.
-- So each pass over a node is paid by the weight lost since the last one (from weight w, w² falls by about 2w for each unit), but for the first
-- after its members' own runs; such passes are paid by the weight of the nodes along a path, which fall by 2 with each level, and make a quarter of the
-- square at the most. Each law is one way that a run goes.
use Prim.Native.Nat.{ℕ, zero, suc, ◌+◌, ◌*◌, ◌≤◌, ◌<◌}
use native.Mathlib.Omega.{arith}
use native.Mathlib.Nat.{mul-le-mul_left, mul-le-mul}

-- ---- n tries on a tree of weight w that ends in weight v, with k levels under it that may not be finished
abbrev pub Inside : ℕ → ℕ → ℕ → ℕ → Type 0
Inside w v k n = 2 * n + v * v ≤ w * w + w + v + 2 * (k * w)

-- n tries on the members of such a tree, which weigh x together and in the end y
abbrev pub Members : ℕ → ℕ → ℕ → ℕ → Type 0
Members zero x y n = n ≤ x
Members (suc k) x y n = Inside x y k n

-- a tree and others beside it
pub beside_inside : (w v n x y m k : ℕ) → v ≤ w → y ≤ x → Inside w v k n → Inside x y k m → Inside (w + x) (v + y) k (n + m)
beside_inside w v n x y m k a b g h =
    let c : v * y ≤ w * x = mul-le-mul a b in
    omega arith

-- a step, and then the run of what it gives, of weight u, with one level more that may not be finished
pub step_inside : (w u v k m : ℕ) → u < w → Inside u v (suc k) m → Inside w v k (1 + (0 + m))
step_inside zero u v k m h t = absurd (omega arith)
step_inside (suc x) u v k m h t =
    let a : u * u ≤ x * x = mul-le-mul (omega arith) (omega arith) in
    let b : k * u ≤ k * x = mul-le-mul_left k (omega arith) in
    omega arith

-- nothing changed
pub still_inside : (w k x n : ℕ) → x < w → Members k x x n → Inside w w k (1 + n)
still_inside w zero x n h p = omega arith
still_inside w (suc k) x n h p =
    let a : k * x ≤ k * w = mul-le-mul_left k (omega arith) in
    omega arith

-- something changed: the members' results are gathered to a tree of weight u, all finished under it, and run again
pub again_inside : (w k x y n u v m : ℕ) → x < w → y ≤ x → u < w → u ≤ suc y → Members k x y n → Inside u v 0 m → Inside w v k (1 + (n + m))
again_inside zero k x y n u v m h i j l p q = absurd (omega arith)
again_inside (suc z) zero x y n u v m h i j l p q =
    let a : u * u ≤ z * z = mul-le-mul (omega arith) (omega arith) in
    omega arith
again_inside (suc z) (suc k) x y n u v m h i j l p q =
    let a : u * u ≤ suc y * suc y = mul-le-mul l l in
    let b : k * x ≤ k * z = mul-le-mul_left k (omega arith) in
    let c : x * x ≤ z * z = mul-le-mul (omega arith) (omega arith) in
    omega arith

-- ---- n tries on any tree of weight w that ends in weight v
abbrev pub Whole : ℕ → ℕ → ℕ → Type 0
Whole w v n = 4 * n + 2 * (v * v) + 3 ≤ 3 * (w * w) + 4 * w + 2 * v

-- n tries on c members, which weigh x together and in the end y, the squares of their weights being q together
abbrev pub Wholes : ℕ → ℕ → ℕ → ℕ → ℕ → Type 0
Wholes c q x y n = 4 * n + 2 * (y * y) + 3 * c ≤ q + 2 * (x * x) + 4 * x + 2 * y

pub beside_whole : (w v n c q x y m : ℕ) → v ≤ w → y ≤ x → Whole w v n → Wholes c q x y m → Wholes (suc c) (w * w + q) (w + x) (v + y) (n + m)
beside_whole w v n c q x y m a b g h =
    let d : v * y ≤ w * x = mul-le-mul a b in
    omega arith

pub step_whole : (w u v m : ℕ) → u < w → Whole u v m → Whole w v (1 + (0 + m))
step_whole w u v m h t =
    let a : u * u ≤ w * w = mul-le-mul (omega arith) (omega arith) in
    omega arith

pub still_whole : (w c q x n : ℕ) → x < w → q + 2 * x ≤ x * x + 3 * c → Wholes c q x x n → Whole w w (1 + n)
still_whole w c q x n h s p =
    let a : suc x * suc x ≤ w * w = mul-le-mul h h in
    omega arith

pub again_whole : (w c q x y n u v m : ℕ) → x < w → y ≤ x → u ≤ suc y → 2 ≤ c → q + 2 * x ≤ x * x + 2 → Wholes c q x y n → Inside u v 0 m
    → Whole w v (1 + (n + m))
again_whole w c q x y n u v m h i l two s p r =
    let a : u * u ≤ suc y * suc y = mul-le-mul l l in
    let b : suc x * suc x ≤ w * w = mul-le-mul h h in
    omega arith

-- two members or more: the squares of their weights, one that weighs w and others that weigh x
pub two_squares : (w q x : ℕ) → 1 ≤ w → 1 ≤ x → q ≤ x * x → w * w + q + 2 * (w + x) ≤ (w + x) * (w + x) + 2
two_squares zero q x a b h = absurd (omega arith)
two_squares (suc w) q zero a b h = absurd (omega arith)
two_squares (suc w) q (suc x) a b h = omega arith

-- so at most three quarters of the square and the weight, and at most the square
pub three_quarters : (w v n : ℕ) → 1 ≤ v → Whole w v n → 4 * n + 3 ≤ 3 * (w * w) + 4 * w
three_quarters w v n h p =
    let a : v * 1 ≤ v * v = mul-le-mul_left v h in
    omega arith

pub square : (w n : ℕ) → 4 * n + 3 ≤ 3 * (w * w) + 4 * w → n ≤ w * w
square zero n h = omega arith
square (suc zero) n h = omega arith
square (suc (suc zero)) n h = omega arith
square (suc (suc (suc w))) n h = omega arith

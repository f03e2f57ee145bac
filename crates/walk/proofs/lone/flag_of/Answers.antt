-- The 15 bits times n stay far below 2^64, and the flag is one of the 16 n (`flag_of_bits`).
use Rattle.std.proofs.Common.{ℕ, ◌*◌, ◌/◌, ◌%◌, ◌≤◌, ap, mul-le-mul_right, arith}
use Rattle.walk.specs.Lone.{entry_flag}
use Rattle.walk.proofs.LoneLaws.{flag_of_bits}
use Rattle.walk.proofs.lone.flag_of.Goals as goal

-- the product
few : (x n : ℕ) → n ≤ 65535 → x % 32768 * n ≤ 32767 * 65535
few x n h =
    let m : x % 32768 * n ≤ 32767 * n = mul-le-mul_right n (omega arith) in
    omega arith

pub overflow_mul-result : goal.overflow_mul-result
overflow_mul-result c = record { fits = omega (arith, few c.read2.result c.args.n (omega (arith, c.requires.1))) }

pub returns : goal.returns
unfolding entry_flag
returns c =
    (ap (λ x. x % 32768 * c.args.n / 2048) c.read2.ensures.0, flag_of_bits (c.read2.result % 32768) _ (omega arith) (omega (arith, c.requires.0)))

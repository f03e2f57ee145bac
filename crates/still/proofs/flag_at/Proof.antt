-- `still::flag_at` meets its contract: half a key times a factor, and that half of it times the number of flags, fit 64 bits.
use mathlib.Core.Path.{refl}
use native.Mathlib.Omega.{arith}
use Rattle.number.proofs.ModLaws.{below}
use Rattle.still.specs.Keys.{flag_of}
use Rattle.still.proofs.KeysLaws.{flag_lt}
use borrow.Author.Rules.{rules}
use Rattle.still.proofs.flag_at.Statement.{statement}
use Rattle.still.proofs.flag_at.Tie as tie

mul_half : tie.Need-overflow_mul-half
mul_half c = record { fits = below 32 (omega (arith, c.key_of.ensures, c.ranges.key.fits)) c.requires.3 }

mul_result_3 : tie.Need-overflow_mul-result-3
mul_result_3 c = record { fits = below 32 (omega arith) (omega arith) }

add_result_2 : tie.Need-overflow_add-result-2
unfolding flag_of
add_result_2 c =
    let a = c.args in
    rw c.key_of.ensures (omega (arith, flag_lt a.n a.x a.key c.requires.1, c.requires.2))

returns : tie.Need-returns
unfolding flag_of
returns c =
    let a = c.args in
    rw c.key_of.ensures (refl, omega (arith, flag_lt a.n a.x a.key c.requires.1))

pub flag_at_spec : {M : Type 1} → statement M
flag_at_spec =
    tie.close (tie.spec (λ c κs. search rules) mul_half (λ c. search rules) (λ c. search rules) (λ c. search rules) mul_result_3 add_result_2 returns)

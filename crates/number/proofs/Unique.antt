-- Each contract, as the check reads it off the source, leaves one answer open and no other: two ends of a call that both meet it
-- give the same, since both equal one definition of what was given.
use Rattle.std.proofs.Common.{ℕ, List, sym, refl, ◌∙◌}
use Rattle.paper.specs.Once.{Once, OnceLeft}
use Rattle.number.proofs.read2.Reads as read2
use Rattle.number.proofs.read2.Kinds as read2-kinds
use Rattle.number.proofs.read8.Reads as read8
use Rattle.number.proofs.read8.Kinds as read8-kinds
use Rattle.number.proofs.bytes8.Reads as bytes8
use Rattle.number.proofs.bytes8.Kinds as bytes8-kinds
use Rattle.number.proofs.write8.Reads as write8
use Rattle.number.proofs.write8.Kinds as write8-kinds
use Rattle.number.proofs.add.Reads as add
use Rattle.number.proofs.add.Kinds as add-kinds
use Rattle.number.proofs.mul.Reads as mul
use Rattle.number.proofs.mul.Kinds as mul-kinds
use Rattle.number.proofs.wrapping_mul.Reads as wrapping-mul
use Rattle.number.proofs.wrapping_mul.Kinds as wrapping-mul-kinds
use Rattle.number.proofs.wrapping_pow.Reads as wrapping-pow
use Rattle.number.proofs.wrapping_pow.Kinds as wrapping-pow-kinds
use Rattle.number.proofs.write_numbers.Reads as write-numbers
use Rattle.number.proofs.write_numbers.Kinds as write-numbers-kinds

pub read2_once : Once 1 read2-kinds.ps read2-kinds.r read2.Pre read2.Post
read2_once κs a v v' x x' h p q = p.0 ∙ sym q.0

pub read8_once : Once 1 read8-kinds.ps read8-kinds.r read8.Pre read8.Post
read8_once κs a v v' x x' h p q = p ∙ sym q

pub bytes8_once : Once 0 bytes8-kinds.ps bytes8-kinds.r bytes8.Pre bytes8.Post
bytes8_once κs a v v' x x' h p q = p ∙ sym q

pub write8_once : OnceLeft 1 write8-kinds.ps write8-kinds.r write8.Pre write8.Post (List ℕ) (λ κs x. x.0.now)
write8_once κs a v v' x x' h p q = (refl, p ∙ sym q)

pub add_once : Once 0 add-kinds.ps add-kinds.r add.Pre add.Post
add_once κs a v v' x x' h p q = p ∙ sym q

pub mul_once : Once 0 mul-kinds.ps mul-kinds.r mul.Pre mul.Post
mul_once κs a v v' x x' h p q = p ∙ sym q

pub wrapping_mul_once : Once 0 wrapping-mul-kinds.ps wrapping-mul-kinds.r wrapping-mul.Pre wrapping-mul.Post
wrapping_mul_once κs a v v' x x' h p q = p ∙ sym q

pub wrapping_pow_once : Once 0 wrapping-pow-kinds.ps wrapping-pow-kinds.r wrapping-pow.Pre wrapping-pow.Post
wrapping_pow_once κs a v v' x x' h p q = p ∙ sym q

pub write_numbers_once : OnceLeft 2 write-numbers-kinds.ps write-numbers-kinds.r write-numbers.Pre write-numbers.Post (List ℕ) (λ κs x. x.0.now)
write_numbers_once κs a v v' x x' h p q = (refl, p ∙ sym q)

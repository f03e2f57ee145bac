-- The two bytes of the entry are put where the flag held none.
use Rattle.std.proofs.Common.{◌≡◌, ℕ, ◌+◌, refl, ◌∙◌, arith}
use Rattle.std.specs.Int.{w16, to_le_bytes}
use Rattle.paper.specs.Bytes.{bytes}
use Rattle.paper.proofs.BytesLaws.{length_bytes}
use Rattle.stretch.proofs.Laws.{placed}
use Rattle.walk.proofs.NumbersLaws.{filled_free, filled_taken}
use Rattle.walk.proofs.numbers.fill.Goals as goal

two_bytes : (v : ℕ) → to_le_bytes w16 v ≡ bytes 2 v
unfolding bytes
two_bytes v = refl

pub returns-then-x-lt1 : goal.returns-then-x-lt1
returns-then-x-lt1 c =
    let g = c.args in
    placed g.out.now g.a 2 _ _ (bytes 2 (g.k + 1)) (c.copy_from_slice.ensures.after ∙ c.to_le_bytes.ensures ∙ two_bytes (g.k + 1)) (omega arith)
    (length_bytes 2 (g.k + 1))
    ∙ filled_free _ _ _ _ c.if-x-lt1.true

pub returns-else-x-lt1 : goal.returns-else-x-lt1
returns-else-x-lt1 c = filled_taken _ _ _ _ c.if-x-lt1.false

-- The two bytes of the start and the two of the key are put one after the other.
use borrow.Rule.Slice.PartMut.{put_mid}
use Rattle.std.proofs.Common.{◌≡◌, ℕ, ◌+◌, ◌-◌, ◌*◌, ◌/◌, ◌%◌, ◌≤◌, List, ◌++◌, length, refl, ap, ◌∙◌, arith}
use Rattle.std.specs.Int.{w16, to_le_bytes}
use Rattle.paper.specs.Bytes.{bytes}
use Rattle.paper.proofs.BytesLaws.{length_bytes}
use Rattle.stretch.specs.Put.{put}
use Rattle.stretch.proofs.Laws.{placed, put_put}
use Rattle.walk.specs.Listed.{entry_of}
use Rattle.walk.proofs.write_entry.Goals as goal

two_bytes : (v : ℕ) → to_le_bytes w16 (v % 65536) ≡ bytes 2 v
unfolding bytes
two_bytes v =
    let a : v % 65536 % 256 ≡ v % 256 = omega arith in
    let b : v % 65536 / 256 % 256 ≡ v / 256 % 256 = omega arith in
    rw (a, b) refl

two_placed : (w : List ℕ) (a m n : ℕ) (x y s t : List ℕ) → x ≡ s → y ≡ t → m ≡ 2 → n ≡ 2 → length s ≡ 2 → length t ≡ 2 → a + 4 ≤ length w
    → put_mid (a + 2) n (put_mid a m w x) y ≡ put w a (s ++ t)
two_placed w a m n x y s t p q e f l k h =
    ap (λ (z : List ℕ). put_mid (a + 2) n z y) (placed w a 2 m x s p e l)
    ∙ placed (put w a s) (a + 2) 2 n y t q f k
    ∙ put_put w a s (a + 2) t (omega arith) (omega arith)

pub returns : goal.returns
unfolding entry_of
returns c =
    let g = c.args in
    two_placed g.work.now (g.k * 4) (g.k * 4 + 2 - g.k * 4) (g.k * 4 + 4 - (g.k * 4 + 2)) _ _ (bytes 2 g.start) (bytes 2 g.key)
    (c.copy_from_slice.ensures.after ∙ c.to_le_bytes.ensures ∙ two_bytes g.start)
    (c.copy_from_slice-2.ensures.after ∙ c.to_le_bytes-2.ensures ∙ two_bytes g.key)
    (omega arith) (omega arith) (length_bytes 2 g.start) (length_bytes 2 g.key) (omega arith)

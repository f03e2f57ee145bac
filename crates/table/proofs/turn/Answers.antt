-- `table::turn`: the bit that is shifted to its place fits in a word, and is the definition's power of two.
use Prim.Native.Nat.{◌*◌, ◌%◌, ◌^◌}
use mathlib.Core.Path.{◌≡◌, refl, ◌∙◌}
use native.Mathlib.Omega.{arith}
use lib.Pow.{shl_exact}
use Rattle.table.specs.Due.{turned}
use Rattle.table.proofs.turn.Goals as goal

pub returns : goal.returns
unfolding turned
returns c =
    let r = c.args.k % 64 in
    let one : 1 * 2 ^ r ≡ 2 ^ r = omega arith in
    let bit : 1 * 2 ^ r % 2 ^ 64 ≡ 2 ^ r = shl_exact {a = 1} 1 r 64 (omega arith) (omega arith) ∙ one in
    rw bit refl

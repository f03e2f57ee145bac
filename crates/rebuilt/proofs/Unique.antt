-- Two answers of `write_part` that meet its contract, as the check reads it from the source, are the same, and so is every byte: the contract
-- gives the member that the part becomes, and where it is put.
use Prim.Native.Nat.{ℕ}
use mathlib.Core.Path.{◌≡◌, refl, sym, ap, ◌∙◌}
use mathlib.Core.Bool.{Bool}
use mathlib.Core.List.{List}
use native.Mathlib.Omega.{arith}
use Rattle.paper.specs.Tree.{Tree}
use Rattle.paper.specs.Once.{OnceLeft}
use Rattle.part.specs.Like.{join}
use Rattle.rebuilt.specs.Written.{WrittenIs}
use Rattle.std.specs.Prelude.{Result, Ok, Err}
use Rattle.number.specs.declared.OutOfRange.{OutOfRange}
use Rattle.rebuilt.proofs.write_part.Reads as reads
use Rattle.rebuilt.proofs.write_part.Kinds as kinds

written_once : (y : Tree × Bool) (o x x' : List ℕ) (m : ℕ) (r r' : Result ℕ OutOfRange) → WrittenIs y o x m r → WrittenIs y o x' m r' → (r ≡ r') × (x ≡ x')
written_once y o x x' m (Ok e) (Ok e') h h' = (ap Ok (h.1 ∙ sym h'.1), h.2 ∙ sym h'.2)
written_once y o x x' m (Ok e) (Err u) h h' = let a = h.0 in let b = h'.0 in absurd (let z : ◌≡◌ {A = ℕ} 0 1 = cc in omega arith)
written_once y o x x' m (Err u) (Ok e) h h' = let a = h.0 in let b = h'.0 in absurd (let z : ◌≡◌ {A = ℕ} 0 1 = cc in omega arith)
written_once y o x x' m (Err u) (Err u') h h' = (refl, h.1 ∙ sym h'.1)

pub write_part_once : OnceLeft 2 kinds.ps kinds.r reads.Pre reads.Post (List ℕ) (λ κs x. x.0.now)
write_part_once κs a v v' x x' q p p' =
    let terms = q.0 in
    let part = q.1 in
    let shown = q.2 in
    let m = a.1.0 in
    written_once (join terms part) a.0.now x.0.now x'.0.now m v v' (p terms part shown) (p' terms part shown)

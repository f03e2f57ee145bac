-- `record::copy_record` meets its contract: two halves, read and written, are the record (Halves).
use Prim.Native.Nat.{◌*◌}
use borrow.Author.Rules.{rules}
use Rattle.paper.proofs.BytesLaws.{are_bytes}
use Rattle.record.proofs.Halves.{halves}
use Rattle.record.proofs.copy_record.Statement.{statement}
use Rattle.record.proofs.copy_record.Tie as tie

returns : tie.Need-returns
returns c =
    let g = c.args in
    halves g.dst.now g.src.now (are_bytes g.src.now c.shared_slice_known-1.given) (g.i * 16) (g.j * 16) c.read8-a.result
    c.read8-b.result c.requires.0 c.requires.1 c.read8-a.ensures c.read8-b.ensures c.write8.ensures
    c.write8-2.ensures

pub copy_record_spec : {M : Type 1} → statement M
copy_record_spec =
    tie.close
    (tie.spec
    (λ c. search rules) (λ c κs. search rules) (λ c. search rules) (λ c. search rules) (λ c κs. search rules) (λ c. search rules)
    (λ c κs. search rules) (λ c. search rules) (λ c. search rules) (λ c κs. search rules) (λ c. search rules) returns)

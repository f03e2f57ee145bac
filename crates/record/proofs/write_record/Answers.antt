-- `record::write_record`: the sixteen bytes are the record's by computation, and one copy puts them in.
use Rattle.std.proofs.Common.{ℕ, ◌*◌, List, [], ◌∷◌, get_or, ap, ◌∙◌}
use Rattle.paper.specs.Bytes.{bytes}
use Rattle.paper.specs.Table.{record_of}
use Rattle.stretch.specs.Put.{part, put}
use Rattle.record.proofs.write_record.Goals as goal

pub returns : goal.returns
unfolding part record_of bytes
returns c =
    let row : List ℕ → List ℕ → List ℕ → List ℕ = λ n m b. c.args.kind ∷ 0 ∷ get_or n 0 0 ∷ get_or n 1 0 ∷ get_or m 0 0 ∷ get_or m 1 0 ∷ 0 ∷ 0
    ∷ get_or b 0 0 ∷ get_or b 1 0 ∷ get_or b 2 0 ∷ get_or b 3 0 ∷ get_or b 4 0 ∷ get_or b 5 0 ∷ get_or b 6 0 ∷ get_or b 7 0 ∷ [] in
    let at = put c.args.d.now (c.args.i * 16) in
    c.copy_bytes.ensures
    ∙ ap (λ (n : List ℕ). at (row n c.bytes2-2.result c.bytes8-b.result)) c.bytes2.ensures
    ∙ ap (λ (m : List ℕ). at (row (bytes 2 c.args.count) m c.bytes8-b.result)) c.bytes2-2.ensures
    ∙ ap (λ (b : List ℕ). at (row (bytes 2 c.args.count) (bytes 2 c.args.mark) b)) c.bytes8-b.ensures

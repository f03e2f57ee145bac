-- `record::set_mark`: the two bytes are the mark's, and one copy puts them in.
use Rattle.std.proofs.Common.{ℕ, ◌+◌, ◌*◌, List, ap, ◌∙◌}
use Rattle.paper.specs.Bytes.{bytes}
use Rattle.stretch.specs.Put.{part, put}
use Rattle.record.proofs.set_mark.Goals as goal

pub returns : goal.returns
unfolding part bytes
returns c = c.copy_bytes.ensures ∙ ap (λ (b : List ℕ). put c.args.d.now (c.args.i * 16 + 4) (part b 0 2)) c.bytes2.ensures

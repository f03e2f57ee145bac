-- `number::bytes8` meets its contract: a quotient of a quotient is a quotient by the product, so each byte is the remainder that
-- `bytes` has there.
use Rattle.std.proofs.Common.{◌∙◌}
use native.Mathlib.Nat.{div-div-eq-div-mul}
use Rattle.paper.specs.Bytes.{bytes}
use Rattle.number.proofs.bytes8.Goals as goal

pub returns : goal.returns
unfolding bytes
returns c = c.to_le_bytes.ensures ∙ simp div-div-eq-div-mul

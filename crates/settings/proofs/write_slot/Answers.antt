-- The thirty-two bytes are the record's by computation, and one copy puts them in.
use Rattle.std.proofs.Common.{◌*◌, ap, ◌∙◌}
use native.Mathlib.Nat.{div-div-eq-div-mul}
use Rattle.paper.specs.Bytes.{bytes}
use Rattle.paper_settings.specs.Settings.{slot_of}
use Rattle.stretch.specs.Put.{part, put}
use Rattle.settings.proofs.write_slot.Goals as goal

pub returns : goal.returns
unfolding part slot_of bytes
returns c =
    let key = c.copy_from_slice.ensures.after ∙ c.to_le_bytes.ensures in
    let unit = c.copy_from_slice-2.ensures.after ∙ c.to_le_bytes-2.ensures in
    let setting = c.copy_from_slice-3.ensures.after ∙ c.to_le_bytes-3.ensures in
    c.copy_bytes.ensures ∙ ap (put c.args.area.now (32 * c.args.i)) (rw (key, unit, setting) (simp div-div-eq-div-mul))

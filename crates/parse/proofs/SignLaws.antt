-- A character that is looked at where there is one.
use Prim.Native.Nat.{ℕ, ◌<◌}
use mathlib.Core.Path.{◌≡◌, sym, ap, ◌∙◌}
use mathlib.Core.Bool.{Bool}
use mathlib.Core.List.{List}
use denote.Ref.{Bor}
use lib.Dec.{eqb}
use lib.ListN.{length, get_or, drop}
use Rattle.std.proofs.Common.{Option, Some, None}
use Rattle.std.specs.Option.{option_eq}
use Rattle.std.specs.Slice.{IsItemAt}
use Rattle.paper_text.specs.Text.{begins}
use Rattle.paper_text.proofs.PlaceLaws.{begins_past, begins_there}

pub sign_shown : (s : List ℕ) (at c : ℕ) (o : Option (Bor ℕ)) (y : Bor ℕ) (b : Bool) → IsItemAt s at o → b ≡ option_eq (λ x z. eqb x.now z.now) o (Some y)
    → y.now ≡ c → b ≡ begins c (drop at s)
sign_shown s at c None y b h e q = e ∙ sym (begins_past s at c h.3)
sign_shown s at c (Some x) y b h e q =
    let l : at < length s = h.3.0 in
    let there : x.now ≡ get_or s at 0 = h.3.1 0 in
    e ∙ ap (λ (n : ℕ). eqb n y.now) there ∙ ap (eqb (get_or s at 0)) q ∙ sym (begins_there s at c l)

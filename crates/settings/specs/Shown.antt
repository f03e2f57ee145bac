-- The answers of the calls in the request's terms, field by field.
use Rattle.std.specs.Prelude.{ℕ, List, Result, Ok, Err}
use Rattle.paper_settings.specs.Settings.{Reply, OldReply, Replied, only, replies}
use Rattle.table.specs.declared.refusals.Refusal.{Refusal}
use Rattle.table.specs.Refusals.{number_of}
use Rattle.settings.specs.declared.Shown.{Shown}

-- 0, or the number of what is refused
abbrev pub number_in : {A : Type 0} → Result A Refusal → ℕ
number_in (Ok x) = 0
number_in (Err r) = number_of r

abbrev pub says : Result Shown Refusal → Reply
says (Ok s) = record { number = 0; setting = s.setting; unit = s.unit }
says (Err r) = only (number_of r)

abbrev pub says_1 : Result ℕ Refusal → OldReply
says_1 (Ok v) = record { number = 0; setting = v }
says_1 (Err r) = record { number = number_of r; setting = 0 }

-- a store and a remove answer a number only, and leave the area
abbrev pub stores_number : ℕ → List ℕ → Replied (List ℕ)
stores_number number after = replies (only number) after

abbrev pub stores : Result (Unit {0}) Refusal → List ℕ → Replied (List ℕ)
stores result after = stores_number (number_in result) after

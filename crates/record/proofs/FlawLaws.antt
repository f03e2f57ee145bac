-- What is wrong with a record whose kind is known: its bytes are judged before its count.
use Prim.Native.Nat.{ℕ, ◌≤◌}
use mathlib.Core.Path.{◌≡◌, refl, sym, ◌∙◌}
use mathlib.Core.Bool.{Bool, true, false, cond}
use mathlib.Core.List.{List}
use borrow.Author.Tests.{le-ltb}
use lib.Dec.{ltb}
use Rattle.std.specs.Prelude.{Option, Some, None}
use Rattle.std.specs.Option.{option_or}
use Rattle.paper.specs.Record.{kind, stray, sound, bad_byte, flaw}
use Rattle.record.specs.declared.Flaw.{Flaw}
use Rattle.record.specs.declared.Flaw.TheVariants.{Kind, Byte, Count}
use Rattle.record.specs.Flaw.{flaw_of, byte_flaw, count_flaw}

-- the first of two judgements that finds something
pub flaw_known : (s : List ℕ) (i k : ℕ) → k ≡ kind s i → k ≤ 4 → (f g : Option Flaw) → flaw_of f ≡ byte_flaw s i k
    → flaw_of g ≡ count_flaw s i k → flaw_of (option_or f g) ≡ flaw s i
unfolding flaw byte_flaw count_flaw
flaw_known s i k e h f g p q =
    by (ltb (stray s i k 0 16) 16) f p ∙ sym (rw (← e, le-ltb 4 k h) refl)
  where
    by : (b : Bool) (f : Option Flaw) → flaw_of f ≡ cond b (bad_byte (stray s i k 0 16)) sound
        → flaw_of (option_or f g) ≡ cond b (bad_byte (stray s i k 0 16)) (count_flaw s i k)
    by true None p = cc
    by true (Some Kind) p = cc
    by true (Some (Byte j)) p = p
    by true (Some Count) p = cc
    by false None p = q
    by false (Some Kind) p = cc
    by false (Some (Byte j)) p = cc
    by false (Some Count) p = cc

-- where no byte is stray, only the count can be wrong
pub flaw_unstray : (s : List ℕ) (i k j : ℕ) → k ≡ kind s i → k ≤ 4 → j ≡ stray s i k 0 16 → 16 ≤ j → flaw s i ≡ count_flaw s i k
unfolding flaw count_flaw
flaw_unstray s i k j e h t none = rw (← e, le-ltb 4 k h, ← t, le-ltb j 16 none) refl

-- The call that lists what differs: its return, its answer slice and its list, where the slice is too short and where it has room.
use Prim.Native.Nat.{ℕ, ◌*◌}
use mathlib.Core.Path.{◌≡◌, refl}
use mathlib.Core.List.{List}
use native.Mathlib.Omega.{arith}
use borrow.Author.Tests.{lt-ltb, le-ltb}
use lib.ListN.{length}
use Rattle.paper.specs.Verdict.{told}
use Rattle.paper.specs.Calls.{verdict_numbers, is_too_short}
use Rattle.paper.specs.Slices.{TellsIn}
use Rattle.paper.proofs.Slices.{tells_in, verdict_count}
use Rattle.paper_differ.specs.Differ.{Differed, differed, list_after}
use Rattle.paper_differ.specs.Calls.{differed_numbers, differ_returns, differ_answers, differ_leaves}
use Rattle.paper_text.specs.Slices.{LeavesIn}

-- six numbers, whatever they say
pub differed_count : (d : Differed) → length (differed_numbers d) ≡ 6
unfolding differed_numbers verdict_numbers
differed_count d = omega (arith, verdict_count (told d.number d.place d.flaw))

module _ (lim : ℕ) (a b list : List ℕ) where
  pub differ_tells : let d = differed lim a b list in TellsIn 48 d.number (differed_numbers d) (differ_returns lim a b list) (differ_answers lim a b list)
  unfolding differ_returns differ_answers
  differ_tells = tells_in 48 _ _ (omega (arith, differed_count (differed lim a b list)))

  pub differ_leaves_lem : LeavesIn 48 list (list_after lim a b list) (differ_leaves lim a b list)
  unfolding differ_leaves is_too_short
  differ_leaves_lem slice =
      let ns = differed_numbers (differed lim a b list) in
      let q = differed_count (differed lim a b list) in
      (λ h. rw (lt-ltb (length slice) (8 * length ns) (omega arith)) refl, λ h. rw (le-ltb (length slice) (8 * length ns) (omega arith)) refl)

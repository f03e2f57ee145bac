-- The answer slices of the two calls: each is the same two definitions over its numbers, and there the test of the length decides. Assumes
-- nothing.
use Prim.Native.Nat.{◌*◌}
use mathlib.Core.Path.{◌≡◌, refl}
use native.Mathlib.Omega.{arith}
use borrow.Author.Tests.{le-ltb, lt-ltb}
use lib.ListN.{length}
use Rattle.paper.specs.Verdict.{told}
use Rattle.paper.specs.Calls.{verdict_numbers, answer_numbers, is_too_short}
use Rattle.paper.specs.Slices.{simplify_bytes}
use Rattle.paper.proofs.Slices.{tells_in, verdict_count, answer_count}
use Rattle.paper_shared.specs.Answers.{OpenAnswer, open_given, shared_given}
use Rattle.paper_shared.specs.Calls.{open_numbers, open_returns, open_answers, open_leaves, shared_returns, shared_answers, shared_leaves, shared_area}
use Rattle.paper_shared.specs.Slices.{open_bytes, Slices}

-- the numbers of the call that opens are six
pub open_count : (a : OpenAnswer) → length (open_numbers a) ≡ 6
unfolding open_numbers verdict_numbers
open_count a = let q = verdict_count (told 0 0 a.flaw) in omega arith

pub shared_slices : Slices
unfolding open_returns open_answers open_leaves shared_returns shared_answers shared_leaves shared_area is_too_short
shared_slices = record {
  opening = λ lim h area. tells_in open_bytes _ _ (let q = open_count (open_given lim h area).answer in omega arith);
  opening_area = λ lim h area slice.
      let ns = open_numbers (open_given lim h area).answer in
      let q = open_count (open_given lim h area).answer in
      (λ l. rw (lt-ltb (length slice) (8 * length ns) (omega arith)) refl, λ l. rw (le-ltb (length slice) (8 * length ns) (omega arith)) refl);
  shared = λ lim ed h area l. tells_in simplify_bytes _ _ (let q = answer_count (shared_given lim ed h area l).given.answer in omega arith);
  shared_areas = λ lim ed h area l slice.
      let ns = answer_numbers (shared_given lim ed h area l).given.answer in
      let q = answer_count (shared_given lim ed h area l).given.answer in (
        λ k. let e = lt-ltb (length slice) (8 * length ns) (omega arith) in (rw e refl, rw e refl),
        λ k. let e = le-ltb (length slice) (8 * length ns) (omega arith) in (rw e refl, rw e refl),
      );
}

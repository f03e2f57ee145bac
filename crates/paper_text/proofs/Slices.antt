-- The answer slices of the two calls on text, and what a refusal leaves. What a call from C returns and leaves is chosen by one test of the slice's
-- length, so each side of that test is one equation (`text_slices`); what a call answers and leaves is chosen by its verdict, so where the verdict
-- refuses, the area stays (`refused_read`, `refused-write`).
use Prim.Native.Nat.{ℕ, ◌*◌}
use mathlib.Core.Path.{◌≡◌, refl}
use mathlib.Core.List.{List}
use native.Mathlib.Omega.{arith}
use borrow.Author.Tests.{le-ltb, lt-ltb, ne_eqb}
use lib.ListN.{length}
use Rattle.paper.specs.Verdict.{is_accepted}
use Rattle.paper.specs.Answers.{measured}
use Rattle.paper.specs.Calls.{measured_numbers, is_too_short}
use Rattle.paper.specs.Slices.{measure_bytes}
use Rattle.paper.proofs.Slices.{tells_in, measured_count}
use Rattle.paper_text.specs.Text.{read_text}
use Rattle.paper_text.specs.Answers.{Taken, taken, area_after, taken_numbers, read_verdict, read_answer, read_given, read_text_returns, read_text_answers}
use Rattle.paper_text.specs.Answers.{read_text_leaves, write_verdict, write_answer, write_given, write_text_returns, write_text_answers, write_text_leaves}
use Rattle.paper_text.specs.Slices.{read_bytes, Slices}

pub taken_count : (r : Taken) → length (taken_numbers r) ≡ 3
unfolding taken_numbers
taken_count r = refl

pub text_slices : Slices
unfolding read_text_returns read_text_answers read_text_leaves write_text_returns write_text_answers write_text_leaves is_too_short
text_slices = record {
  reading = λ lim s area. tells_in read_bytes _ _ (let q = taken_count (read_answer lim s area) in omega (arith, q));
  reading_area = λ lim s area slice.
      let ns = taken_numbers (read_answer lim s area) in
      let q = taken_count (read_answer lim s area) in
      (λ l. rw (lt-ltb (length slice) (8 * length ns) (omega (arith, q, l))) refl, λ l. rw (le-ltb (length slice) (8 * length ns) (omega (arith, q, l))) refl);
  writing = λ lim s area. tells_in measure_bytes _ _ (let q = measured_count (write_answer lim s area) in omega (arith, q));
  writing_area = λ lim s area slice.
      let ns = measured_numbers (write_answer lim s area) in
      let q = measured_count (write_answer lim s area) in
      (λ l. rw (lt-ltb (length slice) (8 * length ns) (omega (arith, q, l))) refl, λ l. rw (le-ltb (length slice) (8 * length ns) (omega (arith, q, l))) refl);
}

-- "all leave the area unchanged", and "all other numbers zero" but for what is wrong with a record
module _ (lim : ℕ) (s area : List ℕ) where
  pub refused_read : ¬ ((read_verdict lim (read_text s) area).number ≡ 0)
      → read_given lim s area
      ≡ record {
        answer = record { number = (read_verdict lim (read_text s) area).number; place = (read_verdict lim (read_text s) area).place; records_written = 0 };
        area = area;
      }
  unfolding read_given read_answer taken area_after is_accepted
  refused_read n = rw (ne_eqb (read_verdict lim (read_text s) area).number 0 n)

  pub refused_write : ¬ ((write_verdict lim s area).number ≡ 0)
      → write_given lim s area
      ≡ record {
        answer = record {
          number = (write_verdict lim s area).number;
          place = (write_verdict lim s area).place;
          flaw =
              (write_verdict lim s area).flaw;
          result = 0;
        };
        area = area;
      }
  unfolding write_given write_answer measured area_after is_accepted
  refused_write n = rw (ne_eqb (write_verdict lim s area).number 0 n)

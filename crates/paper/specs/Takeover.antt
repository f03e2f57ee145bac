-- The takeover theorem's statement: a second simplifier that is handed the result of an accepted call accepts it, writes the same
-- bytes, and takes no step and no opening.
use Rattle.std.specs.Prelude.{ℕ, ◌*◌, ◌≤◌, ◌≡◌, List, length}
use Rattle.paper.specs.Limits.{work_bytes}
use Rattle.paper.specs.Bytes.{Bytes}
use Rattle.paper.specs.Record.{sound}
use Rattle.paper.specs.Answers.{Lent, Answer, Given}
use Rattle.paper.specs.Demands.{Simplifier, result}

-- areas with room for a weight: none of the words of refusal 6 is so
pub record Room (lim w : ℕ) (l : Lent) : Type 0 where
  pub out_room : 16 * w ≤ length l.out
  pub steps_room : w ≤ length l.steps
  pub work_room : work_bytes lim ≤ length l.work

-- the second answer, all of it, after the first one
unfoldable pub again : Answer → Answer
again a =
    record {
      number = 0;
      place = 0;
      flaw = sound;
      records_written = a.records_written;
      steps_taken = 0;
      openings = 0;
      weight_in = a.weight_out;
      weight_out = a.weight_out;
      tries = a.records_written;
    }

-- what a second call gives repeats what the first one gave
pub record Repeats (first second : Given) : Type 0 where
  pub same_answer : second.answer ≡ again first.answer
  pub same_bytes : result second ≡ result first

module _ (lim : ℕ) (f : Simplifier) where
  -- whatever areas the second call is lent, if they have room for the result
  abbrev pub TakesOver : Type 0
  TakesOver =
      (s : List ℕ) → Bytes s → (l : Lent) → (f s l).answer.number ≡ 0
      → (l' : Lent) → Room lim (f s l).answer.weight_out l' → Repeats (f s l) (f (result (f s l)) l')

  -- in particular the very areas that the first call was lent, as it left them
  abbrev pub TakesOverInPlace : Type 0
  TakesOverInPlace =
      (s : List ℕ) → Bytes s → (l : Lent) → (f s l).answer.number ≡ 0 → Repeats (f s l) (f (result (f s l)) (f s l).lent)

-- What an item answers and leaves, what is still to do with items left, and the call's return and slices in the paper's terms.
use Rattle.std.specs.Prelude.{ℕ, zero, suc, ◌+◌, ◌-◌, ◌*◌, List, [], ◌++◌, length, take, drop}
use Rattle.paper.specs.Limits.{work_bytes}
use Rattle.paper.specs.Bytes.{stretch}
use Rattle.paper.specs.Answers.{Lent, simplified}
use Rattle.paper.specs.Calls.{answer_numbers, eights}
use Rattle.paper_batch.specs.Batch.{place_bytes, used_up, remaining, in_front, in_turn, numbers_in, all_numbers, SiteCall}

-- W that an item used up, the areas, and its place for the answer
pub record Turn : Type 0 where
  pub used : ℕ
  pub lent : Lent
  pub answer : List ℕ

abbrev pub turned : ℕ → List ℕ → List ℕ → List ℕ → List ℕ → Turn
turned w out steps work answer = record { used = w; lent = record { out = out; steps = steps; work = work }; answer = answer }

-- `work` where W was used up, once it is cleared: zeros in front; where none was, as it is
unfoldable pub cleared : ℕ → ℕ → List ℕ → List ℕ
cleared lim zero work = work
cleared lim (suc w) work = stretch (work_bytes lim) [] work

-- the call's return, and what it was lent, afterwards
abbrev pub called : ℕ → List ℕ → List ℕ → List ℕ → List ℕ → SiteCall
called r out steps work answers = record { number = r; lent = record { out = out; steps = steps; work = work }; answers = answers }

-- the lengths from item i of n on
unfoldable pub lengths_from : List ℕ → ℕ → ℕ → List ℕ
lengths_from lengths n i = numbers_in (n - i) (drop (8 * i) lengths)

module _ (lim ed : ℕ) where
  unfoldable pub turn : List ℕ → Lent → List ℕ → Turn
  turn s l answer =
      record {
        used = used_up s (simplified lim ed s l).answer;
        lent = (simplified lim ed s l).lent;
        answer = eights (answer_numbers (simplified lim ed s l).answer) ++ drop place_bytes answer;
      }

  -- what the call leaves, where i items are done, which used up o, and those of the lengths ns, with the bytes s, are still to do
  unfoldable pub still : ℕ → ℕ → List ℕ → List ℕ → Lent → List ℕ → SiteCall
  still i o ns s l answers =
      record {
        number = 0;
        lent = in_front o l (in_turn (simplified lim ed) ns s (remaining o l)).lent;
        answers = take (place_bytes * i) answers
            ++ (eights (all_numbers (in_turn (simplified lim ed) ns s (remaining o l)).answers) ++ drop (place_bytes * (i + length ns)) answers);
      }

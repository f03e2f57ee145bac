-- The sites restored whole in figures, by computation; and the theorem is about the first of them: its hypotheses hold of it.
use mathlib.Core.Path.{◌≡◌, refl}
use mathlib.Core.Bool.{Bool, true, ◌&&◌, not}
use mathlib.Core.List.{List, [], ◌∷◌, map}
use borrow.Author.Tests.{eqb-false, not-true}
use lib.Dec.{eqb}
use lib.ListN.{length}
use Rattle.paper.specs.Answers.{Answer}
use Rattle.paper.specs.Takeover.{again}
use Rattle.paper.proofs.Tests.{and_both}
use Rattle.paper_batch.specs.Batch.{total}
use Rattle.paper_batch.proofs.Computed.{batch_computes}
use Rattle.paper_takeover.specs.TakenOver.{is_done}
use Rattle.paper_takeover.specs.SiteRestored.{restored_whole, whole_lengths, whole_weight, again_in_place, NoSix}
use Rattle.paper_takeover.specs.SiteExamples.{mixed_lengths, mixed_tables, mixed, mixed_again, wanted_again, wanted_lengths, mixed_lengths_again, mixed_weight}
use Rattle.paper_takeover.specs.SiteExamples.{second, second_numbers, in_place_numbers, wanted_second, returns_whole, returns_results, crowded, crowded_numbers}
use Rattle.paper_takeover.specs.SiteExamples.{crowded_weight, crowded_again}

pub record RestoredWhole : Type 0 where
  pub tables : mixed_again ≡ wanted_again
  pub lengths : mixed_lengths_again ≡ wanted_lengths
  pub weight : mixed_weight ≡ 11
  pub answers : second_numbers ≡ wanted_second
  pub in_place : in_place_numbers ≡ wanted_second
  -- 8: a place for each answer is enough, and a byte fewer is not
  pub whole_returns : map returns_whole (400 ∷ 399 ∷ []) ≡ 0 ∷ 8 ∷ []
  pub results_return : map returns_results (160 ∷ 159 ∷ []) ≡ 0 ∷ 8 ∷ []
  -- the theorem speaks of the first site
  pub adds_up : total mixed_lengths ≡ length mixed_tables
  pub no_six : NoSix mixed.answers

-- that no answer has 6, as a test
none_six : List Answer → Bool
none_six [] = true
none_six (x ∷ xs) = not (eqb x.number 6) && none_six xs

none_six_lem : (xs : List Answer) → none_six xs ≡ true → NoSix xs
unfolding none_six
none_six_lem [] e = tt
none_six_lem (x ∷ xs) e =
    let h = and_both (not (eqb x.number 6)) (none_six xs) e in
    (eqb-false x.number 6 (not-true (eqb x.number 6) h.0), none_six_lem xs h.1)

pub restored_computed : RestoredWhole
unfolding
    batch_computes none_six is_done again restored_whole whole_lengths whole_weight again_in_place mixed_lengths mixed_tables mixed mixed_again
    wanted_again wanted_lengths mixed_lengths_again mixed_weight second second_numbers in_place_numbers wanted_second returns_whole returns_results
restored_computed =
    record {
      tables = refl;
      lengths = refl;
      weight = refl;
      answers = refl;
      in_place = refl;
      whole_returns = refl;
      results_return = refl;
      adds_up = refl;
      no_six = none_six_lem mixed.answers refl;
    }

-- an item that had 6 finds room the second time, though there is room for all that is restored: that no item had 6 is needed
pub record SixFindsRoom : Type 0 where
  pub first : crowded_numbers ≡ 0 ∷ 6 ∷ []
  pub weight : crowded_weight ≡ 5
  pub second_time : crowded_again ≡ 0 ∷ 0 ∷ []

pub six_computed : SixFindsRoom
unfolding batch_computes is_done again restored_whole whole_lengths whole_weight crowded crowded_numbers crowded_weight crowded_again
six_computed = record { first = refl; weight = refl; second_time = refl }

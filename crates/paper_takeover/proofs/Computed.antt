-- The examples of what a second machine is handed: one statement, by computation.
use mathlib.Core.Path.{◌≡◌, refl}
use mathlib.Core.List.{[], ◌∷◌}
use Rattle.paper.specs.Told.{flaw_from, answer_in}
use Rattle.paper.specs.Takeover.{again}
use Rattle.paper_batch.specs.Batch.{all_numbers}
use Rattle.paper_batch.proofs.Computed.{batch_computes}
use Rattle.paper_shared.specs.Answers.{shared_of, shared_given, unshared}
use Rattle.paper_shared.proofs.Computed.{opening_computes}
use Rattle.paper_text.specs.Answers.{text_in, write_verdict, write_answer, write_given}
use Rattle.paper_text.proofs.Computed.{text_computes}
use Rattle.paper_takeover.specs.TakenOver.{is_done, restored, restored_lengths, restored_weight, again_each}
use Rattle.paper_takeover.specs.TakenOver.{answers_in, written_text, read_records, held_bytes, with_table}
use Rattle.paper_takeover.specs.Examples.{lends, site, tables_again, wanted_tables, lengths_again, weight_again, numbers_again, wanted_numbers, told_again}
use Rattle.paper_takeover.specs.Examples.{line, wanted_line, arrived, wanted_records, three_held, shares, shares_again}

pub record HandedAgain : Type 0 where
  pub tables : tables_again ≡ wanted_tables
  pub lengths : lengths_again ≡ 48 ∷ 48 ∷ []
  pub weight : weight_again ≡ 10
  pub answers : numbers_again ≡ wanted_numbers
  pub by_places : all_numbers told_again ≡ wanted_numbers
  pub text : line ≡ wanted_line
  pub records : arrived ≡ wanted_records
  pub held : three_held ≡ 1 ∷ 2 ∷ 3 ∷ []
  pub shared : shares_again shares.table ≡ 0 ∷ 0 ∷ 3 ∷ 1 ∷ 0 ∷ 7 ∷ 5 ∷ 0 ∷ 0 ∷ 4 ∷ []
  pub shared_again : shares_again wanted_records ≡ 0 ∷ 0 ∷ 3 ∷ 0 ∷ 0 ∷ 5 ∷ 5 ∷ 0 ∷ 0 ∷ 3 ∷ []

pub handed_again : HandedAgain
unfolding
    batch_computes opening_computes text_computes is_done restored restored_lengths restored_weight again_each again answers_in answer_in flaw_from
    written_text read_records text_in write_verdict write_answer write_given with_table shared_of shared_given unshared lends site tables_again wanted_tables
    lengths_again weight_again numbers_again wanted_numbers told_again line wanted_line arrived wanted_records held_bytes three_held shares shares_again
handed_again =
    record {
      tables = refl;
      lengths = refl;
      weight = refl;
      answers = refl;
      by_places = refl;
      text = refl;
      records = refl;
      held = refl;
      shared = refl;
      shared_again = refl;
    }

-- The examples of shared sub-formulas: each table by one statement, by computation.
use mathlib.Core.Path.{◌≡◌, refl}
use mathlib.Core.List.{[], ◌∷◌, ◌++◌, map}
use lib.ListN.{replicate}
use Rattle.paper.specs.Tree.{marked}
use Rattle.paper.specs.Record.{bad_byte, flaw_numbers}
use Rattle.paper.specs.Verdict.{flawed, refused}
use Rattle.paper.specs.Limits.{is_limit, work_bytes}
use Rattle.paper.specs.Rules.{is_edition}
use Rattle.paper.specs.Answers.{cramped}
use Rattle.paper.specs.Calls.{eights, is_too_short, answered}
use Rattle.paper.proofs.Computes.{verdict_computes, table_computes}
use Rattle.paper_shared.specs.Shared.{defined, both, make, replaced, open_by, open_within, opened}
use Rattle.paper_shared.specs.Answers.{length_at, lengths_from, beginning, table_at, misses, any_refused, is_among, twice, crowded, or_nought, tree_in}
use Rattle.paper_shared.specs.Answers.{definitions_from, definitions_of, opened_of, opening_of, judged_site, opening, verdict_on, no_room}
use Rattle.paper_shared.specs.Answers.{open_verdict, holding}
use Rattle.paper_shared.specs.Answers.{unopened, open_of, open_given, opening_by, shared_verdict}
use Rattle.paper_shared.specs.Calls.{open_numbers, open_answers}
use Rattle.paper_shared.specs.Examples.{symbols_of, lengths_of, tables_of, site, many_of, examples, heavy, by_bytes, computed, flawed_formula}
use Rattle.paper_shared.specs.Examples.{flawed_definition}
use Rattle.paper_shared.specs.Examples.{plain_site, orders, ordered}

-- a name that opens every definition of the opening, and `marked`, which an opening that kept a mark would use; it states nothing
unfoldable pub opening_computes : Unit {0}
unfolding
    verdict_computes table_computes marked defined both make replaced open_by open_within opened length_at lengths_from beginning table_at misses any_refused
    is_among twice crowded or_nought tree_in definitions_from definitions_of opened_of opening_of judged_site opening verdict_on no_room open_verdict
    holding unopened
    open_of open_given opening_by shared_verdict is_limit work_bytes is_edition cramped symbols_of lengths_of tables_of site many_of
opening_computes = tt

pub record Shares : Type 0 where
  pub opens : map computed examples ≡ examples
  pub by_bytes : map computed by_bytes ≡ by_bytes
  pub formula's_flaw : open_verdict 3072 flawed_formula [] ≡ flawed 0 (bad_byte 3)
  pub definition's_flaw : open_verdict 3072 flawed_definition [] ≡ refused 15 0
  pub in_order : map ordered orders ≡ orders
  -- number, place, records, weight, what is wrong with the record, which byte; the slice past them stays
  pub opened_as_bytes : open_answers 3072 plain_site (replicate 80 165) (replicate 48 165) ≡ eights (0 ∷ 0 ∷ 3 ∷ 5 ∷ 0 ∷ 0 ∷ [])
  pub as_bytes : open_answers 3072 flawed_formula [] (replicate 49 165) ≡ eights (2 ∷ 0 ∷ 0 ∷ 0 ∷ 2 ∷ 3 ∷ []) ++ (165 ∷ [])

pub shares : Shares
unfolding
    opening_computes examples by_bytes computed flawed_formula flawed_definition plain_site orders ordered open_numbers open_answers answered
    is_too_short eights
    flaw_numbers
shares = record {
  opens = refl;
  by_bytes = refl;
  formula's_flaw = refl;
  definition's_flaw = refl;
  in_order = refl;
  opened_as_bytes = refl;
  as_bytes = refl;
}

-- by itself: these trees are large
pub heavy_sites : map computed heavy ≡ heavy
unfolding opening_computes heavy computed
heavy_sites = refl

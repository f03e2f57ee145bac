-- What the two calls meet. Each refuses as judged and then changes no area; where nothing is refused, the area holds the opened table. Of the one
-- that simplifies: "Steps, demand 3 and the W of refusal 6 speak of the opened tree", and so does the bound on
-- the tries; the value kept is the formula's own.
use Rattle.std.specs.Prelude.{ℕ, ◌+◌, ◌*◌, ◌≤◌, ◌≡◌, List, ◌++◌, length, drop}
use Rattle.std.proofs.Math.Option.{some}
use Rattle.paper.specs.Record.{sound}
use Rattle.paper.specs.Tree.{Tree, weight, records, value}
use Rattle.paper.specs.Table.{encode, tree_of}
use Rattle.paper.specs.Verdict.{accepted}
use Rattle.paper.specs.Rules.{rules_of}
use Rattle.paper.specs.Admits.{AdmitsNone}
use Rattle.paper.specs.Answers.{Lent, refused_by, simplified}
use Rattle.paper.specs.Demands.{result}
use Rattle.paper.specs.Takeover.{Room, Repeats}
use Rattle.paper_shared.specs.Shared.{Holds, NoneLeft}
use Rattle.paper_shared.specs.Answers.{Handed, tree_in, definitions_of, opened_of, open_verdict, open_given, shared_verdict, shared_given}

-- the call that opens: a refusal "returns number and place, all other numbers zero", and changes nothing; without one the area "holds that table,
-- its other bytes unchanged"
pub record OpensAsJudged (lim : ℕ) (h : Handed) (area : List ℕ) : Type 0 where
  pub refuses : 1 ≤ (open_verdict lim h area).number
      → open_given lim h area
      ≡ record {
        answer = record {
          number = (open_verdict lim h area).number;
          place = (open_verdict lim h area).place;
          flaw = (open_verdict lim h area).flaw;
          records_written = 0;
          opened_weight = 0;
        };
        area = area;
      }
  pub opens : open_verdict lim h area ≡ accepted → (v : Tree) → opened_of h ≡ some v
      → open_given lim h area
      ≡ record {
        answer = record { number = 0; place = 0; flaw = sound; records_written = records v; opened_weight = weight v };
        area = encode v ++ drop (length (encode v)) area;
      }

-- the call that opens and simplifies: all refusals but 7 are judged before anything is written; "after 0 or 7 it holds that table"
pub record SharesAsJudged (lim ed : ℕ) (h : Handed) (area : List ℕ) (l : Lent) : Type 0 where
  pub refuses : 1 ≤ (shared_verdict lim ed h area l).number
      → shared_given lim ed h area l ≡ record { given = record { answer = refused_by (shared_verdict lim ed h area l); lent = l }; area = area }
  pub opens : shared_verdict lim ed h area l ≡ accepted → (v : Tree) → opened_of h ≡ some v
      → shared_given lim ed h area l ≡ record { given = simplified lim ed (encode v) l; area = encode v ++ drop (length (encode v)) area }

-- of a call that is not refused: the opened tree, the tree of the result, and demand 3 of the two
pub record Meets (lim ed : ℕ) (h : Handed) (area : List ℕ) (l : Lent) : Type 0 where
  pub opened_tree : Tree
  pub is_opened : opened_of h ≡ some opened_tree
  pub none_left : NoneLeft (definitions_of h) opened_tree
  pub weighs : (shared_given lim ed h area l).given.answer.weight_in ≡ weight opened_tree
  pub tree_out : Tree
  pub read_back : tree_of (result (shared_given lim ed h area l).given) ≡ some tree_out
  pub lightens :
      (shared_given lim ed h area l).given.answer.steps_taken + (shared_given lim ed h area l).given.answer.openings + weight tree_out ≤ weight opened_tree
  pub bounded : (shared_given lim ed h area l).given.answer.tries ≤ weight opened_tree * (weight opened_tree * weight opened_tree)
  pub finishes : AdmitsNone (rules_of ed) tree_out
  pub keeps_value : (ρ : ℕ → ℕ) → Holds (definitions_of h) (tree_in h.table) ρ → value tree_out ρ ≡ value (tree_in h.table) ρ

-- the simplifier, handed the result, accepts it, writes the same bytes, and takes no step and no opening
abbrev pub TakenOver : ℕ → ℕ → Handed → List ℕ → Lent → Type 0
TakenOver lim ed h area l =
    (l' : Lent) → Room lim (shared_given lim ed h area l).given.answer.weight_out l'
    → Repeats (shared_given lim ed h area l).given (simplified lim ed (result (shared_given lim ed h area l).given) l')

-- more than was asked: the tries are at most the square of the opened tree's weight
abbrev pub SquaredOpened : ℕ → ℕ → Handed → List ℕ → Lent → Type 0
SquaredOpened lim ed h area l = (v : Tree) → opened_of h ≡ some v → (shared_given lim ed h area l).given.answer.tries ≤ weight v * weight v

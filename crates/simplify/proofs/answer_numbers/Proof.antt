-- `simplify::answer_numbers` meets its contract: what is wrong stands as `flaw_numbers` tells it, the others field by field.
use mathlib.Core.Path.{ap}
use mathlib.Core.List.{List, [], ◌∷◌, ◌++◌}
use Prim.Native.Nat.{ℕ}
use borrow.Author.Rules.{rules}
use Rattle.paper.specs.Calls.{answer_numbers}
use Rattle.simplify.proofs.answer_numbers.Statement.{statement}
use Rattle.simplify.proofs.answer_numbers.Tie as tie

returns : tie.Need-returns
unfolding answer_numbers
returns c =
    let a = c.args.a in
    ap
    (λ (l : List ℕ).
    a.number ∷ a.place ∷ a.records ∷ a.steps ∷ a.openings ∷ a.weight_in ∷ a.weight_out ∷ (l ++ (a.tries ∷ [])))
    c.flaw_numbers-wrong.ensures

pub answer_numbers_spec : {M : Type 1} → statement M
answer_numbers_spec = tie.close (tie.spec (λ c κs. search rules) (λ c. search rules) returns)

-- More than document 02 asks of the tries (Q-10; Demands: `Bounded`): for any accepted table without refusal 7 they are at most the square of the
-- weight going in, so that the limit alone tells a budget; and in either edition there are trees, one for every weight 4h + 6, that take a quarter of
-- the square but for 5, so that no bound of a lower order holds. At the limit of 16,384 the square is 268,435,456, where the cube is
-- 4,398,046,511,104; what is proved is a little less than three quarters of the square and the weight.
use Rattle.std.specs.Prelude.{ℕ, zero, suc, ◌+◌, ◌*◌, ◌≤◌, ◌≡◌, List, [], ◌∷◌, pos}
use Rattle.paper.specs.Bytes.{Bytes}
use Rattle.paper.specs.Tree.{Tree, Forest, integer, symbol, sum, product, of_list, weight}
use Rattle.paper.specs.Rules.{rules_of}
use Rattle.paper.specs.Driver.{done, simplify}
use Rattle.paper.specs.Answers.{Lent}
use Rattle.paper.specs.Demands.{Simplifier, Accepted}

-- of a simplifier for the limit lim and the edition ed, in the form of demand 3
abbrev pub Squared : ℕ → ℕ → Simplifier → Type 0
Squared lim ed f = Accepted lim ed f (λ s l t u. (f s l).answer.tries ≤ weight t * weight t)

-- a budget: no accepted call without refusal 7 takes more than so many tries (proofs/Squared: 7,080,959 at the limit of 3,072, and 201,342,975 at 16,384)
abbrev pub Budget : ℕ → Simplifier → Type 0
Budget most f = (s : List ℕ) → Bytes s → (l : Lent) → (f s l).answer.number ≡ 0 → (f s l).answer.tries ≤ most

-- a sum of members f, h times under "2 + 2 * .."
unfoldable pub nested : ℕ → Forest → Forest
nested zero f = f
nested (suc h) f = of_list (integer 0 (pos 2) ∷ product 0 (of_list (integer 0 (pos 2) ∷ sum 0 (nested h f) ∷ [])) ∷ [])

-- a + 1 + 0 so deep, and a + 1 so deep: the step is at the very bottom, and every node above it is begun again
unfoldable pub tall : ℕ → Tree
tall h = sum 0 (nested h (of_list (symbol 0 0 ∷ integer 0 (pos 1) ∷ integer 0 (pos 0) ∷ [])))

unfoldable pub shorter : ℕ → Tree
shorter h = sum 0 (nested h (of_list (symbol 0 0 ∷ integer 0 (pos 1) ∷ [])))

-- the run has the one step 1, and four times its tries are the square of the weight but for 20
pub record Steep (ed h : ℕ) : Type 0 where
  pub weighs : weight (tall h) ≡ 4 * h + 6
  pub tries : ℕ
  pub runs : simplify (rules_of ed) (tall h) ≡ done (shorter h) (1 ∷ []) 0 tries
  pub many : 4 * tries + 20 ≡ weight (tall h) * weight (tall h)

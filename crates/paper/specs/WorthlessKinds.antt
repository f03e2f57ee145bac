-- The worthless simplifiers by what they do, whatever else they do: any simplifier that returns 0 for all, or its input, or that makes a
-- first pass and then stops, or that never enters a node's members. (Worthless has the plainest of each, and those that refuse
-- everything; proofs/WorthlessLaws turns all of them away.)
use Rattle.std.specs.Prelude.{ℕ, ◌≡◌, List, length, pos}
use Rattle.std.proofs.Math.Option.{some}
use Rattle.paper.specs.Bytes.{Bytes}
use Rattle.paper.specs.Tree.{Tree, integer, weight}
use Rattle.paper.specs.Table.{encode, tree_of}
use Rattle.paper.specs.Verdict.{accepted}
use Rattle.paper.specs.Rules.{rules_of}
use Rattle.paper.specs.Driver.{done, no_rule, ask, simplify}
use Rattle.paper.specs.Answers.{Lent, judgement}
use Rattle.paper.specs.Demands.{Simplifier, result}
use Rattle.paper.specs.Worthless.{first_pass}

-- at the limit lim and in the edition ed, f accepts each call that 1 to 6, 9 and 19 let pass where the table's tree is t and P t u holds, and its result
-- is the records of u
abbrev pub Makes : ℕ → ℕ → (Tree → Tree → Type 0) → Simplifier → Type 0
Makes lim ed P f =
    (s : List ℕ) → Bytes s → (l : Lent) → judgement lim ed s l ≡ accepted → (t u : Tree) → tree_of s ≡ some t → P t u
    → ((f s l).answer.number ≡ 0) × (result (f s l) ≡ encode u)

-- "One that returns 0 for all"
abbrev pub ReturnsZero : ℕ → ℕ → Simplifier → Type 0
ReturnsZero lim ed = Makes lim ed (λ t u. u ≡ integer 0 (pos 0))

-- "One that returns its input"
abbrev pub ReturnsInput : ℕ → ℕ → Simplifier → Type 0
ReturnsInput lim ed = Makes lim ed (λ t u. u ≡ t)

-- "One that makes a first pass and then stops"
abbrev pub StopsAfterPass : ℕ → ℕ → Simplifier → Type 0
StopsAfterPass lim ed = Makes lim ed (λ t u. (ks : List ℕ) × (o : ℕ) × (n : ℕ) × (first_pass (rules_of ed) (weight t) t ≡ done u ks o n))

-- one that never enters a node's members: where no rule applies at the root, it returns its input
abbrev pub NeverEnters : ℕ → ℕ → Simplifier → Type 0
NeverEnters lim ed = Makes lim ed (λ t u. (ask (rules_of ed) t ≡ no_rule) × (u ≡ t))

-- "Invented steps or openings": on some accepted call it tells another number of steps, or of openings, than the driver has
pub record Invents (lim ed : ℕ) (f : Simplifier) (told : ℕ → ℕ → ℕ) : Type 0 where
  pub table : List ℕ
  pub bytes : Bytes table
  pub areas : Lent
  pub accepts : judgement lim ed table areas ≡ accepted
  pub tree : Tree
  pub read : tree_of table ≡ some tree
  pub end : Tree
  pub steps : List ℕ
  pub openings : ℕ
  pub tries : ℕ
  pub ran : simplify (rules_of ed) tree ≡ done end steps openings tries
  pub other : ¬ (told (f table areas).answer.steps_taken (f table areas).answer.openings ≡ told (length steps) openings)

-- "Four worthless simplifiers must be turned away", and invented steps and openings too, one that never enters a member, and one that
-- hides a try. Each is refuted at the field that the paper names for it (proofs/WorthlessLaws), at each limit lim and in each edition ed.
use Rattle.std.specs.Prelude.{ℕ, zero, suc, ◌+◌, ◌-◌, ◌*◌, ◌≤◌, ◌≡◌, ◌⊎◌, List, [], ◌∷◌, pos}
use Rattle.paper.specs.Bytes.{Bytes}
use Rattle.paper.specs.Tree.{Tree, integer, weight}
use Rattle.paper.specs.Verdict.{Verdict}
use Rattle.paper.specs.Rules.{Rule, rules_of}
use Rattle.paper.specs.Driver.{Ran, done, over, Rans, dones, overs, ask, step, out_of_range, no_rule, after, tried, each, members, gather}
use Rattle.paper.specs.Driver.{simplify}
use Rattle.paper.specs.Answers.{Lent, refused_by, refusal, simplified_by}
use Rattle.paper.specs.Demands.{Simplifier}

-- one that refuses everything: each call by some number, whatever else it answers
abbrev pub RefusesEverything : Simplifier → Type 0
RefusesEverything f = (s : List ℕ) → Bytes s → (l : Lent) → 1 ≤ (f s l).answer.number

-- one that does so in the form of a refusal: other than 7, whatever it says, or 7 at some place
abbrev pub RefusesInForm : Simplifier → Type 0
RefusesInForm f =
    (s : List ℕ) → Bytes s → (l : Lent)
    → ((v : Verdict) × (1 ≤ v.number) × (¬ (v.number ≡ 7)) × ((f s l).answer ≡ refused_by v)) ⊎ ((p : ℕ) × ((f s l).answer ≡ refusal 7 p))

-- the plainest of these: always k, at place 0
unfoldable pub refuses_all : ℕ → Simplifier
refuses_all k s l = record { answer = refusal k 0; lent = l }

-- one that returns 0 for all
unfoldable pub returns_zero : ℕ → ℕ → Simplifier
returns_zero lim ed = simplified_by lim ed (λ t. done (integer 0 (pos 0)) [] 0 0)

-- one that returns its input
unfoldable pub returns_input : ℕ → ℕ → Simplifier
returns_input lim ed = simplified_by lim ed (λ t. done t [] 0 0)

-- one that makes a first pass and then stops: it never begins again
unfoldable pub gathered_once : Tree → Rans → Ran
gathered_once t (overs k) = over k
gathered_once t (dones l s o n) = done (gather t l).0 s (o + (gather t l).1) (suc n)

unfoldable pub first_pass : List Rule → ℕ → Tree → Ran
first_pass rs zero t = done t [] 0 0
first_pass rs (suc n) t =
    elim (ask rs t) [
      | step k u ↦ done u (k ∷ []) 0 1
      | out_of_range ↦ over 0
      | no_rule ↦ gathered_once t (each (λ u. first_pass rs n u) (members t))
    ]

unfoldable pub passes_once : ℕ → ℕ → Simplifier
passes_once lim ed = simplified_by lim ed (λ t. first_pass (rules_of ed) (weight t) t)

-- one that never enters a member: it tries the rules at the root alone, as often as one applies
unfoldable pub root_only : List Rule → ℕ → Tree → Ran
root_only rs zero t = done t [] 0 0
root_only rs (suc n) t =
    tried
    (elim (ask rs t) [
      | step k u ↦ after (k ∷ []) 0 0 (root_only rs n u)
      | out_of_range ↦ over 0
      | no_rule ↦ done t [] 0 0
    ])

unfoldable pub stays_at_root : ℕ → ℕ → Simplifier
stays_at_root lim ed = simplified_by lim ed (λ t. root_only (rules_of ed) (weight t) t)

-- invented steps, invented openings
unfoldable pub one_step_more : Ran → Ran
one_step_more (done u ks o n) = done u (1 ∷ ks) o n
one_step_more (over k) = over k

unfoldable pub one_opening_more : Ran → Ran
one_opening_more (done u ks o n) = done u ks (suc o) n
one_opening_more (over k) = over k

unfoldable pub invents_steps : ℕ → ℕ → Simplifier
invents_steps lim ed = simplified_by lim ed (λ t. one_step_more (simplify (rules_of ed) t))

unfoldable pub invents_openings : ℕ → ℕ → Simplifier
invents_openings lim ed = simplified_by lim ed (λ t. one_opening_more (simplify (rules_of ed) t))

-- and one that hides a try
unfoldable pub one_try_less : Ran → Ran
one_try_less (done u ks o n) = done u ks o (n - 1)
one_try_less (over k) = over k

unfoldable pub hides_tries : ℕ → ℕ → Simplifier
hides_tries lim ed = simplified_by lim ed (λ t. one_try_less (simplify (rules_of ed) t))

-- not turned away by the bound on the tries: one that returns its input, and tells the cube of the weight and no more
unfoldable pub takes_cube : ℕ → ℕ → Simplifier
takes_cube lim ed = simplified_by lim ed (λ t. done t [] 0 (weight t * (weight t * weight t)))

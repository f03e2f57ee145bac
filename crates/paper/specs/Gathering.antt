-- "The gathering of members still handles a sum or product left with fewer than two": the gathering with such a branch, and the run over it, kept here to be
-- compared with. What the branch does is left open: it may collapse the list, as document 01 has it, or have an outcome of its own, which ends the run. From
-- an accepted table it is never reached, whatever it does (proofs/Gathering), so that the driver goes without it.
use Rattle.std.specs.Prelude.{ℕ, zero, suc, ◌+◌, ◌≡◌, Bool, true, false, cond, List, [], ◌∷◌, length, eqb, ltb}
use Rattle.std.proofs.Math.Option.{Option, none, some}
use Rattle.paper.specs.Bytes.{Bytes}
use Rattle.paper.specs.Tree.{Tree, integer, symbol, sum, product, power, weight}
use Rattle.paper.specs.Table.{tree_of}
use Rattle.paper.specs.Verdict.{accepted, verdict}
use Rattle.paper.specs.Rules.{Rule, sum_of, product_of}
use Rattle.paper.specs.Driver.{Asked, no_rule, step, out_of_range, ask, Ran, done, over, Rans, dones, overs, after, tried, and_then, members}
use Rattle.paper.specs.Driver.{as_sum, as_product, opened, gather, simplify}

-- what the branch makes of a node and its members' results: what is gathered, or none, an outcome of its own
abbrev pub Branch : Type 0
Branch = Tree → List Tree → Option (Tree × ℕ)

unfoldable pub tells : Branch
tells t l = none

-- "A gathered list of fewer than two members would collapse as after a rule."
unfoldable pub collapses : Branch
collapses (integer μ z) l = some (gather (integer μ z) l)
collapses (symbol μ s) l = some (gather (symbol μ s) l)
collapses (sum μ f) l = let r = opened as_sum l in some (sum_of μ r.0, r.1)
collapses (product μ f) l = let r = opened as_product l in some (product_of μ r.0, r.1)
collapses (power μ b ξ e) l = some (gather (power μ b ξ e) l)

-- the gathered members of a sum or a product: fewer than two are the branch's
unfoldable pub unless_fewer : Option (Tree × ℕ) → List Tree × ℕ → Tree × ℕ → Option (Tree × ℕ)
unless_fewer branch r g = cond (ltb (length r.0) 2) branch (some g)

unfoldable pub gather_with : Branch → Tree → List Tree → Option (Tree × ℕ)
gather_with fewer (integer μ z) l = some (gather (integer μ z) l)
gather_with fewer (symbol μ s) l = some (gather (symbol μ s) l)
gather_with fewer (sum μ f) l = unless_fewer (fewer (sum μ f) l) (opened as_sum l) (gather (sum μ f) l)
gather_with fewer (product μ f) l = unless_fewer (fewer (product μ f) l) (opened as_product l) (gather (product μ f) l)
gather_with fewer (power μ b ξ e) l = some (gather (power μ b ξ e) l)

-- ---- the driver over it: once a branch had its own outcome there is no other
unfoldable pub onward : (Ran → Ran) → Option Ran → Option Ran
onward f none = none
onward f (some r) = some (f r)

unfoldable pub and_then_with : Option Ran → Option Rans → Option Rans
and_then_with none rs = none
and_then_with (some r) none = none
and_then_with (some r) (some rs) = some (and_then r rs)

unfoldable pub each_with : (Tree → Option Ran) → List Tree → Option Rans
each_with again [] = some (dones [] [] 0 0)
each_with again (t ∷ l) = and_then_with (again t) (each_with again l)

unfoldable pub settle_with : (Tree → Option Ran) → List ℕ → ℕ → ℕ → Tree → Bool → Option Ran
settle_with again s o n t true = some (done t [] 0 n)
settle_with again s o n t false = onward (after s o n) (again t)

unfoldable pub settle_gathered : (Tree → Option Ran) → List ℕ → ℕ → ℕ → Option (Tree × ℕ) → Option Ran
settle_gathered again s o n none = none
settle_gathered again s o n (some g) = settle_with again s (o + g.1) n g.0 (eqb (length s + (o + g.1)) 0)

unfoldable pub gathered_with : Branch → (Tree → Option Ran) → Tree → Option Rans → Option Ran
gathered_with fewer again t none = none
gathered_with fewer again t (some (overs k)) = some (over k)
gathered_with fewer again t (some (dones l s o n)) = settle_gathered again s o n (gather_with fewer t l)

unfoldable pub visit_with : Branch → (Tree → Option Ran) → Tree → Asked → Option Ran
visit_with fewer again t (step k u) = onward (after (k ∷ []) 0 0) (again u)
visit_with fewer again t out_of_range = some (over 0)
visit_with fewer again t no_rule = gathered_with fewer again t (each_with again (members t))

unfoldable pub run_with : Branch → List Rule → ℕ → Tree → Option Ran
run_with fewer rs zero t = some (done t [] 0 0)
run_with fewer rs (suc n) t = onward tried (visit_with fewer (λ u. run_with fewer rs n u) t (ask rs t))

unfoldable pub simplify_with : Branch → List Rule → Tree → Option Ran
simplify_with fewer rs t = run_with fewer rs (weight t) t

-- "from an accepted table this cannot happen when results are gathered": whatever the branch does, the run is the one without it; above all it never has the
-- branch's own outcome
abbrev pub BranchNotReached : List Rule → Type 0
BranchNotReached rs =
    (fewer : Branch) (lim : ℕ) (s : List ℕ) → Bytes s → verdict lim s ≡ accepted → (t : Tree) → tree_of s ≡ some t
    → simplify_with fewer rs t ≡ some (simplify rs t)

-- The driver, over a list of rules: "At a node: try the rules in the order above. If one applies, put its result in place, note
-- the step, begin again at this node. If none does, and the node has members, do the same with each member from first to last,
-- then gather the results ... If any member changed (a step or an opening inside it) or anything was opened, begin again; else
-- the node is finished."
use Rattle.std.specs.Prelude.{ℕ, zero, suc, ◌+◌, Bool, true, false, List, [], ◌∷◌, ◌++◌, length, pos, eqb}
use Rattle.std.proofs.Math.Option.{Option, none, some}
use Rattle.paper.specs.Tree.{Tree, integer, symbol, sum, product, power, to_list, of_list, weight}
use Rattle.paper.specs.Rules.{Rule, does_not_apply, applies, range_exceeded}

-- what the rules, tried in their order, answer at a node
pub data Asked : Type 0 where
  no_rule : Asked
  step : ℕ → Tree → Asked
  out_of_range : Asked

unfoldable pub ask : List Rule → Tree → Asked
ask [] t = no_rule
ask (r ∷ rs) t =
    elim (r.try t) [
      | does_not_apply ↦ ask rs t
      | applies u ↦ step r.number u
      | range_exceeded ↦ out_of_range
    ]

-- a run: the tree it ends with, its steps in order, its openings, its tries; or the steps completed before an integer outside the range
pub data Ran : Type 0 where
  done : Tree → List ℕ → ℕ → ℕ → Ran
  over : ℕ → Ran

-- the runs of the members, first to last
pub data Rans : Type 0 where
  dones : List Tree → List ℕ → ℕ → ℕ → Rans
  overs : ℕ → Rans

-- a run with steps, openings and tries before it
unfoldable pub after : List ℕ → ℕ → ℕ → Ran → Ran
after s o n (done t s' o' n') = done t (s ++ s') (o + o') (n + n')
after s o n (over k) = over (length s + k)

-- "A try is one asking, at one node, whether any rule applies": a run with one before it
unfoldable pub tried : Ran → Ran
tried r = after [] 0 1 r

unfoldable pub and_then : Ran → Rans → Rans
and_then (over k) r = overs k
and_then (done t s o n) (overs k) = overs (length s + k)
and_then (done t s o n) (dones l s' o' n') = dones (t ∷ l) (s ++ s') (o + o') (n + n')

unfoldable pub each : (Tree → Ran) → List Tree → Rans
each run [] = dones [] [] 0 0
each run (t ∷ l) = and_then (run t) (each run l)

-- the members, a power's exponent among them
unfoldable pub members : Tree → List Tree
members (integer μ z) = []
members (symbol μ s) = []
members (sum μ f) = to_list f
members (product μ f) = to_list f
members (power μ b ξ e) = b ∷ integer ξ (pos e) ∷ []

-- the members of a sum, and of a product; none of any other tree
unfoldable pub as_sum : Tree → Option (List Tree)
as_sum (integer μ z) = none
as_sum (symbol μ s) = none
as_sum (sum μ f) = some (to_list f)
as_sum (product μ f) = none
as_sum (power μ b ξ e) = none

unfoldable pub as_product : Tree → Option (List Tree)
as_product (integer μ z) = none
as_product (symbol μ s) = none
as_product (sum μ f) = none
as_product (product μ f) = some (to_list f)
as_product (power μ b ξ e) = none

-- "a sum among a sum's members, or a product among a product's, is replaced by its members; each is one opening": the members
-- of a gathered list, and its openings
unfoldable pub open_one : Option (List Tree) → Tree → List Tree × ℕ → List Tree × ℕ
open_one none t r = (t ∷ r.0, r.1)
open_one (some l) t r = (l ++ r.0, suc r.1)

unfoldable pub opened : (Tree → Option (List Tree)) → List Tree → List Tree × ℕ
opened inside [] = ([], 0)
opened inside (t ∷ l) = open_one (inside t) t (opened inside l)

-- the base that a power gets from its members' results; its exponent, an integer, is never changed
unfoldable pub base_from : Tree → List Tree → Tree
base_from b [] = b
base_from b (u ∷ l) = u

-- "gather the results": the node with its members' results, and its openings (never fewer than two members: proofs/Gathering)
unfoldable pub gather : Tree → List Tree → Tree × ℕ
gather (integer μ z) l = (integer μ z, 0)
gather (symbol μ s) l = (symbol μ s, 0)
gather (sum μ f) l = let r = opened as_sum l in (sum μ (of_list r.0), r.1)
gather (product μ f) l = let r = opened as_product l in (product μ (of_list r.0), r.1)
gather (power μ b ξ e) l = (power μ (base_from b l) ξ e, 0)

-- finished where nothing changed and nothing was opened, begun again where something did
unfoldable pub settle : (Tree → Ran) → List ℕ → ℕ → ℕ → Tree → Bool → Ran
settle again s o n t true = done t [] 0 n
settle again s o n t false = after s o n (again t)

unfoldable pub gathered : (Tree → Ran) → Tree → Rans → Ran
gathered again t (overs k) = over k
gathered again t (dones l s o n) =
    let g = gather t l in
    settle again s (o + g.1) n g.0 (eqb (length s + (o + g.1)) 0)

-- one visit of a node, where the rules' answer there is known; `again` is the driver
unfoldable pub visit : (Tree → Ran) → Tree → Asked → Ran
visit again t (step k u) = after (k ∷ []) 0 0 (again u)
visit again t out_of_range = over 0
visit again t no_rule = gathered again t (each again (members t))

-- at most n visits deep; the weight is enough (proofs/Fuel)
unfoldable pub run : List Rule → ℕ → Tree → Ran
run rs zero t = done t [] 0 0
run rs (suc n) t = tried (visit (λ u. run rs n u) t (ask rs t))

unfoldable pub simplify : List Rule → Tree → Ran
simplify rs t = run rs (weight t) t

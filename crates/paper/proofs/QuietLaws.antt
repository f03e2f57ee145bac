-- When a tree is quiet from a level on: all its parts that stand so many levels down are finished, that is, admit no rule and no opening. A finished tree
-- is quiet from level 0 on, and one whose members are finished from level 1 on. Quietness goes down to members; a step of a shallow rule costs one level
-- of it, no more; and a node that is gathered from finished results is quiet from level 1 on.
use Prim.Native.Nat.{ℕ, zero, suc, ◌≤◌}
use mathlib.Core.Path.{◌≡◌, refl}
use mathlib.Core.List.{List, [], ◌∷◌}
use mathlib.Core.Option.{Option, none, some}
use native.Mathlib.Omega.{arith}
use lib.ListN.{length}
use lib.IntN.{ℤ, pos}
use Rattle.paper.specs.Tree.{Tree, integer, symbol, sum, product, power}
use Rattle.paper.specs.Rules.{Rule, Tried, does_not_apply, applies, range_exceeded}
use Rattle.paper.specs.Driver.{Asked, no_rule, step, out_of_range, ask, members, as_sum, as_product, open_one, opened, base_from, gather}
use Rattle.paper.specs.Admits.{openings_at, AdmitsNone, admits_none, AllAdmitNone, no_more, and_more}
use Rattle.paper.specs.Shallow.{Each, Under, GoesDown, ShallowAnswer, Shallows, no_rules, a_rule}
use Rattle.paper.proofs.WFLaws.{to_of_list}
use Rattle.paper.proofs.GatherLaws.{as_sum_lem, as_product_lem}
use Rattle.paper.proofs.ShallowLaws.{each_map, each_append}

abbrev pub Quiet : List Rule → ℕ → Tree → Type 0
Quiet rs zero t = AdmitsNone rs t
Quiet rs (suc k) t = Under (Quiet rs k) t

pub each_of_all : {rs : List Rule} {l : List Tree} → AllAdmitNone rs l → Each (AdmitsNone rs) l
each_of_all no_more = tt
each_of_all (and_more h hs) = (h, each_of_all hs)

pub all_of_each : (rs : List Rule) (l : List Tree) → Each (AdmitsNone rs) l → AllAdmitNone rs l
all_of_each rs [] p = no_more
all_of_each rs (t ∷ l) p = and_more p.0 (all_of_each rs l p.1)

ask_integer : {rs : List Rule} → Shallows rs → (μ : ℕ) (z : ℤ) → ask rs (integer μ z) ≡ no_rule
unfolding ask
ask_integer no_rules μ z = refl
ask_integer (a_rule g gs) μ z = rw (g.on_no_integer μ z) (ask_integer gs μ z)

-- quietness goes down, and integers are finished: so rules keep it but for a level
module _ {rs : List Rule} (hs : Shallows rs) where
  quiet_down : (k : ℕ) (t : Tree) → Quiet rs k t → Under (Quiet rs k) t
  quiet_down zero t (admits_none a o ms) = each_of_all ms
  quiet_down (suc k) t p = each_map (quiet_down k) (members t) p

  quiet_integer : (k μ : ℕ) (z : ℤ) → Quiet rs k (integer μ z)
  unfolding members openings_at gather
  quiet_integer zero μ z = admits_none (ask_integer hs μ z) refl no_more
  quiet_integer (suc k) μ z = tt

  pub quiet_goes : (k : ℕ) → GoesDown (Quiet rs k)
  quiet_goes k = record { down = quiet_down k; integers = quiet_integer k }

-- what is shown of the rules' answer at a node of whose members P holds
abbrev pub AskedShallow : (Tree → Type 0) → Asked → Type 0
AskedShallow P no_rule = Unit {0}
AskedShallow P (step k u) = Under (Under P) u
AskedShallow P out_of_range = Unit {0}

pub ask_shallow : {rs : List Rule} → Shallows rs → (P : Tree → Type 0) → GoesDown P → (t : Tree) → Under P t → AskedShallow P (ask rs t)
unfolding ask
ask_shallow no_rules P d t p = tt
ask_shallow (a_rule {r = r} {rs = rs} g gs) P d t p = go (r.try t) (g.shallow P d t p) (ask_shallow gs P d t p)
  where
    go : (a : Tried) → ShallowAnswer P a → AskedShallow P (ask rs t)
        → AskedShallow P (elim a [ does_not_apply ↦ ask rs t | applies u ↦ step r.number u | range_exceeded ↦ out_of_range ])
    go does_not_apply q h = h
    go (applies u) q h = q
    go range_exceeded q h = tt

-- a gathered node has its members' results, or their members, for members
module _ {P : Tree → Type 0} (d : GoesDown P) where
  module _ (inside : Tree → Option (List Tree)) (node : (t : Tree) (l : List Tree) → inside t ≡ some l → P t → Each P l) where
    open_one_lem : (t : Tree) (o : Option (List Tree)) (r : List Tree × ℕ) → inside t ≡ o → P t → Each P r.0 → Each P (open_one o t r).0
    unfolding open_one
    open_one_lem t none r e p q = (p, q)
    open_one_lem t (some l) r e p q = each_append P l r.0 (node t l e p) q

    open_each : (l : List Tree) → Each P l → Each P (opened inside l).0
    unfolding opened
    open_each [] p = tt
    open_each (t ∷ l) p = open_one_lem t (inside t) (opened inside l) refl p.0 (open_each l p.1)

  base_from_lem : (b : Tree) (l : List Tree) → 1 ≤ length l → Each P l → P (base_from b l)
  unfolding base_from
  base_from_lem b [] h p = absurd (omega arith)
  base_from_lem b (u ∷ l) h p = p.0

  pub gather_under : (t : Tree) (l : List Tree) → length l ≡ length (members t) → Each P l → Under P (gather t l).0
  unfolding gather members
  gather_under (integer μ z) l n p = tt
  gather_under (symbol μ s) l n p = tt
  gather_under (sum μ f) l n p =
      rw to_of_list (open_each as_sum (as_sum_lem (λ t l. P t → Each P l) (λ μ f. d.down (sum μ f))) l p)
  gather_under (product μ f) l n p =
      rw to_of_list (open_each as_product (as_product_lem (λ t l. P t → Each P l) (λ μ f. d.down (product μ f))) l p)
  gather_under (power μ b ξ e) l n p = (base_from_lem b l (omega arith) p, (d.integers ξ (pos e), tt))

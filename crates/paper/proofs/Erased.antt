-- Marks decide nothing, over any rules that do not look at them: the run on a tree without its marks is the run on the tree, without marks.
-- By induction on the fuel: asking, the members, their gathering and opening do not look at a mark.
use Prim.Native.Nat.{ℕ, zero, suc, ◌+◌}
use mathlib.Core.Path.{◌≡◌, refl, sym, ap, ◌∙◌}
use mathlib.Core.Bool.{Bool, true, false, cond}
use mathlib.Core.List.{List, [], ◌∷◌, map, map-append}
use mathlib.Core.Option
use mathlib.Core.Option.{Option, none, some}
use lib.ListN.{length}
use lib.Dec.{eqb}
use Rattle.paper.specs.Tree.{Tree, integer, symbol, sum, product, power, of_list, weight}
use Rattle.paper.specs.Rules.{Rule, Tried, does_not_apply, applies, range_exceeded, edition_one, edition_two, rules_of}
use Rattle.paper.specs.Driver.{Asked, no_rule, step, out_of_range, ask, Ran, done, over, Rans, dones, overs, after, tried, and_then, each}
use Rattle.paper.specs.Driver.{members, as_sum, as_product, open_one, opened, base_from, gather, settle, gathered, visit, run, simplify}
use Rattle.paper.specs.Erased.{erase, erased, MarksDecideNothing}
use Rattle.paper.proofs.ErasedTrees.{erases_list, list_erases, erase_weight, erased_tried}
use Rattle.paper.proofs.ErasedRules.{Blinds, no_rules, a_rule, edition_one_blind, edition_two_blind}

unfoldable erased_asked : Asked → Asked
erased_asked no_rule = no_rule
erased_asked (step k t) = step k (erase t)
erased_asked out_of_range = out_of_range

unfoldable erased_all : Rans → Rans
erased_all (dones l s o n) = dones (map erase l) s o n
erased_all (overs k) = overs k

ask_erased : {rs : List Rule} → Blinds rs → (t : Tree) → ask rs (erase t) ≡ erased_asked (ask rs t)
unfolding ask erased_asked
ask_erased no_rules t = refl
ask_erased (a_rule {r = r} {rs = rs} b bs) t = go (r.try (erase t)) (r.try t) (b t) (ask_erased bs t)
  where
    go : (a' a : Tried) → a' ≡ erased_tried a → ask rs (erase t) ≡ erased_asked (ask rs t)
        → ◌≡◌ {A = Asked}
        (elim a' [ does_not_apply ↦ ask rs (erase t) | applies u ↦ step r.number u | range_exceeded ↦ out_of_range ])
        (erased_asked (elim a [ does_not_apply ↦ ask rs t | applies u ↦ step r.number u | range_exceeded ↦ out_of_range ]))
    go a' does_not_apply q h = unfold erased_tried in rw q h
    go a' (applies u) q h = unfold erased_tried in rw q refl
    go a' range_exceeded q h = unfold erased_tried in rw q refl

members_erased : (t : Tree) → members (erase t) ≡ map erase (members t)
unfolding members erase
members_erased (integer μ z) = refl
members_erased (symbol μ s) = refl
members_erased (sum μ f) = erases_list f
members_erased (product μ f) = erases_list f
members_erased (power μ b ξ e) = refl

-- ---- opening
sum_inside : (t : Tree) → as_sum (erase t) ≡ Option.map (map erase) (as_sum t)
unfolding as_sum erase
sum_inside (integer μ z) = refl
sum_inside (symbol μ s) = refl
sum_inside (sum μ f) = ap some (erases_list f)
sum_inside (product μ f) = refl
sum_inside (power μ b ξ e) = refl

product_inside : (t : Tree) → as_product (erase t) ≡ Option.map (map erase) (as_product t)
unfolding as_product erase
product_inside (integer μ z) = refl
product_inside (symbol μ s) = refl
product_inside (sum μ f) = refl
product_inside (product μ f) = ap some (erases_list f)
product_inside (power μ b ξ e) = refl

open_erased : (o : Option (List Tree)) (t : Tree) (r : List Tree × ℕ)
    → open_one (Option.map (map erase) o) (erase t) (map erase r.0, r.1) ≡ (map erase (open_one o t r).0, (open_one o t r).1)
unfolding open_one
open_erased none t r = refl
open_erased (some l) t r = ap (λ k. (k, suc r.1)) (sym (map-append erase l r.0))

opened_erased : (ins : Tree → Option (List Tree)) → ((t : Tree) → ins (erase t) ≡ Option.map (map erase) (ins t)) → (l : List Tree)
    → opened ins (map erase l) ≡ (map erase (opened ins l).0, (opened ins l).1)
unfolding opened
opened_erased ins h [] = refl
opened_erased ins h (t ∷ l) = rw (h t, opened_erased ins h l) (open_erased (ins t) t (opened ins l))

base_erased : (b : Tree) (l : List Tree) → base_from (erase b) (map erase l) ≡ erase (base_from b l)
unfolding base_from
base_erased b [] = refl
base_erased b (u ∷ l) = refl

gather_erased : (t : Tree) (l : List Tree) → gather (erase t) (map erase l) ≡ (erase (gather t l).0, (gather t l).1)
unfolding gather erase
gather_erased (integer μ z) l = refl
gather_erased (symbol μ s) l = refl
gather_erased (sum μ f) l =
    ap (λ (r : List Tree × ℕ). (sum 0 (of_list r.0), r.1)) (opened_erased as_sum sum_inside l)
    ∙ ap (λ g. (sum 0 g, (opened as_sum l).1)) (list_erases (opened as_sum l).0)
gather_erased (product μ f) l =
    ap (λ (r : List Tree × ℕ). (product 0 (of_list r.0), r.1)) (opened_erased as_product product_inside l)
    ∙ ap (λ g. (product 0 g, (opened as_product l).1)) (list_erases (opened as_product l).0)
gather_erased (power μ b ξ e) l = ap (λ u. (power 0 u 0 e, 0)) (base_erased b l)

-- ---- the run
after_erased : (s : List ℕ) (o n : ℕ) (r : Ran) → after s o n (erased r) ≡ erased (after s o n r)
unfolding after erased
after_erased s o n (done t s' o' n') = refl
after_erased s o n (over k) = refl

then_erased : (r : Ran) (rs : Rans) → and_then (erased r) (erased_all rs) ≡ erased_all (and_then r rs)
unfolding and_then erased erased_all
then_erased (over k) rs = refl
then_erased (done t s o n) (overs k) = refl
then_erased (done t s o n) (dones l s' o' n') = refl

module _ (f : Tree → Ran) (h : (t : Tree) → f (erase t) ≡ erased (f t)) where
  each_erased : (l : List Tree) → each f (map erase l) ≡ erased_all (each f l)
  unfolding each
  each_erased [] = unfold erased_all in refl
  each_erased (t ∷ l) = rw (h t, each_erased l) (then_erased (f t) (each f l))

  settle_erased : (s : List ℕ) (o n : ℕ) (t : Tree) (b : Bool) → settle f s o n (erase t) b ≡ erased (settle f s o n t b)
  unfolding settle
  settle_erased s o n t true = unfold erased in refl
  settle_erased s o n t false = ap (after s o n) (h t) ∙ after_erased s o n (f t)

  gathered_erased : (t : Tree) (r : Rans) → gathered f (erase t) (erased_all r) ≡ erased (gathered f t r)
  unfolding gathered erased_all
  gathered_erased t (overs k) = unfold erased in refl
  gathered_erased t (dones l s o n) =
      ap (λ (g : Tree × ℕ). settle f s (o + g.1) n g.0 (eqb (length s + (o + g.1)) 0)) (gather_erased t l)
      ∙ settle_erased s (o + (gather t l).1) n (gather t l).0 (eqb (length s + (o + (gather t l).1)) 0)

  visit_erased : (t : Tree) (a : Asked) → visit f (erase t) (erased_asked a) ≡ erased (visit f t a)
  unfolding visit erased_asked
  visit_erased t (step k u) = ap (after (k ∷ []) 0 0) (h u) ∙ after_erased (k ∷ []) 0 0 (f u)
  visit_erased t out_of_range = unfold erased in refl
  visit_erased t no_rule =
      ap (gathered f (erase t)) (ap (each f) (members_erased t) ∙ each_erased (members t)) ∙ gathered_erased t (each f (members t))

run_erased : {rs : List Rule} → Blinds rs → (n : ℕ) (t : Tree) → run rs n (erase t) ≡ erased (run rs n t)
unfolding run
run_erased bs zero t = unfold erased in refl
run_erased {rs} bs (suc n) t =
    ap tried
    (ap (visit (λ u. run rs n u) (erase t)) (ask_erased bs t) ∙ visit_erased (λ u. run rs n u) (λ u. run_erased bs n u) t (ask rs t))
    ∙ unfold tried in after_erased [] 0 1 (visit (λ u. run rs n u) t (ask rs t))

-- marks decide nothing
pub marks_decide_nothing : {rs : List Rule} → Blinds rs → MarksDecideNothing rs
unfolding simplify
marks_decide_nothing {rs} bs t = ap (λ n. run rs n (erase t)) (erase_weight t) ∙ run_erased bs (weight t) t

-- in each edition
pub edition_marks_decide_nothing : (ed : ℕ) → MarksDecideNothing (rules_of ed)
unfolding rules_of
edition_marks_decide_nothing ed = go (eqb ed 2)
  where
    go : (b : Bool) → MarksDecideNothing (cond b edition_two edition_one)
    go true = marks_decide_nothing edition_two_blind
    go false = marks_decide_nothing edition_one_blind

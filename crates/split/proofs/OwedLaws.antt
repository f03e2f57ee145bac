-- Skipping a tree that stands in a table by counting the trees owed: it ends as many records later as the tree has.
use Prim.Native.Nat.{ℕ, ◌+◌, ◌-◌, ◌*◌, ◌≤◌, ◌<◌}
use mathlib.Core.Path.{◌≡◌, refl, sym, ◌∙◌}
use mathlib.Core.List.{List}
use mathlib.Core.Logic.{◌⊎◌, inl, inr}
use native.Mathlib.Nat.{eq-or-lt_of_le}
use native.Mathlib.Omega.{arith}
use borrow.Author.Tests.{lt-ltb}
use Rattle.paper.specs.Record.{kind, arity}
use Rattle.paper.specs.Standing.{kind_number}
use Rattle.paper.specs.Tree.{Tree, Forest, integer, symbol, sum, product, power, nil, cons, count, records, recordses}
use Rattle.paper.specs.Verdict.{skip, tree_end}
use Rattle.paper.proofs.SkipLaws.{skip_none, skip_one, skip_more, skip_out, skip_step, end_step}
use Rattle.note.specs.Noted.{count_of, inner}
use lib.ListN.{length}
use lib.IntN.{pos}
use Rattle.split.specs.Standing.{Told, ToldTrees}
use Rattle.note.proofs.ToldLaws.{tree_within, kind_number_lem, count_number, sum_trees, product_trees, power_tree, exponent_tree}
use Rattle.note.proofs.ToldLaws.{first_tree, other_trees}

-- a tree's record tells how many trees stand behind it
arity_number : {how : Tree → ℕ} {s : List ℕ} {i : ℕ} (t : Tree) → Told how s i t → arity s i ≡ count (inner t)
unfolding arity kind_number count_of inner count
arity_number (integer μ z) h = rw (kind_number_lem h) refl
arity_number (symbol μ v) h = rw (kind_number_lem h) refl
arity_number (sum μ f) h = rw (kind_number_lem h) (count_number h)
arity_number (product μ f) h = rw (kind_number_lem h) (count_number h)
arity_number (power μ b ξ e) h = rw (kind_number_lem h) refl

leaf_end : (s : List ℕ) (n i : ℕ) → i < n → arity s i ≡ 0 → tree_end s n i ≡ i + 1
leaf_end s n i l e = end_step s n i l ∙ rw e (skip_none s n (n - (i + 1)) (i + 1))

-- a tree that stands in a table ends as many records later as it has
mutual
  unfolding records count inner

  told_end : {how : Tree → ℕ} (t : Tree) (s : List ℕ) (n i : ℕ) → Told how s i t → i + records t ≤ n → tree_end s n i ≡ i + records t
  told_end (integer μ z) s n i h l = leaf_end s n i (omega arith) (arity_number (integer μ z) h)
  told_end (symbol μ v) s n i h l = leaf_end s n i (omega arith) (arity_number (symbol μ v) h)
  told_end (sum μ f) s n i h l =
      end_step s n i (omega arith)
      ∙ rw (arity_number (sum μ f) h) (trees_end f s n (i + 1) (sum_trees h) (omega arith) ∙ omega arith)
  told_end (product μ f) s n i h l =
      end_step s n i (omega arith)
      ∙ rw (arity_number (product μ f) h) (trees_end f s n (i + 1) (product_trees h) (omega arith) ∙ omega arith)
  told_end (power μ b ξ e) s n i h l =
      let j : tree_end s n (i + 1) ≡ i + 1 + records b = told_end b s n (i + 1) (power_tree h) (omega arith) in
      end_step s n i (omega arith)
      ∙ rw (arity_number (power μ b ξ e) h, skip_more s n (i + 1) 1, j, skip_one s n (i + 1 + records b))
      (leaf_end s n (i + 1 + records b) (omega arith) (arity_number (integer ξ (pos e)) (exponent_tree h)) ∙ omega arith)

  trees_end : {how : Tree → ℕ} {m : ℕ} (f : Forest) (s : List ℕ) (n i : ℕ) → ToldTrees how s i m f → i + recordses f ≤ n
      → skip s n (n - i) (count f) i ≡ i + recordses f
  trees_end nil s n i h l = skip_none s n (n - i) i ∙ omega arith
  trees_end (cons t f) s n i h l =
      rw (skip_more s n i (count f), told_end t s n i (first_tree h) (omega arith))
      (trees_end f s n (i + records t) (other_trees h) (omega arith) ∙ omega arith)

-- the trees owed from record `at` on end where the tree t at record i does
pub record Owed (s : List ℕ) (i : ℕ) (t : Tree) (at owed : ℕ) : Type 0 where
  pub few : at ≤ i + records t
  pub ends : skip s (i + records t) (i + records t - at) owed at ≡ i + records t

module _ {s : List ℕ} {i : ℕ} {t : Tree} where
  pub owed_one : {how : Tree → ℕ} → Told how s i t → Owed s i t i 1
  owed_one h =
      record {
        few = omega arith;
        ends = skip_one s (i + records t) i ∙ told_end t s (i + records t) i h (omega arith);
      }

  pub owed_inside : {at owed : ℕ} → Owed s i t at owed → 0 < owed → at < i + records t
  owed_inside {at} {owed} h l = go (eq-or-lt_of_le h.few)
    where
      go : (at ≡ i + records t) ⊎ (at < i + records t) → at < i + records t
      go (inl e) = absurd (omega (arith, skip_out s (i + records t) owed at l (omega arith), h.ends))
      go (inr m) = m

  -- while a tree is owed, the next record lies in the table
  pub owed_within : {how : Tree → ℕ} {at owed : ℕ} → Told how s i t → Owed s i t at owed → 0 < owed → (at * 16 + 16 ≤ length s) × (at < i + 65535)
  owed_within h o l = let m = owed_inside o l in (omega (arith, tree_within h), omega (arith, h.few))

  pub owed_step : {at owed : ℕ} → Owed s i t at owed → 0 < owed → Owed s i t (at + 1) (owed - 1 + arity s at)
  owed_step {at} {owed} h l =
      let m = owed_inside h l in
      record { few = omega arith; ends = sym (skip_step s (i + records t) at owed l m) ∙ h.ends }

  pub owed_none : {at owed : ℕ} → Owed s i t at owed → owed ≡ 0 → at ≡ i + records t
  owed_none {at} {owed} h e = sym (rw e (skip_none s (i + records t) (i + records t - at) at)) ∙ h.ends

-- a leaf owes no member
pub leaf_owes_none : (s : List ℕ) (i : ℕ) → kind s i < 2 → 1 - 1 + arity s i ≡ 0
unfolding arity
leaf_owes_none s i h = rw (lt-ltb (kind s i) 2 h) refl

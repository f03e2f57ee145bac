-- The readers of one level, in the shape of the code: sums and products are nodes of one kind, a power is a base that may be raised, and a
-- group is read one level deeper or passed over.
use Prim.Native.Nat.{ℕ, zero, suc, ◌+◌, ◌-◌, ◌≤◌, ◌<◌}
use mathlib.Core.Path.{◌≡◌, refl, sym, ap, ◌∙◌, subst}
use mathlib.Core.Bool.{Bool, true, false, cond}
use mathlib.Core.List.{List, ◌∷◌}
use mathlib.Core.Option.{Option, none, some}
use native.Mathlib.Omega.{arith}
use lib.ListN.{length, drop}
use Rattle.paper.specs.Tree.{Tree, sum, product, of_list, weight}
use Rattle.paper_text.specs.Text.{in_sum, in_product, opens, plus, times, Reading, then, begins}
use Rattle.paper_text.specs.Text.{Item, bare, alone, all_fit, leaving, closed, read_leaf, read_others}
use Rattle.paper_text.specs.Text.{read_base, read_power, product_from, read_product, sum_from, read_sum}
use Rattle.paper_text.specs.Levels.{rank, skim, read_cut}
use Rattle.paper_text.proofs.PlaceLaws.{sign_inside, tail_there}
use Rattle.paper_text.proofs.RoundTrip.{none_follows}
use Rattle.std.specs.Prelude.{Some, None}
use Rattle.parse.specs.declared.Item as code
use Rattle.parse.specs.Parsed.{Laid, Stands, ItemIs, Found, wrap, bared, raising}
use Rattle.parse.proofs.ItemLaws.{restand}
use Rattle.parse.specs.Joined.{Nodes, Kind, bound, lone_in, whole}
use Rattle.parse.proofs.LaidLaws.{sum_laid, product_laid}

module _ (inner : List ℕ → Reading Tree) where
  pub sums : Nodes (read_product inner) in_sum plus 3 (sum 0) (λ i z l. bared (sum_from inner i z l))
  unfolding rank weight sum_from bared then leaving
  sums = record {
    made = λ i j l z. sum_made i j l z;
    ranked = λ f. refl;
    weighs = λ f. refl;
  }
    where
      pushed : (z : List ℕ) (o : Option (List Tree)) → bared (leaving z (λ ts. sum 0 (of_list ts)) o) ≡ leaving z (λ ts. bare (sum 0 (of_list ts))) o
      pushed z none = refl
      pushed z (some ts) = refl

      sum_made : (i j : Item) (l : List Item) (z : List ℕ)
          → bared (sum_from inner i z (j ∷ l)) ≡ leaving z (λ ts. bare (sum 0 (of_list ts))) (all_fit in_sum (i ∷ j ∷ l))
      sum_made i j l z = pushed z (all_fit in_sum (i ∷ j ∷ l))

  pub products : Nodes (read_power inner) in_product times 2 (product 0) (λ i z l. product_from inner i z l)
  unfolding rank weight product_from
  products = record {
    made = λ i j l z. refl;
    ranked = λ f. refl;
    weighs = λ f. refl;
  }

  pub sum_whole : (s : List ℕ) → bared (read_sum inner s) ≡ whole sums s
  unfolding read_sum bared whole then
  sum_whole s = go (read_product inner s)
    where
      deep : (i : Item) (o : Reading (List Item)) → bared (then o (λ l q. sum_from inner i q l)) ≡ then o (λ l q. bared (sum_from inner i q l))
      deep i none = refl
      deep i (some x) = refl

      go : (o : Reading Item) → bared (then o (λ i r. then (read_others (read_product inner) plus (length r) r) (λ l q. sum_from inner i q l)))
          ≡ then o (λ i r. then (read_others (read_product inner) plus (length r) r) (λ l q. bared (sum_from inner i q l)))
      go none = refl
      go (some x) = deep x.0 (read_others (read_product inner) plus (length x.1) x.1)

  pub product_whole : (s : List ℕ) → read_product inner s ≡ whole products s
  unfolding read_product whole
  product_whole s = refl

  -- no sign follows the first member: in a sum it stands bare
  sum_alone : (s : List ℕ) (at : ℕ) (L : ℕ → Tree → Type 0) (i : code.Item) (g : Bool) → i.form.grouped ≡ g
      → Stands s at (read_product inner (drop at s)) (wrap g) (L i.end) i.form.rank i.next i.weight → begins plus (drop i.next s) ≡ false
      → ItemIs s at (bared (read_sum inner (drop at s))) L (cond g None (Some i))
  unfolding read_sum bared then sum_from alone leaving
  sum_alone s at L i true q h b = rw (h.read, none_follows (read_product inner) plus (length (drop i.next s)) (drop i.next s) b)
  sum_alone s at L i false q h b =
      subst (λ (g : Bool). Stands s at (bared (read_sum inner (drop at s))) (wrap g) (L i.end) i.form.rank i.next i.weight) (sym q)
      (restand h (rw (h.read, none_follows (read_product inner) plus (length (drop i.next s)) (drop i.next s) b)))

  product_alone : (s : List ℕ) (at : ℕ) (L : ℕ → Tree → Type 0) (i : code.Item) → Found s at (read_power inner (drop at s)) L i
      → begins times (drop i.next s) ≡ false → Found s at (read_product inner (drop at s)) L i
  unfolding read_product then product_from
  product_alone s at L i h b = restand h (rw (h.read, none_follows (read_power inner) times (length (drop i.next s)) (drop i.next s) b))

  pub sum_kind : Kind 2 sums
  unfolding bound
  sum_kind = record {
    bounded = refl;
    lays = λ s z t l h r. sum_laid s z t l h r;
    alone =
        λ s at old d new i h b. subst (λ o. ItemIs s at o (Laid old d new) (lone_in 2 i)) (sum_whole (drop at s))
        (sum_alone s at (Laid old d new) i i.form.grouped refl h b);
  }

  pub product_kind : Kind 3 products
  unfolding bound
  product_kind = record {
    bounded = refl;
    lays = λ s z t l h r. product_laid s z t l h r;
    alone =
        λ s at old d new i h b. subst (λ o. ItemIs s at o (Laid old d new) (lone_in 3 i)) (product_whole (drop at s))
        (product_alone s at (Laid old d new) i h b);
  }

  -- ---- a power by its first character
  pub power_group : (s : List ℕ) (at : ℕ) → begins opens (drop at s) ≡ true → read_power inner (drop at s) ≡ then
      (then (inner (drop (at + 1) s)) closed) raising
  unfolding read_power read_base raising
  power_group s at b = rw (b, tail_there s at (sign_inside s at opens b))

  pub power_leaf : (s : List ℕ) (at : ℕ) → begins opens (drop at s) ≡ false → read_power inner (drop at s) ≡ then (bared (read_leaf (drop at s))) raising
  unfolding read_power read_base raising bared
  power_leaf s at b = rw b

-- ---- a group is passed over at the last level, and read one level deeper before it
pub group_passed : (s : List ℕ) (at : ℕ) → begins opens (drop at s) ≡ true
    → read_power (read_cut 0) (drop at s) ≡ then (then (skim (drop (at + 1) s)) closed) raising
unfolding read_cut
group_passed s at b = power_group (read_cut 0) s at b

pub last_level : (s : List ℕ) (at n : ℕ) → n < 1 → read_power (read_cut n) (drop at s) ≡ read_power (read_cut 0) (drop at s)
last_level s at n h = ap (λ (m : ℕ). read_power (read_cut m) (drop at s)) (omega (arith, h))

-- without a group all levels are alike
pub no_group : (s : List ℕ) (at n : ℕ) → begins opens (drop at s) ≡ false → read_power (read_cut n) (drop at s) ≡ read_power (read_cut 0) (drop at s)
no_group s at n b = power_leaf (read_cut n) s at b ∙ sym (power_leaf (read_cut 0) s at b)

pub group_read : (s : List ℕ) (at n : ℕ) → 1 ≤ n → begins opens (drop at s) ≡ true
    → read_power (read_cut n) (drop at s) ≡ then (then (read_sum (read_cut (n - 1)) (drop (at + 1) s)) closed) raising
unfolding read_cut
group_read s at zero h b = absurd (omega (arith, h))
group_read s at (suc n) h b =
    let e : n ≡ suc n - 1 = omega arith in
    power_group (read_cut (suc n)) s at b ∙ ap (λ (m : ℕ). then (then (read_sum (read_cut m) (drop (at + 1) s)) closed) raising) e

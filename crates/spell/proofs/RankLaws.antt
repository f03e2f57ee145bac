-- The rank of a standing tree, from its first record: its kind, and for an integer whether its 64 bits stand for a negative one; and where a
-- rank puts parentheses.
use Prim.Native.Nat.{ℕ, ◌^◌, ◌≤◌, ◌<◌}
use mathlib.Core.Path.{◌≡◌, refl, sym, ap, ◌∙◌}
use mathlib.Core.Bool.{true, false}
use mathlib.Core.List.{List}
use native.Mathlib.Omega.{arith}
use native.Mathlib.Nat.{mod-eq_of_lt}
use borrow.Author.Tests.{le-leb, lt-leb}
use lib.Dec.{leb}
use lib.IntN.{ℤ, pos, negsuc}
use Rattle.paper.specs.Limits.{modulus}
use Rattle.paper.specs.Bytes.{word}
use Rattle.paper.specs.Tree.{Tree, integer}
use Rattle.paper.specs.WellFormed.{InRange}
use Rattle.paper.specs.Record.{kind, bits}
use Rattle.paper_text.specs.Text.{Place, in_sum, in_product, as_base, needs}
use Rattle.paper_text.specs.Levels.{rank}
use Rattle.paper.specs.Standing.{TreeIn}
use Rattle.paper.proofs.Seen.{seen_integer, seen_symbol, seen_sum, seen_product, seen_power}
use Rattle.paper.proofs.StandingLaws.{seen}
use Rattle.paper_text.proofs.LevelLaws.{needs_rank, needs_by_rank}
use Rattle.spell.specs.Spelt.{least_rank}

low : (μ : ℕ) (z : ℤ) → InRange z → word z < 2 ^ 63 → 0 ≡ rank (integer μ z)
unfolding word rank
low μ (pos n) w h = refl
low μ (negsuc n) w h = absurd (let m = mod-eq_of_lt {n = n} {m = modulus} (omega (arith, w)) in omega (arith, m, h, w))

high : (μ : ℕ) (z : ℤ) → InRange z → 2 ^ 63 ≤ word z → 1 ≡ rank (integer μ z)
unfolding word rank
high μ (pos n) w h = absurd (let m = mod-eq_of_lt {n = n} {m = modulus} (omega (arith, w)) in omega (arith, m, h, w))
high μ (negsuc n) w h = refl

module _ {s : List ℕ} {i : ℕ} {t : Tree} (h : TreeIn s i t) where
  pub low_rank : kind s i ≡ 0 → bits s i < 2 ^ 63 → 0 ≡ rank t
  low_rank k l = let q = seen_integer (seen h) k in low q.0 q.1 q.4 (let b = q.3 in omega (arith, b, l)) ∙ ap rank (sym q.2)

  pub high_rank : kind s i ≡ 0 → 2 ^ 63 ≤ bits s i → 1 ≡ rank t
  high_rank k l = let q = seen_integer (seen h) k in high q.0 q.1 q.4 (let b = q.3 in omega (arith, b, l)) ∙ ap rank (sym q.2)

  pub symbol_rank : kind s i ≡ 1 → 0 ≡ rank t
  unfolding rank
  symbol_rank k = let q = seen_symbol (seen h) k in ap rank (sym q.2)

  pub sum_rank : kind s i ≡ 2 → 3 ≡ rank t
  unfolding rank
  sum_rank k = let q = seen_sum (seen h) k in ap rank (sym q.2)

  pub product_rank : kind s i ≡ 3 → 2 ≡ rank t
  unfolding rank
  product_rank k = let q = seen_product (seen h) k in ap rank (sym q.2)

  pub power_rank : kind s i ≡ 4 → 1 ≡ rank t
  unfolding rank
  power_rank k = let q = seen_power (seen h) k in ap rank (sym q.4)

-- ---- where a rank puts parentheses
by_least : (p : Place) (r : ℕ) → needs_rank p r ≡ leb (least_rank p) r
unfolding needs_rank least_rank
by_least in_sum r = refl
by_least in_product r = refl
by_least as_base r = refl

module _ (p : Place) (t : Tree) (r least : ℕ) (e : r ≡ rank t) (q : least ≡ least_rank p) where
  pub bare_there : r < least → needs p t ≡ false
  bare_there l = needs_by_rank p t ∙ by_least p (rank t) ∙ lt-leb (least_rank p) (rank t) (omega (arith, e, q, l))

  pub grouped_there : least ≤ r → needs p t ≡ true
  grouped_there l = needs_by_rank p t ∙ by_least p (rank t) ∙ le-leb (least_rank p) (rank t) (omega (arith, e, q, l))

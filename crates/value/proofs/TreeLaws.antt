-- What the record of a standing tree tells the evaluator, kind by kind: the tree's value and end come from the record's fields and,
-- for a sum, a product or a power, from what the members that stand after it give, a power's base being its one.
use Rattle.std.proofs.Common.{◌≡◌, ℕ, ◌+◌, ◌*◌, ◌%◌, ◌^◌, ◌<◌, ◌≤◌, List, [], ◌∷◌, length, sym, refl, ap, ◌∙◌, subst, append-nil, mod-eq_of_lt, arith}
use Rattle.std.proofs.Common.{eq-eqb, ne_eqb}
use native.Mathlib.Decide.{ℕ_discrete}
use Rattle.paper.specs.Limits.{modulus}
use Rattle.paper.specs.Tree.{Tree, Forest, sum, product, power, nil, cons, count, records, recordses, value, sum_value, product_value}
use Rattle.paper.specs.Record.{kind, count_in, bits, symbol_in}
use Rattle.paper.specs.Table.{encode}
use Rattle.paper.proofs.Seen.{seen_kind, seen_integer, seen_symbol, seen_sum, seen_product, seen_power}
use Rattle.paper.proofs.StandingLaws.{tree_within, record_within, seen, sum_trees, product_trees, power_tree}
use Rattle.paper.proofs.Value.{value_exact}
use Rattle.paper.specs.Standing.{TreeIn, TreesIn, SomeTree, SomeTrees}
use Rattle.value.specs.Evaluated.{Evaluated, place, parts}
use Rattle.value.proofs.MemberLaws.{gathered}

-- the trees that the value of a sum or a product is made from
members_parts : (s : List ℕ) (i : ℕ) → (kind s i ≡ 4 → ⊥) → count_in s i ≡ parts s i
unfolding parts
members_parts s i k = rw (ne_eqb (kind s i) 4 k) refl

module _ {s : List ℕ} {i : ℕ} where
  -- the first record of a standing tree lies inside the table, and its kind is one of the five
  pub inside : SomeTree s i → i * 16 + 16 ≤ length s
  inside h = record_within h.there

  pub kind_below : SomeTree s i → kind s i < 5
  kind_below h = omega (arith, seen_kind (seen h.there))

  pub last_kind : SomeTree s i → 4 ≤ kind s i → kind s i ≡ 4
  last_kind h l = omega (arith, seen_kind (seen h.there))

  pub integer_value : (ρ : ℕ → ℕ) (t : Tree) → TreeIn s i t → kind s i ≡ 0 → (r : ℕ) → r ≡ bits s i
      → Evaluated i (records t) (value t ρ) r ((i + 1) ∷ [])
  unfolding value records
  integer_value ρ t h k r v =
      let q = seen_integer (seen h) k in
      rw q.2 (record { value = v ∙ q.3; end = refl })

  pub symbol_value : (ρ : ℕ → ℕ) (t : Tree) → TreeIn s i t → kind s i ≡ 1 → (r : ℕ) → r ≡ ρ (symbol_in s i) → r < modulus
      → Evaluated i (records t) (value t ρ) r ((i + 1) ∷ [])
  unfolding value records
  symbol_value ρ t h k r v l =
      let q = seen_symbol (seen h) k in
      let w : r ≡ ρ q.1 = v ∙ ap ρ q.3 in
      rw q.2 (record { value = sym (mod-eq_of_lt l) ∙ ap (λ (n : ℕ). n % modulus) w; end = refl })

  -- the trees that a node's value is made from
  sum_parts : (t : Tree) → TreeIn s i t → kind s i ≡ 2 → (μ : ℕ) (f : Forest) → t ≡ sum μ f → TreesIn s (i + 1) (parts s i) f
  sum_parts t h k μ f e = rw (← (members_parts s i (λ z. omega arith))) (sum_trees (subst (TreeIn s i) e h))

  product_parts : (t : Tree) → TreeIn s i t → kind s i ≡ 3 → (μ : ℕ) (f : Forest) → t ≡ product μ f → TreesIn s (i + 1) (parts s i) f
  product_parts t h k μ f e = rw (← (members_parts s i (λ z. omega arith))) (product_trees (subst (TreeIn s i) e h))

  power_parts : (t : Tree) → TreeIn s i t → kind s i ≡ 4 → (μ : ℕ) (b : Tree) (ξ e : ℕ) → t ≡ power μ b ξ e
      → TreesIn s (i + 1) (parts s i) (cons b nil)
  unfolding parts count records encode
  power_parts t h k μ b ξ e q =
      let base = power_tree (subst (TreeIn s i) q h) in
      record {
        counted = rw (eq-eqb (kind s i) 4 k) refl;
        wf = (base.wf, tt);
        few = omega (arith, base.few);
        stand = record { after = base.stands.after; there = rw (append-nil (encode b)) base.stands.there };
      }

  pub parts_there : SomeTree s i → 2 ≤ kind s i → SomeTrees s (i + 1) (parts s i)
  parts_there h l = by (ℕ_discrete (kind s i) 2) (ℕ_discrete (kind s i) 3)
    where
      by : Dec (kind s i ≡ 2) → Dec (kind s i ≡ 3) → SomeTrees s (i + 1) (parts s i)
      by (yes k) d =
          let q = seen_sum (seen h.there) k in
          record { trees = q.1; there = sum_parts h.tree h.there k q.0 q.1 q.2 }
      by (no m) (yes k) =
          let q = seen_product (seen h.there) k in
          record { trees = q.1; there = product_parts h.tree h.there k q.0 q.1 q.2 }
      by (no m) (no n) =
          let k : kind s i ≡ 4 = last_kind h (omega arith) in
          let q = seen_power (seen h.there) k in
          record { trees = cons q.1 nil; there = power_parts h.tree h.there k q.0 q.1 q.2 q.3 q.4 }

  -- what these give is r, and they end where the cell says
  module _ (ρ : ℕ → ℕ) (r : ℕ) (at : List ℕ)
      (g : (f : Forest) → TreesIn s (i + 1) (parts s i) f → Evaluated (i + 1) (recordses f) (gathered ρ (kind s i) f) r at) where
    sum_value_lem : (t : Tree) → TreeIn s i t → kind s i ≡ 2 → Evaluated i (records t) (value t ρ) r at
    unfolding value records gathered
    sum_value_lem t h k =
        let q = seen_sum (seen h) k in
        let m = g q.1 (sum_parts t h k q.0 q.1 q.2) in
        let v : r ≡ sum_value q.1 ρ = m.value ∙ rw k refl in
        let e : i + 1 + recordses q.1 ≡ i + (1 + recordses q.1) = omega arith in
        rw q.2 (record { value = v; end = m.end ∙ ap (λ (x : ℕ). x ∷ []) e })

    product_value_lem : (t : Tree) → TreeIn s i t → kind s i ≡ 3 → Evaluated i (records t) (value t ρ) r at
    unfolding value records gathered
    product_value_lem t h k =
        let q = seen_product (seen h) k in
        let m = g q.1 (product_parts t h k q.0 q.1 q.2) in
        let v : r ≡ product_value q.1 ρ = m.value ∙ rw k refl in
        let e : i + 1 + recordses q.1 ≡ i + (1 + recordses q.1) = omega arith in
        rw q.2 (record { value = v; end = m.end ∙ ap (λ (x : ℕ). x ∷ []) e })

    pub members_value : (t : Tree) → TreeIn s i t → 2 ≤ kind s i → kind s i < 4 → Evaluated i (records t) (value t ρ) r at
    members_value t h l u = by (ℕ_discrete (kind s i) 2)
      where
        by : Dec (kind s i ≡ 2) → Evaluated i (records t) (value t ρ) r at
        by (yes k) = sum_value_lem t h k
        by (no m) = let k : kind s i ≡ 3 = omega arith in product_value_lem t h k

    -- a power's base b is what r is the value of, and the exponent is the record after it
    base_value : (t b : Tree) (μ ξ e : ℕ) → TreeIn s i t → kind s i ≡ 4 → t ≡ power μ b ξ e → (r ≡ value b ρ) × (place at ≡ i + 1 + records b)
    unfolding value records gathered
    base_value t b μ ξ e h k q =
        let m = g (cons b nil) (power_parts t h k μ b ξ e q) in
        let small : value b ρ < modulus = rw (value_exact b ρ) (omega arith) in
        let one : value b ρ * 1 ≡ value b ρ = omega arith in
        (m.value ∙ rw k (rw one (mod-eq_of_lt small)), ap place m.end ∙ omega arith)

    pub exponent_inside : SomeTree s i → kind s i ≡ 4 → place at * 16 + 16 ≤ length s
    unfolding records
    exponent_inside h k =
        let q = seen_power (seen h.there) k in
        let b = base_value h.tree q.1 q.0 q.2 q.3 h.there k q.4 in
        omega (arith, b.1, ap records q.4, tree_within h.there)

    pub power_value : (t : Tree) → TreeIn s i t → kind s i ≡ 4 → (u : ℕ) → u ≡ r ^ bits s (place at) % modulus
        → Evaluated i (records t) (value t ρ) u ((place at + 1) ∷ [])
    unfolding value records
    power_value t h k u v =
        let q = seen_power (seen h) k in
        let b = base_value t q.1 q.0 q.2 q.3 h k q.4 in
        let x : bits s (place at) ≡ q.3 = ap (bits s) b.1 ∙ q.5.exponent_bits in
        let e : place at + 1 ≡ i + records (power q.0 q.1 q.2 q.3) = omega (arith, b.1) in
        rw q.4 (record { value = v ∙ rw (b.0, x) refl; end = ap (λ (n : ℕ). n ∷ []) e })

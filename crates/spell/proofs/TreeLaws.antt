-- The text of a standing tree, kind by kind, from its first record and from what its members put.
use Prim.Native.Nat.{ℕ, ◌+◌, ◌-◌, ◌*◌, ◌^◌, ◌≤◌, ◌<◌}
use mathlib.Core.Path.{◌≡◌, refl, sym, ap, ◌∙◌, subst}
use mathlib.Core.Bool.{true, false}
use mathlib.Core.List.{List, [], ◌∷◌, ◌++◌}
use native.Mathlib.Decide.{ℕ_discrete}
use native.Mathlib.Omega.{arith}
use lib.ListN.{length}
use Rattle.paper.specs.Bytes.{signed}
use Rattle.paper.specs.Tree.{Tree, Forest, sum, product, power, records, recordses}
use Rattle.paper.specs.Record.{kind, count_in, bits, symbol_in}
use Rattle.paper.specs.Verdict.{records_in}
use Rattle.paper_text.specs.Text.{opens, closes, times, plus, power_sign, ess, digits, signed_digits}
use Rattle.paper_text.specs.Text.{Place, in_sum, in_product, as_base, needs, enclosed, text, joined}
use Rattle.paper.specs.Standing.{TreeIn, TreesIn, SomeTree, SomeTrees}
use Rattle.record.specs.Kinds.{number_of}
use Rattle.record.specs.declared.kinds.Kind.{Kind}
use Rattle.record.specs.declared.kinds.Kind.TheVariants.{Integer}
use Rattle.record.proofs.KindLaws.{kind_by_number}
use Rattle.paper.proofs.EncodeLaws.{signed_word}
use Rattle.paper.proofs.Seen.{seen_kind, seen_integer, seen_symbol, seen_sum, seen_product, seen_power}
use Rattle.paper.proofs.StandingLaws.{tree_within, record_within, seen, sum_trees, product_trees, power_tree}
use Rattle.decimal.specs.Digits.{NumberSpelt}
use Rattle.spell.specs.declared.Spelt.{Spelt}
use Rattle.spell.specs.Spelt.{Put, TextPut, least_rank, Roomy}
use Rattle.spell.proofs.PutLaws.{then_put, digits_put}
use Rattle.spell.proofs.LongLaws.{room_after}
use Rattle.spell.proofs.MemberLaws.{MemberPut}

module _ {s : List ℕ} {i : ℕ} where
  pub inside : SomeTree s i → i * 16 + 16 ≤ length s
  inside h = record_within h.there

  -- the kind that the code reads is the record's
  pub kind_as : {n : ℕ} → SomeTree s i → (kind s i < 5 → n ≡ kind s i) → kind s i ≡ n
  kind_as h e = let k = seen_kind (seen h.there) in sym (e (omega (arith, k)))

  -- a leaf that is no integer is a symbol
  pub symbol_as : (k : Kind) → SomeTree s i → (kind s i < 5 → number_of k ≡ kind s i) → kind s i < 2 → (k ≡ Integer → ⊥) → kind s i ≡ 1
  symbol_as k h e l other = by (ℕ_discrete (kind s i) 0)
    where
      by : Dec (kind s i ≡ 0) → kind s i ≡ 1
      by (yes z) = absurd (other (kind_by_number k Integer (e (omega arith) ∙ z)))
      by (no z) = omega arith

  -- behind a record there is room for one character more
  pub behind : {at : ℕ} → SomeTree s i → Roomy s i (at - 1) → Roomy s (i + 1) at
  unfolding records_in
  behind {at} h l = let w = inside h in let f = l.fits in record { fits = omega (arith, w, f) }

  pub integer_put : (t : Tree) → TreeIn s i t → kind s i ≡ 0 → {o o' : List ℕ} {at v e : ℕ} → v ≡ bits s i → Put (signed_digits (signed v)) o at o' e
      → TextPut i (records t) (text t) o at o' (record { next = i + 1; end = e })
  unfolding text records
  integer_put t h k {o} {o'} {at} {v} {e} b m =
      let q = seen_integer (seen h) k in
      let z : signed v ≡ q.1 = ap signed (b ∙ q.3) ∙ signed_word q.1 q.4 in
      rw q.2 (record { next = refl; text_put = subst (λ x. Put (signed_digits x) o at o' e) z m })

  pub symbol_put : (t : Tree) → TreeIn s i t → kind s i ≡ 1 → {o o' o'' : List ℕ} {at m v e : ℕ} → v ≡ symbol_in s i → Put (ess ∷ []) o at o' m
      → NumberSpelt v o' m o'' e → TextPut i (records t) (text t) o at o'' (record { next = i + 1; end = e })
  unfolding text records
  symbol_put t h k {o} {o'} {o''} {at} {m} {v} {e} b c d =
      let q = seen_symbol (seen h) k in
      let z : v ≡ q.1 = b ∙ q.3 in
      rw q.2 (record { next = refl; text_put = subst (λ x. Put (ess ∷ digits x) o at o'' e) z (then_put c (digits_put d)) })

  -- the members of a sum or a product, n being the count of its record
  module _ {n : ℕ} (c : n ≡ count_in s i) where
    sums : (t : Tree) → TreeIn s i t → (μ : ℕ) (f : Forest) → t ≡ sum μ f → TreesIn s (i + 1) n f
    sums t h μ f e = rw c (sum_trees (subst (TreeIn s i) e h))

    products : (t : Tree) → TreeIn s i t → (μ : ℕ) (f : Forest) → t ≡ product μ f → TreesIn s (i + 1) n f
    products t h μ f e = rw c (product_trees (subst (TreeIn s i) e h))

    pub sum_there : SomeTree s i → kind s i ≡ 2 → SomeTrees s (i + 1) n × (0 < n)
    sum_there h k =
        let q = seen_sum (seen h.there) k in
        let x = q.3.counted in
        let y = q.3.two in
        (record { trees = q.1; there = sums h.tree h.there q.0 q.1 q.2 }, omega (arith, c, x, y))

    pub product_there : SomeTree s i → kind s i ≡ 3 → SomeTrees s (i + 1) n × (0 < n)
    product_there h k =
        let q = seen_product (seen h.there) k in
        let x = q.3.counted in
        let y = q.3.two in
        (record { trees = q.1; there = products h.tree h.there q.0 q.1 q.2 }, omega (arith, c, x, y))

    module _ (t : Tree) (h : TreeIn s i t) {o o' : List ℕ} {at : ℕ} {r : Spelt} where
      pub sum_put : kind s i ≡ 2 → ((p : Place) (f : Forest) → 3 ≡ least_rank p → TreesIn s (i + 1) n f
          → TextPut (i + 1) (recordses f) (joined p plus f) o at o' r) → TextPut i (records t) (text t) o at o' r
      unfolding text records least_rank
      sum_put k g =
          let q = seen_sum (seen h) k in
          let m = g in_sum q.1 refl (sums t h q.0 q.1 q.2) in
          let x = m.next in
          rw q.2 (record { next = omega (arith, x); text_put = m.text_put })

      pub product_put : kind s i ≡ 3 → ((p : Place) (f : Forest) → 2 ≡ least_rank p → TreesIn s (i + 1) n f
          → TextPut (i + 1) (recordses f) (joined p times f) o at o' r) → TextPut i (records t) (text t) o at o' r
      unfolding text records least_rank
      product_put k g =
          let q = seen_product (seen h) k in
          let m = g in_product q.1 refl (products t h q.0 q.1 q.2) in
          let x = m.next in
          rw q.2 (record { next = omega (arith, x); text_put = m.text_put })

  -- the base of a power, and the exponent after it
  base : (t : Tree) (μ : ℕ) (b : Tree) (ξ e : ℕ) → TreeIn s i t → t ≡ power μ b ξ e → TreeIn s (i + 1) b
  base t μ b ξ e h q = power_tree (subst (TreeIn s i) q h)

  pub base_there : SomeTree s i → kind s i ≡ 4 → SomeTree s (i + 1)
  base_there h k =
      let q = seen_power (seen h.there) k in
      record { tree = q.1; there = base h.tree q.0 q.1 q.2 q.3 h.there q.4 }

  module _ (k : kind s i ≡ 4) {o o' : List ℕ} {at : ℕ} {r : Spelt} (g : MemberPut 1 s (i + 1) o at o' r) where
    pub exponent_inside : SomeTree s i → r.next * 16 + 16 ≤ length s
    unfolding records least_rank
    exponent_inside h =
        let q = seen_power (seen h.there) k in
        let b = (g as_base q.1 refl (base h.tree q.0 q.1 q.2 q.3 h.there q.4)).next in
        let z = ap records q.4 in
        let w = tree_within h.there in
        omega (arith, b, z, w)

    -- there is room for the sign and the exponent
    pub sign_room : SomeTree s i → Roomy s (i + 1) at → r.end + 1 ≤ 2 ^ 62
    unfolding least_rank
    sign_room h l =
        let q = seen_power (seen h.there) k in
        let b = base h.tree q.0 q.1 q.2 q.3 h.there q.4 in
        let m = g as_base q.1 refl b in
        let w = (room_after (needs as_base q.1) q.1 b l m.next m.text_put.end).fits in
        omega (arith, w)

    pub power_put : (t : Tree) → TreeIn s i t → {o2 : List ℕ} {e : ℕ} → Put (power_sign ∷ digits (bits s r.next)) o' r.end o2 e
        → TextPut i (records t) (text t) o at o2 (record { next = r.next + 1; end = e })
    unfolding text records least_rank
    power_put t h {o2} {e} d =
        let q = seen_power (seen h) k in
        let b = g as_base q.1 refl (base t q.0 q.1 q.2 q.3 h q.4) in
        let x = b.next in
        let z : bits s r.next ≡ q.3 = ap (bits s) x ∙ q.5.exponent_bits in
        rw q.4 (record {
          next = omega (arith, x);
          text_put = subst (λ y. Put (enclosed (needs as_base q.1) (text q.1) ++ (power_sign ∷ digits y)) o at o2 e) z (then_put b.text_put d);
        })

-- ---- a member: bare, or in parentheses
module _ (p : Place) (t : Tree) {i : ℕ} {o : List ℕ} {at : ℕ} where
  pub bare_put : needs p t ≡ false → {o' : List ℕ} {r : Spelt} → TextPut i (records t) (text t) o at o' r
      → TextPut i (records t) (enclosed (needs p t) (text t)) o at o' r
  unfolding enclosed
  bare_put n h = rw n h

  pub grouped_put : needs p t ≡ true → {o1 o2 o3 : List ℕ} {m e : ℕ} {r : Spelt} → Put (opens ∷ []) o at o1 m → TextPut i (records t) (text t) o1 m o2 r
      → Put (closes ∷ []) o2 r.end o3 e → TextPut i (records t) (enclosed (needs p t) (text t)) o at o3 (record { next = r.next; end = e })
  unfolding enclosed
  grouped_put n a b c = rw n (record { next = b.next; text_put = then_put a (then_put b.text_put c) })

-- The rules on a power at the tree that is pending. The kind of its record tells whether it is one; then its base stands behind that
-- record, and its exponent after the base. What is written in its place ends where the power ended: the base, moved by one record; the
-- base that is 0 or 1, as one record; or the inner base between a power's record and the product of the exponents.
use Prim.Native.Nat.{ℕ, zero, suc, ◌+◌, ◌-◌, ◌*◌, ◌^◌, ◌<◌, ◌≤◌}
use mathlib.Core.Path.{◌≡◌, refl, sym, ap, ◌∙◌, subst}
use mathlib.Core.Bool.{Bool, true, false, ◌||◌}
use mathlib.Core.List.{List, ◌++◌, append_assoc}
use native.Mathlib.Omega.{arith}
use borrow.Author.Tests.{eq-eqb, ne_eqb, ltb-true}
use lib.Dec.{eqb, ltb}
use lib.ListN.{length, drop, length-append}
use lib.IntN.{pos, ◌*ℤ◌}
use mir.Syntax.{w64}
use mir.Facts.{to_z_pos}
use Rattle.paper.specs.Bytes.{signed, word}
use Rattle.paper.specs.Tree.{Tree, power, marked, mark_of, records}
use Rattle.paper.specs.Record.{kind, mark_in, bits}
use Rattle.paper.specs.Table.{record_of}
use Rattle.paper.specs.Rules as paper
use Rattle.paper.specs.Rules.{fits, is_the, applies_if, on_power_parts, power_one, power_constant, raised_if, power_power}
use Rattle.paper.proofs.EncodeLaws.{record_length}
use Rattle.note.proofs.NotedLaws.{encode_by_length}
use Rattle.note.proofs.ToldLaws.{Seen, an_integer, a_symbol, a_sum, a_product, a_power, seen_power}
use Rattle.note.proofs.ToldLaws.{seen, power_tree, mark_number, exponent_mark}
use Rattle.note.proofs.CloseLaws.{unclosed}
use Rattle.note.specs.Note.{note}
use Rattle.note.specs.Noted.{encode_by}
use Rattle.split.specs.Standing.{Told}
use Rattle.stretch.specs.Put.{put, part}
use Rattle.stretch.proofs.Laws.{drop_put_at, length_put}
use Rattle.number.specs.Num.{num_of, out_of_range}
use Rattle.std.proofs.Common.{Ok}
use Rattle.number.proofs.NumLaws.{num_of_is, num_of_is_out}
use Rattle.rebuilt.proofs.Encoded.{marked_records, power_unclosed, stands_part, two_puts}
use Rattle.rules.specs.Asked.{Ready}
use Rattle.rules.proofs.Nodes.{other_kind, integer_kind}
use Rattle.rules.proofs.RuleLaws.{ready_tree, ready_length, ready_after}

-- a rule on a power, at a tree of another kind
pub on_no_power : {w : List ℕ} {i : ℕ} {t : Tree} → Seen note w i t → (k : ℕ → Tree → ℕ → ℕ → paper.Tried) → (kind w i ≡ 4 → ⊥)
    → on_power_parts k t ≡ paper.does_not_apply
unfolding on_power_parts
on_no_power (an_integer e b w) k n = refl
on_no_power (a_symbol e v w) k n = refl
on_no_power (a_sum e m c w s) k n = refl
on_no_power (a_product e m c w s) k n = refl
on_no_power (a_power e w b p q x y z) k n = absurd (n e)

-- the tree at record p, with `rest` after it, is a power: where its base and its exponent stand, and where it ends
pub record IsPower (w : List ℕ) (p : ℕ) (t : Tree) (rest : List ℕ) : Type 0 where
  pub base : Tree
  pub exponent : ℕ
  pub on : (k : ℕ → Tree → ℕ → ℕ → paper.Tried) → on_power_parts k t ≡ k (mark_in w p) base (mark_in w (p + 1 + records base)) exponent
  pub there : Told note w (p + 1) base
  pub said : bits w (p + 1 + records base) ≡ exponent
  pub most : exponent < 2 ^ 63
  pub long : length w ≡ (p + 2 + records base) * 16 + length rest
  pub after : drop ((p + 2 + records base) * 16) w ≡ rest

pub is_power : {o w : List ℕ} {d p : ℕ} {t : Tree} {rest : List ℕ} → Ready o w d p t rest → kind w p ≡ 4 → IsPower w p t rest
unfolding on_power_parts records mark_of
is_power {w = w} {p = p} {rest = rest} h k =
    let q = seen_power (seen (ready_tree h)) k in
    let b = q.1 in
    let is = q.4 in
    let tree : Told note w p (power q.0 b q.2 q.3) = subst (Told note w p) is (ready_tree h) in
    let size = ap records is in
    let place : (p + 2 + records b) * 16 ≡ (p + (2 + records b)) * 16 = omega arith in
    record {
      base = b;
      exponent = q.3;
      on =
          λ k. ap (on_power_parts k) is ∙ ap (λ m. k m b q.2 q.3) (sym (mark_number tree))
          ∙ ap (λ m. k (mark_in w p) b m q.3) (sym (exponent_mark tree));
      there = power_tree tree;
      said = q.5.exponent_bits;
      most = q.5.most;
      long = omega (arith, size, ready_length h);
      after = ap (λ n. drop n w) place ∙ ap (λ n. drop ((p + n) * 16) w) (sym size) ∙ ready_after h;
    }

module _ {w : List ℕ} {p : ℕ} {t : Tree} {rest : List ℕ} (s : IsPower w p t rest) where
  -- ---- step 7
  pub one_applies : s.exponent ≡ 1 → power_one t ≡ paper.applies s.base
  unfolding power_one applies_if
  one_applies e = s.on _ ∙ ap (λ c. applies_if c s.base) (eq-eqb _ _ e)

  pub one_idle : (s.exponent ≡ 1 → ⊥) → power_one t ≡ paper.does_not_apply
  unfolding power_one applies_if
  one_idle n = s.on _ ∙ ap (λ c. applies_if c s.base) (ne_eqb _ _ n)

  -- the base, or a tree of as many records, in place of the power
  base_put : (u : Tree) → records u ≡ records s.base → (w' : List ℕ) → w' ≡ put w ((p + 2) * 16) (encode_by note u)
      → drop ((p + 2) * 16) w' ≡ encode_by note u ++ rest
  base_put u m w' e =
      let x = encode_by note u in
      let place : (p + 2) * 16 + length x ≡ (p + 2 + records s.base) * 16 = omega (arith, encode_by_length note u) in
      ap (drop ((p + 2) * 16)) e
      ∙ drop_put_at w ((p + 2) * 16) x (omega (arith, s.long))
      ∙ ap (λ m. x ++ drop m w) place
      ∙ ap (λ (y : List ℕ). x ++ y) s.after

  pub base_moved : (x : ℕ) (w' : List ℕ) → x ≡ p + 1 + records s.base
      → w' ≡ put w ((p + 2) * 16) (part w ((p + 1) * 16) ((x - (p + 1)) * 16)) → drop ((p + 2) * 16) w' ≡ encode_by note s.base ++ rest
  base_moved x w' a e =
      base_put s.base refl w' (e ∙ ap (put w ((p + 2) * 16)) (stands_part w (p + 1) ((x - (p + 1)) * 16) s.base s.there.stands (omega arith)))

  -- ---- step 8
  constant_is : (c : Bool) → is_the (pos 0) s.base || is_the (pos 1) s.base ≡ c → power_constant t ≡ applies_if c (marked (mark_in w p) s.base)
  unfolding power_constant
  constant_is c e = s.on _ ∙ ap (λ c. applies_if c (marked (mark_in w p) s.base)) e

  pub constant_other : 0 < kind w (p + 1) → power_constant t ≡ paper.does_not_apply
  unfolding applies_if
  constant_other k = constant_is false (rw (sym (other_kind w (p + 1) 0 s.base s.there k), sym (other_kind w (p + 1) 1 s.base s.there k)) refl)

  module _ (k : kind w (p + 1) ≤ 0) where
    either : is_the (pos 0) s.base || is_the (pos 1) s.base ≡ eqb (bits w (p + 1)) 0 || eqb (bits w (p + 1)) 1
    either = rw (integer_kind w (p + 1) 0 s.base s.there k (omega arith), integer_kind w (p + 1) 1 s.base s.there k (omega arith)) refl

    pub constant_more : 1 < bits w (p + 1) → power_constant t ≡ paper.does_not_apply
    unfolding applies_if
    constant_more m = constant_is false (either ∙ rw (ne_eqb (bits w (p + 1)) 0 (λ e. omega arith), ne_eqb (bits w (p + 1)) 1 (λ e. omega arith)) refl)

    pub constant_applies : bits w (p + 1) ≤ 1 → power_constant t ≡ paper.applies (marked (mark_in w p) s.base)
    unfolding applies_if
    constant_applies m = constant_is true (either ∙ small (bits w (p + 1)) m)
      where
        small : (v : ℕ) → v ≤ 1 → eqb v 0 || eqb v 1 ≡ true
        small zero l = refl
        small (suc zero) l = refl
        small (suc (suc v)) l = absurd (omega arith)

    pub constant_put : (μ : ℕ) (w' : List ℕ) → w' ≡ put w ((p + 2) * 16) (record_of 0 0 μ (bits w (p + 1)))
        → drop ((p + 2) * 16) w' ≡ encode_by note (marked μ s.base) ++ rest
    unfolding encode_by marked
    constant_put μ w' e =
        base_put (marked μ s.base) (marked_records μ s.base) w' (e ∙ ap (put w ((p + 2) * 16)) (go (seen s.there)))
      where
        go : {b : Tree} → Seen note w (p + 1) b → record_of 0 0 μ (bits w (p + 1)) ≡ encode_by note (marked μ b)
        go (an_integer e b w) = ap (record_of 0 0 μ) b
        go (a_symbol e v w) = absurd (omega arith)
        go (a_sum e n c w m) = absurd (omega arith)
        go (a_product e n c w m) = absurd (omega arith)
        go (a_power e w b p q x y z) = absurd (omega arith)

  -- ---- step 9
  pub no_tower : (kind w (p + 1) ≡ 4 → ⊥) → power_power t ≡ paper.does_not_apply
  unfolding power_power
  no_tower n = s.on _ ∙ on_no_power (seen s.there) _ n

-- the base of the power is a power too: where the inner base and both exponents stand
pub record IsTower (w : List ℕ) (p : ℕ) (t : Tree) (rest : List ℕ) : Type 0 where
  pub base : Tree
  pub inner : ℕ
  pub outer : ℕ
  pub is : power_power t ≡ raised_if (ltb (inner * outer) (2 ^ 63)) (mark_in w p) base (mark_in w (p + 3 + records base)) (inner * outer)
  pub there : Told note w (p + 2) base
  pub inner_said : bits w (p + 2 + records base) ≡ inner
  pub outer_said : bits w (p + 3 + records base) ≡ outer
  pub inner_most : inner < 2 ^ 63
  pub outer_most : outer < 2 ^ 63
  pub long : length w ≡ (p + 4 + records base) * 16 + length rest
  pub after : drop ((p + 4 + records base) * 16) w ≡ rest

pub is_tower : {w : List ℕ} {p : ℕ} {t : Tree} {rest : List ℕ} → IsPower w p t rest → kind w (p + 1) ≡ 4 → IsTower w p t rest
unfolding power_power on_power_parts records
is_tower {w} {p} {t} {rest} s k =
    let q = seen_power (seen s.there) k in
    let c = q.1 in
    let is = q.4 in
    let tree : Told note w (p + 1) (power q.0 c q.2 q.3) = subst (Told note w (p + 1)) is s.there in
    let size = ap records is in
    let next : p + 1 + 1 ≡ p + 2 = omega arith in
    let at_inner : p + 1 + 1 + records c ≡ p + 2 + records c = omega arith in
    let at-outer : p + 3 + records c ≡ p + 1 + records s.base = omega (arith, size) in
    let end : (p + 4 + records c) * 16 ≡ (p + 2 + records s.base) * 16 = omega (arith, size) in
    record {
      base = c;
      inner = q.3;
      outer = s.exponent;
      is =
          s.on _ ∙ ap (on_power_parts _) is
          ∙ ap (λ i. raised_if (ltb (q.3 * s.exponent) (2 ^ 63)) (mark_in w p) c (mark_in w i) (q.3 * s.exponent)) (sym at-outer);
      there = subst (λ i. Told note w i c) next (power_tree tree);
      inner_said = ap (bits w) (sym at_inner) ∙ q.5.exponent_bits;
      outer_said = ap (bits w) at-outer ∙ s.said;
      inner_most = q.5.most;
      outer_most = s.most;
      long = omega (arith, size, s.long);
      after = ap (λ n. drop n w) end ∙ s.after;
    }

module _ {w : List ℕ} {p : ℕ} {t : Tree} {rest : List ℕ} (s : IsTower w p t rest) where
  abbrev product : ℕ
  product = s.inner * s.outer

  multiplied : signed s.inner *ℤ signed s.outer ≡ pos product
  multiplied = rw (to_z_pos w64 {n = s.inner} s.inner_most, to_z_pos w64 {n = s.outer} s.outer_most) refl

  -- the product of the exponents, in range and out of it
  pub tower_applies : (n : ℕ) → num_of (signed s.inner *ℤ signed s.outer) ≡ Ok n
      → power_power t ≡ paper.applies (power (mark_in w p) s.base (mark_in w (p + 3 + records s.base)) n)
  unfolding raised_if fits word
  tower_applies n e =
      let q = num_of_is (pos product) n (ap num_of (sym multiplied) ∙ e) in
      let l = ltb-true product (2 ^ 63) q.0 in
      let same : product ≡ n = omega (arith, q.1) in
      s.is ∙ ap (λ c. raised_if c (mark_in w p) s.base (mark_in w (p + 3 + records s.base)) product) q.0
      ∙ ap (λ n. paper.applies (power (mark_in w p) s.base (mark_in w (p + 3 + records s.base)) n)) same

  pub tower_over : num_of (signed s.inner *ℤ signed s.outer) ≡ out_of_range → power_power t ≡ paper.range_exceeded
  unfolding raised_if fits
  tower_over e =
      s.is
      ∙ ap (λ c. raised_if c (mark_in w p) s.base (mark_in w (p + 3 + records s.base)) product) (num_of_is_out (pos product) (ap num_of (sym multiplied) ∙ e))

  -- the inner base between a power's record and the exponent n, with these marks, before the power is closed
  pub tower_put : (y n μ ξ : ℕ) (w₁ w₂ w₃ : List ℕ) → y ≡ p + 2 + records s.base
      → w₁ ≡ put w ((p + 3) * 16) (part w ((p + 2) * 16) ((y - (p + 2)) * 16)) → w₂ ≡ put w₁ ((y + 1) * 16) (record_of 0 0 ξ n)
      → w₃ ≡ put w₂ ((p + 2) * 16) (record_of 4 0 μ 0) → n < 2 ^ 63
      → (drop ((p + 2) * 16) w₃ ≡ unclosed (power μ s.base ξ n) ++ rest) × ((p + 2) * 16 ≤ length w₃)
  tower_put y n μ ξ w₁ w₂ w₃ a e₁ e₂ e₃ l =
      let b = encode_by note s.base in
      let r = record_of 4 0 μ 0 in
      let x = record_of 0 0 ξ n in
      let lb = encode_by_length note s.base in
      let lr = record_length 4 0 μ 0 in
      let lx = record_length 0 0 ξ n in
      let lbx = length-append b x in
      let moved = e₁ ∙ ap (put w ((p + 3) * 16)) (stands_part w (p + 2) ((y - (p + 2)) * 16) s.base s.there.stands (omega arith)) in
      let both = two_puts w w₁ w₂ b x ((p + 3) * 16) ((y + 1) * 16) moved e₂ (omega arith) (omega (arith, s.long)) in
      let behind : (p + 2) * 16 + length r ≡ (p + 3) * 16 = omega arith in
      let end : (p + 3) * 16 + length (b ++ x) ≡ (p + 4 + records s.base) * 16 = omega arith in
      let whole = ap length both ∙ length_put w ((p + 3) * 16) (b ++ x) (omega (arith, s.long)) in
      let last = ap length e₃ ∙ length_put w₂ ((p + 2) * 16) r (omega (arith, s.long)) in (
        ap (drop ((p + 2) * 16)) e₃
            ∙ drop_put_at w₂ ((p + 2) * 16) r (omega (arith, s.long))
            ∙ ap (λ m. r ++ drop m w₂) behind
            ∙ ap (λ (y : List ℕ). r ++ drop ((p + 3) * 16) y) both
            ∙ ap (λ (y : List ℕ). r ++ y) (drop_put_at w ((p + 3) * 16) (b ++ x) (omega (arith, s.long)))
            ∙ ap (λ m. r ++ ((b ++ x) ++ drop m w)) end
            ∙ ap (λ (y : List ℕ). r ++ ((b ++ x) ++ y)) s.after
            ∙ sym (append_assoc r (b ++ x) rest)
            ∙ ap (λ (y : List ℕ). y ++ rest) (sym (append_assoc r b x) ∙ sym (power_unclosed μ s.base ξ n l)),
        omega (arith, s.long),
      )

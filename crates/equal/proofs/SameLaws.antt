-- Two trees that stand in tables, compared by their first records: of different kinds they are not equal; leaves are equal where
-- their numbers are, powers where bases and exponents are. By the evidence of equality, and by cases on the tree that a record tells.
use Prim.Native.Nat.{ℕ, ◌+◌, ◌-◌, ◌*◌, ◌≤◌, ◌<◌}
use mathlib.Core.Path.{◌≡◌, refl, sym, ap, ◌∙◌, subst}
use mathlib.Core.Bool.{Bool, true, false, ◌&&◌}
use mathlib.Core.List.{List}
use native.Mathlib.Omega.{arith}
use borrow.Author.Tests.{eq-eqb, ne_eqb}
use lib.ListN.{length}
use lib.Dec.{eqb}
use Rattle.paper.specs.Record.{kind, bits}
use Rattle.note.specs.Noted.{bits_by}
use Rattle.number.proofs.NumLaws.{same_number}
use Rattle.paper.specs.Tree.{Tree, Forest, integer, symbol, sum, product, power, count, records, to_list}
use Rattle.paper.specs.Equal.{equal, same_bag, on_integer, on_symbol, on_power}
use Rattle.paper.proofs.Tests.{not_so}
use Rattle.paper.proofs.EqualView.{Same, Sames, Taken, here, there, s_integer, s_symbol, s_sum, s_product, s_power, s_nil, s_cons}
use Rattle.paper.proofs.EqualView.{same_view, matched_view, same_records}
use Rattle.paper.proofs.Equality.{matched_bag}
use Rattle.note.proofs.ToldLaws.{Seen, an_integer, a_symbol, a_sum, a_product, a_power, seen_power}
use Rattle.split.specs.Standing.{Told}
use Rattle.note.proofs.KeyLaws.{same_kind}
use Rattle.note.proofs.ToldLaws.{seen, kind_number_lem, bits_number, tree_within, power_tree}
use Rattle.std.proofs.lemmas.Option.{none-some, same_Some}
use Rattle.equal.specs.Matching.{match_of}
use Rattle.std.specs.Prelude.{Some, None}

pub taken_length : {u : Tree} {l m : List Tree} → Taken u l m → length l ≡ 1 + length m
taken_length here = omega arith
taken_length (there r) = omega (arith, taken_length r)

sames_count : {f : Forest} {l : List Tree} → Sames f l → count f ≡ length l
unfolding count
sames_count s_nil = refl
sames_count (s_cons r k s) = omega (arith, sames_count s, taken_length k)

-- the number of a symbol, read as that of an integer
symbol_bits : {how : Tree → ℕ} {s : List ℕ} {i μ v : ℕ} → Told how s i (symbol μ v) → v < 256 → bits s i ≡ v
unfolding bits_by
symbol_bits h l = bits_number h

-- two powers, and what stands for their bases and exponents
pub record Powers (how : Tree → ℕ) (a : List ℕ) (i : ℕ) (b : List ℕ) (j : ℕ) (t u : Tree) : Type 0 where
  pub mark : ℕ
  pub base : Tree
  pub exponent_mark : ℕ
  pub exponent : ℕ
  pub other_mark : ℕ
  pub other_base : Tree
  pub other_exponent_mark : ℕ
  pub other_exponent : ℕ
  pub whole : t ≡ power mark base exponent_mark exponent
  pub other_whole : u ≡ power other_mark other_base other_exponent_mark other_exponent
  pub there : Told how a (i + 1) base
  pub other_there : Told how b (j + 1) other_base
  pub exponent_bits : bits a (i + 1 + records base) ≡ exponent
  pub other_exponent_bits : bits b (j + 1 + records other_base) ≡ other_exponent
  pub size : records t ≡ 2 + records base
  pub other_size : records u ≡ 2 + records other_base

-- two powers with equal bases, that of the first ending before record e: equal where their exponents are
pub record PowersEnd (a : List ℕ) (i : ℕ) (b : List ℕ) (j : ℕ) (t u : Tree) (e : ℕ) : Type 0 where
  pub ahead : i < e
  pub one_within : e * 16 + 16 ≤ length a
  pub other_within : (j + (e - i)) * 16 + 16 ≤ length b
  pub size : e + 1 ≡ i + records t
  pub yes_if : bits a e ≡ bits b (j + (e - i)) → equal t u ≡ true
  pub no_if : (bits a e ≡ bits b (j + (e - i)) → ⊥) → equal t u ≡ false

-- what an answer tells of the test
pub match_ends : (q : Bool) (x e : ℕ) → match_of q x ≡ Some e → (q ≡ true) × (e ≡ x)
match_ends true x e h = (refl, sym (same_Some x e h))
match_ends false x e h = absurd (none-some e h)

pub match_differs : (q : Bool) (x : ℕ) → match_of q x ≡ None → q ≡ false
match_differs true x h = absurd (none-some x (sym h))
match_differs false x h = refl

pub is_equal_lem : {q : Bool} {x e : ℕ} → q ≡ true → x ≡ e → Some x ≡ match_of q e
is_equal_lem {q} {x} {e} h r = rw (h, r)

pub is_different : {q : Bool} (e : ℕ) → q ≡ false → None ≡ match_of q e
is_different {q} e h = rw h

-- members that are the same multiset are equally many
pub bag_lengths : (f : Forest) (l : List Tree) → same_bag equal (to_list f) l ≡ true → count f ≡ length l
bag_lengths f l e = sames_count (matched_view f l (matched_bag f l ∙ e))

module _ {how : Tree → ℕ} {a : List ℕ} {i : ℕ} {b : List ℕ} {j : ℕ} {t u : Tree} (h : Told how a i t) (g : Told how b j u) where
  -- ---- kinds
  pub kinds_differ : (kind a i ≡ kind b j → ⊥) → equal t u ≡ false
  kinds_differ n =
      not_so (equal t u) (λ e. n (kind_number_lem h ∙ same_kind (same_view t u e) ∙ sym (kind_number_lem g)))

  -- ---- leaves
  module _ (k : kind a i ≡ kind b j) (l : kind a i < 2) where
    pub leaf_records : records t ≡ 1
    unfolding records
    leaf_records = by t (seen h)
      where
        by : (t : Tree) → Seen how a i t → records t ≡ 1
        by (integer μ z) q = refl
        by (symbol μ v) q = refl
        by (sum μ f) (a_sum e n c w m) = absurd (omega arith)
        by (product μ f) (a_product e n c w m) = absurd (omega arith)
        by (power μ b ξ x) (a_power e w m p q o y z) = absurd (omega arith)

    pub leaves_equal : bits a i ≡ bits b j → equal t u ≡ true
    unfolding equal on_integer on_symbol
    leaves_equal e = by t u h g (seen h) (seen g)
      where
        by : (t u : Tree) → Told how a i t → Told how b j u → Seen how a i t → Seen how b j u → equal t u ≡ true
        by (integer μ z) (integer ν y) h g (an_integer c d v) (an_integer p q w) = same_number z y v w (sym d ∙ e ∙ q)
        by (integer μ z) (symbol ν y) h g (an_integer c d v) (a_symbol p q w) = absurd (omega arith)
        by (integer μ z) (sum ν y) h g (an_integer c d v) (a_sum p n o w m) = absurd (omega arith)
        by (integer μ z) (product ν y) h g (an_integer c d v) (a_product p n o w m) = absurd (omega arith)
        by (integer μ z) (power ν y ζ f) h g (an_integer c d v) (a_power p w m o q n r x) = absurd (omega arith)
        by (symbol μ z) (integer ν y) h g (a_symbol c d v) (an_integer p q w) = absurd (omega arith)
        by (symbol μ z) (symbol ν y) h g (a_symbol c d v) (a_symbol p q w) =
            eq-eqb z y (sym (symbol_bits h v) ∙ e ∙ symbol_bits g w)
        by (symbol μ z) (sum ν y) h g (a_symbol c d v) (a_sum p n o w m) = absurd (omega arith)
        by (symbol μ z) (product ν y) h g (a_symbol c d v) (a_product p n o w m) = absurd (omega arith)
        by (symbol μ z) (power ν y ζ f) h g (a_symbol c d v) (a_power p w m o q n r x) = absurd (omega arith)
        by (sum μ f) u h g (a_sum c n o w m) q = absurd (omega arith)
        by (product μ f) u h g (a_product c n o w m) q = absurd (omega arith)
        by (power μ d ξ x) u h g (a_power c w m o q n r y) s = absurd (omega arith)

    pub leaves_differ : (bits a i ≡ bits b j → ⊥) → equal t u ≡ false
    leaves_differ n = not_so (equal t u) (λ e. by (same_view t u e) h g (seen h) (seen g))
      where
        by : {t u : Tree} → Same t u → Told how a i t → Told how b j u → Seen how a i t → Seen how b j u → ⊥
        by s_integer h g (an_integer c d v) (an_integer p q w) = n (d ∙ sym q)
        by s_symbol h g (a_symbol c d v) (a_symbol p q w) = n (symbol_bits h v ∙ sym (symbol_bits g w))
        by (s_sum r) h g (a_sum c d o w m) q = absurd (omega arith)
        by (s_product r) h g (a_product c d o w m) q = absurd (omega arith)
        by (s_power r) h g (a_power c w m o q d x y) s = absurd (omega arith)

  -- ---- powers
  pub powers : kind a i ≡ kind b j → kind a i ≡ 4 → Powers how a i b j t u
  unfolding records
  powers k l =
      let p = seen_power (seen h) l in
      let q = seen_power (seen g) (sym k ∙ l) in
      record {
        mark = p.0;
        base = p.1;
        exponent_mark = p.2;
        exponent = p.3;
        other_mark = q.0;
        other_base = q.1;
        other_exponent_mark = q.2;
        other_exponent = q.3;
        whole = p.4;
        other_whole = q.4;
        there = power_tree (subst (Told how a i) p.4 h);
        other_there = power_tree (subst (Told how b j) q.4 g);
        exponent_bits = p.5.exponent_bits;
        other_exponent_bits = q.5.exponent_bits;
        size = ap records p.4;
        other_size = ap records q.4;
      }

  module _ (p : Powers how a i b j t u) where
    powers_are : equal t u ≡ equal p.base p.other_base && eqb p.exponent p.other_exponent
    unfolding equal on_power
    powers_are = rw (p.whole, p.other_whole)

    pub bases_differ : equal p.base p.other_base ≡ false → equal t u ≡ false
    bases_differ e = powers_are ∙ rw e

    pub bases_equal : (e : ℕ) → equal p.base p.other_base ≡ true → e ≡ i + 1 + records p.base → PowersEnd a i b j t u e
    bases_equal e q x =
        let r : records p.base ≡ records p.other_base = same_records (same_view p.base p.other_base q) in
        let y : j + (e - i) ≡ j + 1 + records p.other_base = omega arith in
        let m : bits a e ≡ p.exponent = ap (bits a) x ∙ p.exponent_bits in
        let n : bits b (j + (e - i)) ≡ p.other_exponent = ap (bits b) y ∙ p.other_exponent_bits in
        record {
          ahead = omega arith;
          one_within = omega (arith, tree_within h, p.size);
          other_within = omega (arith, tree_within g, p.other_size);
          size = omega (arith, p.size);
          yes_if = λ z. powers_are ∙ rw (q, eq-eqb p.exponent p.other_exponent (sym m ∙ z ∙ n));
          no_if = λ z. powers_are ∙ rw (q, ne_eqb p.exponent p.other_exponent (λ w. z (m ∙ w ∙ sym n)));
        }

  pub powers_differ : kind a i ≡ kind b j → kind a i ≡ 4 → ((v w : Tree) → Told how a (i + 1) v → Told how b (j + 1) w → equal v w ≡ false)
      → equal t u ≡ false
  powers_differ k l apart = let p = powers k l in bases_differ p (apart p.base p.other_base p.there p.other_there)

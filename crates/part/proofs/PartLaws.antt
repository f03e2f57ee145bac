-- The parts of members, as the code holds them: what is read off a member's records shows the paper's part of it, and a part that
-- takes up a later one shows what the paper's part becomes, or leaves the range with it. A base that is an integer is compared by its
-- bits, any other by its records. By cases on the tests.
use Prim.Native.Nat.{ℕ, ◌+◌, ◌-◌, ◌^◌, ◌<◌, ◌≤◌}
use mathlib.Core.Path.{◌≡◌, refl, sym, ap, ◌∙◌}
use mathlib.Core.Bool.{Bool, true, false, cond, ◌&&◌}
use mathlib.Core.List.{List}
use mathlib.Core.Option.{Option, none, some}
use native.Mathlib.Omega.{arith}
use borrow.Author.Tests.{eq-eqb, ne_eqb, ltb-true}
use lib.Dec.{eqb, ltb, lit<, lit≤}
use lib.IntN.{ℤ, pos, ◌+ℤ◌, ◌*ℤ◌}
use Rattle.paper.specs.Bytes.{word, signed}
use Rattle.paper.specs.Tree.{Tree, integer, symbol, sum, product, power, mark_of, records}
use Rattle.paper.specs.WellFormed.{WF}
use Rattle.paper.specs.Record.{kind, mark_in, bits}
use Rattle.paper.specs.Equal.{equal, eq_z, on_integer}
use Rattle.paper.specs.Rules.{fits, as_integer, Term, term_of, added, add_if, merge_terms, times_unless, from_term}
use Rattle.paper.specs.Rules.{Factor, factor, factor_of, raise_if, both_integers, multiply_if, merge_factors, power_unless, from_factor}
use Rattle.paper.proofs.Congruence.{word_lt}
use Rattle.paper.proofs.EncodeLaws.{signed_word, word_signed}
use Rattle.paper.proofs.Tests.{eq_z_true, eq_z_self, not_so}
use Rattle.paper.proofs.LikeTermsWF.{term_of_wf, fits_true}
use Rattle.paper.proofs.MarkSentences.{factor_begins}
use Rattle.paper.proofs.MergeFactors.{times_bases, add_exponents}
use Rattle.note.proofs.ToldLaws.{Seen, an_integer, a_symbol, a_sum, a_product, a_power}
use Rattle.note.specs.Note.{note}
use Rattle.std.proofs.Common.{Option as Answer, None, Some, Result, Ok, Err}
use Rattle.std.specs.Result.{IsErr}
use Rattle.std.specs.Option.{is_some}
use Rattle.number.specs.Num.{num_of, out_of_range}
use Rattle.number.proofs.NumLaws.{num_of_is, num_of_is_out, add_exponents_lem}
use Rattle.split.specs.Standing.{Told}
use Rattle.note.proofs.ToldLaws.{seen, mark_number}
use Rattle.split.specs.Rest.{coefficient_of}
use Rattle.split.proofs.SplitLaws.{base_power, base_itself}
use Rattle.equal.specs.Matching.{match_of}
use Rattle.equal.proofs.RestLaws.{integer_apart}
use Rattle.equal.proofs.SameLaws.{match_ends, match_differs}
use Rattle.part.specs.Like.{Like, split, merge, join}
use Rattle.part.specs.Part.{Sized, ShowsTerm, ShowsWide, ShowsPower, ShowsNumber, Shows, in_range, MergedIs}
use Rattle.part.specs.declared.Part.TheVariants as part
use Rattle.part.specs.declared.Part.{Part}
use Rattle.number.specs.declared.OutOfRange.{OutOfRange}

pub sized : (s : List ℕ) (i k : ℕ) (t : Tree) → Told note s i t → k ≡ records t → Sized s i k t
sized s i k t h e = record { there = h; size = e }

-- ---- the first part of a member
-- the coefficient that is read off a member: in range, and its bits; or not
module _ (t : Tree) where
  pub coefficient_is : WF t → {v : ℕ} → Ok v ≡ coefficient_of (term_of t)
      → ((term_of t).coefficient ≡ signed v) × (v < 2 ^ 64) × ((term_of t).in_range ≡ true)
  unfolding coefficient_of
  coefficient_is w {v} e = by (term_of t).in_range refl
    where
      z : ℤ
      z = (term_of t).coefficient

      by : (b : Bool) → (term_of t).in_range ≡ b → (z ≡ signed v) × (v < 2 ^ 64) × ((term_of t).in_range ≡ true)
      by true p =
          let d : Ok v ≡ Ok (word z) = e ∙ ap (λ b. cond b (Ok (word z)) out_of_range) p in
          let same : v ≡ word z = cc in
          (sym (ap signed same ∙ signed_word z ((term_of_wf t w).coefficient_in_range p)), omega (arith, word_lt z), p)
      by false p =
          let d : Ok v ≡ out_of_range = e ∙ ap (λ b. cond b (Ok (word z)) out_of_range) p in
          absurd (let o : ◌≡◌ {A = ℕ} 0 1 = cc in omega arith)

  pub coefficient_out : out_of_range ≡ coefficient_of (term_of t) → (term_of t).in_range ≡ false
  unfolding coefficient_of
  coefficient_out e = by (term_of t).in_range refl
    where
      by : (b : Bool) → (term_of t).in_range ≡ b → (term_of t).in_range ≡ false
      by true p =
          let d : out_of_range ≡ Ok (word (term_of t).coefficient) = e ∙ ap (λ b. cond b (Ok (word (term_of t).coefficient)) out_of_range) p in
          absurd (let o : ◌≡◌ {A = ℕ} 0 1 = cc in omega arith)
      by false p = p

module _ (s : List ℕ) (i : ℕ) (t : Tree) (h : Told note s i t) where
  pub term_part : {n : ℕ} → Ok n ≡ coefficient_of (term_of t) → ShowsTerm s n i (term_of t)
  term_part e =
      let c = coefficient_is t h.wf e in
      record { member = t; there = h; mark = refl; rest = refl; coefficient = c.0; bits = c.1; good = c.2 }

  pub wide_part : out_of_range ≡ coefficient_of (term_of t) → ShowsWide s i (term_of t)
  wide_part e = record { member = t; there = h; rest = refl; wide = coefficient_out t e }

factor_of_good : (t : Tree) → (factor_of t).in_range ≡ true
unfolding factor_of factor
factor_of_good (integer μ z) = refl
factor_of_good (symbol μ s) = refl
factor_of_good (sum μ f) = refl
factor_of_good (product μ f) = refl
factor_of_good (power μ b ξ e) = refl

-- an integer that stands at a record, by its mark and its bits
pub integer_there : (s : List ℕ) (i : ℕ) (t : Tree) → Told note s i t → kind s i ≤ 0
    → (t ≡ integer (mark_in s i) (signed (bits s i))) × (bits s i < 2 ^ 64)
unfolding mark_of
integer_there s i t h k = go t (mark_number h) (seen h)
  where
    go : (t : Tree) → mark_in s i ≡ mark_of t → Seen note s i t → (t ≡ integer (mark_in s i) (signed (bits s i))) × (bits s i < 2 ^ 64)
    go (integer μ z) m (an_integer e b w) =
        (ap (λ n. integer n z) (sym m) ∙ ap (integer (mark_in s i)) (sym (ap signed b ∙ signed_word z w)), omega (arith, word_lt z))
    go (symbol μ v) m (a_symbol e b w) = absurd (omega arith)
    go (sum μ f) m (a_sum e n c w o) = absurd (omega arith)
    go (product μ f) m (a_product e n c w o) = absurd (omega arith)
    go (power μ b ξ x) m (a_power e w o p q r y z) = absurd (omega arith)

-- base and exponent of a member make a well-formed power
factor_wf : (t : Tree) → WF t → WF (power (factor_of t).mark (factor_of t).base (factor_of t).mark (factor_of t).exponent)
unfolding factor_of factor
factor_wf (integer μ z) w = (w, lit≤ tt, lit< tt, w.1, w.1)
factor_wf (symbol μ s) w = (w, lit≤ tt, lit< tt, w.1, w.1)
factor_wf (sum μ f) w = (w, lit≤ tt, lit< tt, w.2, w.2)
factor_wf (product μ f) w = (w, lit≤ tt, lit< tt, w.2, w.2)
factor_wf (power μ b ξ e) w = (w.0, w.1, w.2, w.3, w.3)

pub number_part : (s : List ℕ) (e i j v b n : ℕ) (t : Tree) → Told note s i t → Told note s j (factor_of t).base → kind s j ≤ 0 → v ≡ bits s j
    → b ≡ mark_in s j → n ≡ mark_in s i → e ≡ (factor_of t).exponent → e < 2 ^ 63 → ShowsNumber e v b n (factor_of t)
number_part s e i j v b n t g h k q c d x m =
    let z = integer_there s j (factor_of t).base h k in
    record {
      mark = factor_begins t ∙ sym (mark_number g) ∙ sym d;
      base = z.0 ∙ ap (λ y. integer (mark_in s j) (signed y)) (sym q) ∙ ap (λ y. integer y (signed v)) (sym c);
      bits = omega (arith, z.1);
      exponent = sym x;
      most = m;
      good = factor_of_good t;
      wf = factor_wf t g.wf;
    }

-- the base of a power has two records fewer, any other base is the member itself
power_size : (s : List ℕ) (i : ℕ) (t : Tree) → Told note s i t → kind s i ≡ 4 → records t ≡ 2 + records (factor_of t).base
unfolding records factor_of factor
power_size s i t h k = go (seen h)
  where
    go : {t : Tree} → Seen note s i t → records t ≡ 2 + records (factor_of t).base
    go (an_integer e b w) = absurd (omega arith)
    go (a_symbol e v w) = absurd (omega arith)
    go (a_sum e n c w m) = absurd (omega arith)
    go (a_product e n c w m) = absurd (omega arith)
    go (a_power e w b p q x y v) = refl

other_size : (s : List ℕ) (i : ℕ) (t : Tree) → Told note s i t → (kind s i ≡ 4 → ⊥) → records t ≡ records (factor_of t).base
unfolding records factor_of factor
other_size s i t h k = go (seen h)
  where
    go : {t : Tree} → Seen note s i t → records t ≡ records (factor_of t).base
    go (an_integer e b w) = refl
    go (a_symbol e v w) = refl
    go (a_sum e n c w m) = refl
    go (a_product e n c w m) = refl
    go (a_power e w b p q x y v) = absurd (k e)

pub base_size : (t : Tree) → records (factor_of t).base ≤ records t
unfolding records factor_of factor
base_size (integer μ z) = omega arith
base_size (symbol μ s) = omega arith
base_size (sum μ f) = omega arith
base_size (product μ f) = omega arith
base_size (power μ b ξ e) = omega arith

module _ (s : List ℕ) (e i k : ℕ) (t : Tree) (h : Sized s i k t) (other : as_integer (factor_of t).base ≡ none)
    (x : e ≡ (factor_of t).exponent) (m : e < 2 ^ 63) {n : ℕ} (d : n ≡ mark_in s i) where
  same_mark : (factor_of t).mark ≡ n
  same_mark = factor_begins t ∙ sym (mark_number h.there) ∙ sym d

  pub power_part : kind s i ≡ 4 → ShowsPower s e (i + 1) (k - 2) n (factor_of t)
  power_part q =
      let z = power_size s i t h.there q in
      record {
        mark = same_mark;
        sized = record { there = base_power t h.there q; size = omega (arith, h.size) };
        other = other;
        exponent = sym x;
        most = m;
        good = factor_of_good t;
        wf = factor_wf t h.there.wf;
      }

  pub base_part : (kind s i ≡ 4 → ⊥) → ShowsPower s e i k n (factor_of t)
  base_part q =
      let z = other_size s i t h.there q in
      record {
        mark = same_mark;
        sized = record { there = base_itself t h.there q; size = omega (arith, h.size) };
        other = other;
        exponent = sym x;
        most = m;
        good = factor_of_good t;
        wf = factor_wf t h.there.wf;
      }

pub power_two : (s : List ℕ) (i k : ℕ) (t : Tree) → Sized s i k t → kind s i ≡ 4 → 2 ≤ k
power_two s i k t h q = omega (arith, h.size, power_size s i t h.there q)

-- ---- terms that meet: c, that has the rest of a member, and the term of a later member u
module _ (c : Term) (u : Tree) where
  pub term_apart : equal c.rest (term_of u).rest ≡ false → merge_terms c (term_of u) ≡ none
  unfolding merge_terms add_if
  term_apart e = rw e refl

  module _ (e : equal c.rest (term_of u).rest ≡ true) where
    takes : merge_terms c (term_of u) ≡ some (added c (term_of u))
    unfolding merge_terms add_if
    takes = rw e refl

    -- one of the two is out of range already
    pub wide_over : c.in_range ≡ false → (d : Term) × (merge_terms c (term_of u) ≡ some d) × (d.in_range ≡ false)
    unfolding added
    wide_over w = (added c (term_of u), takes, rw w refl)

    pub later_over : c.in_range ≡ true → (term_of u).in_range ≡ false → (d : Term) × (merge_terms c (term_of u) ≡ some d) × (d.in_range ≡ false)
    unfolding added
    later_over g w = (added c (term_of u), takes, rw (g, w) refl)

    -- both are in range, with the bits n and m
    module _ {s : List ℕ} {n i : ℕ} (h : ShowsTerm s n i c) (m : ℕ) (other : (term_of u).coefficient ≡ signed m) (good : (term_of u).in_range ≡ true) where
      total : c.coefficient +ℤ (term_of u).coefficient ≡ signed n +ℤ signed m
      total = rw (h.coefficient, other) refl

      pub term_into : {v : ℕ} → num_of (signed n +ℤ signed m) ≡ Ok v
          → (d : Term) × (merge_terms c (term_of u) ≡ some d) × ShowsTerm s v i d × (d.in_range ≡ true)
      unfolding added
      term_into {v} q =
          let z = num_of_is (signed n +ℤ signed m) v q in
          let in-range : (added c (term_of u)).in_range ≡ true = rw (h.good, good, ap fits total ∙ z.0) refl in (
            added c (term_of u),
            takes,
            record {
              member = h.member;
              there = h.there;
              mark = h.mark;
              rest = h.rest;
              coefficient = total ∙ sym z.2;
              bits = omega (arith, z.1, word_lt (signed n +ℤ signed m));
              good = in-range;
            },
            in-range,
          )

      pub term_over : num_of (signed n +ℤ signed m) ≡ out_of_range → (d : Term) × (merge_terms c (term_of u) ≡ some d) × (d.in_range ≡ false)
      unfolding added
      term_over q =
          (added c (term_of u), takes, rw (h.good, good, ap fits total ∙ num_of_is_out (signed n +ℤ signed m) q) refl)

-- ---- exponents that are added: the code's sum is the paper's, and is in range with it
pub record Raised (c : Factor) (e : ℕ) : Type 0 where
  pub exponent : c.exponent ≡ e
  pub most : e < 2 ^ 63
  pub good : c.in_range ≡ true

module _ {c x : Factor} {e f : ℕ} (one : Raised c e) (other : Raised x f) where
  total_is : c.exponent + x.exponent ≡ e + f
  total_is = omega (arith, one.exponent, other.exponent)

  judged : num_of (signed e +ℤ signed f) ≡ cond (ltb (e + f) (2 ^ 63)) (Ok (e + f)) out_of_range
  judged = add_exponents_lem e f one.most other.most

  pub exponents_in : {v : ℕ} → num_of (signed e +ℤ signed f) ≡ Ok v → Raised (add_exponents c x) v
  unfolding add_exponents
  exponents_in {v} q = by (ltb (e + f) (2 ^ 63)) refl
    where
      by : (t : Bool) → ltb (e + f) (2 ^ 63) ≡ t → Raised (add_exponents c x) v
      by true p =
          let z : Ok v ≡ Ok (e + f) = sym q ∙ judged ∙ ap (λ t. cond t (Ok (e + f)) out_of_range) p in
          let same : v ≡ e + f = cc in
          record {
            exponent = omega (arith, total_is);
            most = omega (arith, ltb-true (e + f) (2 ^ 63) p);
            good = rw (one.good, other.good, total_is, p) refl;
          }
      by false p =
          let z : Ok v ≡ out_of_range = sym q ∙ judged ∙ ap (λ t. cond t (Ok (e + f)) out_of_range) p in
          absurd (let o : ◌≡◌ {A = ℕ} 0 1 = cc in omega arith)

  pub exponents_out : num_of (signed e +ℤ signed f) ≡ out_of_range → (add_exponents c x).in_range ≡ false
  unfolding add_exponents
  exponents_out q = by (ltb (e + f) (2 ^ 63)) refl
    where
      by : (t : Bool) → ltb (e + f) (2 ^ 63) ≡ t → (add_exponents c x).in_range ≡ false
      by true p =
          let z : out_of_range ≡ Ok (e + f) = sym q ∙ judged ∙ ap (λ t. cond t (Ok (e + f)) out_of_range) p in
          absurd (let o : ◌≡◌ {A = ℕ} 0 1 = cc in omega arith)
      by false p = rw (one.good, other.good, total_is, p) refl

-- ---- factors that meet: the one that the code holds, and that of a later member
pub raised_later : (u : Tree) {f : ℕ} → f ≡ (factor_of u).exponent → f < 2 ^ 63 → Raised (factor_of u) f
raised_later u x m = record { exponent = sym x; most = m; good = factor_of_good u }

-- where the bases are not both integers, only equal bases merge
by_base : (c x : Factor) → both_integers (as_integer c.base) (as_integer x.base) ≡ none
    → merge_factors c x ≡ raise_if (equal c.base x.base) c x
unfolding merge_factors multiply_if
by_base c x n = go (eqb c.exponent x.exponent) _ n
  where
    go : (b : Bool) (w : Option ℤ) → w ≡ none → multiply_if b w c x ≡ raise_if (equal c.base x.base) c x
    go true none e = refl
    go true (some z) e = absurd (let o : ◌≡◌ {A = ℕ} 0 1 = cc in omega arith)
    go false w e = refl

-- a base that is no integer
module _ {s : List ℕ} {e i k n : ℕ} {c : Factor} (h : ShowsPower s e i k n c) (x : Factor) where
  one_way : merge_factors c x ≡ raise_if (equal c.base x.base) c x
  unfolding both_integers
  one_way = by_base c x (rw h.other refl)

  pub power_apart : equal c.base x.base ≡ false → merge_factors c x ≡ none
  unfolding raise_if
  power_apart q = one_way ∙ rw q refl

  module _ {f : ℕ} (other : Raised x f) (q : equal c.base x.base ≡ true) where
    one_raised : Raised c e
    one_raised = record { exponent = h.exponent; most = h.most; good = h.good }

    raises : merge_factors c x ≡ some (add_exponents c x)
    unfolding raise_if add_exponents
    raises = one_way ∙ rw q refl

    pub power_into : {v : ℕ} → num_of (signed e +ℤ signed f) ≡ Ok v → (d : Factor) × (merge_factors c x ≡ some d) × ShowsPower s v i k n d × (d.in_range ≡ true)
    unfolding add_exponents
    power_into r =
        let z = exponents_in one_raised other r in (
          add_exponents c x,
          raises,
          record {
            mark = h.mark;
            sized = h.sized;
            other = h.other;
            exponent = z.exponent;
            most = z.most;
            good = z.good;
            wf = (h.wf.0, omega (arith, h.wf.1), omega (arith, z.exponent, z.most), h.wf.3, h.wf.4);
          },
          z.good,
        )

    pub power_over : num_of (signed e +ℤ signed f) ≡ out_of_range → (d : Factor) × (merge_factors c x ≡ some d) × (d.in_range ≡ false)
    power_over r = (add_exponents c x, raises, exponents_out one_raised other r)

-- an integer base that meets one that is none
pub number_apart : {e v b n : ℕ} {c : Factor} → ShowsNumber e v b n c → (x : Factor) → as_integer x.base ≡ none → merge_factors c x ≡ none
unfolding both_integers raise_if as_integer
number_apart {v = v} {b = b} {c = c} h x n =
    by_base c x (rw (h.base, n) refl) ∙ rw (ap (λ b. equal b x.base) h.base ∙ integer_apart b (signed v) x.base n) refl

pub same_bits : (v w : ℕ) → v < 2 ^ 64 → w < 2 ^ 64 → signed v ≡ signed w → v ≡ w
same_bits v w h k e = sym (word_signed v h) ∙ ap word e ∙ word_signed w k

-- two integer bases: equal exponents multiply the bases, else equal bases add the exponents
module _ {e v b m f w a l : ℕ} {c x : Factor} (h : ShowsNumber e v b m c) (k : ShowsNumber f w a l x) where
  by_integers : merge_factors c x ≡ multiply_if (eqb e f) (some (signed v *ℤ signed w)) c x
  unfolding merge_factors both_integers as_integer
  by_integers = rw (h.base, k.base, h.exponent, k.exponent) refl

  module _ (q : e ≡ f) where
    multiplies : merge_factors c x ≡ some (times_bases c x (signed v *ℤ signed w))
    unfolding multiply_if times_bases
    multiplies = by_integers ∙ rw (eq-eqb e f q) refl

    pub number_times : {n : ℕ} → num_of (signed v *ℤ signed w) ≡ Ok n → (d : Factor) × (merge_factors c x ≡ some d) × ShowsNumber e n m m d ×
        (d.in_range ≡ true)
    unfolding times_bases
    number_times {n} r =
        let z = num_of_is (signed v *ℤ signed w) n r in
        let least = word_lt (signed v *ℤ signed w) in
        let in-range : (times_bases c x (signed v *ℤ signed w)).in_range ≡ true = rw (h.good, k.good, z.0) refl in (
          times_bases c x (signed v *ℤ signed w),
          multiplies,
          record {
            mark = h.mark;
            base = ap (integer c.mark) (sym z.2) ∙ ap (λ y. integer y (signed n)) h.mark;
            bits = omega (arith, z.1);
            exponent = h.exponent;
            most = h.most;
            good = in-range;
            wf = ((fits_true (signed v *ℤ signed w) z.0, h.wf.3), h.wf.1, h.wf.2, h.wf.3, h.wf.4);
          },
          in-range,
        )

    pub number_times_over : num_of (signed v *ℤ signed w) ≡ out_of_range → (d : Factor) × (merge_factors c x ≡ some d) × (d.in_range ≡ false)
    unfolding times_bases
    number_times_over r = (
      times_bases c x (signed v *ℤ signed w),
      multiplies,
      rw (h.good, k.good, num_of_is_out (signed v *ℤ signed w) r) refl,
    )

  module _ (apart : e ≡ f → ⊥) where
    by_bits : merge_factors c x ≡ raise_if (eq_z (signed v) (signed w)) c x
    unfolding multiply_if equal on_integer
    by_bits =
        by_integers
        ∙ rw (ne_eqb e f apart) refl
        ∙ ap (λ b. raise_if b c x) (ap (λ b. equal b x.base) h.base ∙ ap (equal (integer b (signed v))) k.base)

    pub number_other : (v ≡ w → ⊥) → merge_factors c x ≡ none
    unfolding raise_if
    number_other n =
        by_bits
        ∙ rw (not_so (eq_z (signed v) (signed w)) (λ t. n (same_bits v w h.bits k.bits (eq_z_true (signed v) (signed w) t)))) refl

    module _ (q : v ≡ w) where
      one_of : Raised c e
      one_of = record { exponent = h.exponent; most = h.most; good = h.good }

      other_of : Raised x f
      other_of = record { exponent = k.exponent; most = k.most; good = k.good }

      merges : merge_factors c x ≡ some (add_exponents c x)
      unfolding raise_if add_exponents
      merges = by_bits ∙ rw (ap (λ b. eq_z (signed v) (signed b)) (sym q) ∙ eq_z_self (signed v)) refl

      pub number_raised : {n : ℕ} → num_of (signed e +ℤ signed f) ≡ Ok n
          → (d : Factor) × (merge_factors c x ≡ some d) × ShowsNumber n v b m d × (d.in_range ≡ true)
      unfolding add_exponents
      number_raised r =
          let z = exponents_in one_of other_of r in (
            add_exponents c x,
            merges,
            record {
              mark = h.mark;
              base = h.base;
              bits = h.bits;
              exponent = z.exponent;
              most = z.most;
              good = z.good;
              wf = (h.wf.0, omega (arith, h.wf.1), omega (arith, z.exponent, z.most), h.wf.3, h.wf.4);
            },
            z.good,
          )

      pub number_raised_over : num_of (signed e +ℤ signed f) ≡ out_of_range → (d : Factor) × (merge_factors c x ≡ some d) × (d.in_range ≡ false)
      number_raised_over r = (add_exponents c x, merges, exponents_out one_of other_of r)

-- ---- what the code's answers say
module _ (s : List ℕ) (t : Tree) (r : Result (Answer Part) OutOfRange) where
  pub of_term : (n i : ℕ) → ((c : Term) → ShowsTerm s n i c → MergedIs true s c (term_of t) r)
      → (b : Bool) (x : Like b) → Shows b s (part.Term n i) x → MergedIs b s x (split b t) r
  of_term n i f true x h = f x h
  of_term n i f false x h = absurd h

  pub of_wide : (i : ℕ) → ((c : Term) → ShowsWide s i c → MergedIs true s c (term_of t) r)
      → (b : Bool) (x : Like b) → Shows b s (part.Wide i) x → MergedIs b s x (split b t) r
  of_wide i f true x h = f x h
  of_wide i f false x h = absurd h

  pub of_power : (e i k m : ℕ) → ((c : Factor) → ShowsPower s e i k m c → MergedIs false s c (factor_of t) r)
      → (b : Bool) (x : Like b) → Shows b s (part.Power e i k m) x → MergedIs b s x (split b t) r
  of_power e i k m f true x h = absurd h
  of_power e i k m f false x h = f x h

  pub of_number : (e v a m : ℕ) → ((c : Factor) → ShowsNumber e v a m c → MergedIs false s c (factor_of t) r)
      → (b : Bool) (x : Like b) → Shows b s (part.Number e v a m) x → MergedIs b s x (split b t) r
  of_number e v a m f true x h = absurd h
  of_number e v a m f false x h = f x h

-- an end is found where the two trees are equal
pub end_found : (r : Answer ℕ) (q : Bool) (e : ℕ) → r ≡ match_of q e → is_some r ≡ q
end_found (Some x) q e h = sym (match_ends q e x (sym h)).0
end_found None q e h = sym (match_differs q e (sym h))

-- an error says that it leaves the range
pub error_says : (b : Bool) (s : List ℕ) (c x : Like b) (r : Result (Answer Part) OutOfRange) → IsErr r
    → (d : Like b) × (merge b c x ≡ some d) × (in_range b d ≡ false) → MergedIs b s c x r
error_says b s c x (Ok v) e h = absurd (let o : ◌≡◌ {A = ℕ} 0 1 = cc in omega arith)
error_says b s c x (Err u) e h = h

-- a part that stands in a record, and a later member
pub term_stands : (s : List ℕ) (n i : ℕ) (b : Bool) (x : Like b) → Shows b s (part.Term n i) x → (t : Tree) × Told note s i t
term_stands s n i true x h = (h.member, h.there)
term_stands s n i false x h = absurd h

pub wide_stands : (s : List ℕ) (i : ℕ) (b : Bool) (x : Like b) → Shows b s (part.Wide i) x → (t : Tree) × Told note s i t
wide_stands s i true x h = (h.member, h.there)
wide_stands s i false x h = absurd h

pub power_stands : (s : List ℕ) (e i k m : ℕ) (b : Bool) (x : Like b) → Shows b s (part.Power e i k m) x → (t : Tree) × Told note s i t
power_stands s e i k m true x h = absurd h
power_stands s e i k m false x h = (x.base, h.sized.there)

-- ---- a part that left the range: so has the member that it becomes
pub and_bad : (a b : Bool) → a ≡ false → a && b ≡ false
and_bad true b e = absurd (let o : ◌≡◌ {A = ℕ} 0 1 = cc in omega arith)
and_bad false b e = refl

pub joins_bad : (b : Bool) (c : Like b) → in_range b c ≡ false → (join b c).1 ≡ false
unfolding from_term times_unless from_factor power_unless
joins_bad true c e = go (eq_z c.coefficient (pos 1))
  where
    go : (b : Bool) → (times_unless b c).1 ≡ false
    go true = e
    go false = and_bad c.in_range _ e
joins_bad false c e = go (eqb c.exponent 1)
  where
    go : (b : Bool) → (power_unless b c).1 ≡ false
    go true = e
    go false = e

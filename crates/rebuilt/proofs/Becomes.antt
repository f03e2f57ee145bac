-- The member that a part becomes, by the tests that the code makes: a coefficient 1 leaves the rest, a product gets the coefficient
-- last, any other rest stands after it, and a rest 1 leaves the coefficient; an exponent 1 leaves the base, any other stands after it. Each is the paper's
-- definition at a known tree. A member that is known has a known number of records, so room for the member is room for those
-- records, and bytes put there are the answer that the contracts ask for.
use Prim.Native.Nat.{ℕ, ◌+◌, ◌*◌, ◌^◌, ◌<◌, ◌≤◌}
use mathlib.Core.Path.{◌≡◌, refl, sym, ap, ◌∙◌}
use mathlib.Core.Bool.{Bool, true, false}
use Rattle.std.specs.Prelude.{Ok}
use mathlib.Core.List.{List, [], ◌∷◌, ◌++◌}
use native.Mathlib.Omega.{arith}
use borrow.Author.Tests.{eq-eqb, ne_eqb, lt-ltb}
use lib.ListN.{length}
use lib.IntN.{ℤ, pos, one, *ℤ-one}
use lib.Signed.{mag}
use Rattle.paper.specs.Bytes.{signed}
use Rattle.paper.specs.Tree.{Tree, Forest, integer, product, power, marked, to_list, of_list, records, weight}
use Rattle.paper.specs.WellFormed.{WF}
use Rattle.paper.specs.Record.{kind, mark_in}
use Rattle.paper.specs.Equal.{eq_z}
use Rattle.paper.specs.Rules.{fits, Term, term, term_of, coefficient_times, times_unless, from_term, Factor, power_unless, from_factor}
use Rattle.paper.proofs.EncodeLaws.{signed_in_range}
use Rattle.paper.proofs.MarkSentences.{term_begins}
use Rattle.paper.proofs.Tests.{eq_z_true, not_so}
use Rattle.note.proofs.ToldLaws.{Seen, an_integer, a_symbol, a_sum, a_product, a_power}
use Rattle.note.specs.Note.{note}
use Rattle.note.specs.Noted.{encode_by}
use Rattle.stretch.specs.Put.{put}
use Rattle.split.specs.Standing.{Told}
use Rattle.note.proofs.ToldLaws.{seen, mark_number}
use Rattle.part.specs.Part.{ShowsTerm, ShowsPower, ShowsNumber}
use Rattle.part.proofs.PartLaws.{same_bits}
use Rattle.rebuilt.specs.Written.{timed, WrittenIs, Fitting}
use Rattle.rebuilt.proofs.Encoded.{marked_records, pair_records, longer_records, power_records}

-- the member x, a tree and whether it is in range, is the tree u of k records, in range
pub record Becomes (x : Tree × Bool) (u : Tree) (k : ℕ) : Type 0 where
  pub is : x ≡ (u, true)
  pub size : k ≡ records u

module _ {x : Tree × Bool} {u : Tree} {k : ℕ} (h : Becomes x u k) (out : List ℕ) (m : ℕ) where
  as_long : k ≡ records x.0
  as_long = h.size ∙ ap (λ (p : Tree × Bool). records p.0) (sym h.is)

  pub room : Fitting x out m → (m + k) * 16 ≤ length out
  room f = omega (arith, f.room, as_long)

  pub light : Fitting x out m → weight u < 65536
  light f = omega (arith, f.light, ap (λ (p : Tree × Bool). weight p.0) h.is)

  pub written : (out' : List ℕ) (e : ℕ) → e ≡ m + k → out' ≡ put out (m * 16) (encode_by note u) → WrittenIs x out out' m (Ok e)
  written out' e a b = (
    ap (λ (p : Tree × Bool). p.1) h.is,
    omega (arith, a, as_long),
    b ∙ ap (λ (p : Tree × Bool). put out (m * 16) (encode_by note p.0)) (sym h.is),
  )

-- ---- coefficient times rest
timed_one : (μ n : ℕ) (t : Tree) → n ≡ 1 → timed μ n t ≡ (marked μ t, true)
unfolding timed times_unless term eq_z
timed_one μ n t e = rw e refl

timed_more : (μ n : ℕ) (t : Tree) → n < 2 ^ 64 → (n ≡ 1 → ⊥) → timed μ n t ≡ coefficient_times μ (signed n) t
unfolding timed times_unless term
timed_more μ n t l h = rw (not_so (eq_z (signed n) (pos 1)) (λ e. h (same_bits n 1 l (omega arith) (eq_z_true (signed n) (pos 1) e)))) refl

times_product : (μ ν : ℕ) (z : ℤ) (f : Forest)
    → coefficient_times μ z (product ν f) ≡ (product μ (of_list (to_list f ++ (integer μ z ∷ []))), true)
unfolding coefficient_times
times_product μ ν z f = refl

times_other : (s : List ℕ) (i μ : ℕ) (z : ℤ) (t : Tree) → Told note s i t → 1 ≤ kind s i → (kind s i ≡ 3 → ⊥)
    → coefficient_times μ z t ≡ (product μ (of_list (integer μ z ∷ t ∷ [])), true)
unfolding coefficient_times
times_other s i μ z t h k o = go (seen h)
  where
    go : {t : Tree} → Seen note s i t → coefficient_times μ z t ≡ (product μ (of_list (integer μ z ∷ t ∷ [])), true)
    go (an_integer e b w) = absurd (omega arith)
    go (a_symbol e v w) = refl
    go (a_sum e n c w m) = refl
    go (a_product e n c w m) = absurd (o e)
    go (a_power e w b p q x y v) = refl

integer_records : (μ : ℕ) (z : ℤ) → records (integer μ z) ≡ 1
unfolding records
integer_records μ z = refl

-- the coefficient n times the tree t of k records, with the mark μ: t itself; or the product t with n appended, one record more; or the product of n and t,
-- two records more
module _ (μ n : ℕ) (t : Tree) {k : ℕ} (size : k ≡ records t) where
  pub one_becomes : n ≡ 1 → Becomes (timed μ n t) (marked μ t) k
  one_becomes e = record { is = timed_one μ n t e; size = size ∙ sym (marked_records μ t) }

  module _ (l : n < 2 ^ 64) (more : n ≡ 1 → ⊥) where
    pub longer_becomes : {ν : ℕ} {f : Forest} → t ≡ product ν f
        → Becomes (timed μ n t) (product μ (of_list (to_list f ++ (integer μ (signed n) ∷ [])))) (k + 1)
    longer_becomes {ν} {f} e =
        record {
          is = timed_more μ n t l more ∙ ap (coefficient_times μ (signed n)) e ∙ times_product μ ν (signed n) f;
          size = omega (arith, ap records e, longer_records μ ν f (signed n));
        }

    pub pair_becomes : (s : List ℕ) (i : ℕ) → Told note s i t → 1 ≤ kind s i → (kind s i ≡ 3 → ⊥)
        → Becomes (timed μ n t) (product μ (of_list (integer μ (signed n) ∷ t ∷ []))) (k + 2)
    pair_becomes s i h a o =
        record { is = timed_more μ n t l more ∙ times_other s i μ (signed n) t h a o; size = omega (arith, pair_records μ (signed n) t) }

-- ---- a term: its coefficient times its rest; where the rest is 1, the coefficient
fits_signed : (n : ℕ) → n < 2 ^ 64 → fits (signed n) ≡ true
unfolding fits
fits_signed n l = lt-ltb (mag (signed n)) (2 ^ 63) (signed_in_range n l)

timed_unit : (μ ν n : ℕ) → n < 2 ^ 64 → timed μ n (integer ν (pos 1)) ≡ (integer μ (signed n), true)
unfolding timed times_unless term coefficient_times one marked
timed_unit μ ν n l = go (eq_z (signed n) (pos 1)) refl
  where
    go : (b : Bool) → eq_z (signed n) (pos 1) ≡ b → times_unless b (term μ (signed n) (integer ν (pos 1))) ≡ (integer μ (signed n), true)
    go true e = ap (λ z. (integer μ z, true)) (sym (eq_z_true (signed n) (pos 1) e))
    go false e = rw (*ℤ-one (signed n), fits_signed n l) refl

module _ {s : List ℕ} {n i μ : ℕ} {c : Term} (h : ShowsTerm s n i c) (m : μ ≡ mark_in s i) where
  same_mark : c.mark ≡ μ
  same_mark = h.mark ∙ term_begins h.member ∙ sym (mark_number h.there) ∙ sym m

  pub from_term_lem : from_term c ≡ timed μ n (term_of h.member).rest
  unfolding from_term timed times_unless term
  from_term_lem = rw (h.coefficient, h.rest, h.good, same_mark) refl

  pub unit_becomes : {ν : ℕ} → (term_of h.member).rest ≡ integer ν (pos 1) → Becomes (from_term c) (integer μ (signed n)) 1
  unit_becomes {ν} e =
      record { is = from_term_lem ∙ ap (timed μ n) e ∙ timed_unit μ ν n h.bits; size = sym (integer_records μ (signed n)) }

-- ---- a factor: its base, of k records, its exponent e and its mark μ
pub record Shown (c : Factor) (e k μ : ℕ) : Type 0 where
  pub mark : c.mark ≡ μ
  pub exponent : c.exponent ≡ e
  pub good : c.in_range ≡ true
  pub size : k ≡ records c.base
  pub wf : WF (power c.mark c.base c.mark c.exponent)

pub power_shown : {s : List ℕ} {e i k μ : ℕ} {c : Factor} → ShowsPower s e i k μ c → Shown c e k μ
power_shown h = record { mark = h.mark; exponent = h.exponent; good = h.good; size = h.sized.size; wf = h.wf }

pub number_shown : {e v b μ : ℕ} {c : Factor} → ShowsNumber e v b μ c → Shown c e 1 μ
number_shown {v = v} {b = b} h =
    record {
      mark = h.mark;
      exponent = h.exponent;
      good = h.good;
      size = sym (ap records h.base ∙ integer_records b (signed v));
      wf = h.wf;
    }

module _ {c : Factor} {e k μ : ℕ} (h : Shown c e k μ) where
  pub base_becomes : e ≡ 1 → Becomes (from_factor c) (marked μ c.base) k
  unfolding from_factor power_unless
  base_becomes o =
      record {
        is = rw (eq-eqb c.exponent 1 (h.exponent ∙ o), h.good, h.mark) refl;
        size = h.size ∙ sym (marked_records μ c.base);
      }

  pub power_becomes : (e ≡ 1 → ⊥) → Becomes (from_factor c) (power μ c.base μ e) (k + 2)
  unfolding from_factor power_unless
  power_becomes o =
      record {
        is = rw (ne_eqb c.exponent 1 (λ x. o (sym h.exponent ∙ x)), h.good, h.exponent, h.mark) refl;
        size = omega (arith, h.size, power_records μ c.base e);
      }

  pub power_wf : WF (power μ c.base μ e)
  power_wf = rw (h.mark, h.exponent) at h.wf

-- The records that are written one after the other are the records of one tree: an integer, a product of two, a product with the integer n
-- after its members, a power, each node as it is before it is closed. Each record or row is put where the one before it ends, so the puts
-- are one put of all of them. And which function a part is written by: one of a sum is a term, one of a product a factor.
use Prim.Native.Nat.{ℕ, ◌+◌, ◌*◌, ◌^◌, ◌<◌, ◌≤◌}
use mathlib.Core.Path.{◌≡◌, refl, sym, ap, ◌∙◌, subst}
use mathlib.Core.Bool.{Bool, true, false}
use Rattle.std.specs.Prelude.{Ok}
use mathlib.Core.List.{List, ◌++◌}
use mathlib.Core.Option.{none}
use native.Mathlib.Omega.{arith}
use lib.ListN.{length}
use Rattle.paper.specs.Bytes.{word, signed}
use Rattle.paper.specs.Tree.{Tree, Forest, integer, symbol, sum, product, power, marked, count, records, recordses}
use Rattle.paper.specs.Record.{kind, count_in}
use Rattle.paper.specs.Table.{record_of}
use Rattle.paper.specs.Rules.{as_integer, Term, from_term, Factor, from_factor}
use Rattle.paper.proofs.EncodeLaws.{word_signed, record_length}
use Rattle.note.proofs.NotedLaws.{encode_by_length, encodes_by_length}
use Rattle.paper.proofs.Stands.{Stands}
use Rattle.note.proofs.ToldLaws.{Seen, seen_product, a_symbol, a_sum, a_product}
use Rattle.note.proofs.ToldLaws as views
use Rattle.note.proofs.CloseLaws.{unclosed}
use Rattle.note.specs.Note.{note}
use Rattle.note.specs.Noted.{encode_by, encodes_by}
use Rattle.stretch.specs.Put.{put}
use Rattle.split.specs.Standing.{Told}
use Rattle.note.proofs.ToldLaws.{seen, product_trees, tree_within}
use Rattle.part.specs.Like.{Like, join}
use Rattle.part.specs.Part.{Sized, Shows, ShowsTerm, ShowsPower, ShowsNumber}
use Rattle.part.proofs.PartLaws.{joins_bad}
use Rattle.part.specs.declared.Part.{Part}
use Rattle.part.specs.declared.Part.TheVariants as part
use Rattle.rebuilt.specs.Written.{WrittenIs, Fitting, Light, paired, lengthened}
use Rattle.rebuilt.proofs.Becomes.{room, light, written, Shown, base_becomes, power_becomes, power_wf}
use Rattle.rebuilt.proofs.Encoded.{pair_unclosed, longer_unclosed, power_unclosed, three_puts}

-- ---- a product at a record
pub record ProductAt (s : List ℕ) (i k : ℕ) (f : Forest) : Type 0 where
  pub counted : count_in s i ≡ count f
  pub size : k ≡ 1 + recordses f
  pub stand : Stands s (i + 1) (encodes_by note f)
  pub within : (i + k) * 16 ≤ length s

pub product_at : (s : List ℕ) (i k : ℕ) {μ : ℕ} (f : Forest) → Sized s i k (product μ f) → ProductAt s i k f
unfolding records
product_at s i k f h =
    let t = product_trees h.there in
    record { counted = sym t.counted; size = h.size; stand = t.stand; within = omega (arith, h.size, tree_within h.there) }

pub record IsProduct (t : Tree) : Type 0 where
  pub mark : ℕ
  pub members : Forest
  pub is : t ≡ product mark members

pub is_product : (s : List ℕ) (i : ℕ) (t : Tree) → Told note s i t → kind s i ≡ 3 → IsProduct t
is_product s i t h k = let q = seen_product (seen h) k in record { mark = q.0; members = q.1; is = q.2 }

-- a tree that is no integer tells so by its kind
pub kind_other : {s : List ℕ} {i : ℕ} {t : Tree} → Told note s i t → as_integer t ≡ none → 1 ≤ kind s i
unfolding as_integer
kind_other {s} {i} {t} h n = by t n (seen h)
  where
    by : (t : Tree) → as_integer t ≡ none → Seen note s i t → 1 ≤ kind s i
    by (integer μ z) n q = absurd (let o : ◌≡◌ {A = ℕ} 0 1 = cc in omega arith)
    by (symbol μ v) n (a_symbol e b w) = omega arith
    by (sum μ f) n (a_sum e k c w m) = omega arith
    by (product μ f) n (a_product e k c w m) = omega arith
    by (power μ b ξ x) n (views.a_power e w m p q o y z) = omega arith

-- ---- the records that are written one after the other
integer_is : (μ n : ℕ) → n < 2 ^ 64 → record_of 0 0 μ (word (signed n)) ≡ record_of 0 0 μ n
integer_is μ n l = ap (record_of 0 0 μ) (word_signed n l)

pub integer_written : (out d : List ℕ) (a μ n : ℕ) → n < 2 ^ 64 → d ≡ put out a (record_of 0 0 μ n)
    → d ≡ put out a (encode_by note (integer μ (signed n)))
unfolding encode_by
integer_written out d a μ n l p = p ∙ ap (put out a) (sym (integer_is μ n l))

module _ (out d₁ d₂ d₃ : List ℕ) (m n : ℕ) (l : n < 2 ^ 64) (μ : ℕ) where
  pub pair_written : (t : Tree) → (m + (records t + 2)) * 16 ≤ length out → d₁ ≡ put out (m * 16) (record_of 3 2 μ 0)
      → d₂ ≡ put d₁ ((m + 1) * 16) (record_of 0 0 μ n) → d₃ ≡ put d₂ ((m + 2) * 16) (encode_by note t)
      → d₃ ≡ put out (m * 16) (unclosed (paired μ n t))
  pair_written t r p q w =
      let a = record_length 3 2 μ 0 in
      let b = record_length 0 0 μ n in
      let c = encode_by_length note t in
      three_puts out d₁ d₂ d₃ (record_of 3 2 μ 0) (record_of 0 0 μ n) (encode_by note t) (m * 16) ((m + 1) * 16) ((m + 2) * 16) p q w
      (omega arith) (omega arith) (omega arith)
      ∙ ap (λ (x : List ℕ). put out (m * 16) ((record_of 3 2 μ 0 ++ x) ++ encode_by note t)) (sym (integer_is μ n l))
      ∙ ap (put out (m * 16)) (sym (pair_unclosed μ (signed n) t))

  pub longer_written : (f : Forest) (c k a : ℕ) → c ≡ count f + 1 → k ≡ 1 + recordses f → a ≡ m + k → (m + (k + 1)) * 16 ≤ length out
      → d₁ ≡ put out (m * 16) (record_of 3 c μ 0) → d₂ ≡ put d₁ ((m + 1) * 16) (encodes_by note f) → d₃ ≡ put d₂ (a * 16) (record_of 0 0 μ n)
      → d₃ ≡ put out (m * 16) (unclosed (lengthened μ n f))
  longer_written f c k a e g h r p q w =
      let j = record_length 3 c μ 0 in
      let b = record_length 0 0 μ n in
      let i = encodes_by_length note f in
      three_puts out d₁ d₂ d₃ (record_of 3 c μ 0) (encodes_by note f) (record_of 0 0 μ n) (m * 16) ((m + 1) * 16) (a * 16) p q w
      (omega arith) (omega arith) (omega arith)
      ∙ ap (λ c. put out (m * 16) ((record_of 3 c μ 0 ++ encodes_by note f) ++ record_of 0 0 μ n)) e
      ∙ ap (λ (x : List ℕ). put out (m * 16) ((record_of 3 (count f + 1) μ 0 ++ encodes_by note f) ++ x)) (sym (integer_is μ n l))
      ∙ ap (put out (m * 16)) (sym (longer_unclosed μ f (signed n)))

-- a factor whose base has k records: with the exponent 1 the base, with any other the record of a power, the base, and the exponent
power_written : (out d₁ d₂ d₃ : List ℕ) (m e μ : ℕ) (b : Tree) (a : ℕ) → e < 2 ^ 63 → a ≡ m + 1 + records b → (m + (records b + 2)) * 16 ≤ length out
    → d₁ ≡ put out (m * 16) (record_of 4 0 μ 0) → d₂ ≡ put d₁ ((m + 1) * 16) (encode_by note b) → d₃ ≡ put d₂ (a * 16) (record_of 0 0 μ e)
    → d₃ ≡ put out (m * 16) (unclosed (power μ b μ e))
power_written out d₁ d₂ d₃ m e μ b a l h r p q w =
    let j = record_length 4 0 μ 0 in
    let c = record_length 0 0 μ e in
    let i = encode_by_length note b in
    three_puts out d₁ d₂ d₃ (record_of 4 0 μ 0) (encode_by note b) (record_of 0 0 μ e) (m * 16) ((m + 1) * 16) (a * 16) p q w
    (omega arith) (omega arith) (omega arith)
    ∙ ap (put out (m * 16)) (sym (power_unclosed μ b μ e l))

module _ {c : Factor} {e k μ : ℕ} (h : Shown c e k μ) (out : List ℕ) (m : ℕ) where
  pub base_room : e ≡ 1 → Fitting (from_factor c) out m → (m + k) * 16 ≤ length out
  base_room o = room (base_becomes h o) out m

  pub base_answer : e ≡ 1 → (d : List ℕ) → d ≡ put out (m * 16) (encode_by note (marked μ c.base)) → WrittenIs (from_factor c) out d m (Ok (m + k))
  base_answer o d = written (base_becomes h o) out m d (m + k) refl

  pub power_room : (e ≡ 1 → ⊥) → Fitting (from_factor c) out m → (m + (k + 2)) * 16 ≤ length out
  power_room o = room (power_becomes h o) out m

  pub power_light : (e ≡ 1 → ⊥) → Fitting (from_factor c) out m → Light (power μ c.base μ e)
  power_light o f = (power_wf h, light (power_becomes h o) out m f)

  -- before it is closed
  pub power_put : (m + (k + 2)) * 16 ≤ length out → (d₁ d₂ d₃ : List ℕ) (a : ℕ) → a ≡ m + 1 + k
      → d₁ ≡ put out (m * 16) (record_of 4 0 μ 0) → d₂ ≡ put d₁ ((m + 1) * 16) (encode_by note c.base) → d₃ ≡ put d₂ (a * 16) (record_of 0 0 μ e)
      → d₃ ≡ put out (m * 16) (unclosed (power μ c.base μ e))
  power_put r d₁ d₂ d₃ a x p q w =
      let z = h.size in
      power_written out d₁ d₂ d₃ m e μ c.base a (power_wf h).2 (omega arith) (omega arith) p q w

  pub power_answer : (e ≡ 1 → ⊥) → (d : List ℕ) (b : ℕ) → b ≡ m + (k + 2) → d ≡ put out (m * 16) (encode_by note (power μ c.base μ e))
      → WrittenIs (from_factor c) out d m (Ok b)
  power_answer o d b y p = written (power_becomes h o) out m d b y p

-- an integer base, with its own mark, and with the factor's
pub number_written : {e v b μ : ℕ} {c : Factor} → ShowsNumber e v b μ c → (out d : List ℕ) (a : ℕ) → d ≡ put out a (record_of 0 0 b v)
    → d ≡ put out a (encode_by note c.base)
number_written {v = v} {b = b} h out d a p =
    integer_written out d a b v h.bits p ∙ ap (λ (t : Tree). put out a (encode_by note t)) (sym h.base)

pub number_marked : {e v b μ : ℕ} {c : Factor} → ShowsNumber e v b μ c → (out d : List ℕ) (a : ℕ) → d ≡ put out a (record_of 0 0 μ v)
    → d ≡ put out a (encode_by note (marked μ c.base))
unfolding marked
number_marked {v = v} {μ = μ} h out d a p =
    integer_written out d a μ v h.bits p ∙ ap (λ (t : Tree). put out a (encode_by note (marked μ t))) (sym h.base)

-- ---- a part p of a sum is a term, one of a product a factor, and the member that it becomes is that of the term or the factor
module _ (s : List ℕ) {p : Part} where
  pub a_term : {n i : ℕ} → p ≡ part.Term n i → (b : Bool) (x : Like b) → Shows b s p x
      → (c : Term) × ShowsTerm s n i c × (join b x ≡ from_term c)
  a_term e true x h = (x, subst (λ (p : Part). Shows true s p x) e h, refl)
  a_term e false x h = absurd (subst (λ (p : Part). Shows false s p x) e h)

  pub a_wide : {i : ℕ} → p ≡ part.Wide i → (b : Bool) (x : Like b) → Shows b s p x → (join b x).1 ≡ false
  a_wide e true x h = joins_bad true x (subst (λ (p : Part). Shows true s p x) e h).wide
  a_wide e false x h = absurd (subst (λ (p : Part). Shows false s p x) e h)

  pub a_power : {e i k μ : ℕ} → p ≡ part.Power e i k μ → (b : Bool) (x : Like b) → Shows b s p x
      → (c : Factor) × ShowsPower s e i k μ c × (join b x ≡ from_factor c)
  a_power e true x h = absurd (subst (λ (p : Part). Shows true s p x) e h)
  a_power e false x h = (x, subst (λ (p : Part). Shows false s p x) e h, refl)

  pub a_number : {e v a μ : ℕ} → p ≡ part.Number e v a μ → (b : Bool) (x : Like b) → Shows b s p x
      → (c : Factor) × ShowsNumber e v a μ c × (join b x ≡ from_factor c)
  a_number e true x h = absurd (subst (λ (p : Part). Shows true s p x) e h)
  a_number e false x h = (x, subst (λ (p : Part). Shows false s p x) e h, refl)

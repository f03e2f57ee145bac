-- What the code reads at a member and at a power, for the test that no rule applies: an integer is 0 where its bits are under 1, and 0 or 1
-- where they are under 2; an exponent is the last record of its power.
use Prim.Native.Nat.{ℕ, zero, suc, ◌+◌, ◌-◌, ◌*◌, ◌/◌, ◌%◌, ◌≤◌, ◌<◌}
use mathlib.Core.Path.{◌≡◌, refl, sym, ap, ◌∙◌}
use mathlib.Core.Bool.{Bool, true, false, ◌&&◌, ◌||◌, not}
use mathlib.Core.List.{List, []}
use native.Mathlib.Omega.{arith}
use borrow.Author.Tests.{lt-ltb, le-ltb, le-leb, lt-leb, ne_eqb}
use lib.Dec.{eqb, ltb}
use lib.IntN.{ℤ, pos, negsuc}
use lib.ListN.{length}
use Rattle.paper.specs.Limits.{modulus}
use Rattle.paper.specs.Bytes.{word}
use Rattle.paper.specs.Tree.{Tree, integer, symbol, sum, product, power, to_list, records, weight}
use Rattle.paper.specs.WellFormed.{InRange}
use Rattle.paper.specs.Record.{kind, count_in, bits}
use Rattle.paper.specs.Standing.{kind_number}
use Rattle.paper.specs.Equal.{eq_z}
use Rattle.paper.specs.Rules.{as_integer, is_the}
use Rattle.note.specs.Note.{note}
use Rattle.note.specs.Noted.{count_of, inner, bits_by, TreeBy, TreesBy}
use Rattle.still.specs.Still.{sought, apart, still_power, still, enough, still_by}
use Rattle.note.proofs.KeyLaws.{note_records, note_weight}
use Rattle.note.proofs.ToldLaws.{note_tells, noted_told, record_within, kind_number_lem, count_number, bits_number, exponent_tree, power_parts}
use Rattle.note.proofs.LightLaws.{power_base, note_of_node, members_by}

-- ---- the integers that are looked for
under_one : (n : ℕ) → ltb n 1 ≡ eqb n 0
under_one zero = refl
under_one (suc n) = le-ltb (suc n) 1 (omega arith) ∙ sym (ne_eqb (suc n) 0 (λ e. omega arith))

under_two : (n : ℕ) → ltb n 2 ≡ (eqb n 0 || eqb n 1)
under_two zero = refl
under_two (suc zero) = refl
under_two (suc (suc n)) =
    rw (
      le-ltb (suc (suc n)) 2 (omega arith),
      ne_eqb (suc (suc n)) 0 (λ e. omega arith),
      ne_eqb (suc (suc n)) 1 (λ e. omega arith),
    )

zero_bits : (z : ℤ) → InRange z → ltb (word z) 1 ≡ eq_z z (pos 0)
unfolding word eq_z
zero_bits (pos n) r = let e : n % modulus ≡ n = omega arith in ap (λ m. ltb m 1) e ∙ under_one n
zero_bits (negsuc n) r = le-ltb (modulus - suc (n % modulus)) 1 (omega arith)

small_bits : (z : ℤ) → InRange z → ltb (word z) 2 ≡ (eq_z z (pos 0) || eq_z z (pos 1))
unfolding word eq_z
small_bits (pos n) r = let e : n % modulus ≡ n = omega arith in ap (λ m. ltb m 2) e ∙ under_two n
small_bits (negsuc n) r = le-ltb (modulus - suc (n % modulus)) 2 (omega arith)

-- a tree that is no integer is none of them
pub no_integer : (terms : Bool) (t : Tree) → 0 < kind_number t → false ≡ sought terms t
unfolding sought is_the as_integer kind_number
no_integer terms (integer μ z) l = absurd (omega arith)
no_integer true (symbol μ s) l = refl
no_integer false (symbol μ s) l = refl
no_integer true (sum μ f) l = refl
no_integer false (sum μ f) l = refl
no_integer true (product μ f) l = refl
no_integer false (product μ f) l = refl
no_integer true (power μ b ξ e) l = refl
no_integer false (power μ b ξ e) l = refl

-- an integer's bits tell
module _ {s : List ℕ} {i : ℕ} where
  pub sought_term : (t : Tree) → TreeBy note s i t → kind_number t ≤ 0 → ltb (bits s i) 1 ≡ sought true t
  unfolding sought is_the as_integer kind_number bits_by
  sought_term (integer μ z) h l = ap (λ n. ltb n 1) (bits_number (noted_told h)) ∙ zero_bits z h.wf.0
  sought_term (symbol μ v) h l = absurd (omega arith)
  sought_term (sum μ f) h l = absurd (omega arith)
  sought_term (product μ f) h l = absurd (omega arith)
  sought_term (power μ b ξ e) h l = absurd (omega arith)

  pub sought_factor : (t : Tree) → TreeBy note s i t → kind_number t ≤ 0 → ltb (bits s i) 2 ≡ sought false t
  unfolding sought is_the as_integer kind_number bits_by
  sought_factor (integer μ z) h l = ap (λ n. ltb n 2) (bits_number (noted_told h)) ∙ small_bits z h.wf.0
  sought_factor (symbol μ v) h l = absurd (omega arith)
  sought_factor (sum μ f) h l = absurd (omega arith)
  sought_factor (product μ f) h l = absurd (omega arith)
  sought_factor (power μ b ξ e) h l = absurd (omega arith)

-- ---- a power: its base behind its record, its exponent the last of its records, and what the test says of these
pub record PowerAt (s : List ℕ) (i : ℕ) (t : Tree) : Type 0 where
  pub base : Tree
  pub exponent : ℕ
  pub there : TreeBy note s (i + 1) base
  pub size : bits s i % 65536 ≡ 2 + records base
  pub within : (i + 1 + records base) * 16 + 16 ≤ length s
  pub exponent_there : bits s (i + 1 + records base) ≡ exponent
  pub tells : still_by 2 t ≡ still_power base exponent

pub power_at : {s : List ℕ} {i : ℕ} (t : Tree) → TreeBy note s i t → kind_number t ≡ 4 → PowerAt s i t
unfolding kind_number bits_by records still_by still
power_at (integer μ z) h e = absurd (omega arith)
power_at (symbol μ v) h e = absurd (omega arith)
power_at (sum μ f) h e = absurd (omega arith)
power_at (product μ f) h e = absurd (omega arith)
power_at {s} {i} (power μ b ξ x) h e =
    let q = noted_told h in
    record {
      base = b;
      exponent = x;
      there = power_base note_tells h;
      size = ap (λ n. n % 65536) (bits_number q) ∙ note_records (power μ b ξ x) h.light;
      within = record_within (exponent_tree q);
      exponent_there = (power_parts q).exponent_bits;
      tells = refl;
    }

module _ (b : Tree) (e : ℕ) where
  pub power_of_power : 3 < kind_number b → false ≡ still_power b e
  unfolding still_power
  power_of_power l = rw (le-ltb (kind_number b) 4 l)

  pub power_of_sought : kind_number b ≤ 3 → sought false b ≡ true → false ≡ still_power b e
  unfolding still_power
  power_of_sought l k = rw (lt-ltb (kind_number b) 4 (omega arith), k)

  pub power_by_exponent : kind_number b ≤ 3 → sought false b ≡ false → not (eqb e 1) ≡ still_power b e
  unfolding still_power
  power_by_exponent l k = rw (lt-ltb (kind_number b) 4 (omega arith), k)

-- ---- a sum or a product: what the test says of its members
pub members_tell : (edition : ℕ) (t : Tree) → 2 ≤ kind_number t → kind_number t < 4
    → still_by edition t ≡ (enough (count_of t) (weight t) && apart (ltb (kind_number t) 3) [] (to_list (inner t)))
unfolding kind_number still_by still count_of inner
members_tell edition (integer μ z) l k = absurd (omega arith)
members_tell edition (symbol μ s) l k = absurd (omega arith)
members_tell edition (sum μ f) l k = refl
members_tell edition (product μ f) l k = refl
members_tell edition (power μ b ξ e) l k = absurd (omega arith)

-- what is read of it at record i of s: its kind k, its number n of members and its weight w
pub record Read (s : List ℕ) (i k n w : ℕ) : Type 0 where
  pub kind_read : k ≡ kind s i
  pub low : 2 ≤ k
  pub high : k < 4
  pub count_read : n ≡ count_in s i
  pub weight_read : w ≡ bits s i / 65536 % 65536

module _ {s : List ℕ} {i k n w : ℕ} (r : Read s i k n w) {t : Tree} (q : TreeBy note s i t) where
  kind_told : k ≡ kind_number t
  kind_told = r.kind_read ∙ kind_number_lem (noted_told q)

  low_told : 2 ≤ kind_number t
  low_told = omega (arith, kind_told, r.low)

  high_told : kind_number t < 4
  high_told = omega (arith, kind_told, r.high)

  counted : n ≡ count_of t
  counted = r.count_read ∙ count_number (noted_told q)

  weighs : w ≡ weight t
  weighs =
      r.weight_read
      ∙ ap (λ m. m / 65536 % 65536) (note_of_node q k (bits s i) r.kind_read refl r.low)
      ∙ note_weight t q.light

  -- its members stand behind it
  pub members_read : TreesBy note s (i + 1) n (inner t)
  members_read = members_by t note_tells q low_told high_told n r.count_read

  -- where there is not enough room for their keys
  pub no_room_lem : 16 * w < 40 * n → (edition : ℕ) → false ≡ still_by edition t
  unfolding enough
  no_room_lem p edition =
      sym
      (members_tell edition t low_told high_told
      ∙ rw (lt-leb (5 * count_of t) (2 * weight t) (omega (arith, counted, weighs, p))) refl)

  -- and where there is
  module _ (p : 40 * n ≤ 16 * w) where
    pub room_lies : n * 40 ≤ 16 * weight t
    room_lies = omega (arith, weighs, p)

    pub with_room : (b : Bool) → b ≡ apart (ltb k 3) [] (to_list (inner t)) → (edition : ℕ) → b ≡ still_by edition t
    unfolding enough
    with_room b e edition =
        e
        ∙ ap (λ m. apart (ltb m 3) [] (to_list (inner t))) kind_told
        ∙ sym
        (members_tell edition t low_told high_told
        ∙ rw (le-leb (5 * count_of t) (2 * weight t) (omega (arith, counted, weighs, p))) refl)

-- ---- a leaf, and a power in an edition that has no rule for it
pub leaf_still : (edition : ℕ) (t : Tree) → kind_number t < 2 → true ≡ still_by edition t
unfolding kind_number still_by
leaf_still edition (integer μ z) l = refl
leaf_still edition (symbol μ s) l = refl
leaf_still edition (sum μ f) l = absurd (omega arith)
leaf_still edition (product μ f) l = absurd (omega arith)
leaf_still edition (power μ b ξ e) l = absurd (omega arith)

pub power_still : (edition : ℕ) (t : Tree) → 4 ≤ kind_number t → (edition ≡ 2 → ⊥) → true ≡ still_by edition t
unfolding kind_number still_by still
power_still edition (integer μ z) l n = absurd (omega arith)
power_still edition (symbol μ s) l n = absurd (omega arith)
power_still edition (sum μ f) l n = absurd (omega arith)
power_still edition (product μ f) l n = absurd (omega arith)
power_still edition (power μ b ξ e) l n = rw (ne_eqb edition 2 n) refl

-- Members that are put down at flags. Two of which one takes up the other share a flag: terms by equal rests, factors by equal exponents
-- of integer bases or by equal bases. A flag is filled once and keeps the entry that came first, which has its bit as long as no other
-- comes there: so of two open entries that share a flag none has its bit, and those that had theirs before are like none. Taking bits
-- away keeps that.
use Rattle.std.proofs.Common.{◌≡◌, ℕ, ◌+◌, ◌-◌, ◌*◌, ◌/◌, ◌%◌, ◌<◌, ◌≤◌, Bool, true, false, cond, ltb, ◌⊎◌, List, [], ◌∷◌, length, get_or, take, drop}
use Rattle.std.proofs.Common.{set, replicate, sym, refl, ap, ◌∙◌, subst, inl, inr, ⊎_elim, mul-lt-mul_of_pos_right, arith}
use Rattle.std.proofs.Common.{length-set, get_or-set_other, get_or-set_same, drop-set-lt, le-ltb, lt-ltb}
use mathlib.Core.Option.{Option, none, some}
use native.Mathlib.Decide.{ℕ_discrete, dec_lt}
use lib.ListN.{length-replicate}
use Rattle.paper.specs.Limits.{modulus}
use Rattle.paper.specs.Bytes.{bytes, le, le2}
use Rattle.paper.specs.Equal.{equal}
use Rattle.paper.specs.Record.{kind, bits}
use Rattle.paper.specs.Standing.{kind_number}
use Rattle.paper.specs.Tree.{Tree, integer, symbol, sum, product, power}
use Rattle.paper.specs.Rules.{Term, term_of, add_if, merge_terms, Factor, factor_of, merge_factors}
use Rattle.paper.proofs.BytesLaws.{le_bytes, le2_drop, le2_append}
use Rattle.paper.proofs.EqualView.{Same, s_integer, s_symbol, s_sum, s_product, s_power, same_view}
use Rattle.paper.proofs.MergeFactors.{Merged, by_bases, by_exponents, merge_factors_some}
use Rattle.paper.proofs.Tests.{never}
use Rattle.note.specs.Noted.{bits_by}
use Rattle.note.proofs.ToldLaws.{kind_number_lem, bits_number}
use Rattle.split.specs.Standing.{Told}
use Rattle.part.specs.Like.{split, merge}
use Rattle.stretch.specs.Put.{put}
use Rattle.stretch.proofs.Laws.{length_put, take_put, drop_put_at, get_d_put_before, get_d_put_after}
use Rattle.walk.specs.Listed.{short_key, Entry, Entries, Listed}
use Rattle.walk.specs.Stays.{is_integer}
use Rattle.walk.specs.Spread.{stirred, spread, rest_spread}
use Rattle.walk.specs.Numbers.{word_of, place_of, exponent_flag, base_flag, rest_flag, first_flag, second_flag, held_at, high_of, filled, Meets}
use Rattle.walk.specs.Numbers.{Numbered, Put, BitsOnly, Unmarked, MarkedIf, Visited, PutDown, Passed, Lonely, ToldMore, AfterTelling}
use Rattle.walk.proofs.SpreadLaws.{same_spread, same_integer, same_rest}
use Rattle.walk.proofs.EntryLaws.{moved, entries_still}
use Rattle.walk.proofs.KeyedLaws.{member_key, apart_by_key}
use Rattle.walk.proofs.LoneLaws.{OneKeyed, AfterKeys}

-- ---- integers
pub kind_integer : (u : Tree) → ltb (kind_number u) 1 ≡ is_integer u
unfolding kind_number is_integer
kind_integer (integer μ z) = refl
kind_integer (symbol μ s) = refl
kind_integer (sum μ f) = refl
kind_integer (product μ f) = refl
kind_integer (power μ b ξ e) = refl

pub bits_word : {how : Tree → ℕ} {s : List ℕ} {i : ℕ} (u : Tree) → Told how s i u → is_integer u ≡ true → bits s i ≡ word_of u
unfolding is_integer word_of bits_by
bits_word (integer μ z) h e = bits_number h
bits_word (symbol μ v) h e = never e
bits_word (sum μ f) h e = never e
bits_word (product μ f) h e = never e
bits_word (power μ b ξ x) h e = never e

same_word : {a b : Tree} → Same a b → word_of a ≡ word_of b
unfolding word_of
same_word s_integer = refl
same_word s_symbol = refl
same_word (s_sum h) = refl
same_word (s_product h) = refl
same_word (s_power h) = refl

is_integer_lem : {t : Tree} {μ : ℕ} (z : _) → t ≡ integer μ z → is_integer t ≡ true
unfolding is_integer
is_integer_lem z e = ap is_integer e

-- ---- where one takes up the other they share a flag
module _ (f m : ℕ) where
  same_base : {a b : Tree} → Same a b → base_flag f m a ≡ base_flag f m b
  unfolding base_flag
  same_base {a} {b} r =
      ap (λ x. cond x (4 * m + place_of f (4 * m) (word_of a)) (place_of f (8 * m) (spread a % modulus))) (same_integer r)
      ∙ ap (λ x. cond (is_integer b) (4 * m + place_of f (4 * m) x) (place_of f (8 * m) (spread a % modulus))) (same_word r)
      ∙ ap (λ x. cond (is_integer b) (4 * m + place_of f (4 * m) (word_of b)) (place_of f (8 * m) (x % modulus))) (same_spread r)

  -- of an integer base, and of any other
  pub integer_exponent : (b : Tree) (e : ℕ) → is_integer b ≡ true → exponent_flag f m b e ≡ place_of f (4 * m) e
  unfolding exponent_flag
  integer_exponent b e h = ap (λ x. cond x (place_of f (4 * m) e) (place_of f (8 * m) (spread b % modulus))) h

  pub integer_base : (b : Tree) → is_integer b ≡ true → base_flag f m b ≡ 4 * m + place_of f (4 * m) (word_of b)
  unfolding base_flag
  integer_base b h = ap (λ x. cond x (4 * m + place_of f (4 * m) (word_of b)) (place_of f (8 * m) (spread b % modulus))) h

  pub other_exponent : (b : Tree) (e : ℕ) → is_integer b ≡ false → exponent_flag f m b e ≡ place_of f (8 * m) (spread b % modulus)
  unfolding exponent_flag
  other_exponent b e h = ap (λ x. cond x (place_of f (4 * m) e) (place_of f (8 * m) (spread b % modulus))) h

  pub other_base : (b : Tree) → is_integer b ≡ false → base_flag f m b ≡ place_of f (8 * m) (spread b % modulus)
  unfolding base_flag
  other_base b h = ap (λ x. cond x (4 * m + place_of f (4 * m) (word_of b)) (place_of f (8 * m) (spread b % modulus))) h

  factors_apart : (c x : Factor) → (exponent_flag f m c.base c.exponent ≡ exponent_flag f m x.base x.exponent → ⊥)
      → (base_flag f m c.base ≡ base_flag f m x.base → ⊥) → merge_factors c x ≡ none
  factors_apart c x h g = go (merge_factors c x) refl
    where
      by : (d : Factor) → Merged c x d → ⊥
      by d (by_bases {y = y} {z = z} p q e) =
          h
          (integer_exponent c.base c.exponent (is_integer_lem y p) ∙ ap (place_of f (4 * m)) e
          ∙ sym (integer_exponent x.base x.exponent (is_integer_lem z q)))
      by d (by_exponents e k) = g (same_base (same_view c.base x.base e))

      go : (r : Option Factor) → merge_factors c x ≡ r → r ≡ none
      go none e = refl
      go (some d) e = absurd (by d (merge_factors_some c x d e))

  terms_apart : (c x : Term) → (rest_flag f m c.rest ≡ rest_flag f m x.rest → ⊥) → merge_terms c x ≡ none
  unfolding merge_terms add_if rest_flag
  terms_apart c x h = go (equal c.rest x.rest) refl
    where
      go : (r : Bool) → equal c.rest x.rest ≡ r → add_if r c x ≡ none
      go true e = absurd (h (ap (λ v. place_of f (8 * m) (v % modulus)) (same_rest (same_view c.rest x.rest e))))
      go false e = refl

  pub flags_apart : (b : Bool) (t u : Tree) → (Meets b f m t u → ⊥) → merge b (split b t) (split b u) ≡ none
  flags_apart true t u h = terms_apart (term_of t) (term_of u) (λ e. h (inl e))
  flags_apart false t u h = factors_apart (factor_of t) (factor_of u) (λ e. h (inl e)) (λ e. h (inr e))

-- the flags of a member, by what its place in the table tells
pub term_flags : (f m v a : ℕ) (t : Tree) → v ≡ rest_spread (term_of t).rest % modulus → a ≡ place_of f (8 * m) v
    → (a ≡ first_flag true f m t) × (a ≡ second_flag true f m t)
unfolding rest_flag
term_flags f m v a t h e = let is = e ∙ ap (place_of f (8 * m)) h in (is, is)

pub number_flags : (f m e v x y : ℕ) (t : Tree) → is_integer (factor_of t).base ≡ true → e ≡ (factor_of t).exponent → v ≡ word_of (factor_of t).base
    → x ≡ place_of f (4 * m) e → y ≡ place_of f (4 * m) v → (x ≡ first_flag false f m t) × (4 * m + y ≡ second_flag false f m t)
number_flags f m e v x y t n h g p q = (
  p ∙ ap (place_of f (4 * m)) h ∙ sym (integer_exponent f m (factor_of t).base (factor_of t).exponent n),
  ap (λ z. 4 * m + z) (q ∙ ap (place_of f (4 * m)) g) ∙ sym (integer_base f m (factor_of t).base n),
)

pub other_flags : (f m v a : ℕ) (t : Tree) → is_integer (factor_of t).base ≡ false → v ≡ spread (factor_of t).base % modulus → a ≡ place_of f (8 * m) v
    → (a ≡ first_flag false f m t) × (a ≡ second_flag false f m t)
other_flags f m v a t n h e = (
  e ∙ ap (place_of f (8 * m)) h ∙ sym (other_exponent f m (factor_of t).base (factor_of t).exponent n),
  e ∙ ap (place_of f (8 * m)) h ∙ sym (other_base f m (factor_of t).base n),
)

pub integer_seen : {how : Tree → ℕ} {s : List ℕ} {j : ℕ} (u : Tree) → Told how s j u → (k : ℕ) → k ≡ kind s j → k < 1 → is_integer u ≡ true
integer_seen u h k e l = sym (kind_integer u) ∙ lt-ltb (kind_number u) 1 (omega (arith, e, kind_number_lem h))

pub other_seen : {how : Tree → ℕ} {s : List ℕ} {j : ℕ} (u : Tree) → Told how s j u → (k : ℕ) → k ≡ kind s j → 1 ≤ k → is_integer u ≡ false
other_seen u h k e l = sym (kind_integer u) ∙ le-ltb (kind_number u) 1 (omega (arith, e, kind_number_lem h))

meets_back : (b : Bool) (f m : ℕ) (t u : Tree) → Meets b f m t u → Meets b f m u t
meets_back b f m t u h = ⊎_elim (λ e. inl (sym e)) (λ e. inr (sym e)) h

-- ---- entries with other keys
pub keyed_lonely : (b : Bool) (w : List ℕ) (p n : ℕ) → OneKeyed w n → Lonely b w p n
keyed_lonely b w p n h i j hi hj apart bit t u et eu = (
  apart_by_key b (split b t) u (λ e. h i j hi hj apart bit (et.key ∙ ap short_key (member_key b t) ∙ sym e ∙ sym eu.key)),
  apart_by_key b (split b u) t (λ e. h i j hi hj apart bit (et.key ∙ e ∙ ap short_key (sym (member_key b u)) ∙ sym eu.key)),
)

-- ---- a flag is one of n
pub place_lt : (f n v : ℕ) → 0 < n → place_of f n v < n
unfolding place_of
place_lt f n v h =
    let x = stirred v * f % modulus / 4294967296 in
    let a : x < 4294967296 = omega arith in
    let b : x * n < 4294967296 * n = mul-lt-mul_of_pos_right a h in
    omega (arith, b)

-- ---- an entry at a flag
filled_not : (o : List ℕ) (c x k : ℕ) → 1 ≤ x → filled o c x k ≡ o
unfolding filled
filled_not o c x k h = ap (λ b. cond b (put o c (bytes 2 (k + 1))) o) (le-ltb x 1 h)

filled_put : (o : List ℕ) (c x k : ℕ) → x < 1 → filled o c x k ≡ put o c (bytes 2 (k + 1))
unfolding filled
filled_put o c x k h = ap (λ b. cond b (put o c (bytes 2 (k + 1))) o) (lt-ltb x 1 h)

pub filled_taken : (o : List ℕ) (c x k : ℕ) → 1 ≤ x → o ≡ filled o c x k
filled_taken o c x k h = sym (filled_not o c x k h)

pub filled_free : (o : List ℕ) (c x k : ℕ) → x < 1 → put o c (bytes 2 (k + 1)) ≡ filled o c x k
filled_free o c x k h = sym (filled_put o c x k h)

read_back : (n : ℕ) → n < 65536 → le2 (bytes 2 n) 0 ≡ n
unfolding bytes le2
read_back n h = le_bytes 2 n h

module _ (o : List ℕ) (a g x k : ℕ) (room : a + g * 2 + 2 ≤ length o) where
  abbrev v : List ℕ
  v = bytes 2 (k + 1)

  abbrev o₁ : List ℕ
  o₁ = put o (a + g * 2) v

  two : length v ≡ 2
  unfolding bytes
  two = refl

  put_same : k < 65535 → held_at o₁ a g ≡ k + 1
  put_same h =
      sym (ap (le2 o₁) plus ∙ refl)
      ∙ sym (le2_drop (a + g * 2) o₁ 0)
      ∙ ap (λ (y : List ℕ). le2 y 0) (drop_put_at o (a + g * 2) v (omega arith))
      ∙ le2_append v (drop (a + g * 2 + length v) o) 0 (omega (arith, two))
      ∙ read_back (k + 1) (omega arith)
    where
      plus : a + g * 2 + 0 ≡ a + g * 2
      plus = omega arith

  put_other : (z : ℕ) → (z ≡ g → ⊥) → held_at o₁ a z ≡ held_at o a z
  unfolding le2
  put_other z h = by (dec_lt z g)
    where
      by : Dec (z < g) → held_at o₁ a z ≡ held_at o a z
      by (yes l) =
          let first = get_d_put_before o (a + g * 2) v (a + z * 2) (omega arith) (omega arith) in
          let second = get_d_put_before o (a + g * 2) v (a + z * 2 + 1) (omega arith) (omega arith) in
          rw (first, second) refl
      by (no l) =
          let first = get_d_put_after o (a + g * 2) v (a + z * 2) (omega arith) (omega (arith, two)) in
          let second = get_d_put_after o (a + g * 2) v (a + z * 2 + 1) (omega arith) (omega (arith, two)) in
          rw (first, second) refl

  abbrev filling : List ℕ
  filling = filled o (a + g * 2) x k

  fill_length : length filling ≡ length o
  fill_length = by (dec_lt x 1)
    where
      by : Dec (x < 1) → length filling ≡ length o
      by (yes l) = ap length (filled_put o (a + g * 2) x k l) ∙ length_put o (a + g * 2) v (omega (arith, two))
      by (no l) = ap length (filled_not o (a + g * 2) x k (omega arith))

  fill_front : take a filling ≡ take a o
  fill_front = by (dec_lt x 1)
    where
      by : Dec (x < 1) → take a filling ≡ take a o
      by (yes l) = ap (take a) (filled_put o (a + g * 2) x k l) ∙ take_put o (a + g * 2) v a (omega arith) (omega arith)
      by (no l) = ap (take a) (filled_not o (a + g * 2) x k (omega arith))

  fill_same : k < 65535 → x ≡ 0 → held_at filling a g ≡ k + 1
  fill_same h e = ap (λ (y : List ℕ). held_at y a g) (filled_put o (a + g * 2) x k (omega arith)) ∙ put_same h

  fill_other : (z : ℕ) → (x ≡ 0 → z ≡ g → ⊥) → held_at filling a z ≡ held_at o a z
  fill_other z h = by (dec_lt x 1)
    where
      by : Dec (x < 1) → held_at filling a z ≡ held_at o a z
      by (yes l) = ap (λ (y : List ℕ). held_at y a z) (filled_put o (a + g * 2) x k l) ∙ put_other z (h (omega arith))
      by (no l) = ap (λ (y : List ℕ). held_at y a z) (filled_not o (a + g * 2) x k (omega arith))

-- both flags, one after the other
module _ (b : Bool) (o : List ℕ) (a k m f : ℕ) (t : Tree) (x y : ℕ) (few : k < 65535) (room : a + m * 16 ≤ length o) (x-small : x < 65536) (y-small : y < 65536)
    (first-lt : first_flag b f m t < m * 8) (second_lt : second_flag b f m t < m * 8)
    (is_first : x ≡ held_at o a (first_flag b f m t)) (is-second : y ≡ held_at o a (second_flag b f m t)) where
  abbrev F : ℕ
  F = first_flag b f m t

  abbrev S : ℕ
  S = second_flag b f m t

  abbrev once : List ℕ
  once = filled o (a + F * 2) x k

  abbrev twice : List ℕ
  twice = filled once (a + S * 2) y k

  room₁ : a + F * 2 + 2 ≤ length o
  room₁ = omega arith

  room₂ : a + S * 2 + 2 ≤ length once
  room₂ = omega (arith, fill_length o a F x k room₁)

  keeps_once : (z : ℕ) → 1 ≤ held_at o a z → held_at once a z ≡ held_at o a z
  keeps_once z h = fill_other o a F x k room₁ z (λ e q. omega (arith, is_first, ap (held_at o a) q))

  keeps : (z : ℕ) → 1 ≤ held_at o a z → held_at twice a z ≡ held_at o a z
  keeps z h = fill_other once a S y k room₂ z (λ e q. omega (arith, is-second, ap (held_at o a) q)) ∙ keeps_once z h

  -- a flag that held none holds the entry, whether or not it is both
  new_second : y ≡ 0 → held_at twice a S ≡ k + 1
  new_second e = fill_same once a S y k room₂ few e

  new_first : x ≡ 0 → held_at twice a F ≡ k + 1
  new_first e = by (ℕ_discrete y 0) (ℕ_discrete F S)
    where
      held : held_at once a F ≡ k + 1
      held = fill_same o a F x k room₁ few e

      by : Dec (y ≡ 0) → Dec (F ≡ S) → held_at twice a F ≡ k + 1
      by (yes z) (yes q) = ap (held_at twice a) q ∙ new_second z
      by (yes z) (no q) = fill_other once a S y k room₂ F (λ u r. q r) ∙ held
      by (no z) d = fill_other once a S y k room₂ F (λ u r. z u) ∙ held

  pub both_filled : Put b o twice a k m f t x y
  both_filled =
      record {
        long = fill_length once a S y k room₂ ∙ fill_length o a F x k room₁;
        front = fill_front once a S y k room₂ ∙ fill_front o a F x k room₁;
        first = is_first;
        second = is-second;
        small = (x-small, y-small);
        kept = keeps;
        there = (at_first (ℕ_discrete x 0), at_second (ℕ_discrete y 0));
        new = λ e g. (new_first e, new_second g);
      }
    where
      at_first : Dec (x ≡ 0) → 1 ≤ held_at twice a F
      at_first (yes e) = omega (arith, new_first e)
      at_first (no e) = omega (arith, keeps F (omega (arith, is_first)), is_first)

      at_second : Dec (y ≡ 0) → 1 ≤ held_at twice a S
      at_second (yes e) = omega (arith, new_second e)
      at_second (no e) = omega (arith, keeps S (omega (arith, is-second)), is-second)

-- ---- bits
pub bits_same : (w : List ℕ) (n : ℕ) → BitsOnly w w n
bits_same w n = record { wide = refl; starts = λ i. refl; bits = λ i. refl; behind = λ m h. refl }

pub bits_both : {w w' w'' : List ℕ} {n : ℕ} → BitsOnly w w' n → BitsOnly w' w'' n → BitsOnly w w'' n
bits_both g h =
    record {
      wide = h.wide ∙ g.wide;
      starts = λ i. h.starts i ∙ g.starts i;
      bits = λ i. h.bits i ∙ g.bits i;
      behind = λ m l. h.behind m l ∙ g.behind m l;
    }

bits_more : {w w' : List ℕ} {k n : ℕ} → k ≤ n → BitsOnly w w' k → BitsOnly w w' n
bits_more l h = record { wide = h.wide; starts = h.starts; bits = h.bits; behind = λ m g. h.behind m (omega arith) }

module _ (w : List ℕ) (n k v : ℕ) (less : k < n) (room : k * 4 + 4 ≤ length w) (low : v % 128 ≡ high_of w k % 128) where
  abbrev z : ℕ
  z = k * 4 + 3

  abbrev w₁ : List ℕ
  w₁ = set w z v

  byte_other : (x : ℕ) → (x ≡ z → ⊥) → get_or w₁ x 0 ≡ get_or w x 0
  byte_other x h = get_or-set_other w z x v 0 h

  set_here : high_of w₁ k ≡ v
  set_here = get_or-set_same w z v 0 (omega arith)

  set_other : (i : ℕ) → (i ≡ k → ⊥) → high_of w₁ i ≡ high_of w i
  set_other i h = byte_other (i * 4 + 3) (λ q. h (omega arith))

  high_same : (i : ℕ) → high_of w₁ i % 128 ≡ high_of w i % 128
  high_same i = by (ℕ_discrete i k)
    where
      by : Dec (i ≡ k) → high_of w₁ i % 128 ≡ high_of w i % 128
      by (yes e) = rw e (ap (λ x. x % 128) set_here ∙ low)
      by (no e) = ap (λ x. x % 128) (set_other i e)

  set_bits : BitsOnly w w₁ n
  unfolding le2 le
  set_bits =
      record {
        wide = length-set w z v;
        starts = λ i. rw (byte_other (i * 4) (λ q. omega arith), byte_other (i * 4 + 1) (λ q. omega arith)) refl;
        bits = λ i.
            let low = byte_other (i * 4 + 2) (λ q. omega arith) in
            let three : i * 4 + 2 + 1 ≡ i * 4 + 3 = omega arith in
            rw (three, low) (omega (arith, high_same i));
        behind = λ m l. drop-set-lt m w z v (omega arith);
      }

-- ---- a bit that is taken
module _ (w : List ℕ) (j k : ℕ) (less : j < k) (fits : j * 4 + 4 ≤ length w) where
  abbrev u : ℕ
  u = high_of w j % 128

  abbrev cleared : List ℕ
  cleared = set w (j * 4 + 3) u

  low : u % 128 ≡ high_of w j % 128
  low = omega arith

  cleared_here : high_of cleared j < 128
  cleared_here = omega (arith, set_here w k j u less fits low)

  cleared_fewer : (i : ℕ) → 128 ≤ high_of cleared i → Dec (i ≡ j) → 128 ≤ high_of w i
  cleared_fewer i b (yes q) = absurd (omega (arith, b, ap (high_of cleared) q, cleared_here))
  cleared_fewer i b (no q) = omega (arith, b, set_other w k j u less fits low i q)

  unmarked_at : (x : ℕ) → x ≡ j + 1 → Unmarked w cleared x k
  unmarked_at x e =
      record {
        only = set_bits w k j u less fits low;
        later = λ i l. set_other w k j u less fits low i (λ q. omega arith);
        fewer = λ i b. cleared_fewer i b (ℕ_discrete i j);
        hit = λ i l q.
            let same : i ≡ j = omega arith in
            subst (λ n. high_of cleared n < 128) (sym same) cleared_here;
      }

pub unmarked_one : (w w' : List ℕ) (x k : ℕ) → 1 ≤ x → x ≤ k → k * 4 ≤ length w → w' ≡ set w (x * 4 - 1) (get_or w (x * 4 - 1) 0 % 128) → Unmarked w w' x k
unmarked_one w w' x k one most room e =
    let place : x * 4 - 1 ≡ (x - 1) * 4 + 3 = omega arith in
    subst (λ (y : List ℕ). Unmarked w y x k) (sym (e ∙ ap (λ y. set w y (get_or w y 0 % 128)) place))
    (unmarked_at w (x - 1) k (omega arith) (omega arith) x (omega arith))

-- ---- a bit that is given
pub record MarkedOne (w w' : List ℕ) (k n : ℕ) (marks : Bool) : Type 0 where
  pub only : BitsOnly w w' n
  pub others : (i : ℕ) → (i ≡ k → ⊥) → high_of w' i ≡ high_of w i
  pub fewer : marks ≡ false → (i : ℕ) → 128 ≤ high_of w' i → 128 ≤ high_of w i

pub marked_one : (w w' : List ℕ) (k n : ℕ) (marks : Bool) → k < n → k * 4 + 4 ≤ length w → MarkedIf marks w w' k → MarkedOne w w' k n marks
marked_one w w' k n true less room e =
    let v = high_of w k % 128 + 128 in
    let low : v % 128 ≡ high_of w k % 128 = omega arith in
    subst (λ (y : List ℕ). MarkedOne w y k n true) (sym e)
    (record { only = set_bits w n k v less room low; others = λ i h. set_other w n k v less room low i h; fewer = λ q. never (sym q) })
marked_one w w' k n false less room e =
    subst (λ (y : List ℕ). MarkedOne w y k n false) (sym e) (record { only = bits_same w n; others = λ i h. refl; fewer = λ q i b. b })

-- ---- entries stay those of the members
entry_back : {b : Bool} {w w' : List ℕ} {p n i : ℕ} {t : Tree} → BitsOnly w w' n → n * 4 ≤ p * 16 → Entry b w' p i t → Entry b w p i t
entry_back {b} {w} {w'} {p} {n} {i} {t} s low e = moved w' w p (sym (s.behind (p * 16) low)) b i i t (sym (s.starts i)) (sym (s.bits i)) e

pub entry_forth : {b : Bool} {w w' : List ℕ} {p n i : ℕ} {t : Tree} → BitsOnly w w' n → n * 4 ≤ p * 16 → Entry b w p i t → Entry b w' p i t
entry_forth {b} {w} {w'} {p} {n} {i} {t} s low e = moved w w' p (s.behind (p * 16) low) b i i t (s.starts i) (s.bits i) e

pub numbered_still : {b : Bool} {w w' : List ℕ} {p n : ℕ} → BitsOnly w w' n → Numbered b w p n → Numbered b w' p n
numbered_still s h =
    record {
      some = h.some;
      few = h.few;
      low = h.low;
      within = omega (arith, h.within, s.wide);
      there = λ k l. let t = h.there k l in (t.0, entry_forth s h.low t.1);
    }

-- ---- a visit
module _ {b : Bool} {o o' w w₁ w₂ : List ℕ} {a k n m f : ℕ} {t : Tree} {x y : ℕ} (less : k < n) (h : Put b o o' a k m f t x y)
    (one : Unmarked w w₁ x k) (two : Unmarked w₁ w₂ y k) where
  later_two : (i : ℕ) → k ≤ i → high_of w₂ i ≡ high_of w i
  later_two i l = two.later i l ∙ one.later i l

  fewer_two : (i : ℕ) → 128 ≤ high_of w₂ i → 128 ≤ high_of w i
  fewer_two i l = one.fewer i (two.fewer i l)

  only_two : BitsOnly w w₂ n
  only_two = bits_more (omega arith) (bits_both one.only two.only)

  hit_two : (i : ℕ) → i < k → (held_at o a (first_flag b f m t) ≡ i + 1) ⊎ (held_at o a (second_flag b f m t) ≡ i + 1) → 128 ≤ high_of w₂ i → ⊥
  hit_two i l e q =
      ⊎_elim
      (λ (s : held_at o a (first_flag b f m t) ≡ i + 1). omega (arith, one.hit i l (h.first ∙ s), two.fewer i q))
      (λ (s : held_at o a (second_flag b f m t) ≡ i + 1). omega (arith, two.hit i l (h.second ∙ s), q))
      e

  -- a flag held an entry
  pub visited_shared : (marks : Bool) → high_of w k < 128 → 0 < x + y → Visited b o o' w w₂ a k n m f marks t
  visited_shared marks free held =
      record {
        long = h.long;
        front = h.front;
        only = only_two;
        later = λ i l. later_two i (omega arith);
        fewer = λ i l q. fewer_two i q;
        kept = h.kept;
        there = λ l. h.there;
        hit = λ l i g e. by i g e (dec_lt (high_of w₂ i) 128);
        new = λ l q. absurd (omega (arith, later_two k (omega arith)));
      }
    where
      by : (i : ℕ) → i < k → (held_at o a (first_flag b f m t) ≡ i + 1) ⊎ (held_at o a (second_flag b f m t) ≡ i + 1) → Dec (high_of w₂ i < 128) →
          high_of w₂ i < 128
      by i g e (yes q) = q
      by i g e (no q) = absurd (hit_two i g e (omega arith))

  -- none did
  pub visited_new : {w₃ : List ℕ} {marks : Bool} → x + y ≡ 0 → MarkedOne w₂ w₃ k n marks → Visited b o o' w w₃ a k n m f marks t
  visited_new {w₃} {marks} free v =
      let zero₁ : x ≡ 0 = omega arith in
      let zero₂ : y ≡ 0 = omega arith in
      record {
        long = h.long;
        front = h.front;
        only = bits_both only_two v.only;
        later = λ i l. v.others i (λ q. omega arith) ∙ later_two i (omega arith);
        fewer = λ i l q. fewer_two i (⊎_elim (λ (z : i ≡ k → ⊥). omega (arith, q, v.others i z)) (λ (z : marks ≡ false). v.fewer z i q) l);
        kept = h.kept;
        there = λ l. h.there;
        hit = λ l i g e.
            absurd
            (⊎_elim (λ (s : held_at o a (first_flag b f m t) ≡ i + 1). omega (arith, h.first))
            (λ (s : held_at o a (second_flag b f m t) ≡ i + 1). omega (arith, h.second)) e);
        new = λ l q. ((sym h.first ∙ zero₁, sym h.second ∙ zero₂), h.new zero₁ zero₂);
      }

-- ---- entries that are visited one after the other
pub passed_none : (b : Bool) (o w : List ℕ) (p a n m f : ℕ) (marks : Bool) → Passed b o o w w p a n m f marks 0
passed_none b o w p a n m f marks =
    record {
      long = refl;
      front = refl;
      only = bits_same w n;
      later = λ i l. refl;
      given = λ e. record {
        seen = λ i t l. absurd (omega arith);
        holds = λ i t l. absurd (omega arith);
        alone = λ i j t u l. absurd (omega arith);
      };
      fewer = λ e i q. q;
    }

module _ {b : Bool} {o o₁ o₂ w w₁ w₂ : List ℕ} {p a n m f k : ℕ} {marks : Bool} (v : Passed b o o₁ w w₁ p a n m f marks k)
    (nb : Numbered b w p n) (less : k < n)
    (one : (t : Tree) → Entry b w₁ p k t → Visited b o₁ o₂ w₁ w₂ a k n m f marks t) where
  seen_by : (t : Tree) → Entry b w p k t → Visited b o₁ o₂ w₁ w₂ a k n m f marks t
  seen_by t e = one t (entry_forth v.only nb.low e)

  visit : Visited b o₁ o₂ w₁ w₂ a k n m f marks (nb.there k less).0
  visit = seen_by _ (nb.there k less).1

  own : high_of w₁ k ≡ high_of w k
  own = v.later k (omega arith)

  fewer_by : (i : ℕ) → (i ≡ k → ⊥) → 128 ≤ high_of w₂ i → 128 ≤ high_of w₁ i
  fewer_by i h q = visit.fewer i (inl h) q

  module _ (g : PutDown b o₁ w w₁ p a m f k) where
    seen_on : (i : ℕ) (t : Tree) → i < k + 1 → Entry b w p i t → high_of w i < 128
        → (1 ≤ held_at o₂ a (first_flag b f m t)) × (1 ≤ held_at o₂ a (second_flag b f m t))
    seen_on i t l e q = by (ℕ_discrete i k)
      where
        by : Dec (i ≡ k) → (1 ≤ held_at o₂ a (first_flag b f m t)) × (1 ≤ held_at o₂ a (second_flag b f m t))
        by (yes z) = (seen_by t (subst (λ j. Entry b w p j t) z e)).there (omega (arith, own, ap (high_of w) z))
        by (no z) =
            let s = g.seen i t (omega arith) e q in
            (omega (arith, s.0, visit.kept (first_flag b f m t) s.0), omega (arith, s.1, visit.kept (second_flag b f m t) s.1))

    holds_on : (i : ℕ) (t : Tree) → i < k + 1 → Entry b w p i t → high_of w i < 128 → 128 ≤ high_of w₂ i
        → (held_at o₂ a (first_flag b f m t) ≡ i + 1) × (held_at o₂ a (second_flag b f m t) ≡ i + 1)
    holds_on i t l e q bit = by (ℕ_discrete i k)
      where
        by : Dec (i ≡ k) → (held_at o₂ a (first_flag b f m t) ≡ i + 1) × (held_at o₂ a (second_flag b f m t) ≡ i + 1)
        by (yes z) =
            let s = ((seen_by t (subst (λ j. Entry b w p j t) z e)).new (omega (arith, own, ap (high_of w) z)) (omega (arith, bit, ap (high_of w₂) z))).1 in
            (s.0 ∙ omega arith, s.1 ∙ omega arith)
        by (no z) =
            let s = g.holds i t (omega arith) e q (fewer_by i z bit) in
            (visit.kept (first_flag b f m t) (omega (arith, s.0)) ∙ s.0, visit.kept (second_flag b f m t) (omega (arith, s.1)) ∙ s.1)

    -- an earlier entry and this one: it loses its bit
    earlier : (i : ℕ) (t u : Tree) → i < k → Entry b w p i t → Entry b w p k u → high_of w i < 128 → high_of w k < 128 → Meets b f m t u → 128 ≤
        high_of w₂ i → ⊥
    earlier i t u l e d q r meets bit =
        let s = g.holds i t l e q (fewer_by i (λ z. omega arith) bit) in
        let hit = (seen_by u d).hit (omega (arith, own)) i l
        (⊎_elim (λ (z : first_flag b f m t ≡ first_flag b f m u). inl (ap (held_at o₁ a) (sym z) ∙ s.0))
        (λ (z : second_flag b f m t ≡ second_flag b f m u). inr (ap (held_at o₁ a) (sym z) ∙ s.1)) meets) in
        omega arith

    -- this one and an earlier entry: it gets none
    now_none : (j : ℕ) (t u : Tree) → j < k → Entry b w p k t → Entry b w p j u → high_of w k < 128 → high_of w j < 128 → Meets b f m t u → 128 ≤
        high_of w₂ k → ⊥
    now_none j t u l e d q r meets bit =
        let s = g.seen j u l d r in
        let free = ((seen_by t e).new (omega (arith, own)) bit).0 in
        ⊎_elim
        (λ (z : first_flag b f m t ≡ first_flag b f m u). omega (arith, s.0, free.0, ap (held_at o₁ a) z))
        (λ (z : second_flag b f m t ≡ second_flag b f m u). omega (arith, s.1, free.1, ap (held_at o₁ a) z))
        meets

    alone_on : (i j : ℕ) (t u : Tree) → i < k + 1 → j < k + 1 → (i ≡ j → ⊥) → Entry b w p i t → Entry b w p j u → high_of w i < 128 → high_of w j < 128
        → Meets b f m t u → 128 ≤ high_of w₂ i → ⊥
    alone_on i j t u hi hj apart e d q r meets bit = by (ℕ_discrete i k) (ℕ_discrete j k)
      where
        by : Dec (i ≡ k) → Dec (j ≡ k) → ⊥
        by (yes x) (yes y) = apart (x ∙ sym y)
        by (yes x) (no y) =
            now_none j t u (omega arith) (subst (λ z. Entry b w p z t) x e) d (omega (arith, q, ap (high_of w) x)) r meets
            (omega (arith, bit, ap (high_of w₂) x))
        by (no x) (yes y) =
            earlier i t u (omega arith) e (subst (λ z. Entry b w p z u) y d) q (omega (arith, r, ap (high_of w) y)) meets bit
        by (no x) (no y) = g.alone i j t u (omega arith) (omega arith) apart e d q r meets (fewer_by i x bit)

    put_more : PutDown b o₂ w w₂ p a m f (k + 1)
    put_more = record { seen = seen_on; holds = holds_on; alone = alone_on }

  pub passed_more : (step : ℕ) → 1 ≤ step → (marks ≡ true → step ≡ 1) → Passed b o o₂ w w₂ p a n m f marks (k + step)
  passed_more step l each =
      record {
        long = visit.long ∙ v.long;
        front = visit.front ∙ v.front;
        only = bits_both v.only visit.only;
        later = λ i h. visit.later i (omega arith) ∙ v.later i (omega arith);
        given = λ e. subst (λ z. PutDown b o₂ w w₂ p a m f (k + z)) (sym (each e)) (put_more (v.given e));
        fewer = λ e i q. v.fewer e i (visit.fewer i (inr e) q);
      }

-- ---- what is told then
module _ {b : Bool} {o o' w w' : List ℕ} {p a n m f k : ℕ} {marks : Bool} (nb : Numbered b w p n)
    (v : Passed b o o' w w' p a n m f marks k) (all : n ≤ k) (lonely : Lonely b w p n) where
  abbrev Apart : Tree → Tree → Type 0
  Apart t u = (merge b (split b t) (split b u) ≡ none) × (merge b (split b u) (split b t) ≡ none)

  open_apart : PutDown b o' w w' p a m f k → (i j : ℕ) (t u : Tree) → i < n → j < n → (i ≡ j → ⊥) → Entry b w p i t → Entry b w p j u → 128 ≤ high_of w' i
      → Dec (high_of w i < 128) → Dec (high_of w j < 128) → Apart t u
  open_apart g i j t u hi hj apart e d bit (no x) y = lonely i j hi hj apart (omega arith) t u e d
  open_apart g i j t u hi hj apart e d bit (yes x) (no y) =
      let s = lonely j i hj hi (λ z. apart (sym z)) (omega arith) u t d e in
      (s.1, s.0)
  open_apart g i j t u hi hj apart e d bit (yes x) (yes y) =
      let never : Meets b f m t u → ⊥ = λ h. g.alone i j t u (omega arith) (omega arith) apart e d x y h bit in
      (flags_apart f m b t u never, flags_apart f m b u t (λ h. never (meets_back b f m u t h)))

  pub passed_lonely : Lonely b w' p n
  passed_lonely i j hi hj apart bit t u et eu =
      by marks refl (entry_back v.only nb.low et) (entry_back v.only nb.low eu)
    where
      by : (x : Bool) → marks ≡ x → Entry b w p i t → Entry b w p j u → Apart t u
      by true q e d = open_apart (v.given q) i j t u hi hj apart e d bit (dec_lt (high_of w i) 128) (dec_lt (high_of w j) 128)
      by false q e d = lonely i j hi hj apart (v.fewer q i bit) t u e d

-- the flags behind record d are cleared first
pub cleared_length : (o z : List ℕ) (a m : ℕ) → z ≡ put o a (replicate (m * 16) 0) → a + m * 16 ≤ length o → length z ≡ length o
cleared_length o z a m e far =
    let x : List ℕ = replicate (m * 16) 0 in
    let zeros : length x ≡ m * 16 = length-replicate (m * 16) 0 in
    ap length e ∙ length_put o a x (omega (arith, zeros))

pub passed_told : {b : Bool} {o z o' w w' : List ℕ} {d p n m f k : ℕ} {marks : Bool} → Numbered b w p n → m ≤ n → (d + 1) * 16 + n * 16 ≤ length o
    → z ≡ put o ((d + 1) * 16) (replicate (m * 16) 0) → Passed b z o' w w' p ((d + 1) * 16) n m f marks k → n ≤ k → ToldMore b o o' w w' d p n
passed_told {b} {o} {z} {o'} {w} {w'} {d} {p} {n} {m} {f} {k} {marks} nb most far e v all =
    let a = (d + 1) * 16 in
    let x : List ℕ = replicate (m * 16) 0 in
    record {
      long = v.long ∙ cleared_length o z a m e (omega arith);
      front = v.front ∙ ap (take a) e ∙ take_put o a x a (omega arith) (omega arith);
      only = v.only;
      lonely = λ h. passed_lonely nb v all h;
    }

-- ---- what is told, one thing after the other
pub told_both : {b : Bool} {o o' o'' w w' w'' : List ℕ} {d p n : ℕ} → ToldMore b o o' w w' d p n → ToldMore b o' o'' w' w'' d p n → ToldMore b o o'' w w'' d p n
told_both g h =
    record { long = h.long ∙ g.long; front = h.front ∙ g.front; only = bits_both g.only h.only; lonely = λ q. h.lonely (g.lonely q) }

-- the bits of the keys
pub keys_only : {o o' w w' : List ℕ} {d n : ℕ} {told : Bool} → AfterKeys o o' w w' d n told → BitsOnly w w' n
keys_only k = record { wide = k.wide; starts = k.starts; bits = k.bits; behind = k.behind }

pub told_after : {b : Bool} {o o' o'' w w' w'' : List ℕ} {d p n : ℕ} → AfterKeys o o' w w' d n true → ToldMore b o' o'' w' w'' d p n
    → AfterTelling b o o'' w w'' d p n true
told_after {b} {p = p} {n = n} k h =
    record {
      long = h.long ∙ k.long;
      front = h.front ∙ k.front;
      only = bits_both (keys_only k) h.only;
      lonely = λ q. h.lonely (keyed_lonely b _ p n (k.lonely refl));
    }

-- ---- the entries of listed members
entry_at : (b : Bool) (w : List ℕ) (p x k : ℕ) (l : List Tree) → Entries b w p x l → k < length l → (t : Tree) × Entry b w p (x + k) t
entry_at b w p x k [] e h = absurd (omega arith)
entry_at b w p x k (t ∷ l) e h = by (ℕ_discrete k 0) (λ g. entry_at b w p (x + 1) (k - 1) l e.1 g)
  where
    by : Dec (k ≡ 0) → (k - 1 < length l → (u : Tree) × Entry b w p (x + 1 + (k - 1)) u) → (u : Tree) × Entry b w p (x + k) u
    by (yes q) r = (t, subst (λ m. Entry b w p m t) (omega arith) e.0)
    by (no q) r =
        let g = r (omega arith) in
        (g.0, subst (λ m. Entry b w p m g.0) (omega arith) g.1)

pub listed_numbered : (b : Bool) (w : List ℕ) (p n : ℕ) (l : List Tree) → Listed b w p n l → 0 < n → n < 65536 → Numbered b w p n
listed_numbered b w p n l h one most =
    record {
      some = one;
      few = most;
      low = h.low;
      within = h.within;
      there = λ k less. let r = entry_at b w p 0 k l h.entries (omega (arith, h.many)) in (r.0, subst (λ m. Entry b w p m r.0) (omega arith) r.1);
    }

pub listed_still : {b : Bool} {w w' : List ℕ} {p n : ℕ} {l : List Tree} → BitsOnly w w' n → Listed b w p n l → Listed b w' p n l
listed_still {b} {w} {w'} {p} {n} {l} s h =
    record {
      entries = entries_still w w' p (s.behind (p * 16) h.low) b 0 l (λ j g u. (s.starts j, s.bits j)) h.entries;
      many = h.many;
      low = h.low;
      within = omega (arith, h.within, s.wide);
    }

-- Where definitions begin, whether their lengths fit, which are refused, and which symbol has which: one law for each step of a loop.
use Prim.Native.Nat.{ℕ, zero, suc, ◌+◌, ◌-◌, ◌*◌, ◌≤◌, ◌<◌}
use mathlib.Core.Path.{◌≡◌, refl, sym, ap, ◌∙◌}
use mathlib.Core.Bool.{Bool, true, false, cond, ◌||◌, not}
use mathlib.Core.List.{List}
use native.Mathlib.Nat.{zero-add, add-zero, suc-add}
use native.Mathlib.Omega.{arith}
use lib.ListN.{length, get_or, take, drop, set, replicate, drop_of_length-le}
use Rattle.std.specs.List.{list_any}
use Rattle.std.specs.Prelude.{Result, Ok, Err}
use Rattle.std.specs.Result.{is_err}
use Rattle.table.specs.declared.refusals.Refusal.{Refusal}
use Rattle.table.specs.Refusals.{stands_for}
use Rattle.table.proofs.RefusalLaws.{not_accepted}
use lib.Seq.{drop-cons, get_or-set_same, get_or-set_other}
use lib.Dec.{eqb, ltb}
use borrow.Author.Tests.{eqb-true, eqb-false, eq-eqb, ne_eqb, lt-ltb}
use Rattle.paper.specs.Verdict.{is_accepted, verdict}
use Rattle.paper.proofs.SkipLaws.{left}
use Rattle.paper.proofs.Tests.{true_not_false, or_left, or_right}
use Rattle.paper_shared.specs.Answers.{length_at, lengths_from, beginning, table_at, misses, any_refused, is_among, twice}
use Rattle.replace.specs.Place.{place_from}

none_left : (n i : ℕ) → n ≤ i → n - i ≡ 0
none_left n i h = omega arith

-- ---- lengths
lengths_both : (lengths : List ℕ) (i a b : ℕ) → lengths_from lengths i (a + b) ≡ lengths_from lengths i a + lengths_from lengths (i + a) b
unfolding lengths_from
lengths_both lengths i zero b = simp (zero-add, add-zero)
lengths_both lengths i (suc a) b = rw (suc-add a b) (step (lengths_both lengths (i + 1) a b))
  where
    step : lengths_from lengths (i + 1) (a + b) ≡ lengths_from lengths (i + 1) a + lengths_from lengths (i + 1 + a) b
        → length_at lengths i + lengths_from lengths (i + 1) (a + b) ≡ length_at lengths i + lengths_from lengths (i + 1) a + lengths_from lengths (i + suc a) b
    step e = let q : i + suc a ≡ i + 1 + a = omega arith in rw q (omega arith)

lengths_one : (lengths : List ℕ) (i : ℕ) → lengths_from lengths i 1 ≡ length_at lengths i
unfolding lengths_from
lengths_one lengths i = add-zero (length_at lengths i)

pub begins_none : (lengths : List ℕ) → beginning lengths 0 ≡ 0
unfolding beginning lengths_from
begins_none lengths = refl

pub begins_next : (lengths : List ℕ) (i : ℕ) → beginning lengths (i + 1) ≡ beginning lengths i + length_at lengths i
unfolding beginning
begins_next lengths i =
    lengths_both lengths 0 i 1
    ∙ ap (λ (n : ℕ). lengths_from lengths 0 i + n) (ap (λ (k : ℕ). lengths_from lengths k 1) (zero-add i) ∙ lengths_one lengths i)

pub begins_up : (lengths : List ℕ) (i n : ℕ) → i ≤ n → beginning lengths i ≤ beginning lengths n
unfolding beginning
begins_up lengths i n h =
    let q : n ≡ i + (n - i) = omega arith in
    let e = lengths_both lengths 0 i (n - i) in
    let p : lengths_from lengths 0 n ≡ lengths_from lengths 0 (i + (n - i)) = ap (λ (k : ℕ). lengths_from lengths 0 k) q in
    omega arith

-- ---- 8
module _ (symbols lengths definitions : List ℕ) where
  pub lists_differ : ¬ (length lengths ≡ 8 * length symbols) → true ≡ misses symbols lengths definitions
  unfolding misses
  lists_differ n =
      let eight = 8 * length symbols in
      let end = beginning lengths (length symbols) in
      sym (or_left (not (eqb (length lengths) eight)) (not (eqb end (length definitions))) (rw (ne_eqb (length lengths) eight n)))

  pub lengths_over : (i : ℕ) → i < length symbols → length definitions < beginning lengths i + length_at lengths i → true ≡ misses symbols lengths definitions
  unfolding misses
  lengths_over i l h =
      let a = begins_next lengths i in
      let b = begins_up lengths (i + 1) (length symbols) (omega arith) in
      let n : ¬ (beginning lengths (length symbols) ≡ length definitions) = (λ e. absurd (omega (arith, a, b, h, e))) in
      let end = beginning lengths (length symbols) in
      sym (or_right (not (eqb (length lengths) (8 * length symbols))) (not (eqb end (length definitions))) (rw (ne_eqb end (length definitions) n)))

  pub lengths_end : (rest : ℕ) → length lengths ≡ 8 * length symbols → rest + beginning lengths (length symbols) ≡ length definitions
      → ltb 0 rest ≡ misses symbols lengths definitions
  unfolding misses
  lengths_end zero e h =
      rw (eq-eqb (length lengths) (8 * length symbols) e, eq-eqb (beginning lengths (length symbols)) (length definitions) (omega arith))
  lengths_end (suc k) e h =
      rw (
        eq-eqb (length lengths) (8 * length symbols) e,
        ne_eqb (beginning lengths (length symbols)) (length definitions) (λ q. absurd (omega (arith, h, q))),
      ) (lt-ltb 0 (suc k) (omega arith))

  -- where they fit
  pub fit : misses symbols lengths definitions ≡ false → (length lengths ≡ 8 * length symbols) × (beginning lengths (length symbols) ≡ length definitions)
  unfolding misses
  fit e = go (eqb (length lengths) (8 * length symbols)) refl (eqb (beginning lengths (length symbols)) (length definitions)) refl e
    where
      go : (a : Bool) → eqb (length lengths) (8 * length symbols) ≡ a → (b : Bool) → eqb (beginning lengths (length symbols)) (length definitions) ≡ b
          → (not a || not b) ≡ false → (length lengths ≡ 8 * length symbols) × (beginning lengths (length symbols) ≡ length definitions)
      go true a true b e = (eqb-true _ _ a, eqb-true _ _ b)
      go true a false b e = absurd (true_not_false refl e)
      go false a true b e = absurd (true_not_false refl e)
      go false a false b e = absurd (true_not_false refl e)

-- ---- 15
module _ (lim : ℕ) (lengths definitions : List ℕ) (n i : ℕ) where
  pub any_step : i < n → any_refused lim lengths definitions i (n - i)
      ≡ (not (is_accepted (verdict lim (table_at lengths definitions i))) || any_refused lim lengths definitions (i + 1) (n - (i + 1)))
  unfolding any_refused
  any_step h = rw (left n i h) refl

  pub any_done : n ≤ i → any_refused lim lengths definitions i (n - i) ≡ false
  unfolding any_refused
  any_done h = rw (none_left n i h) refl

  -- the checker's answer on the bytes of definition i
  module _ (a v : ℕ) (f : Result (Unit {0}) Refusal) (begins : a ≡ beginning lengths i) (long : v ≡ length_at lengths i)
      (told : stands_for f ≡ verdict lim (take (a + v - a) (drop a definitions))) where
    table_told : stands_for f ≡ verdict lim (table_at lengths definitions i)
    unfolding table_at
    table_told = let e : a + v - a ≡ v = omega arith in told ∙ rw (e, begins, long)

    pub is_refused : is_err f ≡ true
        → (not (is_accepted (verdict lim (table_at lengths definitions i))) || any_refused lim lengths definitions (i + 1) (n - (i + 1))) ≡ true
    is_refused e = rw (← table_told) (go f e)
      where
        go : (f : Result (Unit {0}) Refusal) → is_err f ≡ true
            → (not (is_accepted (stands_for f)) || any_refused lim lengths definitions (i + 1) (n - (i + 1))) ≡ true
        go (Ok x) e = cc
        go (Err r) e = rw (not_accepted r)

    pub is_fine : is_err f ≡ false → (not (is_accepted (verdict lim (table_at lengths definitions i)))
        || any_refused lim lengths definitions (i + 1) (n - (i + 1))) ≡ any_refused lim lengths definitions (i + 1) (n - (i + 1))
    unfolding is_accepted
    is_fine e = rw (← table_told) (go f e)
      where
        go : (f : Result (Unit {0}) Refusal) → is_err f ≡ false
            → (not (is_accepted (stands_for f)) || any_refused lim lengths definitions (i + 1) (n - (i + 1)))
            ≡ any_refused lim lengths definitions (i + 1) (n - (i + 1))
        go (Ok x) e = refl
        go (Err r) e = cc

-- ---- 16
module _ (symbols : List ℕ) (n i : ℕ) where
  pub among_step : (x : ℕ) → i < n → is_among x symbols i (n - i) ≡ (eqb (get_or symbols i 0) x || is_among x symbols (i + 1) (n - (i + 1)))
  unfolding is_among
  among_step x h = rw (left n i h) refl

  pub among_done : (x : ℕ) → n ≤ i → is_among x symbols i (n - i) ≡ false
  unfolding is_among
  among_done x h = rw (none_left n i h) refl

  pub twice_step : i < n → twice symbols i (n - i) ≡ (is_among (get_or symbols i 0) symbols (i + 1) (n - (i + 1)) || twice symbols (i + 1) (n - (i + 1)))
  unfolding twice
  twice_step h = rw (left n i h) refl

  pub twice_done : n ≤ i → twice symbols i (n - i) ≡ false
  unfolding twice
  twice_done h = rw (none_left n i h) refl

  pub place_step : (x : ℕ) → i < n → place_from symbols x i (n - i) ≡ cond (eqb (get_or symbols i 0) x) (i + 1) (place_from symbols x (i + 1) (n - (i + 1)))
  unfolding place_from
  place_step x h = rw (left n i h) refl

  pub place_done : (x : ℕ) → n ≤ i → place_from symbols x i (n - i) ≡ 0
  unfolding place_from
  place_done x h = rw (none_left n i h) refl

-- x is among the symbols from i on
pub among_left : (x : ℕ) (symbols : List ℕ) (i n : ℕ) → i + n ≡ length symbols → list_any (λ (y : ℕ). eqb y x) (drop i symbols) ≡ is_among x symbols i n
unfolding is_among
among_left x symbols i zero e = rw (drop_of_length-le symbols {i = i} (omega arith)) refl
among_left x symbols i (suc n) e =
    let s : suc i ≡ i + 1 = omega arith in
    let later = ap (λ (k : ℕ). list_any (λ (y : ℕ). eqb y x) (drop k symbols)) s ∙ among_left x symbols (i + 1) n (omega arith) in
    rw (drop-cons symbols i 0 (omega arith)) (ap (λ (b : Bool). eqb (get_or symbols i 0) x || b) later)

-- ---- arrays
pub zeros : (n x : ℕ) → get_or {A = ℕ} (replicate n 0) x 0 ≡ 0
zeros zero x = refl
zeros (suc n) zero = refl
zeros (suc n) (suc x) = zeros n x

pub either_way : {P : Type 0} (m n : ℕ) → (m ≡ n → P) → (¬ (m ≡ n) → P) → P
either_way {P} m n f g = go (eqb m n) refl
  where
    go : (b : Bool) → eqb m n ≡ b → P
    go true e = f (eqb-true m n e)
    go false e = g (eqb-false m n e)

pub from_none : (lengths : List ℕ) (j : ℕ) → j ≤ 0 → 0 ≡ beginning lengths j
from_none lengths j l = let e : j ≡ 0 = omega arith in rw e (sym (begins_none lengths))

pub from_turn : (from lengths : List ℕ) (i a v : ℕ) → length from ≡ 17 → i < 16 → a ≡ beginning lengths i → v ≡ length_at lengths i
    → ((j : ℕ) → j ≤ i → get_or from j 0 ≡ beginning lengths j) → (j : ℕ) → j ≤ i + 1 → get_or (set from (i + 1) (a + v)) j 0 ≡ beginning lengths j
from_turn from lengths i a v l m p q h j k =
    either_way j (i + 1)
    (λ e. rw e (get_or-set_same from (i + 1) (a + v) 0 (omega arith) ∙ let n = begins_next lengths i in omega arith))
    (λ e. get_or-set_other from (i + 1) j (a + v) 0 e ∙ h j (omega (arith, e)))

pub which_turn : (which symbols : List ℕ) (i y : ℕ) → length which ≡ 256 → i < length symbols → y ≡ get_or symbols i 0 → y < 256
    → ((x : ℕ) → x < 256 → get_or which x 0 ≡ place_from symbols x (i + 1) (length symbols - (i + 1)))
    → (x : ℕ) → x < 256 → get_or (set which y (i + 1)) x 0 ≡ place_from symbols x i (length symbols - i)
which_turn which symbols i y l m e u h x k =
    either_way x y
    (λ q. rw q (get_or-set_same which y (i + 1) 0 (omega arith) ∙ sym (place_step symbols (length symbols) i y m ∙ rw (eq-eqb (get_or symbols i 0) y (sym e)))))
    (λ q. get_or-set_other which y x (i + 1) 0 q ∙ h x k
    ∙ sym (place_step symbols (length symbols) i x m ∙ rw (ne_eqb (get_or symbols i 0) x (λ z. q (sym (e ∙ z))))))

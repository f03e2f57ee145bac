-- The tests of 8, 15, 16 and 6 are the request's words, one by one: each way by cases on the test.
use Prim.Native.Nat.{ℕ, zero, suc, ◌+◌, ◌*◌, ◌≤◌, ◌<◌}
use mathlib.Core.Path.{◌≡◌, refl, sym, ap, ◌∙◌}
use mathlib.Core.Bool.{Bool, true, false, ◌||◌, not}
use mathlib.Core.List.{List}
use mathlib.Core.Logic.{◌⊎◌, inl, inr}
use native.Mathlib.Omega.{arith}
use lib.ListN.{length, get_or}
use lib.Dec.{eqb, ltb}
use borrow.Author.Tests.{not-true, eqb-true, eqb-false, eq-eqb, ne_eqb, lt-ltb, ltb-true}
use Rattle.paper.specs.Limits.{is_limit}
use Rattle.paper.specs.Verdict.{is_accepted, verdict}
use Rattle.paper.specs.Answers.{Lent, cramped}
use Rattle.paper.specs.Refusals.{Faulty, of_records, Lowest, Tells}
use Rattle.paper.proofs.Tests.{true_not_false, not_so, or_either, or_left, or_right}
use Rattle.paper.proofs.Refusals.{verdict_exactly, accepted_exactly, of_known}
use Rattle.paper.proofs.CallLaws.{verdict_accepted}
use Rattle.paper.proofs.JudgementLaws.{cramped_words, words_cramped}
use Rattle.paper_shared.specs.Answers.{Handed, max_definitions, beginning, table_at, misses, any_refused, is_among, twice, crowded, no_room}
use Rattle.paper_shared.specs.Refusals.{Misses, lists_differ, lengths_miss, Crowded, over_sixteen, defined_twice}
use Rattle.paper_shared.specs.Refusals.{NoRoom, area_under, Shorter, the_area, the_others}

false_not : (b : Bool) → b ≡ false → not b ≡ true
false_not b e = rw e

differs : (m n : ℕ) → not (eqb m n) ≡ true → ¬ (m ≡ n)
differs m n e = eqb-false m n (not-true (eqb m n) e)

apart : (a b : ℕ) → a ≤ b → ¬ (a ≡ b) → a + 1 ≤ b
apart a b l d = omega (arith, l, d)

-- ---- 8
module _ (h : Handed) where
  lists : Bool
  lists = not (eqb (length h.lengths) (8 * length h.symbols))

  sums : Bool
  sums = not (eqb (beginning h.lengths (length h.symbols)) (length h.definitions))

  pub misses_words : misses h.symbols h.lengths h.definitions ≡ true → Misses h
  unfolding misses lists sums
  misses_words e = go (or_either lists sums e)
    where
      go : (lists ≡ true) ⊎ (sums ≡ true) → Misses h
      go (inl q) = lists_differ (differs (length h.lengths) (8 * length h.symbols) q)
      go (inr q) = lengths_miss (differs (beginning h.lengths (length h.symbols)) (length h.definitions) q)

  pub words_misses : Misses h → misses h.symbols h.lengths h.definitions ≡ true
  unfolding misses lists sums
  words_misses (lists_differ n) = or_left lists sums (false_not _ (ne_eqb (length h.lengths) (8 * length h.symbols) n))
  words_misses (lengths_miss n) =
      or_right lists sums (false_not _ (ne_eqb (beginning h.lengths (length h.symbols)) (length h.definitions) n))

-- ---- 1 to 5, under a limit that there is
-- a table that is not accepted is refused, and for a reason
pub why : (lim : ℕ) (s : List ℕ) → is_limit lim ≡ true → is_accepted (verdict lim s) ≡ false
    → Lowest (Faulty lim s) (verdict lim s).number (verdict lim s).place × Tells s (verdict lim s)
unfolding is_accepted
why lim s n e =
    let d = eqb-false (verdict lim s).number 0 e in
    let w = (verdict_exactly lim s (verdict lim s) (omega (arith, d))).0 refl in
    (record { given = of_known lim s n w.0.given; lowest = λ j q u x. w.0.lowest j q u (of_records x) }, w.1)

-- ---- 15
pub record OneRefused (lim : ℕ) (lengths definitions : List ℕ) (i n : ℕ) : Type 0 where
  pub at : ℕ
  pub lo : i ≤ at
  pub hi : at < i + n
  pub number : ℕ
  pub place : ℕ
  pub applies : Faulty lim (table_at lengths definitions at) number place

module _ (lim : ℕ) (lengths definitions : List ℕ) where
  pub any_words : is_limit lim ≡ true → (i n : ℕ) → any_refused lim lengths definitions i n ≡ true → OneRefused lim lengths definitions i n
  unfolding any_refused
  any_words m i zero e = absurd (true_not_false e refl)
  any_words m i (suc n) e =
      go (or_either (not (is_accepted (verdict lim (table_at lengths definitions i)))) (any_refused lim lengths definitions (i + 1) n) e)
      (λ q. any_words m (i + 1) n q)
    where
      later : OneRefused lim lengths definitions (i + 1) n → OneRefused lim lengths definitions i (suc n)
      later o =
          let l = o.lo in
          let u = o.hi in
          record { at = o.at; lo = omega arith; hi = omega arith; number = o.number; place = o.place; applies = o.applies }

      first : is_accepted (verdict lim (table_at lengths definitions i)) ≡ false → OneRefused lim lengths definitions i (suc n)
      first r = record {
        at = i;
        lo = omega arith;
        hi = omega arith;
        number = (verdict lim (table_at lengths definitions i)).number;
        place = (verdict lim (table_at lengths definitions i)).place;
        applies = (why lim (table_at lengths definitions i) m r).0.given;
      }

      go : (not (is_accepted (verdict lim (table_at lengths definitions i))) ≡ true) ⊎ (any_refused lim lengths definitions (i + 1) n ≡ true)
          → (any_refused lim lengths definitions (i + 1) n ≡ true → OneRefused lim lengths definitions (i + 1) n)
          → OneRefused lim lengths definitions i (suc n)
      go (inl q) ih = first (not-true _ q)
      go (inr q) ih = later (ih q)

  unaccepted : (s : List ℕ) {k p : ℕ} → Faulty lim s k p → is_accepted (verdict lim s) ≡ false
  unaccepted s {k} {p} x = not_so (is_accepted (verdict lim s)) (λ e. (accepted_exactly lim s).0 (verdict_accepted lim s e) k p (of_records x))

  pub words_any : (i n j : ℕ) {k p : ℕ} → i ≤ j → j < i + n → Faulty lim (table_at lengths definitions j) k p → any_refused lim lengths definitions i n ≡ true
  unfolding any_refused
  words_any i zero j l u x = absurd (omega arith)
  words_any i (suc n) j l u x = go (eqb i j) refl (λ q. words_any (i + 1) n j q (omega arith) x)
    where
      go : (b : Bool) → eqb i j ≡ b → (i + 1 ≤ j → any_refused lim lengths definitions (i + 1) n ≡ true)
          → (not (is_accepted (verdict lim (table_at lengths definitions i))) || any_refused lim lengths definitions (i + 1) n) ≡ true
      go true e ih =
          or_left (not (is_accepted (verdict lim (table_at lengths definitions i)))) (any_refused lim lengths definitions (i + 1) n)
          (rw (eqb-true i j e) (false_not _ (unaccepted (table_at lengths definitions j) x)))
      go false e ih =
          let d : ¬ (i ≡ j) = eqb-false i j e in
          or_right (not (is_accepted (verdict lim (table_at lengths definitions i)))) _ (ih (apart i j l d))

pub all_none : (lim : ℕ) (h : Handed) → any_refused lim h.lengths h.definitions 0 (length h.symbols) ≡ false
    → (i k p : ℕ) → i < length h.symbols → ¬ Faulty lim (table_at h.lengths h.definitions i) k p
all_none lim h e i k p l x = true_not_false (words_any lim h.lengths h.definitions 0 (length h.symbols) i (omega arith) (omega arith) x) e

-- ---- 16
record Pair (symbols : List ℕ) (i e : ℕ) : Type 0 where
  one : ℕ
  other : ℕ
  lo : i ≤ one
  order : one < other
  hi : other < e
  same : get_or symbols one 0 ≡ get_or symbols other 0

record Here (x : ℕ) (symbols : List ℕ) (i e : ℕ) : Type 0 where
  at : ℕ
  lo : i ≤ at
  hi : at < e
  is : get_or symbols at 0 ≡ x

module _ (symbols : List ℕ) where
  among_words : (x i n : ℕ) → is_among x symbols i n ≡ true → Here x symbols i (i + n)
  unfolding is_among
  among_words x i zero e = absurd (true_not_false e refl)
  among_words x i (suc n) e = go (or_either (eqb (get_or symbols i 0) x) (is_among x symbols (i + 1) n) e) (λ q. among_words x (i + 1) n q)
    where
      go : (eqb (get_or symbols i 0) x ≡ true) ⊎ (is_among x symbols (i + 1) n ≡ true) →
          (is_among x symbols (i + 1) n ≡ true → Here x symbols (i + 1) (i + 1 + n))
          → Here x symbols i (i + suc n)
      go (inl q) ih = record { at = i; lo = omega arith; hi = omega arith; is = eqb-true (get_or symbols i 0) x q }
      go (inr q) ih = let o = ih q in let l = o.lo in let u = o.hi in record { at = o.at; lo = omega arith; hi = omega arith; is = o.is }

  words_among : (x i n j : ℕ) → i ≤ j → j < i + n → get_or symbols j 0 ≡ x → is_among x symbols i n ≡ true
  unfolding is_among
  words_among x i zero j l u e = absurd (omega arith)
  words_among x i (suc n) j l u e = go (eqb i j) refl (λ q. words_among x (i + 1) n j q (omega arith) e)
    where
      go : (b : Bool) → eqb i j ≡ b → (i + 1 ≤ j → is_among x symbols (i + 1) n ≡ true) → (eqb (get_or symbols i 0) x || is_among x symbols (i + 1) n) ≡ true
      go true q ih = or_left _ (is_among x symbols (i + 1) n) (eq-eqb (get_or symbols i 0) x (ap (λ (m : ℕ). get_or symbols m 0) (eqb-true i j q) ∙ e))
      go false q ih = or_right (eqb (get_or symbols i 0) x) _ (ih (apart i j l (eqb-false i j q)))

  twice_words : (i n : ℕ) → twice symbols i n ≡ true → Pair symbols i (i + n)
  unfolding twice
  twice_words i zero e = absurd (true_not_false e refl)
  twice_words i (suc n) e =
      go (or_either (is_among (get_or symbols i 0) symbols (i + 1) n) (twice symbols (i + 1) n) e) (λ q. twice_words (i + 1) n q)
    where
      here : Here (get_or symbols i 0) symbols (i + 1) (i + 1 + n) → Pair symbols i (i + suc n)
      here o =
          let l = o.lo in
          let u = o.hi in
          record { one = i; other = o.at; lo = omega arith; order = omega arith; hi = omega arith; same = sym o.is }

      later : Pair symbols (i + 1) (i + 1 + n) → Pair symbols i (i + suc n)
      later o =
          let l = o.lo in
          let u = o.hi in
          record { one = o.one; other = o.other; lo = omega arith; order = o.order; hi = omega arith; same = o.same }

      go : (is_among (get_or symbols i 0) symbols (i + 1) n ≡ true) ⊎ (twice symbols (i + 1) n ≡ true)
          → (twice symbols (i + 1) n ≡ true → Pair symbols (i + 1) (i + 1 + n)) → Pair symbols i (i + suc n)
      go (inl q) ih = here (among_words (get_or symbols i 0) (i + 1) n q)
      go (inr q) ih = later (ih q)

  words_twice : (i n a b : ℕ) → i ≤ a → a < b → b < i + n → get_or symbols a 0 ≡ get_or symbols b 0 → twice symbols i n ≡ true
  unfolding twice
  words_twice i zero a b l o u e = absurd (omega arith)
  words_twice i (suc n) a b l o u e = go (eqb i a) refl (λ q. words_twice (i + 1) n a b q o (omega arith) e)
    where
      go : (c : Bool) → eqb i a ≡ c → (i + 1 ≤ a → twice symbols (i + 1) n ≡ true)
          → (is_among (get_or symbols i 0) symbols (i + 1) n || twice symbols (i + 1) n) ≡ true
      go true q ih =
          let s : i ≡ a = eqb-true i a q in
          or_left _ (twice symbols (i + 1) n)
          (words_among (get_or symbols i 0) (i + 1) n b (omega arith) (omega arith) (sym e ∙ ap (λ (m : ℕ). get_or symbols m 0) (sym s)))
      go false q ih = or_right (is_among (get_or symbols i 0) symbols (i + 1) n) _ (ih (apart i a l (eqb-false i a q)))

  pub crowded_words : crowded symbols ≡ true → Crowded symbols
  unfolding crowded
  crowded_words e = go (or_either (ltb max_definitions (length symbols)) (twice symbols 0 (length symbols)) e)
    where
      pair : Pair symbols 0 (0 + length symbols) → Crowded symbols
      pair p = let u = p.hi in defined_twice p.one p.other p.order (omega arith) p.same

      go : (ltb max_definitions (length symbols) ≡ true) ⊎ (twice symbols 0 (length symbols) ≡ true) → Crowded symbols
      go (inl q) = over_sixteen (ltb-true max_definitions (length symbols) q)
      go (inr q) = pair (twice_words 0 (length symbols) q)

  pub words_crowded : Crowded symbols → crowded symbols ≡ true
  unfolding crowded
  words_crowded (over_sixteen l) = or_left _ (twice symbols 0 (length symbols)) (lt-ltb max_definitions (length symbols) l)
  words_crowded (defined_twice i j o u e) =
      or_right (ltb max_definitions (length symbols)) _ (words_twice 0 (length symbols) i j (omega arith) o (omega arith) e)

-- ---- 6
module _ (area : List ℕ) where
  pub room_words : (w : ℕ) → no_room area w ≡ true → NoRoom area w
  unfolding no_room
  room_words w e = area_under (ltb-true (length area) (16 * w) e)

  pub words_room : (w : ℕ) → NoRoom area w → no_room area w ≡ true
  unfolding no_room
  words_room w (area_under l) = lt-ltb (length area) (16 * w) l

module _ (lim : ℕ) (area : List ℕ) (l : Lent) where
  pub shorter_words : (w : ℕ) → (no_room area w || cramped lim w l) ≡ true → Shorter lim area l w
  shorter_words w e = go (or_either (no_room area w) (cramped lim w l) e)
    where
      go : (no_room area w ≡ true) ⊎ (cramped lim w l ≡ true) → Shorter lim area l w
      go (inl q) = the_area (room_words area w q)
      go (inr q) = the_others (cramped_words lim w l q)

  pub words_shorter : (w : ℕ) → Shorter lim area l w → (no_room area w || cramped lim w l) ≡ true
  words_shorter w (the_area x) = or_left (no_room area w) (cramped lim w l) (words_room area w x)
  words_shorter w (the_others x) = or_right (no_room area w) (cramped lim w l) (words_cramped lim w l x)

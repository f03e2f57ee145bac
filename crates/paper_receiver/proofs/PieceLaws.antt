-- What a piece leaves, m bytes being kept at the most: past the limit nothing changes; a piece that fits is put behind what came before; of
-- one that does not, the front is put there that there is room for. So a piece and then another leave what the two leave as one piece, from
-- every record, also one that is past the limit or ill.
use Prim.Native.Nat.{ℕ, ◌+◌, ◌-◌, ◌≤◌, ◌<◌, min}
use mathlib.Core.Path.{◌≡◌, refl, sym, ap, ◌∙◌}
use mathlib.Core.Bool.{Bool, true, false, not}
use mathlib.Core.List.{List, [], ◌++◌}
use native.Mathlib.Omega.{arith}
use lib.ListN.{length, take, drop, length-append, take-append-drop}
use lib.Seq.{length-take-le, take-append-le, take-append-add, take_all}
use lib.Dec.{eqb, ltb}
use borrow.Author.Tests.{eq-eqb, ne_eqb, lt-ltb, le-ltb, ltb-true, ltb-false, eqb-true, not-false}
use Rattle.paper.specs.Equal.{one}
use Rattle.paper.proofs.Tests.{or_neither}
use Rattle.stretch.specs.Put.{put}
use Rattle.stretch.proofs.Laws.{put_put, put_none, length_put}
use Rattle.paper_receiver.specs.Receiver.{Receiver, is_past, kept, counted, area_after, Held, with_piece}

-- either way of a test
pub either_way : {P : Type 0} (b : Bool) → (b ≡ true → P) → (b ≡ false → P) → P
either_way true y n = y refl
either_way false y n = n refl

-- a record that is within the limit, and one that is past it
abbrev pub within : ℕ → Receiver
within c = record { count = c; past = 0 }

abbrev pub over : ℕ → Receiver
over c = record { count = c; past = 1 }

-- a record of such a count, with the area
abbrev pub holding : ℕ → List ℕ → Held
holding c area = record { state = within c; area = area }

module _ (m : ℕ) where
  -- ---- which records are past the limit
  -- by its mark, and where there is none by its count
  pub past_by_mark : (r : Receiver) → 0 < r.past → is_past m r ≡ true
  unfolding is_past
  past_by_mark r h = rw (ne_eqb r.past 0 (λ e. omega arith))

  pub past_by_count : (r : Receiver) → r.past ≡ 0 → is_past m r ≡ ltb m r.count
  unfolding is_past
  past_by_count r z = rw (eq-eqb r.past 0 z)

  pub not_past : (r : Receiver) → r.past ≡ 0 → r.count ≤ m → is_past m r ≡ false
  not_past r z h = past_by_count r z ∙ le-ltb m r.count h

  -- one that is not past the limit is `within` it
  pub open_count : (r : Receiver) → is_past m r ≡ false → (r.past ≡ 0) × (r.count ≤ m)
  unfolding is_past
  open_count r e =
      let n = or_neither (not (eqb r.past 0)) (ltb m r.count) e in
      (eqb-true r.past 0 (not-false (eqb r.past 0) n.0), ltb-false m r.count n.1)

  pub open_held : (x : Held) → is_past m x.state ≡ false → x ≡ holding x.state.count x.area
  open_held x e = ap (λ (n : ℕ). record { state = record { count = x.state.count; past = n }; area = x.area }) (open_count x.state e).0

  -- ---- what a piece leaves, each way
  -- nothing is put anywhere
  none_put : (c : ℕ) (area p : List ℕ) → take c area ++ (take 0 p ++ drop (c + 0) area) ≡ area
  none_put c area p = let z : c + 0 ≡ c = omega arith in rw z (take-append-drop c area)

  -- the first n bytes of the piece are put where the count says
  pub put_front : (c n : ℕ) (area p : List ℕ) → n ≤ length p → take c area ++ (take n p ++ drop (c + n) area) ≡ put area c (take n p)
  unfolding put
  put_front c n area p h = rw (length-take-le n p h)

  pub past_leaves : (x : Held) (p : List ℕ) → is_past m x.state ≡ true → with_piece m x p ≡ x
  unfolding with_piece counted area_after kept
  past_leaves x p e = rw e (ap (λ (l : List ℕ). record { state = x.state; area = l }) (none_put x.state.count x.area p))

  pub fits_leaves : (c : ℕ) (area p : List ℕ) → c ≤ m → c + length p ≤ m
      → with_piece m (holding c area) p ≡ holding (c + length p) (put area c p)
  unfolding with_piece counted area_after kept one
  fits_leaves c area p h k =
      let n : min (length p) (m - c) ≡ length p = omega arith in
      let all : take (length p) p ≡ p = take_all (length p) p (omega arith) in
      let there = put_front c (length p) area p (omega arith) ∙ ap (put area c) all in
      rw (not_past (within c) refl h, n, le-ltb (length p) (length p) (omega arith)) (ap (holding (c + length p)) there)

  pub crosses_leaves : (c : ℕ) (area p : List ℕ) → c ≤ m → m < c + length p
      → with_piece m (holding c area) p ≡ record { state = over m; area = put area c (take (m - c) p) }
  unfolding with_piece counted area_after kept one
  crosses_leaves c area p h k =
      let n : min (length p) (m - c) ≡ m - c = omega arith in
      let full : c + (m - c) ≡ m = omega arith in
      rw (not_past (within c) refl h, n, lt-ltb (m - c) (length p) (omega arith))
      (ap (λ (l : List ℕ). record { state = over (c + (m - c)); area = l }) (put_front c (m - c) area p (omega arith))
      ∙ ap (λ (k : ℕ). record { state = over k; area = put area c (take (m - c) p) }) full)

  -- no byte, no change
  pub none_leaves : (x : Held) → with_piece m x [] ≡ x
  none_leaves x =
      either_way (is_past m x.state) (past_leaves x [])
      (λ e. let c = x.state.count in
      let h = (open_count x.state e).1 in
      let y = open_held x e in
      let z : c + 0 ≡ c = omega arith in
      ap (λ (q : Held). with_piece m q []) y
      ∙ fits_leaves c x.area [] h (omega arith)
      ∙ ap (holding (c + 0)) (put_none x.area c)
      ∙ ap (λ (n : ℕ). holding n x.area) z
      ∙ sym y)

  -- the area's length stays
  open_length : (c : ℕ) (area p : List ℕ) → c ≤ m → m ≤ length area → length (with_piece m (holding c area) p).area ≡ length area
  open_length c area p h room =
      either_way (ltb m (c + length p))
      (λ o. let k = ltb-true m (c + length p) o in
      let t : length (take (m - c) p) ≡ m - c = length-take-le (m - c) p (omega arith) in
      ap (λ (x : Held). length x.area) (crosses_leaves c area p h k) ∙ length_put area c (take (m - c) p) (omega arith))
      (λ o. let k = ltb-false m (c + length p) o in
      ap (λ (x : Held). length x.area) (fits_leaves c area p h k) ∙ length_put area c p (omega arith))

  pub keeps_length : (x : Held) (p : List ℕ) → m ≤ length x.area → length (with_piece m x p).area ≡ length x.area
  keeps_length x p room =
      either_way (is_past m x.state)
      (λ e. ap (λ (y : Held). length y.area) (past_leaves x p e))
      (λ e. ap (λ (y : Held). length (with_piece m y p).area) (open_held x e)
      ∙ open_length x.state.count x.area p (open_count x.state e).1 room)

  -- ---- two pieces are one
  -- the first one crosses the limit, the second one does, and neither does
  first_crosses : (c : ℕ) (area a b : List ℕ) → c ≤ m → m < c + length a
      → with_piece m (with_piece m (holding c area) a) b ≡ with_piece m (holding c area) (a ++ b)
  first_crosses c area a b h k =
      let l = length-append a b in
      ap (λ (x : Held). with_piece m x b) (crosses_leaves c area a h k)
      ∙ past_leaves _ b (past_by_mark (over m) (omega arith))
      ∙ ap (λ (q : List ℕ). record { state = over m; area = put area c q }) (sym (take-append-le (m - c) a b (omega arith)))
      ∙ sym (crosses_leaves c area (a ++ b) h (omega arith))

  second_crosses : (c : ℕ) (area a b : List ℕ) → m ≤ length area → c + length a ≤ m → m < c + length a + length b
      → with_piece m (with_piece m (holding c area) a) b ≡ with_piece m (holding c area) (a ++ b)
  second_crosses c area a b room fits k =
      let l = length-append a b in
      let n : ℕ = m - (c + length a) in
      let e : m - c ≡ length a + n = omega arith in
      let t : length (take n b) ≡ n = length-take-le n b (omega arith) in
      ap (λ (x : Held). with_piece m x b) (fits_leaves c area a (omega arith) fits)
      ∙ crosses_leaves (c + length a) (put area c a) b fits k
      ∙ ap (λ (q : List ℕ). record { state = over m; area = q })
      (put_put area c a (c + length a) (take n b) refl (omega arith)
      ∙ ap (put area c) (sym (take-append-add a b n) ∙ ap (λ (i : ℕ). take i (a ++ b)) (sym e)))
      ∙ sym (crosses_leaves c area (a ++ b) (omega arith) (omega arith))

  both_fit : (c : ℕ) (area a b : List ℕ) → m ≤ length area → c + length a + length b ≤ m
      → with_piece m (with_piece m (holding c area) a) b ≡ with_piece m (holding c area) (a ++ b)
  both_fit c area a b room k =
      let l = length-append a b in
      let e : c + length a + length b ≡ c + length (a ++ b) = omega arith in
      ap (λ (x : Held). with_piece m x b) (fits_leaves c area a (omega arith) (omega arith))
      ∙ fits_leaves (c + length a) (put area c a) b (omega arith) k
      ∙ ap (holding (c + length a + length b)) (put_put area c a (c + length a) b refl (omega arith))
      ∙ ap (λ (n : ℕ). holding n (put area c (a ++ b))) e
      ∙ sym (fits_leaves c area (a ++ b) (omega arith) (omega arith))

  pub two_pieces : (x : Held) (a b : List ℕ) → m ≤ length x.area → with_piece m (with_piece m x a) b ≡ with_piece m x (a ++ b)
  two_pieces x a b room =
      either_way (is_past m x.state)
      (λ e. ap (λ (y : Held). with_piece m y b) (past_leaves x a e) ∙ past_leaves x b e ∙ sym (past_leaves x (a ++ b) e))
      (λ e. let c = x.state.count in
      let h = (open_count x.state e).1 in
      let y = open_held x e in
      ap (λ (z : Held). with_piece m (with_piece m z a) b) y
      ∙ either_way (ltb m (c + length a))
      (λ o. first_crosses c x.area a b h (ltb-true m (c + length a) o))
      (λ o. either_way (ltb m (c + length a + length b))
      (λ o'. second_crosses c x.area a b room (ltb-false m (c + length a) o) (ltb-true m (c + length a + length b) o'))
      (λ o'. both_fit c x.area a b room (ltb-false m (c + length a + length b) o')))
      ∙ ap (λ (z : Held). with_piece m z (a ++ b)) (sym y))

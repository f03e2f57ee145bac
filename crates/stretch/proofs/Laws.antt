-- The algebra of `part` and `put`. A put is a front, `take a d ++ s`, before what is left of the list; from that, what stands before
-- a put, in it and past it is read off, and two puts side by side are one. What the library's methods leave is a put too.
use Prim.Native.Nat.{ℕ, suc, ◌+◌, ◌-◌, ◌≤◌, ◌<◌}
use mathlib.Core.Path.{◌≡◌, refl, sym, ap, ◌∙◌}
use mathlib.Core.List.{List, [], ◌∷◌, ◌++◌, append_assoc}
use native.Mathlib.Numerals.{add-one}
use native.Mathlib.Nat.{add-zero}
use native.Mathlib.Omega.{arith}
use lib.ListN.{length, take, drop, get_or, set, length-append, length-drop, take-append-drop}
use lib.Seq.{length-take-le, get_or-take, get_or-drop, drop-cons, set_split, take-take, take-append-le, take_at, take_all}
use lib.Seq.{drop-drop, drop_at, paste}
use borrow.Rule.Slice.PartMut.{put_mid}
use Rattle.stretch.specs.Put.{part, put}

-- ---- how long a part and a put are
pub length_part : (d : List ℕ) (a n : ℕ) → a + n ≤ length d → length (part d a n) ≡ n
unfolding part
length_part d a n h = length-take-le n (drop a d) (rw length-drop (omega arith))

part_is : (d : List ℕ) (a n : ℕ) → part d a n ≡ take n (drop a d)
unfolding part
part_is d a n = refl

put_is : (d : List ℕ) (a : ℕ) (s : List ℕ) → put d a s ≡ take a d ++ (s ++ drop (a + length s) d)
unfolding put
put_is d a s = refl

front_length : (d : List ℕ) (a : ℕ) (s : List ℕ) → a ≤ length d → length (take a d ++ s) ≡ a + length s
front_length d a s h = rw (length-append, length-take-le)

front : (d : List ℕ) (a : ℕ) (s : List ℕ) → put d a s ≡ (take a d ++ s) ++ drop (a + length s) d
unfolding put
front d a s = sym (append_assoc (take a d) s (drop (a + length s) d))

pub length_put : (d : List ℕ) (a : ℕ) (s : List ℕ) → a + length s ≤ length d → length (put d a s) ≡ length d
length_put d a s h =
    let k : a ≤ length d = omega arith in
    rw front (simp (length-append, length-take-le, length-drop) (omega arith))

-- ---- what stands before a put, in it, and past it
pub take_put : (d : List ℕ) (a : ℕ) (s : List ℕ) (n : ℕ) → n ≤ a → a ≤ length d → take n (put d a s) ≡ take n d
unfolding put
take_put d a s n h l = take-append-le n (take a d) _ (rw length-take-le h) ∙ take-take n a d h

pub take_put_end : (d : List ℕ) (a : ℕ) (s : List ℕ) (n : ℕ) → n ≡ a + length s → a ≤ length d → take n (put d a s) ≡ take a d ++ s
take_put_end d a s n e l = rw front (take_at (take a d ++ s) (drop (a + length s) d) n (front_length d a s l ∙ sym e))

pub drop_put_at : (d : List ℕ) (a : ℕ) (s : List ℕ) → a ≤ length d → drop a (put d a s) ≡ s ++ drop (a + length s) d
unfolding put
drop_put_at d a s l = drop_at (take a d) (s ++ drop (a + length s) d) a (length-take-le a d l)

pub drop_put : (d : List ℕ) (a : ℕ) (s : List ℕ) (n : ℕ) → a + length s ≤ n → a ≤ length d → drop n (put d a s) ≡ drop n d
drop_put d a s n h l =
    let m : ℕ = n - (a + length s) in
    let e : n ≡ (a + length s) + m = omega arith in
    let past : drop (a + length s) (put d a s) ≡ drop (a + length s) d =
    rw front (drop_at (take a d ++ s) (drop (a + length s) d) (a + length s) (front_length d a s l)) in
    rw e (sym (drop-drop m (a + length s) (put d a s)) ∙ ap (drop m) past ∙ drop-drop m (a + length s) d)

pub part_put_same : (d : List ℕ) (a : ℕ) (s : List ℕ) (n : ℕ) → length s ≡ n → a ≤ length d → part (put d a s) a n ≡ s
unfolding part
part_put_same d a s n e l = rw drop_put_at (take_at s (drop (a + length s) d) n e)

pub get_d_put_before : (d : List ℕ) (a : ℕ) (s : List ℕ) (i : ℕ) → a ≤ length d → i < a → get_or (put d a s) i 0 ≡ get_or d i 0
get_d_put_before d a s i l h =
    sym (get_or-take a (put d a s) i 0 h) ∙ ap (λ (x : List ℕ). get_or x i 0) (take_put d a s a (omega arith) l) ∙ get_or-take a d i 0 h

pub get_d_put_after : (d : List ℕ) (a : ℕ) (s : List ℕ) (i : ℕ) → a ≤ length d → a + length s ≤ i → get_or (put d a s) i 0 ≡ get_or d i 0
get_d_put_after d a s i l h =
    let first : (x : List ℕ) → get_or (drop i x) 0 0 ≡ get_or x i 0 = λ x. rw add-zero at (get_or-drop i x 0 0) in
    sym (first (put d a s)) ∙ ap (λ (x : List ℕ). get_or x 0 0) (drop_put d a s i h l) ∙ first d

-- ---- puts side by side
pub put_put : (d : List ℕ) (a : ℕ) (s : List ℕ) (b : ℕ) (t : List ℕ) → b ≡ a + length s → b + length t ≤ length d
    → put (put d a s) b t ≡ put d a (s ++ t)
put_put d a s b t e h =
    let k : a + length (s ++ t) ≡ b + length t = rw length-append (omega arith) in
    put_is (put d a s) b t
    ∙ rw (take_put_end d a s b e (omega arith), drop_put d a s (b + length t) (omega arith) (omega arith), put_is d a (s ++ t), k)
    (simp append_assoc)

put_put_left : (d : List ℕ) (a : ℕ) (s : List ℕ) (b : ℕ) (t : List ℕ) → b ≡ a + length s → b + length t ≤ length d
    → put (put d b t) a s ≡ put d a (s ++ t)
put_put_left d a s b t e h =
    let k : a + length (s ++ t) ≡ b + length t = rw length-append (omega arith) in
    put_is (put d b t) a s
    ∙ rw (take_put d b t a (omega arith) (omega arith), sym e, drop_put_at d b t (omega arith), put_is d a (s ++ t), k)
    (simp append_assoc)

-- ---- a store is a put of one byte
put_one : (d : List ℕ) (a v : ℕ) → a < length d → set d a v ≡ put d a (v ∷ [])
put_one d a v h = set_split d a v h ∙ rw (put_is, add-one)

put_front : (d : List ℕ) (a : ℕ) (s : List ℕ) (v : ℕ) → a + suc (length s) ≤ length d → set (put d (suc a) s) a v ≡ put d a (v ∷ s)
put_front d a s v h =
    put_one (put d (suc a) s) a v (omega (arith, length_put d (suc a) s (omega arith)))
    ∙ put_put_left d a (v ∷ []) (suc a) s (sym (add-one a)) (omega arith)

-- ---- a part of no byte, of all, and of one byte more at its front; and a put of nothing
pub part_none : (d : List ℕ) (a : ℕ) → part d a 0 ≡ []
unfolding part
part_none d a = refl

pub part_whole : (s : List ℕ) (n : ℕ) → length s ≡ n → part s 0 n ≡ s
unfolding part
part_whole s n e = take_all n s (omega arith)

pub put_none : (d : List ℕ) (a : ℕ) → put d a [] ≡ d
put_none d a = rw (put_is, add-zero) (take-append-drop a d)

-- ---- what the library's methods leave is a put
pub pasted : (d : List ℕ) (a f n k : ℕ) → k ≡ n → f + n ≤ length d → paste d a (drop f d) k ≡ put d a (part d f n)
pasted d a f n k e h =
    let l : length (part d f n) ≡ n = length_part d f n h in
    rw (put_is, l, e, part_is) (append_assoc (take a d) (take n (drop f d)) (drop (a + n) d))

pub part_to : (d : List ℕ) (a n k : ℕ) → k ≡ n → take k (drop a d) ≡ part d a n
part_to d a n k e = rw (e, part_is) refl

pub placed : (d : List ℕ) (a n k : ℕ) (s t : List ℕ) → s ≡ t → k ≡ n → length t ≡ n → put_mid a k d s ≡ put d a t
placed d a n k s t e q l = rw (put_is, e, q, l) (ap (λ (x : List ℕ). take a d ++ (t ++ x)) (drop-drop n a d))

-- ---- a turn of the loop that shifts to the right
part_front : (d : List ℕ) (a n : ℕ) → a < length d → part d a (suc n) ≡ get_or d a 0 ∷ part d (suc a) n
unfolding part
part_front d a n h = rw (drop-cons d a 0 h)

-- to the right, what is read lies before it
pub right_turn : (d : List ℕ) (a f n j : ℕ) → f ≤ a → 0 < j → j ≤ n → a + n ≤ length d
    → set (put d (a + j) (part d (f + j) (n - j))) (a + (j - 1)) (get_or (put d (a + j) (part d (f + j) (n - j))) (f + (j - 1)) 0)
    ≡ put d (a + (j - 1)) (part d (f + (j - 1)) (n - (j - 1)))
right_turn d a f n j le p q h =
    let ea : a + j ≡ suc (a + (j - 1)) = omega arith in
    let ef : f + j ≡ suc (f + (j - 1)) = omega arith in
    let en : n - (j - 1) ≡ suc (n - j) = omega arith in
    let l : length (part d (suc (f + (j - 1))) (n - j)) ≡ n - j = length_part d (suc (f + (j - 1))) (n - j) (omega arith) in
    rw (
      get_d_put_before d (a + j) (part d (f + j) (n - j)) (f + (j - 1)) (omega arith) (omega arith),
      ea,
      ef,
      en,
      part_front d (f + (j - 1)) (n - j) (omega arith),
    )
    (put_front d (a + (j - 1)) (part d (suc (f + (j - 1))) (n - j)) (get_or d (f + (j - 1)) 0) (omega arith))

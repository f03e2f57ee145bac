-- Stretches of records in the lent areas: what stands from a record on, before a record, and after a copy. Positions count records,
-- of 16 bytes. From the laws of `take`, `drop`, `part` and `put`.
use Prim.Native.Nat.{ℕ, ◌+◌, ◌*◌, ◌<◌, ◌≤◌}
use mathlib.Core.Path.{◌≡◌, refl, sym, ap, ◌∙◌}
use mathlib.Core.List.{List, [], ◌∷◌, ◌++◌}
use native.Mathlib.Omega.{arith}
use native.Mathlib.Numerals.{add-one}
use lib.ListN.{length, take, drop, set, length-drop, length-take}
use lib.Seq.{drop-drop, drop_at, take_at, take-add, length-take-le, take-suc-set, take-take}
use Rattle.stretch.specs.Put.{part, put}
use Rattle.stretch.proofs.Laws.{drop_put_at}

-- a list of length 0 is empty
pub none_of : {A : Type 0} (l : List A) → length l ≡ 0 → l ≡ []
none_of [] e = refl
none_of (x ∷ l) e = absurd (omega arith)

-- the stretch y stands m records after x
pub advance : (w x y : List ℕ) (p m : ℕ) → drop (p * 16) w ≡ x ++ y → length x ≡ 16 * m → drop ((p + m) * 16) w ≡ y
advance w x y p m e l =
    let a : (p + m) * 16 ≡ p * 16 + m * 16 = omega arith in
    ap (λ (k : ℕ). drop k w) a ∙ sym (drop-drop (m * 16) (p * 16) w) ∙ ap (λ (z : List ℕ). drop (m * 16) z) e ∙ drop_at x y (m * 16) (omega arith)

-- what stands there as a part of the area
pub part_there : (w x y : List ℕ) (a n : ℕ) → drop a w ≡ x ++ y → length x ≡ n → part w a n ≡ x
unfolding part
part_there w x y a n e l = ap (take n) e ∙ take_at x y n l

pub part_end : (o x y : List ℕ) (a n m : ℕ) → take m o ≡ x ++ y → m ≡ a + n → length x ≡ a → length y ≡ n → a ≤ length o → part o a n ≡ y
unfolding part
part_end o x y a n m e q l k h =
    let s : x ++ y ≡ take a o ++ take n (drop a o) = sym e ∙ ap (λ i. take i o) q ∙ take-add a n o in
    sym (drop_at (take a o) (take n (drop a o)) a (length-take-le a o h)) ∙ ap (drop a) (sym s) ∙ drop_at x y a l

-- where something stands, the area ends after it
pub ends_after : (w x : List ℕ) (a : ℕ) → drop a w ≡ x → 0 < length x → a + length x ≡ length w
ends_after w x a e h = let l : length (drop a w) ≡ length x = ap length e in omega (arith, length-drop a w)

-- a stretch put in front of what stands there
pub put_before : (w x rest : List ℕ) (b q : ℕ) → b + length x ≡ q → drop q w ≡ rest → b ≤ length w → drop b (put w b x) ≡ x ++ rest
put_before w x rest b q e h l = drop_put_at w b x l ∙ ap (λ (i : ℕ). x ++ drop i w) e ∙ ap (λ (z : List ℕ). x ++ z) h

-- one byte noted at the end
pub noted_one : (z : List ℕ) (n k : ℕ) → n < length z → take (n + 1) (set z n k) ≡ take n z ++ (k ∷ [])
noted_one z n k h = rw add-one (take-suc-set z n k h)

-- the front of a front
pub front_of_lem : (o x y : List ℕ) (a m : ℕ) → take m o ≡ x ++ y → length x ≡ a → a ≤ m → take a o ≡ x
front_of_lem o x y a m e l h = sym (take-take a m o h) ∙ ap (take a) e ∙ take_at x y a l

-- a front that is as long as it should be lies within the area
pub front_fits : (o x : List ℕ) (n : ℕ) → take n o ≡ x → length x ≡ n → n ≤ length o
front_fits o x n e l = let m : length (take n o) ≡ n = ap length e ∙ l in omega (arith, length-take n o)

-- what stands from a record on, after a tree was put there in place of another that ended at the same place
pub put_there : (w x y rest : List ℕ) (b : ℕ) → drop b w ≡ x ++ rest → length y ≡ length x → b ≤ length w → drop b (put w b y) ≡ y ++ rest
put_there w x y rest b e l h =
    drop_put_at w b y h
    ∙ ap (λ (i : List ℕ). y ++ i) (sym (drop-drop (length y) b w) ∙ ap (drop (length y)) e ∙ drop_at x rest (length y) (sym l))

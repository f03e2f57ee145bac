-- Laws of bytes and of the little-endian numbers in them: writing a number into bytes and reading it back are inverse both ways,
-- and what is read at a place of a list is what is read at the same place of the part that holds it. Each is an induction on the
-- list, one byte being the remainder and the others the quotient of a division by 256.
use Prim.Native.Nat.{ℕ, zero, suc, ◌+◌, ◌*◌, ◌/◌, ◌%◌, ◌^◌, ◌<◌, ◌≤◌}
use mathlib.Core.Path.{◌≡◌, refl, ap, ◌∙◌}
use mathlib.Core.List.{List, [], ◌∷◌, ◌++◌}
use native.Mathlib.Nat.{add_assoc, pow-suc, pow-zero, mod-lt}
use native.Mathlib.Omega.{arith}
use lib.Dec.{lit<}
use lib.ListN.{length, get_or, take, drop, get_or-append}
use lib.Seq.{get_or-append-add, get_or-drop}
use mir.Syntax.{w8}
use mir.Val.{Fits}
use Rattle.paper.specs.Bytes.{Bytes, le, bytes, le2, le8}

-- writing, then reading: the number
pub le_bytes : (k v : ℕ) → v < 256 ^ k → le (bytes k v) ≡ v
unfolding le bytes
le_bytes zero v h = let h' : v < 1 = rw pow-zero at h in omega arith
le_bytes (suc k) v h =
    let h' : v < 256 ^ k * 256 = rw pow-suc at h in
    let e : le (bytes k (v / 256)) ≡ v / 256 = le_bytes k (v / 256) (omega arith) in
    omega arith

-- reading, then writing: the bytes
pub bytes_le : (xs : List ℕ) → Bytes xs → bytes (length xs) (le xs) ≡ xs
unfolding le bytes
bytes_le [] b = refl
bytes_le (x ∷ xs) b =
    let e : (x + 256 * le xs) / 256 ≡ le xs = omega (arith, b.0) in
    let f : (x + 256 * le xs) % 256 ≡ x = omega (arith, b.0) in
    rw (f, e, bytes_le xs b.1)

-- bytes make no greater number than there is room for
pub le_lt : (xs : List ℕ) → Bytes xs → le xs < 256 ^ length xs
unfolding le
le_lt [] b = lit< tt
le_lt (x ∷ xs) b = rw pow-suc (omega (arith, b.0, le_lt xs b.1))

pub length_bytes : (k v : ℕ) → length (bytes k v) ≡ k
unfolding bytes
length_bytes zero v = refl
length_bytes (suc k) v = ap suc (length_bytes k (v / 256))

pub bytes_are_bytes : (k v : ℕ) → Bytes (bytes k v)
unfolding bytes
bytes_are_bytes zero v = tt
bytes_are_bytes (suc k) v = (mod-lt v (lit< tt), bytes_are_bytes k (v / 256))

pub append_bytes : (xs ys : List ℕ) → Bytes xs → Bytes ys → Bytes (xs ++ ys)
append_bytes [] ys a b = b
append_bytes (x ∷ xs) ys a b = (a.0, append_bytes xs ys a.1 b)

pub take_bytes : (n : ℕ) (xs : List ℕ) → Bytes xs → Bytes (take n xs)
take_bytes zero xs b = tt
take_bytes (suc n) [] b = tt
take_bytes (suc n) (x ∷ xs) b = (b.0, take_bytes n xs b.1)

pub drop_bytes : (n : ℕ) (xs : List ℕ) → Bytes xs → Bytes (drop n xs)
drop_bytes zero xs b = b
drop_bytes (suc n) [] b = tt
drop_bytes (suc n) (x ∷ xs) b = drop_bytes n xs b.1

pub byte_lt : (xs : List ℕ) (i : ℕ) → Bytes xs → get_or xs i 0 < 256
byte_lt [] i b = lit< tt
byte_lt (x ∷ xs) zero b = b.0
byte_lt (x ∷ xs) (suc i) b = byte_lt xs i b.1

pub le2_lt : (s : List ℕ) (a : ℕ) → Bytes s → le2 s a < 65536
unfolding le2
le2_lt s a b = le_lt (get_or s a 0 ∷ get_or s (a + 1) 0 ∷ []) (byte_lt s a b, (byte_lt s (a + 1) b, tt))

pub le8_lt : (s : List ℕ) (a : ℕ) → Bytes s → le8 s a < 2 ^ 64
unfolding le8
le8_lt s a b =
    le_lt _ (
      byte_lt s a b,
      (
        byte_lt s (a + 1) b,
        (
          byte_lt s (a + 2) b,
          (
            byte_lt s (a + 3) b,
            (byte_lt s (a + 4) b, (byte_lt s (a + 5) b, (byte_lt s (a + 6) b, (byte_lt s (a + 7) b, tt)))),
          ),
        ),
      ),
    )

-- the number at a place of what is left of a list, as the number at a place of the list
pub le2_drop : (n : ℕ) (s : List ℕ) (a : ℕ) → le2 (drop n s) a ≡ le2 s (n + a)
unfolding le2
le2_drop n s a = simp (get_or-drop, add_assoc)

pub le8_drop : (n : ℕ) (s : List ℕ) (a : ℕ) → le8 (drop n s) a ≡ le8 s (n + a)
unfolding le8
le8_drop n s a = simp (get_or-drop, add_assoc)

-- what stands before, and what stands after, does not count
pub le8_append_add : (p s : List ℕ) (a : ℕ) → le8 (p ++ s) (length p + a) ≡ le8 s a
unfolding le8
le8_append_add p s a = simp (add_assoc, get_or-append-add)

pub le2_append : (s q : List ℕ) (a : ℕ) → a + 2 ≤ length s → le2 (s ++ q) a ≡ le2 s a
unfolding le2
le2_append s q a h = rw (get_or-append s q 0 a (omega arith), get_or-append s q 0 (a + 1) (omega arith))

pub le8_append : (s q : List ℕ) (a : ℕ) → a + 8 ≤ length s → le8 (s ++ q) a ≡ le8 s a
unfolding le8
le8_append s q a h =
    rw (
      get_or-append s q 0 a (omega arith),
      get_or-append s q 0 (a + 1) (omega arith),
      get_or-append s q 0 (a + 2) (omega arith),
      get_or-append s q 0 (a + 3) (omega arith),
      get_or-append s q 0 (a + 4) (omega arith),
      get_or-append s q 0 (a + 5) (omega arith),
      get_or-append s q 0 (a + 6) (omega arith),
      get_or-append s q 0 (a + 7) (omega arith),
    )

-- a number of 64 bits is read from the bytes that it is written to
pub first_eight : (n : ℕ) (rest : List ℕ) → n < 2 ^ 64 → le8 (bytes 8 n ++ rest) 0 ≡ n
first_eight n rest h = le8_append (bytes 8 n) rest 0 (rw length_bytes (omega arith)) ∙ unfold le8 bytes in (le_bytes 8 n h)

-- the number in the first eight bytes
pub eight_front : (s : List ℕ) → 8 ≤ length s → le8 s 0 ≡ le (take 8 s)
unfolding le8
eight_front (x₀ ∷ x₁ ∷ x₂ ∷ x₃ ∷ x₄ ∷ x₅ ∷ x₆ ∷ x₇ ∷ s) h = refl
eight_front [] h = absurd (omega arith)
eight_front (x₀ ∷ []) h = absurd (omega arith)
eight_front (x₀ ∷ x₁ ∷ []) h = absurd (omega arith)
eight_front (x₀ ∷ x₁ ∷ x₂ ∷ []) h = absurd (omega arith)
eight_front (x₀ ∷ x₁ ∷ x₂ ∷ x₃ ∷ []) h = absurd (omega arith)
eight_front (x₀ ∷ x₁ ∷ x₂ ∷ x₃ ∷ x₄ ∷ []) h = absurd (omega arith)
eight_front (x₀ ∷ x₁ ∷ x₂ ∷ x₃ ∷ x₄ ∷ x₅ ∷ []) h = absurd (omega arith)
eight_front (x₀ ∷ x₁ ∷ x₂ ∷ x₃ ∷ x₄ ∷ x₅ ∷ x₆ ∷ []) h = absurd (omega arith)

-- the elements of a slice of u8 are bytes
pub are_bytes : (s : List ℕ) → ((k : ℕ) → Fits w8 (get_or s k 0)) → Bytes s
are_bytes [] h = tt
are_bytes (x ∷ s) h = ((h 0).fits, are_bytes s (λ k. h (suc k)))

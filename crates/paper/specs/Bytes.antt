-- Bytes and the numbers in them. "All numbers are little-endian."
use Rattle.std.specs.Prelude.{ℕ, zero, suc, ◌+◌, ◌-◌, ◌*◌, ◌/◌, ◌%◌, ◌<◌, List, [], ◌∷◌, ◌++◌, length, get_or, drop, replicate, ℤ, pos, negsuc}
use Rattle.std.specs.Int.{w64}
use Rattle.std.proofs.Common.{to_z}
use Rattle.paper.specs.Limits.{modulus}

-- every number of the list is a byte
abbrev pub Bytes : List ℕ → Type 0
Bytes [] = Unit {0}
Bytes (x ∷ xs) = (x < 256) × Bytes xs

-- the number that bytes stand for, the lowest first
unfoldable pub le : List ℕ → ℕ
le [] = 0
le (x ∷ xs) = x + 256 * le xs

-- the k lowest bytes of a number, the lowest first
unfoldable pub bytes : ℕ → ℕ → List ℕ
bytes zero v = []
bytes (suc k) v = v % 256 ∷ bytes k (v / 256)

-- the number in the two, and in the eight, bytes of s from a on
unfoldable pub le2 : List ℕ → ℕ → ℕ
le2 s a = le (get_or s a 0 ∷ get_or s (a + 1) 0 ∷ [])

unfoldable pub le8 : List ℕ → ℕ → ℕ
le8 s a =
    le
    (get_or s a 0 ∷ get_or s (a + 1) 0 ∷ get_or s (a + 2) 0 ∷ get_or s (a + 3) 0
    ∷ get_or s (a + 4) 0 ∷ get_or s (a + 5) 0 ∷ get_or s (a + 6) 0 ∷ get_or s (a + 7) 0 ∷ [])

-- "signed integer": what 64 bits stand for, n from 2^63 on being n - 2^64
abbrev pub signed : ℕ → ℤ
signed n = to_z w64 n

-- "a negative integer counts as itself plus 2^64": what an integer counts as, modulo 2^64
unfoldable pub word : ℤ → ℕ
word (pos n) = n % modulus
word (negsuc n) = modulus - suc (n % modulus)

-- a stretch of n bytes of a lent area: xs, zeros up to n, and past the stretch the bytes that stood there
unfoldable pub stretch : ℕ → List ℕ → List ℕ → List ℕ
stretch n xs old = xs ++ (replicate (n - length xs) 0 ++ drop n old)

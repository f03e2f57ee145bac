-- Stretches of bytes: which bytes a copy, a shift or a clearing takes, and what a slice holds after it.
use Rattle.std.specs.Prelude.{ℕ, ◌+◌, List, ◌++◌, length, take, drop}

-- the n bytes of d from place a on
unfoldable pub part : List ℕ → ℕ → ℕ → List ℕ
part d a n = take n (drop a d)

-- d with the bytes s from place a on, in place of as many that stood there; the bytes before them and past them are d's own
unfoldable pub put : List ℕ → ℕ → List ℕ → List ℕ
put d a s = take a d ++ (s ++ drop (a + length s) d)

-- A record at a glance: its two halves as numbers, if every byte that must be zero is.
use Rattle.std.specs.Prelude.{ℕ, ◌+◌, ◌*◌, Bool, cond, ◌&&◌, ◌||◌, List, eqb, ltb}
use Rattle.paper.specs.Bytes.{le8}
use Rattle.paper.specs.Record.{count_in, mark_in, bits, is_node}

-- bytes 0-7: the kind, the count of a sum or a product in bytes 2-3, and the mark in bytes 4-5
unfoldable pub front : List ℕ → ℕ → ℕ → ℕ
front s i k = cond (is_node k) (k + count_in s i * 65536) k + mark_in s i * 4294967296

-- bytes 8-15: any number for an integer, one byte for a symbol, and nothing else
unfoldable pub is_tidy : List ℕ → ℕ → ℕ → Bool
is_tidy s i k = eqb (le8 s (i * 16)) (front s i k) && (eqb k 0 || ltb (bits s i) (cond (eqb k 1) 256 1))

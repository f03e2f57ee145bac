-- The numbers that the paper names, each stated once.
use Rattle.std.specs.Prelude.{ℕ, ◌*◌, ◌^◌, Bool, cond, ◌||◌, eqb}

-- "The library takes the limit as a number, 3,072 or 16,384": the greatest weight of a table, lim from here on.
unfoldable pub is_limit : ℕ → Bool
is_limit lim = eqb lim 3072 || eqb lim 16384

-- "over 49,152 bytes", "tables up to 262,144 bytes": the longest table, 16 bytes for each record of the greatest weight.
abbrev pub max_bytes : ℕ → ℕ
max_bytes lim = 16 * lim

-- "At the limit 3,072, 6 asks for `work` as before; at 16,384 it asks for 524,288 bytes": what the simplifier is lent besides `out` and
-- `steps`.
unfoldable pub work_bytes : ℕ → ℕ
work_bytes lim = cond (eqb lim 3072) 65536 524288

-- "the registers come as 2,048 bytes": 256 registers of 8 bytes.
abbrev pub register_bytes : ℕ
register_bytes = 2048

-- "modulo 2^64".
abbrev pub modulus : ℕ
modulus = 2 ^ 64

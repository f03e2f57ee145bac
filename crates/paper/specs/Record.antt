-- The records of a table. "A table holds records of 16 bytes, no header ... Records are numbered from 0."
use Rattle.std.specs.Prelude.{ℕ, zero, suc, ◌+◌, ◌*◌, Bool, true, false, cond, ◌&&◌, ◌||◌, not, List, [], ◌∷◌, get_or, eqb, ltb, leb}
use Rattle.paper.specs.Bytes.{le2, le8}

-- byte 0, "kind: 0 integer, 1 symbol, 2 sum, 3 product, 4 power"
unfoldable pub kind : List ℕ → ℕ → ℕ
kind s i = get_or s (i * 16) 0

-- bytes 2-3, "number of members, for kinds 2 and 3"
unfoldable pub count_in : List ℕ → ℕ → ℕ
count_in s i = le2 s (i * 16 + 2)

-- "Bytes 4-5 of every record become a line mark, 0 for none."
unfoldable pub mark_in : List ℕ → ℕ → ℕ
mark_in s i = le2 s (i * 16 + 4)

-- bytes 8-15, "signed integer for kind 0", as 64 bits
unfoldable pub bits : List ℕ → ℕ → ℕ
bits s i = le8 s (i * 16 + 8)

-- "for kind 1 byte 8 is the symbol"
unfoldable pub symbol_in : List ℕ → ℕ → ℕ
symbol_in s i = get_or s (i * 16 + 8) 0

-- "Which bytes of a record may be other than zero stands in one table by kind and byte. Byte 0 always may; kind 0 adds bytes
-- 8-15, kind 1 byte 8, kinds 2 and 3 bytes 2-3, kind 4 nothing"; and bytes 4-5 always may.
unfoldable pub may_table : List (List ℕ)
may_table =
    (1 ∷ 0 ∷ 0 ∷ 0 ∷ 1 ∷ 1 ∷ 0 ∷ 0 ∷ 1 ∷ 1 ∷ 1 ∷ 1 ∷ 1 ∷ 1 ∷ 1 ∷ 1 ∷ [])
    ∷ (1 ∷ 0 ∷ 0 ∷ 0 ∷ 1 ∷ 1 ∷ 0 ∷ 0 ∷ 1 ∷ 0 ∷ 0 ∷ 0 ∷ 0 ∷ 0 ∷ 0 ∷ 0 ∷ [])
    ∷ (1 ∷ 0 ∷ 1 ∷ 1 ∷ 1 ∷ 1 ∷ 0 ∷ 0 ∷ 0 ∷ 0 ∷ 0 ∷ 0 ∷ 0 ∷ 0 ∷ 0 ∷ 0 ∷ [])
    ∷ (1 ∷ 0 ∷ 1 ∷ 1 ∷ 1 ∷ 1 ∷ 0 ∷ 0 ∷ 0 ∷ 0 ∷ 0 ∷ 0 ∷ 0 ∷ 0 ∷ 0 ∷ 0 ∷ [])
    ∷ (1 ∷ 0 ∷ 0 ∷ 0 ∷ 1 ∷ 1 ∷ 0 ∷ 0 ∷ 0 ∷ 0 ∷ 0 ∷ 0 ∷ 0 ∷ 0 ∷ 0 ∷ 0 ∷ [])
    ∷ []

-- the same before there were marks: "a machine without this release refuses a marked record with 2"
unfoldable pub may_table_before : List (List ℕ)
may_table_before =
    (1 ∷ 0 ∷ 0 ∷ 0 ∷ 0 ∷ 0 ∷ 0 ∷ 0 ∷ 1 ∷ 1 ∷ 1 ∷ 1 ∷ 1 ∷ 1 ∷ 1 ∷ 1 ∷ [])
    ∷ (1 ∷ 0 ∷ 0 ∷ 0 ∷ 0 ∷ 0 ∷ 0 ∷ 0 ∷ 1 ∷ 0 ∷ 0 ∷ 0 ∷ 0 ∷ 0 ∷ 0 ∷ 0 ∷ [])
    ∷ (1 ∷ 0 ∷ 1 ∷ 1 ∷ 0 ∷ 0 ∷ 0 ∷ 0 ∷ 0 ∷ 0 ∷ 0 ∷ 0 ∷ 0 ∷ 0 ∷ 0 ∷ 0 ∷ [])
    ∷ (1 ∷ 0 ∷ 1 ∷ 1 ∷ 0 ∷ 0 ∷ 0 ∷ 0 ∷ 0 ∷ 0 ∷ 0 ∷ 0 ∷ 0 ∷ 0 ∷ 0 ∷ 0 ∷ [])
    ∷ (1 ∷ 0 ∷ 0 ∷ 0 ∷ 0 ∷ 0 ∷ 0 ∷ 0 ∷ 0 ∷ 0 ∷ 0 ∷ 0 ∷ 0 ∷ 0 ∷ 0 ∷ 0 ∷ [])
    ∷ []

-- byte j of a record of kind k may be other than zero where this is not 0
unfoldable pub may_be : ℕ → ℕ → ℕ
may_be k j = get_or (get_or may_table k []) j 0

unfoldable pub is_node : ℕ → Bool
is_node k = eqb k 2 || eqb k 3

-- the same in the paper's words (proofs/MayLaws: the table says so at each of its eighty entries)
unfoldable pub may_rule : ℕ → ℕ → Bool
may_rule k j = eqb j 0 || eqb j 4 || eqb j 5 || (eqb k 0 && leb 8 j) || (eqb k 1 && eqb j 8) || (is_node k && (eqb j 2 || eqb j 3))

-- of the n bytes from byte j on of record i, of kind k, the lowest that is other than zero and must be zero; j + n where there is none
unfoldable pub stray : List ℕ → ℕ → ℕ → ℕ → ℕ → ℕ
stray s i k j zero = j
stray s i k j (suc n) =
    cond (eqb (get_or s (i * 16 + j) 0) 0 || not (eqb (may_be k j) 0)) (stray s i k (j + 1) n) j

-- what is wrong with a record: "kind, a byte that must be zero (the lowest), or the count, in that order when several are"
pub data Flaw : Type 0 where
  sound : Flaw
  bad_kind : Flaw
  bad_byte : ℕ → Flaw
  bad_count : Flaw

-- "a record has a kind over 4, a byte other than zero that must be zero, or a sum or product count under 2"
unfoldable pub flaw : List ℕ → ℕ → Flaw
flaw s i =
    cond (ltb 4 (kind s i)) bad_kind
    (cond (ltb (stray s i (kind s i) 0 16) 16) (bad_byte (stray s i (kind s i) 0 16))
    (cond (is_node (kind s i) && ltb (count_in s i) 2) bad_count
    sound))

unfoldable pub is_flawed : Flaw → Bool
is_flawed sound = false
is_flawed bad_kind = true
is_flawed (bad_byte j) = true
is_flawed bad_count = true

-- what is wrong as two numbers: 0 nothing, 1 the kind, 2 a byte, 3 the count; and which byte, 0 where it is none
unfoldable pub flaw_numbers : Flaw → List ℕ
flaw_numbers sound = 0 ∷ 0 ∷ []
flaw_numbers bad_kind = 1 ∷ 0 ∷ []
flaw_numbers (bad_byte j) = 2 ∷ j ∷ []
flaw_numbers bad_count = 3 ∷ 0 ∷ []

-- the number of members of record i, a power having two whatever its exponent is
unfoldable pub arity : List ℕ → ℕ → ℕ
arity s i = cond (ltb (kind s i) 2) 0 (cond (eqb (kind s i) 4) 2 (count_in s i))

-- "The weight of a table is the same count over its records, whether or not they form a tree": of the n records from i on
unfoldable pub weight_from : List ℕ → ℕ → ℕ → ℕ
weight_from s i zero = 0
weight_from s i (suc n) = cond (eqb (kind s i) 1) 3 1 + weight_from s (i + 1) n

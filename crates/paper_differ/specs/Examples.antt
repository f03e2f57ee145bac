-- Small tables with what the call answers and leaves, as one table: each row is one that a wrong reading of the request would get wrong.
-- proofs/Computed proves the whole table by one statement. Records are written byte by byte, and the list is lent with each byte 165.
use Rattle.std.specs.Prelude.{ℕ, Bool, true, false, List, [], ◌∷◌, ◌++◌, replicate}
use Rattle.paper.specs.Answers.{compared}
use Rattle.paper_differ.specs.Differ.{differed, list_after}
use Rattle.paper_differ.specs.Calls.{differed_numbers, differ_returns, differ_answers, differ_leaves}

-- the limit, two tables, the bytes of the list, the answer's six numbers, and the list afterwards
pub record Example : Type 0 where
  pub limit : ℕ
  pub first : List ℕ
  pub second : List ℕ
  pub bytes_lent : ℕ
  pub answer : List ℕ
  pub list : List ℕ

-- a record: kind, count and number, each below 256
abbrev cell : ℕ → ℕ → ℕ → List ℕ
cell k c v = k ∷ 0 ∷ c ∷ 0 ∷ 0 ∷ 0 ∷ 0 ∷ 0 ∷ v ∷ replicate 7 0

abbrev int : ℕ → List ℕ
int v = cell 0 0 v

abbrev sym : ℕ → List ℕ
sym v = cell 1 0 v

abbrev sum : ℕ → List ℕ
sum n = cell 2 n 0

abbrev product : ℕ → List ℕ
product n = cell 3 n 0

abbrev power : List ℕ
power = cell 4 0 0

-- a number below 256 in 8 bytes, and the list: pairs as they are written, and the bytes after them
abbrev eight : ℕ → List ℕ
eight n = n ∷ replicate 7 0

abbrev lent : ℕ → List ℕ
lent n = replicate n 165

-- accepted: no pair, one, or two, in a list that has so many bytes more
abbrev same : List ℕ → List ℕ → Example
same a b = record { limit = 3072; first = a; second = b; bytes_lent = 0; answer = 0 ∷ 0 ∷ 0 ∷ 0 ∷ 0 ∷ 0 ∷ []; list = [] }

abbrev apart : List ℕ → List ℕ → ℕ → ℕ → Example
apart a b i j =
    record { limit = 3072; first = a; second = b; bytes_lent = 17; answer = 0 ∷ 0 ∷ 0 ∷ 1 ∷ 0 ∷ 0 ∷ []; list = eight i ++ eight j ++ lent 1 }

abbrev twice : List ℕ → List ℕ → ℕ → ℕ → ℕ → ℕ → Example
twice a b i j k l =
    record { limit = 16384; first = a; second = b; bytes_lent = 32; answer = 0 ∷ 0 ∷ 0 ∷ 2 ∷ 0 ∷ 0 ∷ []; list = eight i ++ eight j ++ eight k ++ eight l }

-- refused: the numbers, and the list as it was
abbrev refuses : List ℕ → List ℕ → ℕ → List ℕ → Example
refuses a b n told = record { limit = 3072; first = a; second = b; bytes_lent = n; answer = told; list = lent n }

abbrev other_limit : List ℕ → List ℕ → ℕ → Example
other_limit a b n = record { limit = 3073; first = a; second = b; bytes_lent = n; answer = 19 ∷ 0 ∷ 0 ∷ 0 ∷ 0 ∷ 0 ∷ []; list = lent n }

abbrev a+b : List ℕ
a+b = sum 2 ++ sym 0 ++ sym 1

abbrev b+a : List ℕ
b+a = sum 2 ++ sym 1 ++ sym 0

abbrev a^ : ℕ → List ℕ
a^ n = power ++ sym 0 ++ int n

-- a symbol with byte 3 other than zero
abbrev bad_byte : List ℕ
bad_byte = 1 ∷ 0 ∷ 0 ∷ 1 ∷ replicate 12 0

unfoldable pub examples : List Example
examples =
    -- one table twice: no pair, and a list of no bytes is enough
    same a+b a+b
    -- the order of members counts: the members are told, not the sums
    ∷ twice a+b b+a 1 1 2 2
    -- counts differ: the nodes are told, and nothing in them
    ∷ apart a+b (sum 3 ++ sym 2 ++ sym 1 ++ sym 0) 0 0
    ∷ apart (product 2 ++ sym 0 ++ sym 1) (product 3 ++ sym 0 ++ sym 1 ++ sym 2) 0 0
    -- kinds differ: the nodes are told, and nothing in them
    ∷ apart (sum 2 ++ sym 0 ++ sym 1) (product 2 ++ sym 2 ++ sym 3) 0 0
    ∷ apart (product 2 ++ sym 0 ++ sym 1) (product 2 ++ sym 0 ++ sym 2) 2 2
    -- integer 0 and symbol 0: the number agrees, the kind does not; and -1 and 2^63 - 1 agree in all bytes but the last
    ∷ apart (int 0) (sym 0) 0 0
    ∷ apart (0 ∷ replicate 7 0 ++ replicate 8 255) (0 ∷ replicate 7 0 ++ replicate 7 255 ++ (127 ∷ [])) 0 0
    -- powers agree whatever their exponents, which are members: base first, exponent behind it
    ∷ apart (a^ 2) (a^ 3) 2 2
    ∷ twice (power ++ product 2 ++ sym 0 ++ sym 1 ++ int 2) (power ++ sym 2 ++ int 3) 1 1 4 2
    -- (a+b)+c and d+c: each table's numbers run on their own, and c agrees with c
    ∷ apart (sum 2 ++ sum 2 ++ sym 0 ++ sym 1 ++ sym 2) (sum 2 ++ sym 3 ++ sym 2) 1 1
    ∷ twice (sum 2 ++ sym 3 ++ sym 2) (sum 2 ++ sum 2 ++ sym 0 ++ sym 1 ++ sym 4) 1 1 2 4
    -- two pairs ask for 32 bytes
    ∷ refuses a+b b+a 31 (6 ∷ 0 ∷ 0 ∷ 0 ∷ 0 ∷ 0 ∷ [])
    ∷ refuses (sym 0) (sym 1) 15 (6 ∷ 0 ∷ 0 ∷ 0 ∷ 0 ∷ 0 ∷ [])
    -- the first table is judged before the second, both before the list
    ∷ refuses (a^ 0) [] 0 (5 ∷ 2 ∷ 1 ∷ 0 ∷ 0 ∷ 0 ∷ [])
    ∷ refuses [] (a^ 0) 40 (1 ∷ 0 ∷ 1 ∷ 0 ∷ 0 ∷ 0 ∷ [])
    ∷ refuses a+b (a^ 0) 0 (5 ∷ 2 ∷ 2 ∷ 0 ∷ 0 ∷ 0 ∷ [])
    -- what is wrong with a record comes last
    ∷ refuses (sum 2 ++ sym 0 ++ bad_byte) a+b 40 (2 ∷ 2 ∷ 1 ∷ 0 ∷ 2 ∷ 3 ∷ [])
    ∷ refuses a+b (sum 1 ++ sym 0) 40 (2 ∷ 0 ∷ 2 ∷ 0 ∷ 3 ∷ 0 ∷ [])
    -- another limit goes before both tables, and is the fault of neither
    ∷ other_limit [] (a^ 0) 40
    ∷ other_limit a+b a+b 0
    ∷ []

unfoldable pub computed : Example → Example
computed e =
    record {
      limit = e.limit;
      first = e.first;
      second = e.second;
      bytes_lent = e.bytes_lent;
      answer = differed_numbers (differed e.limit e.first e.second (lent e.bytes_lent));
      list = list_after e.limit e.first e.second (lent e.bytes_lent);
    }

-- the second mode: whether the trees are equal, pairs or none
unfoldable pub equalities : List Bool
equalities =
    true ∷ true ∷ false ∷ false ∷ false ∷ false ∷ false ∷ false ∷ false ∷ false ∷ false ∷ false ∷ true ∷ false ∷ false ∷ false
    ∷ false ∷ false ∷ false ∷ false ∷ false ∷ []

unfoldable pub are_equal : Example → Bool
are_equal e = (compared e.limit e.first e.second).yes

-- from C: on a+b and b+a with a list of 32 bytes, an answer slice of n bytes; what is returned, the slice and the list afterwards
pub record FromC : Type 0 where
  pub slice_bytes : ℕ
  pub returns : ℕ
  pub slice : List ℕ
  pub list : List ℕ

abbrev from_c : ℕ → ℕ → List ℕ → List ℕ → FromC
from_c n r s l = record { slice_bytes = n; returns = r; slice = s; list = l }

unfoldable pub calls : List FromC
calls =
    from_c 47 6 (lent 47) (lent 32)
    ∷ from_c 49 0 (replicate 24 0 ++ eight 2 ++ replicate 16 0 ++ lent 1) (eight 1 ++ eight 1 ++ eight 2 ++ eight 2)
    ∷ []

unfoldable pub called : FromC → FromC
called c =
    let s : List ℕ = lent c.slice_bytes in
    from_c c.slice_bytes (differ_returns 3072 a+b b+a (lent 32) s) (differ_answers 3072 a+b b+a (lent 32) s) (differ_leaves 3072 a+b b+a (lent 32) s)

-- and a call that is refused: 5 of the second table, at record 2
unfoldable pub refused_from_c : ℕ
refused_from_c = differ_returns 3072 a+b (a^ 0) (lent 32) (lent 48)

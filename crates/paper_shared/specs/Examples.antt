-- Small sites with what the calls answer, as tables: each row is one that a wrong reading of the request would get wrong. proofs/Computed proves
-- each table by one statement.
use Rattle.std.specs.Prelude.{ℕ, zero, suc, ◌+◌, List, [], ◌∷◌, ◌++◌, length, replicate, pos}
use Rattle.paper.specs.Bytes.{bytes}
use Rattle.paper.specs.Tree.{Tree, integer, symbol, sum, product, power, of_list}
use Rattle.paper.specs.Record.{sound}
use Rattle.paper.specs.Table.{encode}
use Rattle.paper.specs.Answers.{Lent}
use Rattle.paper_shared.specs.Shared.{Definition}
use Rattle.paper_shared.specs.Answers.{Handed, OpenGiven, open_given, shared_verdict}

abbrev a : Tree
a = symbol 0 0

abbrev b : Tree
b = symbol 0 1

abbrev c : Tree
c = symbol 0 2

abbrev i : ℕ → Tree
i n = integer 0 (pos n)

abbrev plus : List Tree → Tree
plus l = sum 0 (of_list l)

abbrev times : List Tree → Tree
times l = product 0 (of_list l)

abbrev raised : Tree → ℕ → Tree
raised t n = power 0 t 0 n

-- the symbol s stands for t
abbrev is : ℕ → Tree → Definition
is s t = record { name = s; tree = t }

-- a formula and definitions as they are handed in
unfoldable pub symbols_of : List Definition → List ℕ
symbols_of [] = []
symbols_of (d ∷ ds) = d.name ∷ symbols_of ds

unfoldable pub lengths_of : List Definition → List ℕ
lengths_of [] = []
lengths_of (d ∷ ds) = bytes 8 (length (encode d.tree)) ++ lengths_of ds

unfoldable pub tables_of : List Definition → List ℕ
tables_of [] = []
tables_of (d ∷ ds) = encode d.tree ++ tables_of ds

unfoldable pub site : Tree → List Definition → Handed
site t ds = record { table = encode t; symbols = symbols_of ds; lengths = lengths_of ds; definitions = tables_of ds }

-- what is handed in, byte by byte
abbrev hand : List ℕ → List ℕ → List ℕ → List ℕ → Handed
hand t s l d = record { table = t; symbols = s; lengths = l; definitions = d }

-- n symbols from s on, each standing for t
unfoldable pub many_of : ℕ → ℕ → Tree → List Definition
many_of s zero t = []
many_of s (suc n) t = is s t ∷ many_of (s + 1) n t

-- ---- the call that opens: what is handed in, the length of the area (each byte 165), what is given
pub record Example : Type 0 where
  pub limit : ℕ
  pub given : Handed
  pub room : ℕ
  pub answer : OpenGiven

-- opened to v, whose records begin the area; n bytes are left
abbrev opens_to : Tree → List Definition → ℕ → Tree → ℕ → ℕ → ℕ → Example
opens_to t ds room v r w n =
    record {
      limit = 3072;
      given = site t ds;
      room = room;
      answer = record {
        answer = record { number = 0; place = 0; flaw = sound; records_written = r; opened_weight = w };
        area = encode v ++ replicate n 165;
      };
    }

-- refused at a limit, and the area stays
abbrev refuses_at : ℕ → Handed → ℕ → ℕ → ℕ → Example
refuses_at lim h room k p =
    record {
      limit = lim;
      given = h;
      room = room;
      answer = record {
        answer = record { number = k; place = p; flaw = sound; records_written = 0; opened_weight = 0 };
        area = replicate room 165;
      };
    }

abbrev refuses : Handed → ℕ → ℕ → ℕ → Example
refuses h room k p = refuses_at 3072 h room k p

unfoldable pub examples : List Example
examples =
    -- no definitions: the formula itself
    opens_to (plus (a ∷ b ∷ [])) [] 112 (plus (a ∷ b ∷ [])) 3 7 64
    -- one of two symbols; an undefined one stays, symbol 0 is like any other
    ∷ opens_to (plus (a ∷ b ∷ [])) (is 1 (i 4) ∷ []) 80 (plus (a ∷ i 4 ∷ [])) 3 5 32
    -- again inside the replacement, until none is left
    ∷ opens_to a (is 0 b ∷ is 1 (i 7) ∷ []) 17 (i 7) 1 1 1
    ∷ opens_to a (is 1 (i 7) ∷ is 0 (times (b ∷ c ∷ [])) ∷ []) 80 (times (i 7 ∷ c ∷ [])) 3 5 32
    -- a definition used twice, and by two others, is no circle
    ∷ opens_to (plus (a ∷ b ∷ [])) (is 0 c ∷ is 1 c ∷ is 2 (i 3) ∷ []) 48 (plus (i 3 ∷ i 3 ∷ [])) 3 3 0
    -- a sum put inside a sum stands there nested; a base is opened, an exponent stays
    ∷ opens_to (plus (a ∷ b ∷ [])) (is 0 (plus (b ∷ c ∷ [])) ∷ []) 176 (plus (plus (b ∷ c ∷ []) ∷ b ∷ [])) 5 11 96
    ∷ opens_to (raised a 2) (is 0 (plus (b ∷ i 1 ∷ [])) ∷ is 2 (i 9) ∷ []) 112 (raised (plus (b ∷ i 1 ∷ [])) 2) 5 7 32
    -- marks: that of a replaced symbol is lost, all others stay, those of the definition's records too
    ∷ opens_to (sum 3 (of_list (symbol 7 0 ∷ power 4 (symbol 5 1) 6 2 ∷ []))) (is 0 (sum 8 (of_list (symbol 9 2 ∷ integer 2 (pos 1) ∷ []))) ∷ []) 176
    (sum 3 (of_list (sum 8 (of_list (symbol 9 2 ∷ integer 2 (pos 1) ∷ [])) ∷ power 4 (symbol 5 1) 6 2 ∷ []))) 7 11 64
    -- a circle that is not reached
    ∷ opens_to c (is 0 b ∷ is 1 a ∷ []) 48 c 1 3 32
    -- 17: a definition that leads back to itself, at once, by way of another, and reached only by way of another
    ∷ refuses (site a (is 0 a ∷ [])) 48 17 0
    ∷ refuses (site (plus (c ∷ a ∷ [])) (is 0 b ∷ is 1 (raised a 2) ∷ [])) 48 17 0
    ∷ refuses (site a (is 0 b ∷ is 1 b ∷ [])) 48 17 0
    -- 6 by W, the opened weight, also where it is the lesser one
    ∷ opens_to (plus (a ∷ a ∷ [])) (is 0 (i 1) ∷ []) 48 (plus (i 1 ∷ i 1 ∷ [])) 3 3 0
    ∷ refuses (site (plus (a ∷ a ∷ [])) (is 0 (i 1) ∷ [])) 47 6 0
    ∷ refuses (site a (is 0 (plus (b ∷ c ∷ [])) ∷ [])) 111 6 0
    -- another limit is 19 before all, 8 too
    ∷ refuses_at 3073 (site a []) 48 19 0
    ∷ refuses_at 0 (hand [] (0 ∷ []) [] []) 48 19 0
    -- sixteen definitions are not over sixteen; seventeen are, and a symbol defined twice is 16, reached or not
    ∷ opens_to a (many_of 1 16 (i 1)) 48 a 1 3 32
    ∷ refuses (site a (many_of 1 17 (i 1))) 48 16 0
    ∷ refuses (site c (is 0 (i 1) ∷ is 1 (i 1) ∷ is 0 (i 1) ∷ [])) 48 16 0
    ∷ []

-- 18, on both sides of the limit
unfoldable pub heavy : List Example
heavy =
    -- 37 times a sum of 82 ones is 3,072 with the outer sum, 48 times one of 63 is 3,073, which at 16,384 is not over it
    refuses (site (plus (replicate 37 a)) (is 0 (plus (replicate 82 (i 1))) ∷ [])) 0 6 0
    ∷ refuses (site (plus (replicate 48 a)) (is 0 (plus (replicate 63 (i 1))) ∷ [])) 0 18 0
    ∷ refuses_at 16384 (site (plus (replicate 48 a)) (is 0 (plus (replicate 63 (i 1))) ∷ [])) 0 6 0
    ∷ []

unfoldable pub by_bytes : List Example
by_bytes =
    -- 8: the lists differ in length, the lengths miss the bytes, or would fit only if their sum wrapped round
    refuses (hand (encode a) (0 ∷ []) [] []) 48 8 0
    ∷ refuses (hand (encode a) (0 ∷ []) (replicate 7 0) []) 48 8 0
    ∷ refuses (hand (encode a) [] (replicate 8 0) []) 48 8 0
    ∷ refuses (hand (encode a) (1 ∷ []) (bytes 8 16) (encode b ++ encode b)) 48 8 0
    ∷ refuses (hand (encode a) (1 ∷ []) (bytes 8 32) (encode b)) 48 8 0
    ∷ refuses (hand (encode a) (1 ∷ 2 ∷ []) (bytes 8 18446744073709551600 ++ bytes 8 80) (replicate 64 0)) 48 8 0
    -- before 1; and 1 to 5 of the formula, with their places, before 15
    ∷ refuses (hand [] (0 ∷ []) [] []) 48 8 0
    ∷ refuses (hand [] (0 ∷ []) (bytes 8 0) []) 48 1 0
    ∷ refuses (hand (encode a ++ encode a) (0 ∷ []) (bytes 8 0) []) 48 4 1
    -- 15: a definition that is refused, reached or not; cut at the wrong place; before 16 and 17
    ∷ refuses (hand (encode a) (0 ∷ []) (bytes 8 0) []) 48 15 0
    ∷ refuses (hand (encode a) (1 ∷ 2 ∷ []) (bytes 8 16 ++ bytes 8 16) (encode b ++ (5 ∷ replicate 15 0))) 48 15 0
    ∷ refuses (hand (encode a) (1 ∷ 2 ∷ []) (bytes 8 32 ++ bytes 8 32) (encode b ++ encode (plus (i 1 ∷ i 1 ∷ [])))) 48 15 0
    ∷ refuses (hand (encode a) (0 ∷ 0 ∷ []) (bytes 8 16 ++ bytes 8 0) (encode a)) 48 15 0
    -- 16 before 17
    ∷ refuses (hand (encode a) (0 ∷ 0 ∷ []) (bytes 8 16 ++ bytes 8 16) (encode a ++ encode a)) 48 16 0
    -- little-endian lengths: 256 + 16 bytes are a sum of sixteen
    ∷ refuses (hand (encode a) (0 ∷ []) (16 ∷ 1 ∷ replicate 6 0) (encode (plus (replicate 16 (i 1))))) 0 6 0
    ∷ []

unfoldable pub computed : Example → Example
computed e = record { limit = e.limit; given = e.given; room = e.room; answer = open_given e.limit e.given (replicate e.room 165) }

-- after 2 the field of the formula's record; of a definition's nothing is told
unfoldable pub flawed_formula : Handed
flawed_formula = hand (1 ∷ 0 ∷ 0 ∷ 7 ∷ replicate 12 0) [] [] []

unfoldable pub flawed_definition : Handed
flawed_definition = hand (encode a) (0 ∷ []) (bytes 8 16) (1 ∷ 0 ∷ 0 ∷ 7 ∷ replicate 12 0)

-- a site that is opened: a + b with b = 4
unfoldable pub plain_site : Handed
plain_site = site (plus (a ∷ b ∷ [])) (is 1 (i 4) ∷ [])

-- ---- the call that opens and simplifies: the order of its refusals, the areas being as long as told
abbrev lend : ℕ → ℕ → Lent
lend out steps = record { out = replicate out 0; steps = replicate steps 0; work = [] }

-- the edition, what is handed in, the lengths of `opened`, `out` and `steps`, and number and place
pub record Order : Type 0 where
  pub limit : ℕ
  pub edition : ℕ
  pub handed : Handed
  pub number : ℕ

abbrev order : ℕ → ℕ → Handed → ℕ → Order
order lim ed h k = record { limit = lim; edition = ed; handed = h; number = k }

unfoldable pub orders : List Order
orders =
    order 3073 0 (hand [] (0 ∷ []) [] []) 19
    ∷ order 3072 0 (hand [] (0 ∷ []) [] []) 9
    ∷ order 16384 3 (hand [] [] [] []) 9
    ∷ order 3072 1 (hand [] (0 ∷ []) [] []) 8
    ∷ order 16384 2 (hand [] [] [] []) 1
    ∷ order 3072 2 (hand (encode a) (0 ∷ []) (bytes 8 0) []) 15
    ∷ order 3072 1 (site a (is 0 a ∷ [])) 17
    -- `work` is too short for any
    ∷ order 3072 1 (site a []) 6
    ∷ []

unfoldable pub ordered : Order → Order
ordered e = record {
  limit = e.limit;
  edition = e.edition;
  handed = e.handed;
  number = (shared_verdict e.limit e.edition e.handed (replicate 48 0) (lend 48 3)).number;
}

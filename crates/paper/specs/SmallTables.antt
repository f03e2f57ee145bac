-- Small tables with what the paper says of them: which are refused and where, what is wrong with a record, values, and which are equal.
use Rattle.std.specs.Prelude.{ℕ, ◌-◌, ◌≡◌, true, false, List, [], ◌∷◌, ◌++◌, take, replicate, pos, negsuc}
use Rattle.paper.specs.Tree.{Tree, integer, symbol, sum, product, power, nil, cons}
use Rattle.paper.specs.Record.{sound, bad_kind, bad_byte, bad_count, flaw}
use Rattle.paper.specs.Table.{record_of, encode}
use Rattle.paper.specs.Verdict.{accepted, refused, flawed, verdict}
use Rattle.paper.specs.Answers.{valued, compared}
use Rattle.paper.specs.Calls.{eights, check_answers, value_answers, equal_answers}

abbrev a : Tree
a = symbol 0 0

abbrev b : Tree
b = symbol 0 1

abbrev i : ℕ → Tree
i n = integer 0 (pos n)

-- -n, for an n of at least 1
abbrev minus : ℕ → Tree
minus n = integer 0 (negsuc (n - 1))

abbrev plus : Tree → Tree → Tree
plus t u = sum 0 (cons t (cons u nil))

abbrev times : Tree → Tree → Tree
times t u = product 0 (cons t (cons u nil))

abbrev raised : Tree → ℕ → Tree
raised t n = power 0 t 0 n

-- records by themselves: of a sum and a product with n members, and of a power
abbrev sum_of : ℕ → List ℕ
sum_of n = record_of 2 n 0 0

abbrev product_of : ℕ → List ℕ
product_of n = record_of 3 n 0 0

abbrev power_table : List ℕ
power_table = record_of 4 0 0 0

-- refusals 1 to 5 by number and place
abbrev refuses : List ℕ → ℕ → ℕ → Type 0
refuses s k p = verdict 3072 s ≡ refused k p

pub record Verdicts : Type 0 where
  -- 1: "length is zero, no multiple of 16"
  pub empty : refuses [] 1 0
  pub fifteen : refuses (replicate 15 0) 1 0
  pub seventeen : refuses (replicate 17 0) 1 0
  -- 4: "the records end before the tree, or the tree before the records": "number of records; or first record too many"
  pub records_end : refuses (sum_of 3 ++ (encode a ++ encode b)) 4 3
  pub tree_ends : refuses (encode (plus a b) ++ (encode a ++ encode a)) 4 3
  -- 5: "an exponent is no integer record of at least 1": "first such exponent record", wherever its power stands
  pub exponent_zero : refuses (encode (raised a 0)) 5 2
  pub exponent_negative : refuses (power_table ++ (encode a ++ encode (minus 1))) 5 2
  pub exponent_least : refuses (power_table ++ (encode a ++ encode (minus 9223372036854775808))) 5 2
  pub exponent_symbol : refuses (power_table ++ (encode a ++ encode b)) 5 2
  pub exponent_sum : refuses (power_table ++ (encode a ++ encode (plus (i 1) (i 2)))) 5 2
  pub exponent_after_base : refuses (power_table ++ (encode (plus a b) ++ encode (i 0))) 5 4
  pub first_exponent : refuses (sum_of 2 ++ (encode (raised a 0) ++ (power_table ++ (encode b ++ encode a)))) 5 3
  pub inner_exponent : refuses (power_table ++ (encode (raised a 0) ++ encode b)) 5 3
  -- "The lowest number wins"
  pub flaw_before_shape : verdict 3072 (sum_of 3 ++ (encode a ++ sum_of 1)) ≡ flawed 2 bad_count
  pub shape_before_exponent : refuses (encode (raised a 0) ++ encode a) 4 3
  -- a sum in a sum, a product in a product, a power of a power, the greatest exponent: nothing is wrong with them
  pub nested : verdict 3072 (encode (plus (plus a b) (times (times a b) (raised (raised a 1) 9223372036854775807)))) ≡ accepted
  -- the answer's bytes
  pub as_bytes : take 32 (check_answers 3072 (encode (raised a 0)) (replicate 64 9)) ≡ eights (5 ∷ 2 ∷ 0 ∷ 0 ∷ [])

-- 2: "a kind over 4, a byte other than zero that must be zero, or a sum or product count under 2", in this order
pub record Flaws : Type 0 where
  pub kind_first : flaw (5 ∷ 1 ∷ replicate 14 0) 0 ≡ bad_kind
  pub lowest_byte : flaw (1 ∷ 0 ∷ 0 ∷ 1 ∷ 0 ∷ 0 ∷ 0 ∷ 1 ∷ 0 ∷ 1 ∷ replicate 6 0) 0 ≡ bad_byte 3
  pub byte_first : flaw (2 ∷ 0 ∷ 1 ∷ 0 ∷ 0 ∷ 0 ∷ 9 ∷ replicate 9 0) 0 ≡ bad_byte 6
  pub power_byte : flaw (4 ∷ 0 ∷ 2 ∷ replicate 13 0) 0 ≡ bad_byte 2
  pub last_byte : flaw (1 ∷ replicate 14 0 ++ (1 ∷ [])) 0 ≡ bad_byte 15
  pub count_last : flaw (product_of 1) 0 ≡ bad_count
  pub no_members : flaw (sum_of 0) 0 ≡ bad_count
  pub two_members : flaw (sum_of 2) 0 ≡ sound
  pub many_members : flaw (product_of 256) 0 ≡ sound
  -- "Bytes 4-5 of every record become a line mark": of all five kinds, and no byte besides
  pub marked_integer : flaw (0 ∷ 0 ∷ 0 ∷ 0 ∷ 255 ∷ 255 ∷ replicate 10 0) 0 ≡ sound
  pub marked_symbol : flaw (1 ∷ 0 ∷ 0 ∷ 0 ∷ 255 ∷ 255 ∷ replicate 10 0) 0 ≡ sound
  pub marked_sum : flaw (2 ∷ 0 ∷ 2 ∷ 0 ∷ 255 ∷ 255 ∷ replicate 10 0) 0 ≡ sound
  pub marked_product : flaw (3 ∷ 0 ∷ 2 ∷ 0 ∷ 255 ∷ 255 ∷ replicate 10 0) 0 ≡ sound
  pub marked_power : flaw (4 ∷ 0 ∷ 0 ∷ 0 ∷ 255 ∷ 255 ∷ replicate 10 0) 0 ≡ sound
  pub behind_mark : flaw (4 ∷ 0 ∷ 0 ∷ 0 ∷ 1 ∷ 1 ∷ 1 ∷ replicate 9 0) 0 ≡ bad_byte 6
  pub mark_as_bytes : encode (symbol 258 7) ≡ 1 ∷ 0 ∷ 0 ∷ 0 ∷ 2 ∷ 1 ∷ 0 ∷ 0 ∷ 7 ∷ replicate 7 0
  pub first_record : verdict 3072 (encode a ++ (sum_of 1 ++ (9 ∷ replicate 15 0))) ≡ flawed 1 bad_count

-- 256 registers: symbol 0 holds 5, symbol 1 holds 256, symbol 255 holds 7, the others 0
abbrev regs : List ℕ
regs = 5 ∷ replicate 8 0 ++ (1 ∷ replicate 2030 0 ++ (7 ∷ replicate 7 0))

abbrev value_of : Tree → ℕ
value_of t = (valued 3072 (encode t) regs).result

-- "symbol 0 first, little-endian"; "sums, products and powers taken modulo 2^64; a negative integer counts as itself plus 2^64"
pub record Values : Type 0 where
  pub first_last : value_of (plus a (symbol 0 255)) ≡ 12
  pub second : value_of b ≡ 256
  pub negative : value_of (minus 1) ≡ 18446744073709551615
  pub least : value_of (minus 9223372036854775808) ≡ 9223372036854775808
  pub sum_wraps : value_of (plus a (minus 6)) ≡ 18446744073709551615
  pub sum_wraps_once : value_of (plus a (minus 5)) ≡ 0
  pub product_wraps : value_of (times (i 9223372036854775807) a) ≡ 9223372036854775803
  pub a_power : value_of (raised a 3) ≡ 125
  pub power_wraps : value_of (raised b 8) ≡ 0
  pub marked : value_of (sum 5 (cons (symbol 6 0) (cons (power 7 (symbol 8 0) 9 2) nil))) ≡ 30
  pub as_bytes : take 40 (value_answers 3072 (encode (plus a b)) regs (replicate 64 9)) ≡ eights (0 ∷ 0 ∷ 261 ∷ 0 ∷ 0 ∷ [])

abbrev alike : Tree → Tree → Type 0
alike t u = (compared 3072 (encode t) (encode u)).yes ≡ true

abbrev unlike : Tree → Tree → Type 0
unlike t u = (compared 3072 (encode t) (encode u)).yes ≡ false

-- "Equal trees: integers and symbols by number; powers by base and exponent; two sums, or two products, when their members are the
-- same multiset of equal trees. Nothing is opened first."
pub record Compares : Type 0 where
  pub any_order : alike (plus a b) (plus b a)
  pub any_order_inside : alike (times (plus a b) a) (times a (plus b a))
  pub power_alike : alike (raised (plus a b) 2) (raised (plus b a) 2)
  pub another_member : unlike (plus a b) (plus b b)
  pub one_member_more : unlike (plus a b) (sum 0 (cons a (cons b (cons a nil))))
  pub one_member_fewer : unlike (sum 0 (cons a (cons b (cons a nil)))) (plus a b)
  pub sum_no_product : unlike (plus a b) (times a b)
  pub other_exponent : unlike (raised a 2) (raised a 3)
  pub other_base : unlike (raised a 2) (raised b 2)
  pub no_symbol : unlike (i 1) b
  pub signs : unlike (i 0) (minus 1)
  pub negatives : unlike (minus 1) (minus 2)
  pub not_opened : unlike (plus a (plus b b)) (plus (plus a b) b)
  -- "Weight, value and equality of trees ignore it"
  pub other_marks : alike (sum 5 (cons (symbol 6 0) (cons (power 7 (i 3) 9 2) nil))) (plus (raised (integer 4 (pos 3)) 2) a)
  pub as_bytes : take 48 (equal_answers 3072 (encode (plus a b)) (encode (plus b a)) (replicate 64 9)) ≡ eights (0 ∷ 0 ∷ 0 ∷ 1 ∷ 0 ∷ 0 ∷ [])
  pub refused_as_bytes : take 48 (equal_answers 3072 (encode a) (encode a ++ encode a) (replicate 64 9)) ≡ eights (4 ∷ 1 ∷ 2 ∷ 0 ∷ 0 ∷ 0 ∷ [])

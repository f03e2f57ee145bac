-- "Marked * are the ones for the proved table": the starred examples of the paper, as one table. Letters a, b, c, d are symbols 0,
-- 1, 2, 3. proofs/Starred proves the whole table by one statement.
use Rattle.std.specs.Prelude.{ℕ, ◌-◌, List, [], ◌∷◌, pos, negsuc}
use Rattle.paper.specs.Tree.{Tree, integer, symbol, sum, product, power, of_list, marked, weight}
use Rattle.paper.specs.Rules.{Rule, edition_one}
use Rattle.paper.specs.Driver.{Ran, done, over, simplify}

-- a tree, what the driver makes of it, and both weights (0 after a refusal)
pub record Example : Type 0 where
  pub given : Tree
  pub answer : Ran
  pub weight_in : ℕ
  pub weight_out : ℕ

abbrev a : Tree
a = symbol 0 0

abbrev b : Tree
b = symbol 0 1

abbrev c : Tree
c = symbol 0 2

abbrev d : Tree
d = symbol 0 3

abbrev i : ℕ → Tree
i n = integer 0 (pos n)

abbrev plus : List Tree → Tree
plus l = sum 0 (of_list l)

abbrev times : List Tree → Tree
times l = product 0 (of_list l)

abbrev raised : Tree → ℕ → Tree
raised t n = power 0 t 0 n

-- -n, for an n of at least 1
abbrev minus : ℕ → Tree
minus n = integer 0 (negsuc (n - 1))

-- the tree, its weight, the result, its steps, its openings, the result's weight
abbrev gives : Tree → ℕ → Tree → List ℕ → ℕ → ℕ → Example
gives t w u s o v = record { given = t; answer = done u s o 0; weight_in = w; weight_out = v }

-- 1. a + a gives 2*a
unfoldable pub example_one : Example
example_one = gives (plus (a ∷ a ∷ [])) 7 (times (i 2 ∷ a ∷ [])) (2 ∷ []) 0 5

-- "The result of example 1 as bytes: `03 00 02 00` and twelve zeros; eight zeros, `02`, seven zeros; `01` and fifteen zeros."
unfoldable pub example_one_bytes : List ℕ
example_one_bytes =
    3 ∷ 0 ∷ 2 ∷ 0 ∷ 0 ∷ 0 ∷ 0 ∷ 0 ∷ 0 ∷ 0 ∷ 0 ∷ 0 ∷ 0 ∷ 0 ∷ 0 ∷ 0
    ∷ 0 ∷ 0 ∷ 0 ∷ 0 ∷ 0 ∷ 0 ∷ 0 ∷ 0 ∷ 2 ∷ 0 ∷ 0 ∷ 0 ∷ 0 ∷ 0 ∷ 0 ∷ 0
    ∷ 1 ∷ 0 ∷ 0 ∷ 0 ∷ 0 ∷ 0 ∷ 0 ∷ 0 ∷ 0 ∷ 0 ∷ 0 ∷ 0 ∷ 0 ∷ 0 ∷ 0 ∷ 0 ∷ []

unfoldable pub examples : List Example
examples =
    example_one
    -- 2. (a*b)*a gives a^2 * b
    ∷ gives (times (times (a ∷ b ∷ []) ∷ a ∷ [])) 11 (times (raised a 2 ∷ b ∷ [])) (6 ∷ []) 1 9
    -- 3. a + (-1)*a gives 0
    ∷ gives (plus (a ∷ times (minus 1 ∷ a ∷ []) ∷ [])) 9 (i 0) (2 ∷ 3 ∷ []) 0 1
    -- 4. a+a+b+c gives 2*a + c + b
    ∷ gives (plus (a ∷ a ∷ b ∷ c ∷ [])) 13 (plus (times (i 2 ∷ a ∷ []) ∷ c ∷ b ∷ [])) (2 ∷ []) 0 12
    -- 5. a*b + b*a gives a*b*2
    ∷ gives (plus (times (a ∷ b ∷ []) ∷ times (b ∷ a ∷ []) ∷ [])) 15 (times (a ∷ b ∷ i 2 ∷ [])) (2 ∷ []) 0 8
    -- 6. 2 * 2^3 gives 2^4, which stays
    ∷ gives (times (i 2 ∷ raised (i 2) 3 ∷ [])) 5 (raised (i 2) 4) (6 ∷ []) 0 3
    -- 7. 2^3 * 5^3 gives 10^3
    ∷ gives (times (raised (i 2) 3 ∷ raised (i 5) 3 ∷ [])) 7 (raised (i 10) 3) (6 ∷ []) 0 3
    -- 8. 0+0 gives 0; 1*1 gives 1
    ∷ gives (plus (i 0 ∷ i 0 ∷ [])) 3 (i 0) (1 ∷ []) 0 1
    ∷ gives (times (i 1 ∷ i 1 ∷ [])) 3 (i 1) (4 ∷ []) 0 1
    -- 9. (2^63 - 1) + 1 is refused: 7, place 0. 0 * (2^63 - 1) * 2 gives 0
    ∷ record { given = plus (i 9223372036854775807 ∷ i 1 ∷ []); answer = over 0; weight_in = 3; weight_out = 0 }
    ∷ gives (times (i 0 ∷ i 9223372036854775807 ∷ i 2 ∷ [])) 4 (i 0) (3 ∷ []) 0 1
    -- 10. (a*b)^1 * c * c * a gives a^2 * b * c^2
    ∷ gives (times (raised (times (a ∷ b ∷ [])) 1 ∷ c ∷ c ∷ a ∷ [])) 19 (times (raised a 2 ∷ b ∷ raised c 2 ∷ [])) (6 ∷ 6 ∷ []) 1 14
    -- 12. 2*3*a + 2*3*a gives 12*a; "the single step 2" since all integer members make the coefficient
    ∷ gives (plus (times (i 2 ∷ i 3 ∷ a ∷ []) ∷ times (i 2 ∷ i 3 ∷ a ∷ []) ∷ [])) 13 (times (i 12 ∷ a ∷ [])) (2 ∷ []) 0 5
    ∷ []

-- "Programs that would look right": "a+a+b+a would leave its first step with a second a and list step 2 twice; the rules give it
-- once". The other four look right but for examples 4, 5, 2 and 6. Besides, the late ranges and the changed base of step 6.
unfoldable pub lookalikes : List Example
lookalikes =
    gives (plus (a ∷ a ∷ b ∷ a ∷ [])) 13 (plus (times (i 3 ∷ a ∷ []) ∷ b ∷ [])) (2 ∷ []) 0 9
    -- a*a + 2^62*4 + b is 7 at 1, not at 0: nothing is removed in the sum, so no range is judged there
    ∷ record {
      given = plus (times (a ∷ a ∷ []) ∷ times (i 4611686018427387904 ∷ i 4 ∷ []) ∷ b ∷ []);
      answer = over 1;
      weight_in = 14;
      weight_out = 0;
    }
    -- a + a + 2^62*4 is 7 at 0
    ∷ record { given = plus (a ∷ a ∷ times (i 4611686018427387904 ∷ i 4 ∷ []) ∷ []); answer = over 0; weight_in = 10; weight_out = 0 }
    -- "expect 2*3*a + 6*a to combine at once"
    ∷ gives (plus (times (i 2 ∷ i 3 ∷ a ∷ []) ∷ times (i 6 ∷ a ∷ []) ∷ [])) 12 (times (i 12 ∷ a ∷ [])) (2 ∷ []) 0 5
    -- "7 also for a partial product of coefficients", in order: 2^62*4*0*a + b + b is 7 at 0, 0*2^62*4*a + b + b is not; and 2^62*(-1)*a
    -- twice gives (-2^63)*a
    ∷ record {
      given = plus (times (i 4611686018427387904 ∷ i 4 ∷ i 0 ∷ a ∷ []) ∷ b ∷ b ∷ []);
      answer = over 0;
      weight_in = 14;
      weight_out = 0;
    }
    ∷ gives (plus (times (i 0 ∷ i 4611686018427387904 ∷ i 4 ∷ a ∷ []) ∷ b ∷ b ∷ [])) 14 (times (i 2 ∷ b ∷ [])) (2 ∷ 3 ∷ 1 ∷ []) 0 5
    ∷ gives (plus (times (i 4611686018427387904 ∷ minus 1 ∷ a ∷ []) ∷ times (i 4611686018427387904 ∷ minus 1 ∷ a ∷ []) ∷ [])) 13
    (times (minus 9223372036854775808 ∷ a ∷ [])) (2 ∷ []) 0 5
    -- 2 * 2^3 * 3^4 is one step, 6^4; 2 * 6^2 * 3 is two, 6^3
    ∷ gives (times (i 2 ∷ raised (i 2) 3 ∷ raised (i 3) 4 ∷ [])) 8 (raised (i 6) 4) (6 ∷ []) 0 3
    ∷ gives (times (i 2 ∷ raised (i 6) 2 ∷ i 3 ∷ [])) 6 (raised (i 6) 3) (6 ∷ 6 ∷ []) 0 3
    ∷ []

-- What the starred examples leave open: one table more, each line for a word of the paper that no line above depends on.
unfoldable pub edges : List Example
edges =
    -- "drop all such": 0+0+a is one step, a*1*1 too
    gives (plus (i 0 ∷ i 0 ∷ a ∷ [])) 6 a (1 ∷ []) 0 3
    ∷ gives (times (a ∷ i 1 ∷ i 1 ∷ [])) 6 a (4 ∷ []) 0 3
    -- "in the order above": 0*1 is step 3, not 4
    ∷ gives (times (i 0 ∷ i 1 ∷ [])) 3 (i 0) (3 ∷ []) 0 1
    -- "the product of all integer members": 2*3*a + 5*3*a is step 2 alone, and so is 2*3 + 4; "the rest is the product of the others", in
    -- the current member's order: 2*3*a*b + b*a*7
    ∷ gives (plus (times (i 2 ∷ i 3 ∷ a ∷ []) ∷ times (i 5 ∷ i 3 ∷ a ∷ []) ∷ [])) 13 (times (i 21 ∷ a ∷ [])) (2 ∷ []) 0 5
    ∷ gives (plus (times (i 2 ∷ i 3 ∷ []) ∷ i 4 ∷ [])) 5 (i 10) (2 ∷ []) 0 1
    ∷ gives (plus (times (i 2 ∷ i 3 ∷ a ∷ b ∷ []) ∷ times (b ∷ a ∷ i 7 ∷ []) ∷ [])) 18 (times (a ∷ b ∷ i 13 ∷ [])) (2 ∷ []) 0 8
    -- a member that is not merged becomes its coefficient times its rest as well, but not where nothing is removed: 2*a*3 + b + b is step 2
    -- alone, 2*a*3 + b + c step 6 in the member
    ∷ gives (plus (times (i 2 ∷ a ∷ i 3 ∷ []) ∷ b ∷ b ∷ [])) 13 (plus (times (i 6 ∷ a ∷ []) ∷ times (i 2 ∷ b ∷ []) ∷ [])) (2 ∷ []) 0 11
    ∷ gives (plus (times (i 2 ∷ a ∷ i 3 ∷ []) ∷ b ∷ c ∷ [])) 13 (plus (times (i 6 ∷ a ∷ []) ∷ b ∷ c ∷ [])) (6 ∷ []) 0 12
    -- members of a product inside the product are no members of it: 2*(3*a) + 6*a is opened first
    ∷ gives (plus (times (i 2 ∷ times (i 3 ∷ a ∷ []) ∷ []) ∷ times (i 6 ∷ a ∷ []) ∷ [])) 13 (times (i 12 ∷ a ∷ [])) (6 ∷ 2 ∷ []) 1 5
    -- "the product of the others", in order: 2*a*b + a*b; a power of an integer is no integer member: 2*2^3*a + a; a member that is removed is judged
    -- as well: a + 2^62*4*0*a is 7 at 0
    ∷ gives (plus (times (i 2 ∷ a ∷ b ∷ []) ∷ times (a ∷ b ∷ []) ∷ [])) 16 (times (a ∷ b ∷ i 3 ∷ [])) (2 ∷ []) 0 8
    ∷ gives (plus (times (i 2 ∷ raised (i 2) 3 ∷ a ∷ []) ∷ a ∷ [])) 12 (plus (times (raised (i 2) 4 ∷ a ∷ []) ∷ a ∷ [])) (6 ∷ []) 0 11
    ∷ record { given = plus (a ∷ times (i 4611686018427387904 ∷ i 4 ∷ i 0 ∷ a ∷ []) ∷ []); answer = over 0; weight_in = 11; weight_out = 0 }
    -- 2*3 + 4*3; "its rest if the coefficient is 1": 2*a + (-1)*a
    ∷ gives (plus (times (i 2 ∷ i 3 ∷ []) ∷ times (i 4 ∷ i 3 ∷ []) ∷ [])) 7 (i 18) (2 ∷ []) 0 1
    ∷ gives (plus (times (i 2 ∷ a ∷ []) ∷ times (minus 1 ∷ a ∷ []) ∷ [])) 11 a (2 ∷ []) 0 3
    -- "any other rest R becomes the product (coefficient, R)": R a power, R a sum
    ∷ gives (plus (raised a 2 ∷ raised a 2 ∷ [])) 11 (times (i 2 ∷ raised a 2 ∷ [])) (2 ∷ []) 0 7
    ∷ gives (plus (plus (a ∷ b ∷ []) ∷ times (i 2 ∷ plus (a ∷ b ∷ []) ∷ []) ∷ [])) 17 (times (i 3 ∷ plus (a ∷ b ∷ []) ∷ [])) (2 ∷ []) 0 9
    -- "multiply the bases; else ..": 2*2 is 4, not 2^2
    ∷ gives (times (i 2 ∷ i 2 ∷ [])) 3 (i 4) (6 ∷ []) 0 1
    -- "each later one": seven members, the first and the last alike
    ∷ gives (plus (a ∷ b ∷ c ∷ d ∷ symbol 0 4 ∷ symbol 0 5 ∷ a ∷ [])) 22 (plus (times (i 2 ∷ a ∷ []) ∷ b ∷ c ∷ d ∷ symbol 0 4 ∷ symbol 0 5 ∷ [])) (2 ∷ []) 0 21
    -- "with each member": inside a power; "from first to last": the steps 1 and then 2; "each is one opening": two at once
    ∷ gives (raised (plus (a ∷ a ∷ [])) 2) 9 (raised (times (i 2 ∷ a ∷ [])) 2) (2 ∷ []) 0 7
    ∷ gives (times (plus (i 0 ∷ a ∷ []) ∷ plus (b ∷ b ∷ []) ∷ [])) 13 (times (a ∷ i 2 ∷ b ∷ [])) (1 ∷ 2 ∷ []) 1 8
    ∷ gives (times (times (a ∷ b ∷ []) ∷ times (c ∷ a ∷ []) ∷ [])) 15 (times (raised a 2 ∷ b ∷ c ∷ [])) (6 ∷ []) 2 12
    -- "every partial sum and product, in the order named": (2^63 - 1) + 1 + (-1) is 7, (2^63 - 1) + (-1) + 1 is not; 2^62*2*(-1) is 7, 2^62*(-1)*2 is not
    ∷ record { given = plus (i 9223372036854775807 ∷ i 1 ∷ minus 1 ∷ []); answer = over 0; weight_in = 4; weight_out = 0 }
    ∷ gives (plus (i 9223372036854775807 ∷ minus 1 ∷ i 1 ∷ [])) 4 (i 9223372036854775807) (2 ∷ []) 0 1
    ∷ record { given = times (i 4611686018427387904 ∷ i 2 ∷ minus 1 ∷ []); answer = over 0; weight_in = 4; weight_out = 0 }
    ∷ gives (times (i 4611686018427387904 ∷ minus 1 ∷ i 2 ∷ [])) 4 (minus 9223372036854775808) (6 ∷ []) 0 1
    -- the greatest exponent, and one more
    ∷ gives (times (raised a 9223372036854775806 ∷ a ∷ [])) 9 (raised a 9223372036854775807) (6 ∷ []) 0 5
    ∷ record { given = times (raised a 9223372036854775807 ∷ a ∷ []); answer = over 0; weight_in = 9; weight_out = 0 }
    -- "steps completed before it", at the node itself: 0 + (2^63 - 1) + 1 is 7 at 1
    ∷ record { given = plus (i 0 ∷ i 9223372036854775807 ∷ i 1 ∷ []); answer = over 1; weight_in = 4; weight_out = 0 }
    -- 11. a^1 alone stays
    ∷ gives (raised a 1) 5 (raised a 1) ([]) 0 5
    ∷ []

-- What these three tables leave open: corners of the rules and of the driver, one line for each.
unfoldable pub corners : List Example
corners =
    -- "a member is integer 0", the last: a*0; "all members that are integer 1", the first: 1*a; two members stay: a+b+0
    gives (times (a ∷ i 0 ∷ [])) 5 (i 0) (3 ∷ []) 0 1
    ∷ gives (times (i 1 ∷ a ∷ [])) 5 a (4 ∷ []) 0 3
    ∷ gives (plus (a ∷ b ∷ i 0 ∷ [])) 8 (plus (a ∷ b ∷ [])) (1 ∷ []) 0 7
    -- "if the bases are equal, add the exponents": of two powers, of equal ones, of powers of powers; bases of either sign multiply
    ∷ gives (times (raised a 2 ∷ raised a 3 ∷ [])) 11 (raised a 5) (6 ∷ []) 0 5
    ∷ gives (times (raised a 2 ∷ raised a 2 ∷ [])) 11 (raised a 4) (6 ∷ []) 0 5
    ∷ gives (times (raised (raised a 2) 3 ∷ raised (raised a 2) 4 ∷ [])) 15 (raised (raised a 2) 7) (6 ∷ []) 0 7
    ∷ gives (times (raised (minus 2) 3 ∷ raised (i 5) 3 ∷ [])) 7 (raised (minus 10) 3) (6 ∷ []) 0 3
    -- "else coefficient times rest", 0 times a product, a power, a sum: step 2, and then step 3 gives 0; -2 is appended last
    ∷ gives (plus (times (a ∷ b ∷ []) ∷ times (minus 1 ∷ a ∷ b ∷ []) ∷ [])) 16 (i 0) (2 ∷ 3 ∷ []) 0 1
    ∷ gives (plus (raised a 2 ∷ times (minus 1 ∷ raised a 2 ∷ []) ∷ [])) 13 (i 0) (2 ∷ 3 ∷ []) 0 1
    ∷ gives (plus (plus (a ∷ b ∷ []) ∷ times (minus 1 ∷ plus (a ∷ b ∷ []) ∷ []) ∷ [])) 17 (i 0) (2 ∷ 3 ∷ []) 0 1
    ∷ gives (plus (times (a ∷ b ∷ []) ∷ times (minus 3 ∷ a ∷ b ∷ []) ∷ [])) 16 (times (a ∷ b ∷ minus 2 ∷ [])) (2 ∷ []) 0 8
    -- "the last member moves into its place", the others stay in order: a+a+b+c+d; "then the next member": a+b+c+a+b+c is one step
    ∷ gives (plus (a ∷ a ∷ b ∷ c ∷ d ∷ [])) 16 (plus (times (i 2 ∷ a ∷ []) ∷ d ∷ b ∷ c ∷ [])) (2 ∷ []) 0 15
    ∷ gives (plus (a ∷ b ∷ c ∷ a ∷ b ∷ c ∷ [])) 19 (plus (times (i 2 ∷ a ∷ []) ∷ times (i 2 ∷ b ∷ []) ∷ times (i 2 ∷ c ∷ []) ∷ [])) (2 ∷ []) 0 16
    -- "each is one opening": two sums at once; the place of 7 counts steps, and no opening before it, at the node or in an earlier member
    ∷ gives (plus (plus (a ∷ b ∷ []) ∷ plus (c ∷ d ∷ []) ∷ [])) 15 (plus (a ∷ b ∷ c ∷ d ∷ [])) [] 2 13
    ∷ record {
      given = times (times (i 4611686018427387904 ∷ a ∷ []) ∷ times (i 4 ∷ b ∷ []) ∷ []);
      answer = over 0;
      weight_in = 11;
      weight_out = 0;
    }
    ∷ record {
      given = plus (times (times (a ∷ b ∷ []) ∷ c ∷ []) ∷ times (i 4611686018427387904 ∷ i 4 ∷ []) ∷ []);
      answer = over 0;
      weight_in = 15;
      weight_out = 0;
    }
    ∷ []

-- Edition two: "Operators see a^1 and (a^2)^3 and call them unfinished."
unfoldable pub examples_two : List Example
examples_two =
    -- step 7, "exponent 1 gives the base", also where the base is 0
    gives (raised a 1) 5 a (7 ∷ []) 0 3
    ∷ gives (raised (i 0) 1) 3 (i 0) (7 ∷ []) 0 1
    -- step 8, "base 0 gives 0 and base 1 gives 1"; 2^4 and (-1)^2 stay
    ∷ gives (raised (i 0) 2) 3 (i 0) (8 ∷ []) 0 1
    ∷ gives (raised (i 1) 9) 3 (i 1) (8 ∷ []) 0 1
    ∷ gives (raised (i 2) 4) 3 (raised (i 2) 4) [] 0 3
    ∷ gives (raised (minus 1) 2) 3 (raised (minus 1) 2) [] 0 3
    -- step 9, "a power of a power gets the product of the exponents", at the outer power first
    ∷ gives (raised (raised a 2) 3) 7 (raised a 6) (9 ∷ []) 0 5
    ∷ gives (raised (raised a 1) 3) 7 (raised a 3) (9 ∷ []) 0 5
    ∷ gives (raised (raised (raised a 2) 3) 4) 9 (raised a 24) (9 ∷ 9 ∷ []) 0 5
    ∷ gives (raised (raised (i 0) 2) 3) 5 (i 0) (9 ∷ 8 ∷ []) 0 1
    -- "7 for an exponent product": (a^(2^62))^2, and one less; (a^(2^63 - 1))^1 is step 7
    ∷ record { given = raised (raised a 4611686018427387904) 2; answer = over 0; weight_in = 7; weight_out = 0 }
    ∷ gives (raised (raised a 4611686018427387903) 2) 7 (raised a 9223372036854775806) (9 ∷ []) 0 5
    ∷ gives (raised (raised a 9223372036854775807) 1) 7 (raised a 9223372036854775807) (7 ∷ []) 0 5
    -- (a+b)^1 + c is opened; (a*b)^1 * a is steps 7 and 6; (a*1)^1 is steps 7 and 4: the node before its base
    ∷ gives (plus (raised (plus (a ∷ b ∷ [])) 1 ∷ c ∷ [])) 13 (plus (a ∷ b ∷ c ∷ [])) (7 ∷ []) 1 10
    ∷ gives (times (raised (times (a ∷ b ∷ [])) 1 ∷ a ∷ [])) 13 (times (raised a 2 ∷ b ∷ [])) (7 ∷ 6 ∷ []) 1 9
    ∷ gives (raised (times (a ∷ i 1 ∷ [])) 1) 7 a (7 ∷ 4 ∷ []) 0 3
    -- what the other rules leave: (a*a)^3 is steps 6 and 9, (a + (-1)*a)^2 steps 2, 3 and 8, 0^5 * a steps 8 and 3
    ∷ gives (raised (times (a ∷ a ∷ [])) 3) 9 (raised a 6) (6 ∷ 9 ∷ []) 0 5
    ∷ gives (raised (plus (a ∷ times (minus 1 ∷ a ∷ []) ∷ [])) 2) 11 (i 0) (2 ∷ 3 ∷ 8 ∷ []) 0 1
    ∷ gives (times (raised (i 0) 5 ∷ a ∷ [])) 7 (i 0) (8 ∷ 3 ∷ []) 0 1
    -- a^1 + a is steps 7 and 2; a^1 * a is step 6 as in edition one; (a^2)^3 + (a^3)^2 gives 2*a^6
    ∷ gives (plus (raised a 1 ∷ a ∷ [])) 9 (times (i 2 ∷ a ∷ [])) (7 ∷ 2 ∷ []) 0 5
    ∷ gives (times (raised a 1 ∷ a ∷ [])) 9 (raised a 2) (6 ∷ []) 0 5
    ∷ gives (plus (raised (raised a 2) 3 ∷ raised (raised a 3) 2 ∷ [])) 15 (times (i 2 ∷ raised a 6 ∷ [])) (9 ∷ 9 ∷ 2 ∷ []) 0 7
    -- example 10 as in edition one: step 6 at the product comes first
    ∷ gives (times (raised (times (a ∷ b ∷ [])) 1 ∷ c ∷ c ∷ a ∷ [])) 19 (times (raised a 2 ∷ b ∷ raised c 2 ∷ [])) (6 ∷ 6 ∷ []) 1 14
    ∷ []

-- ---- "Which line of the sheet?": x # m is the tree x with the mark m at its root, `to_the b m e` the power of b to e, the exponent's record
-- having the mark m
abbrev ◌#◌ : Tree → ℕ → Tree
◌#◌ t m = marked m t

infixl 90 ◌#◌
abbrev to_the : Tree → ℕ → ℕ → Tree
to_the t m e = power 0 t m e

unfoldable pub examples_marked : List Example
examples_marked =
    -- "has at its root the mark that the current member had when its turn began; its coefficient .. take the same mark"
    gives (plus (a # 1 ∷ a # 2 ∷ []) # 9) 7 (times (i 2 # 1 ∷ a # 1 ∷ []) # 1) (2 ∷ []) 0 5
    ∷ gives (plus (b # 3 ∷ a # 1 ∷ a # 2 ∷ []) # 9) 10 (plus (b # 3 ∷ times (i 2 # 1 ∷ a # 1 ∷ []) # 1 ∷ []) # 9) (2 ∷ []) 0 9
    -- "merged or not": 1*a becomes a with its member's mark, and a rest keeps its own below the root
    ∷ gives (plus (times (i 1 # 5 ∷ a # 6 ∷ []) # 4 ∷ b # 1 ∷ b # 2 ∷ []) # 9) 12 (plus (a # 4 ∷ times (i 2 # 1 ∷ b # 1 ∷ []) # 1 ∷ []) # 9) (2 ∷ []) 0 9
    ∷ gives (plus (times (a # 6 ∷ i 2 # 5 ∷ []) # 4 ∷ b # 1 ∷ b # 2 ∷ []) # 9) 12
    (plus (times (i 2 # 4 ∷ a # 6 ∷ []) # 4 ∷ times (i 2 # 1 ∷ b # 1 ∷ []) # 1 ∷ []) # 9) (2 ∷ []) 0 11
    ∷ gives (plus (times (i 2 # 5 ∷ a # 6 ∷ []) # 4 ∷ times (a # 8 ∷ i 3 # 3 ∷ []) # 7 ∷ []) # 9) 11 (times (i 5 # 4 ∷ a # 6 ∷ []) # 4) (2 ∷ []) 0 5
    -- the root of a sum and of a power keeps its own as well
    ∷ gives (plus (times (i 2 # 5 ∷ plus (a # 1 ∷ b # 2 ∷ []) # 6 ∷ []) # 4 ∷ times (plus (a # 1 ∷ b # 2 ∷ []) # 7 ∷ i 3 # 3 ∷ []) # 8 ∷ []) # 9) 19
    (times (i 5 # 4 ∷ plus (a # 1 ∷ b # 2 ∷ []) # 6 ∷ []) # 4) (2 ∷ []) 0 9
    ∷ gives (plus (times (i 2 # 5 ∷ to_the (a # 1) 2 2 # 6 ∷ []) # 4 ∷ times (to_the (a # 1) 2 2 # 7 ∷ i 3 # 3 ∷ []) # 8 ∷ []) # 9) 15
    (times (i 5 # 4 ∷ to_the (a # 1) 2 2 # 6 ∷ []) # 4) (2 ∷ []) 0 7
    -- a product rest; two integers; a + (-1)*a, whose 0 is given by step 3
    ∷ gives (plus (times (a # 1 ∷ b # 2 ∷ []) # 4 ∷ times (b # 3 ∷ a # 6 ∷ []) # 5 ∷ []) # 9) 15 (times (a # 1 ∷ b # 2 ∷ i 2 # 4 ∷ []) # 4) (2 ∷ []) 0 8
    ∷ gives (plus (times (i 2 # 1 ∷ i 3 # 2 ∷ []) # 4 ∷ i 4 # 5 ∷ []) # 9) 5 (i 10 # 4) (2 ∷ []) 0 1
    ∷ gives (plus (a # 1 ∷ times (minus 1 # 3 ∷ a # 4 ∷ []) # 2 ∷ []) # 9) 9 (i 0 # 1) (2 ∷ 3 ∷ []) 0 1
    -- "A 0 or 1 that stands for an emptied node, or that step 3 .. gives, takes that node's mark. A single member that is left keeps its own"
    ∷ gives (plus (i 0 # 1 ∷ i 0 # 2 ∷ []) # 9) 3 (i 0 # 9) (1 ∷ []) 0 1
    ∷ gives (plus (i 0 # 1 ∷ a # 2 ∷ []) # 9) 5 (a # 2) (1 ∷ []) 0 3
    ∷ gives (plus (a # 1 ∷ i 2 # 5 ∷ minus 2 # 6 ∷ []) # 9) 6 (a # 1) (2 ∷ 1 ∷ []) 0 3
    ∷ gives (times (i 1 # 1 ∷ i 1 # 2 ∷ []) # 9) 3 (i 1 # 9) (4 ∷ []) 0 1
    ∷ gives (times (i 0 # 1 ∷ a # 2 ∷ []) # 9) 5 (i 0 # 9) (3 ∷ []) 0 1
    -- "its .. exponent, changed or not, and a multiplied base take the same mark", and a base keeps its own below the root
    ∷ gives (times (a # 1 ∷ a # 2 ∷ []) # 9) 7 (to_the (a # 1) 1 2 # 1) (6 ∷ []) 0 5
    ∷ gives (times (to_the (a # 2) 3 2 # 1 ∷ a # 4 ∷ []) # 9) 9 (to_the (a # 2) 1 3 # 1) (6 ∷ []) 0 5
    ∷ gives (times (to_the (a # 2) 3 1 # 1 ∷ b # 4 ∷ b # 5 ∷ []) # 9) 12 (times (a # 1 ∷ to_the (b # 4) 4 2 # 4 ∷ []) # 9) (6 ∷ []) 0 9
    ∷ gives (times (to_the (a # 2) 3 2 # 1 ∷ b # 4 ∷ b # 5 ∷ []) # 9) 12 (times (to_the (a # 2) 1 2 # 1 ∷ to_the (b # 4) 4 2 # 4 ∷ []) # 9) (6 ∷ []) 0 11
    ∷ gives (times (i 2 # 1 ∷ i 3 # 2 ∷ a # 3 ∷ []) # 9) 6 (times (i 6 # 1 ∷ a # 3 ∷ []) # 9) (6 ∷ []) 0 5
    ∷ gives (times (to_the (i 2 # 2) 3 3 # 1 ∷ to_the (i 5 # 5) 6 3 # 4 ∷ []) # 9) 7 (to_the (i 10 # 1) 1 3 # 1) (6 ∷ []) 0 3
    ∷ gives (times (to_the (i 2 # 2) 3 3 # 1 ∷ b # 4 ∷ b # 5 ∷ []) # 9) 10 (times (to_the (i 2 # 2) 1 3 # 1 ∷ to_the (b # 4) 4 2 # 4 ∷ []) # 9) (6 ∷ []) 0 9
    -- "An opened node's mark is lost"
    ∷ gives (times (times (a # 2 ∷ b # 3 ∷ []) # 1 ∷ a # 4 ∷ []) # 9) 11 (times (to_the (a # 2) 2 2 # 2 ∷ b # 3 ∷ []) # 9) (6 ∷ []) 1 9
    -- an exponent outside a walk keeps its mark
    ∷ gives (to_the (plus (a # 3 ∷ a # 4 ∷ []) # 2) 5 2 # 1) 9 (to_the (times (i 2 # 3 ∷ a # 3 ∷ []) # 3) 5 2 # 1) (2 ∷ []) 0 7
    ∷ []

-- and those of edition two
unfoldable pub examples_marked_two : List Example
examples_marked_two =
    -- "step 9 keeps the outer power's mark and its exponent's"; the base in step 7 keeps its own; step 8 takes the node's
    gives (to_the (to_the (a # 3) 4 2 # 2) 5 3 # 1) 7 (to_the (a # 3) 5 6 # 1) (9 ∷ []) 0 5
    ∷ gives (to_the (a # 2) 3 1 # 1) 5 (a # 2) (7 ∷ []) 0 3
    ∷ gives (to_the (i 0 # 2) 3 5 # 1) 3 (i 0 # 1) (8 ∷ []) 0 1
    ∷ []

-- and corners of the marks, in both editions; (a + b) # 4 is written `ab 4`, the members having the marks 1 and 2
abbrev ab : ℕ → Tree
ab m = plus (a # 1 ∷ b # 2 ∷ []) # m

unfoldable pub corners_marked : List Example
corners_marked =
    -- a product, a sum and a power as rests: the product gives up its root, and the coefficient that is appended has the member's; the others keep theirs
    gives (plus (times (i 2 # 5 ∷ times (a # 1 ∷ b # 2 ∷ []) # 6 ∷ []) # 4 ∷ times (times (a # 1 ∷ b # 2 ∷ []) # 7 ∷ i 3 # 3 ∷ []) # 8 ∷ []) # 9) 19
    (times (a # 1 ∷ b # 2 ∷ i 5 # 4 ∷ []) # 4) (2 ∷ []) 0 8
    ∷ gives (plus (ab 4 ∷ times (i 2 # 3 ∷ plus (a # 5 ∷ b # 6 ∷ []) # 7 ∷ []) # 8 ∷ []) # 9) 17 (times (i 3 # 4 ∷ ab 4 ∷ []) # 4) (2 ∷ []) 0 9
    ∷ gives (plus (to_the (a # 1) 5 2 # 4 ∷ to_the (a # 2) 6 2 # 7 ∷ []) # 9) 11 (times (i 2 # 4 ∷ to_the (a # 1) 5 2 # 4 ∷ []) # 4) (2 ∷ []) 0 7
    -- two integers: the mark of the first one
    ∷ gives (plus (i 4 # 5 ∷ times (i 2 # 1 ∷ i 3 # 2 ∷ []) # 4 ∷ []) # 9) 5 (i 10 # 5) (2 ∷ []) 0 1
    -- a rest that becomes the member: a power, its exponent keeping its own mark, and a sum, merged and not (this one is then opened)
    ∷ gives (plus (times (i 1 # 5 ∷ to_the (a # 1) 2 2 # 6 ∷ []) # 4 ∷ b # 3 ∷ b # 8 ∷ []) # 9) 14
    (plus (to_the (a # 1) 2 2 # 4 ∷ times (i 2 # 3 ∷ b # 3 ∷ []) # 3 ∷ []) # 9) (2 ∷ []) 0 11
    ∷ gives (plus (times (i 2 # 5 ∷ ab 6 ∷ []) # 4 ∷ times (minus 1 # 3 ∷ ab 7 ∷ []) # 8 ∷ []) # 9) 19 (ab 4) (2 ∷ []) 0 7
    ∷ gives (plus (times (i 1 # 5 ∷ ab 6 ∷ []) # 4 ∷ c # 3 ∷ c # 8 ∷ []) # 9) 16
    (plus (a # 1 ∷ b # 2 ∷ times (i 2 # 3 ∷ c # 3 ∷ []) # 3 ∷ []) # 9) (2 ∷ []) 1 12
    -- a base that becomes the member: a sum, an integer, a power
    ∷ gives (times (to_the (ab 6) 5 1 # 4 ∷ c # 3 ∷ c # 8 ∷ []) # 9) 16 (times (ab 4 ∷ to_the (c # 3) 3 2 # 3 ∷ []) # 9) (6 ∷ []) 0 13
    ∷ gives (times (to_the (i 2 # 6) 5 1 # 4 ∷ c # 3 ∷ c # 8 ∷ []) # 9) 10 (times (i 2 # 4 ∷ to_the (c # 3) 3 2 # 3 ∷ []) # 9) (6 ∷ []) 0 7
    ∷ gives (times (to_the (to_the (a # 1) 2 2 # 6) 5 1 # 4 ∷ c # 3 ∷ c # 8 ∷ []) # 9) 14
    (times (to_the (a # 1) 2 2 # 4 ∷ to_the (c # 3) 3 2 # 3 ∷ []) # 9) (6 ∷ []) 0 11
    -- what is its own base keeps its mark below the root: a sum, a product, an integer
    ∷ gives (times (ab 4 ∷ plus (b # 5 ∷ a # 6 ∷ []) # 7 ∷ []) # 9) 15 (to_the (ab 4) 4 2 # 4) (6 ∷ []) 0 9
    ∷ gives (times (times (a # 2 ∷ b # 3 ∷ []) # 1 ∷ to_the (times (b ∷ a ∷ []) # 7) 5 2 # 4 ∷ []) # 9) 17
    (to_the (times (a # 2 ∷ b # 3 ∷ []) # 1) 1 3 # 1) (6 ∷ []) 0 9
    ∷ gives (times (i 2 # 1 ∷ to_the (i 2 # 2) 5 3 # 4 ∷ []) # 9) 5 (to_the (i 2 # 1) 1 4 # 1) (6 ∷ []) 0 3
    -- steps 1 and 4: a single member that is left keeps its own, a node that keeps two keeps its mark; and a sum that is opened loses it
    ∷ gives (times (i 1 # 1 ∷ a # 2 ∷ []) # 9) 5 (a # 2) (4 ∷ []) 0 3
    ∷ gives (times (a # 1 ∷ i 1 # 2 ∷ b # 3 ∷ []) # 9) 8 (times (a # 1 ∷ b # 3 ∷ []) # 9) (4 ∷ []) 0 7
    ∷ gives (plus (a # 1 ∷ i 0 # 2 ∷ b # 3 ∷ []) # 9) 8 (plus (a # 1 ∷ b # 3 ∷ []) # 9) (1 ∷ []) 0 7
    ∷ gives (plus (ab 3 ∷ c # 4 ∷ []) # 9) 11 (plus (a # 1 ∷ b # 2 ∷ c # 4 ∷ []) # 9) [] 1 10
    ∷ []

-- step 8 at the base 1
unfoldable pub corners_marked_two : List Example
corners_marked_two = gives (to_the (i 1 # 2) 3 9 # 1) 3 (i 1 # 1) (8 ∷ []) 0 1 ∷ []

-- "A try is one asking, at one node, whether any rule applies": the tries of small trees, of which the paper's examples say nothing
pub record Count : Type 0 where
  pub given : Tree
  pub tries : ℕ

unfoldable pub counts : List Count
counts =
    -- a leaf is asked
    record { given = a; tries = 1 }
    -- node, base and exponent
    ∷ record { given = raised a 2; tries = 3 }
    ∷ record { given = plus (a ∷ b ∷ []); tries = 3 }
    -- one, step 2, and then the three nodes of 2*a
    ∷ record { given = plus (a ∷ a ∷ []); tries = 4 }
    -- one, step 1, and then 0
    ∷ record { given = plus (i 0 ∷ i 0 ∷ []); tries = 2 }
    ∷ record { given = times (times (a ∷ b ∷ []) ∷ a ∷ []); tries = 11 }
    ∷ record { given = times (plus (a ∷ a ∷ []) ∷ b ∷ []); tries = 10 }
    ∷ record { given = plus (times (plus (a ∷ a ∷ []) ∷ b ∷ []) ∷ c ∷ []); tries = 18 }
    ∷ record { given = raised (plus (a ∷ a ∷ [])) 2; tries = 11 }
    -- two sums in a sum: one pass, both opened, and then each record once more
    ∷ record { given = plus (plus (a ∷ b ∷ []) ∷ plus (c ∷ d ∷ []) ∷ []); tries = 12 }
    -- example 10
    ∷ record { given = times (raised (times (a ∷ b ∷ [])) 1 ∷ c ∷ c ∷ a ∷ []); tries = 18 }
    -- none is told after 7
    ∷ record { given = plus (i 9223372036854775807 ∷ i 1 ∷ []); tries = 0 }
    ∷ []

unfoldable pub tries_of : Ran → ℕ
tries_of (done t s o n) = n
tries_of (over k) = 0

unfoldable pub counted : Tree → Count
counted t = record { given = t; tries = tries_of (simplify edition_one t) }

unfoldable pub out_weight : Ran → ℕ
out_weight (done t s o n) = weight t
out_weight (over k) = 0

-- a run without its tries, of which the paper's examples say nothing
unfoldable pub untried : Ran → Ran
untried (done t s o n) = done t s o 0
untried (over k) = over k

-- what the definitions give for a tree, by a list of rules
unfoldable pub computed : List Rule → Tree → Example
computed rs t =
    record {
      given = t;
      answer = untried (simplify rs t);
      weight_in = weight t;
      weight_out = out_weight (simplify rs t);
    }

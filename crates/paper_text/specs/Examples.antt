-- Small texts, as one table: trees with their texts, texts that no tree has, and calls at the edge; each row is one that a wrong reading of the request
-- would get wrong. proofs/Computed proves the whole table by one statement.
use Rattle.std.specs.Prelude.{ℕ, List, [], ◌∷◌, pos, negsuc}
use Rattle.paper.specs.Tree.{Tree, integer, symbol, sum, product, power, nil, cons}

-- the characters ( ) * + - ^ as numbers of ASCII, whatever the definitions call them
abbrev opens : ℕ
opens = 40

abbrev closes : ℕ
closes = 41

abbrev times : ℕ
times = 42

abbrev plus : ℕ
plus = 43

abbrev minus : ℕ
minus = 45

abbrev power_sign : ℕ
power_sign = 94

-- the letter s, and the digits
abbrev s : ℕ
s = 115

abbrev d0 : ℕ
d0 = 48

abbrev d1 : ℕ
d1 = 49

abbrev d2 : ℕ
d2 = 50

abbrev d3 : ℕ
d3 = 51

abbrev d4 : ℕ
d4 = 52

abbrev d5 : ℕ
d5 = 53

abbrev d6 : ℕ
d6 = 54

abbrev d7 : ℕ
d7 = 55

abbrev d8 : ℕ
d8 = 56

abbrev d9 : ℕ
d9 = 57

pub record Spelt : Type 0 where
  pub tree : Tree
  pub chars : List ℕ

abbrev row : Tree → List ℕ → Spelt
row t l = record { tree = t; chars = l }

-- "parentheses round a sum inside anything, round a product inside a product or as a base, and round a power or a negative integer as a base, and nowhere else"
unfoldable pub spelt : List Spelt
spelt =
    -- 0
    row (integer 0 (pos 0)) (d0 ∷ [])
    -- s255
    ∷ row (symbol 0 255) (s ∷ d2 ∷ d5 ∷ d5 ∷ [])
    -- -9223372036854775808
    ∷ row (integer 0 (negsuc 9223372036854775807)) (minus ∷ d9 ∷ d2 ∷ d2 ∷ d3 ∷ d3 ∷ d7 ∷ d2 ∷ d0 ∷ d3 ∷ d6 ∷ d8 ∷ d5 ∷ d4 ∷ d7 ∷ d7 ∷ d5 ∷ d8 ∷ d0 ∷ d8 ∷ [])
    -- 9223372036854775807
    ∷ row (integer 0 (pos 9223372036854775807)) (d9 ∷ d2 ∷ d2 ∷ d3 ∷ d3 ∷ d7 ∷ d2 ∷ d0 ∷ d3 ∷ d6 ∷ d8 ∷ d5 ∷ d4 ∷ d7 ∷ d7 ∷ d5 ∷ d8 ∷ d0 ∷ d7 ∷ [])
    -- s0+-3
    ∷ row (sum 0 (cons (symbol 0 0) (cons (integer 0 (negsuc 2)) nil))) (s ∷ d0 ∷ plus ∷ minus ∷ d3 ∷ [])
    -- -3*s1
    ∷ row (product 0 (cons (integer 0 (negsuc 2)) (cons (symbol 0 1) nil))) (minus ∷ d3 ∷ times ∷ s ∷ d1 ∷ [])
    -- 2*-3
    ∷ row (product 0 (cons (integer 0 (pos 2)) (cons (integer 0 (negsuc 2)) nil))) (d2 ∷ times ∷ minus ∷ d3 ∷ [])
    -- s0+(s1+s2)
    ∷ row (sum 0 (cons (symbol 0 0) (cons (sum 0 (cons (symbol 0 1) (cons (symbol 0 2) nil))) nil)))
    (s ∷ d0 ∷ plus ∷ opens ∷ s ∷ d1 ∷ plus ∷ s ∷ d2 ∷ closes ∷ [])
    -- (s0+s1)+s2
    ∷ row (sum 0 (cons (sum 0 (cons (symbol 0 0) (cons (symbol 0 1) nil))) (cons (symbol 0 2) nil)))
    (opens ∷ s ∷ d0 ∷ plus ∷ s ∷ d1 ∷ closes ∷ plus ∷ s ∷ d2 ∷ [])
    -- s0*(s1*s2)
    ∷ row (product 0 (cons (symbol 0 0) (cons (product 0 (cons (symbol 0 1) (cons (symbol 0 2) nil))) nil)))
    (s ∷ d0 ∷ times ∷ opens ∷ s ∷ d1 ∷ times ∷ s ∷ d2 ∷ closes ∷ [])
    -- s0*s1+s2
    ∷ row (sum 0 (cons (product 0 (cons (symbol 0 0) (cons (symbol 0 1) nil))) (cons (symbol 0 2) nil))) (s ∷ d0 ∷ times ∷ s ∷ d1 ∷ plus ∷ s ∷ d2 ∷ [])
    -- (s0+1)*2
    ∷ row (product 0 (cons (sum 0 (cons (symbol 0 0) (cons (integer 0 (pos 1)) nil))) (cons (integer 0 (pos 2)) nil)))
    (opens ∷ s ∷ d0 ∷ plus ∷ d1 ∷ closes ∷ times ∷ d2 ∷ [])
    -- s0^2*s1
    ∷ row (product 0 (cons (power 0 (symbol 0 0) 0 2) (cons (symbol 0 1) nil))) (s ∷ d0 ∷ power_sign ∷ d2 ∷ times ∷ s ∷ d1 ∷ [])
    -- 1+s0^2
    ∷ row (sum 0 (cons (integer 0 (pos 1)) (cons (power 0 (symbol 0 0) 0 2) nil))) (d1 ∷ plus ∷ s ∷ d0 ∷ power_sign ∷ d2 ∷ [])
    -- (-2)^3
    ∷ row (power 0 (integer 0 (negsuc 1)) 0 3) (opens ∷ minus ∷ d2 ∷ closes ∷ power_sign ∷ d3 ∷ [])
    -- 2^3
    ∷ row (power 0 (integer 0 (pos 2)) 0 3) (d2 ∷ power_sign ∷ d3 ∷ [])
    -- (s0^2)^3
    ∷ row (power 0 (power 0 (symbol 0 0) 0 2) 0 3) (opens ∷ s ∷ d0 ∷ power_sign ∷ d2 ∷ closes ∷ power_sign ∷ d3 ∷ [])
    -- (s0*s1)^2
    ∷ row (power 0 (product 0 (cons (symbol 0 0) (cons (symbol 0 1) nil))) 0 2) (opens ∷ s ∷ d0 ∷ times ∷ s ∷ d1 ∷ closes ∷ power_sign ∷ d2 ∷ [])
    -- (s0+s1)^1
    ∷ row (power 0 (sum 0 (cons (symbol 0 0) (cons (symbol 0 1) nil))) 0 1) (opens ∷ s ∷ d0 ∷ plus ∷ s ∷ d1 ∷ closes ∷ power_sign ∷ d1 ∷ [])
    -- s0^9223372036854775807
    ∷ row (power 0 (symbol 0 0) 0 9223372036854775807)
    (s ∷ d0 ∷ power_sign ∷ d9 ∷ d2 ∷ d2 ∷ d3 ∷ d3 ∷ d7 ∷ d2 ∷ d0 ∷ d3 ∷ d6 ∷ d8 ∷ d5 ∷ d4 ∷ d7 ∷ d7 ∷ d5 ∷ d8 ∷ d0 ∷ d7 ∷ [])
    ∷ []

-- "14 text not of this form (an integer out of range and an exponent under 1 included)"
unfoldable pub formless : List (List ℕ)
formless =
    -- the empty text
    ([])
    -- (s0)
    ∷ (opens ∷ s ∷ d0 ∷ closes ∷ [])
    -- (s0+s1)
    ∷ (opens ∷ s ∷ d0 ∷ plus ∷ s ∷ d1 ∷ closes ∷ [])
    -- ((s0+s1))^2
    ∷ (opens ∷ opens ∷ s ∷ d0 ∷ plus ∷ s ∷ d1 ∷ closes ∷ closes ∷ power_sign ∷ d2 ∷ [])
    -- (s0*s1)+s2
    ∷ (opens ∷ s ∷ d0 ∷ times ∷ s ∷ d1 ∷ closes ∷ plus ∷ s ∷ d2 ∷ [])
    -- (s0^2)*s1
    ∷ (opens ∷ s ∷ d0 ∷ power_sign ∷ d2 ∷ closes ∷ times ∷ s ∷ d1 ∷ [])
    -- (s0^2)+s1
    ∷ (opens ∷ s ∷ d0 ∷ power_sign ∷ d2 ∷ closes ∷ plus ∷ s ∷ d1 ∷ [])
    -- (-2)*3
    ∷ (opens ∷ minus ∷ d2 ∷ closes ∷ times ∷ d3 ∷ [])
    -- (-2)+1
    ∷ (opens ∷ minus ∷ d2 ∷ closes ∷ plus ∷ d1 ∷ [])
    -- (2)^3
    ∷ (opens ∷ d2 ∷ closes ∷ power_sign ∷ d3 ∷ [])
    -- (s0)^3
    ∷ (opens ∷ s ∷ d0 ∷ closes ∷ power_sign ∷ d3 ∷ [])
    -- -2^3
    ∷ (minus ∷ d2 ∷ power_sign ∷ d3 ∷ [])
    -- s0^2^3
    ∷ (s ∷ d0 ∷ power_sign ∷ d2 ∷ power_sign ∷ d3 ∷ [])
    -- s0^(2)
    ∷ (s ∷ d0 ∷ power_sign ∷ opens ∷ d2 ∷ closes ∷ [])
    -- s0^0
    ∷ (s ∷ d0 ∷ power_sign ∷ d0 ∷ [])
    -- s0^-1
    ∷ (s ∷ d0 ∷ power_sign ∷ minus ∷ d1 ∷ [])
    -- s0^01
    ∷ (s ∷ d0 ∷ power_sign ∷ d0 ∷ d1 ∷ [])
    -- s0^9223372036854775808
    ∷ (s ∷ d0 ∷ power_sign ∷ d9 ∷ d2 ∷ d2 ∷ d3 ∷ d3 ∷ d7 ∷ d2 ∷ d0 ∷ d3 ∷ d6 ∷ d8 ∷ d5 ∷ d4 ∷ d7 ∷ d7 ∷ d5 ∷ d8 ∷ d0 ∷ d8 ∷ [])
    -- -0
    ∷ (minus ∷ d0 ∷ [])
    -- 01
    ∷ (d0 ∷ d1 ∷ [])
    -- +1
    ∷ (plus ∷ d1 ∷ [])
    -- --1
    ∷ (minus ∷ minus ∷ d1 ∷ [])
    -- s00
    ∷ (s ∷ d0 ∷ d0 ∷ [])
    -- s256
    ∷ (s ∷ d2 ∷ d5 ∷ d6 ∷ [])
    -- S0
    ∷ (83 ∷ d0 ∷ [])
    -- s0-3
    ∷ (s ∷ d0 ∷ minus ∷ d3 ∷ [])
    -- s0*
    ∷ (s ∷ d0 ∷ times ∷ [])
    -- s0+
    ∷ (s ∷ d0 ∷ plus ∷ [])
    -- *s0
    ∷ (times ∷ s ∷ d0 ∷ [])
    -- s0++s1
    ∷ (s ∷ d0 ∷ plus ∷ plus ∷ s ∷ d1 ∷ [])
    -- 2(3+4)
    ∷ (d2 ∷ opens ∷ d3 ∷ plus ∷ d4 ∷ closes ∷ [])
    -- (s0+s1
    ∷ (opens ∷ s ∷ d0 ∷ plus ∷ s ∷ d1 ∷ [])
    -- s0+s1)
    ∷ (s ∷ d0 ∷ plus ∷ s ∷ d1 ∷ closes ∷ [])
    -- 9223372036854775808
    ∷ (d9 ∷ d2 ∷ d2 ∷ d3 ∷ d3 ∷ d7 ∷ d2 ∷ d0 ∷ d3 ∷ d6 ∷ d8 ∷ d5 ∷ d4 ∷ d7 ∷ d7 ∷ d5 ∷ d8 ∷ d0 ∷ d8 ∷ [])
    -- -9223372036854775809
    ∷ (minus ∷ d9 ∷ d2 ∷ d2 ∷ d3 ∷ d3 ∷ d7 ∷ d2 ∷ d0 ∷ d3 ∷ d6 ∷ d8 ∷ d5 ∷ d4 ∷ d7 ∷ d7 ∷ d5 ∷ d8 ∷ d0 ∷ d9 ∷ [])
    -- 18446744073709551617
    ∷ (d1 ∷ d8 ∷ d4 ∷ d4 ∷ d6 ∷ d7 ∷ d4 ∷ d4 ∷ d0 ∷ d7 ∷ d3 ∷ d7 ∷ d0 ∷ d9 ∷ d5 ∷ d5 ∷ d1 ∷ d6 ∷ d1 ∷ d7 ∷ [])
    -- a space
    ∷ (s ∷ d0 ∷ 32 ∷ plus ∷ 32 ∷ s ∷ d1 ∷ [])
    -- a line end
    ∷ (s ∷ d0 ∷ plus ∷ s ∷ d1 ∷ 10 ∷ [])
    -- a byte over 127
    ∷ (255 ∷ [])
    ∷ []

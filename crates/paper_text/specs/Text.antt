-- Formulas as text. "Symbols are s0 to s255, with +, *, ^ and no spaces." A text is its characters, as numbers of ASCII.
use Rattle.std.specs.Prelude.{ℕ, zero, suc, ◌+◌, ◌-◌, ◌*◌, ◌/◌, ◌%◌, ◌^◌, Bool, true, false, cond, ◌&&◌, not, List, [], ◌∷◌, ◌++◌, length, ℤ, pos}
use Rattle.std.specs.Prelude.{negsuc, eqb, ltb, leb}
use Rattle.std.proofs.Math.Option.{Option, none, some}
use Rattle.paper.specs.Tree.{Tree, Forest, integer, symbol, sum, product, power, nil, cons, of_list}

-- ---- characters
abbrev pub opens : ℕ
opens = 40

abbrev pub closes : ℕ
closes = 41

abbrev pub times : ℕ
times = 42

abbrev pub plus : ℕ
plus = 43

abbrev pub minus : ℕ
minus = 45

abbrev pub power_sign : ℕ
power_sign = 94

abbrev pub ess : ℕ
ess = 115

abbrev pub nought : ℕ
nought = 48

-- ---- numbers: decimal digits, the highest first, no leading zero
-- the digits of v in front of `after`; n bounds their number
unfoldable pub digits_of : ℕ → ℕ → List ℕ → List ℕ
digits_of zero v after = after
digits_of (suc n) v after =
    cond (ltb v 10) ((nought + v) ∷ after) (digits_of n (v / 10) ((nought + v % 10) ∷ after))

-- every number of 64 bits has at most 20
unfoldable pub digits : ℕ → List ℕ
digits v = digits_of 20 v []

unfoldable pub signed_digits : ℤ → List ℕ
signed_digits (pos n) = digits n
signed_digits (negsuc n) = minus ∷ digits (suc n)

-- ---- the writer: "puts parentheses round a sum inside anything, round a product inside a product or as a base, and round a power
-- or a negative integer as a base, and nowhere else"
pub data Place : Type 0 where
  in_sum in_product as_base : Place

unfoldable pub needs : Place → Tree → Bool
needs in_sum (integer μ z) = false
needs in_sum (symbol μ s) = false
needs in_sum (sum μ f) = true
needs in_sum (product μ f) = false
needs in_sum (power μ b ξ e) = false
needs in_product (integer μ z) = false
needs in_product (symbol μ s) = false
needs in_product (sum μ f) = true
needs in_product (product μ f) = true
needs in_product (power μ b ξ e) = false
needs as_base (integer μ (pos n)) = false
needs as_base (integer μ (negsuc n)) = true
needs as_base (symbol μ s) = false
needs as_base (sum μ f) = true
needs as_base (product μ f) = true
needs as_base (power μ b ξ e) = true

unfoldable pub enclosed : Bool → List ℕ → List ℕ
enclosed true s = opens ∷ (s ++ (closes ∷ []))
enclosed false s = s

unfoldable mutual
  pub text : Tree → List ℕ
  text (integer μ z) = signed_digits z
  text (symbol μ s) = ess ∷ digits s
  text (sum μ f) = joined in_sum plus f
  text (product μ f) = joined in_product times f
  text (power μ b ξ e) = enclosed (needs as_base b) (text b) ++ (power_sign ∷ digits e)

  -- the members, each as it stands at that place, with a sign between two
  pub joined : Place → ℕ → Forest → List ℕ
  joined p sign nil = []
  joined p sign (cons t f) = enclosed (needs p t) (text t) ++ others p sign f

  pub others : Place → ℕ → Forest → List ℕ
  others p sign nil = []
  others p sign (cons t f) = sign ∷ (enclosed (needs p t) (text t) ++ others p sign f)

-- ---- the reader
abbrev pub Reading : Type 0 → Type 0
Reading A = Option (A × List ℕ)

module _ {A B : Type 0} where
  unfoldable pub then : Reading A → (A → List ℕ → Reading B) → Reading B
  then none k = none
  then (some r) k = k r.0 r.1

unfoldable pub begins : ℕ → List ℕ → Bool
begins c [] = false
begins c (x ∷ s) = eqb x c

unfoldable pub tail : List ℕ → List ℕ
tail [] = []
tail (x ∷ s) = s

unfoldable pub is_digit : ℕ → Bool
is_digit c = leb nought c && ltb c (nought + 10)

unfoldable pub digit_ahead : List ℕ → Bool
digit_ahead [] = false
digit_ahead (c ∷ s) = is_digit c

-- v with the digits that s begins with after it, and what follows them
unfoldable pub read_digits : ℕ → List ℕ → ℕ × List ℕ
read_digits v [] = (v, [])
read_digits v (c ∷ s) = cond (is_digit c) (read_digits (10 * v + (c - nought)) s) (v, c ∷ s)

-- a number below `bound`: 0 stands alone, no other begins with it
unfoldable pub below : ℕ → ℕ × List ℕ → Reading ℕ
below bound r = cond (ltb r.0 bound) (some r) none

unfoldable pub read_number : ℕ → List ℕ → Reading ℕ
read_number bound s =
    cond (digit_ahead s) (cond (begins nought s && digit_ahead (tail s)) none (below bound (read_digits 0 s))) none

unfoldable pub negative : ℕ → List ℕ → Reading Tree
negative zero s = none
negative (suc n) s = some (integer 0 (negsuc n), s)

unfoldable pub read_leaf : List ℕ → Reading Tree
read_leaf s =
    cond (begins ess s) (then (read_number 256 (tail s)) (λ v r. some (symbol 0 v, r)))
    (cond (begins minus s) (then (read_number (2 ^ 63 + 1) (tail s)) negative)
    (then (read_number (2 ^ 63) s) (λ v r. some (integer 0 (pos v), r))))

-- what was read, with or without parentheses round it
pub data Item : Type 0 where
  bare : Tree → Item
  grouped : Tree → Item

-- the tree, where its parentheses are those that the writer puts at that place
unfoldable pub fit : Bool → Tree → Option Tree
fit true t = some t
fit false t = none

unfoldable pub fits : Place → Item → Option Tree
fits p (bare t) = fit (not (needs p t)) t
fits p (grouped t) = fit (needs p t) t

unfoldable pub alone : Item → Option Tree
alone (bare t) = some t
alone (grouped t) = none

unfoldable pub also : Option Tree → Option (List Tree) → Option (List Tree)
also none l = none
also (some t) none = none
also (some t) (some l) = some (t ∷ l)

unfoldable pub all_fit : Place → List Item → Option (List Tree)
all_fit p [] = some []
all_fit p (i ∷ l) = also (fits p i) (all_fit p l)

module _ {A B : Type 0} where
  unfoldable pub leaving : List ℕ → (A → B) → Option A → Reading B
  leaving s g none = none
  leaving s g (some a) = some (g a, s)

unfoldable pub closed : Tree → List ℕ → Reading Item
closed t s = cond (begins closes s) (some (grouped t, tail s)) none

unfoldable pub exponent_after : Tree → List ℕ → ℕ → List ℕ → Reading Item
exponent_after b s zero r = none
exponent_after b s (suc e) r = some (bare (power 0 b 0 (suc e)), r)

unfoldable pub raised_by : List ℕ → Option Tree → Reading Item
raised_by s none = none
raised_by s (some b) = then (read_number (2 ^ 63) s) (exponent_after b s)

-- as many more members as there are signs; n bounds their number
unfoldable pub read_others : (List ℕ → Reading Item) → ℕ → ℕ → List ℕ → Reading (List Item)
read_others r sign zero s = some ([], s)
read_others r sign (suc n) s =
    cond (begins sign s)
    (then (r (tail s)) (λ i s'. then (read_others r sign n s') (λ l s''. some (i ∷ l, s''))))
    (some ([], s))

-- "A sum is read from products, a product from powers, a power from a base that may hold a sum again": `inner` reads that sum
module _ (inner : List ℕ → Reading Tree) where
  unfoldable pub read_base : List ℕ → Reading Item
  read_base s = cond (begins opens s) (then (inner (tail s)) closed) (then (read_leaf s) (λ t r. some (bare t, r)))

  unfoldable pub read_power : List ℕ → Reading Item
  read_power s =
      then (read_base s) (λ i r. cond (begins power_sign r) (raised_by (tail r) (fits as_base i)) (some (i, r)))

  unfoldable pub product_from : Item → List ℕ → List Item → Reading Item
  product_from i r [] = some (i, r)
  product_from i r (j ∷ l) = leaving r (λ ts. bare (product 0 (of_list ts))) (all_fit in_product (i ∷ j ∷ l))

  unfoldable pub read_product : List ℕ → Reading Item
  read_product s = then (read_power s) (λ i r. then (read_others read_power times (length r) r) (λ l q. product_from i q l))

  unfoldable pub sum_from : Item → List ℕ → List Item → Reading Tree
  sum_from i r [] = leaving r (λ t. t) (alone i)
  sum_from i r (j ∷ l) = leaving r (λ ts. sum 0 (of_list ts)) (all_fit in_sum (i ∷ j ∷ l))

  unfoldable pub read_sum : List ℕ → Reading Tree
  read_sum s = then (read_product s) (λ i r. then (read_others read_product plus (length r) r) (λ l q. sum_from i q l))

-- at most n parentheses deep
unfoldable pub read_within : ℕ → List ℕ → Reading Tree
read_within zero s = none
read_within (suc n) s = read_sum (λ q. read_within n q) s

unfoldable pub whole : Reading Tree → Option Tree
whole none = none
whole (some r) = cond (ltb 0 (length r.1)) none (some r.0)

-- the tree of a text, where it has one: its length is more than deep enough
unfoldable pub read_text : List ℕ → Option Tree
read_text s = whole (read_within (suc (length s)) s)

-- Reading what was written gives the same tree: one level of a text is read member by member, a group by the reader of the sum inside it;
-- so by induction on the depth, with the number of records as its bound.
use Prim.Native.Nat.{ℕ, zero, suc, ◌+◌, ◌/◌, ◌%◌, ◌^◌, ◌<◌, ◌≤◌}
use mathlib.Core.Path.{◌≡◌, refl, subst}
use mathlib.Core.Bool.{Bool, true, false, cond}
use mathlib.Core.List.{List, [], ◌∷◌, ◌++◌, append_assoc, append-nil}
use mathlib.Core.Option.{some}
use native.Mathlib.Omega.{arith}
use borrow.Author.Tests.{eq-eqb}
use lib.Dec.{ltb}
use lib.ListN.{length, length-append}
use lib.IntN.{pos, negsuc}
use Rattle.paper.specs.Tree.{Tree, Forest, integer, symbol, sum, product, power, nil, cons, count, to_list, records, recordses}
use Rattle.paper.specs.WellFormed.{WF, WFs}
use Rattle.paper_text.specs.Text.{opens, closes, times, plus, minus, power_sign, ess, nought, digits, signed_digits, Place, in_sum, in_product, as_base}
use Rattle.paper_text.specs.Text.{needs, enclosed, text, joined, others, Reading, then, begins, tail, digit_ahead, is_digit, negative, read_leaf}
use Rattle.paper_text.specs.Text.{Item, bare, grouped, fit, fits, alone, also, all_fit, leaving, closed, exponent_after, raised_by, read_others}
use Rattle.paper_text.specs.Text.{read_base, read_power, product_from, read_product, sum_from, read_sum, read_within, whole, read_text, digits_of}
use Rattle.paper.specs.Erased.{erase, erases}
use Rattle.paper.proofs.Tests.{true_not_false}
use Rattle.paper.proofs.WFLaws.{of_to_list}
use Rattle.paper.proofs.EncodeLaws.{records_pos}
use Rattle.paper_text.proofs.DigitLaws.{number_read, digits_ahead, no_sign}

-- a member as it is read
unfoldable pub item_of : Bool → Tree → Item
item_of true t = grouped t
item_of false t = bare t

unfoldable pub items_of : Place → Forest → List Item
items_of p nil = []
items_of p (cons t f) = item_of (needs p t) (erase t) ∷ items_of p f

-- parentheses do not go by marks
pub needs_erased : (p : Place) (t : Tree) → needs p (erase t) ≡ needs p t
unfolding needs erase
needs_erased in_sum (integer μ z) = refl
needs_erased in_sum (symbol μ s) = refl
needs_erased in_sum (sum μ f) = refl
needs_erased in_sum (product μ f) = refl
needs_erased in_sum (power μ b ξ e) = refl
needs_erased in_product (integer μ z) = refl
needs_erased in_product (symbol μ s) = refl
needs_erased in_product (sum μ f) = refl
needs_erased in_product (product μ f) = refl
needs_erased in_product (power μ b ξ e) = refl
needs_erased as_base (integer μ (pos n)) = refl
needs_erased as_base (integer μ (negsuc n)) = refl
needs_erased as_base (symbol μ s) = refl
needs_erased as_base (sum μ f) = refl
needs_erased as_base (product μ f) = refl
needs_erased as_base (power μ b ξ e) = refl

-- its parentheses are right there
pub item_fits : (p : Place) (t : Tree) → fits p (item_of (needs p t) (erase t)) ≡ some (erase t)
unfolding fits fit item_of
item_fits p t = go (needs p t) (needs_erased p t)
  where
    go : (b : Bool) → needs p (erase t) ≡ b → fits p (item_of b (erase t)) ≡ some (erase t)
    go true e = rw e
    go false e = rw e

pub items_fit : (p : Place) (f : Forest) → all_fit p (items_of p f) ≡ some (to_list (erases f))
unfolding all_fit items_of also to_list erases
items_fit p nil = refl
items_fit p (cons t f) = rw (item_fits p t, items_fit p f)

-- ---- leaves
not_negative : (n : ℕ) (rest : List ℕ) → n < 2 ^ 63 → digit_ahead rest ≡ false → read_leaf (digits n ++ rest) ≡ some (integer 0 (pos n), rest)
unfolding read_leaf then is_digit
not_negative n rest h d =
    let g : n < 10 ^ 20 = omega (arith, h) in
    let a = digits_ahead n rest g in
    rw (no_sign ess (digits n ++ rest) refl a, no_sign minus (digits n ++ rest) refl a, number_read (2 ^ 63) n rest h g d)

is_negative : (n : ℕ) (rest : List ℕ) → n < 2 ^ 63 → digit_ahead rest ≡ false → read_leaf (minus ∷ (digits (suc n) ++ rest)) ≡ some (integer 0 (negsuc n), rest)
unfolding read_leaf then begins tail negative
is_negative n rest h d = rw (number_read (2 ^ 63 + 1) (suc n) rest (omega (arith, h)) (omega (arith, h)) d)

is_symbol : (v : ℕ) (rest : List ℕ) → v < 256 → digit_ahead rest ≡ false → read_leaf (ess ∷ (digits v ++ rest)) ≡ some (symbol 0 v, rest)
unfolding read_leaf then begins tail
is_symbol v rest h d = rw (number_read 256 v rest h (omega (arith, h)) d)

-- ---- lists of members: each is read where `Stop` holds of what follows, as it does where the sign comes next
module _ (r : List ℕ → Reading Item) (p : Place) (sign : ℕ) (Stop : List ℕ → Type 0) (goes_on : (s : List ℕ) → Stop (sign ∷ s)) where
  abbrev Reads : Forest → Type 0
  Reads nil = Unit {0}
  Reads (cons t f) = ((rest : List ℕ) → Stop rest → r (enclosed (needs p t) (text t) ++ rest) ≡ some (item_of (needs p t) (erase t), rest)) × Reads f

  stop_after : (f : Forest) (rest : List ℕ) → Stop rest → Stop (others p sign f ++ rest)
  unfolding others
  stop_after nil rest h = h
  stop_after (cons t f) rest h = goes_on ((enclosed (needs p t) (text t) ++ others p sign f) ++ rest)

  others_long : (f : Forest) (rest : List ℕ) → count f ≤ length (others p sign f ++ rest)
  unfolding others count
  others_long nil rest = omega arith
  others_long (cons t f) rest =
      simp length-append
      (let l = others_long f rest in let e = length-append (others p sign f) rest in omega (arith, l, e))

  others_read : (f : Forest) (k : ℕ) (rest : List ℕ) → Reads f → count f ≤ k → Stop rest → begins sign rest ≡ false
      → read_others r sign k (others p sign f ++ rest) ≡ some (items_of p f, rest)
  unfolding others read_others items_of count begins tail then
  others_read nil zero rest g l h b = refl
  others_read nil (suc k) rest g l h b = rw b
  others_read (cons t f) zero rest g l h b = absurd (omega (arith, l))
  others_read (cons t f) (suc k) rest g l h b =
      rw (
        eq-eqb sign sign refl,
        append_assoc (enclosed (needs p t) (text t)) (others p sign f) rest,
        g.0 (others p sign f ++ rest) (stop_after f rest h),
        others_read f k rest g.1 (omega (arith, l)) h b,
      )

pub none_follows : (r : List ℕ → Reading Item) (sign k : ℕ) (rest : List ℕ) → begins sign rest ≡ false → read_others r sign k rest ≡ some ([], rest)
unfolding read_others
none_follows r sign zero rest b = refl
none_follows r sign (suc k) rest b = rw b

-- what may follow a factor, and a term
pub record FactorStop (s : List ℕ) : Type 0 where
  pub no_digit : digit_ahead s ≡ false
  pub no_raise : begins power_sign s ≡ false

pub record TermStop (s : List ℕ) : Type 0 where
  pub no_digit : digit_ahead s ≡ false
  pub no_raise : begins power_sign s ≡ false
  pub no_times : begins times s ≡ false

times_stops : (s : List ℕ) → FactorStop (times ∷ s)
unfolding digit_ahead begins is_digit
times_stops s = record { no_digit = refl; no_raise = refl }

plus_stops : (s : List ℕ) → TermStop (plus ∷ s)
unfolding digit_ahead begins is_digit
plus_stops s = record { no_digit = refl; no_raise = refl; no_times = refl }

-- ---- one level, where `inner` reads the trees of fewer than N records before a closing parenthesis
module _ (inner : List ℕ → Reading Tree) (N : ℕ)
    (reads : (t : Tree) (rest : List ℕ) → WF t → records t < N → inner (text t ++ (closes ∷ rest)) ≡ some (erase t, closes ∷ rest)) where
  group_read : (t : Tree) (rest : List ℕ) → WF t → records t < N → read_base inner ((opens ∷ (text t ++ (closes ∷ []))) ++ rest) ≡ some
      (grouped (erase t), rest)
  unfolding read_base begins tail then closed
  group_read t rest w h = rw (append_assoc (text t) (closes ∷ []) rest, reads t rest w h)

  -- a leaf at the start of a level
  leaf_base : (s rest : List ℕ) (t : Tree) → begins opens s ≡ false → read_leaf s ≡ some (t, rest) → read_base inner s ≡ some (bare t, rest)
  unfolding read_base then
  leaf_base s rest t b e = rw (b, e)

  pub base_read : (t : Tree) (rest : List ℕ) → WF t → records t < N → digit_ahead rest ≡ false
      → read_base inner (enclosed (needs as_base t) (text t) ++ rest) ≡ some (item_of (needs as_base t) (erase t), rest)
  unfolding needs enclosed text item_of signed_digits begins is_digit erase
  base_read (integer μ (pos n)) rest w h d =
      leaf_base (digits n ++ rest) rest (integer 0 (pos n))
      (no_sign opens (digits n ++ rest) refl (digits_ahead n rest (let v = w.0 in omega (arith, v)))) (not_negative n rest w.0 d)
  base_read (integer μ (negsuc n)) rest w h d = group_read (integer μ (negsuc n)) rest w h
  base_read (symbol μ v) rest w h d = leaf_base (ess ∷ (digits v ++ rest)) rest (symbol 0 v) refl (is_symbol v rest w.0 d)
  base_read (sum μ f) rest w h d = group_read (sum μ f) rest w h
  base_read (product μ f) rest w h d = group_read (product μ f) rest w h
  base_read (power μ b ξ e) rest w h d = group_read (power μ b ξ e) rest w h

  -- nothing is raised
  no_power : (s rest : List ℕ) (i : Item) → begins power_sign rest ≡ false → read_base inner s ≡ some (i, rest) → read_power inner s ≡ some (i, rest)
  unfolding read_power then
  no_power s rest i b e = rw (e, b)

  raised_read : (b : Tree) (e : ℕ) (rest : List ℕ) → 1 ≤ e → e < 2 ^ 63 → digit_ahead rest ≡ false
      → raised_by (digits e ++ rest) (some b) ≡ some (bare (power 0 b 0 e), rest)
  unfolding raised_by then exponent_after
  raised_read b zero rest h g d = absurd (omega (arith, h))
  raised_read b (suc e) rest h g d = rw (number_read (2 ^ 63) (suc e) rest g (omega (arith, g)) d)

  power_goes : (b : Tree) (e : ℕ) (rest : List ℕ) → WF b → 1 ≤ e → e < 2 ^ 63 → records b < N → digit_ahead rest ≡ false
      → read_power inner ((enclosed (needs as_base b) (text b) ++ (power_sign ∷ digits e)) ++ rest) ≡ some (bare (power 0 (erase b) 0 e), rest)
  unfolding read_power then begins tail digit_ahead is_digit
  power_goes b e rest w h g l d =
      rw (
        append_assoc (enclosed (needs as_base b) (text b)) (power_sign ∷ digits e) rest,
        base_read b (power_sign ∷ (digits e ++ rest)) w l refl,
        item_fits as_base b,
      )
      (raised_read (erase b) e rest h g d)

  -- what stands bare among factors: a leaf or a power
  pub bare_read : (t : Tree) (rest : List ℕ) → needs in_product t ≡ false → WF t → records t ≤ N → digit_ahead rest ≡ false → begins power_sign rest ≡ false
      → read_power inner (text t ++ rest) ≡ some (bare (erase t), rest)
  unfolding needs text signed_digits begins is_digit records erase
  bare_read (integer μ (pos n)) rest q w h d p =
      no_power (digits n ++ rest) rest (bare (integer 0 (pos n))) p
      (leaf_base (digits n ++ rest) rest (integer 0 (pos n))
      (no_sign opens (digits n ++ rest) refl (digits_ahead n rest (let v = w.0 in omega (arith, v)))) (not_negative n rest w.0 d))
  bare_read (integer μ (negsuc n)) rest q w h d p =
      no_power (minus ∷ (digits (suc n) ++ rest)) rest (bare (integer 0 (negsuc n))) p
      (leaf_base (minus ∷ (digits (suc n) ++ rest)) rest (integer 0 (negsuc n)) refl (is_negative n rest w.0 d))
  bare_read (symbol μ v) rest q w h d p =
      no_power (ess ∷ (digits v ++ rest)) rest (bare (symbol 0 v)) p (leaf_base (ess ∷ (digits v ++ rest)) rest (symbol 0 v) refl (is_symbol v rest w.0 d))
  bare_read (sum μ f) rest q w h d p = absurd (true_not_false refl q)
  bare_read (product μ f) rest q w h d p = absurd (true_not_false refl q)
  bare_read (power μ b ξ e) rest q w h d p = power_goes b e rest w.0 w.1 w.2 (omega (arith, h)) d

  -- a factor, in parentheses or not
  pub factor_read : (t : Tree) (rest : List ℕ) → WF t → records t < N → digit_ahead rest ≡ false → begins power_sign rest ≡ false
      → read_power inner (enclosed (needs in_product t) (text t) ++ rest) ≡ some (item_of (needs in_product t) (erase t), rest)
  unfolding enclosed item_of
  factor_read t rest w h d p = go (needs in_product t) refl
    where
      go : (b : Bool) → needs in_product t ≡ b → read_power inner (enclosed b (text t) ++ rest) ≡ some (item_of b (erase t), rest)
      go true e = no_power ((opens ∷ (text t ++ (closes ∷ []))) ++ rest) rest (grouped (erase t)) p (group_read t rest w h)
      go false e = bare_read t rest e w (omega (arith, h)) d p

  factors_read : (f : Forest) → WFs f → recordses f < N → Reads (read_power inner) in_product times FactorStop times_stops f
  unfolding recordses
  factors_read nil w h = tt
  factors_read (cons t f) w h =
      ((λ rest s. factor_read t rest w.0 (omega (arith, h)) s.no_digit s.no_raise), factors_read f w.1 (omega (arith, h)))

  product_read : (t u : Tree) (g : Forest) (rest : List ℕ) → WFs (cons t (cons u g)) → recordses (cons t (cons u g)) < N → TermStop rest
      → read_product inner (joined in_product times (cons t (cons u g)) ++ rest) ≡ some (bare (product 0 (erases (cons t (cons u g)))), rest)
  unfolding read_product joined then product_from leaving items_of
  product_read t u g rest w h s =
      let fs : FactorStop rest = record { no_digit = s.no_digit; no_raise = s.no_raise } in
      let rs = factors_read (cons t (cons u g)) w h in
      let more = others in_product times (cons u g) ++ rest in
      rw (
        append_assoc (enclosed (needs in_product t) (text t)) (others in_product times (cons u g)) rest,
        rs.0 more (stop_after (read_power inner) in_product times FactorStop times_stops (cons u g) rest fs),
        others_read (read_power inner) in_product times FactorStop times_stops (cons u g) (length more) rest rs.1
            (others_long (read_power inner) in_product times FactorStop times_stops (cons u g) rest) fs s.no_times,
        items_fit in_product (cons t (cons u g)),
        of_to_list (erases (cons t (cons u g))),
      )

  -- no other factor
  no_times_after : (s rest : List ℕ) (i : Item) → begins times rest ≡ false → read_power inner s ≡ some (i, rest) → read_product inner s ≡ some (i, rest)
  unfolding read_product then product_from
  no_times_after s rest i b e = rw (e, none_follows (read_power inner) times (length rest) rest b)

  -- what stands bare among terms
  pub bare_term : (t : Tree) (rest : List ℕ) → needs in_sum t ≡ false → WF t → records t ≤ N → TermStop rest
      → read_product inner (text t ++ rest) ≡ some (bare (erase t), rest)
  unfolding needs text records count erase
  bare_term (integer μ z) rest q w h s =
      no_times_after (text (integer μ z) ++ rest) rest (bare (integer 0 z)) s.no_times (bare_read (integer μ z) rest refl w h s.no_digit s.no_raise)
  bare_term (symbol μ v) rest q w h s =
      no_times_after (text (symbol μ v) ++ rest) rest (bare (symbol 0 v)) s.no_times (bare_read (symbol μ v) rest refl w h s.no_digit s.no_raise)
  bare_term (sum μ f) rest q w h s = absurd (true_not_false refl q)
  bare_term (product μ nil) rest q w h s = absurd (omega (arith, w.0))
  bare_term (product μ (cons t nil)) rest q w h s = absurd (omega (arith, w.0))
  bare_term (product μ (cons t (cons u g))) rest q w h s = product_read t u g rest w.1 (omega (arith, h)) s
  bare_term (power μ b ξ e) rest q w h s =
      no_times_after (text (power μ b ξ e) ++ rest) rest (bare (power 0 (erase b) 0 e)) s.no_times
      (bare_read (power μ b ξ e) rest refl w h s.no_digit s.no_raise)

  -- a term, in parentheses or not
  pub term_read : (t : Tree) (rest : List ℕ) → WF t → records t < N → TermStop rest
      → read_product inner (enclosed (needs in_sum t) (text t) ++ rest) ≡ some (item_of (needs in_sum t) (erase t), rest)
  unfolding enclosed item_of
  term_read t rest w h s = go (needs in_sum t) refl
    where
      go : (b : Bool) → needs in_sum t ≡ b → read_product inner (enclosed b (text t) ++ rest) ≡ some (item_of b (erase t), rest)
      go true e =
          no_times_after ((opens ∷ (text t ++ (closes ∷ []))) ++ rest) rest (grouped (erase t)) s.no_times
          (no_power ((opens ∷ (text t ++ (closes ∷ []))) ++ rest) rest (grouped (erase t)) s.no_raise (group_read t rest w h))
      go false e = bare_term t rest e w (omega (arith, h)) s

  terms_read : (f : Forest) → WFs f → recordses f < N → Reads (read_product inner) in_sum plus TermStop plus_stops f
  unfolding recordses
  terms_read nil w h = tt
  terms_read (cons t f) w h = ((λ rest s. term_read t rest w.0 (omega (arith, h)) s), terms_read f w.1 (omega (arith, h)))

  sum_goes : (t u : Tree) (g : Forest) (rest : List ℕ) → WFs (cons t (cons u g)) → recordses (cons t (cons u g)) < N → TermStop rest → begins plus rest ≡ false
      → read_sum inner (joined in_sum plus (cons t (cons u g)) ++ rest) ≡ some (sum 0 (erases (cons t (cons u g))), rest)
  unfolding read_sum joined then sum_from leaving items_of
  sum_goes t u g rest w h s b =
      let rs = terms_read (cons t (cons u g)) w h in
      let more = others in_sum plus (cons u g) ++ rest in
      rw (
        append_assoc (enclosed (needs in_sum t) (text t)) (others in_sum plus (cons u g)) rest,
        rs.0 more (stop_after (read_product inner) in_sum plus TermStop plus_stops (cons u g) rest s),
        others_read (read_product inner) in_sum plus TermStop plus_stops (cons u g) (length more) rest rs.1
            (others_long (read_product inner) in_sum plus TermStop plus_stops (cons u g) rest) s b,
        items_fit in_sum (cons t (cons u g)),
        of_to_list (erases (cons t (cons u g))),
      )

  no_plus_after : (s rest : List ℕ) (t : Tree) → begins plus rest ≡ false → read_product inner s ≡ some (bare t, rest) → read_sum inner s ≡ some (t, rest)
  unfolding read_sum then sum_from alone leaving
  no_plus_after s rest t b e = rw (e, none_follows (read_product inner) plus (length rest) rest b)

  pub sum_read : (t : Tree) (rest : List ℕ) → WF t → records t ≤ N → TermStop rest → begins plus rest ≡ false
      → read_sum inner (text t ++ rest) ≡ some (erase t, rest)
  unfolding text records count needs erase
  sum_read (integer μ z) rest w h s b = no_plus_after (text (integer μ z) ++ rest) rest (integer 0 z) b (bare_term (integer μ z) rest refl w h s)
  sum_read (symbol μ v) rest w h s b = no_plus_after (text (symbol μ v) ++ rest) rest (symbol 0 v) b (bare_term (symbol μ v) rest refl w h s)
  sum_read (sum μ nil) rest w h s b = absurd (omega (arith, w.0))
  sum_read (sum μ (cons t nil)) rest w h s b = absurd (omega (arith, w.0))
  sum_read (sum μ (cons t (cons u g))) rest w h s b = sum_goes t u g rest w.1 (omega (arith, h)) s b
  sum_read (product μ f) rest w h s b = no_plus_after (text (product μ f) ++ rest) rest (product 0 (erases f)) b (bare_term (product μ f) rest refl w h s)
  sum_read (power μ c ξ e) rest w h s b =
      no_plus_after (text (power μ c ξ e) ++ rest) rest (power 0 (erase c) 0 e) b (bare_term (power μ c ξ e) rest refl w h s)

-- ---- the whole
pub closes_stops : (s : List ℕ) → TermStop (closes ∷ s)
unfolding digit_ahead begins is_digit
closes_stops s = record { no_digit = refl; no_raise = refl; no_times = refl }

pub within_read : (n : ℕ) (t : Tree) (rest : List ℕ) → WF t → records t ≤ n → TermStop rest → begins plus rest ≡ false
    → read_within (suc n) (text t ++ rest) ≡ some (erase t, rest)
unfolding read_within begins
within_read zero t rest w h s b = let p = records_pos t in absurd (omega (arith, h, p))
within_read (suc m) t rest w h s b =
    sum_read (λ q. read_within (suc m) q) (suc m) (λ u more v l. within_read m u (closes ∷ more) v (omega (arith, l)) (closes_stops more) refl) t rest w h s b

-- a text has a character for each record, at the least
digits_some : (n v : ℕ) (after : List ℕ) → length after ≤ length (digits_of n v after)
unfolding digits_of
digits_some zero v after = omega arith
digits_some (suc n) v after = go (ltb v 10) (digits_some n (v / 10) ((nought + v % 10) ∷ after))
  where
    go : (b : Bool) → length ((nought + v % 10) ∷ after) ≤ length (digits_of n (v / 10) ((nought + v % 10) ∷ after))
        → length after ≤ length (cond b ((nought + v) ∷ after) (digits_of n (v / 10) ((nought + v % 10) ∷ after)))
    go true ih = omega arith
    go false ih = omega (arith, ih)

pub digits_one : (v : ℕ) → 1 ≤ length (digits v)
unfolding digits digits_of
digits_one v = go (ltb v 10) (digits_some 19 (v / 10) ((nought + v % 10) ∷ []))
  where
    go : (b : Bool) → 1 ≤ length (digits_of 19 (v / 10) ((nought + v % 10) ∷ []))
        → 1 ≤ length (cond b ((nought + v) ∷ []) (digits_of 19 (v / 10) ((nought + v % 10) ∷ [])))
    go true ih = omega arith
    go false ih = ih

pub enclosed_long : (b : Bool) (s : List ℕ) → length s ≤ length (enclosed b s)
unfolding enclosed
enclosed_long true s = let e = length-append s (closes ∷ []) in omega (arith, e)
enclosed_long false s = omega arith

mutual
  unfolding text signed_digits records count

  pub text_long : (t : Tree) → WF t → records t ≤ length (text t)
  text_long (integer μ (pos n)) w = digits_one n
  text_long (integer μ (negsuc n)) w = omega arith
  text_long (symbol μ v) w = omega arith
  text_long (sum μ f) w = joined_long in_sum plus f w.0 w.1
  text_long (product μ f) w = joined_long in_product times f w.0 w.1
  text_long (power μ b ξ e) w =
      let l = text_long b w.0 in
      let c = enclosed_long (needs as_base b) (text b) in
      let d = digits_one e in
      let a = length-append (enclosed (needs as_base b) (text b)) (power_sign ∷ digits e) in
      omega (arith, l, c, d, a)

  joined_long : (p : Place) (sign : ℕ) (f : Forest) → 2 ≤ count f → WFs f → 1 + recordses f ≤ length (joined p sign f)
  joined_long p sign nil h w = absurd (omega (arith, h))
  joined_long p sign (cons t f) h w =
      let l = text_long t w.0 in
      let c = enclosed_long (needs p t) (text t) in
      let o = others_longer p sign f w.1 in
      let a = length-append (enclosed (needs p t) (text t)) (others p sign f) in
      omega (arith, l, c, o, a, h)

  others_longer : (p : Place) (sign : ℕ) (f : Forest) → WFs f → count f + recordses f ≤ length (others p sign f)
  others_longer p sign nil w = omega arith
  others_longer p sign (cons t f) w =
      let l = text_long t w.0 in
      let c = enclosed_long (needs p t) (text t) in
      let o = others_longer p sign f w.1 in
      let a = length-append (enclosed (needs p t) (text t)) (others p sign f) in
      omega (arith, l, c, o, a)

pub nothing_stops : TermStop []
unfolding digit_ahead begins
nothing_stops = record { no_digit = refl; no_raise = refl; no_times = refl }

-- "Reading what was written gives the same": the text of a well-formed tree is read as that tree, without its marks
pub text_read : (t : Tree) → WF t → read_text (text t) ≡ some (erase t)
unfolding read_text whole begins
text_read t w =
    let e : text t ++ [] ≡ text t = append-nil (text t) in
    rw (subst (λ (s : List ℕ). read_within (suc (length (text t))) s ≡ some (erase t, [])) e
    (within_read (length (text t)) t [] w (text_long t w) nothing_stops refl))

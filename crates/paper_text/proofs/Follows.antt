-- One level read by two readers of groups: where the second reads each group that the first reads, and alike, it reads the whole alike.
-- Each reader is followed along its branches, as in ReadTold; `P` holds of every place of the text that is come to.
use Prim.Native.Nat.{ℕ, zero, suc, ◌+◌, ◌-◌, ◌*◌, ◌^◌}
use mathlib.Core.Path.{◌≡◌, refl, ap, subst}
use mathlib.Core.Bool.{Bool, true, false, cond, ◌&&◌, not}
use mathlib.Core.List.{List, [], ◌∷◌}
use mathlib.Core.Option.{Option, none, some}
use native.Mathlib.Omega.{arith}
use borrow.Author.Tests.{ne_eqb, leb-true}
use lib.Dec.{eqb, ltb, leb}
use lib.ListN.{length}
use lib.IntN.{pos}
use Rattle.paper.proofs.Tests.{and_left}
use Rattle.paper.specs.Tree.{Tree, integer, symbol, sum, product, power, of_list}
use Rattle.paper_text.specs.Text.{opens, closes, times, plus, minus, power_sign, ess, nought, Place, in_sum, in_product, as_base}
use Rattle.paper_text.specs.Text.{needs, Reading, then, begins, tail, digit_ahead, is_digit, read_digits, below, read_number, negative, read_leaf}
use Rattle.paper_text.specs.Text.{Item, bare, grouped, fit, fits, alone, also, all_fit, leaving, closed, exponent_after, raised_by, read_others}
use Rattle.paper_text.specs.Text.{read_base, read_power, product_from, read_product, sum_from, read_sum}
use Rattle.paper_text.proofs.ReadTold.{Told, then_told, cond_told, begins_is}

-- ---- readings
module _ {A : Type 0} (R : A → A → Type 0) (P : List ℕ → Type 0) where
  abbrev pub Follows : Reading A → Reading A → Type 0
  Follows none y = Unit {0}
  Follows (some x) none = ⊥
  Follows (some x) (some y) = R x.0 y.0 × (x.1 ≡ y.1) × P x.1

pub then_follows : {A B : Type 0} (R : A → A → Type 0) (S : B → B → Type 0) (P Q : List ℕ → Type 0) (o o' : Reading A) (k k' : A → List ℕ → Reading B)
    → Follows R P o o' → ((a b : A) (s : List ℕ) → R a b → P s → Follows S Q (k a s) (k' b s)) → Follows S Q (then o k) (then o' k')
unfolding then
then_follows R S P Q none o' k k' h g = tt
then_follows R S P Q (some x) none k k' h g = absurd h
then_follows R S P Q (some x) (some y) k k' h g =
    subst (λ (s : List ℕ). Follows S Q (k x.0 x.1) (k' y.0 s)) h.1 (g x.0 y.0 x.1 h.0 h.2)

pub cond_follows : {B : Type 0} (S : B → B → Type 0) (P : List ℕ → Type 0) (b : Bool) (x y x' y' : Reading B)
    → (b ≡ true → Follows S P x x') → (b ≡ false → Follows S P y y') → Follows S P (cond b x y) (cond b x' y')
cond_follows S P true x y x' y' f g = f refl
cond_follows S P false x y x' y' f g = g refl

-- the same reading twice
pub follows_self : {A : Type 0} (R : A → A → Type 0) (P : List ℕ → Type 0) (o : Reading A) → ((a : A) → R a a) → Told (λ a s. P s) o → Follows R P o o
follows_self R P none r h = tt
follows_self R P (some x) r h = (r x.0, refl, h)

-- ---- items
module _ (R : Tree → Tree → Type 0) where
  abbrev pub Like : Item → Item → Type 0
  Like (bare t) (bare u) = R t u
  Like (bare t) (grouped u) = ⊥
  Like (grouped t) (bare u) = ⊥
  Like (grouped t) (grouped u) = R t u

  abbrev pub Likes : List Item → List Item → Type 0
  Likes [] [] = Unit {0}
  Likes [] (j ∷ m) = ⊥
  Likes (i ∷ l) [] = ⊥
  Likes (i ∷ l) (j ∷ m) = Like i j × Likes l m

  abbrev pub AllLike : List Tree → List Tree → Type 0
  AllLike [] [] = Unit {0}
  AllLike [] (u ∷ m) = ⊥
  AllLike (t ∷ l) [] = ⊥
  AllLike (t ∷ l) (u ∷ m) = R t u × AllLike l m

  abbrev OneLike : Option Tree → Option Tree → Type 0
  OneLike none none = Unit {0}
  OneLike none (some u) = ⊥
  OneLike (some t) none = ⊥
  OneLike (some t) (some u) = R t u

  abbrev SomeLike : Option (List Tree) → Option (List Tree) → Type 0
  SomeLike none none = Unit {0}
  SomeLike none (some m) = ⊥
  SomeLike (some l) none = ⊥
  SomeLike (some l) (some m) = AllLike l m

-- a relation that no place tells from equality
pub record Alike (R : Tree → Tree → Type 0) : Type 0 where
  pub same : (t : Tree) → R t t
  pub places : (p : Place) (t u : Tree) → R t u → needs p t ≡ needs p u
  pub sums : (l m : List Tree) → AllLike R l m → R (sum 0 (of_list l)) (sum 0 (of_list m))
  pub products : (l m : List Tree) → AllLike R l m → R (product 0 (of_list l)) (product 0 (of_list m))
  pub powers : (b c : Tree) (e : ℕ) → R b c → R (power 0 b 0 e) (power 0 c 0 e)

-- a character that is no parenthesis
unfoldable pub plain : ℕ → Bool
plain c = not (eqb c opens) && not (eqb c closes)

plain_digit : (c : ℕ) → is_digit c ≡ true → plain c ≡ true
unfolding is_digit plain
plain_digit c d =
    let l = leb-true 48 c (and_left (leb 48 c) (ltb c 58) d) in
    rw (ne_eqb c 40 (λ e. absurd (omega (arith, l, e))), ne_eqb c 41 (λ e. absurd (omega (arith, l, e))))

module _ (R : Tree → Tree → Type 0) (like : Alike R) (P : List ℕ → Type 0) (past : (c : ℕ) (s : List ℕ) → plain c ≡ true → P (c ∷ s) → P s) where
  -- ---- leaves
  past_tail : (c : ℕ) (s : List ℕ) → plain c ≡ true → begins c s ≡ true → P s → P (tail s)
  past_tail c s n b h = past c (tail s) n (subst P (begins_is c s b) h)

  past_digits : (s : List ℕ) (v : ℕ) → P s → P (read_digits v s).1
  unfolding read_digits
  past_digits [] v h = h
  past_digits (c ∷ s) v h = go (is_digit c) refl (λ n. past_digits s (10 * v + (c - nought)) (past c s n h))
    where
      go : (b : Bool) → is_digit c ≡ b → (plain c ≡ true → P (read_digits (10 * v + (c - nought)) s).1)
          → P (cond b (read_digits (10 * v + (c - nought)) s) (v, c ∷ s)).1
      go true d k = k (plain_digit c d)
      go false d k = h

  past_number : (bound : ℕ) (s : List ℕ) → P s → Told (λ v r. P r) (read_number bound s)
  unfolding read_number below
  past_number bound s h =
      cond_told (λ v r. P r) (digit_ahead s) (cond (begins nought s && digit_ahead (tail s)) none (below bound (read_digits 0 s))) none
      (λ d. cond_told (λ v r. P r) (begins nought s && digit_ahead (tail s)) none (below bound (read_digits 0 s)) (λ e. tt)
      (λ e. cond_told (λ v r. P r) (ltb (read_digits 0 s).0 bound) (some (read_digits 0 s)) none (λ f. past_digits s 0 h) (λ f. tt)))
      (λ d. tt)

  past_negative : (v : ℕ) (r : List ℕ) → P r → Told (λ t q. P q) (negative v r)
  unfolding negative
  past_negative zero r h = tt
  past_negative (suc v) r h = h

  past_leaf : (s : List ℕ) → P s → Told (λ t r. P r) (read_leaf s)
  unfolding read_leaf plain
  past_leaf s h =
      cond_told (λ t r. P r) (begins ess s) (then (read_number 256 (tail s)) (λ v r. some (symbol 0 v, r)))
      (cond (begins minus s) (then (read_number (2 ^ 63 + 1) (tail s)) negative) (then (read_number (2 ^ 63) s) (λ v r. some (integer 0 (pos v), r))))
      (λ b. then_told (λ v r. P r) (λ t r. P r) (read_number 256 (tail s)) (λ v r. some (symbol 0 v, r))
      (past_number 256 (tail s) (past_tail ess s refl b h)) (λ v r g. g))
      (λ n. cond_told (λ t r. P r) (begins minus s) (then (read_number (2 ^ 63 + 1) (tail s)) negative)
      (then (read_number (2 ^ 63) s) (λ v r. some (integer 0 (pos v), r)))
      (λ b. then_told (λ v r. P r) (λ t r. P r) (read_number (2 ^ 63 + 1) (tail s)) negative
      (past_number (2 ^ 63 + 1) (tail s) (past_tail minus s refl b h)) past_negative)
      (λ b. then_told (λ v r. P r) (λ t r. P r) (read_number (2 ^ 63) s) (λ v r. some (integer 0 (pos v), r)) (past_number (2 ^ 63) s h) (λ v r g. g)))

  -- ---- members at their place
  fit_like : (b c : Bool) (t u : Tree) → b ≡ c → R t u → OneLike R (fit b t) (fit c u)
  unfolding fit
  fit_like true true t u e r = r
  fit_like true false t u e r = let z : ◌≡◌ {A = ℕ} 0 1 = cc in absurd (omega arith)
  fit_like false true t u e r = let z : ◌≡◌ {A = ℕ} 0 1 = cc in absurd (omega arith)
  fit_like false false t u e r = tt

  fits_like : (p : Place) (i j : Item) → Like R i j → OneLike R (fits p i) (fits p j)
  unfolding fits
  fits_like p (bare t) (bare u) h = fit_like (not (needs p t)) (not (needs p u)) t u (ap not (like.places p t u h)) h
  fits_like p (bare t) (grouped u) h = absurd h
  fits_like p (grouped t) (bare u) h = absurd h
  fits_like p (grouped t) (grouped u) h = fit_like (needs p t) (needs p u) t u (like.places p t u h) h

  all_like : (p : Place) (l m : List Item) → Likes R l m → SomeLike R (all_fit p l) (all_fit p m)
  unfolding all_fit also
  all_like p [] [] h = tt
  all_like p [] (j ∷ m) h = absurd h
  all_like p (i ∷ l) [] h = absurd h
  all_like p (i ∷ l) (j ∷ m) h = go (fits p i) (fits p j) (all_fit p l) (all_fit p m) (fits_like p i j h.0) (all_like p l m h.1)
    where
      go : (a b : Option Tree) (x y : Option (List Tree)) → OneLike R a b → SomeLike R x y → SomeLike R (also a x) (also b y)
      go none none x y f g = tt
      go none (some u) x y f g = absurd f
      go (some t) none x y f g = absurd f
      go (some t) (some u) none none f g = tt
      go (some t) (some u) none (some m) f g = absurd g
      go (some t) (some u) (some l) none f g = absurd g
      go (some t) (some u) (some l) (some m) f g = (f, g)

  leaving_like : {B : Type 0} (S : B → B → Type 0) (g : List Tree → B) (r : List ℕ) (x y : Option (List Tree))
      → ((l m : List Tree) → AllLike R l m → S (g l) (g m)) → P r → SomeLike R x y → Follows S P (leaving r g x) (leaving r g y)
  unfolding leaving
  leaving_like S g r none y k h e = tt
  leaving_like S g r (some l) none k h e = absurd e
  leaving_like S g r (some l) (some m) k h e = (k l m e, refl, h)

  others_follow : (r r' : List ℕ → Reading Item) (sign : ℕ) → plain sign ≡ true → ((q : List ℕ) → P q → Follows (Like R) P (r q) (r' q))
      → (n : ℕ) (s : List ℕ) → P s → Follows (Likes R) P (read_others r sign n s) (read_others r' sign n s)
  unfolding read_others
  others_follow r r' sign c g zero s h = (tt, refl, h)
  others_follow r r' sign c g (suc n) s h =
      cond_follows (Likes R) P (begins sign s)
      (then (r (tail s)) (λ i s'. then (read_others r sign n s') (λ l s''. some (i ∷ l, s'')))) (some ([], s))
      (then (r' (tail s)) (λ i s'. then (read_others r' sign n s') (λ l s''. some (i ∷ l, s'')))) (some ([], s))
      (λ b. then_follows (Like R) (Likes R) P P (r (tail s)) (r' (tail s))
      (λ i s'. then (read_others r sign n s') (λ l s''. some (i ∷ l, s''))) (λ i s'. then (read_others r' sign n s') (λ l s''. some (i ∷ l, s'')))
      (g (tail s) (past_tail sign s c b h))
      (λ i j s' e k. then_follows (Likes R) (Likes R) P P (read_others r sign n s') (read_others r' sign n s')
      (λ l s''. some (i ∷ l, s'')) (λ l s''. some (j ∷ l, s''))
      (others_follow r r' sign c g n s' k) (λ l m s'' f z. ((e, f), refl, z))))
      (λ b. (tt, refl, h))

  -- ---- the readers of one level
  module _ (inner inner' : List ℕ → Reading Tree)
      (group : (q : List ℕ) → P (opens ∷ q) → Follows (Like R) P (then (inner q) closed) (then (inner' q) closed)) where
    base_follows : (s : List ℕ) → P s → Follows (Like R) P (read_base inner s) (read_base inner' s)
    unfolding read_base
    base_follows s h =
        cond_follows (Like R) P (begins opens s) (then (inner (tail s)) closed) (then (read_leaf s) (λ t r. some (bare t, r)))
        (then (inner' (tail s)) closed) (then (read_leaf s) (λ t r. some (bare t, r)))
        (λ b. group (tail s) (subst P (begins_is opens s b) h))
        (λ b. then_follows R (Like R) P P (read_leaf s) (read_leaf s) (λ t r. some (bare t, r)) (λ t r. some (bare t, r))
        (follows_self R P (read_leaf s) like.same (past_leaf s h)) (λ t u r e k. (e, refl, k)))

    exponent_follows : (b c : Tree) (q : List ℕ) (e : ℕ) (r : List ℕ) → R b c → P r → Follows (Like R) P (exponent_after b q e r) (exponent_after c q e r)
    unfolding exponent_after
    exponent_follows b c q zero r f h = tt
    exponent_follows b c q (suc e) r f h = (like.powers b c (suc e) f, refl, h)

    raised_follows : (s : List ℕ) (a b : Option Tree) → OneLike R a b → P s → Follows (Like R) P (raised_by s a) (raised_by s b)
    unfolding raised_by
    raised_follows s none b e h = tt
    raised_follows s (some t) none e h = absurd e
    raised_follows s (some t) (some u) e h =
        then_follows ◌≡◌ (Like R) P P (read_number (2 ^ 63) s) (read_number (2 ^ 63) s) (exponent_after t s) (exponent_after u s)
        (follows_self ◌≡◌ P (read_number (2 ^ 63) s) (λ v. refl) (past_number (2 ^ 63) s h))
        (λ v w r f k. subst (λ (y : ℕ). Follows (Like R) P (exponent_after t s v r) (exponent_after u s y r)) f (exponent_follows t u s v r e k))

    power_follows : (s : List ℕ) → P s → Follows (Like R) P (read_power inner s) (read_power inner' s)
    unfolding read_power plain
    power_follows s h =
        then_follows (Like R) (Like R) P P (read_base inner s) (read_base inner' s)
        (λ i r. cond (begins power_sign r) (raised_by (tail r) (fits as_base i)) (some (i, r)))
        (λ i r. cond (begins power_sign r) (raised_by (tail r) (fits as_base i)) (some (i, r))) (base_follows s h)
        (λ i j r e k. cond_follows (Like R) P (begins power_sign r) (raised_by (tail r) (fits as_base i)) (some (i, r))
        (raised_by (tail r) (fits as_base j)) (some (j, r))
        (λ b. raised_follows (tail r) (fits as_base i) (fits as_base j) (fits_like as_base i j e) (past_tail power_sign r refl b k))
        (λ b. (e, refl, k)))

    product_from_follows : (i j : Item) (r : List ℕ) (l m : List Item) → Like R i j → Likes R l m → P r
        → Follows (Like R) P (product_from inner i r l) (product_from inner' j r m)
    unfolding product_from
    product_from_follows i j r [] [] e f h = (e, refl, h)
    product_from_follows i j r [] (y ∷ m) e f h = absurd f
    product_from_follows i j r (x ∷ l) [] e f h = absurd f
    product_from_follows i j r (x ∷ l) (y ∷ m) e f h =
        leaving_like (Like R) (λ ts. bare (product 0 (of_list ts))) r (all_fit in_product (i ∷ x ∷ l)) (all_fit in_product (j ∷ y ∷ m))
        (λ a b g. like.products a b g) h (all_like in_product (i ∷ x ∷ l) (j ∷ y ∷ m) (e, f))

    product_follows : (s : List ℕ) → P s → Follows (Like R) P (read_product inner s) (read_product inner' s)
    unfolding read_product plain
    product_follows s h =
        then_follows (Like R) (Like R) P P (read_power inner s) (read_power inner' s)
        (λ i r. then (read_others (read_power inner) times (length r) r) (λ l q. product_from inner i q l))
        (λ i r. then (read_others (read_power inner') times (length r) r) (λ l q. product_from inner' i q l)) (power_follows s h)
        (λ i j r e k. then_follows (Likes R) (Like R) P P (read_others (read_power inner) times (length r) r)
        (read_others (read_power inner') times (length r) r)
        (λ l q. product_from inner i q l) (λ l q. product_from inner' j q l)
        (others_follow (read_power inner) (read_power inner') times refl power_follows (length r) r k)
        (λ l m q f z. product_from_follows i j q l m e f z))

    sum_from_follows : (i j : Item) (r : List ℕ) (l m : List Item) → Like R i j → Likes R l m → P r
        → Follows R P (sum_from inner i r l) (sum_from inner' j r m)
    unfolding sum_from alone leaving
    sum_from_follows (bare t) (bare u) r [] [] e f h = (e, refl, h)
    sum_from_follows (bare t) (grouped u) r [] [] e f h = absurd e
    sum_from_follows (grouped t) j r [] [] e f h = tt
    sum_from_follows i j r [] (y ∷ m) e f h = absurd f
    sum_from_follows i j r (x ∷ l) [] e f h = absurd f
    sum_from_follows i j r (x ∷ l) (y ∷ m) e f h =
        leaving_like R (λ ts. sum 0 (of_list ts)) r (all_fit in_sum (i ∷ x ∷ l)) (all_fit in_sum (j ∷ y ∷ m))
        (λ a b g. like.sums a b g) h (all_like in_sum (i ∷ x ∷ l) (j ∷ y ∷ m) (e, f))

    pub sum_follows : (s : List ℕ) → P s → Follows R P (read_sum inner s) (read_sum inner' s)
    unfolding read_sum plain
    sum_follows s h =
        then_follows (Like R) R P P (read_product inner s) (read_product inner' s)
        (λ i r. then (read_others (read_product inner) plus (length r) r) (λ l q. sum_from inner i q l))
        (λ i r. then (read_others (read_product inner') plus (length r) r) (λ l q. sum_from inner' i q l)) (product_follows s h)
        (λ i j r e k. then_follows (Likes R) R P P (read_others (read_product inner) plus (length r) r) (read_others (read_product inner') plus (length r) r)
        (λ l q. sum_from inner i q l) (λ l q. sum_from inner' j q l)
        (others_follow (read_product inner) (read_product inner') plus refl product_follows (length r) r k)
        (λ l m q f z. sum_from_follows i j q l m e f z))

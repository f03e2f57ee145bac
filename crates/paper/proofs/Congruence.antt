-- Congruence modulo m is kept by sums, products and powers, and the word of an integer respects both: an integer is a difference of
-- two numbers, of which modulo 2^64 nothing but the word is left.
use Prim.Native.Nat.{ℕ, zero, suc, ◌+◌, ◌-◌, ◌*◌, ◌/◌, ◌%◌, ◌^◌, ◌<◌}
use mathlib.Core.Path.{◌≡◌, refl, sym, ap, ◌∙◌}
use mathlib.Core.Bool.{Bool, true, false, cond}
use native.Mathlib.Omega.{arith}
use native.Mathlib.Nat.{add-mod, mod-mod, mod-lt, mul_comm, add-mul-mod_self_right, div-add-mod', pow-suc, pow-zero}
use lib.IntN.{ℤ, pos, negsuc, ◌+ℤ◌, ◌*ℤ◌, neg_ℤ}
use lib.Dec.{ltb}
use borrow.Author.Tests.{ltb-true, ltb-false}
use Rattle.paper.specs.Limits.{modulus}
use Rattle.paper.specs.Bytes.{word}

-- two numbers agree modulo m
pub record Agree (m a b : ℕ) : Type 0 where
  pub agree : a % m ≡ b % m

module _ {m : ℕ} where
  pub agree_refl : {a : ℕ} → Agree m a a
  agree_refl = record { agree = refl }

  pub agree_of : {a b : ℕ} → a ≡ b → Agree m a b
  agree_of {a} {b} e = record { agree = ap (λ n. n % m) e }

  pub agree_sym : {a b : ℕ} → Agree m a b → Agree m b a
  agree_sym e = record { agree = sym e.agree }

  pub agree_trans : {a b c : ℕ} → Agree m a b → Agree m b c → Agree m a c
  agree_trans e f = record { agree = e.agree ∙ f.agree }

  pub agree_mod : (a : ℕ) → Agree m (a % m) a
  agree_mod a = record { agree = mod-mod a m }

  pub agree_add : {a b c d : ℕ} → Agree m a b → Agree m c d → Agree m (a + c) (b + d)
  agree_add {a} {b} {c} {d} e f =
      record {
        agree = add-mod a c m ∙ ap (λ n. (n + c % m) % m) e.agree ∙ ap (λ n. (b % m + n) % m) f.agree ∙ sym (add-mod b d m);
      }

  -- a multiple of m counts for nothing
  pub agree_multiple : (a k : ℕ) → Agree m (a + k * m) a
  agree_multiple a k = record { agree = add-mul-mod_self_right a k m }

  mul_mod : (a b : ℕ) → Agree m (a % m * b) (a * b)
  mul_mod a b =
      agree_trans (agree_sym (agree_multiple (a % m * b) (a / m * b)))
      (agree_of (omega (arith, ap (λ n. n * b) (div-add-mod' a m))))

  mul_by : {a b : ℕ} (c : ℕ) → Agree m a b → Agree m (a * c) (b * c)
  mul_by {a} {b} c e = agree_trans (agree_sym (mul_mod a c)) (agree_trans (agree_of (ap (λ n. n * c) e.agree)) (mul_mod b c))

  pub agree_mul : {a b c d : ℕ} → Agree m a b → Agree m c d → Agree m (a * c) (b * d)
  agree_mul {a} {b} {c} {d} e f =
      agree_trans (mul_by c e)
      (agree_trans (agree_of (mul_comm b c)) (agree_trans (mul_by b f) (agree_of (mul_comm d b))))

  pub agree_pow : {a b : ℕ} (n : ℕ) → Agree m a b → Agree m (a ^ n) (b ^ n)
  agree_pow {a} {b} zero e = agree_of (pow-zero a ∙ sym (pow-zero b))
  agree_pow {a} {b} (suc n) e =
      agree_trans (agree_of (pow-suc a n)) (agree_trans (agree_mul (agree_pow n e) e) (agree_of (sym (pow-suc b n))))

-- what both have more may be taken off
pub agree_cancel : {a b : ℕ} {m : ℕ} (c : ℕ) → Agree (suc m) (a + c) (b + c) → Agree (suc m) a b
agree_cancel {a} {b} {m} c e =
    agree_trans (agree_sym (agree_multiple a c))
    (agree_trans (agree_of (omega arith))
    (agree_trans (agree_add e (agree_refl {a = c * m}))
    (agree_trans (agree_of (omega arith)) (agree_multiple b c))))

-- a word is under 2^64
pub word_lt : (z : ℤ) → word z < modulus
unfolding word
word_lt (pos n) = mod-lt n {m = modulus} (omega arith)
word_lt (negsuc n) = omega arith

-- an integer as the difference of two numbers
up : ℤ → ℕ
up (pos n) = n
up (negsuc n) = 0

down : ℤ → ℕ
down (pos n) = 0
down (negsuc n) = suc n

word_up : (z : ℤ) → Agree modulus (word z + down z) (up z)
unfolding word up down
word_up (pos n) = agree_trans (agree_of (omega arith)) (agree_mod n)
word_up (negsuc n) =
    agree_trans (agree_of (omega (arith, div-add-mod' n modulus, mod-lt n {m = modulus} (omega arith))))
    (agree_multiple 0 (suc (n / modulus)))

-- x - y, as `◌+ℤ◌` takes it
cond_up : (b : Bool) (x y : ℕ) → ltb x y ≡ b
    → up (cond b (negsuc (y - suc x)) (pos (x - y))) + y ≡ x + down (cond b (negsuc (y - suc x)) (pos (x - y)))
unfolding up down
cond_up true x y e = omega (arith, ltb-true x y e)
cond_up false x y e = omega (arith, ltb-false x y e)

add_up : (y z : ℤ) → up (y +ℤ z) + (down y + down z) ≡ up y + up z + down (y +ℤ z)
unfolding up down
add_up (pos a) (pos b) = omega arith
add_up (pos a) (negsuc b) = omega (arith, cond_up (ltb a (suc b)) a (suc b) refl)
add_up (negsuc a) (pos b) = omega (arith, cond_up (ltb b (suc a)) b (suc a) refl)
add_up (negsuc a) (negsuc b) = omega arith

neg_up : (n : ℕ) → up (neg_ℤ (pos n)) + n ≡ down (neg_ℤ (pos n))
unfolding up down
neg_up zero = refl
neg_up (suc n) = omega arith

mul_up : (y z : ℤ) → up (y *ℤ z) + (up y * down z + down y * up z) ≡ up y * up z + down y * down z + down (y *ℤ z)
unfolding up down
mul_up (pos a) (pos b) = omega arith
mul_up (pos a) (negsuc b) = omega (arith, neg_up (a * suc b))
mul_up (negsuc a) (pos b) = omega (arith, neg_up (suc a * b))
mul_up (negsuc a) (negsuc b) = omega arith

-- the word of a sum is the sum of the words, modulo 2^64
pub word_add : (y z : ℤ) → Agree modulus (word (y +ℤ z)) (word y + word z)
word_add y z =
    agree_cancel (down (y +ℤ z) + (down y + down z))
    (agree_trans (agree_of (omega arith))
    (agree_trans (agree_add (word_up (y +ℤ z)) (agree_refl {a = down y + down z}))
    (agree_trans (agree_of (add_up y z))
    (agree_trans (agree_add (agree_sym (agree_add (word_up y) (word_up z))) (agree_refl {a = down (y +ℤ z)}))
    (agree_of (omega arith))))))

-- the word of a product is the product of the words, modulo 2^64
pub word_mul : (y z : ℤ) → Agree modulus (word (y *ℤ z)) (word y * word z)
word_mul y z =
    agree_cancel (down (y *ℤ z) + (up y * down z + down y * up z))
    (agree_trans (agree_of (omega arith))
    (agree_trans (agree_add (word_up (y *ℤ z)) (agree_refl {a = up y * down z + down y * up z}))
    (agree_trans (agree_of (mul_up y z))
    (agree_trans (agree_add (agree_sym words) (agree_refl {a = down (y *ℤ z)}))
    (agree_of (omega arith))))))
  where
    cross : Agree modulus (up y * down z + down y * up z) ((word y + down y) * down z + down y * (word z + down z))
    cross =
        agree_add
        (agree_mul (agree_sym (word_up y)) (agree_refl {a = down z}))
        (agree_mul (agree_refl {a = down y}) (agree_sym (word_up z)))

    words : Agree modulus (word y * word z + (up y * down z + down y * up z)) (up y * up z + down y * down z)
    words =
        agree_trans (agree_add (agree_refl {a = word y * word z}) cross)
        (agree_trans (agree_of (omega arith))
        (agree_add (agree_mul (word_up y) (word_up z)) (agree_refl {a = down y * down z})))

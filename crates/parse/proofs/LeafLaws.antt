-- A leaf, by its first character: `s` begins a symbol, `-` a negative integer, any other an integer from 0 on.
use Prim.Native.Nat.{ℕ, zero, suc, ◌+◌, ◌-◌, ◌^◌, ◌≤◌, ◌<◌}
use mathlib.Core.Path.{◌≡◌, refl, sym, subst}
use mathlib.Core.Bool.{true, false}
use mathlib.Core.List.{List}
use mathlib.Core.Option.{none}
use native.Mathlib.Omega.{arith}
use lib.ListN.{drop}
use lib.IntN.{pos, negsuc}
use Rattle.paper.specs.Tree.{integer, symbol, weight, records}
use Rattle.paper_text.specs.Text.{then, begins, ess, minus, negative, read_leaf, bare}
use Rattle.paper_text.specs.Levels.{rank}
use Rattle.paper_text.proofs.ReadTold.{Told, NumberIs, number_told}
use Rattle.paper_text.proofs.PlaceLaws.{sign_inside, tail_there}
use Rattle.std.specs.Prelude.{Some, None}
use Rattle.decimal.specs.Digits.{NumberRead}
use Rattle.paper.specs.Table.{record_of}
use Rattle.parse.specs.Written.{Written}
use Rattle.parse.proofs.TreesWritten.{symbol_written, from_nought, below_nought}
use Rattle.parse.specs.Parsed.{Laid, Stands, bared}

pub number_small : (bound : ℕ) (s : List ℕ) (at v e : ℕ) → bound ≤ 10 ^ 20 → NumberRead bound s at (Some (v, e)) → v < bound
number_small bound s at v e h r = (subst (Told (NumberIs bound (drop at s))) (sym r.reads) (number_told bound (drop at s) h)).0

module _ (s : List ℕ) (at : ℕ) where
  pub no_symbol : begins ess (drop at s) ≡ true → NumberRead 256 s (at + 1) None → bared (read_leaf (drop at s)) ≡ none
  unfolding read_leaf then bared
  no_symbol b r = rw (b, tail_there s at (sign_inside s at ess b), ← r.reads)

  pub is_symbol : {old new : List ℕ} {d : ℕ} (v e : ℕ) → begins ess (drop at s) ≡ true → NumberRead 256 s (at + 1) (Some (v, e))
      → Written (record_of 1 0 0 v) old d new → Stands s at (bared (read_leaf (drop at s))) bare (Laid old d new (d + 1)) 0 e 3
  unfolding read_leaf then bared rank weight records
  is_symbol v e b r y =
      let a = r.ahead.0 in
      record {
        tree = symbol 0 v;
        read = rw (b, tail_there s at (sign_inside s at ess b), ← r.reads);
        ranked = refl;
        weighs = refl;
        ahead = omega (arith, a);
        within = r.ahead.1;
        light = omega (arith, a);
        laid = record { next = refl; put_there = symbol_written v y };
      }

  pub no_negative : begins ess (drop at s) ≡ false → begins minus (drop at s) ≡ true → NumberRead (2 ^ 63 + 1) s (at + 1) None
      → bared (read_leaf (drop at s)) ≡ none
  unfolding read_leaf then bared
  no_negative n b r = rw (n, b, tail_there s at (sign_inside s at minus b), ← r.reads)

  pub minus_nought : (v e : ℕ) → v < 1 → begins ess (drop at s) ≡ false → begins minus (drop at s) ≡ true → NumberRead (2 ^ 63 + 1) s (at + 1) (Some (v, e))
      → bared (read_leaf (drop at s)) ≡ none
  unfolding read_leaf then bared negative
  minus_nought zero e h n b r = rw (n, b, tail_there s at (sign_inside s at minus b), ← r.reads)
  minus_nought (suc v) e h n b r = absurd (omega (arith, h))

  pub is_negative : {old new : List ℕ} {d : ℕ} (v e : ℕ) → 1 ≤ v → begins ess (drop at s) ≡ false → begins minus (drop at s) ≡ true
      → NumberRead (2 ^ 63 + 1) s (at + 1) (Some (v, e))
      → (u : ℕ) → u ≡ 2 ^ 64 - v → Written (record_of 0 0 0 u) old d new → Stands s at (bared (read_leaf (drop at s))) bare (Laid old d new (d + 1)) 1 e 1
  unfolding read_leaf then bared negative rank weight records
  is_negative zero e h n b r u x y = absurd (omega (arith, h))
  is_negative (suc v) e h n b r u x y =
      let a = r.ahead.0 in
      record {
        tree = integer 0 (negsuc v);
        read = rw (n, b, tail_there s at (sign_inside s at minus b), ← r.reads);
        ranked = refl;
        weighs = refl;
        ahead = omega (arith, a);
        within = r.ahead.1;
        light = omega (arith, a);
        laid =
            record {
              next = refl;
              put_there =
                  below_nought v u (let l = number_small (2 ^ 63 + 1) s (at + 1) (suc v) e (omega arith) r in omega (arith, l)) x y;
            };
      }

  pub no_integer : begins ess (drop at s) ≡ false → begins minus (drop at s) ≡ false → NumberRead (2 ^ 63) s at None → bared (read_leaf (drop at s)) ≡ none
  unfolding read_leaf then bared
  no_integer n m r = rw (n, m, ← r.reads)

  pub is_integer_lem : {old new : List ℕ} {d : ℕ} (v e : ℕ) → begins ess (drop at s) ≡ false → begins minus (drop at s) ≡ false → NumberRead (2 ^ 63)
      s at (Some (v, e))
      → Written (record_of 0 0 0 v) old d new → Stands s at (bared (read_leaf (drop at s))) bare (Laid old d new (d + 1)) 0 e 1
  unfolding read_leaf then bared rank weight records
  is_integer_lem v e n m r y =
      let a = r.ahead.0 in
      record {
        tree = integer 0 (pos v);
        read = rw (n, m, ← r.reads);
        ranked = refl;
        weighs = refl;
        ahead = a;
        within = r.ahead.1;
        light = omega (arith, a);
        laid = record { next = refl; put_there = from_nought v (number_small (2 ^ 63) s at v e (omega arith) r) y };
      }

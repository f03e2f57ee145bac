-- One character of a group that is passed over.
use Prim.Native.Nat.{max, ℕ, zero, suc, ◌+◌, ◌-◌, ◌^◌, ◌≤◌, ◌<◌}
use mathlib.Core.Path.{◌≡◌, refl, sym, ap, ◌∙◌}
use mathlib.Core.List.{List, ◌∷◌}
use mathlib.Core.Option.{none}
use native.Mathlib.Omega.{arith}
use borrow.Author.Tests.{eq-eqb, ne_eqb}
use lib.ListN.{length, get_or, drop}
use Rattle.paper.specs.Tree.{weight, records}
use Rattle.paper.specs.Table.{encode, record_of}
use Rattle.paper_text.specs.Text.{then, begins, tail, closed, grouped}
use Rattle.paper_text.specs.Levels.{rank, sign_rank, stand_in, greater, mark, leaves, skim_from, skim}
use Rattle.paper_text.proofs.PlaceLaws.{from_here, at_end}
use Rattle.std.specs.Prelude.{Some, None}
use Rattle.parse.specs.Written.{Written}
use Rattle.parse.proofs.TreesWritten.{nought_stands, minus_one_stands, product_stands, sum_stands}
use Rattle.parse.specs.Parsed.{Laid, Stands, StepIs}

pub opened : (c d k : ℕ) → c ≡ 40 → k ≤ 3 → StepIs c d k (Some ((d + 1), k))
unfolding skim_from
opened c d k h l = ((λ s. rw (eq-eqb c 40 h, suc_is d)), omega arith, l)
  where
    suc_is : (d : ℕ) → d + 1 ≡ suc d
    suc_is d = omega arith

pub ends : (c d k : ℕ) → (c ≡ 40 → ⊥) → c ≡ 41 → d < 1 → StepIs c d k None
unfolding skim_from leaves
ends c zero k n h l = λ s. rw (ne_eqb c 40 n, eq-eqb c 41 h)
ends c (suc d) k n h l = absurd (omega (arith, l))

pub closes_one : (c d k : ℕ) → (c ≡ 40 → ⊥) → c ≡ 41 → 1 ≤ d → k ≤ 3 → StepIs c d k (Some ((d - 1), k))
unfolding skim_from leaves
closes_one c zero k n h l m = absurd (omega (arith, l))
closes_one c (suc d) k n h l m = ((λ s. rw (ne_eqb c 40 n, eq-eqb c 41 h, one_less d)), omega arith, m)
  where
    one_less : (d : ℕ) → suc d - 1 ≡ d
    one_less d = omega arith

other : (c d k : ℕ) → (c ≡ 40 → ⊥) → (c ≡ 41 → ⊥) → (s : List ℕ) → skim_from d k (c ∷ s) ≡ skim_from d (mark d k (sign_rank c)) s
unfolding skim_from
other c d k n m s = rw (ne_eqb c 40 n, ne_eqb c 41 m)

pub deeper : (c d k : ℕ) → (c ≡ 40 → ⊥) → (c ≡ 41 → ⊥) → 0 < d → k ≤ 3 → StepIs c d k (Some (d, k))
unfolding mark
deeper c zero k n m h l = absurd (omega (arith, h))
deeper c (suc d) k n m h l = ((λ s. other c (suc d) k n m s), omega arith, l)

pub greatest : (c d k r : ℕ) → (c ≡ 40 → ⊥) → (c ≡ 41 → ⊥) → d ≤ 0 → r ≡ sign_rank c → r ≤ 3 → k ≤ 3 → StepIs c d k (Some (d, max k r))
unfolding mark greater
greatest c zero k r n m h e l g =
    ((λ s. other c 0 k n m s ∙ ap (λ (x : ℕ). skim_from 0 x s) (omega (arith, e))), omega arith, omega (arith, l, g))
greatest c (suc d) k r n m h e l g = absurd (omega (arith, h))

-- ---- the loop: what is passed from place e on is what is passed of the group
pub record Passing (s : List ℕ) (at k d e : ℕ) : Type 0 where
  pub rest : skim_from d k (drop e s) ≡ skim (drop (at + 1) s)
  pub from : at + 1 ≤ e
  pub within : e ≤ length s
  pub shallow : d ≤ e
  pub low : k ≤ 3

-- the area is not touched while a group is passed
pub record Kept (s : List ℕ) (at : ℕ) (old new : List ℕ) (k d e : ℕ) : Type 0 where
  pub passing : Passing s at k d e
  pub same : new ≡ old

pub begin_passing : (s : List ℕ) (at : ℕ) → at < length s → Passing s at 0 0 (at + 1)
unfolding skim
begin_passing s at h = record { rest = refl; from = omega arith; within = omega (arith, h); shallow = omega arith; low = omega arith }

pub pass_on : (s : List ℕ) (at k d e d' k' : ℕ) → e < length s → Passing s at k d e → StepIs (get_or s e 0) d k (Some (d', k')) → Passing s at k' d' (e + 1)
pass_on s at k d e d' k' h p q =
    let f = p.from in
    let g = p.shallow in
    let m = q.1 in
    record {
      rest = sym (q.0 (drop (e + 1) s)) ∙ ap (skim_from d k) (sym (from_here s e h)) ∙ p.rest;
      from = omega (arith, f);
      within = omega (arith, h);
      shallow = omega (arith, g, m);
      low = q.2;
    }

stand_in_rank : (k : ℕ) → k ≤ 3 → k ≡ rank (stand_in k)
unfolding rank stand_in
stand_in_rank zero h = refl
stand_in_rank (suc zero) h = refl
stand_in_rank (suc (suc zero)) h = refl
stand_in_rank (suc (suc (suc zero))) h = refl
stand_in_rank (suc (suc (suc (suc k)))) h = absurd (omega (arith, h))

stand_in_weight : (k : ℕ) → 1 ≡ weight (stand_in k)
unfolding weight stand_in
stand_in_weight zero = refl
stand_in_weight (suc zero) = refl
stand_in_weight (suc (suc zero)) = refl
stand_in_weight (suc (suc (suc k))) = refl

stand_in_records : (k : ℕ) → 1 ≡ records (stand_in k)
unfolding records stand_in
stand_in_records zero = refl
stand_in_records (suc zero) = refl
stand_in_records (suc (suc zero)) = refl
stand_in_records (suc (suc (suc k))) = refl

pub passed_out : (s : List ℕ) (at k d e : ℕ) {old new : List ℕ} {j : ℕ} → e < length s → Passing s at k d e → StepIs (get_or s e 0) d k None
    → Written (encode (stand_in k)) old j new → Stands s at (then (skim (drop (at + 1) s)) closed) grouped (Laid old j new (j + 1)) k (e + 1) 1
unfolding then closed begins tail
passed_out s at k d e {old} {new} {j} h p q y =
    let f = p.from in
    record {
      tree = stand_in k;
      read = rw (← p.rest, from_here s e h, q (drop (e + 1) s));
      ranked = stand_in_rank k p.low;
      weighs = stand_in_weight k;
      ahead = omega (arith, f);
      within = omega (arith, h);
      light = omega (arith, f);
      laid = record { next = ap (λ (n : ℕ). j + n) (stand_in_records k); put_there = y };
    }

pub never_closed : (s : List ℕ) (at k d e : ℕ) → length s ≤ e → Passing s at k d e → then (skim (drop (at + 1) s)) closed ≡ none
unfolding then skim_from
never_closed s at k d e h p = rw (← p.rest, at_end s e h)

-- ---- the record that stands for a group, by its rank
module _ {old new : List ℕ} {d : ℕ} where
  pub stand_nought : (k : ℕ) → k < 1 → Written (record_of 0 0 0 0) old d new → Written (encode (stand_in k)) old d new
  stand_nought zero h y = nought_stands y
  stand_nought (suc k) h y = absurd (omega (arith, h))

  pub stand_minus : (k : ℕ) → 1 ≤ k → k < 2 → Written (record_of 0 0 0 (2 ^ 64 - 1)) old d new → Written (encode (stand_in k)) old d new
  stand_minus zero g h y = absurd (omega (arith, g))
  stand_minus (suc zero) g h y = minus_one_stands y
  stand_minus (suc (suc k)) g h y = absurd (omega (arith, h))

  pub stand_product : (k : ℕ) → 2 ≤ k → k < 3 → Written (record_of 3 0 0 0) old d new → Written (encode (stand_in k)) old d new
  stand_product zero g h y = absurd (omega (arith, g))
  stand_product (suc zero) g h y = absurd (omega (arith, g))
  stand_product (suc (suc zero)) g h y = product_stands y
  stand_product (suc (suc (suc k))) g h y = absurd (omega (arith, h))

  pub stand_sum : (k : ℕ) → 3 ≤ k → k ≤ 3 → Written (record_of 2 0 0 0) old d new → Written (encode (stand_in k)) old d new
  stand_sum zero g h y = absurd (omega (arith, g))
  stand_sum (suc zero) g h y = absurd (omega (arith, g))
  stand_sum (suc (suc zero)) g h y = absurd (omega (arith, g))
  stand_sum (suc (suc (suc zero))) g h y = sum_stands y
  stand_sum (suc (suc (suc (suc k)))) g h y = absurd (omega (arith, h))

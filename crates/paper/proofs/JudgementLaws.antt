-- The refusals of a call but 7 are given exactly as the papers say, in their order. 1 to 5 are those of the table (Refusals); the tests
-- of 6 and 9 are their words; 6 is tested only where none of 1 to 5 applies, these only where 9 does not, and 9 only where 19 does not.
use Prim.Native.Nat.{ℕ, ◌*◌, ◌≤◌, ◌<◌}
use mathlib.Core.Path.{◌≡◌, refl, sym, ap, subst}
use mathlib.Core.Bool.{Bool, true, false, cond, ◌||◌}
use mathlib.Core.List.{List}
use mathlib.Core.Logic.{◌⊎◌, inl, inr, ◌↔◌}
use native.Mathlib.Omega.{arith}
use lib.ListN.{length}
use lib.Dec.{eqb, ltb, lit<, lit≤}
use borrow.Author.Tests.{ne_eqb, eqb-false, lt-ltb, ltb-true, ltb-false}
use Rattle.paper.specs.Limits.{is_limit, work_bytes}
use Rattle.paper.specs.Bytes.{Bytes}
use Rattle.paper.specs.Record.{Flaw}
use Rattle.paper.specs.Verdict.{Verdict, accepted, told, refused, is_accepted, table_weight, verdict}
use Rattle.paper.specs.Rules.{is_edition}
use Rattle.paper.specs.Answers.{Lent, cramped, judged_call, judgement, refused_by}
use Rattle.paper.specs.Refusals.{Tells, Applies, of_records, refusal_19}
use Rattle.paper.specs.Refusals.{Under, out_under, steps_under, work_under, AppliesToCall, of_table, refusal_6, refusal_9, rank, Lowest}
use Rattle.paper.specs.Demands.{Simplifier, Refuses}
use Rattle.paper.specs.Takeover.{Room}
use Rattle.paper.proofs.Tests.{true_not_false, not_so, or_neither, or_either, or_left, or_right}
use Rattle.paper.proofs.Refusals.{verdict_exactly, accepted_exactly, rank_small, nineteen_first, nineteen_under, faulty_within, unknown_limit}
use Rattle.paper.proofs.Refusals.{limit_unknown}
use Rattle.paper.proofs.CallLaws.{verdict_accepted, judgement_accepted, accepted_judgement}

-- 6: areas are cramped as the paper says
module _ (lim w : ℕ) (l : Lent) where
  out : Bool
  out = ltb (length l.out) (16 * w)

  steps : Bool
  steps = ltb (length l.steps) w

  work : Bool
  work = ltb (length l.work) (work_bytes lim)

  pub cramped_words : cramped lim w l ≡ true → Under lim w l
  unfolding cramped out steps work
  cramped_words h = go (or_either (out || steps) work h)
    where
      first_two : (out ≡ true) ⊎ (steps ≡ true) → Under lim w l
      first_two (inl e) = out_under (ltb-true (length l.out) (16 * w) e)
      first_two (inr e) = steps_under (ltb-true (length l.steps) w e)

      go : ((out || steps) ≡ true) ⊎ (work ≡ true) → Under lim w l
      go (inl e) = first_two (or_either out steps e)
      go (inr e) = work_under (ltb-true (length l.work) (work_bytes lim) e)

  pub words_cramped : Under lim w l → cramped lim w l ≡ true
  unfolding cramped out steps work
  words_cramped (out_under h) = or_left (out || steps) work (or_left out steps (lt-ltb (length l.out) (16 * w) h))
  words_cramped (steps_under h) = or_left (out || steps) work (or_right out steps (lt-ltb (length l.steps) w h))
  words_cramped (work_under h) = or_right (out || steps) work (lt-ltb (length l.work) (work_bytes lim) h)

  -- and areas with room are not
  pub of_room : Room lim w l → cramped lim w l ≡ false
  of_room r = not_so (cramped lim w l) (λ e. no (cramped_words e))
    where
      no : Under lim w l → ⊥
      no (out_under h) = omega (arith, r.out_room)
      no (steps_under h) = omega (arith, r.steps_room)
      no (work_under h) = omega (arith, r.work_room)

  -- and no others have room
  pub room_of : cramped lim w l ≡ false → Room lim w l
  unfolding cramped out steps work
  room_of e =
      let x = or_neither (out || steps) work e in
      let y = or_neither out steps x.0 in
      record {
        out_room = ltb-false (length l.out) (16 * w) y.0;
        steps_room = ltb-false (length l.steps) w y.1;
        work_room = ltb-false (length l.work) (work_bytes lim) x.1;
      }

-- the numbers of the table's refusals are 1 to 5, and 19
applies_within : {lim : ℕ} {s : List ℕ} {k p : ℕ} → Applies lim s k p → (1 ≤ k) × ((k ≤ 5) ⊎ (k ≡ 19))
applies_within (of_records x) = let y = faulty_within x in (y.0, inl y.1)
applies_within (refusal_19 x y) = (lit≤ tt, inr refl)

-- 9: an edition is unknown as the paper says
pub unknown_words : (ed : ℕ) → is_edition ed ≡ false → (¬ (ed ≡ 1)) × (¬ (ed ≡ 2))
unfolding is_edition
unknown_words ed h = let x = or_neither (eqb ed 1) (eqb ed 2) h in (eqb-false ed 1 x.0, eqb-false ed 2 x.1)

pub words_unknown : (ed : ℕ) → ¬ (ed ≡ 1) → ¬ (ed ≡ 2) → is_edition ed ≡ false
unfolding is_edition
words_unknown ed h g = rw (ne_eqb ed 1 h, ne_eqb ed 2 g)

module _ (lim ed : ℕ) (s : List ℕ) (l : Lent) where
  -- nothing before 6 applies to the call of an accepted table in a known edition
  none_lower : is_edition ed ≡ true → verdict lim s ≡ accepted → {j q : ℕ} → rank j < rank 6 → ¬ AppliesToCall lim ed s l j q
  none_lower n v u (of_table x) = (accepted_exactly lim s).0 v _ _ x
  none_lower n v u (refusal_6 x) = omega arith
  none_lower n v u (refusal_9 x y) = true_not_false n (words_unknown ed x y)

  -- and what is the table's lowest is the call's
  still_lowest : is_edition ed ≡ true → {k p : ℕ} → Lowest (Applies lim s) k p → Lowest (AppliesToCall lim ed s l) k p
  still_lowest n {k} {p} h = record { given = of_table h.given; lowest = λ j q u x. none u x }
    where
      under_6 : (k ≤ 5) ⊎ (k ≡ 19) → rank 6 < rank k → ⊥
      under_6 (inl z) u = omega (arith, rank_small 6 (lit< tt), rank_small k (omega arith))
      under_6 (inr z) u = nineteen_first 6 (subst (λ (m : ℕ). rank 6 < rank m) z u)

      none : {j q : ℕ} → rank j < rank k → ¬ AppliesToCall lim ed s l j q
      none u (of_table x) = h.lowest _ _ u x
      none u (refusal_6 x) = under_6 (applies_within h.given).1 u
      none u (refusal_9 x y) = true_not_false n (words_unknown ed x y)

  -- 9 comes before all of these at a known limit
  nine_first : is_limit lim ≡ true → {j q : ℕ} → rank j < rank 9 → ¬ AppliesToCall lim ed s l j q
  unfolding rank
  nine_first n u (of_table (of_records {k = k} x)) = omega (arith, (faulty_within x).0, rank_small k (omega (arith, (faulty_within x).1)))
  nine_first n u (of_table (refusal_19 x y)) = true_not_false n (limit_unknown lim x y)
  nine_first n u (refusal_6 x) = omega arith
  nine_first n u (refusal_9 x y) = omega arith

  nine : is_edition ed ≡ false → AppliesToCall lim ed s l 9 0
  nine n = let w = unknown_words ed n in refusal_9 w.0 w.1

  nineteen : is_limit lim ≡ false → AppliesToCall lim ed s l 19 0
  nineteen n = let w = unknown_limit lim n in of_table (refusal_19 w.0 w.1)

  nine_under : (k : ℕ) → k ≤ 6 → rank 9 < rank k
  unfolding rank
  nine_under k h = omega (arith, rank_small k (omega arith))

  -- what the papers say of a refusal
  abbrev Says : Verdict → Type 0
  Says w = Lowest (AppliesToCall lim ed s l) w.number w.place × Tells s w

  -- a refusal is given exactly when the papers say so, at the place that they say, and tells what is wrong with the record
  pub judgement_exactly : (v : Verdict) → 0 < v.number
      → (judgement lim ed s l ≡ v) ↔ (Lowest (AppliesToCall lim ed s l) v.number v.place × Tells s v)
  unfolding judgement judged_call is_accepted
  judgement_exactly v z =
      (λ e. limited (is_limit lim) refl e, λ h. up (is_limit lim) refl (is_edition ed) refl v.flaw h.0.given h.0.lowest h.1)
    where
      down : is_edition ed ≡ true → (a : Bool) → is_accepted (verdict lim s) ≡ a → (c : Bool) → cramped lim (table_weight s) l ≡ c
          → cond a (cond c (refused 6 0) accepted) (verdict lim s) ≡ v → Says v
      down n true a true c e =
          subst Says e (
            record {
              given = refusal_6 (cramped_words lim (table_weight s) l c);
              lowest = λ j i u x. none_lower n (verdict_accepted lim s a) u x;
            },
            (λ e. absurd (omega arith), λ e. refl),
          )
      down n true a false c e = absurd (let n : 0 ≡ v.number = ap (λ (w : Verdict). w.number) e in omega arith)
      down n false a c i e = let h = (verdict_exactly lim s v z).0 e in (still_lowest n h.0, h.1)

      known : is_limit lim ≡ true → (b : Bool) → is_edition ed ≡ b → cond b (judged_call lim s l) (refused 9 0) ≡ v → Says v
      known m true n e = down n (is_accepted (verdict lim s)) refl (cramped lim (table_weight s) l) refl e
      known m false n e =
          subst Says e (
            record { given = nine n; lowest = λ j i u x. nine_first m u x },
            (λ e. absurd (omega arith), λ e. refl),
          )

      limited : (b : Bool) → is_limit lim ≡ b → cond b (cond (is_edition ed) (judged_call lim s l) (refused 9 0)) (refused 19 0) ≡ v → Says v
      limited true m e = known m (is_edition ed) refl e
      limited false m e =
          subst Says e (
            record { given = nineteen m; lowest = λ j i u x. nineteen_first j u },
            (λ e. absurd (omega arith), λ e. refl),
          )

      up : (a : Bool) → is_limit lim ≡ a → (b : Bool) → is_edition ed ≡ b → {k p : ℕ} (f : Flaw) → AppliesToCall lim ed s l k p
          → ((j q : ℕ) → rank j < rank k → ¬ AppliesToCall lim ed s l j q) → Tells s (told k p f) → judgement lim ed s l ≡ told k p f
      up true m true n {k} {p} f (of_table x) h w =
          let v : verdict lim s ≡ told k p f =
          (verdict_exactly lim s (told k p f) (applies_within x).0).1 (record { given = x; lowest = λ j q u y. h j q u (of_table y) }, w) in
          rw (m, n, v, ne_eqb k 0 (λ e. omega (arith, (applies_within x).0)))
      up true m true n f (refusal_6 x) h w =
          let v : verdict lim s ≡ accepted = (accepted_exactly lim s).1 (λ j q y. h j q (before_6 y) (of_table y)) in
          rw (m, n, v, words_cramped lim (table_weight s) l x) (ap (told 6 0) (sym (w.1 (λ e. omega arith))))
        where
          before_6 : {j q : ℕ} → Applies lim s j q → rank j < rank 6
          before_6 (of_records {k = k} y) = let z = (faulty_within y).1 in omega (arith, rank_small 6 (lit< tt), rank_small k (omega arith))
          before_6 (refusal_19 x y) = nineteen_under 6 (lit≤ tt)
      up true m true n f (refusal_9 x y) h w = absurd (true_not_false n (words_unknown ed x y))
      up true m false n f (of_table (of_records {k = k} x)) h w = absurd (h 9 0 (nine_under k (omega (arith, (faulty_within x).1))) (nine n))
      up true m false n f (of_table (refusal_19 x y)) h w = absurd (true_not_false m (limit_unknown lim x y))
      up true m false n f (refusal_6 x) h w = absurd (h 9 0 (nine_under 6 (lit≤ tt)) (nine n))
      up true m false n f (refusal_9 x y) h w = rw (m, n) (ap (told 9 0) (sym (w.1 (λ e. omega arith))))
      up false m b n f (of_table (of_records {k = k} x)) h w = absurd (h 19 0 (nineteen_under k (omega (arith, (faulty_within x).1))) (nineteen m))
      up false m b n f (of_table (refusal_19 x y)) h w = rw m (ap (told 19 0) (sym (w.1 (λ e. omega arith))))
      up false m b n f (refusal_6 x) h w = absurd (h 19 0 (nineteen_under 6 (lit≤ tt)) (nineteen m))
      up false m b n f (refusal_9 x y) h w = absurd (h 19 0 (nineteen_under 9 (lit≤ tt)) (nineteen m))

  -- and none is given exactly when none applies
  pub judgement_accepted_exactly : (judgement lim ed s l ≡ accepted) ↔ ((k p : ℕ) → ¬ AppliesToCall lim ed s l k p)
  judgement_accepted_exactly = (λ e k p x. down (judgement_accepted lim ed s l e) x, up)
    where
      down : {k p : ℕ} → (verdict lim s ≡ accepted) × (cramped lim (table_weight s) l ≡ false) × (is_edition ed ≡ true) → ¬ AppliesToCall lim ed s l k p
      down h (of_table x) = (accepted_exactly lim s).0 h.0 _ _ x
      down h (refusal_6 x) = true_not_false (words_cramped lim (table_weight s) l x) h.1
      down h (refusal_9 x y) = true_not_false h.2 (words_unknown ed x y)

      up : ((k p : ℕ) → ¬ AppliesToCall lim ed s l k p) → judgement lim ed s l ≡ accepted
      up h =
          accepted_judgement lim ed s l (limited (is_limit lim) refl) (so (is_edition ed) refl) ((accepted_exactly lim s).1 (λ k p x. h k p (of_table x)))
          (not_so (cramped lim (table_weight s) l) (λ e. h 6 0 (refusal_6 (cramped_words lim (table_weight s) l e))))
        where
          so : (b : Bool) → is_edition ed ≡ b → is_edition ed ≡ true
          so true e = e
          so false e = absurd (h 9 0 (nine e))

          limited : (b : Bool) → is_limit lim ≡ b → is_limit lim ≡ true
          limited true e = e
          limited false e = absurd (h 19 0 (nineteen e))

-- so demand 1 speaks of the papers' words
pub refuses_in_words : (lim ed : ℕ) (f : Simplifier) → Refuses lim ed f → (s : List ℕ) → Bytes s → (l : Lent) (v : Verdict) → 1 ≤ v.number
    → ¬ (v.number ≡ 7) → ((f s l).answer ≡ refused_by v) ↔ (Lowest (AppliesToCall lim ed s l) v.number v.place × Tells s v)
refuses_in_words lim ed f r s b l v h g =
    let d = r s b l v h g in
    let w = judgement_exactly lim ed s l v h in
    (λ e. w.0 (d.0 e), λ x. d.1 (w.1 x))

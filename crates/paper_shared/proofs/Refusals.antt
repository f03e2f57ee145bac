-- 19, 9, 8, 1 to 5, 15 to 18 and 6 are given exactly as the requests say, in their order, with the places that they name. The tests are their
-- words (Words); under a limit that there is, the way through them is one of seven (`Judged`); at each the refusal given applies and none does
-- whose turn comes earlier (`Clear`); and there is only one such, since a turn tells the number (`back`) and a number its place. 19, and then 9,
-- come before all of these (`alone`).
use Prim.Native.Nat.{ℕ, ◌+◌, ◌-◌, ◌≤◌, ◌<◌}
use mathlib.Core.Path.{◌≡◌, refl, sym, ap, ◌∙◌, subst}
use mathlib.Core.Bool.{Bool, true, false, cond, ◌||◌, not}
use mathlib.Core.List.{List}
use mathlib.Core.Logic.{◌⊎◌, inl, inr, ◌↔◌}
use mathlib.Core.Option.{Option, none, some}
use native.Mathlib.Omega.{arith}
use lib.ListN.{length}
use lib.Dec.{eqb, ltb, lit<, lit≤}
use borrow.Author.Tests.{eqb-true, eqb-false, ne_eqb, ltb-true, ltb-false}
use Rattle.paper.specs.Limits.{is_limit}
use Rattle.paper.specs.Tree.{Tree, weight}
use Rattle.paper.specs.Verdict.{Verdict, accepted, told, refused, is_accepted, verdict}
use Rattle.paper.specs.Rules.{is_edition}
use Rattle.paper.specs.Answers.{Lent, cramped}
use Rattle.paper.specs.Refusals.{Faulty, of_records, Tells, rank}
use Rattle.paper.proofs.Tests.{true_not_false}
use Rattle.paper.proofs.Refusals.{verdict_exactly, accepted_exactly, rank_small, faulty_within, unknown_limit, limit_unknown, of_known}
use Rattle.paper.proofs.CallLaws.{verdict_accepted, same_tree}
use Rattle.paper.proofs.JudgementLaws.{unknown_words, words_unknown}
use Rattle.paper_shared.specs.Shared.{Circle}
use Rattle.paper_shared.specs.Answers.{Handed, table_at, misses, any_refused, crowded, tree_in, definitions_of, opened_of, Opening, turned_away, opens}
use Rattle.paper_shared.specs.Answers.{opening_of, judged_site, opening, opening_by, verdict_on, no_room, open_verdict, shared_verdict}
use Rattle.paper_shared.specs.Refusals.{Misses, Crowded, NoRoom, Shorter, turn_of, Foremost, AppliesToShared, of_opening, refusal_9}
use Rattle.paper_shared.specs.Refusals.{AppliesToOpening, refusal_19, refusal_8, of_formula, refusal_15, refusal_16, refusal_17, refusal_18, refusal_6}
use Rattle.paper_shared.proofs.CircleLaws.{circle_exactly}
use Rattle.paper_shared.proofs.Words.{why, misses_words, words_misses, any_words, all_none, crowded_words, words_crowded}
use Rattle.paper_shared.proofs.Words.{room_words, words_room, shorter_words, words_shorter}

-- ---- the ways through the tests, under a limit that there is
module _ (lim : ℕ) (h : Handed) where
  pub record Past8 : Type 0 where
    pub met : misses h.symbols h.lengths h.definitions ≡ false
    pub fine : is_accepted (verdict lim h.table) ≡ true

  pub record Past16 : Type 0 where
    pub past : Past8
    pub all_fine : any_refused lim h.lengths h.definitions 0 (length h.symbols) ≡ false
    pub few : crowded h.symbols ≡ false

  pub data Judged : Opening → Type 0 where
    by_8 : misses h.symbols h.lengths h.definitions ≡ true → Judged (turned_away (refused 8 0))
    by_formula : misses h.symbols h.lengths h.definitions ≡ false → is_accepted (verdict lim h.table) ≡ false
        → Judged (turned_away (verdict lim h.table))
    by_15 : Past8 → any_refused lim h.lengths h.definitions 0 (length h.symbols) ≡ true → Judged (turned_away (refused 15 0))
    by_16 : Past8 → any_refused lim h.lengths h.definitions 0 (length h.symbols) ≡ false → crowded h.symbols ≡ true
        → Judged (turned_away (refused 16 0))
    by_17 : Past16 → opened_of h ≡ none → Judged (turned_away (refused 17 0))
    by_18 : {v : Tree} → Past16 → opened_of h ≡ some v → lim < weight v → Judged (turned_away (refused 18 0))
    through : {v : Tree} → Past16 → opened_of h ≡ some v → weight v ≤ lim → Judged (opens v)

  weighed : (o : Option Tree) → opened_of h ≡ o → Past16 → Judged (opening_of lim o)
  unfolding opening_of
  weighed none e p = by_17 p e
  weighed (some v) e p = go (ltb lim (weight v)) refl
    where
      go : (b : Bool) → ltb lim (weight v) ≡ b → Judged (cond b (turned_away (refused 18 0)) (opens v))
      go true q = by_18 p e (ltb-true lim (weight v) q)
      go false q = through p e (ltb-false lim (weight v) q)

  pub judged : Judged (judged_site lim h)
  unfolding judged_site
  judged =
      go (misses h.symbols h.lengths h.definitions) refl (is_accepted (verdict lim h.table)) refl
      (any_refused lim h.lengths h.definitions 0 (length h.symbols)) refl (crowded h.symbols) refl
    where
      go : (m : Bool) → misses h.symbols h.lengths h.definitions ≡ m → (a : Bool) → is_accepted (verdict lim h.table) ≡ a
          → (r : Bool) → any_refused lim h.lengths h.definitions 0 (length h.symbols) ≡ r → (c : Bool) → crowded h.symbols ≡ c
          → Judged
          (cond m (turned_away (refused 8 0))
          (cond (not a) (turned_away (verdict lim h.table))
          (cond r (turned_away (refused 15 0))
          (cond c (turned_away (refused 16 0))
          (opening_of lim (opened_of h))))))
      go true me a ae r re c ce = by_8 me
      go false me false ae r re c ce = by_formula me ae
      go false me true ae true re c ce = by_15 (record { met = me; fine = ae }) re
      go false me true ae false re true ce = by_16 (record { met = me; fine = ae }) re ce
      go false me true ae false re false ce =
          weighed (opened_of h) refl (record { past = record { met = me; fine = ae }; all_fine = re; few = ce })

-- ---- whose turn is when
turn_table : (k : ℕ) → k ≤ 5 → turn_of k ≡ rank k
unfolding turn_of
turn_table k l = rw (ne_eqb k 6 (λ e. omega arith))

turn_small : (k : ℕ) → k ≤ 5 → turn_of k ≡ k + 2
turn_small k l = turn_table k l ∙ rank_small k (omega arith)

-- the number whose turn it is
back : ℕ → ℕ
back t = cond (eqb t 0) 19 (cond (eqb t 2) 8 (cond (eqb t 21) 6 (t - 2)))

module _ {lim : ℕ} {h : Handed} {Short : ℕ → Type 0} where
  back_turn : {k p : ℕ} → AppliesToOpening lim h Short k p → back (turn_of k) ≡ k
  unfolding turn_of rank back
  back_turn (refusal_19 x y) = refl
  back_turn (refusal_8 m) = refl
  back_turn {k} (of_formula x) =
      let w = faulty_within x in
      let a = w.0 in
      let b = w.1 in
      ap back (turn_small k b)
      ∙ rw (ne_eqb (k + 2) 0 (λ e. omega arith), ne_eqb (k + 2) 2 (λ e. omega arith), ne_eqb (k + 2) 21 (λ e. omega arith)) (omega arith)
  back_turn (refusal_15 i x) = refl
  back_turn (refusal_16 x) = refl
  back_turn (refusal_17 x) = refl
  back_turn (refusal_18 e x) = refl
  back_turn (refusal_6 e x) = refl

  number_positive : {k p : ℕ} → AppliesToOpening lim h Short k p → 1 ≤ k
  number_positive (refusal_19 x y) = lit≤ tt
  number_positive (refusal_8 m) = lit≤ tt
  number_positive (of_formula x) = (faulty_within x).0
  number_positive (refusal_15 i x) = lit≤ tt
  number_positive (refusal_16 x) = lit≤ tt
  number_positive (refusal_17 x) = lit≤ tt
  number_positive (refusal_18 e x) = lit≤ tt
  number_positive (refusal_6 e x) = lit≤ tt

  -- only the formula's refusals have places
  place_nought : {k p : ℕ} → 5 < k → AppliesToOpening lim h Short k p → p ≡ 0
  place_nought l (refusal_19 x y) = refl
  place_nought l (refusal_8 m) = refl
  place_nought l (of_formula x) = absurd (omega (arith, (faulty_within x).1))
  place_nought l (refusal_15 i x) = refl
  place_nought l (refusal_16 x) = refl
  place_nought l (refusal_17 x) = refl
  place_nought l (refusal_18 e x) = refl
  place_nought l (refusal_6 e x) = refl

  formula's : {k p : ℕ} → k ≤ 5 → AppliesToOpening lim h Short k p → Faulty lim h.table k p
  formula's l (refusal_19 x y) = absurd (omega arith)
  formula's l (refusal_8 m) = absurd (omega arith)
  formula's l (of_formula x) = x
  formula's l (refusal_15 i x) = absurd (omega arith)
  formula's l (refusal_16 x) = absurd (omega arith)
  formula's l (refusal_17 x) = absurd (omega arith)
  formula's l (refusal_18 e x) = absurd (omega arith)
  formula's l (refusal_6 e x) = absurd (omega arith)

-- ---- what has been excluded where the turn r comes
module _ (lim : ℕ) (h : Handed) (n : is_limit lim ≡ true) where
  record Clear (r : ℕ) : Type 0 where
    late : r ≤ turn_of 6
    no_8 : turn_of 8 < r → ¬ Misses h
    no_formula : (j q : ℕ) → turn_of j < r → ¬ Faulty lim h.table j q
    no_15 : turn_of 15 < r → (i k p : ℕ) → i < length h.symbols → ¬ Faulty lim (table_at h.lengths h.definitions i) k p
    no_16 : turn_of 16 < r → ¬ Crowded h.symbols
    no_17 : turn_of 17 < r → ¬ Circle (definitions_of h) (tree_in h.table)
    no_18 : turn_of 18 < r → (v : Tree) → opened_of h ≡ some v → ¬ (lim < weight v)

  none_before : {Short : ℕ → Type 0} {r j q : ℕ} → Clear r → turn_of j < r → ¬ AppliesToOpening lim h Short j q
  none_before c l (refusal_19 x y) = true_not_false n (limit_unknown lim x y)
  none_before c l (refusal_8 m) = c.no_8 l m
  none_before c l (of_formula x) = c.no_formula _ _ l x
  none_before c l (refusal_15 i x) = c.no_15 l _ _ _ i x
  none_before c l (refusal_16 x) = c.no_16 l x
  none_before c l (refusal_17 x) = c.no_17 l x
  none_before c l (refusal_18 e x) = c.no_18 l _ e x
  none_before c l (refusal_6 e x) = let u = c.late in omega arith

  met_none : misses h.symbols h.lengths h.definitions ≡ false → ¬ Misses h
  met_none e m = true_not_false (words_misses h m) e

  fine_none : is_accepted (verdict lim h.table) ≡ true → (j q : ℕ) → ¬ Faulty lim h.table j q
  fine_none e j q x = (accepted_exactly lim h.table).0 (verdict_accepted lim h.table e) j q (of_records x)

  few_none : crowded h.symbols ≡ false → ¬ Crowded h.symbols
  few_none e x = true_not_false (words_crowded h.symbols x) e

  opened_none : {v : Tree} → opened_of h ≡ some v → ¬ Circle (definitions_of h) (tree_in h.table)
  unfolding opened_of
  opened_none {v} e c =
      let n : opened_of h ≡ none = (circle_exactly (definitions_of h) (tree_in h.table)).1 c in
      let z : ◌≡◌ {A = ℕ} 0 1 = some_none (sym e ∙ n) in omega arith
    where
      is_some : Option Tree → ℕ
      is_some none = 1
      is_some (some t) = 0

      some_none : some v ≡ none → ◌≡◌ {A = ℕ} 0 1
      some_none q = ap is_some q

  clear_8 : Clear (turn_of 8)
  unfolding turn_of rank
  clear_8 = record {
    late = lit≤ tt;
    no_8 = λ l. absurd (omega arith);
    no_formula = λ j q l x. let w = faulty_within x in omega (arith, l, turn_small j w.1);
    no_15 = λ l. absurd (omega arith);
    no_16 = λ l. absurd (omega arith);
    no_17 = λ l. absurd (omega arith);
    no_18 = λ l. absurd (omega arith);
  }

  clear_formula : misses h.symbols h.lengths h.definitions ≡ false → is_accepted (verdict lim h.table) ≡ false
      → Clear (turn_of (verdict lim h.table).number)
  unfolding turn_of rank
  clear_formula m r =
      let w = (why lim h.table n r).0 in
      let b = (faulty_within w.given).1 in
      let t = turn_small (verdict lim h.table).number b in
      record {
        late = omega arith;
        no_8 = λ l. met_none m;
        no_formula = λ j q l x.
            w.lowest j q (omega (arith, l, turn_table j (faulty_within x).1, turn_table (verdict lim h.table).number b)) x;
        no_15 = λ l. absurd (omega arith);
        no_16 = λ l. absurd (omega arith);
        no_17 = λ l. absurd (omega arith);
        no_18 = λ l. absurd (omega arith);
      }

  clear_15 : Past8 lim h → Clear (turn_of 15)
  unfolding turn_of rank
  clear_15 p = record {
    late = lit≤ tt;
    no_8 = λ l. met_none p.met;
    no_formula = λ j q l. fine_none p.fine j q;
    no_15 = λ l. absurd (omega arith);
    no_16 = λ l. absurd (omega arith);
    no_17 = λ l. absurd (omega arith);
    no_18 = λ l. absurd (omega arith);
  }

  clear_16 : Past8 lim h → any_refused lim h.lengths h.definitions 0 (length h.symbols) ≡ false → Clear (turn_of 16)
  unfolding turn_of rank
  clear_16 p a = record {
    late = lit≤ tt;
    no_8 = λ l. met_none p.met;
    no_formula = λ j q l. fine_none p.fine j q;
    no_15 = λ l. all_none lim h a;
    no_16 = λ l. absurd (omega arith);
    no_17 = λ l. absurd (omega arith);
    no_18 = λ l. absurd (omega arith);
  }

  clear_17 : Past16 lim h → Clear (turn_of 17)
  unfolding turn_of rank
  clear_17 p = record {
    late = lit≤ tt;
    no_8 = λ l. met_none p.past.met;
    no_formula = λ j q l. fine_none p.past.fine j q;
    no_15 = λ l. all_none lim h p.all_fine;
    no_16 = λ l. few_none p.few;
    no_17 = λ l. absurd (omega arith);
    no_18 = λ l. absurd (omega arith);
  }

  clear_18 : {v : Tree} → Past16 lim h → opened_of h ≡ some v → Clear (turn_of 18)
  unfolding turn_of rank
  clear_18 p e = record {
    late = lit≤ tt;
    no_8 = λ l. met_none p.past.met;
    no_formula = λ j q l. fine_none p.past.fine j q;
    no_15 = λ l. all_none lim h p.all_fine;
    no_16 = λ l. few_none p.few;
    no_17 = λ l. opened_none e;
    no_18 = λ l. absurd (omega arith);
  }

  clear_6 : {v : Tree} → Past16 lim h → opened_of h ≡ some v → weight v ≤ lim → Clear (turn_of 6)
  unfolding turn_of rank
  clear_6 {v} p e w = record {
    late = lit≤ tt;
    no_8 = λ l. met_none p.past.met;
    no_formula = λ j q l. fine_none p.past.fine j q;
    no_15 = λ l. all_none lim h p.all_fine;
    no_16 = λ l. few_none p.few;
    no_17 = λ l. opened_none e;
    no_18 = λ l u d x. let s = ap weight (same_tree e d) in omega arith;
  }

number_not : (k : ℕ) → refused k 0 ≡ accepted → 0 < k → ⊥
number_not k e l = let n : k ≡ 0 = ap (λ (v : Verdict). v.number) e in omega arith

-- verdicts whose parts agree are one
one_verdict : (u v : Verdict) → u.number ≡ v.number → u.place ≡ v.place → u.flaw ≡ v.flaw → u ≡ v
one_verdict u v a b c =
    ap (λ (k : ℕ). told k u.place u.flaw) a ∙ ap (λ (p : ℕ). told v.number p u.flaw) b ∙ ap (told v.number v.place) c

-- a verdict that is no refusal of a record tells of none
quiet : (s : List ℕ) (k p : ℕ) → ¬ (k ≡ 2) → Tells s (refused k p)
quiet s k p n = (λ e. absurd (n e), λ m. refl)

-- ---- and so, where the test of the lent areas is its words
module _
    (lim : ℕ) (h : Handed) (Short : ℕ → Type 0) (short : ℕ → Bool) (reads : (w : ℕ) → short w ≡ true → Short w)
    (tests : (w : ℕ) → Short w → short w ≡ true) (n : is_limit lim ≡ true) where
  -- what the requests say of a refusal
  abbrev Says : Verdict → Type 0
  Says v = Foremost (AppliesToOpening lim h Short) v.number v.place × Tells h.table v

  given_6 : {v : Tree} → Past16 lim h → opened_of h ≡ some v → weight v ≤ lim → 0 < (cond (short (weight v)) (refused 6 0) accepted).number
      → Says (cond (short (weight v)) (refused 6 0) accepted)
  given_6 {v} past s w z = go (short (weight v)) refl z
    where
      go : (b : Bool) → short (weight v) ≡ b → 0 < (cond b (refused 6 0) accepted).number → Says (cond b (refused 6 0) accepted)
      go true q z = (
        record { given = refusal_6 s (reads (weight v) q); foremost = λ j i l. none_before lim h n (clear_6 lim h n past s w) l },
        quiet h.table 6 0 (λ e. omega arith),
      )
      go false q z = absurd (omega arith)

  given : {o : Opening} → Judged lim h o → 0 < (verdict_on short o).number → Says (verdict_on short o)
  unfolding verdict_on opened_of
  given (by_8 m) z = (
    record { given = refusal_8 (misses_words h m); foremost = λ j q l. none_before lim h n (clear_8 lim h n) l },
    quiet h.table 8 0 (λ e. omega arith),
  )
  given (by_formula m r) z =
      let w = why lim h.table n r in
      (record { given = of_formula w.0.given; foremost = λ j q l. none_before lim h n (clear_formula lim h n m r) l }, w.1)
  given (by_15 p a) z =
      let o = any_words lim h.lengths h.definitions n 0 (length h.symbols) a in
      let u = o.hi in (
        record { given = refusal_15 {i = o.at} (omega arith) o.applies; foremost = λ j q l. none_before lim h n (clear_15 lim h n p) l },
        quiet h.table 15 0 (λ e. omega arith),
      )
  given (by_16 p a c) z = (
    record { given = refusal_16 (crowded_words h.symbols c); foremost = λ j q l. none_before lim h n (clear_16 lim h n p a) l },
    quiet h.table 16 0 (λ e. omega arith),
  )
  given (by_17 p c) z = (
    record {
      given = refusal_17 ((circle_exactly (definitions_of h) (tree_in h.table)).0 c);
      foremost = λ j q l. none_before lim h n (clear_17 lim h n p) l;
    },
    quiet h.table 17 0 (λ e. omega arith),
  )
  given (by_18 p s w) z = (
    record { given = refusal_18 s w; foremost = λ j q l. none_before lim h n (clear_18 lim h n p s) l },
    quiet h.table 18 0 (λ e. omega arith),
  )
  given (through p s w) z = given_6 p s w z

  no_more : {v : Tree} → Past16 lim h → opened_of h ≡ some v → weight v ≤ lim → cond (short (weight v)) (refused 6 0) accepted ≡ accepted
      → {k p : ℕ} → ¬ AppliesToOpening lim h Short k p
  no_more {v} past s w e {k} {p} x = go (short (weight v)) refl e
    where
      at_6 : {k p : ℕ} → short (weight v) ≡ false → ¬ AppliesToOpening lim h Short k p
      at_6 q (refusal_19 x y) = true_not_false n (limit_unknown lim x y)
      at_6 q (refusal_8 m) = met_none lim h n past.past.met m
      at_6 q (of_formula x) = fine_none lim h n past.past.fine _ _ x
      at_6 q (refusal_15 i x) = all_none lim h past.all_fine _ _ _ i x
      at_6 q (refusal_16 x) = few_none lim h n past.few x
      at_6 q (refusal_17 x) = opened_none lim h n s x
      at_6 q (refusal_18 d x) = let y = ap weight (same_tree s d) in omega arith
      at_6 q (refusal_6 d x) = true_not_false (tests (weight v) (subst (λ (t : Tree). Short (weight t)) (same_tree d s) x)) q

      go : (b : Bool) → short (weight v) ≡ b → cond b (refused 6 0) accepted ≡ accepted → ⊥
      go true q e = number_not 6 e (lit≤ tt)
      go false q e = at_6 q x

  -- nothing applies where nothing is refused
  accepted_none : {o : Opening} → Judged lim h o → verdict_on short o ≡ accepted → {k p : ℕ} → ¬ AppliesToOpening lim h Short k p
  unfolding verdict_on
  accepted_none (by_8 m) e x = number_not 8 e (lit≤ tt)
  accepted_none (by_formula m r) e x = let k = (faulty_within (why lim h.table n r).0.given).0 in omega (arith, k, ap (λ (v : Verdict). v.number) e)
  accepted_none (by_15 p a) e x = number_not 15 e (lit≤ tt)
  accepted_none (by_16 p a c) e x = number_not 16 e (lit≤ tt)
  accepted_none (by_17 p c) e x = number_not 17 e (lit≤ tt)
  accepted_none (by_18 p s w) e x = number_not 18 e (lit≤ tt)
  accepted_none (through p s w) e x = no_more p s w e x

  six_or_none : (b : Bool) → (cond b (refused 6 0) accepted).number ≡ 0 → cond b (refused 6 0) accepted ≡ accepted
  six_or_none true z = absurd (omega arith)
  six_or_none false z = refl

  -- and nothing is refused where the number is 0
  accepted_whole : {o : Opening} → Judged lim h o → (verdict_on short o).number ≡ 0 → verdict_on short o ≡ accepted
  unfolding verdict_on
  accepted_whole (by_8 m) z = absurd (omega arith)
  accepted_whole (by_formula m r) z = absurd (let k = (faulty_within (why lim h.table n r).0.given).0 in omega arith)
  accepted_whole (by_15 p a) z = absurd (omega arith)
  accepted_whole (by_16 p a c) z = absurd (omega arith)
  accepted_whole (by_17 p e) z = absurd (omega arith)
  accepted_whole (by_18 p s w) z = absurd (omega arith)
  accepted_whole (through {v = v} p s w) z = six_or_none (short (weight v)) z

  -- of the formula's refusals, what comes first is the checker's
  checker's : (v : Verdict) → v.number ≤ 5 → Says v → verdict lim h.table ≡ v
  checker's v l s =
      let a = number_positive s.0.given in
      (verdict_exactly lim h.table v a).1 (
        record {
          given = of_records (formula's l s.0.given);
          lowest = λ j q u x.
              let y = of_known lim _ n x in
              s.0.foremost j q (omega (arith, u, turn_table j (faulty_within y).1, turn_table v.number l)) (of_formula y);
        },
        s.1,
      )

  one_first : (u v : Verdict) → Says u → Says v → u ≡ v
  one_first u v f g = go (ltb 5 v.number) refl
    where
      same_turn : turn_of u.number ≡ turn_of v.number
      same_turn =
          let a : ¬ (turn_of u.number < turn_of v.number) = λ l. g.0.foremost u.number u.place l f.0.given in
          let b : ¬ (turn_of v.number < turn_of u.number) = λ l. f.0.foremost v.number v.place l g.0.given in
          omega (arith, a, b)

      same_number : u.number ≡ v.number
      same_number = sym (back_turn f.0.given) ∙ ap back same_turn ∙ back_turn g.0.given

      go : (c : Bool) → ltb 5 v.number ≡ c → u ≡ v
      go true e =
          let l : 5 < v.number = ltb-true 5 v.number e in
          let m : 5 < u.number = omega (arith, same_number) in
          one_verdict u v same_number (place_nought m f.0.given ∙ sym (place_nought l g.0.given))
          (f.1.1 (λ q. omega arith) ∙ sym (g.1.1 (λ q. omega arith)))
      go false e =
          let l : v.number ≤ 5 = ltb-false 5 v.number e in
          sym (checker's u (omega (arith, same_number)) f) ∙ checker's v l g

  -- a refusal is given exactly when the request says so, at the place that it says, and tells what is wrong with the formula's record
  pub site_exactly : (v : Verdict) → 0 < v.number
      → (verdict_on short (judged_site lim h) ≡ v) ↔ (Foremost (AppliesToOpening lim h Short) v.number v.place × Tells h.table v)
  site_exactly v z = (
    λ e. subst Says e (given (judged lim h) (subst (λ (u : Verdict). 0 < u.number) (sym e) z)),
    λ f. up (eqb (verdict_on short (judged_site lim h)).number 0) refl f,
  )
    where
      up : (b : Bool) → eqb (verdict_on short (judged_site lim h)).number 0 ≡ b → Says v → verdict_on short (judged_site lim h) ≡ v
      up true q f =
          let m = eqb-true (verdict_on short (judged_site lim h)).number 0 q in
          absurd (accepted_none (judged lim h) (accepted_whole (judged lim h) m) f.0.given)
      up false q f =
          let d = eqb-false (verdict_on short (judged_site lim h)).number 0 q in
          one_first (verdict_on short (judged_site lim h)) v (given (judged lim h) (omega (arith, d))) f

  -- and none is given exactly when none applies
  pub site_accepted_exactly : (verdict_on short (judged_site lim h) ≡ accepted) ↔ ((k p : ℕ) → ¬ AppliesToOpening lim h Short k p)
  site_accepted_exactly = (λ e k p x. accepted_none (judged lim h) e x, λ f. up (eqb (verdict_on short (judged_site lim h)).number 0) refl f)
    where
      up : (b : Bool) → eqb (verdict_on short (judged_site lim h)).number 0 ≡ b → ((k p : ℕ) → ¬ AppliesToOpening lim h Short k p)
          → verdict_on short (judged_site lim h) ≡ accepted
      up true q f = accepted_whole (judged lim h) (eqb-true (verdict_on short (judged_site lim h)).number 0 q)
      up false q f =
          let d = eqb-false (verdict_on short (judged_site lim h)).number 0 q in
          absurd (f _ _ (given (judged lim h) (omega (arith, d))).0.given)

-- ---- a refusal that comes before all others that apply is given alone
module _ (s : List ℕ) (Apply : ℕ → ℕ → Type 0) (n : ℕ) (not-2 : ¬ (n ≡ 2)) (applies : Apply n 0)
    (before : (j q : ℕ) → turn_of j < turn_of n → ¬ Apply j q) (after : (k p : ℕ) → Apply k p → ((k ≡ n) × (p ≡ 0)) ⊎ (turn_of n < turn_of k)) where
  alone : (v : Verdict) → (refused n 0 ≡ v) ↔ (Foremost Apply v.number v.place × Tells s v)
  alone v = (
    λ e. subst (λ (u : Verdict). Foremost Apply u.number u.place × Tells s u) e (record { given = applies; foremost = before }, quiet s n 0 not-2),
    λ f. up f (after v.number v.place f.0.given),
  )
    where
      up : Foremost Apply v.number v.place × Tells s v → ((v.number ≡ n) × (v.place ≡ 0)) ⊎ (turn_of n < turn_of v.number) → refused n 0 ≡ v
      up f (inl e) = one_verdict (refused n 0) v (sym e.0) (sym e.1) (sym (f.1.1 (λ q. not-2 (sym e.0 ∙ q))))
      up f (inr l) = absurd (f.0.foremost n 0 l applies)

none_before_19 : {A : Type 0} (j : ℕ) → turn_of j < turn_of 19 → A
unfolding turn_of rank
none_before_19 j l = absurd (omega arith)

module _ (lim : ℕ) (h : Handed) (Short : ℕ → Type 0) where
  nineteen : is_limit lim ≡ false → AppliesToOpening lim h Short 19 0
  nineteen n = let w = unknown_limit lim n in refusal_19 w.0 w.1

  -- what applies besides 19 comes after 9, and so after 19
  after_nine : {k p : ℕ} → AppliesToOpening lim h Short k p → ((k ≡ 19) × (p ≡ 0)) ⊎ (turn_of 9 < turn_of k)
  unfolding turn_of rank
  after_nine (refusal_19 x y) = inl (refl, refl)
  after_nine (refusal_8 m) = inr (lit< tt)
  after_nine {k} (of_formula x) = inr (let t = turn_small k (faulty_within x).1 in omega arith)
  after_nine (refusal_15 i x) = inr (lit< tt)
  after_nine (refusal_16 x) = inr (lit< tt)
  after_nine (refusal_17 x) = inr (lit< tt)
  after_nine (refusal_18 e x) = inr (lit< tt)
  after_nine (refusal_6 e x) = inr (lit< tt)

nine_19 : turn_of 19 < turn_of 9
unfolding turn_of rank
nine_19 = lit< tt

or_later : {k p : ℕ} → ((k ≡ 19) × (p ≡ 0)) ⊎ (turn_of 9 < turn_of k) → ((k ≡ 19) × (p ≡ 0)) ⊎ (turn_of 19 < turn_of k)
or_later (inl e) = inl e
or_later (inr l) = inr (let m = nine_19 in omega arith)

-- ---- of the call that opens
module _ (lim : ℕ) (h : Handed) (area : List ℕ) where
  known_site : is_limit lim ≡ true → open_verdict lim h area ≡ verdict_on (no_room area) (judged_site lim h)
  unfolding open_verdict opening
  known_site n = rw n

  unknown_site : is_limit lim ≡ false → open_verdict lim h area ≡ refused 19 0
  unfolding open_verdict opening verdict_on
  unknown_site n = rw n

  pub open_refusal_exactly : (v : Verdict) → 0 < v.number
      → (open_verdict lim h area ≡ v) ↔ (Foremost (AppliesToOpening lim h (NoRoom area)) v.number v.place × Tells h.table v)
  open_refusal_exactly v z = go (is_limit lim) refl
    where
      go : (b : Bool) → is_limit lim ≡ b
          → (open_verdict lim h area ≡ v) ↔ (Foremost (AppliesToOpening lim h (NoRoom area)) v.number v.place × Tells h.table v)
      go true n =
          let w = site_exactly lim h (NoRoom area) (no_room area) (room_words area) (words_room area) n v z in
          (λ e. w.0 (sym (known_site n) ∙ e), λ f. known_site n ∙ w.1 f)
      go false n =
          let w = alone h.table (AppliesToOpening lim h (NoRoom area)) 19 (λ e. omega arith) (nineteen lim h (NoRoom area) n)
          (λ j q u. none_before_19 j u) (λ k p x. or_later (after_nine lim h (NoRoom area) x)) v in
          (λ e. w.0 (sym (unknown_site n) ∙ e), λ f. unknown_site n ∙ w.1 f)

  pub open_accepted_exactly : (open_verdict lim h area ≡ accepted) ↔ ((k p : ℕ) → ¬ AppliesToOpening lim h (NoRoom area) k p)
  open_accepted_exactly = go (is_limit lim) refl
    where
      go : (b : Bool) → is_limit lim ≡ b → (open_verdict lim h area ≡ accepted) ↔ ((k p : ℕ) → ¬ AppliesToOpening lim h (NoRoom area) k p)
      go true n =
          let w = site_accepted_exactly lim h (NoRoom area) (no_room area) (room_words area) (words_room area) n in
          (λ e. w.0 (sym (known_site n) ∙ e), λ f. known_site n ∙ w.1 f)
      go false n = (
        λ e. absurd (number_not 19 (sym (unknown_site n) ∙ e) (lit≤ tt)),
        λ f. absurd (f 19 0 (nineteen lim h (NoRoom area) n)),
      )

-- ---- of the call that opens and simplifies
module _ (lim ed : ℕ) (h : Handed) (area : List ℕ) (l : Lent) where
  -- what the tests say under a limit and an edition that there are
  abbrev Tested : Verdict
  Tested = verdict_on (λ w. no_room area w || cramped lim w l) (judged_site lim h)

  known : is_limit lim ≡ true → is_edition ed ≡ true → shared_verdict lim ed h area l ≡ Tested
  unfolding shared_verdict opening_by
  known n e = rw (n, e)

  no_limit : is_limit lim ≡ false → shared_verdict lim ed h area l ≡ refused 19 0
  unfolding shared_verdict opening_by verdict_on
  no_limit n = rw n

  no_edition : is_limit lim ≡ true → is_edition ed ≡ false → shared_verdict lim ed h area l ≡ refused 9 0
  unfolding shared_verdict opening_by verdict_on
  no_edition n e = rw (n, e)

  -- the words under another limit, under an unknown edition, and with both known
  abbrev Applying : ℕ → ℕ → Type 0
  Applying = AppliesToShared lim ed h area l

  after_19 : {k p : ℕ} → Applying k p → ((k ≡ 19) × (p ≡ 0)) ⊎ (turn_of 19 < turn_of k)
  after_19 (of_opening x) = or_later (after_nine lim h (Shorter lim area l) x)
  after_19 (refusal_9 a b) = inr nine_19

  nine : is_edition ed ≡ false → Applying 9 0
  nine e = let w = unknown_words ed e in refusal_9 w.0 w.1

  after_9 : is_limit lim ≡ true → {k p : ℕ} → Applying k p → ((k ≡ 9) × (p ≡ 0)) ⊎ (turn_of 9 < turn_of k)
  after_9 n (of_opening x) = go (after_nine lim h (Shorter lim area l) x) x
    where
      go : {k p : ℕ} → ((k ≡ 19) × (p ≡ 0)) ⊎ (turn_of 9 < turn_of k) → AppliesToOpening lim h (Shorter lim area l) k p
          → ((k ≡ 9) × (p ≡ 0)) ⊎ (turn_of 9 < turn_of k)
      go (inr u) y = inr u
      go (inl e) (refusal_19 a b) = absurd (true_not_false n (limit_unknown lim a b))
      go (inl e) (refusal_8 m) = absurd (omega (arith, e.0))
      go (inl e) (of_formula y) = absurd (omega (arith, e.0, (faulty_within y).1))
      go (inl e) (refusal_15 i y) = absurd (omega (arith, e.0))
      go (inl e) (refusal_16 y) = absurd (omega (arith, e.0))
      go (inl e) (refusal_17 y) = absurd (omega (arith, e.0))
      go (inl e) (refusal_18 d y) = absurd (omega (arith, e.0))
      go (inl e) (refusal_6 d y) = absurd (omega (arith, e.0))
  after_9 n (refusal_9 a b) = inl (refl, refl)

  before_9 : is_limit lim ≡ true → (j q : ℕ) → turn_of j < turn_of 9 → ¬ Applying j q
  before_9 n j q u x = go (after_9 n x)
    where
      go : ((j ≡ 9) × (q ≡ 0)) ⊎ (turn_of 9 < turn_of j) → ⊥
      go (inl e) = let w = ap turn_of e.0 in omega arith
      go (inr m) = omega arith

  -- of a known edition what applies is the opening's
  opening's : is_edition ed ≡ true → {k p : ℕ} → Applying k p → AppliesToOpening lim h (Shorter lim area l) k p
  opening's e (of_opening x) = x
  opening's e (refusal_9 a b) = absurd (true_not_false e (words_unknown ed a b))

  pub shared_refusal_exactly : (v : Verdict) → 0 < v.number
      → (shared_verdict lim ed h area l ≡ v) ↔ (Foremost (AppliesToShared lim ed h area l) v.number v.place × Tells h.table v)
  shared_refusal_exactly v z = go (is_limit lim) refl (is_edition ed) refl
    where
      go : (b : Bool) → is_limit lim ≡ b → (c : Bool) → is_edition ed ≡ c
          → (shared_verdict lim ed h area l ≡ v) ↔ (Foremost Applying v.number v.place × Tells h.table v)
      go true n true e =
          let short = Shorter lim area l in
          let w = site_exactly lim h short (λ w. no_room area w || cramped lim w l) (shorter_words lim area l) (words_shorter lim area l) n v z in (
            λ q. let x = w.0 (sym (known n e) ∙ q) in
                (record { given = of_opening x.0.given; foremost = λ j i u y. x.0.foremost j i u (opening's e y) }, x.1),
            λ f. known n e ∙ w.1 (record { given = opening's e f.0.given; foremost = λ j i u y. f.0.foremost j i u (of_opening y) }, f.1),
          )
      go true n false e =
          let w = alone h.table Applying 9 (λ q. omega arith) (nine e) (before_9 n) (λ k p x. after_9 n x) v in
          (λ q. w.0 (sym (no_edition n e) ∙ q), λ f. no_edition n e ∙ w.1 f)
      go false n c e =
          let w =
          alone h.table Applying 19 (λ q. omega arith) (of_opening (nineteen lim h (Shorter lim area l) n))
          (λ j i u. none_before_19 j u) (λ k p x. after_19 x) v in
          (λ q. w.0 (sym (no_limit n) ∙ q), λ f. no_limit n ∙ w.1 f)

  pub shared_accepted_exactly : (shared_verdict lim ed h area l ≡ accepted) ↔ ((k p : ℕ) → ¬ AppliesToShared lim ed h area l k p)
  shared_accepted_exactly = go (is_limit lim) refl (is_edition ed) refl
    where
      go : (b : Bool) → is_limit lim ≡ b → (c : Bool) → is_edition ed ≡ c → (shared_verdict lim ed h area l ≡ accepted) ↔ ((k p : ℕ) → ¬ Applying k p)
      go true n true e =
          let short = Shorter lim area l in
          let w = site_accepted_exactly lim h short (λ w. no_room area w || cramped lim w l) (shorter_words lim area l) (words_shorter lim area l) n in
          (λ q k p x. w.0 (sym (known n e) ∙ q) k p (opening's e x), λ f. known n e ∙ w.1 (λ k p x. f k p (of_opening x)))
      go true n false e = (λ q. absurd (number_not 9 (sym (no_edition n e) ∙ q) (lit≤ tt)), λ f. absurd (f 9 0 (nine e)))
      go false n c e =
          (λ q. absurd (number_not 19 (sym (no_limit n) ∙ q) (lit≤ tt)), λ f. absurd (f 19 0 (of_opening (nineteen lim h (Shorter lim area l) n))))

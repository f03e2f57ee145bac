-- The numbers of every answer of the simplifier fit in 8 bytes, and so its slice tells them: a place is at most the number of records, or
-- of steps; steps, openings and weights are at most the weight of the table.
use Prim.Native.Nat.{ℕ, zero, suc, ◌+◌, ◌*◌, ◌^◌, ◌≤◌, ◌<◌, min}
use mathlib.Core.Path.{◌≡◌, refl, sym, ap, ap₂, ◌∙◌, subst}
use mathlib.Core.Bool.{Bool, true, false, cond, not, ◌&&◌}
use mathlib.Core.List.{List, [], ◌∷◌, ◌++◌, append_assoc}
use native.Mathlib.Omega.{arith}
use native.Mathlib.Nat.{mul-le-mul}
use lib.ListN.{length, get_or}
use lib.Dec.{eqb, ltb, lit<}
use borrow.Author.Tests.{ltb-true}
use Rattle.paper.specs.Limits.{is_limit}
use Rattle.paper.specs.Bytes.{Bytes, bytes, le8}
use Rattle.paper.specs.Tree.{Tree, weight}
use Rattle.paper.specs.WellFormed.{WF}
use Rattle.paper.specs.Record.{kind, count_in, is_node, stray, Flaw, sound, bad_kind, bad_byte, bad_count, flaw, flaw_numbers, weight_from}
use Rattle.paper.specs.Verdict.{Verdict, accepted, refused, flawed, is_accepted, records_in, bad_length, first_flawed, table_weight, tree_end}
use Rattle.paper.specs.Verdict.{first_bad_exponent, judge_records, judged_table, verdict}
use Rattle.paper.specs.Rules.{is_edition, rules_of}
use Rattle.paper.specs.Driver.{Ran, done, over, simplify}
use Rattle.paper.specs.Answers.{Lent, Answer, cramped, judged_call, judgement, refused_by, ran_answer, simplified}
use Rattle.paper.specs.Calls.{answer_numbers, eights}
use Rattle.paper.specs.Told.{flaw_from, answer_in, FitEight}
use Rattle.paper.proofs.Slices.{answer_count}
use Rattle.paper.proofs.BytesLaws.{length_bytes, le8_append_add, first_eight}
use Rattle.paper.proofs.EncodeLaws.{records_weight}
use Rattle.paper.proofs.LimitLaws.{limit_small}
use Rattle.paper.proofs.VerdictLaws.{length_good}
use Rattle.paper.proofs.EditionTwo.{edition_good}
use Rattle.paper.proofs.PlaceOfSeven.{Within, run_within}
use Rattle.paper.proofs.Simplified.{simplify_finished}
use Rattle.paper.proofs.TryLaws.{tries_cube}
use Rattle.paper.proofs.CallLaws.{Call, is_turned_down, is_run, call}

-- ---- places, and what is wrong with a record
record PlaceIn (n : ℕ) (v : Verdict) : Type 0 where
  named : v.number ≤ 19
  most : v.place ≤ n
  fits : FitEight (flaw_numbers v.flaw)

either : (n : ℕ) (b : Bool) (w v : Verdict) → (b ≡ true → PlaceIn n w) → PlaceIn n v → PlaceIn n (cond b w v)
either n true w v h k = h refl
either n false w v h k = k

-- a refusal that says nothing of a record
plain : (n k p : ℕ) → k ≤ 19 → p ≤ n → PlaceIn n (refused k p)
unfolding flaw_numbers
plain n k p j h = record { named = j; most = h; fits = (omega arith, (omega arith, tt)) }

-- a byte of a record is one of sixteen
flaw_fits : (s : List ℕ) (i : ℕ) → FitEight (flaw_numbers (flaw s i))
unfolding flaw flaw_numbers
flaw_fits s i = kinds (ltb 4 (kind s i))
  where
    j : ℕ
    j = stray s i (kind s i) 0 16

    counts : (b : Bool) → FitEight (flaw_numbers (cond b bad_count sound))
    counts true = (omega arith, (omega arith, tt))
    counts false = (omega arith, (omega arith, tt))

    bytes_fit : (b : Bool) → ltb j 16 ≡ b → (r : Flaw) → FitEight (flaw_numbers r) → FitEight (flaw_numbers (cond b (bad_byte j) r))
    bytes_fit true e r h = let l = ltb-true j 16 e in (omega arith, (omega arith, tt))
    bytes_fit false e r h = h

    kinds : (b : Bool)
        → FitEight (flaw_numbers (cond b bad_kind (cond (ltb j 16) (bad_byte j) (cond (is_node (kind s i) && ltb (count_in s i) 2) bad_count sound))))
    kinds true = (omega arith, (omega arith, tt))
    kinds false = bytes_fit (ltb j 16) refl _ (counts (is_node (kind s i) && ltb (count_in s i) 2))

under : (m n : ℕ) → ltb m n ≡ true → m ≤ n
under m n e = let l = ltb-true m n e in omega arith

records_place : (lim : ℕ) (s : List ℕ) (n : ℕ) → PlaceIn n (judge_records lim s n)
unfolding judge_records
records_place lim s n =
    let z : 0 ≤ n = omega arith in
    let m : min (tree_end s n 0) n ≤ n = omega arith in
    let i = first_flawed s 0 n in
    let e = first_bad_exponent s n 0 n in
    either n (ltb i n) (flawed i (flaw s i)) _ (λ h. record { named = omega arith; most = under i n h; fits = flaw_fits s i })
    (either n (ltb lim (weight_from s 0 n)) (refused 3 0) _ (λ h. plain n 3 0 (omega arith) z)
    (either n (not (eqb (tree_end s n 0) n)) (refused 4 (min (tree_end s n 0) n)) _ (λ h. plain n 4 _ (omega arith) m)
    (either n (ltb e n) (refused 5 e) accepted (λ h. plain n 5 e (omega arith) (under e n h))
    (plain n 0 0 (omega arith) z))))

-- no table has more records than the greater limit
abbrev greatest : ℕ
greatest = 16384

verdict_place : (lim : ℕ) (s : List ℕ) → PlaceIn greatest (verdict lim s)
unfolding verdict judged_table records_in
verdict_place lim s = limited (is_limit lim) refl
  where
    go : is_limit lim ≡ true → (b : Bool) → bad_length lim (length s) ≡ b → PlaceIn greatest (cond b (refused 1 0) (judge_records lim s (records_in s)))
    go k true e = plain greatest 1 0 (omega arith) (omega arith)
    go k false e =
        let p = records_place lim s (records_in s) in
        record { named = p.named; most = omega (arith, p.most, (length_good lim (length s) e).short, limit_small lim k); fits = p.fits }

    limited : (b : Bool) → is_limit lim ≡ b → PlaceIn greatest (cond b (judged_table lim s) (refused 19 0))
    limited true k = go k (bad_length lim (length s)) refl
    limited false k = plain greatest 19 0 (omega arith) (omega arith)

judgement_place : (lim ed : ℕ) (s : List ℕ) (l : Lent) → PlaceIn greatest (judgement lim ed s l)
unfolding judgement judged_call
judgement_place lim ed s l = known (is_limit lim) 19 (omega arith) (known (is_edition ed) 9 (omega arith) (go (is_accepted (verdict lim s))))
  where
    go : (b : Bool) → PlaceIn greatest (cond b (cond (cramped lim (table_weight s) l) (refused 6 0) accepted) (verdict lim s))
    go true =
        let z : 0 ≤ greatest = omega arith in
        either greatest (cramped lim (table_weight s) l) (refused 6 0) accepted (λ e. plain greatest 6 0 (omega arith) z) (plain greatest 0 0 (omega arith) z)
    go false = verdict_place lim s

    known : (b : Bool) (k : ℕ) → k ≤ 19 → {v : Verdict} → PlaceIn greatest v → PlaceIn greatest (cond b v (refused k 0))
    known true k h p = p
    known false k h p = plain greatest k 0 h (omega arith)

-- and none of the tries
with_none : (f : Flaw) → FitEight (flaw_numbers f) → FitEight (flaw_numbers f ++ (0 ∷ []))
unfolding flaw_numbers
with_none sound h = (h.0, (h.1.0, (omega arith, tt)))
with_none bad_kind h = (h.0, (h.1.0, (omega arith, tt)))
with_none (bad_byte j) h = (h.0, (h.1.0, (omega arith, tt)))
with_none bad_count h = (h.0, (h.1.0, (omega arith, tt)))

-- the cube of a weight fits in 8 bytes
cube_small : (w n : ℕ) → w ≤ greatest → n ≤ w * (w * w) → n < 2 ^ 64
cube_small w n h k =
    let a : w * w ≤ greatest * greatest = mul-le-mul h h in
    let b : w * (w * w) ≤ greatest * (greatest * greatest) = mul-le-mul h a in
    omega arith

-- ---- all numbers of an answer
run_fit : (ed : ℕ) (t : Tree) → WF t → weight t ≤ greatest → (x : Ran) → simplify (rules_of ed) t ≡ x → FitEight (answer_numbers (ran_answer (weight t) x))
unfolding answer_numbers ran_answer refused_by flaw_numbers simplify
run_fit ed t w h (done u ks o n) e =
    let f = (simplify_finished (edition_good ed) t u ks o n w e).lightens in
    let m : n < 2 ^ 64 = cube_small (weight t) n h (tries_cube (edition_good ed) t u ks o n w e) in
    let r = records_weight u in
    (omega arith, (omega arith, (omega arith, (omega arith, (omega arith, (omega arith, (omega arith, (omega arith, (omega arith, (omega arith, tt))))))))))
run_fit ed t w h (over k) e =
    let x : Within t (over k) = subst (Within t) e (run_within (edition_good ed) (weight t) t w) in
    (omega arith, (omega arith, (omega arith, (omega arith, (omega arith, (omega arith, (omega arith, (omega arith, (omega arith, (omega arith, tt))))))))))

pub numbers_fit : (lim ed : ℕ) (s : List ℕ) → Bytes s → (l : Lent) → FitEight (answer_numbers (simplified lim ed s l).answer)
unfolding simplified answer_numbers refused_by
numbers_fit lim ed s b l = go (call lim ed (simplify (rules_of ed)) s l b)
  where
    small : (v : Verdict) → PlaceIn greatest v → FitEight (answer_numbers (refused_by v))
    small v p =
        let h = p.named in let m = p.most in
        (omega arith, (omega arith, (omega arith, (omega arith, (omega arith, (omega arith, (omega arith, with_none v.flaw p.fits)))))))

    go : Call lim ed (simplify (rules_of ed)) s l → FitEight (answer_numbers (simplified lim ed s l).answer)
    go (is_turned_down d) = subst (λ a. FitEight (answer_numbers a)) (sym d.answer) (small (judgement lim ed s l) (judgement_place lim ed s l))
    go (is_run r) =
        subst (λ a. FitEight (answer_numbers a)) (sym r.answer)
        (run_fit ed r.holds.tree r.holds.wf (omega (arith, r.holds.light, limit_small lim r.holds.known)) _ refl)

-- ---- reading them back
-- the number at place i of a slice that begins with numbers
pub number_at : (ns rest : List ℕ) (i : ℕ) → i < length ns → FitEight ns → le8 (eights ns ++ rest) (8 * i) ≡ get_or ns i 0
unfolding eights
number_at [] rest i h f = absurd (omega arith)
number_at (n ∷ ns) rest zero h f = ap (λ x. le8 x 0) (append_assoc (bytes 8 n) (eights ns) rest) ∙ first_eight n (eights ns ++ rest) f.0
number_at (n ∷ ns) rest (suc i) h f =
    let e : 8 * suc i ≡ length (bytes 8 n) + 8 * i = rw length_bytes (omega arith) in
    ap (λ x. le8 x (8 * suc i)) (append_assoc (bytes 8 n) (eights ns) rest) ∙ ap (le8 (bytes 8 n ++ (eights ns ++ rest))) e
    ∙ le8_append_add (bytes 8 n) (eights ns ++ rest) (8 * i) ∙ number_at ns rest i (omega arith) f.1

-- what is wrong with a record is told by its two numbers
flaw_told : (f : Flaw) (n : ℕ) → flaw_from (get_or (flaw_numbers f ++ (n ∷ [])) 0 0) (get_or (flaw_numbers f ++ (n ∷ [])) 1 0) ≡ f
unfolding flaw_from flaw_numbers
flaw_told sound n = refl
flaw_told bad_kind n = refl
flaw_told (bad_byte j) n = refl
flaw_told bad_count n = refl

tries_told : (f : Flaw) (n : ℕ) → get_or (flaw_numbers f ++ (n ∷ [])) 2 0 ≡ n
unfolding flaw_numbers
tries_told sound n = refl
tries_told bad_kind n = refl
tries_told (bad_byte j) n = refl
tries_told bad_count n = refl

-- a slice that begins with the numbers of an answer tells that answer
pub told_answer : (a : Answer) (rest : List ℕ) → FitEight (answer_numbers a) → answer_in (eights (answer_numbers a) ++ rest) ≡ a
unfolding answer_in answer_numbers
told_answer a rest f =
    let ns = answer_numbers a in
    let ten : length ns ≡ 10 = answer_count a in
    let read : (i : ℕ) → i < 10 → le8 (eights ns ++ rest) (8 * i) ≡ get_or ns i 0 = λ i h. number_at ns rest i (omega arith) f in
    rw (
      read 0 (lit< tt),
      read 1 (lit< tt),
      read 2 (lit< tt),
      read 3 (lit< tt),
      read 4 (lit< tt),
      read 5 (lit< tt),
      read 6 (lit< tt),
      read 7 (lit< tt),
      read 8 (lit< tt),
      read 9 (lit< tt),
    ) (ap₂ (λ w n. record {
      number = a.number;
      place = a.place;
      flaw = w;
      records_written = a.records_written;
      steps_taken = a.steps_taken;
      openings = a.openings;
      weight_in = a.weight_in;
      weight_out = a.weight_out;
      tries = n;
    }) (flaw_told a.flaw a.tries) (tries_told a.flaw a.tries))

-- A site and a shared formula at the two limits. Up to the old limit the verdicts are the same (paper's `limits_agree`), and with the `work` that each
-- limit asks for so are the judgements, and then the answers and the bytes; of a site by induction on the items. What the higher limit opens passes
-- every test but those that ask for the limit.
use Prim.Native.Nat.{ℕ, zero, suc, ◌+◌, ◌*◌, ◌≤◌, ◌<◌}
use mathlib.Core.Path.{◌≡◌, refl, sym, ap, ap₂, ◌∙◌, subst}
use mathlib.Core.Bool.{Bool, true, false, cond, ◌||◌, not}
use mathlib.Core.List.{List, [], ◌∷◌, ◌++◌}
use mathlib.Core.Option.{Option, none, some}
use native.Mathlib.Omega.{arith}
use borrow.Author.Tests.{le-ltb, lt-ltb, eqb-true, eqb-false}
use lib.Dec.{eqb}
use lib.ListN.{length, take, drop}
use Rattle.paper.specs.Limits.{is_limit, work_bytes}
use Rattle.paper.specs.Bytes.{Bytes}
use Rattle.paper.specs.Tree.{Tree, weight}
use Rattle.paper.specs.Record.{weight_from}
use Rattle.paper.specs.Table.{encode}
use Rattle.paper.specs.Verdict.{Verdict, accepted, refused, is_accepted, records_in, table_weight, judge_records, judged_table, verdict}
use Rattle.paper.specs.Rules.{is_edition, rules_of}
use Rattle.paper.specs.Driver.{simplify}
use Rattle.paper.specs.Answers.{Lent, Answer, cramped, judged_call, judgement, refusal, outcome_of, answer_of, out_after, steps_after, lent_after}
use Rattle.paper.specs.Answers.{simplified_by, simplified}
use Rattle.paper.specs.OldMachine.{old, higher, UpToOld}
use Rattle.paper.proofs.Tests.{not_so, or_right}
use Rattle.paper.proofs.BytesLaws.{take_bytes, drop_bytes}
use Rattle.paper.proofs.EncodeLaws.{encode_length, records_weight}
use Rattle.paper.proofs.TableLaws.{encode_weight}
use Rattle.paper.proofs.FirstLaws.{no_flaw}
use Rattle.paper.proofs.VerdictLaws.{accepted_passes, good_length}
use Rattle.paper.proofs.CallLaws.{verdict_accepted}
use Rattle.paper.proofs.OldMachine.{limits_agree, old_too_long, old_too_heavy, accepted_up_to_old}
use Rattle.paper_batch.specs.Batch.{used_up, remaining, in_front, first_uses, handed_on, Site, in_turn}
use Rattle.paper_batch.specs.Batch.{lengths_in, site_number, untouched, carried_out, SiteCall, site_called}
use Rattle.paper_batch.specs.Sentences.{item, handed}
use Rattle.paper_batch.proofs.Orderly.{simplified_orderly}
use Rattle.paper_batch.proofs.SeparateLaws.{each_answer}
use Rattle.paper_shared.specs.Answers.{Handed, table_at, any_refused, opened_of, Opening, turned_away, opens, opening_of, judged_site, opening}
use Rattle.paper_shared.specs.Answers.{opening_by, no_room}
use Rattle.paper_shared.specs.Answers.{holding, open_of, open_given, unshared, shared_of, shared_given}
use Rattle.paper_shared.proofs.Refusals.{Past16, Judged, through, judged}
use Rattle.paper_takeover.specs.OtherLimit.{SameAreas, SameCalls, ItemsUpToOld, SameSite, SameSites, ItemTooLong, ItemTooHeavy}
use Rattle.paper_takeover.specs.OtherLimit.{SharedUpToOld, SameShared, SameOpenings, SharesAlike, BothRefuse, OldRefuses, OldRefusesShared}

-- ---- a table: the same judgement, and then the same outcome
same_cramped : (w : ℕ) (l l' : Lent) → SameAreas l l' → cramped old w l ≡ cramped higher w l'
unfolding cramped
same_cramped w l l' h =
    rw (h.same_out, h.same_steps, le-ltb (length l.work) (work_bytes old) h.old_work, le-ltb (length l'.work) (work_bytes higher) h.higher_work)

same_judgement : (ed : ℕ) (s : List ℕ) → UpToOld s → (l l' : Lent) → SameAreas l l' → judgement old ed s l ≡ judgement higher ed s l'
unfolding judgement judged_call is_limit
same_judgement ed s u l l' h = rw ((limits_agree s u).0, same_cramped (table_weight s) l l' h)

same_outcome : (ed : ℕ) (s : List ℕ) → UpToOld s → (l l' : Lent) → SameAreas l l'
    → outcome_of old ed (simplify (rules_of ed)) s l ≡ outcome_of higher ed (simplify (rules_of ed)) s l'
unfolding outcome_of
same_outcome ed s u l l' h = rw (same_judgement ed s u l l' h)

pub same_calls : SameCalls
unfolding simplified simplified_by lent_after
same_calls ed s u l l' h =
    let e = same_outcome ed s u l l' h in
    record {
      answer = ap answer_of e;
      out = ap₂ out_after e h.same_out;
      steps = ap₂ steps_after e h.same_steps;
    }

-- ---- a site: what the item in front leaves are areas alike
same_left : (ed n : ℕ) (s : List ℕ) → Bytes s → UpToOld (take n s) → (l l' : Lent) → SameAreas l l'
    → SameAreas (handed_on (simplified old ed) n s l) (handed_on (simplified higher ed) n s l')
unfolding handed_on first_uses remaining
same_left ed n s b u l l' h =
    let t = take n s in
    let g = same_calls ed t u l l' h in
    let o = simplified_orderly old ed t (take_bytes n s b) l in
    let o' = simplified_orderly higher ed t (take_bytes n s b) l' in
    record {
      same_out = ap₂ (λ (x : Answer) (y : List ℕ). drop (16 * used_up t x) y) g.answer g.out;
      same_steps = ap₂ (λ (x : Answer) (y : List ℕ). drop (used_up t x) y) g.answer g.steps;
      old_work = omega (arith, h.old_work, o.work_kept);
      higher_work = omega (arith, h.higher_work, o'.work_kept);
    }

record SameTurns (x x' : Site) : Type 0 where
  answers : x.answers ≡ x'.answers
  out : x.lent.out ≡ x'.lent.out
  steps : x.lent.steps ≡ x'.lent.steps

same_turns : (ed : ℕ) (ns s : List ℕ) → Bytes s → ItemsUpToOld ns s → (l l' : Lent) → SameAreas l l'
    → SameTurns (in_turn (simplified old ed) ns s l) (in_turn (simplified higher ed) ns s l')
unfolding in_turn in_front first_uses item
same_turns ed [] s b u l l' h = record { answers = refl; out = h.same_out; steps = h.same_steps }
same_turns ed (n ∷ ns) s b u l l' h =
    let t = take n s in
    let first : UpToOld t = u 0 (omega arith) in
    let g = same_calls ed t first l l' h in
    let on = handed_on (simplified old ed) n s l in
    let on' = handed_on (simplified higher ed) n s l' in
    let rest = same_turns ed ns (drop n s) (drop_bytes n s b) (λ i k. u (suc i) (omega arith)) on on' (same_left ed n s b first l l' h) in
    record {
      answers = ap₂ (λ (x : Answer) (xs : List Answer). x ∷ xs) g.answer rest.answers;
      out =
          ap₂ (λ (p q : List ℕ). p ++ q) (ap₂ (λ (x : Answer) (y : List ℕ). take (16 * used_up t x) y) g.answer g.out) rest.out;
      steps = ap₂ (λ (p q : List ℕ). p ++ q) (ap₂ (λ (x : Answer) (y : List ℕ). take (used_up t x) y) g.answer g.steps) rest.steps;
    }

same_number : (ed : ℕ) (tables lengths answers : List ℕ) → site_number old ed tables lengths answers ≡ site_number higher ed tables lengths answers
unfolding site_number is_limit
same_number ed tables lengths answers = refl

pub same_sites : SameSites
unfolding site_called carried_out untouched
same_sites ed tables lengths b u l l' h answers =
    let ns = lengths_in lengths in
    subst (λ (k : ℕ). SameSite (called old l k) (called higher l' (site_number higher ed tables lengths answers))) (sym (same_number ed tables lengths answers))
    (go (eqb (site_number higher ed tables lengths answers) 0) (site_number higher ed tables lengths answers) (same_turns ed ns tables b u l l' h))
  where
    called : ℕ → Lent → ℕ → SiteCall
    called lim m k =
        cond (eqb k 0) (carried_out k (lengths_in lengths) (in_turn (simplified lim ed) (lengths_in lengths) tables m) answers) (untouched k m answers)

    go : (c : Bool) (k : ℕ) {x x' : Site} → SameTurns x x'
        → SameSite (cond c (carried_out k (lengths_in lengths) x answers) (untouched k l answers))
        (cond c (carried_out k (lengths_in lengths) x' answers) (untouched k l' answers))
    go true k t = record { number = refl; answers = rw t.answers; out = t.out; steps = t.steps }
    go false k t = record { number = refl; answers = refl; out = h.same_out; steps = h.same_steps }

-- ---- an item that is over the old limit
refused_so : (ed : ℕ) → is_edition ed ≡ true → (s : List ℕ) (l : Lent) (k : ℕ) → is_accepted (refused k 0) ≡ false → verdict old s ≡ refused k 0
    → (simplified old ed s l).answer ≡ refusal k 0
unfolding simplified simplified_by outcome_of judgement judged_call is_limit answer_of
refused_so ed known s l k z e = rw (known, e, z, z)

pub item_too_long : ItemTooLong
unfolding is_accepted
item_too_long ed known ns s l i h long d =
    each_answer (simplified old ed) ns s l i d h
    ∙ refused_so ed known (item ns s i) (handed (simplified old ed) ns s l i) 1 refl (old_too_long (item ns s i) long)

pub item_too_heavy : ItemTooHeavy
unfolding is_accepted
item_too_heavy ed known ns s l i h p m short flawless heavy d =
    each_answer (simplified old ed) ns s l i d h
    ∙ refused_so ed known (item ns s i) (handed (simplified old ed) ns s l i) 3 refl (old_too_heavy (item ns s i) p m short flawless heavy)

-- ---- a formula with definitions
module _ (lengths definitions : List ℕ) where
  same_refused : (i n : ℕ) → ((j : ℕ) → j < i + n → UpToOld (table_at lengths definitions j))
      → any_refused old lengths definitions i n ≡ any_refused higher lengths definitions i n
  unfolding any_refused
  same_refused i zero u = refl
  same_refused i (suc n) u = rw ((limits_agree (table_at lengths definitions i) (u i (omega arith))).0, same_refused (i + 1) n (λ j h. u j (omega arith)))

same_openings_of : (o : Option Tree) → ((v : Tree) → o ≡ some v → weight v ≤ old) → opening_of old o ≡ opening_of higher o
unfolding opening_of
same_openings_of none u = refl
same_openings_of (some v) u = let w = u v refl in rw (le-ltb old (weight v) w, le-ltb higher (weight v) (omega (arith, w)))

same_judged : (h : Handed) → SharedUpToOld h → judged_site old h ≡ judged_site higher h
unfolding judged_site
same_judged h u =
    rw (
      (limits_agree h.table u.formula).0,
      same_refused h.lengths h.definitions 0 (length h.symbols) (λ j k. u.definitions j (omega arith)),
      same_openings_of (opened_of h) u.light,
    )

pub same_openings : SameOpenings
unfolding open_given opening is_limit
same_openings h u area = rw (same_judged h u)

up_to_old : (v : Tree) → weight v ≤ old → UpToOld (encode v)
up_to_old v h = (omega (arith, encode_length v, records_weight v), omega (arith, encode_weight v))

pub shares_alike : SharesAlike
unfolding shared_given opening_by is_limit unshared shared_of
shares_alike ed h u area l l' a =
    subst (λ (x : Opening). SameShared (shared_of old ed (cond (is_edition ed) x (turned_away (refused 9 0))) area l) (shared_given higher ed h area l'))
    (sym (same_judged h u))
    (known (is_edition ed) (judged_site higher h) (judged higher h))
  where
    down : (v : Verdict) → SameShared (unshared v area l) (unshared v area l')
    down v = record { given = record { answer = refl; out = a.same_out; steps = a.same_steps }; area = refl }

    on : (v : Tree) → weight v ≤ old → SameShared (shared_of old ed (opens v) area l) (shared_of higher ed (opens v) area l')
    on v w = rw (same_cramped (weight v) l l' a) (go (no_room area (weight v) || cramped higher (weight v) l'))
      where
        go : (b : Bool)
            → SameShared (cond b (unshared (refused 6 0) area l) (record { given = simplified old ed (encode v) l; area = holding v area }))
            (cond b (unshared (refused 6 0) area l') (record { given = simplified higher ed (encode v) l'; area = holding v area }))
        go true = down (refused 6 0)
        go false = record { given = same_calls ed (encode v) (up_to_old v w) l l' a; area = refl }

    each : (x : Opening) → Judged higher h x → SameShared (shared_of old ed x area l) (shared_of higher ed x area l')
    each (turned_away v) j = down v
    each (opens v) (through p e w) = on v (u.light v e)

    known : (b : Bool) (x : Opening) → Judged higher h x
        → SameShared (shared_of old ed (cond b x (turned_away (refused 9 0))) area l) (shared_of higher ed (cond b x (turned_away (refused 9 0))) area l')
    known true x j = each x j
    known false x j = down (refused 9 0)

-- ---- what opens at the higher limit
heavy_3 : (s : List ℕ) → verdict higher s ≡ accepted → length s ≤ 49152 → old < table_weight s → verdict old s ≡ refused 3 0
unfolding verdict judged_table judge_records table_weight is_limit
heavy_3 s e short heavy =
    let p = accepted_passes higher s e in
    let n = records_in s in
    let flawless = no_flaw s n (λ j a b. (p.fine j a b).0) in
    rw (
      good_length old (length s) (record { positive = p.long.positive; sixteens = p.long.sixteens; short = short }),
      flawless,
      le-ltb n n (omega arith),
      lt-ltb old (weight_from s 0 n) heavy,
    )

one_refused : (lengths definitions : List ℕ) (i n j : ℕ) → i ≤ j → j < i + n → is_accepted (verdict old (table_at lengths definitions j)) ≡ false
    → any_refused old lengths definitions i n ≡ true
unfolding any_refused
one_refused lengths definitions i zero j a b e = absurd (omega arith)
one_refused lengths definitions i (suc n) j a b e =
    go (eqb i j) refl (λ k. one_refused lengths definitions (i + 1) n j (omega (arith, k)) (omega arith) e)
  where
    go : (c : Bool) → eqb i j ≡ c → (¬ (i ≡ j) → any_refused old lengths definitions (i + 1) n ≡ true)
        → (not (is_accepted (verdict old (table_at lengths definitions i))) || any_refused old lengths definitions (i + 1) n) ≡ true
    go true c rest = let same : i ≡ j = eqb-true i j c in rw (same, e)
    go false c rest =
        or_right (not (is_accepted (verdict old (table_at lengths definitions i)))) (any_refused old lengths definitions (i + 1) n) (rest (eqb-false i j c))

both_refuse : (h : Handed) (k : ℕ) → judged_site old h ≡ turned_away (refused k 0) → BothRefuse h k
unfolding open_given opening open_of shared_given opening_by shared_of is_limit
both_refuse h k e = record { by_opening = λ area. rw e; by_sharing = λ ed known area l. rw (known, e) }

pub old_refuses_shared : OldRefusesShared
unfolding judged_site is_accepted opening_of
old_refuses_shared h v e = go (judged_site higher h) e (judged higher h)
  where
    so : Past16 higher h → opened_of h ≡ some v → OldRefuses h v
    so p o =
        let fine = verdict_accepted higher h.table p.past.fine in
        let at_old : UpToOld h.table → verdict old h.table ≡ accepted = λ u. (limits_agree h.table u).0 ∙ fine in
        record {
          too_long = λ long. both_refuse h 1 (rw (p.past.met, old_too_long h.table long));
          too_heavy = λ short heavy. both_refuse h 3 (rw (p.past.met, heavy_3 h.table fine short heavy));
          definition = λ u i k no.
              let down = not_so (is_accepted (verdict old (table_at h.lengths h.definitions i)))
              (λ a. no (accepted_up_to_old _ (verdict_accepted old _ a))) in
              both_refuse h 15
              (rw (p.past.met, at_old u, one_refused h.lengths h.definitions 0 (length h.symbols) i (omega arith) (omega arith) down));
          opened = λ u d heavy.
              let same = same_refused h.lengths h.definitions 0 (length h.symbols) (λ j k. d j (omega arith)) in
              both_refuse h 18 (rw (p.past.met, at_old u, same, p.all_fine, p.few, o, lt-ltb old (weight v) heavy));
        }

    go : (x : Opening) → x ≡ opens v → Judged higher h x → OldRefuses h v
    go (opens w) e (through p o light) = so p (o ∙ cc)
    go (turned_away w) e j = absurd (let z : ◌≡◌ {A = ℕ} 0 1 = cc in omega arith)

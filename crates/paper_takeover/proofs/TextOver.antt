-- A result that travels as text, to a machine at any limit that holds it: it is the records of a finished tree, so it has a text, and what is read of
-- that is the tree without its marks. Marks decide nothing, so that tree is finished as well, and simplifying it takes no step and no opening; the
-- value does not look at a mark; and no record of it is marked, so a release before marks judges it as this one does.
use Prim.Native.Nat.{ℕ, ◌+◌, ◌*◌, ◌^◌, ◌%◌, ◌≤◌}
use mathlib.Core.Path.{◌≡◌, refl, sym, ap, ap₂, ◌∙◌, subst}
use mathlib.Core.List.{List, [], ◌++◌}
use mathlib.Core.Logic.{inl, inr}
use native.Mathlib.Omega.{arith}
use lib.ListN.{length, take, drop}
use lib.Seq.{take_at}
use lib.Dec.{ltb, lit<}
use borrow.Author.Tests.{ltb-true, ltb-false}
use Rattle.paper.specs.Limits.{modulus}
use Rattle.paper.specs.Bytes.{Bytes, word}
use Rattle.paper.specs.Tree.{Tree, Forest, integer, symbol, sum, product, power, nil, cons, count, weight, records, recordses, value, sum_value, product_value}
use Rattle.paper.specs.WellFormed.{WF}
use Rattle.paper.specs.Table.{record_of, encode, encodes}
use Rattle.paper.specs.Rules.{rules_of}
use Rattle.paper.specs.Driver.{done, simplify}
use Rattle.paper.specs.Erased.{erase, erases, erased}
use Rattle.paper.specs.Record.{sound, flaw_numbers, mark_in}
use Rattle.paper.specs.Verdict.{accepted, is_accepted, refused, verdict}
use Rattle.paper.specs.BeforeMarks.{verdict_before}
use Rattle.paper.specs.Answers.{Lent, Measured, register, tree_value, registers_verdict, valued, simplified}
use Rattle.paper.specs.Calls.{measured_numbers}
use Rattle.paper.specs.Told.{FitEight}
use Rattle.paper.specs.Demands.{result}
use Rattle.paper.specs.Takeover.{Room, again}
use Rattle.paper.proofs.LimitLaws.{limit_small}
use Rattle.paper.proofs.EncodeLaws.{encode_length, mark_there, records_weight}
use Rattle.paper.proofs.Stands.{Stands, stands_whole, sum_record, sum_members, product_record, product_members}
use Rattle.paper.proofs.Stands.{power_record, power_base, power_exponent, first_member, other_members}
use Rattle.paper.proofs.FirstLaws.{All, all_one, all_both}
use Rattle.paper.proofs.TableLaws.{records_written, written_accepted}
use Rattle.paper.proofs.ReadLaws.{tree_of_written}
use Rattle.paper.proofs.CallLaws.{judgement_accepted, same_tree}
use Rattle.paper.proofs.DemandLaws.{Done, call_done}
use Rattle.paper.proofs.ErasedTrees.{erase_weight}
use Rattle.paper.proofs.Erased.{edition_marks_decide_nothing}
use Rattle.paper.proofs.BeforeMarks.{before_agrees}
use Rattle.paper_text.specs.Text.{text, read_text}
use Rattle.paper_text.specs.Answers.{Filled, Taken, taken, area_after, read_verdict, read_answer, write_given, read_given, taken_numbers, too_heavy}
use Rattle.paper_text.proofs.Erasing.{erase_records}
use Rattle.paper_text.proofs.RoundTrip.{text_read}
use Rattle.paper_text.proofs.ReadTold.{TextIs, read_text_lem}
use Rattle.paper_text.proofs.LengthLaws.{text_length}
use Rattle.paper_text.proofs.TextCallLaws.{writes, reads, read_refusal_exactly}
use Rattle.paper_receiver.proofs.PieceLaws.{either_way}
use Rattle.paper_takeover.specs.TakenOver.{written_text, read_records}
use Rattle.paper_takeover.specs.LimitOver.{Holds}
use Rattle.paper_takeover.specs.TextOver.{line_of, arrives_at, TextTakesOverAt, TextTooHeavy, TextNeverMisread}
use Rattle.paper_takeover.proofs.LimitTaken.{finished_answer, finished_again, out_weight_lem, out_light, out_edition, out_ends, out_again}

-- ---- a tree without its marks
-- it is well-formed: it is what is read of its text
pub erase_wf : (t : Tree) → WF t → WF (erase t)
erase_wf t w = (subst (TextIs (text t)) (text_read t w) (read_text_lem (text t))).0

-- it is finished, if the tree is
pub erase_finished : (ed : ℕ) (u : Tree) → simplify (rules_of ed) u ≡ done u [] 0 (records u)
    → simplify (rules_of ed) (erase u) ≡ done (erase u) [] 0 (records (erase u))
unfolding erased
erase_finished ed u e = edition_marks_decide_nothing ed u ∙ ap erased e ∙ ap (done (erase u) [] 0) (sym (erase_records u))

-- it has the same value
mutual
  unfolding erase value

  pub erase_value : (t : Tree) (ρ : ℕ → ℕ) → value (erase t) ρ ≡ value t ρ
  erase_value (integer μ z) ρ = refl
  erase_value (symbol μ s) ρ = refl
  erase_value (sum μ f) ρ = erase_sum f ρ
  erase_value (product μ f) ρ = erase_product f ρ
  erase_value (power μ b ξ e) ρ = ap (λ (n : ℕ). n ^ e % modulus) (erase_value b ρ)

  erase_sum : (f : Forest) (ρ : ℕ → ℕ) → sum_value (erases f) ρ ≡ sum_value f ρ
  erase_sum nil ρ = refl
  erase_sum (cons t f) ρ = ap₂ (λ (m n : ℕ). (m + n) % modulus) (erase_value t ρ) (erase_sum f ρ)

  erase_product : (f : Forest) (ρ : ℕ → ℕ) → product_value (erases f) ρ ≡ product_value f ρ
  erase_product nil ρ = refl
  erase_product (cons t f) ρ = ap₂ (λ (m n : ℕ). m * n % modulus) (erase_value t ρ) (erase_product f ρ)

-- none of its records is marked
abbrev Unmarked : List ℕ → ℕ → ℕ → Type 0
Unmarked s = All (λ j. mark_in s j ≡ 0)

unmarked_one : (s : List ℕ) (i k c v : ℕ) → Stands s i (record_of k c 0 v) → Unmarked s i (i + 1)
unmarked_one s i k c v h = all_one (λ j. mark_in s j ≡ 0) i (mark_there s i k c 0 v h.after h.there (lit< tt))

unmarked_both : (s : List ℕ) (i a b : ℕ) → Unmarked s i (i + a) → Unmarked s (i + a) (i + a + b) → Unmarked s i (i + (a + b))
unmarked_both s i a b f g = let q : i + (a + b) ≡ i + a + b = omega arith in rw q (all_both (λ j. mark_in s j ≡ 0) i (i + a) (i + a + b) f g)

mutual
  unfolding erase encode records

  erase_unmarked : (t : Tree) (s : List ℕ) (i : ℕ) → Stands s i (encode (erase t)) → Unmarked s i (i + records (erase t))
  erase_unmarked (integer μ z) s i h = unmarked_one s i 0 0 (word z) h
  erase_unmarked (symbol μ v) s i h = unmarked_one s i 1 0 v h
  erase_unmarked (sum μ f) s i h =
      unmarked_both s i 1 (recordses (erases f)) (unmarked_one s i 2 (count (erases f)) 0 (sum_record 0 (erases f) h))
      (erases_unmarked f s (i + 1) (sum_members 0 (erases f) h))
  erase_unmarked (product μ f) s i h =
      unmarked_both s i 1 (recordses (erases f)) (unmarked_one s i 3 (count (erases f)) 0 (product_record 0 (erases f) h))
      (erases_unmarked f s (i + 1) (product_members 0 (erases f) h))
  erase_unmarked (power μ b ξ e) s i h =
      let n = records (erase b) in
      let k : 2 + n ≡ 1 + (n + 1) = omega arith in
      rw k (unmarked_both s i 1 (n + 1) (unmarked_one s i 4 0 0 (power_record 0 (erase b) 0 e h))
      (unmarked_both s (i + 1) n 1 (erase_unmarked b s (i + 1) (power_base 0 (erase b) 0 e h))
      (unmarked_one s (i + 1 + n) 0 0 e (power_exponent 0 (erase b) 0 e h))))

  erases_unmarked : (f : Forest) (s : List ℕ) (i : ℕ) → Stands s i (encodes (erases f)) → Unmarked s i (i + recordses (erases f))
  erases_unmarked nil s i h = λ j a b. absurd (omega arith)
  erases_unmarked (cons t f) s i h =
      unmarked_both s i (records (erase t)) (recordses (erases f)) (erase_unmarked t s i (first_member (erase t) (erases f) h))
      (erases_unmarked f s (i + records (erase t)) (other_members (erase t) (erases f) h))

-- so a release before marks judges it as this one does
pub erase_before : (lim : ℕ) (t : Tree) → verdict_before lim (encode (erase t)) ≡ verdict lim (encode (erase t))
erase_before lim t =
    let s = encode (erase t) in
    let n = records_written (erase t) in
    before_agrees lim s (λ i h. erase_unmarked t s 0 (stands_whole s) i (omega arith) (omega (arith, h, n)))

-- ---- the result of an accepted call as text
module _ (lim ed : ℕ) (s : List ℕ) (b : Bytes s) (l : Lent) (e : (simplified lim ed s l).answer.number ≡ 0) where
  d : Done lim ed s l
  d = call_done lim ed s b l e

  -- the tree of the result, and the one that arrives
  u : Tree
  u = d.tree_out

  v : Tree
  v = erase u

  abbrev w : ℕ
  w = (simplified lim ed s l).answer.weight_out

  wf : WF u
  unfolding u
  wf = d.finished.result_wf

  weighs : w ≡ weight u
  unfolding u
  weighs = out_weight_lem lim ed s l d

  light : weight u ≤ lim
  unfolding u
  light = out_light lim ed s l d

  -- ---- it is written
  module _ (line : List ℕ) (long : 21 * w ≤ length line) where
    wrote : write_given lim (result (simplified lim ed s l)) line
        ≡ record { answer = record { number = 0; place = 0; flaw = sound; result = length (text u) }; area = text u ++ drop (length (text u)) line }
    unfolding u
    wrote =
        ap (λ (x : List ℕ). write_given lim x line) d.written_bytes
        ∙ writes lim d.holds.known u wf light line (omega (arith, text_length u wf, long, weighs))

    sent : written_text lim (result (simplified lim ed s l)) line ≡ text u
    unfolding written_text
    sent =
        ap (λ (x : Filled Measured). take x.answer.result x.area) wrote
        ∙ take_at (text u) (drop (length (text u)) line) (length (text u)) refl

    -- the numbers of the answer fit in 8 bytes
    pub write_fits : FitEight (measured_numbers (write_given lim (result (simplified lim ed s l)) line).answer)
    unfolding measured_numbers flaw_numbers
    write_fits =
        let small = limit_small lim d.holds.known in
        let n = text_length u wf in
        subst (λ (x : Filled Measured). FitEight (measured_numbers x.answer)) (sym wrote)
        (omega arith, (omega arith, (omega (arith, n, light, small), (omega arith, (omega arith, tt)))))

  -- ---- and read at a limit that holds it
  module _ (there : ℕ) (h : Holds there (simplified lim ed s l)) where
    light_there : weight u ≤ there
    light_there = let k = h.light in omega (arith, k, weighs)

    module _ (line table : List ℕ) (long : 21 * w ≤ length line) (wide : 16 * w ≤ length table) where
      took : read_given there (line_of lim (simplified lim ed s l) line) table
          ≡ record { answer = record { number = 0; place = 0; records_written = records u }; area = encode v ++ drop (length (encode v)) table }
      unfolding v
      took =
          ap (λ (x : List ℕ). read_given there x table) (sent line long)
          ∙ reads there h.known u wf light_there table (omega (arith, records_weight u, wide, weighs))

      arrived : arrives_at lim there (simplified lim ed s l) line table ≡ encode v
      unfolding read_records v
      arrived =
          ap (λ (x : Filled Taken). take (16 * x.answer.records_written) x.area) took
          ∙ take_at (encode v) (drop (length (encode v)) table) (16 * records u) (let k = encode_length v in let n = erase_records u in omega (arith, k, n))

      pub read_fits : FitEight (taken_numbers (read_given there (line_of lim (simplified lim ed s l) line) table).answer)
      unfolding taken_numbers
      read_fits =
          let small = limit_small there h.known in
          let n = records_weight u in
          subst (λ (x : Filled Taken). FitEight (taken_numbers x.answer)) (sym took) (omega arith, (omega arith, (omega (arith, n, light_there, small), tt)))

    -- what arrives is a table without marks, of the value of the first one, and finished
    v_wf : WF v
    unfolding v
    v_wf = erase_wf u wf

    v_light : weight v ≤ there
    unfolding v
    v_light = let k = erase_weight u in omega (arith, k, light_there)

    v_accepted : verdict there (encode v) ≡ accepted
    v_accepted = written_accepted there h.known v v_wf v_light

    v_value : (regs : List ℕ) → valued there (encode v) regs ≡ valued lim s regs
    unfolding u v valued registers_verdict tree_value is_accepted
    v_value regs =
        let small = limit_small there h.known in
        rw (
          v_accepted,
          (judgement_accepted lim ed s l d.accepts).0,
          tree_of_written v v_wf (let k = v_light in omega (arith, k, small)),
          d.holds.read,
          erase_value u (register regs),
          d.finished.keeps_value (register regs),
        )

    again_so : (l' : Lent) → Room there w l'
        → ((simplified there ed (encode v) l').answer ≡ again (simplified lim ed s l).answer) × (result (simplified there ed (encode v) l') ≡ encode v)
    unfolding u v finished_answer
    again_so l' room =
        let second =
        finished_again there ed h.known (out_edition lim ed s l d) v v_wf v_light (erase_finished ed u (out_ends lim ed s l d)) l'
        (subst (λ (n : ℕ). Room there n l') (weighs ∙ sym (erase_weight u)) room) in
        (second.0 ∙ rw (erase_records u, erase_weight u) refl ∙ sym (out_again lim ed s l d), second.1)

-- a result that travels as text takes over at each limit that holds it
pub text_takes_over_at : (lim there ed : ℕ) → TextTakesOverAt lim there ed
unfolding u v
text_takes_over_at lim there ed s b l e h line table long wide l' room =
    let arrival = arrived lim ed s b l e there h line table long wide in
    let second = again_so lim ed s b l e there h l' room in
    record {
      written = ap (λ (x : Filled Measured). x.answer.number) (wrote lim ed s b l e line long);
      read = ap (λ (x : Filled Taken). x.answer.number) (took lim ed s b l e there h line table long wide);
      same_records = λ t q. arrival ∙ ap (λ (x : Tree). encode (erase x)) (same_tree (d lim ed s b l e).read_back q);
      same_value = λ regs. ap (λ (x : List ℕ). valued there x regs) arrival ∙ v_value lim ed s b l e there h regs;
      before_marks = ap (verdict_before there) arrival ∙ erase_before there (u lim ed s b l e) ∙ v_accepted lim ed s b l e there h;
      same_answer = ap (λ (x : List ℕ). (simplified there ed x l').answer) arrival ∙ second.0;
      same_bytes = ap (λ (x : List ℕ). result (simplified there ed x l')) arrival ∙ second.1 ∙ sym arrival;
    }

-- and over the limit it is refused by 3
pub text_too_heavy : (lim there ed : ℕ) → TextTooHeavy lim there ed
unfolding read_given read_answer taken area_after is_accepted
text_too_heavy lim there ed s b l e known heavy line table long =
    let t = u lim ed s b l e in
    let w = weighs lim ed s b l e in
    let text-is = sent lim ed s b l e line long in
    let three : read_verdict there (read_text (text t)) table ≡ refused 3 0 =
    (read_refusal_exactly there (text t) table 3 (lit< tt)).1 (too_heavy known t (wf lim ed s b l e) refl (omega (arith, w, heavy))) in
    record { by_three = rw (text-is, three); unchanged = rw (text-is, three) }

-- one or the other
pub text_never_misread : (lim there ed : ℕ) → TextNeverMisread lim there ed
text_never_misread lim there ed s b l e known line table long wide l' room =
    let w = (simplified lim ed s l).answer.weight_out in
    either_way (ltb there w)
    (λ t. inr (text_too_heavy lim there ed s b l e known (ltb-true there w t) line table long))
    (λ t. inl (text_takes_over_at lim there ed s b l e (record { known = known; light = ltb-false there w t }) line table long wide l' room))

-- Two answers that meet the contract of `simplify`, of `refused`, of `answer_numbers`, of
-- `judge_call`, of `work_bytes`, of `is_cramped` or of `has_run`, as the
-- check reads it from the source, are the same, and so are the areas afterwards: each contract is an equation with a function of what is handed
-- in. Of `simplify_in` so are the answer, `out` and `steps`.
use Prim.Native.Nat.{ℕ}
use mathlib.Core.Path.{◌≡◌, sym, ap, ◌∙◌}
use mathlib.Core.List.{List}
use borrow.Fn.Kinds.{ended_of}
use contract.Lifetimes.{Lfts}
use denote.Triple.Clauses.{AtExit}
use Rattle.paper.specs.Record as paper-record
use Rattle.paper.specs.Answers as paper
use Rattle.paper.specs.Once.{Once, OnceLeft}
use Rattle.std.specs.Prelude.{Option}
use Rattle.record.specs.declared.Flaw.{Flaw}
use Rattle.record.proofs.Unique.{code_of, code_of_lem, flaw_of_lem}
use Rattle.simplify.specs.declared.Answer.{Answer}
use Rattle.simplify.specs.Answer.{says, lent}
use Rattle.table.proofs.Unique.{stands_once}
use Rattle.simplify.proofs.simplify.Reads as reads
use Rattle.simplify.proofs.simplify.Kinds as kinds
use Rattle.simplify.proofs.refused.Reads as refused-reads
use Rattle.simplify.proofs.refused.Kinds as refused-kinds
use Rattle.simplify.proofs.answer_numbers.Reads as answer-numbers-reads
use Rattle.simplify.proofs.answer_numbers.Kinds as answer-numbers-kinds
use Rattle.simplify.proofs.judge_call.Reads as judge-call-reads
use Rattle.simplify.proofs.judge_call.Kinds as judge-call-kinds
use Rattle.simplify.proofs.is_cramped.Reads as is-cramped-reads
use Rattle.simplify.proofs.is_cramped.Kinds as is-cramped-kinds
use Rattle.simplify.proofs.work_bytes.Reads as work-bytes-reads
use Rattle.simplify.proofs.work_bytes.Kinds as work-bytes-kinds
use Rattle.simplify.proofs.has_run.Reads as has-run-reads
use Rattle.simplify.proofs.has_run.Kinds as has-run-kinds
use Rattle.simplify.proofs.simplify_in.Reads as in-reads
use Rattle.simplify.proofs.simplify_in.Kinds as in-kinds

-- the paper's answer, as the code's
abbrev pub answer_of : paper.Answer → Answer
answer_of a =
    record {
      number = a.number;
      place = a.place;
      flaw = code_of a.flaw;
      records = a.records_written;
      steps = a.steps_taken;
      openings = a.openings;
      weight_in = a.weight_in;
      weight_out = a.weight_out;
      tries = a.tries;
    }

answer_of_lem : (r : Answer) → answer_of (says r) ≡ r
answer_of_lem r =
    ap
    (λ (f : Option Flaw). record {
      number = r.number;
      place = r.place;
      flaw = f;
      records = r.records;
      steps = r.steps;
      openings = r.openings;
      weight_in = r.weight_in;
      weight_out = r.weight_out;
      tries = r.tries;
    })
    (code_of_lem r.flaw)

pub says_answer : (a : paper.Answer) → says (answer_of a) ≡ a
says_answer a =
    ap
    (λ (f : paper-record.Flaw). record {
      number = a.number;
      place = a.place;
      flaw = f;
      records_written = a.records_written;
      steps_taken = a.steps_taken;
      openings = a.openings;
      weight_in = a.weight_in;
      weight_out = a.weight_out;
      tries = a.tries;
    })
    (flaw_of_lem a.flaw)

pub says_once : (r r' : Answer) → says r ≡ says r' → r ≡ r'
says_once r r' e = sym (answer_of_lem r) ∙ ap answer_of e ∙ answer_of_lem r'

pub refused_once : Once 0 refused-kinds.ps refused-kinds.r refused-reads.Pre refused-reads.Post
refused_once κs a v v' x x' q p p' = says_once v v' (p ∙ sym p')

pub answer_numbers_once : Once 0 answer-numbers-kinds.ps answer-numbers-kinds.r answer-numbers-reads.Pre answer-numbers-reads.Post
answer_numbers_once κs a v v' x x' q p p' = p ∙ sym p'

pub judge_call_once : Once 0 judge-call-kinds.ps judge-call-kinds.r judge-call-reads.Pre judge-call-reads.Post
judge_call_once κs a v v' x x' q p p' = stands_once v v' _ p p'

pub is_cramped_once : Once 0 is-cramped-kinds.ps is-cramped-kinds.r is-cramped-reads.Pre is-cramped-reads.Post
is_cramped_once κs a v v' x x' q p p' = p ∙ sym p'

pub work_bytes_once : Once 0 work-bytes-kinds.ps work-bytes-kinds.r work-bytes-reads.Pre work-bytes-reads.Post
work_bytes_once κs a v v' x x' q p p' = p ∙ sym p'

pub has_run_once : Once 0 has-run-kinds.ps has-run-kinds.r has-run-reads.Pre has-run-reads.Post
has_run_once κs a v v' x x' q p p' = p ∙ sym p'

-- the two areas that `simplify_in` leaves as they shall be
abbrev pub written_left : (κs : Lfts 4) → AtExit (ended_of 4 in-kinds.ps in-kinds.r) κs → List ℕ × List ℕ
written_left κs x = (x.1.1.1.0.now, x.1.1.1.1.0.now)

pub simplify_in_once : OnceLeft 4 in-kinds.ps in-kinds.r in-reads.Pre in-reads.Post (List ℕ × List ℕ) written_left
simplify_in_once κs a v v' x x' q p p' =
    let e = p ∙ sym p' in
    (says_once v v' (ap (λ (g : paper.Given). g.answer) e), ap (λ (g : paper.Given). (g.lent.out, g.lent.steps)) e)

-- the three areas at exit
abbrev pub areas_left : (κs : Lfts 4) → AtExit (ended_of 4 kinds.ps kinds.r) κs → paper.Lent
areas_left κs x =
    let out = x.1.1.1.0.now in
    let steps = x.1.1.1.1.0.now in
    let work = x.1.1.1.1.1.0.now in
    lent out steps work

pub simplify_once : OnceLeft 4 kinds.ps kinds.r reads.Pre reads.Post paper.Lent areas_left
simplify_once κs a v v' x x' q p p' = let e = p ∙ sym p' in (says_once v v' (ap (λ g. g.answer) e), ap (λ g. g.lent) e)

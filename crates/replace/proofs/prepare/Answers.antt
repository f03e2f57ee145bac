-- `replace::prepare` meets its contract: each return is the law of the test that holds, on what was found out before it.
use Rattle.std.proofs.Common.{◌≡◌, ◌*◌, length, sym, refl, arith}
use Rattle.std.proofs.lemmas.Result.{err_from_is_err_and}
use Rattle.paper.proofs.BytesLaws.{are_bytes}
use Rattle.paper.proofs.VerdictLaws.{accepted_passes}
use Rattle.paper.proofs.LimitLaws.{limit_small}
use Rattle.table.specs.Refusals.{verdict_of}
use Rattle.table.specs.declared.refusals.Refusal.TheVariants.{Limit, Lists, Definition, Defined, Endless, TooHeavy}
use Rattle.table.proofs.RefusalLaws.{some_number}
use Rattle.paper_shared.specs.Answers.{beginning}
use Rattle.replace.specs.Planned.{handed}
use Rattle.replace.proofs.PartLaws.{fit}
use Rattle.replace.proofs.WeighLaws.{which_few}
use Rattle.replace.proofs.PlanLaws.{Prepared, refuses, open_19, open_8, open_formula, open_15, open_over, open_twice, open_17, open_18, index_of, ready}
use Rattle.replace.proofs.prepare.Goals as goal
use Rattle.replace.proofs.prepare.Goals.{Else-misses, After-from_of-from}
use Rattle.replace.proofs.prepare.Goals.{then-n-gt-DEFINITIONS-via-then-n-gt-DEFINITIONS, then-n-gt-DEFINITIONS-via-else-n-gt-DEFINITIONS+then-twice}

-- what is found out where the lengths fit
fits : (c : Else-misses)
    → let a = c.args in
    (length a.lengths.now ≡ 8 * length a.symbols.now) × (beginning a.lengths.now (length a.symbols.now) ≡ length a.definitions.now)
fits c = fit _ _ _ (sym c.if-misses.ensures)

-- and where the two arrays are filled
prepared : (c : After-from_of-from)
    → let a = c.args in
    Prepared a.limit (handed a.table.now a.symbols.now a.lengths.now a.definitions.now) c.which_of-which.result c.from_of-from.result
prepared c = record {
  sound = record {
    known = sym c.if-not-is_limit.ensures;
    bytes = are_bytes _ c.type_inv.definitions;
    met = sym c.if-misses.ensures;
    fine = sym c.if-any_refused.ensures;
  };
  bytes = are_bytes _ c.type_inv.table;
  fine = sym c.in_ok-check.ensures;
  few = c.if-n-gt-DEFINITIONS.false;
  once = sym c.if-twice.ensures;
  begins = c.from_of-from.ensures;
  places = c.which_of-which.ensures;
}

pub returns-then-not-is_limit : goal.returns-then-not-is_limit
returns-then-not-is_limit c = refuses _ _ Limit (open_19 _ _ (sym c.if-not-is_limit.ensures))

pub returns-then-misses : goal.returns-then-misses
returns-then-misses c = refuses _ _ Lists (open_8 _ _ (sym c.if-not-is_limit.ensures) (sym c.if-misses.ensures))

pub returns-in_err-check : goal.returns-in_err-check
returns-in_err-check c =
    let p = err_from_is_err_and c.from_residual.result c.from_residual.ensures.1 in
    let r = c.in_err-check.field-0.0 in
    rw (p.1, p.2)
    (refuses _ _ r (open_formula _ _ (sym c.if-not-is_limit.ensures) (sym c.if-misses.ensures) (verdict_of r) c.in_err-check.ensures (some_number r)))

pub any_refused-requires : goal.any_refused-requires
any_refused-requires c = let e = fits (goal.at.any_refused-requires c).Else-misses in (omega (arith, e.0), omega (arith, e.1))

pub returns-then-any_refused : goal.returns-then-any_refused
returns-then-any_refused c =
    refuses _ _ Definition (open_15 _ _ (sym c.if-not-is_limit.ensures) (sym c.if-misses.ensures) (sym c.in_ok-check.ensures) (sym c.if-any_refused.ensures))

pub returns-then-n-gt-DEFINITIONS : goal.returns-then-n-gt-DEFINITIONS
returns-then-n-gt-DEFINITIONS c =
    refuses _ _ Defined
    (elim c.then-n-gt-DEFINITIONS.branch [
      | then-n-gt-DEFINITIONS-via-then-n-gt-DEFINITIONS w ↦
          open_over _ _ (sym c.if-not-is_limit.ensures) (sym c.if-misses.ensures) (sym c.in_ok-check.ensures)
          (sym c.if-any_refused.ensures) w.if-n-gt-DEFINITIONS.true
      | then-n-gt-DEFINITIONS-via-else-n-gt-DEFINITIONS+then-twice w ↦
          open_twice _ _ (sym c.if-not-is_limit.ensures) (sym c.if-misses.ensures) (sym c.in_ok-check.ensures)
          (sym c.if-any_refused.ensures) w.if-n-gt-DEFINITIONS.false (sym w.if-twice.ensures)
    ])

pub from_of-from-requires : goal.from_of-from-requires
from_of-from-requires c =
    let e = fits (goal.at.from_of-from-requires c).Else-misses in
    (omega arith, omega (arith, e.0), omega (arith, e.1))

pub rounds-weights-requires : goal.rounds-weights-requires
rounds-weights-requires c =
    let p = prepared (goal.at.rounds-weights-requires c).After-from_of-from in
    (limit_small _ p.sound.known, p.few, (_, index_of p))

pub weigh-requires : goal.weigh-requires
weigh-requires c =
    let p = prepared (goal.at.weigh-requires c).After-from_of-from in
    let m = limit_small _ p.sound.known in
    let s = (accepted_passes _ _ p.fine).long.short in
    (m, omega (arith, m, s), which_few _ _ _ _ _ (index_of p) p.few, c.rounds-weights.ensures.few)

pub returns-in_default : goal.returns-in_default
returns-in_default c =
    let p = prepared (goal.at.returns-in_default c).After-from_of-from in
    refuses _ _ Endless (open_17 p _ (c.rounds-weights.ensures.knows _ (index_of p)) c.in_default.ensures.weighs)

pub returns-then-limit-weight : goal.returns-then-limit-weight
returns-then-limit-weight c =
    let p = prepared (goal.at.returns-then-limit-weight c).After-from_of-from in
    refuses _ _ TooHeavy (open_18 p _ (c.rounds-weights.ensures.knows _ (index_of p)) _ c.in-Some.ensures.weighs c.if-limit-weight.true)

pub returns : goal.returns
returns c =
    let p = prepared (goal.at.returns c).After-from_of-from in
    ready p _ (c.rounds-weights.ensures.knows _ (index_of p)) _ c.in-Some.ensures.weighs c.if-limit-weight.false _ refl refl refl

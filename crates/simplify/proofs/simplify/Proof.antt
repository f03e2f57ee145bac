-- `simplify::simplify` meets its contract: `simplify_in` leaves all as it shall be but for the clearing of `work` after a run.
use mathlib.Core.Path.{sym, ap, ◌∙◌}
use mathlib.Core.List.{List}
use Prim.Native.Nat.{ℕ, ◌≤◌}
use native.Mathlib.Omega.{arith}
use lib.ListN.{length}
use borrow.Author.Rules.{rules}
use Rattle.paper.specs.Limits.{work_bytes}
use Rattle.paper.specs.Answers.{Given}
use Rattle.paper.proofs.BytesLaws.{are_bytes}
use Rattle.simplify.specs.Answer.{gives}
use Rattle.simplify.proofs.Calling.{run_room, cleared, uncleared}
use Rattle.simplify.proofs.simplify.Statement.{statement}
use Rattle.simplify.proofs.simplify.Tie as tie

-- places on the way through the code, and from each the one before it: the table's bytes known, `simplify_in` back, the answer told apart
abbrev Known : Type 0
Known = tie.After-shared_slice_known-1

abbrev Called : Type 0
Called = tie.After-simplify_in-a

abbrev Told : Type 0
Told = tie.After-has_run

abbrev known_of : Called → Known
known_of c = c.before.before.before.before.before.before.before

abbrev called_of : Told → Called
called_of c = c.before.before.before.before.before.before.before

clear_requires : tie.Need-clear-requires
clear_requires c κs =
    let called = called_of c.before.before.before in
    let known = known_of called in
    let g = known.args in
    let run = called.simplify_in-a in
    let room : work_bytes g.limit ≤ length g.work.now =
    run_room g.limit g.edition g.table.now (are_bytes g.table.now known.shared_slice_known-1.given) run.result g.out.now g.steps.now
    g.work.now run.new.out run.new.steps
    (ap (λ (x : Given). x.answer) run.ensures) (sym c.has_run.ensures ∙ c.if-has_run.true) in
    omega (arith, room, c.work_bytes.ensures, run.auto)

returns : tie.Need-returns-then-has_run
returns c =
    let called = called_of c.before.before.before.before.before.before in
    let g = (known_of called).args in
    let run = called.simplify_in-a in
    let now = c.clear in
    ap (λ (x : List ℕ). gives run.result run.new.out run.new.steps x)
    (cleared g.limit run.result.number c.work_bytes.result run.new.work now.new.d
    (sym c.has_run.ensures ∙ c.if-has_run.true) c.work_bytes.ensures now.ensures)
    ∙ run.ensures

returns_2 : tie.Need-returns-else-has_run
returns_2 c =
    let called = called_of c.before in
    let g = (known_of called).args in
    let run = called.simplify_in-a in
    ap (λ (x : List ℕ). gives run.result run.new.out run.new.steps x)
    (uncleared g.limit run.result.number run.new.work (sym c.has_run.ensures ∙ c.if-has_run.false))
    ∙ run.ensures

pub simplify_spec : {M : Type 1} → statement M
simplify_spec =
    tie.close
    (tie.spec
    (λ c κs. search rules) (λ c κs. search rules) (λ c κs. search rules) clear_requires (λ c. search rules) (λ c. search rules) (λ c. search rules)
    returns (λ c. search rules) (λ c. search rules) (λ c. search rules) returns_2)

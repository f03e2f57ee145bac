-- `batch::turns_down` meets its contract: each return is one law of FitLaws, on the tests so far.
use Rattle.std.proofs.Common.{◌/◌, not, ◌||◌, length, nat_lt, sym, ap, ◌∙◌}
use Rattle.batch.proofs.FitLaws.{no_list, too_many, added_up}
use Rattle.batch.proofs.turns_down.Goals as goal
use Rattle.batch.proofs.turns_down.Goals.{then-lengths-gt0-via-then-lengths-gt0, then-lengths-gt0-via-else-lengths-gt0+then-n-gt-ITEMS}

pub returns-then-lengths-gt0 : goal.returns-then-lengths-gt0
returns-then-lengths-gt0 c =
    let g = c.args in
    elim c.then-lengths-gt0.branch [
      | then-lengths-gt0-via-then-lengths-gt0 w ↦ no_list g.tables.now g.lengths.now g.answers.now w.if-lengths-gt0.true
      | then-lengths-gt0-via-else-lengths-gt0+then-n-gt-ITEMS w ↦
          too_many g.tables.now g.lengths.now g.answers.now w.if-lengths-gt0.false w.if-n-gt-ITEMS.true
    ]

pub returns-then-not-adds_up : goal.returns-then-not-adds_up
returns-then-not-adds_up c =
    let g = c.args in
    ap not c.if-not-adds_up.true ∙ sym (ap (λ b. not b || nat_lt (length g.answers.now / 80) (length g.lengths.now / 8)) c.if-not-adds_up.true)
    ∙ added_up g.tables.now g.lengths.now g.answers.now c.if-lengths-gt0.false c.if-n-gt-ITEMS.false c.adds_up.result c.adds_up.ensures

pub returns-else-not-adds_up : goal.returns-else-not-adds_up
returns-else-not-adds_up c =
    let g = c.args in
    sym (ap (λ b. not b || nat_lt (length g.answers.now / 80) (length g.lengths.now / 8)) c.if-not-adds_up.false)
    ∙ added_up g.tables.now g.lengths.now g.answers.now c.if-lengths-gt0.false c.if-n-gt-ITEMS.false c.adds_up.result c.adds_up.ensures

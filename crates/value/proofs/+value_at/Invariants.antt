-- `value::value_at`, which calls itself, ends because the records left fall: a node's members begin behind it. The loop keeps that what is
-- gathered, joined with what the members left give, is what all of them give.
use Rattle.std.proofs.Common.{◌+◌, ◌-◌}
use Rattle.paper.specs.Record.{kind}
use Rattle.paper.specs.Verdict.{records_in}
use Rattle.value.specs.Evaluated.{held, place, joined, parts}
use Rattle.value.proofs.MemberLaws.{Gathering, gathered}
use Rattle.value.proofs.+value_at.Given as goal

abbrev pub decreases-value_at : goal.decreases-value_at
decreases-value_at l = records_in l.s.now.now - place l.at.now

abbrev pub invariant-loop : goal.invariant-loop
invariant-loop l =
    Gathering (joined (kind l.s.now l.i)) (gathered (held l.regs) (kind l.s.now l.i)) l.s.now (l.i + 1) (parts l.s.now l.i) l.total (l.end - l.counter) l.at

-- `rules::gathered::is_quiet`: the tests are made one after the other, each in scratch that lies before record `end` (Emerging).
use mathlib.Core.Path.{◌≡◌, sym, ◌∙◌}
use native.Mathlib.Omega.{arith}
use borrow.Author.Tests.{eqb-true, eqb-false}
use Rattle.record.specs.Kinds.{number_of}
use Rattle.record.proofs.KindLaws.{compared}
use Rattle.split.proofs.SplitLaws.{kind_five}
use Rattle.paper.specs.Standing.{kind_number}
use Rattle.note.proofs.ToldLaws.{noted_told, record_within, kind_number_lem}
use Rattle.rules.proofs.Emerging.{past_scratch, quiet_alike, quiet_not, quiet_still}
use Rattle.rules.proofs.gathered.is_quiet.Goals as goal

pub at-requires : goal.at-requires
at-requires c = record_within (noted_told c.requires.3.new)

pub at-requires-2 : goal.at-requires-2
at-requires-2 c = record_within (noted_told c.requires.3.node)

pub returns-then-eq-clause-by_index : goal.returns-then-eq-clause-by_index
returns-then-eq-clause-by_index c =
    λ end u x h.
    let new : number_of c.at.result ≡ kind_number x = c.at.ensures.named (kind_five x (noted_told h.new)) ∙ kind_number_lem (noted_told h.new) in
    let node : number_of c.at-2.result ≡ kind_number u = c.at-2.ensures.named (kind_five u (noted_told h.node)) ∙ kind_number_lem (noted_told h.node) in
    let same = sym (compared c.at.result c.at-2.result) ∙ sym c.eq.ensures in
    quiet_alike _ u x (sym new ∙ eqb-true _ _ (same ∙ c.if-eq.true) ∙ node)

pub is_calm-requires : goal.is_calm-requires
is_calm-requires c = let q = c.requires in (q.2, q.3.new, omega (arith, q.3.new_small, q.3.within))

pub still-requires : goal.still-requires
still-requires c = let q = c.requires in (q.1, q.3.node, omega (arith, q.3.node_small, q.3.within, c.is_calm.auto))

pub returns-then-is_calm-clause-by_index : goal.returns-then-is_calm-clause-by_index
returns-then-is_calm-clause-by_index c =
    λ end u x h.
    let new : number_of c.at.result ≡ kind_number x = c.at.ensures.named (kind_five x (noted_told h.new)) ∙ kind_number_lem (noted_told h.new) in
    let node : number_of c.at-2.result ≡ kind_number u = c.at-2.ensures.named (kind_five u (noted_told h.node)) ∙ kind_number_lem (noted_told h.node) in
    let same = sym (compared c.at.result c.at-2.result) ∙ sym c.eq.ensures in
    c.still.ensures.value u h.node
    ∙ quiet_still _ u x (λ e. eqb-false _ _ (same ∙ c.if-eq.false) (new ∙ e ∙ sym node)) (sym (c.is_calm.ensures.value x h.new) ∙ c.if-is_calm.true)

pub returns-then-is_calm-clause-around : goal.returns-then-is_calm-clause-around
returns-then-is_calm-clause-around c =
    λ end u x h.
    past_scratch (c.still.ensures.around u h.node) end h.node_small
    ∙ past_scratch (c.is_calm.ensures.around x h.new) end h.new_small

pub returns-else-is_calm-clause-by_index : goal.returns-else-is_calm-clause-by_index
returns-else-is_calm-clause-by_index c =
    λ end u x h. c.if-is_calm.false ∙ quiet_not _ u x (sym (c.is_calm.ensures.value x h.new) ∙ c.if-is_calm.false)

pub returns-else-is_calm-clause-around : goal.returns-else-is_calm-clause-around
returns-else-is_calm-clause-around c = λ end u x h. past_scratch (c.is_calm.ensures.around x h.new) end h.new_small

-- `rules::ask`: only the rules for the tree's kind are tried, for no other can apply to it. A rule that does not apply goes on to the next; the first that
-- does answers; when those for that kind are done, no rule applies (AskLaws).
use Prim.Native.Nat.{◌<◌, ◌≤◌}
use mathlib.Core.Path.{◌≡◌, ap, ◌∙◌}
use native.Mathlib.Omega.{arith}
use Rattle.paper.specs.Record.{kind}
use Rattle.std.proofs.lemmas.Result.{err_from_is_err_and}
use Rattle.note.proofs.ToldLaws.{record_within}
use Rattle.rules.specs.Alike.{first_for, end_for}
use Rattle.rules.proofs.RuleLaws.{ready_tree, kind_told}
use Rattle.rules.proofs.AskLaws.{rules_in, in_order_lem, begins, goes_on, steps, leaves, ends}
use Rattle.rules.proofs.ask.Goals as goal

pub at-kind-requires : goal.at-kind-requires
at-kind-requires c = record_within (ready_tree c.requires.2)

pub loop-i-init : goal.loop-i-init
loop-i-init c = λ t rest h. begins h (c.first_for-i.ensures ∙ ap first_for (kind_told c.requires.2 c.at-kind.ensures.named))

pub returns-in_err-at : goal.returns-in_err-at
returns-in_err-at c =
    let g = c.args in
    let told = kind_told c.requires.2 c.at-kind.ensures.named in
    let end : c.end_for-i-end.result ≡ end_for (kind g.work.now g.p) g.edition = c.end_for-i-end.ensures ∙ ap (λ k. end_for k g.edition) told in
    let within : c.loop-i.i < rules_in g.edition = omega (arith, c.loop-i-test.true, (in_order_lem (kind g.work.now g.p) g.edition).1) in
    let left = err_from_is_err_and c.from_residual.result c.from_residual.ensures.1 in
    λ t rest h.
    let v = c.loop-i.invariant t rest h in
    rw left.1 (leaves v within (c.in_err-at.ensures t rest v.ready))

pub returns-in-Some : goal.returns-in-Some
returns-in-Some c =
    let g = c.args in
    let told = kind_told c.requires.2 c.at-kind.ensures.named in
    let end : c.end_for-i-end.result ≡ end_for (kind g.work.now g.p) g.edition = c.end_for-i-end.ensures ∙ ap (λ k. end_for k g.edition) told in
    let within : c.loop-i.i < rules_in g.edition = omega (arith, c.loop-i-test.true, (in_order_lem (kind g.work.now g.p) g.edition).1) in
    λ t rest h.
    let v = c.loop-i.invariant t rest h in
    steps v within _ _ c.in-Some.at (rw c.in-Some.is at (c.in_ok-at.ensures t rest v.ready))

pub loop-i-preserved : goal.loop-i-preserved
loop-i-preserved c =
    let g = c.args in
    let told = kind_told c.requires.2 c.at-kind.ensures.named in
    let end : c.end_for-i-end.result ≡ end_for (kind g.work.now g.p) g.edition = c.end_for-i-end.ensures ∙ ap (λ k. end_for k g.edition) told in
    let within : c.loop-i.i < rules_in g.edition = omega (arith, c.loop-i-test.true, (in_order_lem (kind g.work.now g.p) g.edition).1) in
    λ t rest h.
    let v = c.loop-i.invariant t rest h in
    goes_on v within _ _ c.try_step.auto.out c.try_step.auto.work (rw c.in_default.is at (c.in_ok-at.ensures t rest v.ready))

pub returns : goal.returns
returns c =
    let g = c.args in
    let told = kind_told c.requires.2 c.at-kind.ensures.named in
    let first : c.first_for-i.result ≡ first_for (kind g.work.now g.p) = c.first_for-i.ensures ∙ ap first_for told in
    let end : c.end_for-i-end.result ≡ end_for (kind g.work.now g.p) g.edition = c.end_for-i-end.ensures ∙ ap (λ k. end_for k g.edition) told in
    let order : c.first_for-i.result ≤ c.end_for-i-end.result = omega (arith, (in_order_lem (kind g.work.now g.p) g.edition).0) in
    λ t rest h. ends h (omega (arith, c.loop-i-test.false, c.loop-i.auto.i-end order)) (c.loop-i.invariant t rest h)

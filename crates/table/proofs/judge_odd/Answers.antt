-- `table::judge_odd`: where no record is flawed the tree does not end with the records, as is required, so it ends before or after.
use Prim.Native.Nat.{min}
use mathlib.Core.Path.{◌≡◌, sym, ap, ◌∙◌}
use Rattle.std.proofs.lemmas.Result.{err_from_is_err_and}
use Rattle.paper.specs.Verdict.{refused, tree_end}
use Rattle.table.specs.declared.refusals.Refusal.TheVariants.{Heavy, Shape}
use Rattle.table.proofs.RefusalLaws.{some_number, says_refused}
use Rattle.table.proofs.JudgeLaws.{records_within, unflawed, flawed_there, ends_at, heavy, shapeless}
use Rattle.table.proofs.judge_odd.Goals as goal

pub first_flawed-requires : goal.first_flawed-requires
first_flawed-requires c = records_within c.args.s.now c.args.n c.requires.0

pub returns-in_err-first_flawed : goal.returns-in_err-first_flawed
returns-in_err-first_flawed c =
    let a = c.args in
    let r = c.in_err-first_flawed.field-0.0 in
    let p = err_from_is_err_and c.from_residual.result c.from_residual.ensures.1 in
    rw (p.1, p.2) (says_refused _ _ r (sym (flawed_there a.limit a.s.now a.n _ (some_number r) c.in_err-first_flawed.ensures)))

pub weight_of-requires : goal.weight_of-requires
weight_of-requires c = records_within c.args.s.now c.args.n c.requires.0

pub returns-then-limit-weight_of : goal.returns-then-limit-weight_of
returns-then-limit-weight_of c =
    let a = c.args in
    let sound = unflawed a.limit a.s.now a.n c.in_ok-first_flawed.ensures in
    says_refused _ _ Heavy (sym (heavy a.limit a.s.now a.n sound c.weight_of.result c.weight_of.ensures c.if-limit-weight_of.true))

pub tree_end-requires : goal.tree_end-requires
tree_end-requires c = (records_within c.args.s.now c.args.n c.requires.0, c.requires.1)

pub returns : goal.returns
returns c =
    let a = c.args in
    let s = a.s.now in
    let sound = unflawed a.limit s a.n c.in_ok-first_flawed.ensures in
    let at : c.unwrap_or-place.result ≡ min (tree_end s a.n 0) a.n = rw c.tree_end.ensures at c.unwrap_or-place.ensures ∙ ends_at (tree_end s a.n 0) a.n in
    let told = shapeless a.limit s a.n sound c.weight_of.result c.weight_of.ensures c.if-limit-weight_of.false (c.requires.2 sound) in
    says_refused _ _ (Shape c.unwrap_or-place.result) (ap (refused 4) at ∙ sym told)

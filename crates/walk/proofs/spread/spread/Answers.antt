-- The records up to the tree's end add its spread (`tree_spread`).
use Rattle.std.proofs.Common.{◌≡◌, ◌-◌, ◌%◌, refl, sym, ap, ◌∙◌, arith}
use Rattle.paper.specs.Limits.{modulus}
use Rattle.paper.specs.Tree.{records}
use Rattle.note.proofs.ToldLaws.{tree_within}
use Rattle.walk.specs.Spread.{shares_in}
use Rattle.walk.proofs.SpreadLaws.{none_in, sum_step, tree_spread}
use Rattle.walk.proofs.spread.spread.Goals as goal

pub loop-j-init : goal.loop-j-init
loop-j-init c =
    let g = c.args in
    let none : g.i - g.i ≡ 0 = omega arith in
    sym (ap (λ n. shares_in g.s.now g.i n % modulus) none ∙ ap (λ x. x % modulus) (none_in g.s.now g.i))

pub share-sum-requires : goal.share-sum-requires
share-sum-requires c =
    let some = c.requires in
    omega (arith, tree_within some.there, c.skip_tree-end.ensures some.how some.tree some.there)

pub loop-j-preserved : goal.loop-j-preserved
loop-j-preserved c =
    sum_step _ _ _ _ c.share-sum.result _ c.loop-j.auto.j c.loop-j.invariant c.share-sum.ensures (omega arith) refl

pub returns : goal.returns
returns c = λ how t h.
    let g = c.args in
    let all : c.loop-j.j - g.i ≡ records t = omega (arith, c.skip_tree-end.ensures how t h) in
    c.loop-j.invariant ∙ ap (λ n. shares_in g.s.now g.i n % modulus) all ∙ ap (λ x. x % modulus) (tree_spread t h)

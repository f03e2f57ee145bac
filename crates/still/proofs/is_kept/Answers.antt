-- `still::is_kept` meets its contract: what `any` looks at are the keys.
use Rattle.std.proofs.Common.{rules, tests, eqb, ◌+◌, ◌*◌, refl, ◌∙◌, arith}
use Rattle.std.proofs.lemmas.Iterator.{YieldsList-from_range}
use Rattle.std.proofs.lemmas.Iterator.Search.{any_from_yields_List}
use Rattle.paper.specs.Bytes.{le8}
use Rattle.still.proofs.KeysLaws.{looked}
use Rattle.still.proofs.is_kept.Goals as goal

pub returns : goal.returns
returns c = λ ks h.
    let g = c.args in
    any_from_yields_List (λ j. eqb g.key (le8 g.d.now (g.o + j * 8))) _ _ c.any.result c.any.ensures.ran
    (YieldsList-from_range 0 g.m g.m refl (omega arith)) (λ x b q k. search (rules, tests))
    ∙ looked g.d.now g.o g.key ks h.keys_there g.m 0 (omega (arith, h.many))

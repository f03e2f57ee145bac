-- `stretch::clear` meets its contract: the stretch holds zeros.
use Rattle.std.proofs.Common.{◌≡◌, ◌+◌, ◌-◌, take, drop, replicate, length, arith, ap, ◌∙◌}
use Rattle.std.proofs.lemmas.List.{length-replicate}
use Rattle.stretch.proofs.Laws.{placed, part_to, length_part}
use Rattle.stretch.proofs.clear.Goals as goal

pub returns : goal.returns
returns c =
    let g = c.args in
    let long : length (take (g.at + g.n - g.at) (drop g.at g.d.now)) ≡ g.n =
    ap length (part_to g.d.now g.at g.n _ (omega arith)) ∙ length_part g.d.now g.at g.n (omega arith) in
    placed g.d.now g.at g.n _ _ (replicate g.n 0)
    (c.fill.ensures.after (λ y e. e) ∙ ap (λ n. replicate n 0) long)
    (omega arith)
    (length-replicate g.n 0)

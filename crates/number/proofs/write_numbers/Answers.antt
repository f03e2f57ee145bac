-- `number::write_numbers` meets its contract: a turn writes one number more.
use Rattle.std.proofs.Common.{◌*◌, List, ℕ, get_or, sym, ap, ◌∙◌, arith}
use Rattle.paper.specs.Bytes.{bytes}
use Rattle.stretch.specs.Put.{put}
use Rattle.number.proofs.EightsLaws.{up_to_none, up_to_more, up_to_all}
use Rattle.number.proofs.write_numbers.Goals as goal

pub loop-i-init : goal.loop-i-init
loop-i-init c = sym (up_to_none c.args.answer.now c.args.numbers.now c.requires)

pub loop-i-preserved : goal.loop-i-preserved
loop-i-preserved c =
    let l = c.loop-i in
    let ns = c.args.numbers.now in
    c.write8.ensures
    ∙ ap (λ (x : List ℕ). put x (l.i * 8) (bytes 8 (get_or ns l.i 0))) l.invariant
    ∙ up_to_more c.args.answer.now ns c.requires l.i (omega arith)

pub returns : goal.returns
returns c = c.loop-i.invariant ∙ up_to_all c.args.answer.now c.args.numbers.now c.requires c.loop-i.i (omega arith)

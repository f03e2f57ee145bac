-- `replace::twice` meets its contract: by what is found of one symbol.
use Rattle.std.proofs.Common.{◌+◌, ◌-◌, ◌||◌, length, refl, sym, ap, ◌∙◌, arith}
use native.Mathlib.Nat.{sub-zero}
use Rattle.paper_shared.specs.Answers.{twice}
use Rattle.replace.proofs.PartLaws.{twice_step, twice_done}
use Rattle.replace.proofs.twice.Goals as goal

pub loop-i-init : goal.loop-i-init
loop-i-init c = sym (rw (sub-zero (length _)) refl)

pub returns-then-is_among : goal.returns-then-is_among
returns-then-is_among c =
    let symbols = c.args.symbols.now in
    let l = c.loop-i in
    let t = sym c.is_among.ensures ∙ c.if-is_among.true in
    sym (l.invariant ∙ twice_step symbols (length symbols) l.i (omega arith)
    ∙ ap (λ b. b || twice symbols (l.i + 1) (length symbols - (l.i + 1))) t)

pub loop-i-preserved : goal.loop-i-preserved
loop-i-preserved c =
    let symbols = c.args.symbols.now in
    let l = c.loop-i in
    let t = sym c.is_among.ensures ∙ c.if-is_among.false in
    l.invariant ∙ twice_step symbols (length symbols) l.i (omega arith)
    ∙ ap (λ b. b || twice symbols (l.i + 1) (length symbols - (l.i + 1))) t

pub returns : goal.returns
returns c =
    let symbols = c.args.symbols.now in
    sym (c.loop-i.invariant ∙ twice_done symbols (length symbols) c.loop-i.i (omega arith))

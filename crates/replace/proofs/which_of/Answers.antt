-- `replace::which_of` meets its contract.
use Rattle.std.proofs.Common.{◌≡◌, ◌+◌, ◌-◌, length, refl, sym, ◌∙◌, arith}
use Rattle.std.proofs.Math.ListN.{length-set}
use native.Mathlib.Nat.{sub-zero}
use Rattle.replace.proofs.PartLaws.{zeros, place_done, which_turn}
use Rattle.replace.proofs.which_of.Goals as goal

pub loop-i-init : goal.loop-i-init
loop-i-init c =
    let symbols = c.args.symbols.now in
    record { long = refl; places = λ x l. zeros 256 x ∙ sym (place_done symbols (length symbols) (length symbols) x (omega arith)) }

pub loop-i-preserved : goal.loop-i-preserved
loop-i-preserved c =
    let symbols = c.args.symbols.now in
    let l = c.loop-i in
    let i = l.i - 1 in
    let e : l.i ≡ i + 1 = omega arith in
    let y = c.type_inv.symbols i in
    record {
      long = length-set l.which c.from.result (i + 1) ∙ l.invariant.long;
      places = which_turn l.which symbols i c.from.result l.invariant.long (omega arith) c.from.ensures (omega arith) (rw e at l.invariant.places);
    }

pub returns : goal.returns
returns c =
    let symbols = c.args.symbols.now in
    let l = c.loop-i in
    let e : l.i ≡ 0 = omega arith in
    λ x k. rw (e, sub-zero (length symbols)) at (l.invariant.places x k)

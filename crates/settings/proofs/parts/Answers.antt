-- A record's part is counted where it is over those that were found.
use Rattle.std.proofs.Common.{◌+◌, ◌∷◌, sym, ap, ◌∙◌}
use Rattle.settings.specs.Slots.{rest, keys_in}
use Rattle.settings.specs.Keys.{parts_of}
use Rattle.settings.proofs.StepLaws.{rest_all}
use Rattle.settings.proofs.KeyLaws.{keys_free, keys_record, keys_done, parts_more, parts_same}
use Rattle.settings.proofs.parts.Goals as goal
use Rattle.settings.proofs.parts.Goals.{then-most-part, else-most-part}

pub loop-i-init : goal.loop-i-init
loop-i-init c = ap (λ xs. parts_of 0 (keys_in xs)) (rest_all c.args.area.now)

pub returns-then-is_free : goal.returns-then-is_free
unfolding parts_of
returns-then-is_free c =
    let free = sym c.is_free.ensures ∙ c.if-is_free.true in
    sym (c.loop-i.invariant ∙ ap (parts_of c.loop-i.most) (keys_free c.args.area.now c.loop-i.i c.loop-i-test.true free))

pub loop-i-preserved : goal.loop-i-preserved
loop-i-preserved c =
    let a = c.args.area.now in
    let most = c.loop-i.most in
    let used = sym c.is_free.ensures ∙ c.if-is_free.false in
    let keys = keys_record a c.loop-i.i c.loop-i-test.true used in
    let k = c.key_of-part.result in
    let ks = keys_in (rest a (c.loop-i.i + 1)) in
    c.loop-i.invariant ∙ ap (parts_of most) (keys ∙ ap (λ j. j ∷ ks) (sym c.key_of-part.ensures))
    ∙ elim c.if-most-part.branch [
      | then-most-part w ↦ parts_more most k ks w.if-most-part.true ∙ ap (λ m. parts_of m ks) (sym w.most-is)
      | else-most-part w ↦ parts_same most k ks w.if-most-part.false ∙ ap (λ m. parts_of m ks) (sym w.most-is)
    ]

pub returns : goal.returns
unfolding parts_of
returns c = sym (c.loop-i.invariant ∙ ap (parts_of c.loop-i.most) (keys_done c.args.area.now c.loop-i.i c.loop-i-test.false))

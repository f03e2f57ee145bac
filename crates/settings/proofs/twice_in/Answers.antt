-- Each way through a turn is one law of `again`: a key of another part, one that was seen, one that is noted.
use Rattle.std.proofs.Common.{ℕ, ◌+◌, ◌∷◌, sym, ap, ◌∙◌}
use borrow.Author.Tests.{eqb-false}
use lib.ListN.{length-replicate}
use Rattle.table.proofs.DueLaws.{turned_length, not_set}
use Rattle.settings.specs.Slots.{rest, keys_in}
use Rattle.settings.specs.Keys.{twice, in_part}
use Rattle.settings.proofs.StepLaws.{rest_all}
use Rattle.settings.proofs.KeyLaws.{keys_free, keys_record, keys_done, again, again_start, again_other, again_seen, again_set}
use Rattle.settings.proofs.twice_in.Goals as goal
use Rattle.settings.proofs.twice_in.Goals.{then-key-part+else-is_due, else-key-part}

pub loop-i-init : goal.loop-i-init
loop-i-init c =
    let a = c.args in
    record {
      words = length-replicate {A = ℕ} 128 0;
      told = ap (λ xs. twice (in_part a.part) (keys_in xs)) (rest_all a.area.now) ∙ again_start a.part (keys_in (rest a.area.now 0));
    }

pub returns-then-is_free : goal.returns-then-is_free
unfolding again
returns-then-is_free c =
    let free = sym c.is_free.ensures ∙ c.if-is_free.true in
    sym (c.loop-i.invariant.told
    ∙ ap (again c.loop-i.seen c.args.part) (keys_free c.args.area.now c.loop-i.i c.loop-i-test.true free))

pub returns-then-is_due : goal.returns-then-is_due
returns-then-is_due c =
    let a = c.args in
    let i = c.loop-i.i in
    let k = c.key_of-key.result in
    let ks = keys_in (rest a.area.now (i + 1)) in
    let used = sym c.is_free.ensures ∙ c.if-is_free.false in
    let keys = keys_record a.area.now i c.loop-i-test.true used in
    sym (c.loop-i.invariant.told
    ∙ ap (again c.loop-i.seen a.part) (keys ∙ ap (λ j. j ∷ ks) (sym c.key_of-key.ensures))
    ∙ again_seen c.loop-i.seen a.part k ks c.if-key-part.true (sym c.is_due.ensures ∙ c.if-is_due.true))

pub loop-i-preserved : goal.loop-i-preserved
loop-i-preserved c =
    let a = c.args in
    let i = c.loop-i.i in
    let seen = c.loop-i.seen in
    let words = c.loop-i.invariant.words in
    let used = sym c.is_free.ensures ∙ c.if-is_free.false in
    let keys = keys_record a.area.now i c.loop-i-test.true used in
    let k = c.key_of-key.result in
    let ks = keys_in (rest a.area.now (i + 1)) in
    let first = c.loop-i.invariant.told ∙ ap (again seen a.part) (keys ∙ ap (λ j. j ∷ ks) (sym c.key_of-key.ensures)) in
    elim c.if-key-part.branch [
      | then-key-part+else-is_due w ↦
          let bit = not_set _ _ (eqb-false _ _ (sym w.is_due.ensures ∙ w.if-is_due.false)) in
          let set = w.seen-is ∙ w.turn.ensures in
          rw set (record { words = turned_length seen _ ∙ words; told = first ∙ again_set seen a.part k ks words w.if-key-part.true bit })
      | else-key-part w ↦ rw w.seen-is (record { words = words; told = first ∙ again_other seen a.part k ks w.if-key-part.false })
    ]

pub returns : goal.returns
unfolding again
returns c =
    sym (c.loop-i.invariant.told ∙ ap (again c.loop-i.seen c.args.part) (keys_done c.args.area.now c.loop-i.i c.loop-i-test.false))

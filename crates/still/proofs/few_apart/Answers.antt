-- `still::few_apart` meets its contract: a turn meets the next member, and keeps its key where it is new.
use Rattle.std.proofs.Common.{not, sym, ap, ◌∙◌, arith}
use Rattle.still.specs.Still.{among}
use Rattle.note.proofs.ToldLaws.{noted_told, tree_within}
use Rattle.still.proofs.KeysLaws.{keys_more}
use Rattle.still.proofs.KeepLaws.{scratched_none, scratched_both, key_put_scratched, members_few, testing_start, testing_end, none_met, one_met}
use Rattle.still.proofs.KeepLaws.{testing_first, testing_keys, keys_none, testing_sought, testing_seen, testing_step}
use Rattle.still.proofs.few_apart.Goals as goal

pub loop-m-init : goal.loop-m-init
loop-m-init c = record { around = scratched_none _ _ _; testing = λ f h. testing_start (keys_none _ _) h }

pub meet-requires : goal.meet-requires
meet-requires c =
    let some = c.requires.trees_by in
    let u = testing_first (c.loop-m.invariant.testing some.0 some.1) c.loop-m-test.true in
    (u.tree, u.there)

pub returns-in_default-clause-value : goal.returns-in_default-clause-value
returns-in_default-clause-value c = λ f q.
    let a = c.loop-m.invariant.testing f q in
    let u = testing_first a c.loop-m-test.true in
    testing_sought a c.loop-m-test.true (none_met c.args.terms u.tree (sym c.in_default.is ∙ c.meet.ensures u.tree u.there))

pub returns-in_default-clause-around : goal.returns-in_default-clause-around
returns-in_default-clause-around c = c.loop-m.invariant.around

pub is_kept-requires : goal.is_kept-requires
is_kept-requires c =
    let some = c.requires.trees_by in
    let a = c.loop-m.invariant.testing some.0 some.1 in
    (a.before, testing_keys a c.loop-m-test.true (members_few some.1) (omega arith))

pub returns-then-is_kept-clause-value : goal.returns-then-is_kept-clause-value
returns-then-is_kept-clause-value c = λ f q.
    let a = c.loop-m.invariant.testing f q in
    let u = testing_first a c.loop-m-test.true in
    let v = one_met c.args.terms u.tree c.in-Some.met (c.in-Some.ensures u.tree u.there) in
    testing_seen a c.loop-m-test.true v.0
    (ap not
    (ap (λ k. among k a.before) (sym v.1)
    ∙ sym (c.is_kept.ensures a.before (testing_keys a c.loop-m-test.true (members_few q) (omega arith)))
    ∙ c.if-is_kept.true))

pub returns-then-is_kept-clause-around : goal.returns-then-is_kept-clause-around
returns-then-is_kept-clause-around c = c.loop-m.invariant.around

pub overflow_mul-m : goal.overflow_mul-m
overflow_mul-m c = let some = c.requires.trees_by in omega (arith, members_few some.1)

pub overflow_add-o : goal.overflow_add-o
overflow_add-o c = omega arith

pub write8-requires : goal.write8-requires
write8-requires c = omega arith

pub overflow_add-at : goal.overflow_add-at
overflow_add-at c =
    let some = c.requires.trees_by in
    let u = testing_first (c.loop-m.invariant.testing some.0 some.1) c.loop-m-test.true in
    let v = one_met c.args.terms u.tree c.in-Some.met (c.in-Some.ensures u.tree u.there) in
    omega (arith, tree_within (noted_told u.there), v.2)

pub loop-m-preserved : goal.loop-m-preserved
loop-m-preserved c =
    let g = c.args in
    let key = c.in-Some.met.key in record {
      around =
          scratched_both c.loop-m.invariant.around
          (key_put_scratched c.loop-m.d g.o g.n c.loop-m.m key c.loop-m-test.true (omega arith) c.write8.new.d c.write8.ensures);
      testing = λ f q.
          let a = c.loop-m.invariant.testing f q in
          let u = testing_first a c.loop-m-test.true in
          let v = one_met g.terms u.tree c.in-Some.met (c.in-Some.ensures u.tree u.there) in
          let room = testing_keys a c.loop-m-test.true (members_few q) (omega arith) in
          let seen = ap (λ k. among k a.before) (sym v.1) ∙ sym (c.is_kept.ensures a.before room) ∙ c.if-is_kept.false in
          testing_step a c.loop-m-test.true v.0 (ap not seen) key c.in-Some.met.size v.1 v.2
          (keys_more room key (omega arith) (omega arith) c.write8.new.d c.write8.ensures);
    }

pub returns-clause-value : goal.returns-clause-value
returns-clause-value c = λ f q. testing_end (c.loop-m.invariant.testing f q) (omega arith)

pub returns-clause-around : goal.returns-clause-around
returns-clause-around c = c.loop-m.invariant.around

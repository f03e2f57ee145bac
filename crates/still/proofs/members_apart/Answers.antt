-- `still::members_apart` meets its contract: a turn meets the next member, and keeps its key where it is new.
use Rattle.std.proofs.Common.{not, sym, ap, ◌∙◌, arith}
use Rattle.still.specs.Still.{among}
use Rattle.note.proofs.ToldLaws.{noted_told, tree_within}
use Rattle.still.proofs.KeepLaws.{scratched_none, scratched_both, keeping_scratched, members_few, testing_start, testing_end, none_met, one_met}
use Rattle.still.proofs.KeepLaws.{testing_first, testing_kept, kept_none, kept_more, testing_sought, testing_seen, testing_step}
use Rattle.still.proofs.members_apart.Goals as goal

pub loop-m-init : goal.loop-m-init
loop-m-init c = record { around = scratched_none _ _ _; testing = λ f h. testing_start (kept_none _ _ _ _) h }

pub meet-requires : goal.meet-requires
meet-requires c =
    let some = c.requires.trees_by in
    let u = testing_first (c.loop-m.invariant.testing some.0 some.1) c.loop-m-test.true in
    (u.tree, u.there)

pub returns-in_default-clause-value : goal.returns-in_default-clause-value
returns-in_default-clause-value c = λ f q.
    let a = c.loop-m.invariant.testing f q in
    let u = testing_first a c.loop-m-test.true in
    testing_sought a c.loop-m-test.true (none_met c.args.terms u.tree (sym c.in_default.is ∙ c.meet.ensures u.tree u.there))

pub returns-in_default-clause-around : goal.returns-in_default-clause-around
returns-in_default-clause-around c = c.loop-m.invariant.around

pub is_new-requires : goal.is_new-requires
is_new-requires c =
    let some = c.requires.trees_by in
    let a = c.loop-m.invariant.testing some.0 some.1 in
    (a.before, testing_kept a c.requires.n_in_bounds.1 c.loop-m-test.true (members_few some.1) (omega arith))

pub returns-then-not-is_new-clause-value : goal.returns-then-not-is_new-clause-value
returns-then-not-is_new-clause-value c = λ f q.
    let a = c.loop-m.invariant.testing f q in
    let u = testing_first a c.loop-m-test.true in
    let v = one_met c.args.terms u.tree c.in-Some.met (c.in-Some.ensures u.tree u.there) in
    testing_seen a c.loop-m-test.true v.0
    (ap (λ k. not (among k a.before)) (sym v.1)
    ∙ sym (c.is_new.ensures a.before (testing_kept a c.requires.n_in_bounds.1 c.loop-m-test.true (members_few q) (omega arith)))
    ∙ c.if-not-is_new.true)

pub returns-then-not-is_new-clause-around : goal.returns-then-not-is_new-clause-around
returns-then-not-is_new-clause-around c = c.loop-m.invariant.around

pub keep_key-requires : goal.keep_key-requires
keep_key-requires c =
    let some = c.requires.trees_by in
    let a = c.loop-m.invariant.testing some.0 some.1 in
    (a.before, testing_kept a c.requires.n_in_bounds.1 c.loop-m-test.true (members_few some.1) (omega arith))

pub overflow_add-at : goal.overflow_add-at
overflow_add-at c =
    let some = c.requires.trees_by in
    let u = testing_first (c.loop-m.invariant.testing some.0 some.1) c.loop-m-test.true in
    let v = one_met c.args.terms u.tree c.in-Some.met (c.in-Some.ensures u.tree u.there) in
    omega (arith, tree_within (noted_told u.there), v.2)

pub loop-m-preserved : goal.loop-m-preserved
loop-m-preserved c =
    let some = c.requires.trees_by in
    let b = c.loop-m.invariant.testing some.0 some.1 in
    let key = c.in-Some.met.key in record {
      around =
          scratched_both c.loop-m.invariant.around
          (keeping_scratched (testing_kept b c.requires.n_in_bounds.1 c.loop-m-test.true (members_few some.1) (omega arith)) key (omega arith)
          c.keep_key.new.d c.keep_key.ensures);
      testing = λ f q.
          let a = c.loop-m.invariant.testing f q in
          let u = testing_first a c.loop-m-test.true in
          let v = one_met c.args.terms u.tree c.in-Some.met (c.in-Some.ensures u.tree u.there) in
          let room = testing_kept a c.requires.n_in_bounds.1 c.loop-m-test.true (members_few q) (omega arith) in
          let new = ap (λ k. not (among k a.before)) (sym v.1) ∙ sym (c.is_new.ensures a.before room) ∙ c.if-not-is_new.false in
          testing_step a c.loop-m-test.true v.0 new key c.in-Some.met.size v.1 v.2
          (kept_more room key (omega arith) c.keep_key.new.d c.keep_key.ensures);
    }

pub returns-clause-value : goal.returns-clause-value
returns-clause-value c = λ f q. testing_end (c.loop-m.invariant.testing f q) (omega arith)

pub returns-clause-around : goal.returns-clause-around
returns-clause-around c = c.loop-m.invariant.around

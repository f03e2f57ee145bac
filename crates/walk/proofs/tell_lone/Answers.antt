-- What the keys tell, and of members that they do not tell apart what the flags tell.
use Rattle.std.proofs.Common.{refl, subst, arith}
use Rattle.paper.proofs.Tests.{true_not_false}
use Rattle.walk.specs.Lone.{LoneTold}
use Rattle.walk.proofs.LoneLaws.{AfterKeys, after_telling}
use Rattle.walk.proofs.NumbersLaws.{keys_only, listed_still, told_after}
use Rattle.walk.proofs.tell_lone.Goals as goal

pub tell_lone-requires : goal.tell_lone-requires
tell_lone-requires c = let q = c.requires in (q.1, omega (arith, q.0.1.low, q.0.1.within), q.2)

pub returns-then-not-tell_lone : goal.returns-then-not-tell_lone
returns-then-not-tell_lone c =
    let q = c.requires in
    let k = after_telling _ _ _ _ _ _ _ q.2 (omega (arith, q.0.1.low, q.0.1.within)) c.tell_lone.ensures in
    record { long = k.long; front = k.front; only = keys_only k; lonely = λ e. absurd (true_not_false e refl) }

pub tell_numbers-requires : goal.tell_numbers-requires
tell_numbers-requires c =
    let q = c.requires in
    let g = c.args in
    let told = c.tell_lone in
    let k = after_telling _ _ _ _ _ _ _ q.2 (omega (arith, q.0.1.low, q.0.1.within)) told.ensures in
    let few = subst (LoneTold g.out.now told.new.out g.work.now told.new.work g.d g.n) c.if-not-tell_lone.false told.ensures in
    ((q.0.0, listed_still (keys_only k) q.0.1), omega (arith, few.0), q.1, omega (arith, q.2, k.long))

pub returns : goal.returns
returns c =
    let q = c.requires in
    let g = c.args in
    let told = c.tell_lone in
    told_after
    (subst (AfterKeys g.out.now told.new.out g.work.now told.new.work g.d g.n) c.if-not-tell_lone.false
    (after_telling _ _ _ _ _ _ _ q.2 (omega (arith, q.0.1.low, q.0.1.within)) told.ensures))
    c.tell_numbers.ensures

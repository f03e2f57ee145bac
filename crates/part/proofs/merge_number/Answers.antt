-- Where the later member's base is no integer the two stay apart, since an integer base is like integers only. Where it is one, its bits and
-- the exponent that was read show the later member as a number (`later`), and the tests decide as the paper's rule does: equal exponents
-- multiply the bases; else equal bases add the exponents; else the two stay apart. Each return is the law of its case.
use Rattle.std.proofs.Common.{◌≡◌, ◌≤◌, ◌<◌, ◌^◌, ℕ, List, false, refl, sym, arith}
use Rattle.paper.specs.Record.{kind, bits, mark_in}
use Rattle.paper.specs.Tree.{Tree}
use Rattle.paper.specs.Rules.{factor_of}
use Rattle.note.specs.Note.{note}
use Rattle.split.specs.Standing.{Told}
use Rattle.note.proofs.ToldLaws.{record_within}
use Rattle.part.specs.Part.{ShowsNumber}
use Rattle.record.specs.declared.kinds.Kind.TheVariants.{Integer}
use Rattle.split.proofs.SplitLaws.{no_integer}
use Rattle.equal.proofs.KindTests.{ne_true, ne_false}
use Rattle.equal.proofs.TwoLaws.{positive}
use Rattle.part.proofs.PartLaws.{number_part, number_apart, number_times, number_times_over, number_other, number_raised, number_raised_over, error_says}
use Rattle.part.proofs.merge_number.Goals as goal

-- the later member, once it is read
later : {s : List ℕ} {at j w f : ℕ} {t : Tree} → Told note s at t → Told note s j (factor_of t).base → kind s j ≤ 0 → w ≡ bits s j
    → (f ≡ (factor_of t).exponent) × (f < 2 ^ 63) → ShowsNumber f w (mark_in s j) (mark_in s at) (factor_of t)
later {s} {at} {j} {w} {f} {t} there base k is e = number_part s f at j w _ _ t there base k is refl refl e.0 e.1

pub at-requires : goal.at-requires
at-requires c = let q = c.requires in record_within (c.base-j.ensures.by_index q.how q.tree q.there)

pub returns-then-ne-clause-merged_is : goal.returns-then-ne-clause-merged_is
returns-then-ne-clause-merged_is c = λ x t h there.
    number_apart h _
    (no_integer (c.base-j.ensures.by_index note t there)
    (positive _ (ne_true c.at.result _ c.at.ensures.all Integer (omega arith) c.ne.ensures c.if-ne.true)))

pub bits-w-requires : goal.bits-w-requires
bits-w-requires c = let q = c.requires in record_within (c.base-j.ensures.by_index q.how q.tree q.there)

pub returns-in_err-base-clause-merged_is : goal.returns-in_err-base-clause-merged_is
returns-in_err-base-clause-merged_is c = λ x t h there.
    let k = later there (c.base-j.ensures.by_index note t there)
    (omega (arith, ne_false c.at.result _ c.at.ensures.all Integer (omega arith) c.ne.ensures c.if-ne.false)) c.bits-w.ensures
    (c.exponent-f.ensures note t there) in
    error_says false c.args.s.now x (factor_of t) _ c.from_residual.ensures.0 (number_times_over h k (omega arith) (sym c.in_err-base.ensures))

pub returns-then-e-f-clause-merged_is : goal.returns-then-e-f-clause-merged_is
returns-then-e-f-clause-merged_is c = λ x t h there.
    let k = later there (c.base-j.ensures.by_index note t there)
    (omega (arith, ne_false c.at.result _ c.at.ensures.all Integer (omega arith) c.ne.ensures c.if-ne.false)) c.bits-w.ensures
    (c.exponent-f.ensures note t there) in
    number_times h k (omega arith) (sym c.in_ok-base.ensures)

pub returns-then-v-w-clause-merged_is : goal.returns-then-v-w-clause-merged_is
returns-then-v-w-clause-merged_is c = λ x t h there.
    let k = later there (c.base-j.ensures.by_index note t there)
    (omega (arith, ne_false c.at.result _ c.at.ensures.all Integer (omega arith) c.ne.ensures c.if-ne.false)) c.bits-w.ensures
    (c.exponent-f.ensures note t there) in
    number_other h k (λ q. omega (arith, q)) c.if-v-w.true

pub returns-in_err-exponent-clause-merged_is : goal.returns-in_err-exponent-clause-merged_is
returns-in_err-exponent-clause-merged_is c = λ x t h there.
    let k = later there (c.base-j.ensures.by_index note t there)
    (omega (arith, ne_false c.at.result _ c.at.ensures.all Integer (omega arith) c.ne.ensures c.if-ne.false)) c.bits-w.ensures
    (c.exponent-f.ensures note t there) in
    error_says false c.args.s.now x (factor_of t) _ c.from_residual-in_err-exponent.ensures.0
    (number_raised_over h k (λ q. omega (arith, q)) c.if-v-w.false (sym c.in_err-exponent.ensures))

pub returns-clause-merged_is : goal.returns-clause-merged_is
returns-clause-merged_is c = λ x t h there.
    let k = later there (c.base-j.ensures.by_index note t there)
    (omega (arith, ne_false c.at.result _ c.at.ensures.all Integer (omega arith) c.ne.ensures c.if-ne.false)) c.bits-w.ensures
    (c.exponent-f.ensures note t there) in
    number_raised h k (λ q. omega (arith, q)) c.if-v-w.false (sym c.in_ok-exponent.ensures)

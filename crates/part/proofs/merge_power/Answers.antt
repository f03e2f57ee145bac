-- A base that is no integer is like an equal base only, so the comparison of the two bases decides: where they differ the two stay apart, where
-- they are equal the sum of the exponents is made and judged. Each return is the law of its case.
use Rattle.std.proofs.Common.{false, sym, ◌∙◌, arith}
use Rattle.paper.specs.Rules.{factor_of}
use Rattle.note.specs.Note.{note}
use Rattle.part.proofs.PartLaws.{base_size, raised_later, power_apart, power_into, power_over, end_found, error_says}
use Rattle.part.proofs.merge_power.Goals as goal

pub same-requires : goal.same-requires
same-requires c =
    let q = c.requires in
    record {
      how = q.how;
      one = q.one;
      other = (factor_of q.other).base;
      one_there = q.one_there;
      other_there = c.base-j.ensures.by_index q.how q.other q.other_there;
      enough = omega (arith, q.enough, base_size q.other);
    }

pub returns-then-is_none-clause-merged_is : goal.returns-then-is_none-clause-merged_is
returns-then-is_none-clause-merged_is c = λ x t h there.
    let found = c.same.ensures note _ _ h.sized.there (c.base-j.ensures.by_index note t there) in
    power_apart h _ (sym (end_found _ _ _ found) ∙ c.if-is_none.ensures)

pub returns-in_err-exponent-clause-merged_is : goal.returns-in_err-exponent-clause-merged_is
returns-in_err-exponent-clause-merged_is c = λ x t h there.
    let found = c.same.ensures note _ _ h.sized.there (c.base-j.ensures.by_index note t there) in
    let read = c.exponent.ensures note t there in
    error_says false c.args.s.now x (factor_of t) _ c.from_residual.ensures.0
    (power_over h _ (raised_later t read.0 read.1) (sym (end_found _ _ _ found) ∙ c.if-is_none.ensures) (sym c.in_err-exponent.ensures))

pub returns-clause-merged_is : goal.returns-clause-merged_is
returns-clause-merged_is c = λ x t h there.
    let found = c.same.ensures note _ _ h.sized.there (c.base-j.ensures.by_index note t there) in
    let read = c.exponent.ensures note t there in
    power_into h _ (raised_later t read.0 read.1) (sym (end_found _ _ _ found) ∙ c.if-is_none.ensures) (sym c.in_ok-exponent.ensures)

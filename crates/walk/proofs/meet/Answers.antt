-- Where the entry's 15 bits are others than those of the current part's key, the part does not take up the member's (`apart_by_key`); else the
-- member stands where its entry's start says (`entry_there`), and merging with it there is what was asked for.
use Rattle.std.proofs.Common.{◌%◌, sym, ap, ◌∙◌, arith}
use Rattle.note.proofs.ToldLaws.{record_within}
use Rattle.walk.proofs.EntryLaws.{entry_there}
use Rattle.walk.proofs.KeyedLaws.{apart_by_key}
use Rattle.walk.proofs.meet.Goals as goal

pub returns-then-read2-key-clause-merged_is : goal.returns-then-read2-key-clause-merged_is
returns-then-read2-key-clause-merged_is c = λ b x t h keyed entry.
    apart_by_key b x t (λ e. c.if-read2-key.true (ap (λ x. x % 32768) c.read2.ensures.0 ∙ entry.key ∙ e ∙ sym keyed))

pub overflow_add-start : goal.overflow_add-start
overflow_add-start c = record { fits = omega (arith, record_within c.requires.entry.there, c.read2-2.ensures.0) }

pub merge-requires : goal.merge-requires
merge-requires c =
    let q = c.requires in
    record {
      flag = q.flag;
      current = q.current;
      later = q.later;
      shown = q.shown;
      there = entry_there q.entry _ c.read2-2.ensures.0;
      enough = q.enough;
    }

pub returns-clause-merged_is : goal.returns-clause-merged_is
returns-clause-merged_is c = λ b x t h keyed entry. c.merge.ensures.merged_is b x t h (entry_there entry _ c.read2-2.ensures.0)

pub returns-clause-place : goal.returns-clause-place
returns-clause-place c = c.merge.ensures.place _

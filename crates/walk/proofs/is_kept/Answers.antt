-- The member at the entry's start is looked at (`entry_there`).
use Rattle.std.proofs.Common.{◌&&◌, sym, ap, ◌∙◌, arith}
use Rattle.note.specs.Note.{note}
use Rattle.note.proofs.ToldLaws.{record_within, some_told}
use Rattle.walk.specs.Stays.{stays}
use Rattle.walk.proofs.EntryLaws.{entry_there}
use Rattle.walk.proofs.is_kept.Goals as goal

pub overflow_add-p : goal.overflow_add-p
overflow_add-p c = record { fits = omega (arith, record_within (entry_there c.requires.1 _ c.read2.ensures.0)) }

pub stays-requires : goal.stays-requires
stays-requires c = some_told (entry_there c.requires.1 _ c.read2.ensures.0)

pub returns-then-alone : goal.returns-then-alone
returns-then-alone c = λ t h.
    c.stays.ensures note t (entry_there h _ c.read2.ensures.0) ∙ ap (λ b. b && stays c.args.terms t) (sym c.if-alone.true)

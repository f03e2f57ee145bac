-- what is left of the test is the whole test, with the keys of the members passed kept in scratch, and nothing is written around it
use Rattle.std.proofs.Common.{◌*◌}
use Rattle.paper.specs.Tree.{Forest}
use Rattle.note.specs.Note.{note}
use Rattle.note.specs.Noted.{TreesBy}
use Rattle.still.specs.Keys.{Kept, Scratched}
use Rattle.still.proofs.KeepLaws.{Testing}
use Rattle.still.proofs.members_apart.Given as goal

abbrev pub invariant-loop-m : goal.invariant-loop-m
invariant-loop-m l = record {
  around : Scratched l.initial.d l.d l.o (l.n * 40);
  testing : (f : Forest) → TreesBy note l.s l.i l.n f → Testing l.s f l.terms (Kept l.d l.o l.n l.x) l.n l.at l.m;
}

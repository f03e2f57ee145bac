-- `still::is_sought` meets its contract: a tree is an integer where its kind is 0, and which one its bits tell.
use mathlib.Core.Path.{ap, ◌∙◌}
use native.Mathlib.Omega.{arith}
use lib.Dec.{ltb}
use Rattle.note.proofs.ToldLaws.{noted_told, record_within}
use Rattle.still.proofs.SoughtLaws.{no_integer, sought_term, sought_factor}
use Rattle.still.proofs.is_sought.Statement.{statement}
use Rattle.still.proofs.is_sought.Tie as tie

returns : tie.Need-returns-then-k-gt-INTEGER
returns c = λ t h e. no_integer _ t (omega arith)

bits_requires : tie.Need-bits-v-requires
bits_requires c κs = record_within (noted_told c.requires.1)

returns_2 : tie.Need-returns-then-terms
returns_2 c = λ t h e. rw c.if-terms.true (ap (λ n. ltb n 1) c.bits-v.ensures ∙ sought_term t h (omega arith))

returns_3 : tie.Need-returns
returns_3 c = λ t h e. rw c.if-terms.false (ap (λ n. ltb n 2) c.bits-v.ensures ∙ sought_factor t h (omega arith))

pub is_sought_spec : {M : Type 1} → statement M
is_sought_spec = tie.close (tie.spec returns bits_requires returns_2 returns_3)

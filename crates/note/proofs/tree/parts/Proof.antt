-- `note::tree::parts` meets its contract: by the kind, the record's count or one.
use Rattle.std.proofs.Common.{refl, arith, rules, le-ltb, lt-ltb}
use Rattle.note.specs.Plain.{parts_in}
use Rattle.note.proofs.tree.parts.Statement.{statement}
use Rattle.note.proofs.tree.parts.Tie as tie

returns : tie.Need-returns-then-k-lt-POWER
unfolding parts_in
returns c = rw (lt-ltb _ 4 c.if-k-lt-POWER.true) c.count.ensures.0

returns_2 : tie.Need-returns
unfolding parts_in
returns_2 c = let k = c.args.k in rw (le-ltb k 4 (omega arith)) refl

pub parts_spec : {M : Type 1} → statement M
parts_spec = tie.close (tie.spec (λ c κs. search rules) returns returns_2)

-- What the test keeps of a member: the key of its part and its number of records; nothing of one that a rule looks for.
use Rattle.std.specs.Prelude.{Bool, cond, Option, Some, None}
use Rattle.paper.specs.Tree.{Tree, records}
use Rattle.note.specs.Part.{part_key}
use Rattle.still.specs.Still.{sought}
use Rattle.still.specs.declared.Met.{Met}

abbrev pub meeting : Bool → Tree → Met
meeting terms t = record { key = part_key terms t; size = records t }

abbrev pub met_of : Bool → Tree → Option Met
met_of terms t = cond (sought terms t) None (Some (meeting terms t))

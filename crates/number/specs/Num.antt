-- What arithmetic on the signed 64-bit range answers, and the paper's meaning of each case: `Ok b`, the number is in the range, and b
-- is its 64 bits; `Err`, it is outside "the signed 64-bit range".
use Rattle.std.specs.Prelude.{ℕ, cond, ℤ, Result, Ok, Err}
use Rattle.paper.specs.Bytes.{word}
use Rattle.paper.specs.Rules.{fits}
use Rattle.number.specs.declared.OutOfRange.{OutOfRange}

abbrev pub out_of_range : Result ℕ OutOfRange
out_of_range = Err record {}

unfoldable pub num_of : ℤ → Result ℕ OutOfRange
num_of z = cond (fits z) (Ok (word z)) out_of_range

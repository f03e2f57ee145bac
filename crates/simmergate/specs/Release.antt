-- Which release this is: the number that a library says of itself, so that both machines of a pair can be asked whether they run the same. The
-- first had five calls on formulas, the second those of the requests; the third answers as the second does.
use Rattle.std.specs.Prelude.{ℕ}

abbrev pub release : ℕ
release = 3

-- What the answer slice of `simmergate_simplify` tells its caller: the numbers "8 bytes each, little-endian, in the order named above".
use Rattle.std.specs.Prelude.{ℕ, zero, suc, ◌^◌, ◌<◌, List, [], ◌∷◌}
use Rattle.paper.specs.Bytes.{le8}
use Rattle.paper.specs.Record.{Flaw, sound, bad_kind, bad_byte, bad_count}
use Rattle.paper.specs.Answers.{Answer}

-- what is wrong with a record, from its two numbers
unfoldable pub flaw_from : ℕ → ℕ → Flaw
flaw_from zero j = sound
flaw_from (suc zero) j = bad_kind
flaw_from (suc (suc zero)) j = bad_byte j
flaw_from (suc (suc (suc k))) j = bad_count

unfoldable pub answer_in : List ℕ → Answer
answer_in slice =
    record {
      number = le8 slice 0;
      place = le8 slice 8;
      flaw = flaw_from (le8 slice 56) (le8 slice 64);
      records_written = le8 slice 16;
      steps_taken = le8 slice 24;
      openings = le8 slice 32;
      weight_in = le8 slice 40;
      weight_out = le8 slice 48;
      tries = le8 slice 72;
    }

-- numbers that 8 bytes hold
abbrev pub FitEight : List ℕ → Type 0
FitEight [] = Unit {0}
FitEight (n ∷ ns) = (n < 2 ^ 64) × FitEight ns

-- A key of the part is there twice where one from slot i on has its bit set or is there again (`again`).
use Rattle.std.proofs.Common.{◌≡◌, length}
use Rattle.paper_settings.specs.Settings.{slots_of}
use Rattle.settings.specs.Slots.{rest, keys_in}
use Rattle.settings.specs.Keys.{twice, in_part}
use Rattle.settings.proofs.KeyLaws.{again}
use Rattle.settings.proofs.twice_in.Given as goal

abbrev pub invariant-loop-i : goal.invariant-loop-i
invariant-loop-i l = record {
  words : length l.seen ≡ 128;
  told : twice (in_part l.part) (keys_in (slots_of l.area)) ≡ again l.seen l.part (keys_in (rest l.area l.i));
}

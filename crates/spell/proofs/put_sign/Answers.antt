-- The character is written where its place lies in the area.
use Rattle.std.proofs.Common.{arith}
use Rattle.spell.proofs.PutLaws.{no_room_lem, room}
use Rattle.spell.proofs.put_sign.Goals as goal

pub returns-then-out-at : goal.returns-then-out-at
returns-then-out-at c = no_room_lem c.args.c c.args.out.now _ c.args.at c.if-out-at.true

pub returns : goal.returns
returns c = room c.args.c c.args.out.now c.args.at (omega arith)

-- Two areas that meet a contract of this crate, as the check reads it from the source, are the same where what is written, or shifted, lies in them.
use Prim.Native.Nat.{◌+◌, ◌*◌, ◌≤◌}
use mathlib.Core.Path.{◌≡◌, sym, ◌∙◌}
use borrow.Fn.Kinds.{Dens, ended_of}
use contract.Lifetimes.{Lfts}
use denote.Triple.Clauses.{AtExit}
use lib.ListN.{length}
use Rattle.paper.specs.Table.{record_of}
use Rattle.parse.proofs.area.put_record.Reads as put-record-reads
use Rattle.parse.proofs.area.put_record.Kinds as put-record-kinds
use Rattle.parse.proofs.area.make_room.Reads as make-room-reads
use Rattle.parse.proofs.area.make_room.Kinds as make-room-kinds

pub put_record_once : (κs : Lfts 1) (a : Dens κs put-record-kinds.ps) (x x' : AtExit (ended_of 1 put-record-kinds.ps put-record-kinds.r) κs)
    → put-record-reads.Post κs a tt x → put-record-reads.Post κs a tt x'
    → a.1.0 * 16 + length (record_of a.1.1.0 a.1.1.1.0 0 a.1.1.1.1.0) ≤ length a.0.now → x.0.now ≡ x'.0.now
put_record_once κs a x x' p q f = p.there f ∙ sym (q.there f)

pub make_room_once : (κs : Lfts 1) (a : Dens κs make-room-kinds.ps) (x x' : AtExit (ended_of 1 make-room-kinds.ps make-room-kinds.r) κs)
    → make-room-reads.Post κs a tt x → make-room-reads.Post κs a tt x' → a.1.1.0 * 16 + 16 ≤ length a.0.now → x.0.now ≡ x'.0.now
make_room_once κs a x x' p q f = p.there f ∙ sym (q.there f)

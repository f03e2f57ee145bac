-- Each contract, as the check reads it off the source, leaves one answer open and no other: two ends of a call that both meet it
-- leave the same bytes, since both equal one definition of what was lent.
use mathlib.Core.Path.{◌≡◌, sym, ◌∙◌}
use borrow.Fn.Kinds.{Dens, ended_of}
use contract.Lifetimes.{Lfts}
use denote.Triple.Clauses.{AtExit}
use Rattle.stretch.proofs.copy_bytes.Reads as copy-bytes
use Rattle.stretch.proofs.copy_bytes.Kinds as copy-bytes-kinds
use Rattle.stretch.proofs.shift.Reads as shift
use Rattle.stretch.proofs.shift.Kinds as shift-kinds
use Rattle.stretch.proofs.shift_left.Reads as shift-left
use Rattle.stretch.proofs.shift_left.Kinds as shift-left-kinds
use Rattle.stretch.proofs.shift_right.Reads as shift-right
use Rattle.stretch.proofs.shift_right.Kinds as shift-right-kinds
use Rattle.stretch.proofs.clear.Reads as clear
use Rattle.stretch.proofs.clear.Kinds as clear-kinds

pub copy_bytes_once : (κs : Lfts 2) (a : Dens κs copy-bytes-kinds.ps) (r r' : Unit {0})
    (x x' : AtExit (ended_of 2 copy-bytes-kinds.ps copy-bytes-kinds.r) κs)
    → copy-bytes.Post κs a r x → copy-bytes.Post κs a r' x' → x.0.now ≡ x'.0.now
copy_bytes_once κs a r r' x x' p q = p ∙ sym q

pub shift_once : (κs : Lfts 1) (a : Dens κs shift-kinds.ps) (r r' : Unit {0})
    (x x' : AtExit (ended_of 1 shift-kinds.ps shift-kinds.r) κs)
    → shift.Post κs a r x → shift.Post κs a r' x' → x.0.now ≡ x'.0.now
shift_once κs a r r' x x' p q = p ∙ sym q

pub shift_left_once : (κs : Lfts 1) (a : Dens κs shift-left-kinds.ps) (r r' : Unit {0})
    (x x' : AtExit (ended_of 1 shift-left-kinds.ps shift-left-kinds.r) κs)
    → shift-left.Post κs a r x → shift-left.Post κs a r' x' → x.0.now ≡ x'.0.now
shift_left_once κs a r r' x x' p q = p ∙ sym q

pub shift_right_once : (κs : Lfts 1) (a : Dens κs shift-right-kinds.ps) (r r' : Unit {0})
    (x x' : AtExit (ended_of 1 shift-right-kinds.ps shift-right-kinds.r) κs)
    → shift-right.Post κs a r x → shift-right.Post κs a r' x' → x.0.now ≡ x'.0.now
shift_right_once κs a r r' x x' p q = p ∙ sym q

pub clear_once : (κs : Lfts 1) (a : Dens κs clear-kinds.ps) (r r' : Unit {0})
    (x x' : AtExit (ended_of 1 clear-kinds.ps clear-kinds.r) κs)
    → clear.Post κs a r x → clear.Post κs a r' x' → x.0.now ≡ x'.0.now
clear_once κs a r r' x x' p q = p ∙ sym q

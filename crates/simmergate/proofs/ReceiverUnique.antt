-- Two returns, records, areas and answer slices that meet the contract of a call of the receiver, as the check reads it from the source, are the
-- same: each contract gives the return and every lent byte.
use Prim.Native.Nat.{ℕ}
use mathlib.Core.Path.{◌≡◌, sym, ◌∙◌}
use borrow.Fn.Kinds.{Dens, ended_of}
use contract.Lifetimes.{Lfts}
use denote.Triple.Clauses.{AtExit}
use Rattle.simmergate.proofs.receiver_calls.simmergate_receive.Reads as receive-reads
use Rattle.simmergate.proofs.receiver_calls.simmergate_receive.Kinds as receive-kinds
use Rattle.simmergate.proofs.receiver_calls.simmergate_receive_finish.Reads as finish-reads
use Rattle.simmergate.proofs.receiver_calls.simmergate_receive_finish.Kinds as finish-kinds

pub receive_once : (κs : Lfts 3) (a : Dens κs receive-kinds.ps) (r r' : ℕ) (x x' : AtExit (ended_of 3 receive-kinds.ps receive-kinds.r) κs)
    → receive-reads.Post κs a r x → receive-reads.Post κs a r' x'
    → (r ≡ r') × ((x.1.0.now ≡ x'.1.0.now) × (x.1.1.0.now ≡ x'.1.1.0.now))
receive_once κs a r r' x x' p p' = (p.returns ∙ sym p'.returns, (p.keeps ∙ sym p'.keeps, p.leaves ∙ sym p'.leaves))

pub receive_finish_once : (κs : Lfts 3) (a : Dens κs finish-kinds.ps) (r r' : ℕ) (x x' : AtExit (ended_of 3 finish-kinds.ps finish-kinds.r) κs)
    → finish-reads.Post κs a r x → finish-reads.Post κs a r' x'
    → (r ≡ r') × ((x.1.0.now ≡ x'.1.0.now) × (x.1.1.1.0.now ≡ x'.1.1.1.0.now))
receive_finish_once κs a r r' x x' p p' = (p.returns ∙ sym p'.returns, (p.keeps ∙ sym p'.keeps, p.answers ∙ sym p'.answers))

-- Two returns, two answer slices and two areas that meet the contract of a call on text, as the check reads it from the source, are the same:
-- each contract gives the return and every lent byte.
use Prim.Native.Nat.{ℕ}
use mathlib.Core.Path.{◌≡◌, sym, ◌∙◌}
use borrow.Fn.Kinds.{Dens, ended_of}
use contract.Lifetimes.{Lfts}
use denote.Triple.Clauses.{AtExit}
use Rattle.simmergate.proofs.text_calls.simmergate_read_text.Reads as read-reads
use Rattle.simmergate.proofs.text_calls.simmergate_read_text.Kinds as read-kinds
use Rattle.simmergate.proofs.text_calls.simmergate_write_text.Reads as write-reads
use Rattle.simmergate.proofs.text_calls.simmergate_write_text.Kinds as write-kinds

pub read_text_once : (κs : Lfts 3) (a : Dens κs read-kinds.ps) (r r' : ℕ) (x x' : AtExit (ended_of 3 read-kinds.ps read-kinds.r) κs)
    → read-reads.Post κs a r x → read-reads.Post κs a r' x' → (r ≡ r') × (x.1.1.1.0.now ≡ x'.1.1.1.0.now) × (x.1.1.0.now ≡ x'.1.1.0.now)
read_text_once κs a r r' x x' p p' = (p.returns ∙ sym p'.returns, p.answers ∙ sym p'.answers, p.leaves ∙ sym p'.leaves)

pub write_text_once : (κs : Lfts 3) (a : Dens κs write-kinds.ps) (r r' : ℕ) (x x' : AtExit (ended_of 3 write-kinds.ps write-kinds.r) κs)
    → write-reads.Post κs a r x → write-reads.Post κs a r' x' → (r ≡ r') × (x.1.1.1.0.now ≡ x'.1.1.1.0.now) × (x.1.1.0.now ≡ x'.1.1.0.now)
write_text_once κs a r r' x x' p p' = (p.returns ∙ sym p'.returns, p.answers ∙ sym p'.answers, p.leaves ∙ sym p'.leaves)

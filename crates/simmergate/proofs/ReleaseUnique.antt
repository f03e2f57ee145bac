-- Two returns that meet the contract of simmergate_release, as the check reads it from the source, are the same.
use Prim.Native.Nat.{ℕ}
use mathlib.Core.Path.{◌≡◌, sym, ◌∙◌}
use borrow.Fn.Kinds.{Dens, ended_of}
use contract.Lifetimes.{Lfts}
use denote.Triple.Clauses.{AtExit}
use Rattle.simmergate.proofs.release_call.simmergate_release.Reads as release-reads
use Rattle.simmergate.proofs.release_call.simmergate_release.Kinds as release-kinds

pub release_once : (κs : Lfts 0) (a : Dens κs release-kinds.ps) (r r' : ℕ) (x x' : AtExit (ended_of 0 release-kinds.ps release-kinds.r) κs)
    → release-reads.Post κs a r x → release-reads.Post κs a r' x' → r ≡ r'
release_once κs a r r' x x' p p' = p ∙ sym p'

-- Two returns, and two answer slices or areas, that meet the contract of a settings call, as the check reads it from the source, are the same:
-- each contract gives the return and every lent byte.
use Prim.Native.Nat.{ℕ}
use mathlib.Core.Path.{◌≡◌, sym, ◌∙◌}
use borrow.Fn.Kinds.{Dens, ended_of}
use contract.Lifetimes.{Lfts}
use denote.Triple.Clauses.{AtExit}
use Rattle.settings.proofs.Unique.{number_and_area}
use Rattle.simmergate.proofs.settings_calls.simmergate_settings_store.Reads as store-reads
use Rattle.simmergate.proofs.settings_calls.simmergate_settings_store.Kinds as store-kinds
use Rattle.simmergate.proofs.settings_calls.simmergate_settings_fetch.Reads as fetch-reads
use Rattle.simmergate.proofs.settings_calls.simmergate_settings_fetch.Kinds as fetch-kinds
use Rattle.simmergate.proofs.settings_calls.simmergate_settings_fetch_1.Reads as fetch-1-reads
use Rattle.simmergate.proofs.settings_calls.simmergate_settings_fetch_1.Kinds as fetch-1-kinds
use Rattle.simmergate.proofs.settings_calls.simmergate_settings_remove.Reads as remove-reads
use Rattle.simmergate.proofs.settings_calls.simmergate_settings_remove.Kinds as remove-kinds

pub settings_store_once : (κs : Lfts 1) (a : Dens κs store-kinds.ps) (r r' : ℕ) (x x' : AtExit (ended_of 1 store-kinds.ps store-kinds.r) κs)
    → store-reads.Post κs a r x → store-reads.Post κs a r' x' → (r ≡ r') × (x.0.now ≡ x'.0.now)
settings_store_once κs a r r' x x' p p' = number_and_area (p ∙ sym p')

pub settings_fetch_once : (κs : Lfts 2) (a : Dens κs fetch-kinds.ps) (r r' : ℕ) (x x' : AtExit (ended_of 2 fetch-kinds.ps fetch-kinds.r) κs)
    → fetch-reads.Post κs a r x → fetch-reads.Post κs a r' x' → (r ≡ r') × (x.1.1.0.now ≡ x'.1.1.0.now)
settings_fetch_once κs a r r' x x' p p' = (p.returns ∙ sym p'.returns, p.answers ∙ sym p'.answers)

pub settings_fetch_1_once : (κs : Lfts 2) (a : Dens κs fetch-1-kinds.ps) (r r' : ℕ)
    (x x' : AtExit (ended_of 2 fetch-1-kinds.ps fetch-1-kinds.r) κs)
    → fetch-1-reads.Post κs a r x → fetch-1-reads.Post κs a r' x' → (r ≡ r') × (x.1.1.0.now ≡ x'.1.1.0.now)
settings_fetch_1_once κs a r r' x x' p p' = (p.returns ∙ sym p'.returns, p.answers ∙ sym p'.answers)

pub settings_remove_once : (κs : Lfts 1) (a : Dens κs remove-kinds.ps) (r r' : ℕ) (x x' : AtExit (ended_of 1 remove-kinds.ps remove-kinds.r) κs)
    → remove-reads.Post κs a r x → remove-reads.Post κs a r' x' → (r ≡ r') × (x.0.now ≡ x'.0.now)
settings_remove_once κs a r r' x x' p p' = number_and_area (p ∙ sym p')

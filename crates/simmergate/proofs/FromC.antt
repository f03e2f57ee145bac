-- A call from C of a function with n lifetimes, parameters of the kinds ps and a return of the kind r: what is handed in, the return, and what
-- the references lead to afterwards, as the contract that the check reads from the source (`said`) lets it be.
use Prim.Native.Nat.{ℕ}
use mathlib.Core.List.{List}
use borrow.Fn.Kinds.{ParamKind, ResultKind, Dens, res_t, ended_of, Out}
use contract.Lifetimes.{Lfts}
use denote.Triple.Clauses.{AtExit}

pub record FromC (n : ℕ) (ps : List (ParamKind n)) (r : ResultKind n) (said : Out n ps r) : Type 0 where
  pub ends : Lfts n
  pub handed : Dens ends ps
  pub returned : (res_t r ends).Denot
  pub left : AtExit (ended_of n ps r) ends
  pub promised : said ends handed returned left

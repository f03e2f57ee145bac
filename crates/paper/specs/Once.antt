-- "For each it is shown that any two answers satisfying the statement coincide." The statement is the contract as the check reads it from
-- the source: what is asked of the arguments, and what is said of the answer and of the parameters at exit.
use Rattle.std.specs.Prelude.{ℕ, ◌≡◌, List}
use borrow.Fn.Kinds.{ParamKind, ResultKind, Dens, res_t, ended_of, In, Out}
use contract.Lifetimes.{Lfts}
use denote.Triple.Clauses.{AtExit}

-- of a function with n lifetimes, parameters of the kinds ps and an answer of the kind r
abbrev pub Once : (n : ℕ) (ps : List (ParamKind n)) (r : ResultKind n) → In n ps → Out n ps r → Type 0
Once n ps r asked said =
    (κs : Lfts n) (a : Dens κs ps) (v v' : (res_t r κs).Denot) (x x' : AtExit (ended_of n ps r) κs)
    → asked κs a → said κs a v x → said κs a v' x' → v ≡ v'

-- of a function that writes: the same answer, and the same of what its areas hold at exit, told by `left`
abbrev pub OnceLeft : (n : ℕ) (ps : List (ParamKind n)) (r : ResultKind n) → In n ps → Out n ps r → (S : Type 0)
    → ((κs : Lfts n) → AtExit (ended_of n ps r) κs → S) → Type 0
OnceLeft n ps r asked said S left =
    (κs : Lfts n) (a : Dens κs ps) (v v' : (res_t r κs).Denot) (x x' : AtExit (ended_of n ps r) κs)
    → asked κs a → said κs a v x → said κs a v' x' → (v ≡ v') × (left κs x ≡ left κs x')

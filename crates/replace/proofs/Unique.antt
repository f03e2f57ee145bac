-- Two answers that meet the contract of `open_records`, as the check reads it from the source, are the same, and so is the area afterwards: the
-- tree that the call asks for is opened to one tree, and that is written. Two plans that meet the contract of `prepare` agree in all but how
-- their arrays find the definitions: each is told of one opening.
use Prim.Native.Nat.{ℕ}
use mathlib.Core.Path.{◌≡◌, sym, ◌∙◌}
use mathlib.Core.List.{List}
use borrow.Fn.Kinds.{Dens, ended_of}
use contract.Lifetimes.{Lfts}
use denote.Triple.Clauses.{AtExit}
use Rattle.paper.specs.Once.{OnceLeft}
use Rattle.std.specs.Prelude.{Result, Ok, Err}
use Rattle.table.specs.declared.refusals.Refusal.{Refusal}
use Rattle.table.proofs.Unique.{refusal_told}
use Rattle.paper_shared.specs.Answers.{Handed, Opening, turned_away, opens, opening}
use Rattle.replace.specs.Planned.{handed, Planned}
use Rattle.replace.specs.declared.Plan.{Plan}
use Rattle.replace.proofs.open_records.Reads as open-reads
use Rattle.replace.proofs.open_records.Kinds as open-kinds
use Rattle.replace.proofs.prepare.Reads as prepare-reads
use Rattle.replace.proofs.prepare.Kinds as prepare-kinds

-- the area at exit
abbrev pub area_left : (κs : Lfts 5) → AtExit (ended_of 5 open-kinds.ps open-kinds.r) κs → List ℕ
area_left κs x = x.1.1.1.1.1.0.now

pub open_records_once : OnceLeft 5 open-kinds.ps open-kinds.r open-reads.Pre open-reads.Post (List ℕ) area_left
open_records_once κs a v v' x x' q p p' =
    let f = p q.0 q.1 q.2 q.3 q.4 in
    let g = p' q.0 q.1 q.2 q.3 q.4 in
    (f.end ∙ sym g.end, f.there ∙ sym g.there)

-- what two answers have in common: both are the same refusal, or both plan the same weight
abbrev pub Agree : Result Plan Refusal → Result Plan Refusal → Type 0
Agree (Ok p) (Ok q) = p.weight ≡ q.weight
Agree (Ok p) (Err r) = ⊥
Agree (Err r) (Ok p) = ⊥
Agree (Err r) (Err q) = r ≡ q

agree : (lim : ℕ) (h : Handed) (o : Opening) (p q : Result Plan Refusal) → Planned lim h o p → Planned lim h o q → Agree p q
agree lim h (turned_away v) (Err r) (Err q) f g = refusal_told r q (f ∙ sym g)
agree lim h (turned_away v) (Err r) (Ok q) f g = g
agree lim h (turned_away v) (Ok p) q f g = absurd f
agree lim h (opens v) (Ok p) (Ok q) f g = f.weighs ∙ sym g.weighs
agree lim h (opens v) (Ok p) (Err q) f g = g
agree lim h (opens v) (Err p) q f g = absurd f

pub prepare_once : (κs : Lfts 4) (a : Dens κs prepare-kinds.ps) (v v' : Result Plan Refusal) (x x' : AtExit (ended_of 4 prepare-kinds.ps prepare-kinds.r) κs)
    → prepare-reads.Post κs a v x → prepare-reads.Post κs a v' x' → Agree v v'
prepare_once κs a v v' x x' p p' =
    let h = handed a.1.0.now a.1.1.0.now a.1.1.1.0.now a.1.1.1.1.0.now in
    agree a.0 h (opening a.0 h) v v' p p'

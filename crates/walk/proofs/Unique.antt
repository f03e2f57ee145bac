-- Two answers of `walk_members` that meet its contract as the check reads it from the source are the same, but for the record that `Done` may
-- name, which is a hint; so is what is pending, done and built. Of the other bytes of `out`, and of the entries, nothing is said.
use Rattle.std.proofs.Common.{◌≡◌, ℕ, ◌*◌, Bool, List, take, drop, sym, ap, ◌∙◌, arith}
use borrow.Fn.Kinds.{Dens, ended_of}
use contract.Lifetimes.{Lfts}
use denote.Triple.Clauses.{AtExit}
use Rattle.paper.specs.Tree.{Tree, Forest, to_list}
use Rattle.walk.specs.Walked.{Standing, Says}
use Rattle.std.proofs.Common.{Option, None, Some, Result, Ok, Err}
use Rattle.number.specs.declared.OutOfRange.{OutOfRange}
use Rattle.walk.specs.declared.Done.{Done}
use Rattle.walk.proofs.walk_members.Reads as reads
use Rattle.walk.proofs.walk_members.Kinds as kinds

-- what is built, where members came out
abbrev BuiltAlike : (o o' : List ℕ) → Result (Option Done) OutOfRange → Type 0
BuiltAlike o o' (Ok None) = Unit {0}
BuiltAlike o o' (Err _) = Unit {0}
BuiltAlike o o' (Ok (Some r)) = take (r.end * 16) o ≡ take (r.end * 16) o'

-- two answers, whatever record is named
abbrev Alike : Result (Option Done) OutOfRange → Result (Option Done) OutOfRange → Type 0
Alike (Ok None) (Ok None) = Unit {0}
Alike (Err _) (Err _) = Unit {0}
Alike (Ok (Some r)) (Ok (Some r')) = (r.count ≡ r'.count) × (r.end ≡ r'.end)
Alike (Ok None) (Err _) = ⊥
Alike (Ok None) (Ok (Some r)) = ⊥
Alike (Err _) (Ok None) = ⊥
Alike (Err _) (Ok (Some r)) = ⊥
Alike (Ok (Some r)) (Ok None) = ⊥
Alike (Ok (Some r)) (Err _) = ⊥

module _ (b : Bool) (l : List Tree) (s o o' : List ℕ) (d : ℕ) where
  says_once : (r r' : Result (Option Done) OutOfRange) → Says b l s o d r → Says b l s o' d r' → Alike r r' × BuiltAlike o o' r
  says_once (Ok None) (Ok None) h h' = (tt, tt)
  says_once (Ok None) (Err _) h h' = let a = h 0 in let c = h' 0 in absurd (let z : ◌≡◌ {A = ℕ} 0 1 = cc in omega arith)
  says_once (Ok None) (Ok (Some r)) h h' = let a = h'.0.applies 0 in let c = h 0 in absurd (let z : ◌≡◌ {A = ℕ} 0 1 = cc in omega arith)
  says_once (Err _) (Ok None) h h' = let a = h 0 in let c = h' 0 in absurd (let z : ◌≡◌ {A = ℕ} 0 1 = cc in omega arith)
  says_once (Err _) (Err _) h h' = (tt, tt)
  says_once (Err _) (Ok (Some r)) h h' = let a = h'.0.applies 0 in let c = h 0 in absurd (let z : ◌≡◌ {A = ℕ} 0 1 = cc in omega arith)
  says_once (Ok (Some r)) (Ok None) h h' = let a = h.0.applies 0 in let c = h' 0 in absurd (let z : ◌≡◌ {A = ℕ} 0 1 = cc in omega arith)
  says_once (Ok (Some r)) (Err _) h h' = let a = h.0.applies 0 in let c = h' 0 in absurd (let z : ◌≡◌ {A = ℕ} 0 1 = cc in omega arith)
  says_once (Ok (Some r)) (Ok (Some r')) h h' =
      let many : r.count ≡ r'.count = sym h.0.many ∙ h'.0.many in
      let end : r.end ≡ r'.end = h.0.end ∙ sym h'.0.end in
      ((many, end), h.0.built ∙ sym h'.0.built ∙ ap (λ k. take (k * 16) o') (sym end))

pub walk_once : (κs : Lfts 2) (a : Dens κs kinds.ps) (f : Forest) (r r' : Result (Option Done) OutOfRange) (x x' : AtExit (ended_of 2 kinds.ps kinds.r) κs)
    → let out = a.0.now in
    let work = a.1.0.now in
    let d = a.1.1.0 in
    let p = a.1.1.1.0 in
    Standing out work d p f → reads.Post κs a r x → reads.Post κs a r' x'
    → (Alike r r' × BuiltAlike x.0.now x'.0.now r)
    × (drop (p * 16) x.1.0.now ≡ drop (p * 16) x'.1.0.now)
    × (take (d * 16) x.0.now ≡ take (d * 16) x'.0.now)
walk_once κs a f r r' x x' h p p' =
    let out = a.0.now in
    let d = a.1.1.0 in
    let terms = a.1.1.1.1.0 in
    let u = p f h in
    let v = p' f h in (
      says_once terms (to_list f) out x.0.now x'.0.now d r r' u.answers v.answers,
      u.pending ∙ sym v.pending,
      u.done ∙ sym v.done,
    )

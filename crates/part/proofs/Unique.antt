-- Two answers of `part_of`, and of `merge`, that meet their contracts as the check reads them from the source, say the same: they show the
-- same part. (A part that stands in several places can be held as any of them.)
use Prim.Native.Nat.{ℕ}
use mathlib.Core.Path.{◌≡◌, sym, ◌∙◌, subst}
use mathlib.Core.Bool.{Bool, false}
use mathlib.Core.List.{List}
use mathlib.Core.Option.{some, some-injective}
use Rattle.std.proofs.Common.{Option, None, Some, Result, Ok, Err}
use native.Mathlib.Omega.{arith}
use borrow.Fn.Kinds.{Dens, ended_of}
use contract.Lifetimes.{Lfts}
use denote.Triple.Clauses.{AtExit}
use Rattle.paper.specs.Tree.{Tree}
use Rattle.paper.proofs.Tests.{true_not_false}
use Rattle.note.specs.Note.{note}
use Rattle.split.specs.Standing.{Told}
use Rattle.part.specs.Like.{Like, split, merge}
use Rattle.part.specs.Part.{Sized, Shows, in_range, MergedIs}
use Rattle.part.specs.declared.Part.{Part}
use Rattle.number.specs.declared.OutOfRange.{OutOfRange}
use Rattle.part.proofs.part_of.Reads as part-reads
use Rattle.part.proofs.part_of.Kinds as part-kinds
use Rattle.part.proofs.merge.Reads as reads
use Rattle.part.proofs.merge.Kinds as kinds

-- both show one part
pub record Alike (b : Bool) (s : List ℕ) (r r' : Part) : Type 0 where
  pub shown : Like b
  pub one : Shows b s r shown
  pub other : Shows b s r' shown

pub part_of_once : (κs : Lfts 1) (a : Dens κs part-kinds.ps) (t : Tree) (r r' : Part) (x x' : AtExit (ended_of 1 part-kinds.ps part-kinds.r) κs)
    → let s = a.0.now in
    let at = a.1.0 in
    let size = a.1.1.0 in
    let terms = a.1.1.1.0 in
    Sized s at size t → part-reads.Post κs a r x → part-reads.Post κs a r' x' → Alike terms s r r'
part_of_once κs a t r r' x x' h p p' = record { shown = split a.1.1.1.0 t; one = p.0 t h; other = p'.0 t h }

-- both say no, or leave the range, or show what the current part becomes
abbrev SayAlike : (b : Bool) → List ℕ → Result (Option Part) OutOfRange → Result (Option Part) OutOfRange → Type 0
SayAlike b s (Ok None) (Ok None) = Unit {0}
SayAlike b s (Ok None) (Ok (Some c)) = ⊥
SayAlike b s (Ok None) (Err _) = ⊥
SayAlike b s (Ok (Some c)) (Ok None) = ⊥
SayAlike b s (Ok (Some c)) (Ok (Some c')) = Alike b s c c'
SayAlike b s (Ok (Some c)) (Err _) = ⊥
SayAlike b s (Err _) (Ok None) = ⊥
SayAlike b s (Err _) (Ok (Some c)) = ⊥
SayAlike b s (Err _) (Err _) = Unit {0}

module _ (b : Bool) (s : List ℕ) (c x : Like b) where
  -- where one answer says that the part takes up the other, the part that it becomes is one
  same_part : (d d' : Like b) → merge b c x ≡ some d → merge b c x ≡ some d' → d ≡ d'
  same_part d d' e e' = some-injective d d' (sym e ∙ e')

  merged_once : (r r' : Result (Option Part) OutOfRange) → MergedIs b s c x r → MergedIs b s c x r' → SayAlike b s r r'
  merged_once (Ok None) (Ok None) h h' = tt
  merged_once (Ok None) (Ok (Some p)) h h' = let e = h'.1 in absurd (let z : ◌≡◌ {A = ℕ} 0 1 = cc in omega arith)
  merged_once (Ok None) (Err _) h h' = let e = h'.1 in absurd (let z : ◌≡◌ {A = ℕ} 0 1 = cc in omega arith)
  merged_once (Ok (Some p)) (Ok None) h h' = let e = h.1 in absurd (let z : ◌≡◌ {A = ℕ} 0 1 = cc in omega arith)
  merged_once (Ok (Some p)) (Ok (Some p')) h h' =
      record { shown = h.0; one = h.2; other = subst (Shows b s p') (sym (same_part h.0 h'.0 h.1 h'.1)) h'.2 }
  merged_once (Ok (Some p)) (Err _) h h' =
      absurd (true_not_false h.3 (subst (λ y. in_range b y ≡ false) (sym (same_part h.0 h'.0 h.1 h'.1)) h'.2))
  merged_once (Err _) (Ok None) h h' = let e = h.1 in absurd (let z : ◌≡◌ {A = ℕ} 0 1 = cc in omega arith)
  merged_once (Err _) (Ok (Some p)) h h' =
      absurd (true_not_false h'.3 (subst (λ y. in_range b y ≡ false) (sym (same_part h'.0 h.0 h'.1 h.1)) h.2))
  merged_once (Err _) (Err _) h h' = tt

pub merge_once : (κs : Lfts 2) (a : Dens κs kinds.ps) (b : Bool) (x : Like b) (t : Tree) (r r' : Result (Option Part) OutOfRange)
    (y y' : AtExit (ended_of 2 kinds.ps kinds.r) κs)
    → let s = a.0.now in
    let c = a.1.0 in
    let at = a.1.1.0 in
    Shows b s c x → Told note s at t → reads.Post κs a r y → reads.Post κs a r' y' → SayAlike b s r r'
merge_once κs a b c t r r' y y' s h p p' = merged_once b a.0.now c (split b t) r r' (p.0 b c t s h) (p'.0 b c t s h)

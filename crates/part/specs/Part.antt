-- A part of a member as the code holds it, and the paper's part that it shows: `Term n i`, the coefficient with the bits n, and the rest
-- and the mark of the member at record i; `Wide i`, the term of the member at record i, whose coefficient is out of range;
-- `Power e i k m`, the exponent e, the base of k records at record i, no integer, and the mark m; `Number e v b m`, the exponent e, the
-- integer base with the bits v and the mark b, which need not stand in a record, and the mark m.
use Rattle.std.specs.Prelude.{ℕ, ◌^◌, ◌<◌, ◌≤◌, ◌≡◌, Bool, true, false, List, Option, None, Some, Result, Ok, Err}
use Rattle.std.proofs.Math.Option.{none, some}
use Rattle.paper.specs.Bytes.{signed}
use Rattle.paper.specs.Tree.{Tree, integer, power, records}
use Rattle.paper.specs.WellFormed.{WF}
use Rattle.paper.specs.Rules.{as_integer, Term, term_of, Factor}
use Rattle.note.specs.Note.{note}
use Rattle.number.specs.declared.OutOfRange.{OutOfRange}
use Rattle.split.specs.Standing.{Told}
use Rattle.part.specs.Like.{Like, merge}
use Rattle.part.specs.declared.Part.{Part}
use Rattle.part.specs.declared.Part.TheVariants as part

-- a tree of k records stands at record i
pub record Sized (s : List ℕ) (i k : ℕ) (t : Tree) : Type 0 where
  pub there : Told note s i t
  pub size : k ≡ records t

pub record ShowsTerm (s : List ℕ) (n i : ℕ) (x : Term) : Type 0 where
  pub member : Tree
  pub there : Told note s i member
  pub mark : x.mark ≡ (term_of member).mark
  pub rest : x.rest ≡ (term_of member).rest
  pub coefficient : x.coefficient ≡ signed n
  pub bits : n < 2 ^ 64
  pub good : x.in_range ≡ true

pub record ShowsWide (s : List ℕ) (i : ℕ) (x : Term) : Type 0 where
  pub member : Tree
  pub there : Told note s i member
  pub rest : x.rest ≡ (term_of member).rest
  pub wide : x.in_range ≡ false

pub record ShowsPower (s : List ℕ) (e i k m : ℕ) (x : Factor) : Type 0 where
  pub mark : x.mark ≡ m
  pub sized : Sized s i k x.base
  pub other : as_integer x.base ≡ none
  pub exponent : x.exponent ≡ e
  pub most : e < 2 ^ 63
  pub good : x.in_range ≡ true
  pub wf : WF (power x.mark x.base x.mark x.exponent)

pub record ShowsNumber (e v b m : ℕ) (x : Factor) : Type 0 where
  pub mark : x.mark ≡ m
  pub base : x.base ≡ integer b (signed v)
  pub bits : v < 2 ^ 64
  pub exponent : x.exponent ≡ e
  pub most : e < 2 ^ 63
  pub good : x.in_range ≡ true
  pub wf : WF (power x.mark x.base x.mark x.exponent)

-- every part that the code holds is in range so far, but for the term of a member whose own coefficient is not
abbrev pub Shows : (b : Bool) → List ℕ → Part → Like b → Type 0
Shows true s (part.Term n i) x = ShowsTerm s n i x
Shows true s (part.Wide i) x = ShowsWide s i x
Shows true s (part.Power e i k m) x = ⊥
Shows true s (part.Number e v c m) x = ⊥
Shows false s (part.Term n i) x = ⊥
Shows false s (part.Wide i) x = ⊥
Shows false s (part.Power e i k m) x = ShowsPower s e i k m x
Shows false s (part.Number e v c m) x = ShowsNumber e v c m x

-- what the part shows stands from record p on, if it stands in a record
abbrev pub From : ℕ → Part → Type 0
From p (part.Term n i) = p ≤ i
From p (part.Wide i) = p ≤ i
From p (part.Power e i k m) = p ≤ i
From p (part.Number e v c m) = Unit {0}

abbrev pub IntoFrom : ℕ → Result (Option Part) OutOfRange → Type 0
IntoFrom p (Ok None) = Unit {0}
IntoFrom p (Ok (Some c)) = From p c
IntoFrom p (Err _) = Unit {0}

-- whether all partial results of a part were in range
abbrev pub in_range : (b : Bool) → Like b → Bool
in_range true c = c.in_range
in_range false c = c.in_range

-- the answer to "does the current part c take up the later part x": `None`, no; `Some p`, it does, in range, and p shows what it
-- becomes; `Err`, it does, and leaves the range
abbrev pub MergedIs : (b : Bool) → List ℕ → Like b → Like b → Result (Option Part) OutOfRange → Type 0
MergedIs b s c x (Ok None) = merge b c x ≡ none
MergedIs b s c x (Ok (Some p)) = (d : Like b) × (merge b c x ≡ some d) × Shows b s p d × (in_range b d ≡ true)
MergedIs b s c x (Err _) = (d : Like b) × (merge b c x ≡ some d) × (in_range b d ≡ false)

-- a part and a later member, and room for the ticks of a comparison
pub record Mergeable (s : List ℕ) (p : Part) (at room : ℕ) : Type 0 where
  pub flag : Bool
  pub current : Like flag
  pub later : Tree
  pub shown : Shows flag s p current
  pub there : Told note s at later
  pub enough : records later ≤ room

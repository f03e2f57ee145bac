-- At the head of the outer loop the state is one of the walk's between two turns, at the head of the inner one it is one within a turn; no merge left
-- the range so far, and where it is told which members are alone with their keys, they still are.
use Rattle.std.proofs.Common.{◌≡◌, ℕ, ◌-◌, ◌≤◌, Bool, true, false, List, length}
use Rattle.paper.specs.Tree.{Tree}
use Rattle.part.specs.declared.Part.{Part}
use Rattle.walk.specs.Numbers.{Lonely}
use Rattle.walk.specs.Walked.{Walkable}
use Rattle.walk.proofs.Steps.{Outer, Inner}
use Rattle.walk.proofs.walk.Given as goal

-- between two turns
pub record OuterInv (out₀ work₀ : List ℕ) (d p count : ℕ) (terms told : Bool) (out work : List ℕ) (n i e : ℕ) (late over : Bool) (new f : ℕ)
    : Type 0 where
  pub long : length out ≡ length out₀
  pub wide : length work ≡ length work₀
  pub few : n ≤ count
  pub calm : over ≡ false
  pub lonely : told ≡ true → Lonely terms work p n
  pub few_new : new ≤ i
  pub state : (l : List Tree) → Walkable terms out₀ work₀ d p count l → Outer terms l out₀ work₀ d p count out work n i e late new f

abbrev pub invariant-walk : goal.invariant-walk
invariant-walk l =
    OuterInv l.fn.out l.fn.work l.d l.p l.count l.terms l.told l.out l.work l.n l.i l.e l.late l.over l.new l.f

-- the members of the list that had no turn
abbrev pub decreases-walk : goal.decreases-walk
decreases-walk l = l.count - l.i

-- within a turn
pub record InnerInv (out₀ work₀ : List ℕ) (d p count : ℕ) (terms told : Bool) (out work : List ℕ) (n i e : ℕ) (late over : Bool) (new f : ℕ)
    (c : Part) (key had j : ℕ) : Type 0 where
  pub long : length out ≡ length out₀
  pub wide : length work ≡ length work₀
  pub few : n ≤ had
  pub calm : over ≡ false
  pub lonely : told ≡ true → Lonely terms work p n
  pub state : (l : List Tree) → Walkable terms out₀ work₀ d p count l
      → Inner terms l out₀ work₀ d p count out work n i e late new f c key had j

abbrev pub invariant-loop-j : goal.invariant-loop-j
invariant-loop-j l =
    InnerInv l.fn.out l.fn.work l.d l.p l.count l.terms l.told l.out l.work l.n l.i l.e l.late l.over l.new l.f l.c l.key l.had l.j

-- the members that the current one has still to meet
abbrev pub decreases-loop-j : goal.decreases-loop-j
decreases-loop-j l = l.n - l.j

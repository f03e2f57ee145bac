-- A level of the driver: the member that is next is driven as a node of its own; where a rule leaves the range there, it does so in the tree; else the
-- driver goes on from the member's result, after more tries.
use Prim.Native.Nat.{ℕ, ◌<◌, ◌≤◌}
use mathlib.Core.Path.{◌≡◌, refl}
use mathlib.Core.List.{List, ◌++◌}
use native.Mathlib.Omega.{arith}
use lib.ListN.{length}
use Rattle.std.specs.Prelude.{Some}
use Rattle.paper.specs.Tree.{Tree}
use Rattle.driver.specs.declared.Stand.{Stand}
use Rattle.driver.specs.Driven.{encode_all}
use Rattle.driver.specs.Paused.{entered, returned, Call, call, Called, Fell, Reached, Midway, GoesOn, WentOn}
use Rattle.driver.proofs.Runs.{drives_tried}
use Rattle.driver.proofs.Membering.{First}
use Rattle.driver.proofs.Between.{next_of, next_called, next_fell}

-- driven from o, w and z, where it stood at s₀, on whatever tree is set up there, the driver waits for a member or is at its end
pub record Level (o w z : List ℕ) (s₀ : Stand) (out work steps : List ℕ) (s : Stand) : Type 0 where
  pub on : (t : Tree) (rest : List ℕ) → Called (call o w z s₀ t rest) → WentOn (call o w z s₀ t rest) out work steps s
  pub out_long : length out ≡ length o
  pub work_long : length work ≡ length w
  pub steps_long : length steps ≡ length z

module _ {c : Call} {out work steps : List ℕ} {s : Stand} (v : Midway c out work steps s) (l : 1 ≤ s.left) where
  abbrev pub next : First v.gathering.r
  next = next_of v l

  -- the call on the member that is next
  abbrev pub member : Call
  member = call out work steps (entered s) next.x (encode_all next.xs ++ c.rest)

  pub member_called : Called member
  member_called = next_called v next.is

  pub member_fell : (n : ℕ) → Fell member n → Fell c n
  member_fell n h = next_fell v next.is n h

  module _ {out' work' steps' : List ℕ} {s' : Stand} {g : ℕ} (m : Reached member out' work' steps' s' g) where
    pub goes_on : length out' ≡ length out → length work' ≡ length work → length steps' ≡ length steps
        → GoesOn c out' work' steps' (returned s' s.node s.left s.gathered s.prior) (Some g)
    goes_on lo lw lz =
        record {
          out₁ = out;
          work₁ = work;
          steps₁ = steps;
          s₁ = s;
          s₂ = s';
          midway = v;
          x = next.x;
          later = next.xs;
          next_is = next.is;
          member = m;
          out_long = lo;
          work_long = lw;
          steps_long = lz;
          back = refl;
        }

    pub more_tries : s.tries < s'.tries
    more_tries =
        let some = drives_tried _ next.x member_called.set.ready.wf _ _ _ _ m.drove.ran in
        omega (arith, m.tries_are)

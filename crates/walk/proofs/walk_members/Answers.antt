-- The members are listed, and there is room to walk over the list; listing them leaves what is pending as it was.
use Rattle.std.proofs.Common.{◌≡◌, ℕ, Bool, List, sym, ap, ◌∙◌, subst, arith}
use Rattle.paper.specs.Record.{count_in}
use Rattle.paper.specs.Tree.{Forest, to_list, weights}
use Rattle.paper.proofs.WFLaws.{of_to_list}
use Rattle.walk.specs.Listed.{Listed, ListedIs}
use Rattle.walk.specs.Walked.{Standing, Walkable}
use Rattle.walk.proofs.walk_members.Goals as goal

walkable : {b : Bool} {o w w₁ : List ℕ} {d p : ℕ} {f : Forest} → Standing o w d p f → ListedIs b w w₁ p f → (n : ℕ) → n ≡ count_in w p
    → Walkable b o w₁ d p n (to_list f)
walkable {b} {o} {w} {w₁} {d} {p} {f} h k n e =
    record {
      listed = subst (λ n. Listed b w₁ p n (to_list f)) (sym e) k.listed;
      room = omega (arith, h.room, ap weights (of_to_list f));
      light = omega (arith, h.listable.light, ap weights (of_to_list f));
    }

pub walk-requires : goal.walk-requires
walk-requires c = let h = c.requires.1 in (_, walkable h (c.list_members.ensures _ h.listable) _ c.count-n.ensures.0)

pub returns : goal.returns
returns c = λ f h.
    let k = c.list_members.ensures _ h.listable in
    let v = c.walk.ensures (to_list f) (walkable h k _ c.count-n.ensures.0) in
    record { answers = v.answers; pending = v.pending ∙ k.pending; done = v.done }

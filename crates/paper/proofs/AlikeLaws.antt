-- A simplifier that gives on every table of bytes what another gives meets the demands, at each limit and in each edition, and takes over if the other
-- does: nothing is said of it that is not said of its calls.
use Prim.Native.Nat.{ℕ}
use mathlib.Core.Path.{◌≡◌, sym, subst}
use mathlib.Core.List.{List}
use Rattle.paper.specs.Bytes.{Bytes}
use Rattle.paper.specs.Answers.{Lent, simplified}
use Rattle.paper.specs.Demands.{Simplifier, Demands, result}
use Rattle.paper.specs.Takeover.{TakesOver, TakesOverInPlace}
use Rattle.paper.proofs.EncodeLaws.{encode_bytes}
use Rattle.paper.proofs.DemandLaws.{call_done, simplified_meets}
use Rattle.paper.proofs.Takeover.{takeover, takeover_in_place}

module _ (lim ed : ℕ) (f : Simplifier) (alike : (s : List ℕ) → Bytes s → (l : Lent) → f s l ≡ simplified lim ed s l) where
  pub alike_meets : Demands lim ed f
  alike_meets =
      let d = simplified_meets lim ed in
      record {
        refuses = λ s b l v h g. rw (alike s b l) (d.refuses s b l v h g);
        leaves_alone = λ s b l v h g e. rw (alike s b l) (d.leaves_alone s b l v h g (rw (alike s b l) at e));
        clears = λ s b l p e. rw (alike s b l) (d.clears s b l p (rw (alike s b l) at e));
        runs_over = λ s b l p. rw (alike s b l) (d.runs_over s b l p);
        follows = λ s b l j t u ks o n r e. rw (alike s b l) (d.follows s b l j t u ks o n r e);
        lightens = λ s b l n t r. rw (alike s b l) (d.lightens s b l (rw (alike s b l) at n) t r);
        bounded = λ s b l n t r. rw (alike s b l) (d.bounded s b l (rw (alike s b l) at n) t r);
        finishes = λ s b l n t r. rw (alike s b l) (d.finishes s b l (rw (alike s b l) at n) t r);
        keeps_value = λ s b l n t r. rw (alike s b l) (d.keeps_value s b l (rw (alike s b l) at n) t r);
      }

  -- the result of an accepted call is bytes
  result_bytes : (s : List ℕ) → Bytes s → (l : Lent) → (simplified lim ed s l).answer.number ≡ 0 → Bytes (result (simplified lim ed s l))
  result_bytes s b l n = let d = call_done lim ed s b l n in subst Bytes (sym d.written_bytes) (encode_bytes d.tree_out)

  pub alike_takes_over : TakesOver lim f
  alike_takes_over s b l n l' room =
      let m = rw (alike s b l) at n in
      rw (alike s b l, alike (result (simplified lim ed s l)) (result_bytes s b l m) l') (takeover lim ed s b l m l' (rw (alike s b l) at room))

  pub alike_takes_over_in_place : TakesOverInPlace lim f
  alike_takes_over_in_place s b l n =
      let m = rw (alike s b l) at n in
      rw (alike s b l, alike (result (simplified lim ed s l)) (result_bytes s b l m) (simplified lim ed s l).lent) (takeover_in_place lim ed s b l m)

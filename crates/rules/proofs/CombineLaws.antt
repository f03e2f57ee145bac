-- Steps 2 and 6 at a node: there is room to walk over its members, and what came out of the walk is what is put back before all that followed
-- the node.
use Prim.Native.Nat.{ℕ, ◌+◌, ◌*◌, ◌≤◌}
use mathlib.Core.Path.{◌≡◌, sym, ap, ◌∙◌}
use mathlib.Core.Bool.{Bool}
use mathlib.Core.List.{List}
use native.Mathlib.Omega.{arith}
use lib.ListN.{length, take, drop}
use lib.Seq.{length-take-le, drop-drop, drop_at}
use Rattle.paper.specs.Tree.{Forest, to_list, of_list, weights, recordses}
use Rattle.paper.specs.Record.{count_in}
use Rattle.paper.proofs.EncodeLaws.{recordses_weights, count_records}
use Rattle.note.proofs.NotedLaws.{encodes_by_length}
use Rattle.paper.proofs.WFLaws.{of_to_list}
use Rattle.note.specs.Note.{note}
use Rattle.note.specs.Noted.{encodes_by}
use Rattle.walk.specs.Walked.{Standing, came_out, CameOut}
use Rattle.walk.proofs.EntryLaws.{later_same}
use Rattle.rules.specs.Tried.{Held, Built}
use Rattle.rules.proofs.Nodes.{members_in_lem}
use Rattle.rules.proofs.Dropping.{held_members, held_length}

module _ {o w : List ℕ} {d p : ℕ} {f : Forest} {rest : List ℕ} (h : Held o w d p f rest) where
  -- the table of entries lies before the node
  pub held_low : count_in w p * 4 ≤ p * 16
  held_low =
      let long = held_length h in
      omega (arith, h.light, h.counted, h.work_room, count_records f, recordses_weights f)

  pub standing : Standing o w d p f
  standing =
      let long = held_length h in
      record {
        listable = record { stand = members_in_lem w p f (held_members h); light = omega (arith, h.light); low = held_low; within = omega arith };
        room = omega (arith, h.out_room);
      }

  pub held_after : drop ((p + 1 + recordses f) * 16) w ≡ rest
  held_after =
      let m = recordses f * 16 in
      let places : (p + 1 + recordses f) * 16 ≡ (p + 1) * 16 + m = omega arith in
      ap (λ k. drop k w) places
      ∙ sym (drop-drop m ((p + 1) * 16) w)
      ∙ ap (drop m) h.stand
      ∙ drop_at (encodes_by note f) rest m (encodes_by_length note f ∙ omega arith)

  -- the node ends before record `end`
  module _ {end : ℕ} (k : end ≡ p + 1 + recordses f) where
    -- what stands after the node stays
    pub after_walk : (w₂ : List ℕ) → drop (p * 16) w₂ ≡ drop (p * 16) w → drop (end * 16) w₂ ≡ rest
    after_walk w₂ s = later_same w w₂ p s end (omega (arith, k)) ∙ ap (λ n. drop (n * 16) w) k ∙ held_after

    module _ {b : Bool} {o₂ : List ℕ} {n e : ℕ} (c : CameOut b (to_list f) o o₂ d n e) where
      same : weights (of_list (to_list f)) ≡ weights f
      same = ap weights (of_to_list f)

      pub came_built : length o₂ ≡ length o → Built o₂ d e (came_out b (to_list f))
      came_built l =
          record {
            front = take ((d + 1) * 16) o;
            free = length-take-le ((d + 1) * 16) o (omega (arith, h.out_room));
            built = c.built;
            end = c.end;
            within = omega (arith, c.small, same, h.out_room);
          }

      -- it is short enough to end where the node ended
      pub came_short : e ≤ d + end
      came_short =
          let long = held_length h in
          omega (arith, c.small, same, h.work_room, k)

    pub end_within : end * 16 ≤ length w
    end_within = let long = held_length h in omega (arith, k)

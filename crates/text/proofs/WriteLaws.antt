-- The writer's answer, case by case: refused by 1 to 5, by 6, or the text of the table's tree at the front of the area.
use Prim.Native.Nat.{ℕ, ◌+◌, ◌<◌, ◌≤◌}
use mathlib.Core.Path.{◌≡◌, ap, ◌∙◌}
use mathlib.Core.List.{List, ◌++◌}
use native.Mathlib.Omega.{arith}
use borrow.Author.Tests.{lt-ltb, le-ltb}
use lib.ListN.{length, drop}
use Rattle.paper_text.specs.Text.{text}
use Rattle.paper.specs.Record.{Flaw, sound}
use Rattle.paper.specs.Verdict.{accepted, is_accepted, verdict, records_in}
use Rattle.paper.specs.Answers.{Measured, measured}
use Rattle.paper_text.specs.Answers.{Filled, area_after, room_for, text_in, write_verdict, write_answer, write_given}
use Rattle.paper.specs.Standing.{SomeTree}
use Rattle.paper.proofs.AcceptedLaws.{Holds, holds_tree}
use Rattle.paper.proofs.LimitLaws.{limit_small}
use Rattle.paper.proofs.EncodeLaws.{encode_length, records_weight}
use Rattle.stretch.specs.Put.{put}
use Rattle.spell.specs.Spelt.{Roomy}
use Rattle.std.specs.Prelude.{Err}
use Rattle.table.specs.declared.refusals.Refusal.{Refusal}
use Rattle.table.specs.Refusals.{verdict_of}
use Rattle.table.proofs.RefusalLaws.{not_accepted}
use Rattle.text.specs.Gives.{gives}

-- what is put at place 0 stands at the front
pub front : (d p : List ℕ) → put d 0 p ≡ p ++ drop (length p) d
unfolding put
front d p = let n : 0 + length p ≡ length p = omega arith in ap (λ k. p ++ drop k d) n

abbrev pub wrote : ℕ → ℕ → Flaw → ℕ → List ℕ → Filled Measured
wrote k p f n area = record { answer = record { number = k; place = p; flaw = f; result = n }; area = area }

pub refused_table : (lim : ℕ) (s area : List ℕ) (r : Refusal) → verdict_of r ≡ verdict lim s → gives (Err r) area ≡ write_given lim s area
unfolding write_given write_answer write_verdict measured area_after
refused_table lim s area r e = rw (← e, not_accepted r, not_accepted r)

module _ (lim : ℕ) (s area : List ℕ) (h : Holds lim s) (e : verdict lim s ≡ accepted) where
  pub no_room_lem : length area < length (text h.tree) → wrote 6 0 sound 0 area ≡ write_given lim s area
  unfolding write_given write_answer write_verdict measured area_after is_accepted room_for text_in
  no_room_lem l = rw (e, h.read, lt-ltb (length area) (length (text h.tree)) l)

  pub text_written : (n : ℕ) (area' : List ℕ) → n ≡ length (text h.tree) → length (text h.tree) ≤ length area
      → area' ≡ put area 0 (text h.tree) → wrote 0 0 sound n area' ≡ write_given lim s area
  unfolding write_given write_answer write_verdict measured area_after is_accepted room_for text_in
  text_written n area' q l w = rw (e, h.read, le-ltb (length area) (length (text h.tree)) l, q, w ∙ front area (text h.tree))

-- the tree of an accepted table stands at record 0, with room for places
pub tree_there : (lim : ℕ) (s : List ℕ) → Holds lim s → SomeTree s 0
tree_there lim s h = record { tree = h.tree; there = holds_tree lim s h }

pub roomy : (lim : ℕ) (s : List ℕ) → Holds lim s → Roomy s 0 0
unfolding records_in
roomy lim s h =
    let l = ap length h.written in
    let k = encode_length h.tree in
    let w = records_weight h.tree in
    let m = h.light in
    let n = limit_small lim h.known in
    record { fits = omega (arith, l, k, w, m, n) }

-- A result that comes over the link: it is no longer than the limit's tables, so all of it is kept, whatever the pieces, and what is held is the
-- result. The checker accepts a result, and simplifying it is paper's takeover.
use Prim.Native.Nat.{ℕ, ◌≤◌, min}
use mathlib.Core.Path.{◌≡◌, refl, sym, ap, ap₂, ◌∙◌, subst}
use mathlib.Core.Bool.{true}
use mathlib.Core.List.{List, ◌++◌}
use native.Mathlib.Omega.{arith}
use lib.ListN.{length, take, drop}
use lib.Seq.{take_all, take_at}
use Rattle.paper.specs.Limits.{is_limit, max_bytes}
use Rattle.paper.specs.Tree.{weight}
use Rattle.paper.specs.Table.{encode}
use Rattle.paper.specs.Verdict.{verdict}
use Rattle.paper.specs.Answers.{simplified}
use Rattle.paper.specs.Demands.{result}
use Rattle.paper.specs.Takeover.{Repeats}
use Rattle.paper.proofs.EncodeLaws.{encode_length, records_weight}
use Rattle.paper.proofs.TableLaws.{written_accepted}
use Rattle.paper.proofs.DemandLaws.{call_done}
use Rattle.paper.proofs.Takeover.{takeover}
use Rattle.paper_receiver.specs.Receiver.{Held, fresh, received_all, whole}
use Rattle.paper_receiver.proofs.ReceiverLaws.{answer_whole, bytes_whole, record_whole}
use Rattle.paper_takeover.specs.TakenOver.{held_bytes, LinkTakesOver}

-- what is held of a whole that the limit's area has room for
module _ (lim : ℕ) (known : is_limit lim ≡ true) (area : List ℕ) (room : max_bytes lim ≤ length area) (ps : List (List ℕ))
    (short : length (whole ps) ≤ max_bytes lim) where
  abbrev x : Held
  x = received_all lim (fresh area) ps

  all : min (length (whole ps)) (max_bytes lim) ≡ length (whole ps)
  all = omega (arith, short)

  pub area_whole : (received_all lim (fresh area) ps).area ≡ whole ps ++ drop (length (whole ps)) area
  area_whole =
      bytes_whole lim area ps known room ∙ ap₂ (λ (p : List ℕ) (n : ℕ). p ++ drop n area) (take_all (max_bytes lim) (whole ps) short) all

  pub held_whole : held_bytes (received_all lim (fresh area) ps) ≡ whole ps
  unfolding held_bytes
  held_whole =
      let count-is : x.state.count ≡ length (whole ps) = ap (λ r. r.count) (record_whole lim area ps known room) ∙ all in
      ap₂ (λ (n : ℕ) (p : List ℕ). take n p) count-is area_whole ∙ take_at (whole ps) (drop (length (whole ps)) area) (length (whole ps)) refl

pub link_takes_over : (lim ed : ℕ) → LinkTakesOver lim ed
link_takes_over lim ed s b l e area room ps q l' roomy =
    let d = call_done lim ed s b l e in
    let u = d.tree_out in
    let known = d.holds.known in
    let light : weight u ≤ lim = omega (arith, d.finished.lightens, d.holds.light) in
    let short : length (whole ps) ≤ max_bytes lim =
    let n : length (whole ps) ≡ length (encode u) = ap length (q ∙ d.written_bytes) in omega (arith, n, encode_length u, records_weight u, light) in
    let held : held_bytes (received_all lim (fresh area) ps) ≡ result (simplified lim ed s l) = held_whole lim known area room ps short ∙ q in
    record {
      accepts = answer_whole lim area ps room ∙ ap (verdict lim) (q ∙ d.written_bytes) ∙ written_accepted lim known u d.finished.result_wf light;
      same_table = held;
      repeats = subst (λ (p : List ℕ). Repeats (simplified lim ed s l) (simplified lim ed p l')) (sym held) (takeover lim ed s b l e l' roomy);
    }

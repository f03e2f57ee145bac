-- A whole site at once gives what separate calls would give. The paper's simplifier is orderly, so the laws of separate items hold of it; `work`
-- is cleared by the first item that runs, and stays so. Each item is a call of the simplifier, so it meets the demands.
use Prim.Native.Nat.{ℕ, zero, suc, ◌*◌, ◌≤◌, ◌<◌}
use mathlib.Core.Path.{◌≡◌, refl, sym, ap, ◌∙◌}
use mathlib.Core.Bool.{Bool, true, false, cond, ◌||◌}
use mathlib.Core.List.{List, [], ◌∷◌}
use mathlib.Core.Option.{some}
use native.Mathlib.Omega.{arith}
use lib.ListN.{length, take, drop}
use lib.Seq.{take-take}
use Rattle.paper.specs.Limits.{work_bytes}
use Rattle.paper.specs.Bytes.{Bytes, stretch}
use Rattle.paper.specs.Tree.{Tree, weight, records}
use Rattle.paper.specs.Table.{tree_of}
use Rattle.paper.specs.Driver.{done}
use Rattle.paper.specs.Answers.{Lent, Answer, ran_answer, simplified}
use Rattle.paper.specs.Demands.{result}
use Rattle.paper.proofs.BytesLaws.{take_bytes, drop_bytes}
use Rattle.paper.proofs.EncodeLaws.{encode_length}
use Rattle.paper.proofs.DemandLaws.{call_done}
use Rattle.paper.proofs.Squared.{simplified_squared}
use Rattle.paper_batch.specs.Batch.{has_run, used_up, remaining, in_front, handed_on, in_turn}
use Rattle.paper_batch.specs.Sentences.{item, used_before, Separate, Demanded, any_ran}
use Rattle.paper_batch.proofs.Orderly.{simplified_orderly, uses_run, work_turn, cleared_again}
use Rattle.paper_batch.proofs.SeparateLaws.{separate, past_out, past_notes}

pub item_bytes : (ns s : List ℕ) → Bytes s → (i : ℕ) → Bytes (item ns s i)
unfolding item
item_bytes [] s b i = tt
item_bytes (n ∷ ns) s b zero = take_bytes n s b
item_bytes (n ∷ ns) s b (suc i) = item_bytes ns (drop n s) (drop_bytes n s b) i

module _ (lim ed : ℕ) where
  -- "Every answer must be what separate calls would give, where each item is handed what remains of `out` and `steps`"
  pub each_separate : (ns s : List ℕ) → Bytes s → (l : Lent) (i : ℕ) → i < length ns → Separate (simplified lim ed) ns s l i
  each_separate = separate (simplified lim ed) (simplified_orderly lim ed)

  -- bytes of `out` and `steps` past what the items used up are as they were
  pub past_the_site_kept : (ns s : List ℕ) → Bytes s → (l : Lent) → let w = used_before (simplified lim ed) ns s l (length ns) in
      (drop (16 * w) (in_turn (simplified lim ed) ns s l).lent.out ≡ drop (16 * w) l.out)
      × (drop w (in_turn (simplified lim ed) ns s l).lent.steps ≡ drop w l.steps)
  past_the_site_kept ns s b l =
      (past_out (simplified lim ed) (simplified_orderly lim ed) ns s b l, past_notes (simplified lim ed) (simplified_orderly lim ed) ns s b l)

  -- `work`, which is lent whole to each: zeros in front if any item ran, else as it was
  pub work_after_lem : (ns s : List ℕ) → Bytes s → (l : Lent)
      → (in_turn (simplified lim ed) ns s l).lent.work
      ≡ cond (any_ran (in_turn (simplified lim ed) ns s l).answers) (stretch (work_bytes lim) [] l.work) l.work
  unfolding in_turn any_ran in_front handed_on remaining
  work_after_lem [] s b l = refl
  work_after_lem (n ∷ ns) s b l =
      let g = simplified lim ed (take n s) l in
      let r = in_turn (simplified lim ed) ns (drop n s) (handed_on (simplified lim ed) n s l) in
      go (has_run g.answer) (any_ran r.answers) g.lent.work r.lent.work (work_turn lim ed (take n s) (take_bytes n s b) l)
      (work_after_lem ns (drop n s) (drop_bytes n s b) (handed_on (simplified lim ed) n s l))
    where
      go : (p q : Bool) (x y : List ℕ) → x ≡ cond p (stretch (work_bytes lim) [] l.work) l.work → y ≡ cond q (stretch (work_bytes lim) [] x) x
          → y ≡ cond (p || q) (stretch (work_bytes lim) [] l.work) l.work
      go true true x y e f = f ∙ ap (stretch (work_bytes lim) []) e ∙ cleared_again (work_bytes lim) l.work
      go true false x y e f = f ∙ e
      go false true x y e f = f ∙ ap (stretch (work_bytes lim) []) e
      go false false x y e f = f ∙ e

  -- each accepted item of the site meets demand 3: it is a call of the simplifier, and its result is within what it used up
  pub each_demanded : (ns s : List ℕ) (b : Bytes s) (l : Lent) (i : ℕ) (h : i < length ns) → let own = each_separate ns s b l i h in
      let a = (simplified lim ed (item ns s i) own.own).answer in
      a.number ≡ 0 → Demanded ed (item ns s i) (in_turn (simplified lim ed) ns s l).lent.out own.before a
  unfolding ran_answer result
  each_demanded ns s b l i h e =
      let own = each_separate ns s b l i h in
      let t = item ns s i in
      let g = simplified lim ed t own.own in
      let d = call_done lim ed t (item_bytes ns s b i) own.own e in
      let f = d.finished in
      let a = d.answer in
      let records : g.answer.records_written ≡ records d.tree_out = ap (λ (x : Answer). x.records_written) a in
      let uses : own.used ≡ weight d.holds.tree =
      own.uses ∙ ap (used_up t) a ∙ uses_run t (weight d.holds.tree) (done d.tree_out d.steps d.opened d.tries) ∙ d.holds.weighs in
      let short : 16 * g.answer.records_written ≤ 16 * own.used = omega (arith, records, uses, f.out_suffices, encode_length d.tree_out) in
      record {
        tree = d.holds.tree;
        holds = d.holds.read;
        shortened = d.tree_out;
        result =
            ap tree_of
            (sym (take-take (16 * g.answer.records_written) (16 * own.used) _ short)
            ∙ ap (take (16 * g.answer.records_written)) own.out
            ∙ take-take (16 * g.answer.records_written) (16 * own.used) g.lent.out short)
            ∙ d.read_back;
        lightens = omega (arith, f.lightens, ap (λ (x : Answer). x.steps_taken) a, ap (λ (x : Answer). x.openings) a);
        bounded = rw (ap (λ (x : Answer). x.tries) a) f.bounded;
        finishes = f.admits_none;
        keeps_value = f.keeps_value;
      }

  -- and, more than was asked, takes at most the square of its weight in tries
  pub each_squared : (ns s : List ℕ) (b : Bytes s) (l : Lent) (i : ℕ) (h : i < length ns) → let own = each_separate ns s b l i h in
      let a = (simplified lim ed (item ns s i) own.own).answer in
      a.number ≡ 0 → (t : Tree) → tree_of (item ns s i) ≡ some t → a.tries ≤ weight t * weight t
  each_squared ns s b l i h e t p = (simplified_squared lim ed (item ns s i) (item_bytes ns s b i) (each_separate ns s b l i h).own e t p).2

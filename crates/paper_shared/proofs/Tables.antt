-- Definitions that no refusal met are trees: each is an accepted table, and holds a well-formed tree. So what is opened is well-formed.
use Prim.Native.Nat.{ℕ, zero, suc, ◌+◌, ◌≤◌, ◌<◌}
use mathlib.Core.Path.{◌≡◌, sym, subst}
use mathlib.Core.Bool.{Bool, true, false, cond}
use mathlib.Core.List.{List}
use mathlib.Core.Option.{some}
use native.Mathlib.Omega.{arith}
use lib.ListN.{length, get_or, drop}
use lib.Dec.{eqb}
use Rattle.paper.specs.Limits.{is_limit}
use Rattle.paper.specs.Bytes.{Bytes}
use Rattle.paper.specs.Tree.{Tree, weight}
use Rattle.paper.specs.WellFormed.{WF}
use Rattle.paper.specs.Table.{encode}
use Rattle.paper.specs.Verdict.{accepted, is_accepted, verdict}
use Rattle.paper.proofs.BytesLaws.{take_bytes, drop_bytes}
use Rattle.paper.proofs.AcceptedLaws.{Holds, accepted_holds}
use Rattle.paper.proofs.CallLaws.{verdict_accepted}
use Rattle.paper.proofs.Refusals.{accepted_exactly, of_known}
use Rattle.paper_shared.specs.Shared.{defined, Tells}
use Rattle.paper_shared.specs.Answers.{Handed, length_at, beginning, table_at, misses, any_refused}
use Rattle.paper_shared.specs.Answers.{or_nought, tree_in, definitions_from, definitions_of, opened_of}
use Rattle.paper_shared.proofs.OpenedLaws.{AllWF, told_of, opened_wf}
use Rattle.paper_shared.proofs.Words.{all_none}

-- the tree of an accepted table
pub tree_held : (lim : ℕ) (s : List ℕ) (h : Holds lim s) → tree_in s ≡ h.tree
unfolding tree_in or_nought
tree_held lim s h = rw h.read

pub record Whole (lim : ℕ) (s : List ℕ) : Type 0 where
  pub wf : WF (tree_in s)
  pub light : weight (tree_in s) ≤ lim
  pub written : s ≡ encode (tree_in s)

pub whole : (lim : ℕ) (s : List ℕ) → Bytes s → verdict lim s ≡ accepted → Whole lim s
whole lim s b v =
    let h = accepted_holds lim s b v in
    let e = tree_held lim s h in
    record {
      wf = subst (λ (t : Tree). WF t) (sym e) h.wf;
      light = subst (λ (t : Tree). weight t ≤ lim) (sym e) h.light;
      written = subst (λ (t : Tree). s ≡ encode t) (sym e) h.written;
    }

-- the lengths fit, and every definition is accepted
pub record Sound (lim : ℕ) (h : Handed) : Type 0 where
  pub known : is_limit lim ≡ true
  pub bytes : Bytes h.definitions
  pub met : misses h.symbols h.lengths h.definitions ≡ false
  pub fine : any_refused lim h.lengths h.definitions 0 (length h.symbols) ≡ false

module _ (lim : ℕ) (h : Handed) (k : Sound lim h) where
  table_bytes : (i : ℕ) → Bytes (table_at h.lengths h.definitions i)
  unfolding table_at
  table_bytes i =
      take_bytes (length_at h.lengths i) (drop (beginning h.lengths i) h.definitions)
      (drop_bytes (beginning h.lengths i) h.definitions k.bytes)

  pub table_fine : (i : ℕ) → i < length h.symbols → verdict lim (table_at h.lengths h.definitions i) ≡ accepted
  table_fine i l = (accepted_exactly lim (table_at h.lengths h.definitions i)).1 (λ j p x. all_none lim h k.fine i j p l (of_known lim _ k.known x))

  pub table_whole : (i : ℕ) → i < length h.symbols → Whole lim (table_at h.lengths h.definitions i)
  table_whole i l = whole lim (table_at h.lengths h.definitions i) (table_bytes i) (table_fine i l)

  wf_from : (x m i : ℕ) → i + m ≡ length h.symbols → Tells WF (defined (definitions_from h.symbols h.lengths h.definitions i m) x)
  unfolding definitions_from defined
  wf_from x zero i e = tt
  wf_from x (suc m) i e = go (eqb (get_or h.symbols i 0) x) (wf_from x m (i + 1) (omega arith))
    where
      go : (b : Bool) → Tells WF (defined (definitions_from h.symbols h.lengths h.definitions (i + 1) m) x)
          → Tells WF
          (cond b (some (tree_in (table_at h.lengths h.definitions i))) (defined (definitions_from h.symbols h.lengths h.definitions (i + 1) m) x))
      go true ih = (table_whole i (omega arith)).wf
      go false ih = ih

  pub definitions_wf : AllWF (definitions_of h)
  unfolding definitions_of
  definitions_wf x u e =
      told_of (λ (t : Tree). WF t) (defined (definitions_from h.symbols h.lengths h.definitions 0 (length h.symbols)) x) u e
      (wf_from x (length h.symbols) 0 (omega arith))

  -- what is opened is well-formed
  pub opened_is_wf : Bytes h.table → is_accepted (verdict lim h.table) ≡ true → (v : Tree) → opened_of h ≡ some v → WF v
  unfolding opened_of
  opened_is_wf b a v e =
      told_of (λ (t : Tree). WF t) (opened_of h) v e
      (opened_wf (definitions_of h) (tree_in h.table) definitions_wf (whole lim h.table b (verdict_accepted lim h.table a)).wf)

-- `replace::open_records` meets its contract.
use Rattle.std.proofs.Common.{◌≡◌, ℕ, List, ◌+◌, ◌*◌, ◌/◌, ◌<◌, ◌≤◌, cond, eqb, length, get_or, arith}
use Rattle.paper.specs.Tree.{Tree}
use Rattle.paper.specs.Record.{kind, symbol_in}
use Rattle.paper.specs.Verdict.{records_in}
use Rattle.paper_shared.specs.Shared.{Definition}
use Rattle.replace.specs.Index.{Openable}
use Rattle.replace.proofs.OpenLaws.{place, Copying, begins, Deeper, deeper, moved, has_room, copied, replaced_by, ends}
use Rattle.replace.proofs.+open_records.Goals as goal
use Rattle.replace.proofs.+open_records.Goals.{in-Some, in-None}

-- where the code stands, for any definitions and trees that the call is about, and for those that it is known to be about
module _ {definitions which from s area₀ area : List ℕ} {deep d at i : ℕ}
    (copying : (ds : List Definition) (m : ℕ) (t v : Tree) (o : Openable ds definitions which from s area₀ m deep d t v) → Copying o area at i)
    (asked : (ds : List Definition) × (m : ℕ) × (t : Tree) × (v : Tree) × Openable ds definitions which from s area₀ m deep d t v) where
  abbrev now : Copying asked.4 area at i
  now = copying asked.0 asked.1 asked.2 asked.3 asked.4

  -- the definition that the code goes into
  into : i < length s / 16 → (k : ℕ) → cond (eqb (kind s i) 1) (get_or which (symbol_in s i) 0) 0 ≡ k + 1 → Deeper asked.4 now k
  unfolding place records_in
  into l k e = deeper asked.4 now l k e

  -- the record that the code copies
  room : i < length s / 16 → cond (eqb (kind s i) 1) (get_or which (symbol_in s i) 0) 0 ≡ 0 → at * 16 + 16 ≤ length area
  unfolding place records_in
  room l e = has_room asked.4 now l e

pub loop-i-init : goal.loop-i-init
loop-i-init t c = λ ds m u v o. begins o

pub bounds-from-k : goal.bounds-from-k
bounds-from-k t c =
    let h = into c.loop-i.invariant c.requires (omega arith) c.in-Some.k c.in-Some.ensures in
    omega (arith, h.few)

pub bounds-from-k-in-Some : goal.bounds-from-k-in-Some
bounds-from-k-in-Some t c =
    let h = into c.loop-i.invariant c.requires (omega arith) c.in-Some.k c.in-Some.ensures in
    omega (arith, h.few)

pub slice_bounds-open_records-count : goal.slice_bounds-open_records-count
slice_bounds-open_records-count t c =
    (into c.loop-i.invariant c.requires (omega arith) c.in-Some.k c.in-Some.ensures).up

pub slice_bounds-open_records-start : goal.slice_bounds-open_records-start
slice_bounds-open_records-start t c =
    let h = into c.loop-i.invariant c.requires (omega arith) c.in-Some.k c.in-Some.ensures in
    omega (arith, h.up, h.within)

pub slice_bounds-open_records-end : goal.slice_bounds-open_records-end
slice_bounds-open_records-end t c =
    let h = into c.loop-i.invariant c.requires (omega arith) c.in-Some.k c.in-Some.ensures in
    omega (arith, h.up, h.within)

pub overflow_sub-deep : goal.overflow_sub-deep
overflow_sub-deep t c = (into c.loop-i.invariant c.requires (omega arith) c.in-Some.k c.in-Some.ensures).below

pub open_records-at-requires : goal.open_records-at-requires
open_records-at-requires t c =
    let p = c.requires in
    let h = into c.loop-i.invariant p (omega arith) c.in-Some.k c.in-Some.ensures in
    (omega (arith, h.below), (p.0, p.1, h.tree, h.to, h.openable))

pub overflow_mul-at : goal.overflow_mul-at
overflow_mul-at t c =
    let r = room c.loop-i.invariant c.requires (omega arith) c.in-None.ensures in
    omega arith

pub copy_bytes-requires : goal.copy_bytes-requires
copy_bytes-requires t c =
    (room c.loop-i.invariant c.requires (omega arith) c.in-None.ensures, omega arith)

pub overflow_add-at : goal.overflow_add-at
overflow_add-at t c =
    let r = room c.loop-i.invariant c.requires (omega arith) c.in-None.ensures in
    omega arith

pub loop-i-preserved : goal.loop-i-preserved
unfolding place records_in
loop-i-preserved t c = λ ds m u v o.
    let l = c.loop-i.invariant ds m u v o in
    elim c.match-found.branch [
      | in-Some w ↦
          let h = deeper o l c.loop-i-test.true w.in-Some.k w.in-Some.ensures in
          moved o (replaced_by o l c.loop-i-test.true h _ _ (w.open_records-at.ensures ds m h.tree h.to h.openable)) w.area-is w.at-is
      | in-None w ↦ moved o (copied o l c.loop-i-test.true w.in-None.ensures _ w.copy_bytes.ensures) w.area-is w.at-is
    ]

pub returns : goal.returns
unfolding records_in
returns t c = λ ds m u v o. ends o (c.loop-i.invariant ds m u v o) (omega arith)

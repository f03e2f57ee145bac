-- `simplify::run`: each need is one law of Running, for the tree that the table holds.
use Prim.Native.Nat.{ℕ, ◌/◌, ◌%◌}
use mathlib.Core.Path.{◌≡◌, sym, ap, ◌∙◌, subst}
use mathlib.Core.List.{List, []}
use native.Mathlib.Omega.{arith}
use Rattle.std.specs.Prelude.{None}
use Rattle.paper.specs.Tree.{Tree}
use Rattle.simplify.specs.Answer.{Leaves}
use Rattle.driver.specs.declared.Stand.{Stand}
use Rattle.driver.specs.Driven.{Set}
use Rattle.driver.specs.Paused.{first_stand, call, Called, Fell, Reached}
use Rattle.driver.proofs.Runs.{drives}
use Rattle.simplify.proofs.Running.{for_every, table_fits, whole_table, set_up, called_on, left_over, done_fits, whole_result, left_done}
use Rattle.simplify.proofs.run.Goals as goal

-- the driver was called at the beginning, on the table's tree
module _ (ed : ℕ) {out work steps : List ℕ} {p : ℕ} {t : Tree} (set : Set out work steps 0 p 0 t []) {s : Stand} (first : s ≡ first_stand ed p) where
  accepted : Called (call out work steps s t [])
  accepted = subst (λ y. Called (call out work steps y t [])) (sym first) (called_on ed set)

  fell : {n : ℕ} → ((u : Tree) (r : List ℕ) → Called (call out work steps s u r) → Fell (call out work steps s u r) n)
      → Fell (call out work steps (first_stand ed p) t []) n
  fell {n} says = subst (λ y. Fell (call out work steps y t []) n) first (says t [] accepted)

  reached : {out' work' steps' : List ℕ} {s' : Stand} {e : ℕ}
      → ((u : Tree) (r : List ℕ) → Called (call out work steps s u r) → Reached (call out work steps s u r) out' work' steps' s' e)
      → Reached (call out work steps (first_stand ed p) t []) out' work' steps' s' e
  reached {out'} {work'} {steps'} {s'} {e} says =
      subst (λ y. Reached (call out work steps y t []) out' work' steps' s' e) first (says t [] accepted)

pub overflow_sub-p : goal.overflow_sub-p
overflow_sub-p c = (table_fits c.requires.1).0

pub copy_bytes-requires : goal.copy_bytes-requires
copy_bytes-requires c =
    let fits = (table_fits c.requires.1).1 in
    (omega arith, omega arith)

pub note_all-requires : goal.note_all-requires
note_all-requires c = (_, whole_table c.requires.1 c.copy_bytes.ensures c.copy_bytes.auto.dst)

pub drive-requires : goal.drive-requires
drive-requires c =
    let h = c.requires.1 in
    let m = c.copy_bytes in
    let n = c.note_all in
    let set = set_up h m.ensures m.auto.dst n.new.s (n.ensures _ (whole_table h m.ensures m.auto.dst)) n.auto.s in
    (c.requires.0, [], accepted c.args.edition set c.first_stand-st.ensures)

pub note_at-requires : goal.note_at-requires
note_at-requires c =
    let h = c.requires.1 in
    let m = c.copy_bytes in
    let n = c.note_all in
    let k = c.drive.auto in
    let set = set_up h m.ensures m.auto.dst n.new.s (n.ensures _ (whole_table h m.ensures m.auto.dst)) n.auto.s in
    let done = reached c.args.edition set c.first_stand-st.ensures c.in-Ok.ensures.drives in
    (_, (whole_result h c.args.edition done.drove k.out k.steps (k.work ∙ n.auto.s ∙ m.auto.dst)).there)

pub strip-requires : goal.strip-requires
strip-requires c =
    let h = c.requires.1 in
    let m = c.copy_bytes in
    let n = c.note_all in
    let k = c.drive.auto in
    let set = set_up h m.ensures m.auto.dst n.new.s (n.ensures _ (whole_table h m.ensures m.auto.dst)) n.auto.s in
    let done = reached c.args.edition set c.first_stand-st.ensures c.in-Ok.ensures.drives in
    (_, whole_result h c.args.edition done.drove k.out k.steps (k.work ∙ n.auto.s ∙ m.auto.dst))

pub overflow_mul-e : goal.overflow_mul-e
overflow_mul-e c =
    let h = c.requires.1 in
    let m = c.copy_bytes in
    let n = c.note_all in
    let k = c.drive.auto in
    let set = set_up h m.ensures m.auto.dst n.new.s (n.ensures _ (whole_table h m.ensures m.auto.dst)) n.auto.s in
    let done = reached c.args.edition set c.first_stand-st.ensures c.in-Ok.ensures.drives in
    omega (arith, done_fits h c.args.edition done.drove k.out k.steps (k.work ∙ n.auto.s ∙ m.auto.dst))

pub overflow_mul-e-in-Ok : goal.overflow_mul-e-in-Ok
overflow_mul-e-in-Ok c =
    let h = c.requires.1 in
    let m = c.copy_bytes in
    let n = c.note_all in
    let k = c.drive.auto in
    let set = set_up h m.ensures m.auto.dst n.new.s (n.ensures _ (whole_table h m.ensures m.auto.dst)) n.auto.s in
    let done = reached c.args.edition set c.first_stand-st.ensures c.in-Ok.ensures.drives in
    omega (arith, done_fits h c.args.edition done.drove k.out k.steps (k.work ∙ n.auto.s ∙ m.auto.dst))

pub overflow_sub-out : goal.overflow_sub-out
overflow_sub-out c =
    let h = c.requires.1 in
    let m = c.copy_bytes in
    let n = c.note_all in
    let k = c.drive.auto in
    let set = set_up h m.ensures m.auto.dst n.new.s (n.ensures _ (whole_table h m.ensures m.auto.dst)) n.auto.s in
    let done = reached c.args.edition set c.first_stand-st.ensures c.in-Ok.ensures.drives in
    omega (arith, done_fits h c.args.edition done.drove k.out k.steps (k.work ∙ n.auto.s ∙ m.auto.dst), c.strip.auto.s)

pub clear-requires : goal.clear-requires
clear-requires c =
    let h = c.requires.1 in
    let m = c.copy_bytes in
    let n = c.note_all in
    let k = c.drive.auto in
    let set = set_up h m.ensures m.auto.dst n.new.s (n.ensures _ (whole_table h m.ensures m.auto.dst)) n.auto.s in
    let done = reached c.args.edition set c.first_stand-st.ensures c.in-Ok.ensures.drives in
    omega (arith, done_fits h c.args.edition done.drove k.out k.steps (k.work ∙ n.auto.s ∙ m.auto.dst), c.strip.auto.s)

pub overflow_sub-steps : goal.overflow_sub-steps
overflow_sub-steps c =
    let h = c.requires.1 in
    let m = c.copy_bytes in
    let n = c.note_all in
    let k = c.drive.auto in
    let set = set_up h m.ensures m.auto.dst n.new.s (n.ensures _ (whole_table h m.ensures m.auto.dst)) n.auto.s in
    let done = reached c.args.edition set c.first_stand-st.ensures c.in-Ok.ensures.drives in
    omega (arith, done_fits h c.args.edition done.drove k.out k.steps (k.work ∙ n.auto.s ∙ m.auto.dst))

pub clear-requires-in-Ok : goal.clear-requires-in-Ok
clear-requires-in-Ok c =
    let h = c.requires.1 in
    let m = c.copy_bytes in
    let n = c.note_all in
    let k = c.drive.auto in
    let set = set_up h m.ensures m.auto.dst n.new.s (n.ensures _ (whole_table h m.ensures m.auto.dst)) n.auto.s in
    let done = reached c.args.edition set c.first_stand-st.ensures c.in-Ok.ensures.drives in
    omega (arith, done_fits h c.args.edition done.drove k.out k.steps (k.work ∙ n.auto.s ∙ m.auto.dst))

pub returns-in-Ok : goal.returns-in-Ok
returns-in-Ok c =
    let g = c.args in
    let h = c.requires.1 in
    let m = c.copy_bytes in
    let n = c.note_all in
    let r = c.drive in
    let set = set_up h m.ensures m.auto.dst n.new.s (n.ensures _ (whole_table h m.ensures m.auto.dst)) n.auto.s in
    let done = reached g.edition set c.first_stand-st.ensures c.in-Ok.ensures.drives in
    let long = r.auto.work ∙ n.auto.s ∙ m.auto.dst in
    let whole = whole_result h g.edition done.drove r.auto.out r.auto.steps long in
    let st = r.new.st in
    let x = c.weight_of-weight_out.result in
    for_every h
    (λ u. Leaves (drives g.edition u) g.w
    (record {
      number = 0;
      place = 0;
      flaw = None;
      records = c.in-Ok.e;
      steps = st.noted;
      openings = st.openings;
      weight_in = g.w;
      weight_out = x;
      tries = st.tries;
    })
    g.out.now c.clear.new.d g.steps.now c.clear-in-Ok.new.d)
    (left_done h g.edition done.drove r.auto.out r.auto.steps long (c.strip.ensures _ whole) c.strip.auto.s c.clear.new.d c.clear-in-Ok.new.d x
    st.openings st.tries
    c.clear.ensures c.clear-in-Ok.ensures (c.weight_of-weight_out.ensures ∙ ap (λ v. v / 65536 % 65536) (c.note_at.ensures _ whole.there))
    done.openings_are done.tries_are)

pub returns-in-Err : goal.returns-in-Err
returns-in-Err c =
    let g = c.args in
    let h = c.requires.1 in
    let m = c.copy_bytes in
    let n = c.note_all in
    let r = c.drive in
    let set = set_up h m.ensures m.auto.dst n.new.s (n.ensures _ (whole_table h m.ensures m.auto.dst)) n.auto.s in
    let out = c.clear-in-Err in
    let steps = c.clear-in-Err-2 in
    for_every h
    (λ u. Leaves (drives g.edition u) g.w c.refused.result g.out.now out.new.d g.steps.now steps.new.d)
    (left_over h g.edition c.refused.result c.in-Err.left.steps r.new.out r.new.steps (fell g.edition set c.first_stand-st.ensures c.in-Err.ensures.drives)
    c.refused.ensures out.ensures steps.ensures r.auto.out r.auto.steps)

-- What the entry points answer and leave, in each of their ways through: the verdict over the whole area, then the search for the key or for
-- room, then the bytes read or written (AreaLaws).
use Prim.Native.Nat.{ℕ, ◌+◌, ◌-◌, ◌*◌, ◌/◌, ◌%◌, ◌<◌, ◌≤◌}
use mathlib.Core.Path.{◌≡◌, refl, sym, ap, ◌∙◌}
use mathlib.Core.Bool.{true, false, not}
use mathlib.Core.List.{List, [], ◌++◌, append-nil}
use mathlib.Core.Option.{none, some}
use mathlib.Core.Option as plain
use Rattle.std.specs.Prelude.{Option, Some, None, is_some}
use native.Mathlib.Nat.{sub-zero}
use native.Mathlib.Omega.{arith}
use borrow.Author.Tests.{eq-eqb, ne_eqb}
use lib.ListN.{length, drop, replicate, length-append, length-drop, drop_of_length-le}
use lib.Seq.{take_all}
use Rattle.paper.specs.Bytes.{le2, le8}
use Rattle.paper_settings.specs.Settings.{holds, slot_of, free_slot, Setting, setting_of, slots_of, shown, known, used, any_newer, in_order}
use Rattle.paper_settings.specs.Settings.{is_disordered, area_verdict, Op, to_store, to_remove, Reply, only, fetch_reply, replies, is_full, on_slots, called}
use Rattle.paper_settings.specs.Settings.{fetched, OldReply, fetched_old}
use Rattle.paper.proofs.Tests.{true_not_false}
use Rattle.paper_settings.proofs.SlotLaws.{slot_length}
use Rattle.paper_settings.proofs.SettingsLaws.{kept, called_kept, area_joined}
use Rattle.table.specs.declared.refusals.Refusal.{Refusal}
use Rattle.table.specs.Refusals.{number_of}
use Rattle.table.proofs.RefusalLaws.{some_number}
use Rattle.stretch.specs.Put.{part, put}
use Rattle.stretch.proofs.Laws.{put_put, length_part}
use Rattle.settings.specs.Slots.{rest, first_in, takes, closed_up}
use Rattle.settings.proofs.StepLaws.{rest_all, unit_at, setting_at}
use Rattle.settings.proofs.AreaLaws.{known_first, shown_rest, full_first, store_after, remove_after}

-- ---- the verdict
module _ (newest : ℕ) (a : List ℕ) where
  pub judged_newer : any_newer newest (slots_of a) ≡ true → 10 ≡ area_verdict newest a
  unfolding area_verdict
  judged_newer n = rw n

  pub judged_length : any_newer newest (slots_of a) ≡ false → 0 < length a % 32 → 11 ≡ area_verdict newest a
  unfolding area_verdict is_disordered
  judged_length n l = rw (n, ne_eqb (length a % 32) 0 (λ e. omega arith))

  pub judged_order : any_newer newest (slots_of a) ≡ false → length a % 32 ≤ 0 → in_order (slots_of a) ≡ false → 11 ≡ area_verdict newest a
  unfolding area_verdict is_disordered
  judged_order n l o = rw (n, eq-eqb (length a % 32) 0 (omega arith), o)

  pub judged_fine : any_newer newest (slots_of a) ≡ false → length a % 32 ≤ 0 → in_order (slots_of a) ≡ true → 0 ≡ area_verdict newest a
  unfolding area_verdict is_disordered
  judged_fine n l o = rw (n, eq-eqb (length a % 32) 0 (omega arith), o)

-- ---- reading
module _ (newest k : ℕ) (a : List ℕ) where
  pub fetch_refused : (r : Refusal) → number_of r ≡ area_verdict newest a → only (number_of r) ≡ fetched newest k a
  unfolding fetched
  fetch_refused r judged = let some = some_number r in rw (ne_eqb (area_verdict newest a) 0 (λ e. omega (arith, some)), judged)

  module _ (fine : 0 ≡ area_verdict newest a) where
    fetch_fine : fetched newest k a ≡ fetch_reply (shown (rest a 0) k)
    unfolding fetched
    fetch_fine = rw (eq-eqb (area_verdict newest a) 0 (sym fine), rest_all a)

    pub fetch_found : (p : ℕ) → Some p ≡ first_in (holds k) 0 (rest a 0) → (s u : ℕ) → s ≡ le8 a (32 * p + 8) → u ≡ le2 a (32 * p + 4)
        → ◌≡◌ {A = Reply} (record { number = 0; setting = s; unit = u }) (fetched newest k a)
    unfolding fetch_reply setting_of
    fetch_found p found s u x y =
        sym (fetch_fine
        ∙ ap fetch_reply (shown_rest a k p (length a / 32) 0 (sub-zero (length a / 32)) found)
        ∙ rw (setting_at a p, unit_at a p, x, y))

    pub fetch_absent : None ≡ first_in (holds k) 0 (rest a 0) → only 12 ≡ fetched newest k a
    unfolding fetch_reply known
    fetch_absent none_has = sym (fetch_fine ∙ absent (shown (rest a 0) k) (known_first k (rest a 0) 0 ∙ ap is_some (sym none_has)))
      where
        absent : (o : plain.Option Setting) → known o ≡ false → fetch_reply o ≡ only 12
        absent none e = refl
        absent (some s) e = absurd (true_not_false refl e)

-- the old release's answer is the same without the unit
pub old_answer : (k : ℕ) (a : List ℕ) (n s u : ℕ) → ◌≡◌ {A = Reply} (record { number = n; setting = s; unit = u }) (fetched 1 k a)
    → ◌≡◌ {A = OldReply} (record { number = n; setting = s }) (fetched_old k a)
unfolding fetched_old
old_answer k a n s u e = ap (λ (r : Reply). record { number = r.number; setting = r.setting }) e

-- ---- writing: the bytes after a remove, as the code makes them
pub closed_up_lem : (a : List ℕ) (i : ℕ) → 32 * i + 32 ≤ length a
    → put (put a (32 * i) (part a (32 * i + 32) (length a - (32 * i + 32)))) (length a - 32) (replicate 32 0) ≡ closed_up a i
unfolding closed_up free_slot part put
closed_up_lem a i h =
    let m = length a - (32 * i + 32) in
    let s = part a (32 * i + 32) m in
    let l : length s ≡ m = length_part a (32 * i + 32) m (omega arith) in
    let d : drop (32 * i + length (s ++ replicate 32 0)) a ≡ [] =
    drop_of_length-le a {i = 32 * i + length (s ++ replicate 32 0)} (simp length-append (omega arith)) in
    let e : s ≡ drop (32 * i + 32) a = take_all m (drop (32 * i + 32) a) (simp length-drop (omega arith)) in
    put_put a (32 * i) s (length a - 32) (replicate 32 0) (omega arith) (omega arith)
    ∙ rw (d, append-nil (s ++ replicate 32 0), e)

module _ (a : List ℕ) where
  pub call_refused : (op : Op) (r : Refusal) → number_of r ≡ area_verdict 2 a → replies (only (number_of r)) a ≡ called op a
  unfolding called
  call_refused op r judged = let some = some_number r in rw (ne_eqb (area_verdict 2 a) 0 (λ e. omega (arith, some)), judged)

  module _ (k : ℕ) (fine : 0 ≡ area_verdict 2 a) where
    verdict_fine : area_verdict 2 a ≡ 0
    verdict_fine = sym fine

    pub store_done : (s u p : ℕ) → Some p ≡ first_in (takes k) 0 (rest a 0)
        → (b : List ℕ) → b ≡ put a (32 * p) (slot_of k s u) → replies (only 0) b ≡ called (to_store k s u) a
    unfolding on_slots
    store_done s u p q b e =
        let w = (kept 2 a verdict_fine).whole in
        let f : is_full (length (slots_of a)) (used (slots_of a)) (shown (slots_of a) k) ≡ false =
        full_first a k ∙ ap (λ o. not (is_some o)) (sym q) in
        rw (called_kept (to_store k s u) a verdict_fine, f)
        (ap (replies (only 0)) (e ∙ store_after a w k (slot_of k s u) p (slot_length k s u) q))

    pub store_full : (s u : ℕ) → None ≡ first_in (takes k) 0 (rest a 0) → replies (only 13) a ≡ called (to_store k s u) a
    unfolding on_slots
    store_full s u q =
        let f : is_full (length (slots_of a)) (used (slots_of a)) (shown (slots_of a) k) ≡ true =
        full_first a k ∙ ap (λ o. not (is_some o)) (sym q) in
        rw (called_kept (to_store k s u) a verdict_fine, f)
        (ap (replies (only 13)) (sym (area_joined a (kept 2 a verdict_fine).whole)))

    known_by : (o : Option ℕ) → o ≡ first_in (holds k) 0 (rest a 0) → known (shown (slots_of a) k) ≡ is_some o
    known_by o q = rw (rest_all a) (known_first k (rest a 0) 0 ∙ ap is_some (sym q))

    pub remove_done : (p : ℕ) → Some p ≡ first_in (holds k) 0 (rest a 0)
        → (b : List ℕ) → b ≡ closed_up a p → replies (only 0) b ≡ called (to_remove k) a
    unfolding on_slots
    remove_done p q b e =
        let w = (kept 2 a verdict_fine).whole in
        rw (called_kept (to_remove k) a verdict_fine, known_by (Some p) q)
        (ap (replies (only 0)) (e ∙ remove_after a w k p q))

    pub remove_absent : None ≡ first_in (holds k) 0 (rest a 0) → replies (only 12) a ≡ called (to_remove k) a
    unfolding on_slots
    remove_absent q =
        rw (called_kept (to_remove k) a verdict_fine, known_by None q)
        (ap (replies (only 12)) (sym (area_joined a (kept 2 a verdict_fine).whole)))

-- A member that is kept at once: no rule applies to it and it has no members but leaves, so it admits no rule and no opening (rules, Finished); the
-- run on it is done after as many tries as it has records, with no step and no opening, and its records are copied to what is done. A leaf is one,
-- and so is a calm node that is not opened.
use Prim.Native.Nat.{ℕ, ◌+◌, ◌*◌, ◌<◌, ◌≤◌}
use mathlib.Core.Path.{◌≡◌, refl, sym, ap, ◌∙◌, subst}
use mathlib.Core.Bool.{Bool, true, false, ◌&&◌}
use mathlib.Core.List.{List, [], ◌∷◌, ◌++◌, append-nil}
use native.Mathlib.Omega.{arith}
use lib.Dec.{eqb}
use borrow.Author.Tests.{eqb-true}
use lib.ListN.{length, take, length-append}
use Rattle.paper.specs.Record.{kind, arity, is_node}
use Rattle.paper.specs.Tree.{Tree, records, weight}
use Rattle.paper.specs.Rules.{rules_of}
use Rattle.paper.specs.Driver.{ask, no_rule, done, each, members}
use Rattle.paper.proofs.EncodeLaws.{records_pos, records_weight}
use Rattle.paper.proofs.Simplified.{simplify_again}
use Rattle.note.specs.Note.{note}
use Rattle.note.specs.Noted.{TreeBy}
use Rattle.still.specs.Keys.{Scratched}
use Rattle.still.specs.Still.{still_by}
use Rattle.note.proofs.NotedLaws.{encode_by_length}
use Rattle.note.proofs.LightLaws.{size_of_leaf}
use Rattle.still.proofs.StillLaws.{still_no_rule, still_by_lem}
use Rattle.record.proofs.KindLaws.{leaf_no_node}
use Rattle.rules.specs.Asked.{Ready}
use Rattle.rules.proofs.Finished.{few_none}
use Rattle.stretch.specs.Put.{part, put}
use Rattle.stretch.proofs.Laws.{take_put, take_put_end}
use Rattle.driver.specs.Driven.{with_notes, kind_number, inside, opened_runs, Set, KeptWhole, KeptIs, Drove, Gave}
use Rattle.std.specs.Prelude.{Some}
use Rattle.driver.proofs.Forests.{records_first, all_many}
use Rattle.driver.proofs.Places.{advance, part_there, ends_after}
use Rattle.driver.proofs.Runs.{drives, no_rule_on}
use Rattle.driver.proofs.FirstRecords.{kind_first, arity_first}
use Rattle.driver.proofs.Opening.{member_kind, as_it_is}

module _ {out work rest : List ℕ} {d p : ℕ} {t : Tree} (h : Ready out work d p t rest) where
  -- ---- where it stands, what its first record tells, and that there is room
  pub tree_pending : TreeBy note work p t
  tree_pending = record { wf = h.wf; light = h.light; stands = record { after = rest; there = h.stands } }

  pub pending_kind : kind work p ≡ kind_number t
  pending_kind = kind_first work p t rest h.stands

  pub pending_arity : arity work p ≡ length (members t)
  pending_arity = arity_first work p t rest h.stands (omega (arith, records_weight t, h.light))

  pub pending_ends : (p + records t) * 16 + length rest ≡ length work
  pending_ends =
      let both : length (with_notes t ++ rest) ≡ length (with_notes t) + length rest = length-append (with_notes t) rest in
      let long = encode_by_length note t in
      let some = records_pos t in
      omega (arith, ends_after work (with_notes t ++ rest) (p * 16) h.stands (omega arith))

  pub room : (d * 16 + records t * 16 ≤ length out) × (1 ≤ records t)
  room = (omega (arith, h.out_room, records_weight t), omega (arith, records_pos t))

  -- ---- its records are copied, where scratch alone has changed before
  module _ {out₁ out' : List ℕ} {n : ℕ} (scratch : Scratched out out₁ (d * 16) (16 * weight t)) (size : n ≡ records t)
      (e : out' ≡ put out₁ (d * 16) (part work (p * 16) (n * 16))) where
    kept_wrote : take ((d + n) * 16) out' ≡ take (d * 16) out ++ with_notes t
    kept_wrote =
        let long : length (with_notes t) ≡ n * 16 = omega (arith, encode_by_length note t) in
        let within : d * 16 ≤ length out₁ = omega (arith, h.out_room, scratch.long) in
        ap (take ((d + n) * 16)) (e ∙ ap (put out₁ (d * 16)) (part_there work (with_notes t) rest (p * 16) (n * 16) h.stands long))
        ∙ take_put_end out₁ (d * 16) (with_notes t) ((d + n) * 16) (omega arith) within ∙ ap (λ (x : List ℕ). x ++ with_notes t) scratch.before

    kept_before : take (d * 16) out' ≡ take (d * 16) out
    kept_before =
        ap (take (d * 16)) e
        ∙ take_put out₁ (d * 16) (part work (p * 16) (n * 16)) (d * 16) (omega arith) (omega (arith, h.out_room, scratch.long)) ∙ scratch.before

    kept_is : (ed k : ℕ) → ask (rules_of ed) t ≡ no_rule → n ≤ length (members t) + 1 → (eqb (kind work p) k && is_node k) ≡ false
        → KeptIs (rules_of ed) k t out out' d (Some n)
    kept_is ed k asked few shut = (
      kept_before,
      record {
        none = few_none ed t h.wf asked (omega arith);
        shut = subst (λ j. (eqb j k && is_node k) ≡ false) pending_kind shut;
        size = size;
        wrote = kept_wrote;
      },
    )

  unopened : kind work p < 2 → (k : ℕ) (a : Bool) → eqb (kind work p) k ≡ a → (a && is_node k) ≡ false
  unopened l k false e = refl
  unopened l k true e = leaf_no_node k (omega (arith, l, eqb-true (kind work p) k e))

  pub leaf_kept : (ed k : ℕ) → kind work p < 2 → (out' : List ℕ) → out' ≡ put out (d * 16) (part work (p * 16) 16)
      → KeptIs (rules_of ed) k t out out' d (Some 1)
  leaf_kept ed k l out' e =
      let leaf : kind_number t < 2 = omega (arith, pending_kind) in
      kept_is (record { long = refl; before = refl; past = refl }) (size_of_leaf t leaf) e ed k (no_rule_on ed t leaf) (omega arith)
      (unopened l k (eqb (kind work p) k) refl)

  -- the members are leaves: the tree has a record for each, and its own
  pub calm_size : records t ≤ arity work p + 1 → arity work p + 1 ≡ records t
  calm_size few = omega (arith, pending_arity, records_first t, all_many (members t))

  pub calm_kept : (ed k : ℕ) → (eqb (kind work p) k && is_node k) ≡ false → (n : ℕ) → n ≡ records t → records t ≤ arity work p + 1 → still_by ed t ≡ true
      → {out₁ : List ℕ} → Scratched out out₁ (d * 16) (16 * weight t) → (out' : List ℕ) → out' ≡ put out₁ (d * 16) (part work (p * 16) (n * 16))
      → KeptIs (rules_of ed) k t out out' d (Some n)
  calm_kept ed k shut n size few calm scratch out' e =
      kept_is scratch size e ed k (still_no_rule ed t (still_by_lem ed t calm)) (omega (arith, pending_arity)) shut

-- ---- what it is gathered to
module _ (ed : ℕ) {t : Tree} {rest out work steps : List ℕ} {d p s : ℕ} (h : Set out work steps d p s t rest) {k n : ℕ} {out' : List ℕ}
    (a : KeptWhole (rules_of ed) k t out out' d n) (lo : length out' ≡ length out) where
  kept_driven : Drove (drives ed t) rest out out' work steps steps d s (d + n) (p + n) s 0 n
  kept_driven =
      let size = a.size in
      record {
        to = t;
        ks = [];
        ran = simplify_again t h.ready.wf a.none ∙ ap (done t [] 0) (sym size);
        end = ap (λ m. d + m) size;
        wrote = a.wrote;
        left = advance work (with_notes t) rest p n h.ready.stands (omega (arith, encode_by_length note t));
        place = omega (arith, pending_ends h.ready);
        noted_end = omega arith;
        noted = sym (append-nil (take s steps));
      }

  pub kept_gathered : Gave (opened_runs (inside k) (each (drives ed) (t ∷ []))) rest out out' work steps steps d s (d + n) (p + n) s 0 1 n
  unfolding kept_driven kind
  kept_gathered = as_it_is ed h kept_driven lo k (subst (λ j. (eqb j k && is_node k) ≡ false) (sym (member_kind ed h kept_driven lo)) a.shut)

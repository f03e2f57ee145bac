-- A site restored whole, from C: of any two calls, as the contract that the check reads from the source lets them be, the second of which is handed
-- the results of the accepted items and the tables of the refused ones, in their places. The places tell the answers of the site, so it is the
-- definitions' theorem (paper_takeover) of the calls.
use Prim.Native.Nat.{ℕ, ◌*◌, ◌%◌, ◌≤◌}
use mathlib.Core.Path.{◌≡◌, sym, ap, ap₂, ◌∙◌, subst}
use mathlib.Core.List.{List}
use lib.ListN.{length}
use Rattle.paper.specs.Bytes.{Bytes}
use Rattle.paper.specs.Answers.{Answer, simplified}
use Rattle.paper.specs.Takeover.{Room}
use Rattle.paper_batch.specs.Batch.{place_bytes, Site, in_turn, lengths_in, site_number}
use Rattle.paper_takeover.specs.SiteRestored.{restored_whole, whole_lengths, whole_weight, again_in_place, NoSix, RepeatsWhole}
use Rattle.paper_takeover.proofs.SiteRestored.{site_restored_whole, whole_bytes, whole_passes, fit}
use Rattle.simmergate.proofs.Site.{SiteCCall, limit, edition, tables, lengths, areas, answers}
use Rattle.simmergate.proofs.SiteTakenOver.{site_given, told, site, all_told, out_is, site_returns}

-- what a machine restores of a call, and the lengths of it
abbrev pub left_whole : SiteCCall → List ℕ
left_whole c = restored_whole (lengths_in (lengths c)) (tables c) (told c) (site_given c).lent.out

abbrev pub lengths_whole : SiteCCall → List ℕ
lengths_whole c = whole_lengths (lengths_in (lengths c)) (told c)

-- the second call is not refused as a whole; it tells the refusals again in their places, and of the others no step and no opening; and what is restored of
-- it is the same site
pub record TakenWhole (c d : SiteCCall) : Type 0 where
  pub accepted : d.returned ≡ 0
  pub same_answers : told d ≡ again_in_place (told c)
  pub same_tables : left_whole d ≡ left_whole c
  pub same_lengths : lengths_whole d ≡ lengths_whole c

module _ (c d : SiteCCall) (n : limit d ≡ limit c) (k : edition d ≡ edition c) (e : c.returned ≡ 0) (b : Bytes (tables c)) (q : tables d ≡ left_whole c)
    (whole : length (lengths d) % 8 ≡ 0) (r : lengths_in (lengths d) ≡ lengths_whole c)
    (places : place_bytes * length (lengths_whole c) ≤ length (answers d)) where
  abbrev ms : List ℕ
  ms = whole_lengths (lengths_in (lengths c)) (site c).answers

  handed_on_lem : tables d ≡ restored_whole (lengths_in (lengths c)) (tables c) (site c).answers (site c).lent.out
  handed_on_lem = q ∙ ap₂ (restored_whole (lengths_in (lengths c)) (tables c)) (all_told c e b) (out_is c e)

  same_ms : lengths_whole c ≡ ms
  same_ms = ap (whole_lengths (lengths_in (lengths c))) (all_told c e b)

  -- a restored site passes 8, items with 6 or not
  pub c_restored_passes : d.returned ≡ 0
  c_restored_passes =
      let passes =
      whole_passes (limit c) (edition c) (tables c) (lengths c) (answers c) b (sym (site_returns c) ∙ e) (areas c) (lengths d) (answers d) whole (r ∙ same_ms)
      (subst (λ (x : List ℕ). place_bytes * length x ≤ length (answers d)) same_ms places) in
      site_returns d ∙ ap₂ (λ (i j : ℕ). site_number i j (tables d) (lengths d) (answers d)) n k
      ∙ ap (λ (t : List ℕ). site_number (limit c) (edition c) t (lengths d) (answers d)) handed_on_lem ∙ passes

  module _ (none-6 : NoSix (told c)) (room : Room (limit c) (whole_weight (lengths_in (lengths c)) (tables c) (told c)) (areas d)) where
    abbrev again : Site
    again = in_turn (simplified (limit c) (edition c)) (lengths_in (lengths d)) (tables d) (areas d)

    repeated : RepeatsWhole (site c).answers (lengths_in (lengths d)) (tables d) again
    repeated =
        let x = (site c).answers in
        let f = simplified (limit c) (edition c) in
        let adds_up = (fit (limit c) (edition c) (tables c) (lengths c) (answers c) (sym (site_returns c) ∙ e)).adds_up in
        let first =
        site_restored_whole (limit c) (edition c) (lengths_in (lengths c)) (tables c) b adds_up (areas c) (areas d) (subst NoSix (all_told c e b) none-6)
        (subst (λ (xs : List Answer). Room (limit c) (whole_weight (lengths_in (lengths c)) (tables c) xs) (areas d)) (all_told c e b) room) in
        subst (λ (p : List ℕ). RepeatsWhole x p (tables d) (in_turn f p (tables d) (areas d))) (sym (r ∙ same_ms))
        (subst (λ (t : List ℕ). RepeatsWhole x ms t (in_turn f ms t (areas d))) (sym handed_on_lem) first)

    pub c_site_restored : TakenWhole c d
    c_site_restored =
        let b' : Bytes (tables d) = subst Bytes (sym handed_on_lem) (whole_bytes (limit c) (edition c) (lengths_in (lengths c)) (tables c) b (areas c)) in
        let second : site d ≡ again =
        ap₂ (λ (i j : ℕ). in_turn (simplified i j) (lengths_in (lengths d)) (tables d) (areas d)) n k in
        let answers-are : told d ≡ again.answers = all_told d c_restored_passes b' ∙ ap (λ (x : Site). x.answers) second in
        let out-are = out_is d c_restored_passes ∙ ap (λ (x : Site). x.lent.out) second in
        record {
          accepted = c_restored_passes;
          same_answers = answers-are ∙ repeated.same_answers ∙ ap again_in_place (sym (all_told c e b));
          same_tables = ap₂ (restored_whole (lengths_in (lengths d)) (tables d)) answers-are out-are ∙ repeated.same_tables ∙ q;
          same_lengths = ap (whole_lengths (lengths_in (lengths d))) answers-are ∙ repeated.same_lengths ∙ r;
        }

-- The takeover of a whole site from C: of any two calls, as the contract that the check reads from the source lets them be, the second of which
-- is handed the tables and lengths that a machine restores of the first. The places tell the answers of the site, one after the other, so
-- the takeover of the definitions (paper_takeover) is that of the calls.
use Prim.Native.Nat.{ℕ, zero, suc, ◌+◌, ◌*◌, ◌%◌, ◌<◌, ◌≤◌}
use mathlib.Core.Path.{◌≡◌, refl, sym, ap, ap₂, ◌∙◌, subst}
use mathlib.Core.List.{List, []}
use native.Mathlib.Omega.{arith}
use lib.ListN.{length, get_or, drop}
use lib.Seq.{drop-drop, ext_get_or}
use Rattle.paper.specs.Bytes.{Bytes}
use Rattle.paper.specs.Answers.{Lent, Answer, simplified}
use Rattle.paper.specs.Told.{answer_in}
use Rattle.paper.specs.Takeover.{Room}
use Rattle.paper_batch.specs.Batch.{place_bytes, in_turn, lengths_in, Site, site_number, SiteCall}
use Rattle.paper_batch.proofs.UnfitLaws.{returns_number}
use Rattle.paper_takeover.specs.TakenOver.{restored, restored_lengths, restored_weight, again_each, SiteRepeats, answers_in}
use Rattle.paper_takeover.proofs.SiteTaken.{site_takes_over}
use Rattle.paper_takeover.proofs.SiteRestored.{results_bytes, results_pass}
use Rattle.batch.proofs.ToldLaws.{count, out_left, item_told}
use Rattle.simmergate.proofs.Site.{SiteCCall, limit, edition, tables, lengths, areas, answers, given_by}

-- ---- a whole site: what a call gives, the answers that its places tell, the definitions' run of it, and what a machine restores of it
abbrev pub site_given : SiteCCall → SiteCall
site_given c = given_by c.returned c.ends c.left

abbrev pub told : SiteCCall → List Answer
told c = answers_in (length (lengths_in (lengths c))) (site_given c).answers

abbrev pub site : SiteCCall → Site
site c = in_turn (simplified (limit c) (edition c)) (lengths_in (lengths c)) (tables c) (areas c)

abbrev pub left_behind : SiteCCall → List ℕ
left_behind c = restored (lengths_in (lengths c)) (tables c) (told c) (site_given c).lent.out

in_length : (n : ℕ) (s : List ℕ) → length (answers_in n s) ≡ n
unfolding answers_in
in_length zero s = refl
in_length (suc n) s = ap suc (in_length n (drop place_bytes s))

in_its_place : (n : ℕ) (s : List ℕ) (i : ℕ) (d : Answer) → i < n → get_or (answers_in n s) i d ≡ answer_in (drop (80 * i) s)
unfolding answers_in
in_its_place zero s i d h = absurd (omega arith)
in_its_place (suc n) s zero d h = refl
in_its_place (suc n) s (suc i) d h =
    in_its_place n (drop 80 s) i d (omega arith)
    ∙ ap answer_in (drop-drop (80 * i) 80 s ∙ ap (λ (k : ℕ). drop k s) (let k : 80 + 80 * i ≡ 80 * suc i = omega arith in k))

-- they are the answers of the site
pub all_told : (c : SiteCCall) → c.returned ≡ 0 → Bytes (tables c) → told c ≡ (site c).answers
all_told c e b =
    let xs = (site c).answers in
    let n = length (lengths_in (lengths c)) in
    let g = site_given c in
    let same : length (told c) ≡ n = in_length n g.answers in
    let many : length xs ≡ n = count (simplified (limit c) (edition c)) (lengths_in (lengths c)) (tables c) (areas c) in
    ext_get_or (answer_in []) (told c) xs (same ∙ sym many)
    (λ i h. let m : i < n = omega (arith, h, same) in
    let t = item_told (limit c) (edition c) (tables c) (lengths c) (areas c) (answers c) g c.promised e b i m in
    in_its_place n g.answers i (answer_in []) m ∙ t.answer ∙ sym (t.separate.answer (answer_in [])))

pub out_is : (c : SiteCCall) → c.returned ≡ 0 → (site_given c).lent.out ≡ (site c).lent.out
out_is c e = sym (out_left (limit c) (edition c) (tables c) (lengths c) (areas c) (answers c) (site_given c) c.promised e)

-- two sites, the second of which has the tables and lengths that are restored of the first
module _ (lim ed : ℕ) (ns s : List ℕ) (b : Bytes s) (l m : Lent) (xs : List Answer) (out ms t : List ℕ) where
  of_sites : xs ≡ (in_turn (simplified lim ed) ns s l).answers → out ≡ (in_turn (simplified lim ed) ns s l).lent.out
      → ms ≡ restored_lengths xs → t ≡ restored ns s xs out → Room lim (restored_weight xs) m → SiteRepeats lim ed xs ms t m
  of_sites xe oe me te room =
      let x = in_turn (simplified lim ed) ns s l in
      let first = site_takes_over lim ed ns s b l m (subst (λ (q : List Answer). Room lim (restored_weight q) m) xe room) in
      subst (λ (q : List Answer). SiteRepeats lim ed q ms t m) (sym xe)
      (subst (λ (q : List ℕ). SiteRepeats lim ed x.answers q t m) (sym (me ∙ ap restored_lengths xe))
      (subst (λ (q : List ℕ). SiteRepeats lim ed x.answers (restored_lengths x.answers) q m) (sym (te ∙ ap₂ (restored ns s) xe oe)) first))

-- what a call returns is the number of the definitions
pub site_returns : (c : SiteCCall) → c.returned ≡ site_number (limit c) (edition c) (tables c) (lengths c) (answers c)
site_returns c = ap (λ (x : SiteCall). x.number) c.promised ∙ returns_number (limit c) (edition c) (tables c) (lengths c) (answers c) (areas c)

-- the takeover of a whole site: the second call is not refused as a whole, answers each restored item without a step and an opening, and leaves the same bytes
module _ (c d : SiteCCall) (n : limit d ≡ limit c) (k : edition d ≡ edition c) (e : c.returned ≡ 0) (b : Bytes (tables c)) (q : tables d ≡ left_behind c)
    (whole : length (lengths d) % 8 ≡ 0) (r : lengths_in (lengths d) ≡ restored_lengths (told c))
    (places : place_bytes * length (restored_lengths (told c)) ≤ length (answers d)) (room : Room (limit c) (restored_weight (told c)) (areas d)) where
  handed_on_lem : tables d ≡ restored (lengths_in (lengths c)) (tables c) (site c).answers (site c).lent.out
  handed_on_lem = q ∙ ap₂ (restored (lengths_in (lengths c)) (tables c)) (all_told c e b) (out_is c e)

  accepted : d.returned ≡ 0
  accepted =
      let told-so : restored_lengths (told c) ≡ restored_lengths (site c).answers = ap restored_lengths (all_told c e b) in
      let passes =
      results_pass (limit c) (edition c) (tables c) (lengths c) (answers c) b (sym (site_returns c) ∙ e) (areas c) (lengths d) (answers d) whole (r ∙ told-so)
      (subst (λ (ms : List ℕ). place_bytes * length ms ≤ length (answers d)) told-so places) in
      site_returns d ∙ ap₂ (λ (i j : ℕ). site_number i j (tables d) (lengths d) (answers d)) n k
      ∙ ap (λ (t : List ℕ). site_number (limit c) (edition c) t (lengths d) (answers d)) handed_on_lem ∙ passes

  pub c_site_takeover : (d.returned ≡ 0) × (told d ≡ again_each (told c)) × (left_behind d ≡ left_behind c)
  c_site_takeover =
      let b' : Bytes (tables d) = subst Bytes (sym handed_on_lem) (results_bytes (limit c) (edition c) (lengths_in (lengths c)) (tables c) b (areas c)) in
      let repeated =
      of_sites (limit c) (edition c) (lengths_in (lengths c)) (tables c) b (areas c) (areas d) (told c) (site_given c).lent.out
      (lengths_in (lengths d)) (tables d) (all_told c e b) (out_is c e) r q room in
      let second : site d ≡ in_turn (simplified (limit c) (edition c)) (lengths_in (lengths d)) (tables d) (areas d) =
      ap₂ (λ (i j : ℕ). in_turn (simplified i j) (lengths_in (lengths d)) (tables d) (areas d)) n k in
      let answers-are = all_told d accepted b' ∙ ap (λ x. x.answers) second in (
        accepted,
        answers-are ∙ repeated.same_answers,
        ap₂ (restored (lengths_in (lengths d)) (tables d)) answers-are (out_is d accepted ∙ ap (λ x. x.lent.out) second) ∙ repeated.same_bytes ∙ q,
      )

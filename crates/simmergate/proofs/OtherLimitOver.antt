-- A site and a shared formula at the two limits, from C: of any calls, as the contracts that the check reads from the source let them be. A contract is
-- an equation with the definitions' call, so what these say of the two limits (paper_takeover) the calls do.
use Prim.Native.Nat.{ℕ, ◌%◌, ◌<◌, ◌≤◌}
use mathlib.Core.Path.{◌≡◌, sym, ap, ap₂, ◌∙◌, subst}
use mathlib.Core.Bool.{Bool, true, false, cond}
use mathlib.Core.List.{List}
use lib.ListN.{length, get_or}
use Rattle.paper.specs.Bytes.{Bytes}
use Rattle.paper.specs.Verdict.{refused, records_in, table_weight}
use Rattle.paper.specs.Refusals.{Flawed}
use Rattle.paper.specs.Rules.{is_edition}
use Rattle.paper.specs.Answers.{Lent, Answer, refused_by, refusal, simplified}
use Rattle.paper.specs.Calls.{answer_numbers, is_too_short, returned, answered}
use Rattle.paper.specs.Slices.{simplify_bytes}
use Rattle.paper.specs.OldMachine.{old, higher}
use Rattle.paper_batch.specs.Batch.{in_turn, lengths_in, SiteCall, site_called}
use Rattle.paper_batch.specs.Sentences.{item}
use Rattle.paper_shared.specs.Answers.{Handed, unopened, open_given, OpenGiven, SharedGiven, unshared, shared_given}
use Rattle.paper_shared.specs.Calls.{open_numbers, open_returns, open_answers, open_leaves, shared_returns, shared_answers, shared_leaves, shared_area}
use Rattle.paper_shared.specs.Slices.{open_bytes}
use Rattle.paper_shared.proofs.Slices.{shared_slices}
use Rattle.paper_takeover.specs.OtherLimit.{SameAreas, ItemsUpToOld, SameSite, SharedUpToOld, SameShared, BothRefuse}
use Rattle.paper_takeover.proofs.OtherLimit.{same_sites, item_too_long, item_too_heavy, same_openings, shares_alike}
use Rattle.paper_takeover.proofs.SiteRestored.{fit}
use Rattle.replace.specs.Planned.{handed}
use Rattle.simmergate.proofs.FromC.{FromC}
use Rattle.simmergate.proofs.Site.{SiteCCall, limit, edition, tables, lengths, areas, answers}
use Rattle.simmergate.proofs.SiteTakenOver.{site_given, told, all_told, site_returns}
use Rattle.simmergate.proofs.SharedTakenOver as sharing
use Rattle.simmergate.proofs.SharedTakenOver.{SharedCCall, formula, opened_area, opened_after, slice, given, shares, shared_returns_lem, shared_holds}
use Rattle.simmergate.proofs.shared_calls.simmergate_open.Reads as open-reads
use Rattle.simmergate.proofs.shared_calls.simmergate_open.Kinds as open-kinds

-- ---- a whole site: two calls that are handed the same, the one at the old limit and the other at the higher
pub c_same_sites : (c d : SiteCCall) → limit c ≡ old → limit d ≡ higher → edition d ≡ edition c → tables d ≡ tables c → lengths d ≡ lengths c
    → answers d ≡ answers c → SameAreas (areas c) (areas d) → Bytes (tables c) → ItemsUpToOld (lengths_in (lengths c)) (tables c)
    → SameSite (site_given c) (site_given d)
c_same_sites c d n m k t ls places areas-alike b u =
    let first : site_given c ≡ site_called old (edition c) (tables c) (lengths c) (areas c) (answers c) =
    c.promised ∙ ap (λ (i : ℕ). site_called i (edition c) (tables c) (lengths c) (areas c) (answers c)) n in
    let second : site_given d ≡ site_called higher (edition c) (tables c) (lengths c) (areas d) (answers c) =
    c_given d ∙ ap₂ (λ (i j : ℕ). site_called i j (tables d) (lengths d) (areas d) (answers d)) m k
    ∙ ap₂ (λ (p q : List ℕ). site_called higher (edition c) p q (areas d) (answers d)) t ls
    ∙ ap (site_called higher (edition c) (tables c) (lengths c) (areas d)) places in
    subst (λ (x : SiteCall). SameSite x (site_given d)) (sym first)
    (subst (λ (x : SiteCall). SameSite (site_called old (edition c) (tables c) (lengths c) (areas c) (answers c)) x) (sym second)
    (same_sites (edition c) (tables c) (lengths c) b u (areas c) (areas d) areas-alike (answers c)))
  where
    c_given : (x : SiteCCall) → site_given x ≡ site_called (limit x) (edition x) (tables x) (lengths x) (areas x) (answers x)
    c_given x = x.promised

-- an item that is over the old limit, at a call that is carried out there: its place tells 1, or 3
module _ (c : SiteCCall) (n : limit c ≡ old) (e : c.returned ≡ 0) (b : Bytes (tables c)) (i : ℕ) (h : i < length (lengths_in (lengths c))) where
  known : is_edition (edition c) ≡ true
  known = (fit (limit c) (edition c) (tables c) (lengths c) (answers c) (sym (site_returns c) ∙ e)).edition_known

  told_at : (d : Answer) → get_or (told c) i d ≡ get_or (in_turn (simplified old (edition c)) (lengths_in (lengths c)) (tables c) (areas c)).answers i d
  told_at d =
      ap (λ (xs : List Answer). get_or xs i d)
      (all_told c e b ∙ ap (λ (lim : ℕ). (in_turn (simplified lim (edition c)) (lengths_in (lengths c)) (tables c) (areas c)).answers) n)

  pub c_item_too_long : 49152 < length (item (lengths_in (lengths c)) (tables c) i) → (d : Answer) → get_or (told c) i d ≡ refusal 1 0
  c_item_too_long long d = told_at d ∙ item_too_long (edition c) known (lengths_in (lengths c)) (tables c) (areas c) i h long d

  pub c_item_too_heavy : let t = item (lengths_in (lengths c)) (tables c) i in
      0 < length t → length t % 16 ≡ 0 → length t ≤ 49152 → ((j : ℕ) → j < records_in t → ¬ Flawed t j) → old < table_weight t
      → (d : Answer) → get_or (told c) i d ≡ refusal 3 0
  c_item_too_heavy p m short flawless heavy d =
      told_at d ∙ item_too_heavy (edition c) known (lengths_in (lengths c)) (tables c) (areas c) i h p m short flawless heavy d

-- ---- a shared formula, opened and simplified: the same return, answer slice, opened table, `out` and `steps`
abbrev pub slice_after : SharedCCall → List ℕ
slice_after c = c.left.1.1.1.1.1.1.1.1.1.1.0.now

pub record CSameShared (c d : SharedCCall) : Type 0 where
  pub returned : c.returned ≡ d.returned
  pub slice : slice_after c ≡ slice_after d
  pub area : opened_after c ≡ opened_after d
  pub out : (given c).lent.out ≡ (given d).lent.out
  pub steps : (given c).lent.steps ≡ (given d).lent.steps

left_alike : (place : List ℕ) (l l' : Lent) → SameAreas l l' → (x x' : Answer) → x ≡ x' → (m m' : Lent) → m.out ≡ m'.out → m.steps ≡ m'.steps
    → let g : Lent = cond (is_too_short (answer_numbers x) place) l m in
    let g' : Lent = cond (is_too_short (answer_numbers x') place) l' m' in
    (g.out ≡ g'.out) × (g.steps ≡ g'.steps)
left_alike place l l' a x x' e m m' o s =
    subst (λ (y : Answer). let g : Lent = cond (is_too_short (answer_numbers x) place) l m in
    let g' : Lent = cond (is_too_short (answer_numbers y) place) l' m' in
    (g.out ≡ g'.out) × (g.steps ≡ g'.steps)) e (go (is_too_short (answer_numbers x) place))
  where
    go : (b : Bool) → let g : Lent = cond b l m in
        let g' : Lent = cond b l' m' in
        (g.out ≡ g'.out) × (g.steps ≡ g'.steps)
    go true = (a.same_out, a.same_steps)
    go false = (o, s)

module _ (c d : SharedCCall) (n : sharing.limit c ≡ old) (m : sharing.limit d ≡ higher) (k : sharing.edition d ≡ sharing.edition c) (f : formula d ≡ formula c)
    (w : opened_area d ≡ opened_area c) (p : slice d ≡ slice c) (alike : SameAreas (sharing.areas c) (sharing.areas d)) (u : SharedUpToOld (formula c)) where
  same : SameShared (shared_given old (sharing.edition c) (formula c) (opened_area c) (sharing.areas c))
      (shared_given higher (sharing.edition c) (formula c) (opened_area c) (sharing.areas d))
  same = shares_alike (sharing.edition c) (formula c) u (opened_area c) (sharing.areas c) (sharing.areas d) alike

  first : shares c ≡ shared_given old (sharing.edition c) (formula c) (opened_area c) (sharing.areas c)
  first = ap (λ (i : ℕ). shared_given i (sharing.edition c) (formula c) (opened_area c) (sharing.areas c)) n

  second : shares d ≡ shared_given higher (sharing.edition c) (formula c) (opened_area c) (sharing.areas d)
  second =
      ap₂ (λ (i j : ℕ). shared_given i j (formula d) (opened_area d) (sharing.areas d)) m k
      ∙ ap₂ (λ (h : Handed) (x : List ℕ). shared_given higher (sharing.edition c) h x (sharing.areas d)) f w

  both : SameShared (shares c) (shares d)
  both =
      subst (λ (x : SharedGiven). SameShared x (shares d)) (sym first)
      (subst (λ (x : SharedGiven). SameShared (shared_given old (sharing.edition c) (formula c) (opened_area c) (sharing.areas c)) x) (sym second) same)

  pub c_shares_alike : CSameShared c d
  unfolding shared_returns shared_answers shared_leaves shared_area
  c_shares_alike =
      let e = both.given.answer in
      let lent_Alike =
      left_alike (slice c) (sharing.areas c) (sharing.areas d) alike (shares c).given.answer (shares d).given.answer e
      (shares c).given.lent (shares d).given.lent both.given.out both.given.steps in
      let leaves-c : (given c).lent ≡ cond (is_too_short (answer_numbers (shares c).given.answer) (slice c)) (sharing.areas c) (shares c).given.lent =
      c.promised.leaves in
      let leaves-d : (given d).lent ≡ cond (is_too_short (answer_numbers (shares d).given.answer) (slice c)) (sharing.areas d) (shares d).given.lent =
      d.promised.leaves
      ∙ ap (λ (q : List ℕ). cond (is_too_short (answer_numbers (shares d).given.answer) q) (sharing.areas d) (shares d).given.lent) p in
      record {
        returned =
            c.promised.returns
            ∙ ap₂ (λ (x : Answer) (q : List ℕ). returned (answer_numbers x) x.number q) e (sym p)
            ∙ sym d.promised.returns;
        slice = c.promised.answers ∙ ap₂ (λ (x : Answer) (q : List ℕ). answered (answer_numbers x) q) e (sym p) ∙ sym d.promised.answers;
        area =
            c.promised.opens
            ∙ ap₂ (λ (x : Answer) (r : List ℕ). cond (is_too_short (answer_numbers x) (slice c)) (opened_area c) r) e both.area
            ∙ ap₂ (λ (q r : List ℕ). cond (is_too_short (answer_numbers (shares d).given.answer) q) r (shares d).area) (sym p) (sym w)
            ∙ sym d.promised.opens;
        out = ap (λ (x : Lent). x.out) leaves-c ∙ lent_Alike.0 ∙ sym (ap (λ (x : Lent). x.out) leaves-d);
        steps = ap (λ (x : Lent). x.steps) leaves-c ∙ lent_Alike.1 ∙ sym (ap (λ (x : Lent). x.steps) leaves-d);
      }

-- what both definitions' calls refuse with k at the old limit, the call refuses there with k, and changes no area
pub c_shared_refused : (c : SharedCCall) → sharing.limit c ≡ old → is_edition (sharing.edition c) ≡ true → simplify_bytes ≤ length (slice c)
    → (k : ℕ) → BothRefuse (formula c) k → (c.returned ≡ k) × ((given c).lent ≡ sharing.areas c) × (opened_after c ≡ opened_area c)
unfolding unshared refused_by
c_shared_refused c n known room k r =
    let so : shares c ≡ unshared (refused k 0) (opened_area c) (sharing.areas c) =
    ap (λ (i : ℕ). shared_given i (sharing.edition c) (formula c) (opened_area c) (sharing.areas c)) n
    ∙ r.by_sharing (sharing.edition c) known (opened_area c) (sharing.areas c) in
    let leaves = ((shared_slices.shared_areas (sharing.limit c) (sharing.edition c) (formula c) (opened_area c) (sharing.areas c) (slice c)).1 room).1 in (
      shared_returns_lem c room ∙ ap (λ (x : SharedGiven). x.given.answer.number) so,
      c.promised.leaves ∙ leaves ∙ ap (λ (x : SharedGiven). x.given.lent) so,
      shared_holds c room ∙ ap (λ (x : SharedGiven). x.area) so,
    )

-- ---- a shared formula, opened
abbrev pub OpenCCall : Type 0
OpenCCall = FromC 6 open-kinds.ps open-kinds.r open-reads.Post

abbrev pub open_limit : OpenCCall → ℕ
open_limit c = c.handed.0

abbrev pub open_formula : OpenCCall → Handed
open_formula c =
    let x = c.handed.1 in
    handed x.0.now x.1.0.now x.1.1.0.now x.1.1.1.0.now

abbrev pub open_area : OpenCCall → List ℕ
open_area c = c.handed.1.1.1.1.1.0.now

abbrev pub open_slice : OpenCCall → List ℕ
open_slice c = c.handed.1.1.1.1.1.1.0.now

abbrev pub open_area_after : OpenCCall → List ℕ
open_area_after c = c.left.1.1.1.1.1.0.now

abbrev pub open_slice_after : OpenCCall → List ℕ
open_slice_after c = c.left.1.1.1.1.1.1.0.now

-- the definitions' call, with what is handed in
abbrev opens : OpenCCall → OpenGiven
opens c = open_given (open_limit c) (open_formula c) (open_area c)

-- at the two limits: what the calls are handed gives the same at both
opens_same : (c d : OpenCCall) → open_limit c ≡ old → open_limit d ≡ higher → open_formula d ≡ open_formula c → open_area d ≡ open_area c
    → SharedUpToOld (open_formula c) → opens c ≡ opens d
opens_same c d n m f w u =
    ap (λ (i : ℕ). open_given i (open_formula c) (open_area c)) n
    ∙ same_openings (open_formula c) u (open_area c)
    ∙ sym (ap (λ (i : ℕ). open_given i (open_formula d) (open_area d)) m ∙ ap₂ (open_given higher) f w)

pub c_opens_alike : (c d : OpenCCall) → open_limit c ≡ old → open_limit d ≡ higher → open_formula d ≡ open_formula c → open_area d ≡ open_area c
    → open_slice d ≡ open_slice c → SharedUpToOld (open_formula c)
    → (c.returned ≡ d.returned) × (open_slice_after c ≡ open_slice_after d) × (open_area_after c ≡ open_area_after d)
unfolding open_returns open_answers open_leaves
c_opens_alike c d n m f w p u =
    let e = opens_same c d n m f w u in (
      c.promised.returns
          ∙ ap₂ (λ (x : OpenGiven) (q : List ℕ). returned (open_numbers x.answer) x.answer.number q) e (sym p)
          ∙ sym d.promised.returns,
      c.promised.answers ∙ ap₂ (λ (x : OpenGiven) (q : List ℕ). answered (open_numbers x.answer) q) e (sym p) ∙ sym d.promised.answers,
      c.promised.leaves
          ∙ ap₂ (λ (x : OpenGiven) (q : List ℕ). cond (is_too_short (open_numbers x.answer) q) (open_area c) x.area) e (sym p)
          ∙ ap (λ (r : List ℕ). cond (is_too_short (open_numbers (opens d).answer) (open_slice d)) r (opens d).area) (sym w)
          ∙ sym d.promised.leaves,
    )

pub c_open_refused : (c : OpenCCall) → open_limit c ≡ old → open_bytes ≤ length (open_slice c) → (k : ℕ) → BothRefuse (open_formula c) k
    → (c.returned ≡ k) × (open_area_after c ≡ open_area c)
unfolding unopened
c_open_refused c n room k r =
    let so : opens c ≡ unopened (refused k 0) (open_area c) =
    ap (λ (i : ℕ). open_given i (open_formula c) (open_area c)) n ∙ r.by_opening (open_area c) in (
      c.promised.returns
          ∙ ((shared_slices.opening (open_limit c) (open_formula c) (open_area c) (open_slice c)).1 room).0
          ∙ ap (λ (x : OpenGiven). x.answer.number) so,
      c.promised.leaves
          ∙ (shared_slices.opening_area (open_limit c) (open_formula c) (open_area c) (open_slice c)).1 room
          ∙ ap (λ (x : OpenGiven). x.area) so,
    )

-- The reader's and the writer's answers in the paper's words. 14 is given exactly when no well-formed tree has the text; reading what was
-- written gives the same records, and writing what was read gives the same text. Each from the two round trips.
use Prim.Native.Nat.{ℕ, ◌*◌, ◌≤◌, ◌<◌}
use mathlib.Core.Path.{◌≡◌, refl, sym, ap, ◌∙◌, subst}
use mathlib.Core.Bool.{Bool, true, false, cond}
use mathlib.Core.List.{List, ◌++◌}
use mathlib.Core.Option.{Option, none, some}
use mathlib.Core.Logic.{◌↔◌}
use native.Mathlib.Omega.{arith}
use borrow.Author.Tests.{lt-ltb, le-ltb, ltb-true, ltb-false, ne_eqb}
use lib.Dec.{ltb}
use lib.ListN.{length, take, drop}
use lib.Seq.{take_at}
use Rattle.paper.specs.Limits.{is_limit}
use Rattle.paper.specs.Bytes.{Bytes}
use Rattle.paper.specs.Record.{sound}
use Rattle.paper.specs.Tree.{Tree, weight, records}
use Rattle.paper.specs.WellFormed.{WF}
use Rattle.paper.specs.Table.{encode, tree_of}
use Rattle.paper.specs.Verdict.{Verdict, accepted, refused, is_accepted, verdict}
use Rattle.paper.specs.Answers.{Measured, measured}
use Rattle.paper_text.specs.Text.{text, read_text}
use Rattle.paper_text.specs.Answers.{Filled, Taken, taken, area_after, room_for, text_in, write_verdict, write_answer, write_given}
use Rattle.paper_text.specs.Answers.{records_of, count_of, read_judged, read_verdict, read_answer, read_given, ReadRefused}
use Rattle.paper_text.specs.Answers.{not_a_limit, not_of_the_form, too_heavy, too_short, WriteRefused, table_refused, text_too_long}
use Rattle.paper_text.specs.Levels.{formed}
use Rattle.paper.proofs.Tests.{never}
use Rattle.paper.proofs.EncodeLaws.{encode_length}
use Rattle.paper.proofs.Refusals.{refusal_exactly}
use Rattle.paper.proofs.CallLaws.{verdict_accepted}
use Rattle.paper.proofs.LimitLaws.{limit_small}
use Rattle.paper.proofs.ReadLaws.{tree_of_written}
use Rattle.paper.proofs.TableLaws.{written_accepted}
use Rattle.paper.proofs.AcceptedLaws.{accepted_holds}
use Rattle.paper.specs.Erased.{erase}
use Rattle.paper.proofs.ErasedTrees.{erase_weight}
use Rattle.paper_text.proofs.Erasing.{erase_records}
use Rattle.paper_text.proofs.RoundTrip.{text_read}
use Rattle.paper_text.proofs.ReadTold.{TextIs, read_text_lem}

-- what is read from a text: no tree, where none has it; else the one that has it
no_tree : (s : List ℕ) → read_text s ≡ none → (t : Tree) → WF t → ¬ (text t ≡ s)
unfolding formed
no_tree s e t w q = never (ap formed (sym e ∙ ap read_text (sym q) ∙ text_read t w))

the_tree : (s : List ℕ) (t : Tree) → read_text s ≡ some t → WF t × (text t ≡ s)
the_tree s t e = subst (TextIs s) e (read_text_lem s)

-- "14 text not of this form": exactly the texts that no well-formed tree has
pub form_exactly : (s : List ℕ) → (read_text s ≡ none) ↔ ((t : Tree) → WF t → ¬ (text t ≡ s))
form_exactly s = (no_tree s, λ h. go h (read_text s) refl)
  where
    go : ((t : Tree) → WF t → ¬ (text t ≡ s)) → (o : Option Tree) → read_text s ≡ o → read_text s ≡ none
    go h none e = e
    go h (some t) e = let q = the_tree s t e in absurd (h t q.0 q.1)

-- ---- what an accepted call gives
abbrev wrote : ℕ → List ℕ → Filled Measured
wrote n area = record { answer = record { number = 0; place = 0; flaw = sound; result = n }; area = area }

abbrev took : ℕ → List ℕ → Filled Taken
took n area = record { answer = record { number = 0; place = 0; records_written = n }; area = area }

module _ (lim : ℕ) (known : is_limit lim ≡ true) (t : Tree) (w : WF t) (light : weight t ≤ lim) where
  pub writes : (area : List ℕ) → length (text t) ≤ length area
      → write_given lim (encode t) area ≡ wrote (length (text t)) (text t ++ drop (length (text t)) area)
  unfolding write_given write_answer write_verdict measured area_after is_accepted room_for text_in
  writes area h =
      let small = limit_small lim known in
      rw (written_accepted lim known t w light, tree_of_written t w (omega (arith, light, small)), le-ltb (length area) (length (text t)) h)

  pub reads : (area : List ℕ) → 16 * records t ≤ length area
      → read_given lim (text t) area ≡ took (records t) (encode (erase t) ++ drop (length (encode (erase t))) area)
  unfolding read_given read_answer read_verdict read_judged taken area_after is_accepted room_for records_of count_of
  reads area h =
      let l = encode_length (erase t) in
      let n = erase_records t in
      rw (
        known,
        text_read t w,
        le-ltb lim (weight (erase t)) (let m = erase_weight t in omega (arith, m, light)),
        le-ltb (length area) (length (encode (erase t))) (omega (arith, h, l, n)),
        erase_records t,
      )

-- what stands at the front of the area is the result
front : (p old : List ℕ) → take (length p) (p ++ drop (length p) old) ≡ p
front p old = take_at p (drop (length p) old) (length p) refl

-- the tree that an option has
unwrapped : Tree → Option Tree → Tree
unwrapped d none = d
unwrapped d (some t) = t

-- "Reading what was written gives the same records", without their marks, since "text carries no marks"
pub written_then_read : (lim : ℕ) (s area table : List ℕ) → Bytes s → (h : verdict lim s ≡ accepted) (t : Tree) → tree_of s ≡ some t
    → (g : Filled Measured) → g ≡ write_given lim s area → length (text t) ≤ length area → length s ≤ length table
    → (read_given lim (take g.answer.result g.area) table).area ≡ encode (erase t) ++ drop (length s) table
unfolding unwrapped
written_then_read lim s area table b h u r g e l m =
    let k = accepted_holds lim s b h in
    let t = k.tree in
    let same_tree : t ≡ u = ap (unwrapped u) (sym k.read ∙ r) in
    let fits : length (text t) ≤ length area = subst (λ (x : Tree). length (text x) ≤ length area) (sym same_tree) l in
    let long = encode_length t in
    let same = ap length k.written in
    let bare = encode_length (erase t) in
    let as_long : length (encode (erase t)) ≡ length s = let c = erase_records t in omega (arith, bare, c, long, same) in
    let done = e ∙ ap (λ (x : List ℕ). write_given lim x area) k.written ∙ writes lim k.known t k.wf k.light area fits in
    let result : take g.answer.result g.area ≡ text t = ap (λ (x : Filled Measured). take x.answer.result x.area) done ∙ front (text t) area in
    ap (λ (x : List ℕ). (read_given lim x table).area) result
    ∙ ap (λ (x : Filled Taken). x.area) (reads lim k.known t k.wf k.light table (omega (arith, long, same, m)))
    ∙ ap (λ (x : ℕ). encode (erase t) ++ drop x table) as_long
    ∙ ap (λ (x : Tree). encode (erase x) ++ drop (length s) table) same_tree

-- "Q-6's exactness is for trees without": where no record has a mark, the very bytes
pub unmarked_then_read : (lim : ℕ) (s area table : List ℕ) → Bytes s → (h : verdict lim s ≡ accepted) (t : Tree) → tree_of s ≡ some t → erase t ≡ t
    → (g : Filled Measured) → g ≡ write_given lim s area → length (text t) ≤ length area → length s ≤ length table
    → (read_given lim (take g.answer.result g.area) table).area ≡ s ++ drop (length s) table
unfolding unwrapped
unmarked_then_read lim s area table b h t r bare g e l m =
    let k = accepted_holds lim s b h in
    let same_tree : k.tree ≡ t = ap (unwrapped t) (sym k.read ∙ r) in
    written_then_read lim s area table b h t r g e l m
    ∙ ap (λ (x : List ℕ). x ++ drop (length s) table) (ap encode (bare ∙ sym same_tree) ∙ sym k.written)

-- "writing what was read gives the same text"
pub read_then_written : (lim : ℕ) → is_limit lim ≡ true → (s area line : List ℕ) (t : Tree) → read_text s ≡ some t → weight t ≤ lim → 16 * records t ≤
    length area
    → length s ≤ length line → (g : Filled Taken) → g ≡ read_given lim s area
    → write_given lim (take (16 * g.answer.records_written) g.area) line ≡ wrote (length s) (s ++ drop (length s) line)
unfolding unwrapped
read_then_written lim known s area line t e light room l g q =
    let h = the_tree s t e in
    let n = encode_length t in
    let same = ap length h.1 in
    let bare : erase t ≡ t = ap (unwrapped t) (sym (text_read t h.0) ∙ ap read_text h.1 ∙ e) in
    let got = q ∙ ap (λ (x : List ℕ). read_given lim x area) (sym h.1) ∙ reads lim known t h.0 light area room
    ∙ ap (λ (x : Tree). took (records t) (encode x ++ drop (length (encode x)) area)) bare in
    let result : take (16 * g.answer.records_written) g.area ≡ encode t =
    ap (λ (x : Filled Taken). take (16 * x.answer.records_written) x.area) got
    ∙ ap (λ (k : ℕ). take k (encode t ++ drop (length (encode t)) area)) (sym n) ∙ front (encode t) area in
    ap (λ (x : List ℕ). write_given lim x line) result ∙ writes lim known t h.0 light line (omega (arith, same, l))
    ∙ ap (λ (x : List ℕ). wrote (length x) (x ++ drop (length x) line)) h.1

-- ---- the reader's refusals, each exactly when it is given
module _ (lim : ℕ) (s area : List ℕ) where
  refusal_read : (k : ℕ) → ReadRefused lim s area k → read_verdict lim (read_text s) area ≡ refused k 0
  unfolding read_verdict read_judged room_for
  refusal_read k (not_a_limit u) = rw u
  refusal_read k (not_of_the_form u h) = rw (u, (form_exactly s).1 h)
  refusal_read k (too_heavy u t w q l) =
      rw (u, ap read_text (sym q) ∙ text_read t w, lt-ltb lim (weight (erase t)) (let m = erase_weight t in omega (arith, m, l)))
  refusal_read k (too_short u t w q l m) =
      let n = encode_length (erase t) in
      let r = erase_records t in
      rw (
        u,
        ap read_text (sym q) ∙ text_read t w,
        le-ltb lim (weight (erase t)) (let v = erase_weight t in omega (arith, v, l)),
        lt-ltb (length area) (length (encode (erase t))) (omega (arith, m, n, r)),
      )

  number_of : {v : Verdict} {k p : ℕ} → v ≡ refused k p → v.number ≡ k
  number_of e = ap (λ (x : Verdict). x.number) e

  read_refusal : (k : ℕ) → 0 < k → read_verdict lim (read_text s) area ≡ refused k 0 → ReadRefused lim s area k
  unfolding read_verdict read_judged room_for
  read_refusal k h e = known (is_limit lim) refl e
    where
      room : is_limit lim ≡ true → (t : Tree) → WF t → text t ≡ s → weight t ≤ lim → (b : Bool) → ltb (length area) (length (encode t)) ≡ b
          → cond b (refused 6 0) accepted ≡ refused k 0 → ReadRefused lim s area k
      room u t w q l true c d =
          let n = encode_length t in
          let m = ltb-true (length area) (length (encode t)) c in
          subst (ReadRefused lim s area) (number_of d) (too_short u t w q l (omega (arith, m, n)))
      room u t w q l false c d = absurd (let z = number_of d in omega (arith, z, h))

      weighed : is_limit lim ≡ true → (t : Tree) → WF t → text t ≡ s → (b : Bool) → ltb lim (weight t) ≡ b
          → cond b (refused 3 0) (cond (ltb (length area) (length (encode t))) (refused 6 0) accepted) ≡ refused k 0 → ReadRefused lim s area k
      weighed u t w q true c d = subst (ReadRefused lim s area) (number_of d) (too_heavy u t w q (ltb-true lim (weight t) c))
      weighed u t w q false c d = room u t w q (ltb-false lim (weight t) c) (ltb (length area) (length (encode t))) refl d

      go : is_limit lim ≡ true → (o : Option Tree) → read_text s ≡ o → read_judged lim o area ≡ refused k 0 → ReadRefused lim s area k
      go u none c d = subst (ReadRefused lim s area) (number_of d) (not_of_the_form u (no_tree s c))
      go u (some t) c d = let q = the_tree s t c in weighed u t q.0 q.1 (ltb lim (weight t)) refl d

      known : (b : Bool) → is_limit lim ≡ b → cond b (read_judged lim (read_text s) area) (refused 19 0) ≡ refused k 0 → ReadRefused lim s area k
      known true u d = go u (read_text s) refl d
      known false u d = subst (ReadRefused lim s area) (number_of d) (not_a_limit u)

  pub read_refusal_exactly : (k : ℕ) → 0 < k → (read_verdict lim (read_text s) area ≡ refused k 0) ↔ ReadRefused lim s area k
  read_refusal_exactly k h = (read_refusal k h, refusal_read k)

-- ---- the writer's refusals, likewise
module _ (lim : ℕ) (s area : List ℕ) where
  abbrev At : ℕ → ℕ → Verdict → Type 0
  At k p v = (v.number ≡ k) × (v.place ≡ p)

  write_refusal : (k p : ℕ) → Bytes s → 0 < k → At k p (write_verdict lim s area) → WriteRefused lim s area k p
  unfolding write_verdict room_for text_in is_accepted
  write_refusal k p b h e = go (is_accepted (verdict lim s)) refl e
    where
      room : is_limit lim ≡ true → (t : Tree) → WF t → s ≡ encode t → weight t ≤ lim → (c : Bool) → ltb (length area) (length (text t)) ≡ c
          → At k p (cond c (refused 6 0) accepted) → WriteRefused lim s area k p
      room u t w q l true c d =
          subst (λ (i : ℕ). WriteRefused lim s area i p) d.0
          (subst (λ (j : ℕ). WriteRefused lim s area 6 j) d.1 (text_too_long u t w q l (ltb-true (length area) (length (text t)) c)))
      room u t w q l false c d = absurd (let z = d.0 in omega (arith, z, h))

      go : (c : Bool) → is_accepted (verdict lim s) ≡ c → At k p (cond c (room_for (text_in (tree_of s)) area) (verdict lim s)) → WriteRefused lim s area k p
      go true c d =
          let g = accepted_holds lim s b (verdict_accepted lim s c) in
          room g.known g.tree g.wf g.written g.light (ltb (length area) (length (text g.tree))) refl
          (subst (λ (o : Option Tree). At k p (room_for (text_in o) area)) g.read d)
      go false c d = table_refused ((refusal_exactly lim s k p h).0 d)

  refusal_write : (k p : ℕ) → 0 < k → WriteRefused lim s area k p → At k p (write_verdict lim s area)
  unfolding write_verdict room_for text_in is_accepted
  refusal_write k p h (table_refused l) =
      let e = (refusal_exactly lim s k p h).1 l in
      let n = e.0 in
      rw (ne_eqb (verdict lim s).number 0 (λ z. absurd (omega (arith, z, n, h)))) e
  refusal_write k p h (text_too_long u t w q l m) =
      let small = limit_small lim u in
      rw (q, written_accepted lim u t w l, tree_of_written t w (omega (arith, l, small)), lt-ltb (length area) (length (text t)) m) (refl, refl)

  pub write_refusal_exactly : (k p : ℕ) → Bytes s → 0 < k → At k p (write_verdict lim s area) ↔ WriteRefused lim s area k p
  write_refusal_exactly k p b h = (write_refusal k p b h, refusal_write k p h)

-- Opened weights from records, capped. Adding commutes with capping, so a sum of capped weights, capped, is the capped sum; what a symbol counts
-- is then the capped weight of what replaces it, and a table counts what its opened tree weighs. One round goes one definition deeper.
use Prim.Native.Nat.{ℕ, zero, suc, ◌+◌, ◌-◌, ◌≤◌, ◌<◌, min}
use mathlib.Core.Path.{◌≡◌, refl, sym, ap, ◌∙◌, subst}
use mathlib.Core.Bool.{Bool, true, false, cond}
use mathlib.Core.List.{List}
use mathlib.Core.Option.{Option, none, some}
use native.Mathlib.Nat.{zero-add, add-zero, sub-zero}
use native.Mathlib.Omega.{arith}
use lib.ListN.{length, get_or, set, replicate}
use Rattle.std.specs.Prelude.{Some, None, IfSome}
use Rattle.std.specs.Prelude as code
use lib.Seq.{get_or-set_same, get_or-set_other}
use lib.Dec.{eqb}
use borrow.Author.Tests.{eq-eqb, ne_eqb}
use Rattle.paper.specs.Bytes.{Bytes}
use Rattle.paper.specs.Tree.{Tree, weight}
use Rattle.paper.specs.WellFormed.{WF}
use Rattle.paper.specs.Record.{kind, symbol_in}
use Rattle.paper.specs.Verdict.{records_in}
use Rattle.paper.specs.Table.{encode}
use Rattle.paper.proofs.EncodeLaws.{encode_bytes}
use Rattle.paper.proofs.RecordLaws.{symbol_lt}
use Rattle.paper_shared.specs.Shared.{Definition, defined, make, open_within, again_within}
use Rattle.paper_shared.specs.Records.{joined, over_records, instead, weight_at, weigh_from, weight_for}
use Rattle.paper_shared.proofs.FlatLaws.{opened_weight}
use Rattle.replace.specs.Weighed.{known, told, capped, count_of, counts, count_at, weighs, most_counted, AllCounted}
use Rattle.replace.specs.Index.{piece_at, Found, FoundAt, Index, Knows}
use Rattle.replace.proofs.PartLaws.{either_way}

pub capped_adds : (lim : ℕ) (o p : Option ℕ) → capped lim (joined ◌+◌ o p) ≡ capped lim (joined ◌+◌ (capped lim o) (capped lim p))
unfolding capped joined make
capped_adds lim none p = refl
capped_adds lim (some a) none = refl
capped_adds lim (some a) (some b) = ap some (omega arith)

-- what record i counts, and the records from i on
unfoldable pub here : (ℕ → ℕ → Option ℕ) → List ℕ → ℕ → Option ℕ
here f s i = cond (eqb (kind s i) 1) (f (symbol_in s i) (weight_at s i)) (some (weight_at s i))

weigh_none : (f : ℕ → ℕ → Option ℕ) (s : List ℕ) (i : ℕ) → weigh_from f s i 0 ≡ some 0
unfolding weigh_from over_records
weigh_none f s i = refl

weigh_suc : (f : ℕ → ℕ → Option ℕ) (s : List ℕ) (i n : ℕ) → weigh_from f s i (suc n) ≡ joined ◌+◌ (here f s i) (weigh_from f s (i + 1) n)
unfolding weigh_from over_records here
weigh_suc f s i n = refl

-- counts that agree when capped weigh alike when capped
module _ (lim : ℕ) (f g : ℕ → ℕ → Option ℕ) (e : (x own : ℕ) → x < 256 → capped lim (f x own) ≡ capped lim (g x own)) (s : List ℕ) (b : Bytes s) where
  here_alike : (i : ℕ) → capped lim (here f s i) ≡ capped lim (here g s i)
  unfolding here
  here_alike i = go (eqb (kind s i) 1)
    where
      go : (c : Bool)
          → capped lim (cond c (f (symbol_in s i) (weight_at s i)) (some (weight_at s i)))
          ≡ capped lim (cond c (g (symbol_in s i) (weight_at s i)) (some (weight_at s i)))
      go true = e (symbol_in s i) (weight_at s i) (symbol_lt s i b)
      go false = refl

  weigh_alike : (n i : ℕ) → capped lim (weigh_from f s i n) ≡ capped lim (weigh_from g s i n)
  weigh_alike zero i = ap (capped lim) (weigh_none f s i ∙ sym (weigh_none g s i))
  weigh_alike (suc n) i =
      ap (capped lim) (weigh_suc f s i n)
      ∙ capped_adds lim (here f s i) (weigh_from f s (i + 1) n)
      ∙ rw (here_alike i, weigh_alike n (i + 1)) (sym (capped_adds lim (here g s i) (weigh_from g s (i + 1) n)))
      ∙ sym (ap (capped lim) (weigh_suc g s i n))

known_told : (o : Option ℕ) → known (told o) ≡ o
unfolding known told
known_told none = refl
known_told (some w) = refl

capped_twice : (lim : ℕ) (o : Option ℕ) → capped lim (capped lim o) ≡ capped lim o
unfolding capped make
capped_twice lim none = refl
capped_twice lim (some w) = ap some (omega arith)

-- what a symbol counts is the capped weight of what replaces it
module _ (lim : ℕ) (ds : List Definition) (definitions which from : List ℕ) (weights : List (code.Option ℕ)) (n r : ℕ)
    (index : Index ds definitions which from n) (knows : Knows lim ds which weights r) where
  counts_known : (x own : ℕ) → x < 256 → capped lim (counts which weights x own) ≡ capped lim (weight_for ds (again_within ds r) x own)
  unfolding counts count_of weight_for instead
  counts_known x own l = go (defined ds x) refl (index.finds x l) (knows x)
    where
      found : (c : ℕ) (k : code.Option ℕ) → 0 < c → get_or weights (c - 1) None ≡ k → count_of weights own c ≡ known k
      found zero k p e = absurd (omega arith)
      found (suc c) k p e = let q : suc c - 1 ≡ c = omega arith in ap known (sym (ap (λ (m : ℕ). get_or weights m None) q) ∙ e)

      none_found : (c : ℕ) → c ≡ 0 → count_of weights own c ≡ some own
      none_found c e = rw e

      go : (o : Option Tree) → defined ds x ≡ o → Found definitions from n (get_or which x 0) o
          → ((u : Tree) → x < 256 → defined ds x ≡ some u → get_or weights (get_or which x 0 - 1) None ≡ told (capped lim (make weight (again_within ds r u))))
          → capped lim (count_of weights own (get_or which x 0)) ≡ capped lim (instead own (λ u. make weight (again_within ds r u)) o)
      go none e f k = ap (capped lim) (none_found (get_or which x 0) f)
      go (some u) e f k =
          ap (capped lim) (found (get_or which x 0) _ f.positive (k u l e) ∙ known_told (capped lim (make weight (again_within ds r u))))
          ∙ capped_twice lim (make weight (again_within ds r u))

  -- a table counts what its tree weighs, opened r deep
  pub weighs_opened : (t : Tree) → WF t → weighs lim which weights (encode t) ≡ told (capped lim (make weight (open_within ds r t)))
  unfolding weighs
  weighs_opened t w =
      ap told
      (weigh_alike lim (counts which weights) (weight_for ds (again_within ds r)) counts_known (encode t) (encode_bytes t) (records_in (encode t)) 0
      ∙ ap (capped lim) (opened_weight ds r t w))

  -- one round
  knows_more : (next : List (code.Option ℕ)) → ((j : ℕ) → j < n → get_or next j None ≡ weighs lim which weights (piece_at definitions from j))
      → Knows lim ds which next (suc r)
  unfolding again_within
  knows_more next e x u l d =
      let f = told_found x u d (index.finds x l) in
      let p = f.positive in
      let q = f.few in
      e (get_or which x 0 - 1) (omega arith) ∙ ap (weighs lim which weights) f.written ∙ weighs_opened u f.wf
    where
      told_found : (x : ℕ) (u : Tree) → defined ds x ≡ some u → Found definitions from n (get_or which x 0) (defined ds x)
          → FoundAt definitions from n (get_or which x 0) u
      told_found x u d f = subst (λ (o : Option Tree). Found definitions from n (get_or which x 0) o) d f

  pub knows_next : (next : List (code.Option ℕ)) → ((j : ℕ) → j < n → get_or next j None ≡ weighs lim which weights (piece_at definitions from j))
      → Knows lim ds which next (r + 1)
  knows_next next e = let q : suc r ≡ r + 1 = omega arith in subst (λ (m : ℕ). Knows lim ds which next m) q (knows_more next e)

-- before the first round nothing is known
pub knows_none : (lim : ℕ) (ds : List Definition) (which : List ℕ) (weights : List (code.Option ℕ)) → ((j : ℕ) → get_or weights j None ≡ None)
    → Knows lim ds which weights 0
unfolding told capped make again_within
knows_none lim ds which weights h x u l d = h (get_or which x 0 - 1)

-- ---- sums of counts
zero_joined : (o : Option ℕ) → joined ◌+◌ (some 0) o ≡ o
unfolding joined
zero_joined none = refl
zero_joined (some a) = ap some (zero-add a)

none_joined : (w : ℕ) (o : Option ℕ) → joined ◌+◌ (some w) (joined ◌+◌ none o) ≡ none
unfolding joined
none_joined w o = refl

joined_joined : (w k : ℕ) (o : Option ℕ) → joined ◌+◌ (some (w + k)) o ≡ joined ◌+◌ (some w) (joined ◌+◌ (some k) o)
unfolding joined
joined_joined w k none = refl
joined_joined w k (some a) = ap some (omega arith)

there : (o : Option ℕ) (k : ℕ) → Some k ≡ told o → o ≡ some k
unfolding told
there none k e = cc
there (some a) k e = cc

not_there : (o : Option ℕ) → None ≡ told o → o ≡ none
unfolding told
not_there none e = refl
not_there (some a) e = cc

-- ---- one table's loop: what is added so far, and the records left
module _ (which : List ℕ) (weights : List (code.Option ℕ)) (s : List ℕ) (n : ℕ) where
  -- the records from i on, on top of w
  unfoldable pub on_top : ℕ → ℕ → Option ℕ
  on_top w i = joined ◌+◌ (some w) (weigh_from (counts which weights) s i (n - i))

  pub on_top_none : on_top 0 0 ≡ weigh_from (counts which weights) s 0 n
  unfolding on_top
  on_top_none = rw (sub-zero n) (zero_joined (weigh_from (counts which weights) s 0 n))

  next : (w i : ℕ) → i < n → on_top w i ≡ joined ◌+◌ (some w)
      (joined ◌+◌ (count_at which weights s i) (weigh_from (counts which weights) s (i + 1) (n - (i + 1))))
  unfolding on_top count_at here
  next w i l =
      let q : n - i ≡ suc (n - (i + 1)) = omega arith in
      rw q (ap (λ (o : Option ℕ). joined ◌+◌ (some w) o) (weigh_suc (counts which weights) s i (n - (i + 1))))

  pub on_top_stops : (w i : ℕ) → i < n → None ≡ told (count_at which weights s i) → on_top w i ≡ none
  on_top_stops w i l e = next w i l ∙ rw (not_there (count_at which weights s i) e) (none_joined w (weigh_from (counts which weights) s (i + 1) (n - (i + 1))))

  pub on_top_turn : (w i k : ℕ) → i < n → Some k ≡ told (count_at which weights s i) → on_top (w + k) (i + 1) ≡ on_top w i
  unfolding on_top
  on_top_turn w i k l e =
      joined_joined w k (weigh_from (counts which weights) s (i + 1) (n - (i + 1)))
      ∙ sym (next w i l ∙ rw (there (count_at which weights s i) k e))

  pub on_top_ends : (w i : ℕ) → n ≤ i → on_top w i ≡ some w
  unfolding on_top joined
  on_top_ends w i l = let q : n - i ≡ 0 = omega arith in rw (q, weigh_none (counts which weights) s i) (ap some (add-zero w))

-- so the table counts the sum, capped, and nothing where a record counts nothing
module _ (lim : ℕ) (which : List ℕ) (weights : List (code.Option ℕ)) (s : List ℕ) (w i n : ℕ) (r : n ≡ records_in s)
    (e : on_top which weights s n w i ≡ weigh_from (counts which weights) s 0 n) where
  pub weighs_none : on_top which weights s n w i ≡ none → None ≡ weighs lim which weights s
  unfolding weighs capped told make
  weighs_none h = rw (← r) (rw (sym e ∙ h))

  pub weighs_sum : on_top which weights s n w i ≡ some w → Some (min w (lim + 1)) ≡ weighs lim which weights s
  unfolding weighs capped told make
  weighs_sum h = rw (← r) (rw (sym e ∙ h) refl)

-- ---- what one record counts
told_known : (k : code.Option ℕ) → k ≡ told (known k)
unfolding told known
told_known None = refl
told_known (Some k) = refl

module _ (which : List ℕ) (weights : List (code.Option ℕ)) (s : List ℕ) (i : ℕ) where
  pub count_other : ¬ (kind s i ≡ 1) → Some 1 ≡ told (count_at which weights s i)
  unfolding count_at told weight_at
  count_other n = rw (ne_eqb (kind s i) 1 n)

  pub count_plain : kind s i ≡ 1 → get_or which (symbol_in s i) 0 ≡ 0 → Some 3 ≡ told (count_at which weights s i)
  unfolding count_at counts count_of told weight_at
  count_plain e z = rw (eq-eqb (kind s i) 1 e, z)

  pub count_defined : kind s i ≡ 1 → (k : ℕ) → get_or which (symbol_in s i) 0 ≡ k + 1 → get_or weights k None ≡ told (count_at which weights s i)
  unfolding count_at counts count_of weight_at
  count_defined e k q =
      let m : k + 1 ≡ suc k = omega arith in
      rw (eq-eqb (kind s i) 1 e, q ∙ m) (told_known (get_or weights k None))

-- ---- rounds
pub nones : (n j : ℕ) → get_or {A = code.Option ℕ} (replicate n None) j None ≡ None
nones zero j = refl
nones (suc n) zero = refl
nones (suc n) (suc j) = nones n j

pub next_turn : (next : List (code.Option ℕ)) (P : ℕ → code.Option ℕ) (j : ℕ) (r : code.Option ℕ) → length next ≡ 16 → j < 16 → r ≡ P j
    → ((k : ℕ) → k < j → get_or next k None ≡ P k) → (k : ℕ) → k < j + 1 → get_or (set next j r) k None ≡ P k
next_turn next P j r l m e h k u =
    either_way k j
    (λ q. rw q (get_or-set_same next j r None (omega arith) ∙ e))
    (λ q. get_or-set_other next j k r None q ∙ h k (omega (arith, q)))

pub next_counted : (next : List (code.Option ℕ)) (j : ℕ) (r : code.Option ℕ) → length next ≡ 16 → j < 16 → IfSome r (λ w. w ≤ most_counted)
    → AllCounted next → AllCounted (set next j r)
next_counted next j r l m e h k u =
    let Counted : code.Option ℕ → Type 0 = λ o. IfSome o (λ w. w ≤ most_counted) in
    either_way k j
    (λ q. subst Counted (sym (ap (λ i. get_or (set next j r) i None) q ∙ get_or-set_same next j r None (omega arith))) e)
    (λ q. subst Counted (sym (get_or-set_other next j k r None q)) (h k u))

pub none_counted : (n : ℕ) → AllCounted (replicate n None)
none_counted n j l = subst (λ (o : code.Option ℕ). IfSome o (λ w. w ≤ most_counted)) (sym (nones n j)) tt

pub which_few : (ds : List Definition) (definitions which from : List ℕ) (n : ℕ) → Index ds definitions which from n → n ≤ 16
    → (x : ℕ) → x < 256 → get_or which x 0 ≤ 16
which_few ds definitions which from n index u x l = go (defined ds x) (index.finds x l)
  where
    go : (o : Option Tree) → Found definitions from n (get_or which x 0) o → get_or which x 0 ≤ 16
    go none e = omega arith
    go (some t) f = let q = f.few in omega arith

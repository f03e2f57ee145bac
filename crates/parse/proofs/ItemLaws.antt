-- Items in parentheses, and items raised to a power. What a tree is read as tells what the group and the power are read as.
use Prim.Native.Nat.{ℕ, zero, suc, ◌+◌, ◌-◌, ◌*◌, ◌^◌, ◌≤◌, ◌<◌}
use mathlib.Core.Path.{◌≡◌, refl, sym, ap, ◌∙◌, subst}
use mathlib.Core.Bool.{Bool, true, false, cond}
use mathlib.Core.List.{List}
use mathlib.Core.Option.{none, some}
use native.Mathlib.Omega.{arith}
use borrow.Author.Tests.{ltb-true, ltb-false, lt-leb, le-leb}
use lib.Dec.{ltb, leb}
use lib.ListN.{length, drop}
use Rattle.paper.specs.Tree.{Tree, power, weight}
use Rattle.paper_text.specs.Text.{closes, power_sign, Place, in_sum, in_product, as_base, needs, Reading, then}
use Rattle.paper_text.specs.Text.{begins, read_number, closed, exponent_after, raised_by, bare, grouped, fit, fits}
use Rattle.paper_text.specs.Text as paper
use Rattle.paper_text.specs.Levels.{rank}
use Rattle.paper_text.proofs.PlaceLaws.{sign_inside, tail_there}
use Rattle.paper_text.proofs.ReadTold.{Told}
use Rattle.paper.proofs.EncodeLaws.{records_weight}
use Rattle.paper_text.proofs.LevelLaws.{needs_rank, needs_by_rank}
use Rattle.std.specs.Prelude.{Some, None}
use Rattle.decimal.specs.Digits.{NumberRead}
use Rattle.parse.specs.declared.Item.{Item}
use Rattle.parse.specs.Parsed.{Laid, Stands, Found, wrap, bared, raising, fitted}
use Rattle.parse.specs.Joined.{bound}

-- what stands in one reading stands in another that reads it too
pub restand : {s : List ℕ} {at : ℕ} {o o' : Reading paper.Item} {wrap : Tree → paper.Item} {L : Tree → Type 0} {k e w : ℕ} (h : Stands s at o wrap L k e w)
    → o' ≡ some (wrap h.tree, drop e s) → Stands s at o' wrap L k e w
restand h q =
    record {
      tree = h.tree;
      read = q;
      ranked = h.ranked;
      weighs = h.weighs;
      ahead = h.ahead;
      within = h.within;
      light = h.light;
      laid = h.laid;
    }

-- ---- a tree that is read stands bare
-- what `bared` says of a reading
abbrev BaredIs : Reading Tree → Reading paper.Item → Type 0
BaredIs none none = Unit {0}
BaredIs none (some x) = ⊥
BaredIs (some y) none = ⊥
BaredIs (some y) (some x) = (x.0 ≡ bare y.0) × (x.1 ≡ y.1)

bared_is : (o : Reading Tree) → BaredIs o (bared o)
unfolding bared then
bared_is none = tt
bared_is (some y) = (refl, refl)

pub bared_none : (o : Reading Tree) → bared o ≡ none → o ≡ none
unfolding bared then
bared_none none e = refl
bared_none (some y) e = let z : ◌≡◌ {A = ℕ} 0 1 = cc in absurd (omega arith)

pub bared_bare : (o : Reading Tree) (t : Tree) (r : List ℕ) → bared o ≡ some (bare t, r) → o ≡ some (t, r)
bared_bare o t r e = go o (subst (BaredIs o) e (bared_is o))
  where
    same : (t u : Tree) → bare t ≡ bare u → u ≡ t
    same t u e = cc

    go : (o : Reading Tree) → BaredIs o (some (bare t, r)) → o ≡ some (t, r)
    go none h = absurd h
    go (some (u, q)) h = ap (λ (x : Tree). some (x, q)) (same t u h.0) ∙ ap (λ (x : List ℕ). some (t, x)) (sym h.1)

pub bared_grouped : (o : Reading Tree) (t : Tree) (r : List ℕ) → bared o ≡ some (grouped t, r) → ⊥
bared_grouped o t r e = go o (subst (BaredIs o) e (bared_is o))
  where
    apart : (t u : Tree) → grouped t ≡ bare u → ⊥
    apart t u e = let z : ◌≡◌ {A = ℕ} 0 1 = cc in omega arith

    go : (o : Reading Tree) → BaredIs o (some (grouped t, r)) → ⊥
    go none h = h
    go (some (u, q)) h = apart t u h.0

pub bare_found : (s : List ℕ) (at : ℕ) (o : Reading Tree) (L : ℕ → Tree → Type 0) (i : Item) → Found s at (bared o) L i
    → Stands s at (bared o) bare (L i.end) i.form.rank i.next i.weight
bare_found s at o L i h = go i.form.grouped h
  where
    go : (g : Bool) → Stands s at (bared o) (wrap g) (L i.end) i.form.rank i.next i.weight → Stands s at (bared o) bare (L i.end) i.form.rank i.next i.weight
    go false y = y
    go true y = absurd (bared_grouped o y.tree (drop i.next s) y.read)

-- ---- a group
module _ (s : List ℕ) (at : ℕ) (o : Reading Tree) where
  pub nothing_closed : bared o ≡ none → then o closed ≡ none
  unfolding then
  nothing_closed h = rw (bared_none o h)

  pub is_closed : {L : Tree → Type 0} {k e w : ℕ} → begins closes (drop e s) ≡ true → Stands s (at + 1) (bared o) bare L k e w
      → Stands s at (then o closed) grouped L k (e + 1) w
  unfolding then closed
  is_closed {L} {k} {e} {w} b h =
      let i = sign_inside s e closes b in
      let a = h.ahead in
      let l = h.light in
      record {
        tree = h.tree;
        read = rw (bared_bare o h.tree (drop e s) h.read, b, tail_there s e i);
        ranked = h.ranked;
        weighs = h.weighs;
        ahead = omega (arith, a);
        within = omega (arith, i);
        light = omega (arith, l, a);
        laid = h.laid;
      }

  pub not_closed : {L : Tree → Type 0} {k e w : ℕ} → begins closes (drop e s) ≡ false → Stands s (at + 1) (bared o) bare L k e w → then o closed ≡ none
  unfolding then closed
  not_closed {L} {k} {e} {w} b h = rw (bared_bare o h.tree (drop e s) h.read, b)

-- ---- an item as a member
needs_from : (p : Place) (t : Tree) → needs p t ≡ leb (bound p) (rank t)
unfolding bound needs_rank
needs_from in_sum t = needs_by_rank in_sum t
needs_from in_product t = needs_by_rank in_product t
needs_from as_base t = needs_by_rank as_base t

pub record FitIs (p : Place) (s : List ℕ) (at : ℕ) (o : Reading paper.Item) (L : Tree → Type 0) (e w : ℕ) : Type 0 where
  pub item : paper.Item
  pub tree : Tree
  pub read : o ≡ some (item, drop e s)
  pub fits_there : fits p item ≡ some tree
  pub weighs : w ≡ weight tree
  pub ahead : at < e
  pub within : e ≤ length s
  pub light : w + 1 ≤ 2 * (e - at)
  pub laid : L tree

-- what is read and does not fit, n being the place after it
pub record Misfit (p : Place) (s : List ℕ) (n : ℕ) (i : paper.Item) (r : List ℕ) : Type 0 where
  pub unfit : fits p i ≡ none
  pub place : r ≡ drop n s

abbrev pub MemberIs : Place → List ℕ → ℕ → Reading paper.Item → (Tree → Type 0) → ℕ → ℕ → Bool → Type 0
MemberIs p s at o L e w true = FitIs p s at o L e w
MemberIs p s at o L e w false = Told (Misfit p s e) o

fit_is : {p : Place} {s : List ℕ} {at : ℕ} {o : Reading paper.Item} {wrap : Tree → paper.Item} {L : Tree → Type 0} {k e w : ℕ}
    (h : Stands s at o wrap L k e w) → fits p (wrap h.tree) ≡ some h.tree → FitIs p s at o L e w
fit_is {wrap = wrap} h f =
    record {
      item = wrap h.tree;
      tree = h.tree;
      read = h.read;
      fits_there = f;
      weighs = h.weighs;
      ahead = h.ahead;
      within = h.within;
      light = h.light;
      laid = h.laid;
    }

module _ (p : Place) (s : List ℕ) (at : ℕ) (o : Reading paper.Item) (L : Tree → Type 0) (k e w : ℕ) where
  need : {wrap : Tree → paper.Item} (h : Stands s at o wrap L k e w) (b : Bool) → leb (bound p) k ≡ b → needs p h.tree ≡ b
  need h b y = needs_from p h.tree ∙ ap (leb (bound p)) (sym h.ranked) ∙ y

  bare_member : Stands s at o bare L k e w → (b : Bool) → ltb k (bound p) ≡ b → MemberIs p s at o L e w b
  unfolding fits fit
  bare_member h true y = fit_is h (rw (need h false (lt-leb (bound p) k (ltb-true k (bound p) y))))
  bare_member h false y =
      subst (Told (Misfit p s e)) (sym h.read)
      (record { unfit = rw (need h true (le-leb (bound p) k (ltb-false k (bound p) y))); place = refl })

  grouped_member : Stands s at o grouped L k e w → (b : Bool) → leb (bound p) k ≡ b → MemberIs p s at o L e w b
  unfolding fits fit
  grouped_member h true y = fit_is h (rw (need h true y))
  grouped_member h false y = subst (Told (Misfit p s e)) (sym h.read) (record { unfit = rw (need h false y); place = refl })

  member_as : (g : Bool) → Stands s at o (wrap g) L k e w → (b : Bool) → cond g (leb (bound p) k) (ltb k (bound p)) ≡ b → MemberIs p s at o L e w b
  member_as true h b y = grouped_member h b y
  member_as false h b y = bare_member h b y

pub member : (p : Place) (s : List ℕ) (at : ℕ) (o : Reading paper.Item) (L : ℕ → Tree → Type 0) (i : Item) → Found s at o L i → (b : Bool)
    → fitted (bound p) i.form ≡ b → MemberIs p s at o (L i.end) i.next i.weight b
member p s at o L i h b y = member_as p s at o (L i.end) i.form.rank i.next i.weight i.form.grouped h b y

-- ---- a power
module _ (s : List ℕ) (at : ℕ) (o : Reading paper.Item) where
  pub not_raised : (L : ℕ → Tree → Type 0) (i : Item) → Found s at o L i → begins power_sign (drop i.next s) ≡ false → Found s at (then o raising) L i
  unfolding then raising
  not_raised L i h b = restand h (rw (h.read, b))

  pub unfit_raised : (n : ℕ) → Told (Misfit as_base s n) o → begins power_sign (drop n s) ≡ true → then o raising ≡ none
  unfolding then raising raised_by
  unfit_raised n h b = go o h
    where
      go : (o : Reading paper.Item) → Told (Misfit as_base s n) o → then o raising ≡ none
      go none h = refl
      go (some (i, r)) h = rw (h.place, b, h.unfit)

  raising_read : (L : Tree → Type 0) (e w : ℕ) (f : FitIs as_base s at o L e w) → begins power_sign (drop e s) ≡ true
      → then o raising ≡ then (read_number (2 ^ 63) (drop (e + 1) s)) (exponent_after f.tree (drop (e + 1) s))
  unfolding then raising raised_by
  raising_read L e w f b = rw (f.read, b, f.fits_there, tail_there s e (sign_inside s e power_sign b))

  pub no_exponent : (L : Tree → Type 0) (e w : ℕ) → FitIs as_base s at o L e w → begins power_sign (drop e s) ≡ true
      → NumberRead (2 ^ 63) s (e + 1) None → then o raising ≡ none
  unfolding then
  no_exponent L e w f b r = raising_read L e w f b ∙ rw (← r.reads)

  pub exponent_nought : (L : Tree → Type 0) (e w v g : ℕ) → FitIs as_base s at o L e w → begins power_sign (drop e s) ≡ true
      → NumberRead (2 ^ 63) s (e + 1) (Some (v, g)) → v < 1
      → then o raising ≡ none
  unfolding then exponent_after
  exponent_nought L e w zero g f b r h = raising_read L e w f b ∙ rw (← r.reads)
  exponent_nought L e w (suc v) g f b r h = absurd (omega (arith, h))

  pub is_raised : (L L' : Tree → Type 0) (e w v g : ℕ) → FitIs as_base s at o L e w → begins power_sign (drop e s) ≡ true
      → NumberRead (2 ^ 63) s (e + 1) (Some (v, g))
      → 1 ≤ v → ((t : Tree) → L t → L' (power 0 t 0 v)) → Stands s at (then o raising) bare L' 1 g (w + 2)
  unfolding then exponent_after rank weight
  is_raised L L' e w zero g f b r h step = absurd (omega (arith, h))
  is_raised L L' e w (suc v) g f b r h step =
      let a = r.ahead.0 in
      let l = f.light in
      let c = f.ahead in
      let q = f.weighs in
      record {
        tree = power 0 f.tree 0 (suc v);
        read = raising_read L e w f b ∙ rw (← r.reads);
        ranked = refl;
        weighs = omega (arith, q);
        ahead = omega (arith, a, c);
        within = r.ahead.1;
        light = omega (arith, a, c, l);
        laid = step f.tree f.laid;
      }

-- ---- the record after an item: a tree has no more records than weight, and weighs less than twice its characters
module _ (s : List ℕ) (at : ℕ) (o : Reading paper.Item) (old new : List ℕ) (d : ℕ) (low : d ≤ 2 * at) where
  pub stands_sized : {wrap : Tree → paper.Item} {k e w q : ℕ} → Stands s at o wrap (Laid old d new q) k e w
      → (w + 1 ≤ 2 * length s) × (d ≤ q) × (q + 1 ≤ 2 * e) × (e ≤ length s)
  stands_sized h =
      let l = h.light in
      let n = h.within in
      let a = h.ahead in
      let g = h.weighs in
      let x = h.laid.next in
      let r = records_weight h.tree in
      (omega (arith, l, n), omega (arith, x), omega (arith, x, r, g, l, low, a), n)

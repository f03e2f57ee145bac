-- What a text weighs: a shallow one is read whole, a deeper one has a tree over the limit or none.
use Prim.Native.Nat.{ℕ, zero, suc, ◌+◌, ◌-◌, ◌*◌, ◌/◌, ◌≤◌, ◌<◌}
use mathlib.Core.Path.{◌≡◌, refl, sym, ap, ◌∙◌, subst}
use mathlib.Core.Bool.{Bool, true, false}
use mathlib.Core.List.{List}
use mathlib.Core.Option.{Option, none, some, some-injective}
use native.Mathlib.Omega.{arith}
use borrow.Author.Tests.{eq-eqb, ne_eqb, lt-ltb, le-ltb, ltb-true, ltb-false}
use lib.Dec.{ltb}
use lib.ListN.{length, drop, length-drop}
use Rattle.paper.specs.Tree.{Tree, weight}
use Rattle.paper.specs.Table.{encode}
use Rattle.parse.specs.Written.{Written}
use Rattle.paper_text.specs.Text.{bare, read_sum, read_text, whole}
use Rattle.paper_text.specs.Levels.{read_cut, shallower, shallow, formed}
use Rattle.paper.proofs.Tests.{never}
use Rattle.paper_text.proofs.PlaceLaws.{at_end}
use Rattle.paper_text.proofs.ReadTold.{TextIs, read_text_lem}
use Rattle.paper_text.proofs.LevelLaws.{shallow_exactly, nested_weighs}
use Rattle.parse.specs.declared.Item.{Item}
use Rattle.std.specs.Prelude.{Some, None, SomeIff}
use Rattle.std.specs.declared.option.Option as code
use Rattle.std.specs.declared.result.Result.TheVariants.{Ok, Err}
use Rattle.parse.specs.declared.Unread.TheVariants.{NotWritten, Heavy}
use Rattle.parse.specs.Parsed.{Laid, Stands, ItemIs, bared, DiveIs, weighed}
use Rattle.parse.proofs.ItemLaws.{bared_none, bared_bare, bare_found}

-- ---- one character
pub too_deep : (c left : ℕ) → c ≡ 40 → left < 1 → DiveIs c left None
unfolding shallow shallower
too_deep c zero e h = λ s. rw (eq-eqb c 40 e)
too_deep c (suc left) e h = absurd (omega (arith, h))

pub one_deeper : (c left : ℕ) → c ≡ 40 → 1 ≤ left → DiveIs c left (Some (left - 1))
unfolding shallow shallower
one_deeper c zero e h = absurd (omega (arith, h))
one_deeper c (suc left) e h = let q : suc left - 1 ≡ left = omega arith in ((λ s. rw (eq-eqb c 40 e, q)), omega arith)

pub one_out : (c left : ℕ) → (c ≡ 40 → ⊥) → c ≡ 41 → DiveIs c left (Some (left + 1))
unfolding shallow
one_out c left n e = let q : left + 1 ≡ suc left = omega arith in ((λ s. rw (ne_eqb c 40 n, eq-eqb c 41 e, q)), omega arith)

pub as_deep : (c left : ℕ) → (c ≡ 40 → ⊥) → (c ≡ 41 → ⊥) → DiveIs c left (Some left)
unfolding shallow
as_deep c left n m = ((λ s. rw (ne_eqb c 40 n, ne_eqb c 41 m)), omega arith)

-- a group begins: one level less, where one is left
pub dives : (c left : ℕ) (r : code.Option ℕ) → c ≡ 40 → SomeIff r (1 ≤ left) (left - 1) → DiveIs c left r
dives c left None e h = too_deep c left e (let n : 1 ≤ left → ⊥ = h in omega (arith, n))
dives c left (Some l) e h = subst (λ (x : ℕ). DiveIs c left (Some x)) (sym h.1) (one_deeper c left e h.0)

-- ---- the loop
pub record Diving (s : List ℕ) (k left i : ℕ) : Type 0 where
  pub rest : shallow left (drop i s) ≡ shallow k s
  pub low : left ≤ k + i
  pub within : i ≤ length s

pub dived_all : (s : List ℕ) (k left i : ℕ) → length s ≤ i → Diving s k left i → true ≡ shallow k s
unfolding shallow
dived_all s k left i h j = sym (ap (shallow left) (at_end s i h)) ∙ j.rest

-- ---- a shallow text
module _ (s : List ℕ) (limit k : ℕ) (shallows : shallow k s ≡ true) where
  none_read : bared (read_sum (read_cut k) (drop 0 s)) ≡ none → read_text s ≡ none
  unfolding read_cut whole
  none_read h = sym (shallow_exactly k s shallows) ∙ ap whole (bared_none (read_sum (read_cut k) s) h)

  pub reads_none : bared (read_sum (read_cut k) (drop 0 s)) ≡ none → Err NotWritten ≡ weighed limit (read_text s)
  reads_none h = sym (ap (weighed limit) (none_read h))

  more_read : {L : Tree → Type 0} {r e w : ℕ} → Stands s 0 (bared (read_sum (read_cut k) (drop 0 s))) bare L r e w → e < length s → read_text s ≡ none
  unfolding read_cut whole
  more_read {L} {r} {e} {w} h l =
      let d = length-drop e s in
      sym (shallow_exactly k s shallows) ∙ ap whole (bared_bare (read_sum (read_cut k) s) h.tree (drop e s) h.read)
      ∙ rw (lt-ltb 0 (length (drop e s)) (omega (arith, d, l)))

  pub reads_more : {L : Tree → Type 0} {r e w : ℕ} → Stands s 0 (bared (read_sum (read_cut k) (drop 0 s))) bare L r e w → e < length s
      → Err NotWritten ≡ weighed limit (read_text s)
  reads_more {L} {r} {e} {w} h l = sym (ap (weighed limit) (more_read h l))

  reads_tree : {L : Tree → Type 0} {r e w : ℕ} (h : Stands s 0 (bared (read_sum (read_cut k) (drop 0 s))) bare L r e w) → length s ≤ e
      → read_text s ≡ some h.tree
  unfolding read_cut whole
  reads_tree {L} {r} {e} {w} h l =
      let d = length-drop e s in
      sym (shallow_exactly k s shallows) ∙ ap whole (bared_bare (read_sum (read_cut k) s) h.tree (drop e s) h.read)
      ∙ rw (le-ltb 0 (length (drop e s)) (omega (arith, d, l)))

  pub reads_heavy : {L : Tree → Type 0} {r e w : ℕ} → Stands s 0 (bared (read_sum (read_cut k) (drop 0 s))) bare L r e w
      → length s ≤ e → limit < w → Err Heavy ≡ weighed limit (read_text s)
  reads_heavy {L} {r} {e} {w} h l g = let y = h.weighs in sym (ap (weighed limit) (reads_tree h l) ∙ rw (lt-ltb limit (weight h.tree) (omega (arith, y, g))))

  pub reads_light : {old new : List ℕ} {q : ℕ} {r e w : ℕ} → Stands s 0 (bared (read_sum (read_cut k) (drop 0 s))) bare (Laid old 0 new q) r e w
      → length s ≤ e → w ≤ limit → Ok q ≡ weighed limit (read_text s)
  reads_light {old} {new} {q} {r} {e} {w} h l g =
      let y = h.weighs in
      sym (ap (weighed limit) (reads_tree h l)
      ∙ rw (le-ltb limit (weight h.tree) (omega (arith, y, g))) (ap Ok (let x = h.laid.next in omega (arith, x))))

  -- ---- the records of a tree that is not over the limit
  lays : (old new : List ℕ) (i : code.Option Item) → ItemIs s 0 (bared (read_sum (read_cut k) (drop 0 s))) (Laid old 0 new) i → (t : Tree)
      → read_text s ≡ some t → Written (encode t) old 0 new
  unfolding formed
  lays old new None h t e = never (ap formed (sym (none_read h) ∙ e))
  lays old new (Some i) h t e = go (ltb i.next (length s)) refl
    where
      block : Stands s 0 (bared (read_sum (read_cut k) (drop 0 s))) bare (Laid old 0 new i.end) i.form.rank i.next i.weight
      block = bare_found s 0 (read_sum (read_cut k) (drop 0 s)) (Laid old 0 new) i h

      go : (b : Bool) → ltb i.next (length s) ≡ b → Written (encode t) old 0 new
      go true l = never (ap formed (sym (more_read block (ltb-true i.next (length s) l)) ∙ e))
      go false l =
          let same = some-injective block.tree t (sym (reads_tree block (ltb-false i.next (length s) l)) ∙ e) in
          subst (λ (u : Tree). Written (encode u) old 0 new) same block.laid.put_there

-- a tree that is not over the limit has a shallow text
shallow_enough : (s : List ℕ) (limit : ℕ) (t : Tree) → read_text s ≡ some t → weight t ≤ limit → shallow (limit / 2) s ≡ true
shallow_enough s limit t e l = go (shallow (limit / 2) s) refl
  where
    go : (b : Bool) → shallow (limit / 2) s ≡ b → b ≡ true
    go true q = refl
    go false q =
        let w = subst (TextIs s) e (read_text_lem s) in
        let n = nested_weighs (limit / 2) t w.0 (ap (shallow (limit / 2)) w.1 ∙ q) in
        absurd (omega (arith, n, l))

pub text_laid : (s : List ℕ) (limit : ℕ) (old new : List ℕ) (i : code.Option Item)
    → ItemIs s 0 (bared (read_sum (read_cut (limit / 2)) (drop 0 s))) (Laid old 0 new) i
    → (t : Tree) → read_text s ≡ some t → weight t ≤ limit → Written (encode t) old 0 new
text_laid s limit old new i h t e l = lays s limit (limit / 2) (shallow_enough s limit t e l) old new i h t e

-- ---- a deeper one
deep_heavy : (s : List ℕ) (limit k : ℕ) (o : Option Tree) → limit ≤ 2 * k + 2 → TextIs s o → shallow k s ≡ false → formed o ≡ true → Err Heavy ≡ weighed limit o
unfolding formed
deep_heavy s limit k none g t h f = never f
deep_heavy s limit k (some u) g t h f =
    let l = nested_weighs k u t.0 (ap (shallow k) t.1 ∙ h) in
    sym (rw (lt-ltb limit (weight u) (omega (arith, l, g))))

pub too_heavy : (s : List ℕ) (limit k : ℕ) (a b : Bool) → limit ≤ 2 * k + 2 → a ≡ shallow k s → a ≡ false
    → b ≡ formed (read_text s) → b ≡ true → Err Heavy ≡ weighed limit (read_text s)
too_heavy s limit k a b g p h q f = deep_heavy s limit k (read_text s) g (read_text_lem s) (sym p ∙ h) (sym q ∙ f)

pub no_text : (s : List ℕ) (limit : ℕ) (b : Bool) → b ≡ formed (read_text s) → b ≡ false → Err NotWritten ≡ weighed limit (read_text s)
unfolding formed
no_text s limit b q f = go (read_text s) (sym q ∙ f)
  where
    go : (o : Option Tree) → formed o ≡ false → Err NotWritten ≡ weighed limit o
    go none e = refl
    go (some t) e = never (sym e)

-- The judge by blocks, character by character, and what a reading of the outermost block tells.
use Prim.Native.Nat.{ℕ, zero, suc, ◌+◌, ◌-◌, ◌≤◌, ◌<◌}
use mathlib.Core.Path.{◌≡◌, refl, sym, ap, ◌∙◌}
use mathlib.Core.Bool.{Bool, true, false, cond, ◌&&◌}
use mathlib.Core.List.{List}
use mathlib.Core.Option.{none}
use native.Mathlib.Omega.{arith}
use borrow.Author.Tests.{eq-eqb, ne_eqb, lt-ltb, le-ltb}
use lib.Dec.{ltb}
use lib.ListN.{length, get_or, drop, length-drop}
use Rattle.paper.specs.Tree.{Tree}
use Rattle.paper_text.specs.Text.{closes, begins, bare, read_sum, read_text}
use Rattle.paper_text.specs.Levels.{read_cut, closing, ended, entered, blocks, is_form, formed}
use Rattle.paper_text.proofs.PlaceLaws.{from_here, at_end}
use Rattle.paper_text.proofs.LevelLaws.{levels_exactly}
use Rattle.std.specs.Prelude.{Some, None}
use Rattle.parse.specs.Parsed.{Stands, bared, TurnIs}
use Rattle.parse.proofs.ItemLaws.{bared_none, bared_bare}

-- ---- a reading of the code, and the cut reader
module _ (s : List ℕ) (at k : ℕ) where
  pub no_closing : bared (read_sum (read_cut k) (drop at s)) ≡ none → false ≡ closing (read_cut (suc k) (drop at s))
  unfolding read_cut closing
  no_closing h = sym (ap closing (bared_none (read_sum (read_cut k) (drop at s)) h))

  pub closing_there : {L : Tree → Type 0} {r e w : ℕ} → Stands s at (bared (read_sum (read_cut k) (drop at s))) bare L r e w
      → begins closes (drop e s) ≡ closing (read_cut (suc k) (drop at s))
  unfolding read_cut closing
  closing_there {L} {r} {e} {w} h = sym (ap closing (bared_bare (read_sum (read_cut k) (drop at s)) h.tree (drop e s) h.read))

-- ---- one character
module _ (s : List ℕ) (i left k : ℕ) (h : i < length s) where
  at_open : get_or s i 0 ≡ 40 → blocks k left (drop i s) ≡ entered k left (λ l. blocks k l (drop (i + 1) s)) (closing (read_cut (suc k) (drop (i + 1) s)))
  unfolding blocks
  at_open e = ap (blocks k left) (from_here s i h) ∙ rw (eq-eqb (get_or s i 0) 40 e)

  pub one_deeper : get_or s i 0 ≡ 40 → 0 < left → left ≤ k → TurnIs s i left k (Some (left - 1))
  unfolding entered
  one_deeper e p l = (at_open e ∙ go left p, omega (arith, l))
    where
      go : (left : ℕ) → 0 < left
          → entered k left (λ l. blocks k l (drop (i + 1) s)) (closing (read_cut (suc k) (drop (i + 1) s))) ≡ blocks k (left - 1) (drop (i + 1) s)
      go zero p = absurd (omega (arith, p))
      go (suc left) p = let e : left ≡ suc left - 1 = omega arith in ap (λ (x : ℕ). blocks k x (drop (i + 1) s)) e

  at_block : get_or s i 0 ≡ 40 → left ≤ 0 → blocks k left (drop i s) ≡ closing (read_cut (suc k) (drop (i + 1) s)) && blocks k k (drop (i + 1) s)
  unfolding entered
  at_block e p = at_open e ∙ go left p
    where
      go : (left : ℕ) → left ≤ 0 → entered k left (λ l. blocks k l (drop (i + 1) s)) (closing (read_cut (suc k) (drop (i + 1) s)))
          ≡ closing (read_cut (suc k) (drop (i + 1) s)) && blocks k k (drop (i + 1) s)
      go zero p = refl
      go (suc left) p = absurd (omega (arith, p))

  pub block_read : (r : Bool) → get_or s i 0 ≡ 40 → left ≤ 0 → r ≡ closing (read_cut (suc k) (drop (i + 1) s)) → r ≡ true → TurnIs s i left k (Some k)
  block_read r e p q t = (at_block e p ∙ rw (sym q ∙ t), omega arith)

  pub block_bad : (r : Bool) → get_or s i 0 ≡ 40 → left ≤ 0 → r ≡ closing (read_cut (suc k) (drop (i + 1) s)) → r ≡ false → TurnIs s i left k None
  block_bad r e p q t = at_block e p ∙ rw (sym q ∙ t)

  at_close : (get_or s i 0 ≡ 40 → ⊥) → get_or s i 0 ≡ 41
      → blocks k left (drop i s) ≡ cond (ltb left k) (blocks k (suc left) (drop (i + 1) s)) (blocks k 0 (drop (i + 1) s))
  unfolding blocks
  at_close n e = ap (blocks k left) (from_here s i h) ∙ rw (ne_eqb (get_or s i 0) 40 n, eq-eqb (get_or s i 0) 41 e)

  pub back_up : (get_or s i 0 ≡ 40 → ⊥) → get_or s i 0 ≡ 41 → left < k → TurnIs s i left k (Some (left + 1))
  back_up n e l =
      let q : suc left ≡ left + 1 = omega arith in
      (at_close n e ∙ rw (lt-ltb left k l) (ap (λ (x : ℕ). blocks k x (drop (i + 1) s)) q), omega (arith, l))

  pub back_out : (get_or s i 0 ≡ 40 → ⊥) → get_or s i 0 ≡ 41 → k ≤ left → TurnIs s i left k (Some 0)
  back_out n e l = (at_close n e ∙ rw (le-ltb left k l), omega arith)

  pub other : (get_or s i 0 ≡ 40 → ⊥) → (get_or s i 0 ≡ 41 → ⊥) → left ≤ k → TurnIs s i left k (Some left)
  unfolding blocks
  other n m l = (ap (blocks k left) (from_here s i h) ∙ rw (ne_eqb (get_or s i 0) 40 n, ne_eqb (get_or s i 0) 41 m), l)

-- ---- the loop
pub record Judging (s : List ℕ) (k left i : ℕ) : Type 0 where
  pub rest : blocks k left (drop i s) ≡ blocks k k s
  pub low : left ≤ k
  pub within : i ≤ length s

pub judged_all : (s : List ℕ) (k left i : ℕ) → length s ≤ i → Judging s k left i → true ≡ blocks k k s
unfolding blocks
judged_all s k left i h j = sym (ap (blocks k left) (at_end s i h)) ∙ j.rest

-- ---- the whole text
module _ (s : List ℕ) (k : ℕ) where
  pub no_form : bared (read_sum (read_cut k) (drop 0 s)) ≡ none → false ≡ formed (read_text s)
  unfolding is_form read_cut ended
  no_form h = sym (sym (levels_exactly k s) ∙ rw (bared_none (read_sum (read_cut k) s) h))

  pub left_over : {L : Tree → Type 0} {r e w : ℕ} → Stands s 0 (bared (read_sum (read_cut k) (drop 0 s))) bare L r e w → e < length s
      → false ≡ formed (read_text s)
  unfolding is_form read_cut ended
  left_over {L} {r} {e} {w} h l =
      let d = length-drop e s in
      sym (sym (levels_exactly k s)
      ∙ rw (bared_bare (read_sum (read_cut k) s) h.tree (drop e s) h.read, lt-ltb 0 (length (drop e s)) (omega (arith, d, l))))

  pub by_blocks : {L : Tree → Type 0} {r e w : ℕ} (b : Bool) → Stands s 0 (bared (read_sum (read_cut k) (drop 0 s))) bare L r e w
      → length s ≤ e → b ≡ blocks k k s → b ≡ formed (read_text s)
  unfolding is_form read_cut ended
  by_blocks {L} {r} {e} {w} b h l q =
      let d = length-drop e s in
      q ∙ sym (sym (levels_exactly k s)
      ∙ rw (bared_bare (read_sum (read_cut k) s) h.tree (drop e s) h.read, le-ltb 0 (length (drop e s)) (omega (arith, d, l))))

-- Reading a text some levels deep. A group that stands deeper is not read: `skim` passes it up to its closing parenthesis and tells by its
-- signs what it would be. So a text of any nesting is judged with a fixed depth of calls, a block of levels at a time.
use Rattle.std.specs.Prelude.{ℕ, zero, suc, ◌+◌, ◌-◌, Bool, true, false, cond, ◌&&◌, ◌||◌, List, [], ◌∷◌, pos, negsuc, length, eqb, ltb}
use Rattle.std.proofs.Math.Option.{Option, none, some}
use Rattle.paper.specs.Tree.{Tree, integer, symbol, sum, product, power, nil}
use Rattle.paper_text.specs.Text.{opens, closes, times, plus, minus, power_sign, Reading, begins, read_sum}

-- ---- the rank of a tree: the more, the more places put parentheses round it. As a base all over 0, in a product all over 1, in a sum 3.
unfoldable pub rank : Tree → ℕ
rank (integer μ (pos n)) = 0
rank (integer μ (negsuc n)) = 1
rank (symbol μ s) = 0
rank (sum μ f) = 3
rank (product μ f) = 2
rank (power μ b ξ e) = 1

-- what a sign at its own depth makes of a text; a `-` that does not begin it follows a `+` or a `*`
unfoldable pub sign_rank : ℕ → ℕ
sign_rank c = cond (eqb c plus) 3 (cond (eqb c times) 2 (cond (eqb c power_sign || eqb c minus) 1 0))

-- a tree of one record that stands for any tree of its rank
unfoldable pub stand_in : ℕ → Tree
stand_in zero = integer 0 (pos 0)
stand_in (suc zero) = integer 0 (negsuc 0)
stand_in (suc (suc zero)) = product 0 nil
stand_in (suc (suc (suc n))) = sum 0 nil

unfoldable pub greater : ℕ → ℕ → ℕ
greater a b = a + (b - a)

-- ---- passing a group: d deeper groups are open, k is the greatest rank of a sign outside them
unfoldable pub mark : ℕ → ℕ → ℕ → ℕ
mark zero k r = greater k r
mark (suc d) k r = k

unfoldable pub leaves : ℕ → Reading Tree → (ℕ → Reading Tree) → Reading Tree
leaves zero ended goes_on = ended
leaves (suc d) ended goes_on = goes_on d

unfoldable pub skim_from : ℕ → ℕ → List ℕ → Reading Tree
skim_from d k [] = none
skim_from d k (c ∷ s) =
    cond (eqb c opens) (skim_from (suc d) k s)
    (cond (eqb c closes) (leaves d (some (stand_in k, closes ∷ s)) (λ e. skim_from e k s))
    (skim_from d (mark d k (sign_rank c)) s))

unfoldable pub skim : List ℕ → Reading Tree
skim s = skim_from 0 0 s

-- ---- n levels are read, what stands deeper is passed
unfoldable pub read_cut : ℕ → List ℕ → Reading Tree
read_cut zero s = skim s
read_cut (suc n) s = read_sum (λ q. read_cut n q) s

-- the text is at an end, or at a closing parenthesis
unfoldable pub ended : Reading Tree → Bool
ended none = false
ended (some r) = cond (ltb 0 (length r.1)) false true

unfoldable pub closing : Reading Tree → Bool
closing none = false
closing (some r) = begins closes r.1

-- ---- the form, by blocks of k + 1 levels: each group that begins a block is read that deep. `left` levels of the present one lie deeper.
unfoldable pub entered : ℕ → ℕ → (ℕ → Bool) → Bool → Bool
entered k zero goes_on reads = reads && goes_on k
entered k (suc left) goes_on reads = goes_on left

unfoldable pub blocks : ℕ → ℕ → List ℕ → Bool
blocks k left [] = true
blocks k left (c ∷ s) =
    cond (eqb c opens) (entered k left (λ l. blocks k l s) (closing (read_cut (suc k) s)))
    (cond (eqb c closes) (cond (ltb left k) (blocks k (suc left) s) (blocks k 0 s))
    (blocks k left s))

unfoldable pub is_form : ℕ → List ℕ → Bool
is_form k s = ended (read_cut (suc k) s) && blocks k k s

-- ---- no group of the text lies more than `left` deep
unfoldable pub shallower : ℕ → (ℕ → Bool) → Bool
shallower zero goes_on = false
shallower (suc left) goes_on = goes_on left

unfoldable pub shallow : ℕ → List ℕ → Bool
shallow left [] = true
shallow left (c ∷ s) =
    cond (eqb c opens) (shallower left (λ l. shallow l s))
    (cond (eqb c closes) (shallow (suc left) s) (shallow left s))

unfoldable pub formed : Option Tree → Bool
formed none = false
formed (some t) = true

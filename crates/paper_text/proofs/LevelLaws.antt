-- The judge by blocks of levels is exact, and so is the cut reader on a text that is shallow enough. What is skimmed of a text written by
-- the writer has the rank of its tree, and no reader asks more of a group than its rank: so the cut reader follows the whole one
-- (`cut_follows`), and the whole one follows the cut one where every block is read (`blocks_follow`, by the length).
use Prim.Native.Nat.{ℕ, zero, suc, ◌+◌, ◌-◌, ◌*◌, ◌<◌, ◌≤◌}
use mathlib.Core.Path.{◌≡◌, refl, sym, ap, ◌∙◌, subst}
use mathlib.Core.Bool.{Bool, true, false, cond, ◌&&◌, not}
use mathlib.Core.List.{List, [], ◌∷◌, ◌++◌, append-nil}
use mathlib.Core.Option.{Option, none, some}
use native.Mathlib.Omega.{arith}
use borrow.Author.Tests.{not-true, ltb-true, ltb-false, lt-ltb, le-ltb}
use lib.Dec.{eqb, ltb, leb}
use lib.ListN.{length}
use lib.IntN.{pos, negsuc}
use Rattle.paper.specs.Tree.{Tree, integer, symbol, sum, product, power, of_list, weight, records}
use Rattle.paper.specs.WellFormed.{WF}
use Rattle.paper.proofs.Tests.{never, and_left, and_right, true_not_false, both_ways}
use Rattle.paper.proofs.Value.{weight_pos}
use Rattle.paper_text.specs.Text.{opens, closes, Place, in_sum, in_product, as_base, needs, text}
use Rattle.paper_text.specs.Text.{Reading, then, begins, tail, grouped, closed, read_within, whole, read_text}
use Rattle.paper.specs.Erased.{erase}
use Rattle.paper_text.specs.Levels.{rank, sign_rank, stand_in, greater, mark, leaves, skim_from, skim, read_cut}
use Rattle.paper_text.specs.Levels.{ended, closing, entered, blocks, is_form, shallower, shallow, formed}
use Rattle.paper_text.proofs.RoundTrip.{within_read, closes_stops}
use Rattle.paper_text.proofs.ReadTold.{Told, TreeIs, within_told, begins_is, TextIs, read_text_lem}
use Rattle.paper_text.proofs.Follows.{Follows, then_follows, cond_follows, Like, AllLike, Alike, plain, sum_follows}
use Rattle.paper_text.proofs.Passed.{Walk, text_passed}

plain_open : (c : ℕ) → plain c ≡ true → eqb c opens ≡ false
unfolding plain
plain_open c h = not-true (eqb c opens) (and_left (not (eqb c opens)) (not (eqb c closes)) h)

plain_close : (c : ℕ) → plain c ≡ true → eqb c closes ≡ false
unfolding plain
plain_close c h = not-true (eqb c closes) (and_right (not (eqb c opens)) (not (eqb c closes)) h)

-- ---- trees of one rank are alike at every place
abbrev SameRank : Tree → Tree → Type 0
SameRank t u = rank t ≡ rank u

unfoldable pub needs_rank : Place → ℕ → Bool
needs_rank in_sum r = leb 3 r
needs_rank in_product r = leb 2 r
needs_rank as_base r = leb 1 r

pub needs_by_rank : (p : Place) (t : Tree) → needs p t ≡ needs_rank p (rank t)
unfolding needs needs_rank rank
needs_by_rank in_sum (integer μ (pos n)) = refl
needs_by_rank in_sum (integer μ (negsuc n)) = refl
needs_by_rank in_sum (symbol μ s) = refl
needs_by_rank in_sum (sum μ f) = refl
needs_by_rank in_sum (product μ f) = refl
needs_by_rank in_sum (power μ b ξ e) = refl
needs_by_rank in_product (integer μ (pos n)) = refl
needs_by_rank in_product (integer μ (negsuc n)) = refl
needs_by_rank in_product (symbol μ s) = refl
needs_by_rank in_product (sum μ f) = refl
needs_by_rank in_product (product μ f) = refl
needs_by_rank in_product (power μ b ξ e) = refl
needs_by_rank as_base (integer μ (pos n)) = refl
needs_by_rank as_base (integer μ (negsuc n)) = refl
needs_by_rank as_base (symbol μ s) = refl
needs_by_rank as_base (sum μ f) = refl
needs_by_rank as_base (product μ f) = refl
needs_by_rank as_base (power μ b ξ e) = refl

same_rank : Alike SameRank
unfolding rank
same_rank = record {
  same = λ t. refl;
  places = λ p t u e. needs_by_rank p t ∙ ap (needs_rank p) e ∙ sym (needs_by_rank p u);
  sums = λ l m h. refl;
  products = λ l m h. refl;
  powers = λ b c e h. refl;
}

stand_in_rank : (t : Tree) → rank (stand_in (rank t)) ≡ rank t
unfolding rank stand_in
stand_in_rank (integer μ (pos n)) = refl
stand_in_rank (integer μ (negsuc n)) = refl
stand_in_rank (symbol μ s) = refl
stand_in_rank (sum μ f) = refl
stand_in_rank (product μ f) = refl
stand_in_rank (power μ b ξ e) = refl

-- ---- equal trees are alike
lists_equal : (l m : List Tree) → AllLike ◌≡◌ l m → l ≡ m
lists_equal [] [] h = refl
lists_equal [] (u ∷ m) h = absurd h
lists_equal (t ∷ l) [] h = absurd h
lists_equal (t ∷ l) (u ∷ m) h = ap (λ (x : Tree). x ∷ l) h.0 ∙ ap (λ (x : List Tree). u ∷ x) (lists_equal l m h.1)

equal_alike : Alike ◌≡◌
equal_alike = record {
  same = λ t. refl;
  places = λ p t u e. ap (needs p) e;
  sums = λ l m h. ap (λ (x : List Tree). sum 0 (of_list x)) (lists_equal l m h);
  products = λ l m h. ap (λ (x : List Tree). product 0 (of_list x)) (lists_equal l m h);
  powers = λ b c e h. ap (λ (x : Tree). power 0 x 0 e) h;
}

-- ---- the skim passes what the writer wrote, and tells its rank
abbrev skim_at : ℕ × ℕ → List ℕ → Reading Tree
skim_at a s = skim_from a.0 a.1 s

abbrev note_at : ℕ × ℕ → ℕ → ℕ × ℕ
note_at a r = (a.0, mark a.0 a.1 r)

mark_none : (d k : ℕ) → mark d k 0 ≡ k
unfolding mark greater
mark_none zero k = omega arith
mark_none (suc d) k = refl

mark_greater : (d k r q : ℕ) → r ≤ q → mark d (mark d k r) q ≡ mark d k q
unfolding mark greater
mark_greater zero k r q h = omega (arith, h)
mark_greater (suc d) k r q h = refl

mark_lesser : (d k r q : ℕ) → r ≤ q → mark d (mark d k q) r ≡ mark d k q
unfolding mark greater
mark_lesser zero k r q h = omega (arith, h)
mark_lesser (suc d) k r q h = refl

skim_step : (d k c : ℕ) (s : List ℕ) → plain c ≡ true → skim_from d k (c ∷ s) ≡ skim_from d (mark d k (sign_rank c)) s
unfolding skim_from
skim_step d k c s h = rw (plain_open c h, plain_close c h)

skim_walk : Walk skim_at note_at (λ a w. Unit {0})
unfolding skim_from mark leaves
skim_walk = record {
  lighter = λ a v w h o. tt;
  noted = λ a r w o. tt;
  none_noted = λ a. ap (λ (k : ℕ). (a.0, k)) (mark_none a.0 a.1);
  greater_later = λ a r q h. ap (λ (k : ℕ). (a.0, k)) (mark_greater a.0 a.1 r q h);
  lesser_later = λ a r q h. ap (λ (k : ℕ). (a.0, k)) (mark_lesser a.0 a.1 r q h);
  step = λ a c s h. skim_step a.0 a.1 c s h;
  into = λ a t rest w o ih. ih (suc a.0, a.1) (closes ∷ rest) tt;
}

pub skim_text : (t : Tree) (rest : List ℕ) → WF t → skim (text t ++ (closes ∷ rest)) ≡ some (stand_in (rank t), closes ∷ rest)
unfolding skim skim_from leaves mark greater
skim_text t rest w =
    text_passed skim_at note_at (λ a v. Unit {0}) skim_walk t (0, 0) (closes ∷ rest) w tt
    ∙ ap (λ (r : ℕ). some (stand_in r, closes ∷ rest)) (omega arith)

-- ---- the cut reader follows the whole one
unfoldable Anywhere : List ℕ → Type 0
Anywhere s = Unit {0}

closed_follows : (R : Tree → Tree → Type 0) (P Q : List ℕ → Type 0) (t u : Tree) (s : List ℕ) → R t u → P s → ((r : List ℕ) → P (closes ∷ r) → Q r)
    → Follows (Like R) Q (closed t s) (closed u s)
unfolding closed
closed_follows R P Q t u s e h g =
    cond_follows (Like R) Q (begins closes s) (some (grouped t, tail s)) none (some (grouped u, tail s)) none
    (λ b. (e, refl, g (tail s) (subst P (begins_is closes s b) h))) (λ b. tt)

skim_follows : (o : Reading Tree) (q : List ℕ) → Told (TreeIs q) o → Follows (Like SameRank) Anywhere (then o closed) (then (skim q) closed)
unfolding then closed Anywhere begins tail
skim_follows none q h = tt
skim_follows (some (t, r)) q h = go (begins closes r) refl
  where
    go : (b : Bool) → begins closes r ≡ b → Follows (Like SameRank) Anywhere (cond b (some (grouped t, tail r)) none) (then (skim q) closed)
    go false e = tt
    go true e =
        let r-is = begins_is closes r e in
        rw (h.1 ∙ ap (λ (y : List ℕ). text t ++ y) r-is, skim_text t (tail r) h.0)
        (sym (stand_in_rank t), refl, tt)

cut_follows : (m n : ℕ) (s : List ℕ) → Follows SameRank Anywhere (read_within n s) (read_cut (suc m) s)
unfolding read_within read_cut Anywhere
cut_follows m zero s = tt
cut_follows zero (suc n) s =
    sum_follows SameRank same_rank Anywhere (λ c q h k. tt) (λ q. read_within n q) (λ q. read_cut 0 q)
    (λ q h. skim_follows (read_within n q) q (within_told n q)) s tt
cut_follows (suc m) (suc n) s =
    sum_follows SameRank same_rank Anywhere (λ c q h k. tt) (λ q. read_within n q) (λ q. read_cut (suc m) q)
    (λ q h. then_follows SameRank (Like SameRank) Anywhere Anywhere (read_within n q) (read_cut (suc m) q) closed closed (cut_follows m n q)
    (λ t u r e k. closed_follows SameRank Anywhere Anywhere t u r e k (λ x y. tt))) s tt

-- ---- the blocks of what the writer wrote are read
reading_alike : (s : List ℕ) (t : Tree) (o : Reading Tree) → Follows SameRank Anywhere (some (t, s)) o
    → (closing o ≡ begins closes s) × (ended o ≡ ended (some (t, s)))
unfolding closing ended
reading_alike s t none h = absurd h
reading_alike s t (some x) h = (ap (begins closes) (sym h.1), ap (λ (y : List ℕ). cond (ltb 0 (length y)) false true) (sym h.1))

group_closing : (k : ℕ) (t : Tree) (rest : List ℕ) → WF t → closing (read_cut (suc k) (text t ++ (closes ∷ rest))) ≡ true
unfolding begins
group_closing k t rest w =
    (reading_alike (closes ∷ rest) (erase t) (read_cut (suc k) (text t ++ (closes ∷ rest)))
    (subst (λ (o : Reading Tree). Follows SameRank Anywhere o (read_cut (suc k) (text t ++ (closes ∷ rest))))
    (within_read (records t) t (closes ∷ rest) w (omega arith) (closes_stops rest) refl)
    (cut_follows k (suc (records t)) (text t ++ (closes ∷ rest))))).0

-- a block is entered and left again
back_up : (k left : ℕ) (s : List ℕ) → left < k → blocks k left (closes ∷ s) ≡ blocks k (suc left) s
unfolding blocks
back_up k left s h = rw (lt-ltb left k h)

back_out : (k : ℕ) (s : List ℕ) → blocks k k (closes ∷ s) ≡ blocks k 0 s
unfolding blocks
back_out k s = rw (le-ltb k k (omega arith))

blocks_step : (k left c : ℕ) (s : List ℕ) → plain c ≡ true → blocks k left (c ∷ s) ≡ blocks k left s
unfolding blocks
blocks_step k left c s h = rw (plain_open c h, plain_close c h)

blocks_into : (k left : ℕ) (t : Tree) (rest : List ℕ) → WF t → left ≤ k
    → ((b : ℕ) (more : List ℕ) → b ≤ k → blocks k b (text t ++ more) ≡ blocks k b more)
    → blocks k left (opens ∷ (text t ++ (closes ∷ rest))) ≡ blocks k left rest
unfolding blocks entered
blocks_into k zero t rest w h ih = rw (group_closing k t rest w) (ih k (closes ∷ rest) (omega arith) ∙ back_out k rest)
blocks_into k (suc left) t rest w h ih = ih left (closes ∷ rest) (omega (arith, h)) ∙ back_up k left rest (omega (arith, h))

blocks_walk : (k : ℕ) → Walk (blocks k) (λ a r. a) (λ a w. a ≤ k)
blocks_walk k = record {
  lighter = λ a v w h o. o;
  noted = λ a r w o. o;
  none_noted = λ a. refl;
  greater_later = λ a r q h. refl;
  lesser_later = λ a r q h. refl;
  step = λ a c s h. blocks_step k a c s h;
  into = λ a t rest w o ih. blocks_into k a t rest w o ih;
}

pub blocks_text : (k left : ℕ) (t : Tree) (rest : List ℕ) → WF t → left ≤ k → blocks k left (text t ++ rest) ≡ blocks k left rest
blocks_text k left t rest w h = text_passed (blocks k) (λ a r. a) (λ a v. a ≤ k) (blocks_walk k) t left rest w h

-- ---- where every block is read, the whole reader follows the cut one
abbrev Blocked : ℕ → ℕ → ℕ → List ℕ → Type 0
Blocked k left n s = (blocks k left s ≡ true) × (length s ≤ n)

-- a group that begins a block is read: it is what is skimmed
block_follows : (k n : ℕ) (q : List ℕ) (o o' : Reading Tree) → closing o ≡ true → Follows SameRank (Blocked k k n) o o' → Told (TreeIs q) o'
    → Follows (Like SameRank) (Blocked k 0 (suc n)) (then (skim q) closed) (then o' closed)
unfolding closing then closed begins tail
block_follows k n q none o' c f h = never c
block_follows k n q (some x) none c f h = absurd f
block_follows k n q (some (u, s)) (some (t, r)) c f h =
    let r-is : r ≡ closes ∷ tail s = sym f.1 ∙ begins_is closes s c in
    let p = subst (Blocked k k n) (begins_is closes s c) f.2 in
    let b : blocks k 0 (tail s) ≡ true = sym (back_out k (tail s)) ∙ p.0 in
    let l = p.1 in
    rw (h.1 ∙ ap (λ (y : List ℕ). text t ++ y) r-is, skim_text t (tail s) h.0, r-is)
    (stand_in_rank t, refl, (b, omega (arith, l)))

group_follows : (k n left : ℕ) (q : List ℕ) → left ≤ k → Blocked k left (suc n) (opens ∷ q)
    → ((l : ℕ) → l ≤ k → Blocked k l n q → Follows SameRank (Blocked k l n) (read_cut (suc l) q) (read_within (suc n) q))
    → Follows (Like SameRank) (Blocked k left (suc n)) (then (read_cut left q) closed) (then (read_within (suc n) q) closed)
unfolding blocks entered read_cut
group_follows k n zero q h p ih =
    let l = p.1 in
    let z = and_right (closing (read_cut (suc k) q)) (blocks k k q) p.0 in
    block_follows k n q (read_cut (suc k) q) (read_within (suc n) q) (and_left (closing (read_cut (suc k) q)) (blocks k k q) p.0)
    (ih k (omega arith) (z, omega (arith, l))) (within_told (suc n) q)
group_follows k n (suc left) q h p ih =
    let l = p.1 in
    then_follows SameRank (Like SameRank) (Blocked k left n) (Blocked k (suc left) (suc n)) (read_cut (suc left) q) (read_within (suc n) q) closed closed
    (ih left (omega (arith, h)) (p.0, omega (arith, l)))
    (λ t u r e c. closed_follows SameRank (Blocked k left n) (Blocked k (suc left) (suc n)) t u r e c
    (λ x y. (sym (back_up k left x (omega (arith, h))) ∙ y.0, let m = y.1 in omega (arith, m))))

blocks_follow : (k n left : ℕ) (s : List ℕ) → left ≤ k → Blocked k left n s → Follows SameRank (Blocked k left n) (read_cut (suc left) s)
    (read_within (suc n) s)
unfolding read_cut read_within
blocks_follow k zero left s h b =
    sum_follows SameRank same_rank (Blocked k left 0) (λ c q e p. (sym (blocks_step k left c q e) ∙ p.0, let l = p.1 in omega (arith, l)))
    (λ q. read_cut left q) (λ q. read_within 0 q) (λ q p. let l = p.1 in absurd (omega (arith, l))) s b
blocks_follow k (suc n) left s h b =
    sum_follows SameRank same_rank (Blocked k left (suc n)) (λ c q e p. (sym (blocks_step k left c q e) ∙ p.0, let l = p.1 in omega (arith, l)))
    (λ q. read_cut left q) (λ q. read_within (suc n) q) (λ q p. group_follows k n left q h p (λ l i z. blocks_follow k n l q i z)) s b

-- ---- a text is of the form exactly when its first block is read to its end, and each further block is read
formed_whole : (n : ℕ) (o o' : Reading Tree) (P : List ℕ → Type 0) → Follows SameRank P o o' → ended o ≡ true → formed (whole o') ≡ true
unfolding ended formed whole
formed_whole n none o' P f e = never e
formed_whole n (some x) none P f e = absurd f
formed_whole n (some x) (some y) P f e = rw (← f.1) (go (ltb 0 (length x.1)) e)
  where
    go : (b : Bool) → cond b false true ≡ true → formed (cond b none (some y.0)) ≡ true
    go true c = never c
    go false c = refl

whole_ended : (o : Reading Tree) → formed (whole o) ≡ true → ended o ≡ true
unfolding ended formed whole
whole_ended none h = never h
whole_ended (some x) h = go (ltb 0 (length x.1)) h
  where
    go : (b : Bool) → formed (cond b none (some x.0)) ≡ true → cond b false true ≡ true
    go true c = never c
    go false c = refl

follows_ended : (o o' : Reading Tree) → Follows SameRank Anywhere o o' → ended o ≡ true → ended o' ≡ true
unfolding ended
follows_ended none o' f e = never e
follows_ended (some x) none f e = absurd f
follows_ended (some x) (some y) f e = ap (λ (s : List ℕ). cond (ltb 0 (length s)) false true) (sym f.1) ∙ e

form_blocks : (k : ℕ) (s : List ℕ) (o : Option Tree) → TextIs s o → formed o ≡ true → blocks k k s ≡ true
unfolding formed blocks
form_blocks k s none h e = never e
form_blocks k s (some t) h e =
    ap (blocks k k) (sym (append-nil (text t) ∙ h.1)) ∙ blocks_text k k t [] h.0 (omega arith)

pub levels_exactly : (k : ℕ) (s : List ℕ) → is_form k s ≡ formed (read_text s)
unfolding is_form read_text
levels_exactly k s = both_ways (is_form k s) (formed (read_text s)) is_formed is_judged
  where
    is_formed : ended (read_cut (suc k) s) && blocks k k s ≡ true → formed (whole (read_within (suc (length s)) s)) ≡ true
    is_formed h =
        formed_whole 0 (read_cut (suc k) s) (read_within (suc (length s)) s) (Blocked k k (length s))
        (blocks_follow k (length s) k s (omega arith) (and_right (ended (read_cut (suc k) s)) (blocks k k s) h, omega arith))
        (and_left (ended (read_cut (suc k) s)) (blocks k k s) h)

    is_judged : formed (whole (read_within (suc (length s)) s)) ≡ true → ended (read_cut (suc k) s) && blocks k k s ≡ true
    is_judged h =
        rw (
          follows_ended (read_within (suc (length s)) s) (read_cut (suc k) s) (cut_follows k (suc (length s)) s)
              (whole_ended (read_within (suc (length s)) s) h),
          form_blocks k s (read_text s) (read_text_lem s) h,
        )

-- ---- readings that follow each other are equal
followed_equal : (P Q : List ℕ → Type 0) (o o' : Reading Tree) → Follows ◌≡◌ P o o' → Follows ◌≡◌ Q o' o → o ≡ o'
followed_equal P Q none none f g = refl
followed_equal P Q none (some y) f g = absurd g
followed_equal P Q (some x) none f g = absurd f
followed_equal P Q (some (t, s)) (some (u, r)) f g = ap (λ (z : Tree). some (z, s)) f.0 ∙ ap (λ (z : List ℕ). some (u, z)) f.1

-- ---- more depth than characters changes nothing
abbrev Short : ℕ → List ℕ → Type 0
Short k s = length s ≤ k

within_follows : (k n m : ℕ) (s : List ℕ) → k < n → k < m → Short k s → Follows ◌≡◌ (Short k) (read_within n s) (read_within m s)
unfolding read_within
within_follows k zero m s h g l = tt
within_follows k (suc n) zero s h g l = absurd (omega (arith, g))
within_follows zero (suc n) (suc m) s h g l =
    sum_follows ◌≡◌ equal_alike (Short 0) (λ c q e p. omega (arith, p)) (λ q. read_within n q) (λ q. read_within m q) (λ q p. absurd (omega (arith, p))) s l
within_follows (suc k) (suc n) (suc m) s h g l =
    sum_follows ◌≡◌ equal_alike (Short (suc k)) (λ c q e p. omega (arith, p)) (λ q. read_within n q) (λ q. read_within m q)
    (λ q p. then_follows ◌≡◌ (Like ◌≡◌) (Short k) (Short (suc k)) (read_within n q) (read_within m q) closed closed
    (within_follows k n m q (omega (arith, h)) (omega (arith, g)) (omega (arith, p)))
    (λ t u r e c. closed_follows ◌≡◌ (Short k) (Short (suc k)) t u r e c (λ x y. omega (arith, y)))) s l

-- ---- a shallow text is read whole by the cut reader
abbrev Shallow : ℕ → ℕ → List ℕ → Type 0
Shallow left n s = (shallow left s ≡ true) × (length s ≤ n)

shallow_step : (left c : ℕ) (s : List ℕ) → plain c ≡ true → shallow left (c ∷ s) ≡ shallow left s
unfolding shallow
shallow_step left c s h = rw (plain_open c h, plain_close c h)

shallow_past : (left n c : ℕ) (q : List ℕ) → plain c ≡ true → Shallow left n (c ∷ q) → Shallow left n q
shallow_past left n c q e p = (sym (shallow_step left c q e) ∙ p.0, let l = p.1 in omega (arith, l))

shallow_out : (left n : ℕ) (r : List ℕ) → Shallow left n (closes ∷ r) → Shallow (suc left) (suc n) r
unfolding shallow
shallow_out left n r p = (p.0, let l = p.1 in omega (arith, l))

abbrev BothFollow : ℕ → ℕ → List ℕ → Type 0
BothFollow left n s =
    Follows ◌≡◌ (Shallow left n) (read_cut (suc left) s) (read_within (suc n) s) × Follows ◌≡◌ (Shallow left n) (read_within (suc n) s) (read_cut (suc left) s)

shallow_group : (left n : ℕ) (q : List ℕ) → Shallow left (suc n) (opens ∷ q) → ((l : ℕ) → Shallow l n q → BothFollow l n q)
    → Follows (Like ◌≡◌) (Shallow left (suc n)) (then (read_cut left q) closed) (then (read_within (suc n) q) closed)
    × Follows (Like ◌≡◌) (Shallow left (suc n)) (then (read_within (suc n) q) closed) (then (read_cut left q) closed)
unfolding shallow shallower
shallow_group zero n q p ih = never p.0
shallow_group (suc left) n q p ih =
    let l = p.1 in
    let b = ih left (p.0, omega (arith, l)) in (
      then_follows ◌≡◌ (Like ◌≡◌) (Shallow left n) (Shallow (suc left) (suc n)) (read_cut (suc left) q) (read_within (suc n) q) closed closed b.0
          (λ t u r e c. closed_follows ◌≡◌ (Shallow left n) (Shallow (suc left) (suc n)) t u r e c (shallow_out left n)),
      then_follows ◌≡◌ (Like ◌≡◌) (Shallow left n) (Shallow (suc left) (suc n)) (read_within (suc n) q) (read_cut (suc left) q) closed closed b.1
          (λ t u r e c. closed_follows ◌≡◌ (Shallow left n) (Shallow (suc left) (suc n)) t u r e c (shallow_out left n)),
    )

both_follow : (n left : ℕ) (s : List ℕ) → Shallow left n s → BothFollow left n s
unfolding read_cut read_within
both_follow zero left s p = (
  sum_follows ◌≡◌ equal_alike (Shallow left 0) (shallow_past left 0) (λ q. read_cut left q) (λ q. read_within 0 q)
      (λ q z. let l = z.1 in absurd (omega (arith, l))) s p,
  sum_follows ◌≡◌ equal_alike (Shallow left 0) (shallow_past left 0) (λ q. read_within 0 q) (λ q. read_cut left q)
      (λ q z. let l = z.1 in absurd (omega (arith, l))) s p,
)
both_follow (suc n) left s p = (
  sum_follows ◌≡◌ equal_alike (Shallow left (suc n)) (shallow_past left (suc n)) (λ q. read_cut left q) (λ q. read_within (suc n) q)
      (λ q z. (shallow_group left n q z (λ l y. both_follow n l q y)).0) s p,
  sum_follows ◌≡◌ equal_alike (Shallow left (suc n)) (shallow_past left (suc n)) (λ q. read_within (suc n) q) (λ q. read_cut left q)
      (λ q z. (shallow_group left n q z (λ l y. both_follow n l q y)).1) s p,
)

pub shallow_exactly : (left : ℕ) (s : List ℕ) → shallow left s ≡ true → whole (read_cut (suc left) s) ≡ read_text s
unfolding read_text
shallow_exactly left s h =
    let b = both_follow (length s) left s (h, omega arith) in
    ap whole (followed_equal (Shallow left (length s)) (Shallow left (length s)) (read_cut (suc left) s) (read_within (suc (length s)) s) b.0 b.1)

-- ---- a tree weighs more than twice as much as its text is deep
shallow_into : (left : ℕ) (t : Tree) (rest : List ℕ) → weight t ≤ 2 * left
    → ((b : ℕ) (more : List ℕ) → weight t - 2 ≤ 2 * b → shallow b (text t ++ more) ≡ shallow b more)
    → shallow left (opens ∷ (text t ++ (closes ∷ rest))) ≡ shallow left rest
unfolding shallow shallower
shallow_into zero t rest h ih = let p = weight_pos t in absurd (omega (arith, h, p))
shallow_into (suc left) t rest h ih = ih left (closes ∷ rest) (omega (arith, h))

shallow_walk : Walk shallow (λ a r. a) (λ a w. w ≤ 2 * a)
shallow_walk = record {
  lighter = λ a v w h o. omega (arith, h, o);
  noted = λ a r w o. o;
  none_noted = λ a. refl;
  greater_later = λ a r q h. refl;
  lesser_later = λ a r q h. refl;
  step = λ a c s h. shallow_step a c s h;
  into = λ a t rest w o ih. shallow_into a t rest o ih;
}

pub shallow_text : (left : ℕ) (t : Tree) (rest : List ℕ) → WF t → weight t ≤ 2 * left + 2 → shallow left (text t ++ rest) ≡ shallow left rest
shallow_text left t rest w h = text_passed shallow (λ a r. a) (λ a v. v ≤ 2 * a) shallow_walk t left rest w (omega (arith, h))

pub nested_weighs : (left : ℕ) (t : Tree) → WF t → shallow left (text t) ≡ false → 2 * left + 2 < weight t
unfolding shallow
nested_weighs left t w h = go (ltb (2 * left + 2) (weight t)) refl
  where
    go : (b : Bool) → ltb (2 * left + 2) (weight t) ≡ b → 2 * left + 2 < weight t
    go true e = ltb-true (2 * left + 2) (weight t) e
    go false e =
        absurd (true_not_false (ap (shallow left) (sym (append-nil (text t))) ∙ shallow_text left t [] w (ltb-false (2 * left + 2) (weight t) e)) h)

-- The items of a site as separate calls, of any simplifier that is orderly: what a later item is handed is what it finds, and what it leaves
-- stands behind the stretches before it; an induction on the items, stated once for `out` and `steps`.
use Prim.Native.Nat.{ℕ, zero, suc, ◌+◌, ◌*◌, ◌<◌, ◌≤◌}
use mathlib.Core.Path.{◌≡◌, refl, sym, ap, ◌∙◌}
use mathlib.Core.List.{List, [], ◌∷◌, ◌++◌}
use native.Mathlib.Nat.{mul-zero, mul-add, one-mul}
use native.Mathlib.Omega.{arith}
use lib.ListN.{length, get_or, take, drop}
use lib.Seq.{length-take-le, take_at, drop-append-add, drop-drop}
use Rattle.paper.specs.Bytes.{Bytes}
use Rattle.paper.specs.Answers.{Lent, Answer}
use Rattle.paper.specs.Demands.{Simplifier}
use Rattle.paper.proofs.BytesLaws.{take_bytes, drop_bytes}
use Rattle.paper_batch.specs.Batch.{used_up, remaining, in_front, first_uses, handed_on, in_turn}
use Rattle.paper_batch.specs.Sentences.{item, handed, used_before, counted_up, Separate}
use Rattle.paper_batch.proofs.Orderly.{Orderly}

-- ---- each item as a separate call
module _ (f : Simplifier) where
  -- "Every answer must be what separate calls would give"
  pub each_answer : (ns s : List ℕ) (l : Lent) (i : ℕ) (d : Answer) → i < length ns
      → get_or (in_turn f ns s l).answers i d ≡ (f (item ns s i) (handed f ns s l i)).answer
  unfolding in_turn item handed
  each_answer [] s l i d h = absurd (omega arith)
  each_answer (n ∷ ns) s l zero d h = refl
  each_answer (n ∷ ns) s l (suc i) d h = each_answer ns (drop n s) (handed_on f n s l) i d (omega arith)

  -- what was used up before an item is what a caller counts
  pub counts : (ns s : List ℕ) (l : Lent) (i : ℕ) → used_before f ns s l i ≡ counted_up ns s (in_turn f ns s l).answers i
  unfolding in_turn used_before counted_up first_uses
  counts [] s l zero = refl
  counts [] s l (suc i) = refl
  counts (n ∷ ns) s l zero = refl
  counts (n ∷ ns) s l (suc i) = ap (λ (k : ℕ). first_uses f n s l + k) (counts ns (drop n s) (handed_on f n s l) i)

  -- an area of c bytes for each of W: `out` with 16, `steps` with 1
  module _ (c : ℕ) (part : Lent → List ℕ) (rest : (w : ℕ) (l : Lent) → part (remaining w l) ≡ drop (c * w) (part l))
      (front : (w : ℕ) (l m : Lent) → part (in_front w l m) ≡ take (c * w) (part l) ++ part m)
      (kept : (s : List ℕ) → Bytes s → (l : Lent) → length (part (f s l).lent) ≡ length (part l))
      (fits : (s : List ℕ) → Bytes s → (l : Lent) → c * used_up s (f s l).answer ≤ length (part l))
      (past : (s : List ℕ) → Bytes s → (l : Lent)
      → drop (c * used_up s (f s l).answer) (part (f s l).lent) ≡ drop (c * used_up s (f s l).answer) (part l)) where
    -- the stretch that the item in front used up
    front_length : (n : ℕ) (s : List ℕ) → Bytes s → (l : Lent)
        → length (take (c * first_uses f n s l) (part (f (take n s) l).lent)) ≡ c * first_uses f n s l
    unfolding first_uses
    front_length n s b l =
        length-take-le (c * first_uses f n s l) (part (f (take n s) l).lent)
        (omega (arith, fits (take n s) (take_bytes n s b) l, kept (take n s) (take_bytes n s b) l))

    -- past it stands what the later items leave
    behind : (n : ℕ) (ns s : List ℕ) → Bytes s → (l : Lent) (o : ℕ)
        → drop (c * (first_uses f n s l + o)) (part (in_turn f (n ∷ ns) s l).lent)
        ≡ drop (c * o) (part (in_turn f ns (drop n s) (handed_on f n s l)).lent)
    unfolding in_turn
    behind n ns s b l o =
        let w = first_uses f n s l in
        let g = part (f (take n s) l).lent in
        let m = part (in_turn f ns (drop n s) (handed_on f n s l)).lent in
        let e = front_length n s b l in
        rw (front w (f (take n s) l).lent (in_turn f ns (drop n s) (handed_on f n s l)).lent)
        (ap (λ (k : ℕ). drop k (take (c * w) g ++ m)) (mul-add c w o ∙ ap (λ (k : ℕ). k + c * o) (sym e))
        ∙ drop-append-add (take (c * w) g) m (c * o))

    first_past : (n : ℕ) (s : List ℕ) → Bytes s → (l : Lent)
        → drop (c * first_uses f n s l) (part (f (take n s) l).lent) ≡ drop (c * first_uses f n s l) (part l)
    unfolding first_uses
    first_past n s b l = past (take n s) (take_bytes n s b) l

    -- "each item is handed what remains"
    pub each_handed : (ns s : List ℕ) → Bytes s → (l : Lent) (i : ℕ) → part (handed f ns s l i) ≡ drop (c * used_before f ns s l i) (part l)
    unfolding handed used_before handed_on
    each_handed [] s b l zero = rw (mul-zero c)
    each_handed [] s b l (suc i) = rw (mul-zero c)
    each_handed (n ∷ ns) s b l zero = rw (mul-zero c)
    each_handed (n ∷ ns) s b l (suc i) =
        let t = handed_on f n s l in
        let w = first_uses f n s l in
        let o = used_before f ns (drop n s) t i in
        each_handed ns (drop n s) (drop_bytes n s b) t i
        ∙ ap (drop (c * o)) (rest w (f (take n s) l).lent ∙ first_past n s b l)
        ∙ drop-drop (c * o) (c * w) (part l)
        ∙ ap (λ (k : ℕ). drop k (part l)) (sym (mul-add c w o))

    -- "an accepted item, or one with 7, uses up 16 x W and W bytes": there stands what the separate call leaves in them
    pub each_stretch : (ns s : List ℕ) → Bytes s → (l : Lent) (i : ℕ) → i < length ns
        → let w = used_up (item ns s i) (f (item ns s i) (handed f ns s l i)).answer in
        take (c * w) (drop (c * used_before f ns s l i) (part (in_turn f ns s l).lent)) ≡ take (c * w) (part (f (item ns s i) (handed f ns s l i)).lent)
    unfolding in_turn item handed used_before first_uses
    each_stretch [] s b l i h = absurd (omega arith)
    each_stretch (n ∷ ns) s b l zero h =
        let w = first_uses f n s l in
        let g = (f (take n s) l).lent in
        let m = (in_turn f ns (drop n s) (handed_on f n s l)).lent in
        rw (mul-zero c, front w g m) (take_at (take (c * w) (part g)) (part m) (c * w) (front_length n s b l))
    each_stretch (n ∷ ns) s b l (suc i) h =
        let t = handed_on f n s l in
        let w = used_up (item ns (drop n s) i) (f (item ns (drop n s) i) (handed f ns (drop n s) t i)).answer in
        ap (take (c * w)) (behind n ns s b l (used_before f ns (drop n s) t i))
        ∙ each_stretch ns (drop n s) (drop_bytes n s b) t i (omega arith)

    -- "bytes past the site": never changed
    pub past_kept : (ns s : List ℕ) → Bytes s → (l : Lent)
        → drop (c * used_before f ns s l (length ns)) (part (in_turn f ns s l).lent) ≡ drop (c * used_before f ns s l (length ns)) (part l)
    unfolding in_turn used_before handed_on
    past_kept [] s b l = refl
    past_kept (n ∷ ns) s b l =
        let t = handed_on f n s l in
        let w = first_uses f n s l in
        let o = used_before f ns (drop n s) t (length ns) in
        behind n ns s b l o
        ∙ past_kept ns (drop n s) (drop_bytes n s b) t
        ∙ ap (drop (c * o)) (rest w (f (take n s) l).lent ∙ first_past n s b l)
        ∙ drop-drop (c * o) (c * w) (part l)
        ∙ ap (λ (k : ℕ). drop k (part l)) (sym (mul-add c w o))

-- ---- of any orderly simplifier
module _ (f : Simplifier) (orderly : (s : List ℕ) → Bytes s → (l : Lent) → Orderly s l (f s l)) where
  rest_steps : (w : ℕ) (l : Lent) → (remaining w l).steps ≡ drop (1 * w) l.steps
  unfolding remaining
  rest_steps w l = rw (one-mul w)

  front_steps : (w : ℕ) (l m : Lent) → (in_front w l m).steps ≡ take (1 * w) l.steps ++ m.steps
  unfolding in_front
  front_steps w l m = rw (one-mul w)

  fit_steps : (s : List ℕ) → Bytes s → (l : Lent) → 1 * used_up s (f s l).answer ≤ length l.steps
  fit_steps s b l = omega (arith, (orderly s b l).steps_fit)

  past_steps : (s : List ℕ) → Bytes s → (l : Lent)
      → drop (1 * used_up s (f s l).answer) (f s l).lent.steps ≡ drop (1 * used_up s (f s l).answer) l.steps
  past_steps s b l = rw (one-mul (used_up s (f s l).answer)) (orderly s b l).steps_past

  handed_work : (ns s : List ℕ) → Bytes s → (l : Lent) (i : ℕ) → length (handed f ns s l i).work ≡ length l.work
  unfolding handed handed_on remaining
  handed_work [] s b l zero = refl
  handed_work [] s b l (suc i) = refl
  handed_work (n ∷ ns) s b l zero = refl
  handed_work (n ∷ ns) s b l (suc i) =
      handed_work ns (drop n s) (drop_bytes n s b) (handed_on f n s l) i ∙ (orderly (take n s) (take_bytes n s b) l).work_kept

  pub separate : (ns s : List ℕ) → Bytes s → (l : Lent) (i : ℕ) → i < length ns → Separate f ns s l i
  unfolding remaining in_front
  separate ns s b l i h =
      let g = handed f ns s l i in
      let w = used_up (item ns s i) (f (item ns s i) g).answer in
      let o = used_before f ns s l i in
      record {
        own = g;
        used = w;
        before = o;
        counted = counts f ns s l i;
        handed_out =
            each_handed f 16 (λ m. m.out) (λ w m. refl) (λ w m n. refl) (λ s b m. (orderly s b m).out_kept) (λ s b m. (orderly s b m).out_fits)
            (λ s b m. (orderly s b m).out_past) ns s b l i;
        handed_steps =
            each_handed f 1 (λ m. m.steps) rest_steps front_steps (λ s b m. (orderly s b m).steps_kept) fit_steps past_steps ns s b l i
            ∙ ap (λ (k : ℕ). drop k l.steps) (one-mul o);
        handed_work = handed_work ns s b l i;
        uses = refl;
        answer = λ d. each_answer f ns s l i d h;
        out =
            each_stretch f 16 (λ m. m.out) (λ w m. refl) (λ w m n. refl) (λ s b m. (orderly s b m).out_kept) (λ s b m. (orderly s b m).out_fits)
            (λ s b m. (orderly s b m).out_past) ns s b l i h;
        steps =
            simp one-mul at
            (each_stretch f 1 (λ m. m.steps) rest_steps front_steps (λ s b m. (orderly s b m).steps_kept) fit_steps past_steps ns s b l i h);
      }

  pub past_out : (ns s : List ℕ) → Bytes s → (l : Lent) → let w = used_before f ns s l (length ns) in
      drop (16 * w) (in_turn f ns s l).lent.out ≡ drop (16 * w) l.out
  unfolding remaining in_front
  past_out ns s b l =
      past_kept f 16 (λ m. m.out) (λ w m. refl) (λ w m n. refl) (λ s b m. (orderly s b m).out_kept) (λ s b m. (orderly s b m).out_fits)
      (λ s b m. (orderly s b m).out_past) ns s b l

  pub past_notes : (ns s : List ℕ) → Bytes s → (l : Lent) → let w = used_before f ns s l (length ns) in
      drop w (in_turn f ns s l).lent.steps ≡ drop w l.steps
  past_notes ns s b l =
      simp one-mul at
      (past_kept f 1 (λ m. m.steps) rest_steps front_steps (λ s b m. (orderly s b m).steps_kept) fit_steps past_steps ns s b l)

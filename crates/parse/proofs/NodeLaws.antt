-- Records written one after the other are written as one; and a node is written though its record comes last: its first member is shifted one
-- record on, the others follow, and the record goes to the front. Where the whole fits, each part fits.
use Prim.Native.Nat.{ℕ, ◌+◌, ◌-◌, ◌*◌, ◌≤◌}
use mathlib.Core.Path.{◌≡◌, sym, ap, ◌∙◌}
use mathlib.Core.List.{List, ◌++◌, append_assoc}
use native.Mathlib.Omega.{arith}
use lib.ListN.{length, take, drop, length-append}
use Rattle.stretch.specs.Put.{part, put}
use Rattle.stretch.proofs.Laws.{length_put, take_put, drop_put, drop_put_at, part_put_same, put_put}
use Rattle.parse.specs.Written.{Written, Shifted}

-- a put at the same place that is no shorter
over : (d : List ℕ) (a : ℕ) (s t : List ℕ) → a ≤ length d → length s ≤ length t → put (put d a s) a t ≡ put d a t
unfolding put
over d a s t h l =
    ap (λ x. x ++ (t ++ drop (a + length t) (put d a s))) (take_put d a s a (omega arith) h)
    ∙ ap (λ x. take a d ++ (t ++ x)) (drop_put d a s (a + length t) (omega (arith, l)) h)

-- a put right before one
before : (d : List ℕ) (a : ℕ) (s : List ℕ) (b : ℕ) (t : List ℕ) → b ≡ a + length s → b ≤ length d → put (put d b t) a s ≡ put d a (s ++ t)
unfolding put
before d a s b t e h =
    let n = length-append s t in
    let k : b + length t ≡ a + length (s ++ t) = omega (arith, e, n) in
    ap (λ x. x ++ (s ++ drop (a + length s) (put d b t))) (take_put d b t a (omega (arith, e)) h)
    ∙ ap (λ (i : ℕ). take a d ++ (s ++ drop i (put d b t))) (sym e)
    ∙ ap (λ x. take a d ++ (s ++ x)) (drop_put_at d b t h ∙ ap (λ (i : ℕ). t ++ drop i d) k)
    ∙ ap (λ x. take a d ++ x) (sym (append_assoc s t (drop (a + length (s ++ t)) d)))

pub then_written : {p q o o' o'' : List ℕ} {d : ℕ} (e n : ℕ) → length p ≡ 16 * n → e ≡ d + n → Written p o d o' → Written q o' e o''
    → Written (p ++ q) o d o''
then_written {p} {q} {o} {o'} {o''} {d} e n m i h k =
    let l = length-append p q in
    record {
      there = λ f.
          let here = h.there (omega (arith, f, l)) in
          let long : length o' ≡ length o = ap length here ∙ length_put o (d * 16) p (omega (arith, f, l)) in
          k.there (omega (arith, f, l, m, i, long)) ∙ ap (λ z. put z (e * 16) q) here
          ∙ put_put o (d * 16) p (e * 16) q (omega (arith, m, i)) (omega (arith, f, l, m, i));
    }

-- a node: the first member p at d, shifted; the others r; the record at d
pub node_written : {first p r o o1 o2 o3 o4 : List ℕ} {d : ℕ} (q n : ℕ) → length first ≡ 16 → length p ≡ 16 * n → q ≡ d + n
    → Written p o d o1 → Shifted o1 d q o2 → Written r o2 (q + 1) o3 → Written first o3 d o4 → Written (first ++ (p ++ r)) o d o4
node_written {first} {p} {r} {o} {o1} {o2} {o3} {o4} {d} q n f m i w s y z =
    let l = length-append first (p ++ r) in
    let k = length-append p r in
    record {
      there = λ g.
          let a = d * 16 in
          let b = d * 16 + 16 in
          let e1 = w.there (omega (arith, g, l, k)) in
          let n1 : length o1 ≡ length o = ap length e1 ∙ length_put o a p (omega (arith, g, l, k)) in
          let c : length p ≡ (q - d) * 16 = omega (arith, m, i) in
          let same : part o1 a ((q - d) * 16) ≡ p =
          ap (λ x. part x a ((q - d) * 16)) e1 ∙ part_put_same o a p ((q - d) * 16) c (omega (arith, g, l, k)) in
          let e2 = s.there (omega (arith, g, l, k, f, m, i, n1)) ∙ ap (put o1 b) same in
          let n2 : length o2 ≡ length o1 = ap length e2 ∙ length_put o1 b p (omega (arith, g, l, k, f, n1)) in
          let e3 = y.there (omega (arith, g, l, k, f, m, i, n1, n2)) ∙ ap (λ x. put x ((q + 1) * 16) r) e2
          ∙ put_put o1 b p ((q + 1) * 16) r (omega (arith, m, i)) (omega (arith, g, l, k, f, m, i, n1)) in
          let n3 : length o3 ≡ length o1 = ap length e3 ∙ length_put o1 b (p ++ r) (omega (arith, g, l, k, f, n1)) in
          z.there (omega (arith, g, l, n1, n3)) ∙ ap (λ x. put x a first) e3
          ∙ before o1 a first b (p ++ r) (omega (arith, f)) (omega (arith, g, l, f, n1))
          ∙ ap (λ x. put x a (first ++ (p ++ r))) e1
          ∙ over o a p (first ++ (p ++ r)) (omega (arith, g)) (omega (arith, l, k));
    }

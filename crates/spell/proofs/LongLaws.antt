-- A member's text has fewer than 65 characters for each of its records, so that places stay numbers of 64 bits.
use Prim.Native.Nat.{ℕ, ◌+◌, ◌*◌, ◌^◌, ◌≤◌, ◌<◌}
use mathlib.Core.Path.{◌≡◌}
use mathlib.Core.Bool.{Bool, true, false}
use mathlib.Core.List.{List, [], ◌∷◌}
use native.Mathlib.Omega.{arith}
use lib.ListN.{length, length-append}
use Rattle.paper.specs.Tree.{Tree, Forest, integer, symbol, sum, product, power, nil, cons, records, recordses, weight, weights}
use Rattle.paper.specs.WellFormed.{WF}
use Rattle.paper_text.specs.Text.{closes, enclosed, text}
use Rattle.paper.specs.Verdict.{records_in}
use Rattle.paper.specs.Standing.{TreeIn}
use Rattle.paper.proofs.EncodeLaws.{records_pos}
use Rattle.paper_text.proofs.LengthLaws.{text_length}
use Rattle.paper.proofs.StandingLaws.{tree_within}
use Rattle.spell.specs.Spelt.{Roomy}

-- a record weighs at most 3
mutual
  unfolding records weight

  weight_by_records : (t : Tree) → weight t ≤ 3 * records t
  weight_by_records (integer μ z) = omega arith
  weight_by_records (symbol μ s) = omega arith
  weight_by_records (sum μ f) = let h = weights_by_records f in omega (arith, h)
  weight_by_records (product μ f) = let h = weights_by_records f in omega (arith, h)
  weight_by_records (power μ b ξ e) = let h = weight_by_records b in omega (arith, h)

  weights_by_records : (f : Forest) → weights f ≤ 3 * recordses f
  weights_by_records nil = omega arith
  weights_by_records (cons t f) = let h = weight_by_records t in let k = weights_by_records f in omega (arith, h, k)

enclosed_most : (b : Bool) (s : List ℕ) → length (enclosed b s) ≤ length s + 2
unfolding enclosed
enclosed_most true s = let e = length-append s (closes ∷ []) in omega (arith, e)
enclosed_most false s = omega arith

pub member_long : (b : Bool) (t : Tree) → WF t → length (enclosed b (text t)) + 1 ≤ 65 * records t
member_long b t w =
    let l = text_length t w in
    let k = weight_by_records t in
    let e = enclosed_most b (text t) in
    let r = records_pos t in
    omega (arith, l, k, e, r)

-- what comes after a member, and a sign, has room as well
pub room_after : {s : List ℕ} {i at j e : ℕ} (b : Bool) (t : Tree) → TreeIn s i t → Roomy s i at → j ≡ i + records t
    → e ≡ at + length (enclosed b (text t)) → Roomy s j (e + 1)
unfolding records_in
room_after {s} {i} {at} {j} {e} b t h l p q =
    let m = member_long b t h.wf in
    let w = tree_within h in
    let f = l.fits in
    record { fits = omega (arith, f, p, q, m, w) }

-- a closing parenthesis has room
pub closing_room : {s : List ℕ} {i at : ℕ} (m e : ℕ) (t : Tree) → TreeIn s i t → Roomy s i at → m ≡ at + 1 → e ≡ m + length (text t) → e < 2 ^ 63
unfolding enclosed records_in
closing_room {s} {i} {at} m e t h l p q =
    let x = member_long false t h.wf in
    let w = tree_within h in
    let f = l.fits in
    omega (arith, x, w, f, p, q)

-- Two answers that meet a contract of this crate, as the check reads it from the source, are the same: a digit is there or not by one definition of
-- the text; of a number that is read the contract tells the number and what of the text is left, hence its place; a number that is spelt ends
-- where its digits do, and where these fit the area is what it was with them put in.
use Prim.Native.Nat.{ℕ, ◌+◌, ◌≤◌}
use mathlib.Core.Path.{◌≡◌, refl, sym, ap, ap₂, ◌∙◌}
use mathlib.Core.List.{List}
use mathlib.Core.Option.{none, some}
use native.Mathlib.Omega.{arith}
use borrow.Fn.Kinds.{Dens, ended_of}
use contract.Lifetimes.{Lfts}
use denote.Triple.Clauses.{AtExit}
use lib.ListN.{length, drop, length-drop}
use Rattle.paper.specs.Once.{Once}
use Rattle.paper_text.specs.Text.{Reading, digits}
use Rattle.std.specs.Prelude.{Some, None}
use Rattle.std.specs.declared.option.Option.{Option}
use Rattle.decimal.specs.Digits.{means, Ahead}
use Rattle.decimal.proofs.digit_at.Reads as digit-at-reads
use Rattle.decimal.proofs.digit_at.Kinds as digit-at-kinds
use Rattle.decimal.proofs.read_number.Reads as read-number-reads
use Rattle.decimal.proofs.read_number.Kinds as read-number-kinds
use Rattle.decimal.proofs.spell_number.Reads as spell-number-reads
use Rattle.decimal.proofs.spell_number.Kinds as spell-number-kinds

pub digit_at_once : Once 1 digit-at-kinds.ps digit-at-kinds.r digit-at-reads.Pre digit-at-reads.Post
digit_at_once κs a v v' x x' h p q = p ∙ sym q

-- whether a number is read, the number, and the length of what is left
there : Reading ℕ → ℕ
there none = 0
there (some r) = 1

number_of : Reading ℕ → ℕ
number_of none = 0
number_of (some r) = r.0

left_of : Reading ℕ → ℕ
left_of none = 0
left_of (some r) = length r.1

same_number : (s : List ℕ) (at : ℕ) (r r' : Option (ℕ × ℕ)) → Ahead s at r → Ahead s at r' → means s r ≡ means s r' → r ≡ r'
unfolding there number_of left_of
same_number s at None None f g e = refl
same_number s at None (Some r) f g e = absurd (let z : ◌≡◌ {A = ℕ} 0 1 = ap there e in omega (arith, z))
same_number s at (Some r) None f g e = absurd (let z : ◌≡◌ {A = ℕ} 1 0 = ap there e in omega (arith, z))
same_number s at (Some (v, k)) (Some (w, j)) f g e =
    let m : length (drop k s) ≡ length (drop j s) = ap left_of e in
    let l = length-drop {A = ℕ} k s in
    let l' = length-drop {A = ℕ} j s in
    let n : k ≡ j = omega (arith, m, l, l', f.1, g.1) in
    ap₂ (λ (x y : ℕ). Some (x, y)) (ap number_of e) n

pub read_number_once : Once 1 read-number-kinds.ps read-number-kinds.r read-number-reads.Pre read-number-reads.Post
read_number_once κs a v v' x x' h p q = same_number a.0.now a.1.0 v v' p.ahead q.ahead (p.reads ∙ sym q.reads)

-- the place always; the area where the digits fit
pub spell_number_once : (κs : Lfts 1) (a : Dens κs spell-number-kinds.ps) (v v' : ℕ)
    (x x' : AtExit (ended_of 1 spell-number-kinds.ps spell-number-kinds.r) κs)
    → spell-number-reads.Post κs a v x → spell-number-reads.Post κs a v' x'
    → (v ≡ v') × (a.1.1.0 + length (digits a.0) ≤ length a.1.0.now → x.1.0.now ≡ x'.1.0.now)
spell_number_once κs a v v' x x' p q = (p.end ∙ sym q.end, λ f. p.spelt f ∙ sym (q.spelt f))

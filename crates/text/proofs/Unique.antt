-- Two answers that meet the contract of `read` or of `write`, as the check reads it from the source, are the same, and so is the area
-- afterwards: each contract is an equation with a function of what is handed in.
use Prim.Native.Nat.{ℕ}
use mathlib.Core.Path.{◌≡◌, refl, sym, ap, ◌∙◌}
use mathlib.Core.Bool.{Bool, true, false, cond}
use mathlib.Core.Option.{none, some}
use mathlib.Core.Option as paper-option
use native.Mathlib.Omega.{arith}
use Rattle.std.specs.Prelude.{None, Result, Ok, Err}
use Rattle.paper.specs.Tree.{Tree}
use Rattle.paper.specs.Limits.{is_limit}
use Rattle.paper.specs.Verdict.{Verdict}
use Rattle.paper.specs.Answers.{measured}
use mathlib.Core.List.{List}
use Rattle.paper.specs.Once.{OnceLeft}
use Rattle.paper_text.specs.Text.{read_text}
use Rattle.paper_text.specs.Answers.{Taken, taken, room_for, read_judged, read_verdict, read_answer, read_given, write_answer, write_given}
use Rattle.table.specs.Refusals.{number_of, place_of, flaw_in}
use Rattle.table.specs.declared.refusals.Refusal.{Refusal}
use Rattle.table.specs.declared.refusals.Refusal.TheVariants.{Length, Record, Heavy, Shape, Exponent, Room, Range, Lists, Edition, Newer, Disorder}
use Rattle.table.specs.declared.refusals.Refusal.TheVariants.{Absent, Full, NoText, Definition, Defined, Endless, TooHeavy, Limit}
use Rattle.table.proofs.RefusalLaws.{some_number}
use Rattle.table.proofs.Unique.{refusal_told, number_once}
use Rattle.text.specs.Gives.{taken_as}
use Rattle.text.proofs.read.Reads as read-reads
use Rattle.text.proofs.read.Kinds as read-kinds
use Rattle.text.proofs.write.Reads as write-reads
use Rattle.text.proofs.write.Kinds as write-kinds

-- nothing is wrong with a record where none is refused
no_flaw : (r : Refusal) → (number_of r ≡ 2 → ⊥) → flaw_in r ≡ None
no_flaw (Record p f) h = absurd (h refl)
no_flaw Length h = refl
no_flaw Heavy h = refl
no_flaw (Shape p) h = refl
no_flaw (Exponent p) h = refl
no_flaw Room h = refl
no_flaw (Range p) h = refl
no_flaw Lists h = refl
no_flaw Edition h = refl
no_flaw Newer h = refl
no_flaw Disorder h = refl
no_flaw Absent h = refl
no_flaw Full h = refl
no_flaw NoText h = refl
no_flaw Definition h = refl
no_flaw Defined h = refl
no_flaw Endless h = refl
no_flaw TooHeavy h = refl
no_flaw Limit h = refl

-- number and place tell a refusal that is none of a record
taken_once : (r r' : Result ℕ Refusal) (t : Taken) → (t.number ≡ 2 → ⊥) → taken_as r ≡ t → taken_as r' ≡ t → r ≡ r'
taken_once (Ok x) (Ok y) t a e q = ap (λ (u : Taken). Ok u.records_written) (e ∙ sym q)
taken_once (Ok x) (Err r) t a e q = absurd (omega (arith, some_number r, ap (λ (u : Taken). u.number) (e ∙ sym q)))
taken_once (Err r) (Ok x) t a e q = absurd (omega (arith, some_number r, ap (λ (u : Taken). u.number) (e ∙ sym q)))
taken_once (Err r) (Err r') t a e q =
    let n : number_of r ≡ t.number = ap (λ (u : Taken). u.number) e in
    let n' : number_of r' ≡ t.number = ap (λ (u : Taken). u.number) q in
    let p : place_of r ≡ place_of r' = ap (λ (u : Taken). u.place) (e ∙ sym q) in
    let f : flaw_in r ≡ None = no_flaw r (λ z. a (sym n ∙ z)) in
    let f' : flaw_in r' ≡ None = no_flaw r' (λ z. a (sym n' ∙ z)) in
    ap Err (refusal_told r r' (rw (n, n', p, f, f')))

-- no answer of the reader has number 2
either : (b : Bool) (v w : Verdict) → (v.number ≡ 2 → ⊥) → (w.number ≡ 2 → ⊥) → (cond b v w).number ≡ 2 → ⊥
either true v w h k = h
either false v w h k = k

read_other : (lim : ℕ) (o : paper-option.Option Tree) (area : List ℕ) → (read_verdict lim o area).number ≡ 2 → ⊥
unfolding read_verdict read_judged room_for
read_other lim none area = either (is_limit lim) _ _ (λ (e : 14 ≡ 2). omega arith) (λ (e : 19 ≡ 2). omega arith)
read_other lim (some t) area =
    either (is_limit lim) _ _
    (either _ _ _ (λ (e : 3 ≡ 2). omega arith) (either _ _ _ (λ (e : 6 ≡ 2). omega arith) (λ (e : 0 ≡ 2). omega arith)))
    (λ (e : 19 ≡ 2). omega arith)

pub read_once : OnceLeft 2 read-kinds.ps read-kinds.r read-reads.Pre read-reads.Post (List ℕ) (λ κs x. x.1.1.0.now)
unfolding read_given read_answer taken
read_once κs a v v' x x' q p p' =
    let o = read_other a.0 (read_text a.1.0.now) a.1.1.0.now in
    (taken_once v v' _ o (ap (λ g. g.answer) p) (ap (λ g. g.answer) p'), ap (λ g. g.area) (p ∙ sym p'))

pub write_once : OnceLeft 2 write-kinds.ps write-kinds.r write-reads.Pre write-reads.Post (List ℕ) (λ κs x. x.1.1.0.now)
unfolding write_given write_answer measured
write_once κs a v v' x x' q p p' =
    (number_once v v' _ (ap (λ g. g.answer) p) (ap (λ g. g.answer) p'), ap (λ g. g.area) (p ∙ sym p'))

-- Two answers that meet the contract of `check`, `weight`, `weight_of`, `is_limit`, `is_due`, `turn`
-- or of a refusal's number, place or flaw, as the check reads it from the source, are the same. The paper's number, place and flaw tell a refusal
-- from every other; the weight is one number, and yes or no is one.
use Prim.Native.Nat.{ℕ}
use mathlib.Core.Path.{◌≡◌, refl, sym, ap, ap₂, ◌∙◌}
use mathlib.Core.Bool.{cond}
use mathlib.Core.List.{List}
use native.Mathlib.Omega.{arith}
use lib.Dec.{eqb}
use Rattle.std.specs.Prelude.{Some, Result, Ok, Err}
use Rattle.paper.specs.Record as paper-record
use Rattle.paper.specs.Verdict.{Verdict}
use Rattle.paper.specs.Answers as paper
use Rattle.paper.specs.Once.{Once, OnceLeft}
use Rattle.record.specs.declared.Flaw.{Flaw}
use Rattle.record.specs.declared.Flaw.TheVariants.{Kind, Byte, Count}
use Rattle.record.specs.Flaw.{flaw_of}
use Rattle.table.specs.Refusals.{stands_for, which_of}
use Rattle.table.specs.Refusals as refusals
use Rattle.table.specs.declared.refusals.Refusal.{Refusal}
use Rattle.table.specs.declared.refusals.Refusal.TheVariants.{Length, Record, Heavy, Shape, Exponent, Room, Range, Lists, Edition, Newer, Disorder}
use Rattle.table.specs.declared.refusals.Refusal.TheVariants.{Absent, Full, NoText, Definition, Defined, Endless, TooHeavy, Limit}
use Rattle.table.specs.declared.refusals.Refused.{Refused}
use Rattle.table.specs.declared.refusals.Which.{Which}
use Rattle.table.specs.declared.refusals.Which.TheVariants.{Neither, First, Second}
use Rattle.table.proofs.RefusalLaws.{some_number}
use Rattle.table.proofs.check.Reads as check-reads
use Rattle.table.proofs.check.Kinds as check-kinds
use Rattle.table.proofs.weight.Reads as weight-reads
use Rattle.table.proofs.weight.Kinds as weight-kinds
use Rattle.table.proofs.is_limit.Reads as is-limit-reads
use Rattle.table.proofs.is_limit.Kinds as is-limit-kinds
use Rattle.table.proofs.weight_of.Reads as weight-of-reads
use Rattle.table.proofs.weight_of.Kinds as weight-of-kinds
use Rattle.table.proofs.is_due.Reads as is-due-reads
use Rattle.table.proofs.is_due.Kinds as is-due-kinds
use Rattle.table.proofs.turn.Reads as turn-reads
use Rattle.table.proofs.turn.Kinds as turn-kinds
use Rattle.table.proofs.refusals.Refusal.number.Reads as number-reads
use Rattle.table.proofs.refusals.Refusal.number.Kinds as number-kinds
use Rattle.table.proofs.refusals.Refusal.place.Reads as place-reads
use Rattle.table.proofs.refusals.Refusal.place.Kinds as place-kinds
use Rattle.table.proofs.refusals.Refusal.flaw.Reads as flaw-reads
use Rattle.table.proofs.refusals.Refusal.flaw.Kinds as flaw-kinds
use Rattle.table.proofs.refusals.Which.number.Reads as which-reads
use Rattle.table.proofs.refusals.Which.number.Kinds as which-kinds

-- the refusal that has this number, at this place, with this flaw
flaw_named : paper-record.Flaw → Flaw
flaw_named paper-record.sound = Kind
flaw_named paper-record.bad_kind = Kind
flaw_named (paper-record.bad_byte j) = Byte j
flaw_named paper-record.bad_count = Count

flaw_named_lem : (f : Flaw) → flaw_named (flaw_of (Some f)) ≡ f
unfolding flaw_named
flaw_named_lem Kind = refl
flaw_named_lem (Byte j) = refl
flaw_named_lem Count = refl

abbrev decode : Verdict → Refusal
decode v =
    cond (eqb v.number 1) Length
    (cond (eqb v.number 2) (Record v.place (flaw_named v.flaw))
    (cond (eqb v.number 3) Heavy
    (cond (eqb v.number 4) (Shape v.place)
    (cond (eqb v.number 5) (Exponent v.place)
    (cond (eqb v.number 6) Room
    (cond (eqb v.number 7) (Range v.place)
    (cond (eqb v.number 8) Lists
    (cond (eqb v.number 9) Edition
    (cond (eqb v.number 10) Newer
    (cond (eqb v.number 11) Disorder
    (cond (eqb v.number 12) Absent
    (cond (eqb v.number 13) Full
    (cond (eqb v.number 14) NoText
    (cond (eqb v.number 15) Definition
    (cond (eqb v.number 16) Defined
    (cond (eqb v.number 17) Endless
    (cond (eqb v.number 18) TooHeavy
    Limit)))))))))))))))))

decode_lem : (r : Refusal) → decode (refusals.verdict_of r) ≡ r
decode_lem Length = refl
decode_lem (Record p f) = ap (Record p) (flaw_named_lem f)
decode_lem Heavy = refl
decode_lem (Shape p) = refl
decode_lem (Exponent p) = refl
decode_lem Room = refl
decode_lem (Range p) = refl
decode_lem Lists = refl
decode_lem Edition = refl
decode_lem Newer = refl
decode_lem Disorder = refl
decode_lem Absent = refl
decode_lem Full = refl
decode_lem NoText = refl
decode_lem Definition = refl
decode_lem Defined = refl
decode_lem Endless = refl
decode_lem TooHeavy = refl
decode_lem Limit = refl

-- a refusal is told by the paper's number, place and flaw; so is an answer, beside nothing and beside a number
pub refusal_told : (r r' : Refusal) → refusals.verdict_of r ≡ refusals.verdict_of r' → r ≡ r'
refusal_told r r' e = sym (decode_lem r) ∙ ap decode e ∙ decode_lem r'

pub stands_once : (r r' : Result (Unit {0}) Refusal) (v : Verdict) → stands_for r ≡ v → stands_for r' ≡ v → r ≡ r'
stands_once (Ok x) (Ok y) v e q = refl
stands_once (Ok x) (Err r) v e q = absurd (omega (arith, some_number r, ap (λ (x : Verdict). x.number) (e ∙ sym q)))
stands_once (Err r) (Ok x) v e q = absurd (omega (arith, some_number r, ap (λ (x : Verdict). x.number) (e ∙ sym q)))
stands_once (Err r) (Err r') v e q = ap Err (refusal_told r r' (e ∙ sym q))

pub number_once : (r r' : Result ℕ Refusal) (m : paper.Measured) → refusals.says r ≡ m → refusals.says r' ≡ m → r ≡ r'
number_once (Ok x) (Ok y) m e q = ap (λ (m : paper.Measured). Ok m.result) (e ∙ sym q)
number_once (Ok x) (Err r) m e q = absurd (omega (arith, some_number r, ap (λ (x : paper.Measured). x.number) (e ∙ sym q)))
number_once (Err r) (Ok x) m e q = absurd (omega (arith, some_number r, ap (λ (x : paper.Measured). x.number) (e ∙ sym q)))
number_once (Err r) (Err r') m e q =
    ap Err (refusal_told r r' (ap (λ (m : paper.Measured). record { number = m.number; place = m.place; flaw = m.flaw }) (e ∙ sym q)))

-- which of two tables it is of is told by its number
which_named : ℕ → Which
which_named k = cond (eqb k 0) Neither (cond (eqb k 1) First Second)

which_named_lem : (w : Which) → which_named (which_of w) ≡ w
unfolding which_named
which_named_lem Neither = refl
which_named_lem First = refl
which_named_lem Second = refl

pub refused_told : (r r' : Refused) → refusals.verdict_of r.refusal ≡ refusals.verdict_of r'.refusal → which_of r.which ≡ which_of r'.which → r ≡ r'
refused_told r r' e q =
    ap₂ (λ (x : Refusal) (w : Which). record { refusal = x; which = w }) (refusal_told r.refusal r'.refusal e)
    (sym (which_named_lem r.which) ∙ ap which_named q ∙ which_named_lem r'.which)

pub check_once : Once 1 check-kinds.ps check-kinds.r check-reads.Pre check-reads.Post
check_once κs a v v' x x' q p p' = stands_once v v' _ p p'

pub weight_once : Once 1 weight-kinds.ps weight-kinds.r weight-reads.Pre weight-reads.Post
weight_once κs a v v' x x' q p p' = number_once v v' _ p p'

pub number_of_once : Once 0 number-kinds.ps number-kinds.r number-reads.Pre number-reads.Post
number_of_once κs a v v' x x' q p p' = p ∙ sym p'

pub place_of_once : Once 0 place-kinds.ps place-kinds.r place-reads.Pre place-reads.Post
place_of_once κs a v v' x x' q p p' = p ∙ sym p'

pub flaw_in_once : Once 0 flaw-kinds.ps flaw-kinds.r flaw-reads.Pre flaw-reads.Post
flaw_in_once κs a v v' x x' q p p' = p ∙ sym p'

pub which_of_once : Once 0 which-kinds.ps which-kinds.r which-reads.Pre which-reads.Post
which_of_once κs a v v' x x' q p p' = p ∙ sym p'

pub is_due_once : Once 1 is-due-kinds.ps is-due-kinds.r is-due-reads.Pre is-due-reads.Post
is_due_once κs a v v' x x' q p p' = p ∙ sym p'

pub turn_once : OnceLeft 1 turn-kinds.ps turn-kinds.r turn-reads.Pre turn-reads.Post (List ℕ) (λ κs x. x.0.now)
turn_once κs a v v' x x' q p p' = (refl, p ∙ sym p')

pub weight_of_once : Once 1 weight-of-kinds.ps weight-of-kinds.r weight-of-reads.Pre weight-of-reads.Post
weight_of_once κs a v v' x x' q p p' = p ∙ sym p'

pub is_limit_once : Once 0 is-limit-kinds.ps is-limit-kinds.r is-limit-reads.Pre is-limit-reads.Post
is_limit_once κs a v v' x x' q p p' = p ∙ sym p'

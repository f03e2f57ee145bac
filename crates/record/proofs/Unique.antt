-- Each contract, as the check reads it off the source, leaves one answer open and no other: each answer equals one definition of what was
-- given. What is wrong with a record is told from every other flaw by the paper's value; of `write_record`, `copy_record` and `set_mark` it is
-- the bytes at exit that are one.
use Prim.Native.Nat.{ℕ}
use mathlib.Core.Path.{◌≡◌, refl, sym, ap, ◌∙◌}
use mathlib.Core.List.{List}
use lib.ListN.{get_or}
use Rattle.std.specs.Prelude.{Option, Some, None}
use Rattle.paper.specs.Record as paper
use Rattle.paper.specs.Once.{Once, OnceLeft}
use Rattle.record.specs.Flaw.{flaw_of, both_numbers}
use Rattle.record.specs.declared.Flaw.{Flaw}
use Rattle.record.specs.declared.FlawNumbers.{FlawNumbers}
use Rattle.record.specs.declared.Flaw.TheVariants.{Kind, Byte, Count}
use Rattle.record.proofs.kind.Reads as kind
use Rattle.record.proofs.kind.Kinds as kind-kinds
use Rattle.record.proofs.kinds.Kind.at.Reads as kind-at
use Rattle.record.proofs.kinds.Kind.at.Kinds as kind-at-kinds
use Rattle.record.proofs.kinds.Kind.number.Reads as number
use Rattle.record.proofs.kinds.Kind.number.Kinds as number-kinds
use Rattle.record.proofs.KindLaws.{kind_by_number}
use Rattle.record.proofs.count.Reads as count
use Rattle.record.proofs.count.Kinds as count-kinds
use Rattle.record.proofs.mark.Reads as mark
use Rattle.record.proofs.mark.Kinds as mark-kinds
use Rattle.record.proofs.bits.Reads as bits
use Rattle.record.proofs.bits.Kinds as bits-kinds
use Rattle.record.proofs.symbol.Reads as symbol
use Rattle.record.proofs.symbol.Kinds as symbol-kinds
use Rattle.record.proofs.arity.Reads as arity
use Rattle.record.proofs.arity.Kinds as arity-kinds
use Rattle.record.proofs.is_positive.Reads as is_positive
use Rattle.record.proofs.is_positive.Kinds as is-positive-kinds
use Rattle.record.proofs.judge_record.Reads as judge-record
use Rattle.record.proofs.judge_record.Kinds as judge-record-kinds
use Rattle.record.proofs.flaw_numbers.Reads as flaw-numbers
use Rattle.record.proofs.flaw_numbers.Kinds as flaw-numbers-kinds
use Rattle.record.proofs.write_record.Reads as write-record
use Rattle.record.proofs.write_record.Kinds as write-record-kinds
use Rattle.record.proofs.copy_record.Reads as copy-record
use Rattle.record.proofs.copy_record.Kinds as copy-record-kinds
use Rattle.record.proofs.set_mark.Reads as set-mark
use Rattle.record.proofs.set_mark.Kinds as set-mark-kinds

pub kind_once : Once 1 kind-kinds.ps kind-kinds.r kind.Pre kind.Post
kind_once κs a v v' x x' q p p' = p ∙ sym p'

pub kind_at_once : Once 1 kind-at-kinds.ps kind-at-kinds.r kind-at.Pre kind-at.Post
kind_at_once κs a v v' x x' q p p' = kind_by_number v v' (p.0 ∙ sym p'.0)

pub number_once : Once 0 number-kinds.ps number-kinds.r number.Pre number.Post
number_once κs a v v' x x' q p p' = p ∙ sym p'

pub count_once : Once 1 count-kinds.ps count-kinds.r count.Pre count.Post
count_once κs a v v' x x' q p p' = p.0 ∙ sym p'.0

pub mark_once : Once 1 mark-kinds.ps mark-kinds.r mark.Pre mark.Post
mark_once κs a v v' x x' q p p' = p.0 ∙ sym p'.0

pub bits_once : Once 1 bits-kinds.ps bits-kinds.r bits.Pre bits.Post
bits_once κs a v v' x x' q p p' = p ∙ sym p'

pub symbol_once : Once 1 symbol-kinds.ps symbol-kinds.r symbol.Pre symbol.Post
symbol_once κs a v v' x x' q p p' = p ∙ sym p'

pub arity_once : Once 1 arity-kinds.ps arity-kinds.r arity.Pre arity.Post
arity_once κs a v v' x x' q p p' = p.0 ∙ sym p'.0

pub is_positive_once : Once 1 is-positive-kinds.ps is-positive-kinds.r is_positive.Pre is_positive.Post
is_positive_once κs a v v' x x' q p p' = p ∙ sym p'

-- the two numbers tell the answer that has them
numbers_once : (v v' : FlawNumbers) → both_numbers v ≡ both_numbers v' → v ≡ v'
numbers_once v v' e = ap (λ (l : List ℕ). record { what = get_or l 0 0; byte = get_or l 1 0 }) e

pub flaw_numbers_once : Once 0 flaw-numbers-kinds.ps flaw-numbers-kinds.r flaw-numbers.Pre flaw-numbers.Post
flaw_numbers_once κs a v v' x x' q p p' = numbers_once v v' (p ∙ sym p')

-- the code's answer that has this value
pub code_of : paper.Flaw → Option Flaw
code_of paper.sound = None
code_of paper.bad_kind = Some Kind
code_of (paper.bad_byte j) = Some (Byte j)
code_of paper.bad_count = Some Count

pub code_of_lem : (f : Option Flaw) → code_of (flaw_of f) ≡ f
unfolding code_of
code_of_lem None = refl
code_of_lem (Some Kind) = refl
code_of_lem (Some (Byte j)) = refl
code_of_lem (Some Count) = refl

pub flaw_of_lem : (f : paper.Flaw) → flaw_of (code_of f) ≡ f
unfolding code_of
flaw_of_lem paper.sound = refl
flaw_of_lem paper.bad_kind = refl
flaw_of_lem (paper.bad_byte j) = refl
flaw_of_lem paper.bad_count = refl

-- the paper's value tells the code's answer
pub flaw_once : (f g : Option Flaw) → flaw_of f ≡ flaw_of g → f ≡ g
flaw_once f g e = sym (code_of_lem f) ∙ ap code_of e ∙ code_of_lem g

pub judge_record_once : Once 1 judge-record-kinds.ps judge-record-kinds.r judge-record.Pre judge-record.Post
judge_record_once κs a v v' x x' q p p' = flaw_once v v' (p ∙ sym p')

pub write_record_once : OnceLeft 1 write-record-kinds.ps write-record-kinds.r write-record.Pre write-record.Post (List ℕ) (λ κs x. x.0.now)
write_record_once κs a v v' x x' q p p' = (refl, p ∙ sym p')

pub copy_record_once : OnceLeft 2 copy-record-kinds.ps copy-record-kinds.r copy-record.Pre copy-record.Post (List ℕ) (λ κs x. x.0.now)
copy_record_once κs a v v' x x' q p p' = (refl, p ∙ sym p')

pub set_mark_once : OnceLeft 1 set-mark-kinds.ps set-mark-kinds.r set-mark.Pre set-mark.Post (List ℕ) (λ κs x. x.0.now)
set_mark_once κs a v v' x x' q p p' = (refl, p ∙ sym p')

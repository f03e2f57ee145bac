-- Two answers, records and areas that meet a contract of the receiver are the same. Of `after_piece` and `at_finish` the contract is the one that
-- the check reads from the source; `take` and `finish` say the same of the record behind the borrow, and the laws below are of what they say:
-- the paper's terms tell number, record, area and answer.
use Prim.Native.Nat.{ℕ}
use mathlib.Core.Path.{◌≡◌, sym, ap, ◌∙◌}
use mathlib.Core.Bool.{Bool, true, false, cond}
use mathlib.Core.List.{List}
use native.Mathlib.Omega.{arith}
use Rattle.std.specs.Prelude.{Result}
use Rattle.paper.specs.Limits.{is_limit}
use Rattle.paper.specs.Once.{Once, OnceLeft}
use Rattle.paper_receiver.specs.Receiver.{is_short, Held, Receipt, received, finish_verdict}
use Rattle.paper_receiver.specs.Receiver as paper
use Rattle.table.specs.declared.refusals.Refusal.{Refusal}
use Rattle.table.specs.Refusals.{stands_for}
use Rattle.table.proofs.RefusalLaws.{Plain, stands_plain}
use Rattle.table.proofs.Unique.{stands_once}
use Rattle.receiver.specs.declared.Receiver.{Receiver}
use Rattle.receiver.specs.Receiving.{says, gives}
use Rattle.receiver.proofs.after_piece.Reads as after-piece-reads
use Rattle.receiver.proofs.after_piece.Kinds as after-piece-kinds
use Rattle.receiver.proofs.at_finish.Reads as at-finish-reads
use Rattle.receiver.proofs.at_finish.Kinds as at-finish-kinds

-- the record that has these terms
abbrev record_of : paper.Receiver → Receiver
record_of r = record { count = r.count; past = r.past }

-- no answer to a piece has a number but 0, 6 and 19
none_plain : Plain 0
none_plain = record { flawed = λ e. omega arith; shape = λ e. omega arith; exponent = λ e. omega arith; range = λ e. omega arith }

room_plain : Plain 6
room_plain = record { flawed = λ e. omega arith; shape = λ e. omega arith; exponent = λ e. omega arith; range = λ e. omega arith }

limit_plain : Plain 19
limit_plain = record { flawed = λ e. omega arith; shape = λ e. omega arith; exponent = λ e. omega arith; range = λ e. omega arith }

cond_plain : (b : Bool) (x y : Receipt) → Plain x.number → Plain y.number → Plain (cond b x y).number
cond_plain true x y h k = h
cond_plain false x y h k = k

received_plain : (lim : ℕ) (x : Held) (p : List ℕ) → Plain (received lim x p).number
unfolding received
received_plain lim x p = cond_plain (is_limit lim) _ _ (cond_plain (is_short lim x.area) _ _ room_plain none_plain) limit_plain

-- what `take` says: answer, record and area
pub took_once : (lim : ℕ) (x : Held) (p : List ℕ) (t t' : Result (Unit {0}) Refusal) (r r' : Receiver) (area area' : List ℕ)
    → gives t r area ≡ received lim x p → gives t' r' area' ≡ received lim x p → (t ≡ t') × ((r ≡ r') × (area ≡ area'))
took_once lim x p t t' r r' area area' e e' =
    let plain = received_plain lim x p in (
      stands_once t t' _ (stands_plain t _ plain (ap (λ (y : Receipt). y.number) e)) (stands_plain t' _ plain (ap (λ (y : Receipt). y.number) e')),
      (ap (λ (y : Receipt). record_of y.held.state) (e ∙ sym e'), ap (λ (y : Receipt). y.held.area) (e ∙ sym e')),
    )

-- what `finish` says: answer and record
pub finished_once : (lim : ℕ) (x : Held) (t t' : Result (Unit {0}) Refusal) (r r' : Receiver) (s : paper.Receiver)
    → (stands_for t ≡ finish_verdict lim x) × (says r ≡ s) → (stands_for t' ≡ finish_verdict lim x) × (says r' ≡ s) → (t ≡ t') × (r ≡ r')
finished_once lim x t t' r r' s q q' = (stands_once t t' _ q.0 q'.0, ap record_of (q.1 ∙ sym q'.1))

pub after_piece_once : OnceLeft 2 after-piece-kinds.ps after-piece-kinds.r after-piece-reads.Pre after-piece-reads.Post (List ℕ) (λ κs x. x.1.1.0.now)
after_piece_once κs a v v' x x' q p p' =
    let t = took_once _ _ _ v.taken v'.taken v.state v'.state x.1.1.0.now x'.1.1.0.now p p' in (
      ap (λ (k : Result (Unit {0}) Refusal). record { state = v.state; taken = k }) t.0
          ∙ ap (λ (r : Receiver). record { state = r; taken = v'.taken }) t.1.0,
      t.1.1,
    )

pub at_finish_once : Once 1 at-finish-kinds.ps at-finish-kinds.r at-finish-reads.Pre at-finish-reads.Post
at_finish_once κs a v v' x x' q p p' =
    let t = finished_once _ _ v.judged v'.judged v.state v'.state _ p p' in
    ap (λ (k : Result (Unit {0}) Refusal). record { state = v.state; judged = k }) t.0
    ∙ ap (λ (r : Receiver). record { state = r; judged = v'.judged }) t.1

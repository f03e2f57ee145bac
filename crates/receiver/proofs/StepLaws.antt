-- What the code finds before it takes a piece or finishes, and the two ways that a piece is kept: all of it, or the front of it that there is room
-- for, copied behind what came before. Each is the paper's law of such a call.
use Prim.Native.Nat.{ℕ, ◌+◌, ◌-◌, ◌≤◌, ◌<◌, min}
use mathlib.Core.Path.{◌≡◌, refl, sym, ap, ◌∙◌}
use mathlib.Core.Bool.{Bool, true, false, cond}
use mathlib.Core.List.{List}
use native.Mathlib.Omega.{arith}
use borrow.Author.Tests.{ltb-false}
use lib.ListN.{length, take}
use lib.Seq.{take_all}
use Rattle.std.specs.Prelude.{Ok, Err}
use Rattle.paper.specs.Limits.{is_limit, max_bytes}
use Rattle.paper_receiver.specs.Receiver.{is_short, is_past, Held, empty, with_piece, receipt, received, finish_verdict, finish_state}
use Rattle.paper_receiver.proofs.PieceLaws.{open_count, open_held, fits_leaves, crosses_leaves}
use Rattle.paper_receiver.proofs.ReceiverLaws.{unknown_receives, short_receives, unknown_finish, short_finish}
use Rattle.stretch.specs.Put.{part, put}
use Rattle.table.specs.declared.refusals.Refusal.{Refusal}
use Rattle.table.specs.declared.refusals.Refusal.TheVariants.{Room, Limit}
use Rattle.table.specs.Refusals.{verdict_of}
use Rattle.receiver.specs.declared.Receiver.{Receiver}
use Rattle.receiver.specs.Receiving.{says, held, most_of, kept_verdict}

-- the limit is known and the area is long enough
pub record Known (lim m : ℕ) (area : List ℕ) : Type 0 where
  pub limit : is_limit lim ≡ true
  pub room : is_short lim area ≡ false
  pub most : m ≡ max_bytes lim

pub known : (lim m : ℕ) (area : List ℕ) → Ok m ≡ most_of lim area → Known lim m area
known lim m area e = by (is_limit lim) (is_short lim area) refl refl e
  where
    by : (a b : Bool) → is_limit lim ≡ a → is_short lim area ≡ b → Ok m ≡ cond a (cond b (Err Room) (Ok (max_bytes lim))) (Err Limit) → Known lim m area
    by true true p q e = cc
    by true false p q e = record { limit = p; room = q; most = cc }
    by false b p q e = cc

pub most_within : {lim m : ℕ} {area : List ℕ} → Known lim m area → m ≤ length area
unfolding is_short
most_within {lim} {m} {area} k = rw k.most (ltb-false (length area) (max_bytes lim) k.room)

pub finished : (lim m : ℕ) (x : Held) → Known lim m x.area → (finish_verdict lim x ≡ kept_verdict lim m x) × (finish_state lim x ≡ empty)
unfolding finish_verdict finish_state
finished lim m x k = (rw (k.limit, k.room, k.most) refl, rw (k.limit, k.room) refl)

-- it is not, or the area is short: what a call answers then, and that it leaves the record
pub record Refuses (lim : ℕ) (r : Refusal) (x : Held) : Type 0 where
  pub receives : (p : List ℕ) → received lim x p ≡ receipt (verdict_of r).number x
  pub finishes : finish_verdict lim x ≡ verdict_of r
  pub leaves : finish_state lim x ≡ x.state

pub refuses : (lim : ℕ) (r : Refusal) (x : Held) → Err r ≡ most_of lim x.area → Refuses lim r x
refuses lim r x e = by (is_limit lim) (is_short lim x.area) refl refl e
  where
    told : (y : Refusal) → y ≡ r → Refuses lim y x → Refuses lim r x
    told y q k = rw q at k

    by : (a b : Bool) → is_limit lim ≡ a → is_short lim x.area ≡ b → Err r ≡ cond a (cond b (Err Room) (Ok (max_bytes lim))) (Err Limit)
        → Refuses lim r x
    by true true p q e = told Room (cc) (record {
      receives = λ l. short_receives lim x l p q;
      finishes = (short_finish lim x p q).0;
      leaves = (short_finish lim x p q).1;
    })
    by true false p q e = cc
    by false b p q e = told Limit (cc) (record {
      receives = λ l. unknown_receives lim x l p;
      finishes = (unknown_finish lim x p).0;
      leaves = (unknown_finish lim x p).1;
    })

part_front : (p : List ℕ) (n : ℕ) → part p 0 n ≡ take n p
unfolding part
part_front p n = refl

module _ (m : ℕ) (r : Receiver) (within : is_past m (says r) ≡ false) where
  -- the count is within the most
  pub count_within : r.count ≤ m
  count_within = (open_count m (says r) within).1

  module _ (area p after : List ℕ) (n : ℕ) (least : n ≡ min (length p) (m - r.count)) (copied : after ≡ put area r.count (part p 0 n)) where
    pub keeps_front : n < length p → held (record { count = r.count + n; past = 1 }) after ≡ with_piece m (held r area) p
    keeps_front k =
        let h = count_within in
        let left : n ≡ m - r.count = omega (arith, least) in
        let all : r.count + n ≡ m = omega (arith, least, h) in
        let crosses = crosses_leaves m r.count area p h (omega (arith, least, h)) in
        rw (copied, part_front p n, all, left)
        (sym (ap (λ (x : Held). with_piece m x p) (open_held m (held r area) within) ∙ crosses))

    pub keeps_whole : length p ≤ n → held (record { count = r.count + n; past = 0 }) after ≡ with_piece m (held r area) p
    keeps_whole k =
        let h = count_within in
        let all : n ≡ length p = omega (arith, least) in
        let fits = fits_leaves m r.count area p h (omega (arith, least, h)) in
        rw (copied, part_front p n, all, take_all (length p) p (omega arith))
        (sym (ap (λ (x : Held). with_piece m x p) (open_held m (held r area) within) ∙ fits))

-- Two answers that meet the contract of an entry point, as the check reads it from the source, are the same, and so is the area that a store
-- or a remove leaves: each contract is one equation with a definition of what was given, and the number of a refusal, from 10 to 13, tells it.
use Prim.Native.Nat.{ℕ, ◌<◌}
use mathlib.Core.Path.{◌≡◌, refl, sym, ap, ◌∙◌}
use mathlib.Core.Bool.{Bool, true, false, cond}
use mathlib.Core.List.{List}
use mathlib.Core.Option.{none, some}
use mathlib.Core.Option as plain
use native.Mathlib.Omega.{arith}
use borrow.Fn.Kinds.{Dens, ended_of}
use contract.Lifetimes.{Lfts}
use denote.Triple.Clauses.{AtExit}
use lib.Dec.{eqb}
use lib.ListN.{length}
use Rattle.std.specs.Prelude.{Result, Ok, Err}
use Rattle.paper_settings.specs.Settings as paper
use Rattle.table.specs.Refusals.{number_of}
use Rattle.table.specs.declared.refusals.Refusal.{Refusal}
use Rattle.table.specs.declared.refusals.Refusal.TheVariants.{Length, Record, Heavy, Shape, Exponent, Room, Range, Lists, Edition, Newer, Disorder}
use Rattle.table.specs.declared.refusals.Refusal.TheVariants.{Absent, Full, NoText, Definition, Defined, Endless, TooHeavy, Limit}
use Rattle.table.proofs.RefusalLaws.{some_number}
use Rattle.settings.specs.declared.Shown.{Shown}
use Rattle.settings.specs.Shown.{number_in, says, says_1}
use Rattle.settings.proofs.fetch.Reads as fetch
use Rattle.settings.proofs.fetch.Kinds as fetch-kinds
use Rattle.settings.proofs.fetch_1.Reads as fetch-1
use Rattle.settings.proofs.fetch_1.Kinds as fetch-1-kinds
use Rattle.settings.proofs.store.Reads as store
use Rattle.settings.proofs.store.Kinds as store-kinds
use Rattle.settings.proofs.remove.Reads as remove
use Rattle.settings.proofs.remove.Kinds as remove-kinds

-- ---- the refusals of this crate, by their numbers
numbered : ℕ → Refusal
numbered n = cond (eqb n 10) Newer (cond (eqb n 11) Disorder (cond (eqb n 12) Absent Full))

numbered_lem : (r : Refusal) → 9 < number_of r → number_of r < 14 → r ≡ numbered (number_of r)
unfolding numbered
numbered_lem Newer l m = refl
numbered_lem Disorder l m = refl
numbered_lem Absent l m = refl
numbered_lem Full l m = refl
numbered_lem Length l m = absurd (omega arith)
numbered_lem (Record p f) l m = absurd (omega arith)
numbered_lem Heavy l m = absurd (omega arith)
numbered_lem (Shape p) l m = absurd (omega arith)
numbered_lem (Exponent p) l m = absurd (omega arith)
numbered_lem Room l m = absurd (omega arith)
numbered_lem (Range n) l m = absurd (omega arith)
numbered_lem Lists l m = absurd (omega arith)
numbered_lem Edition l m = absurd (omega arith)
numbered_lem NoText l m = absurd (omega arith)
numbered_lem Definition l m = absurd (omega arith)
numbered_lem Defined l m = absurd (omega arith)
numbered_lem Endless l m = absurd (omega arith)
numbered_lem TooHeavy l m = absurd (omega arith)
numbered_lem Limit l m = absurd (omega arith)

-- a number that is 0 or from 10 to 13
abbrev OfSettings : ℕ → Type 0
OfSettings n = 0 < n → (9 < n) × (n < 14)

same_refusal : (n : ℕ) → OfSettings n → (r r' : Refusal) → number_of r ≡ n → number_of r' ≡ n → r ≡ r'
same_refusal n known r r' e e' =
    let some = some_number r in
    let k = known (omega (arith, some, e)) in
    let l = k.0 in
    let m = k.1 in
    numbered_lem r (omega (arith, l, e)) (omega (arith, m, e)) ∙ ap numbered (e ∙ sym e')
    ∙ sym (numbered_lem r' (omega (arith, l, e')) (omega (arith, m, e')))

no_refusal : (r : Refusal) → number_of r ≡ 0 → ⊥
no_refusal r e = let some = some_number r in omega (arith, some, e)

-- ---- the numbers that the definitions give
of_verdict : (newest : ℕ) (a : List ℕ) → OfSettings (paper.area_verdict newest a)
unfolding paper.area_verdict
of_verdict newest a = go (paper.any_newer newest (paper.slots_of a)) (paper.is_disordered a)
  where
    go : (b d : Bool) → OfSettings (cond b 10 (cond d 11 0))
    go true d l = (omega arith, omega arith)
    go false true l = (omega arith, omega arith)
    go false false l = absurd (omega arith)

of_fetched : (newest k : ℕ) (a : List ℕ) → OfSettings (paper.fetched newest k a).number
unfolding paper.fetched paper.fetch_reply
of_fetched newest k a = go (eqb (paper.area_verdict newest a) 0)
  where
    found : (o : plain.Option paper.Setting) → OfSettings (paper.fetch_reply o).number
    found none l = (omega arith, omega arith)
    found (some s) l = absurd (omega arith)

    go : (b : Bool) → OfSettings (cond b (paper.fetch_reply (paper.shown (paper.slots_of a) k)) (paper.only (paper.area_verdict newest a))).number
    go true = found (paper.shown (paper.slots_of a) k)
    go false = of_verdict newest a

of_called : (op : paper.Op) (a : List ℕ) → OfSettings (paper.on_slots op (paper.slots_of a)).reply.number → OfSettings (paper.called op a).reply.number
unfolding paper.called
of_called op a known = go (eqb (paper.area_verdict 2 a) 0)
  where
    after : List ℕ
    after = paper.joined (paper.on_slots op (paper.slots_of a)).after

    other : paper.Replied (List ℕ)
    other = paper.replies (paper.only (paper.area_verdict 2 a)) a

    go : (b : Bool) → OfSettings (cond b (paper.replies (paper.on_slots op (paper.slots_of a)).reply after) other).reply.number
    go true = known
    go false = of_verdict 2 a

of_store : (k v u : ℕ) (xs : List (List ℕ)) → OfSettings (paper.on_slots (paper.to_store k v u) xs).reply.number
unfolding paper.on_slots
of_store k v u xs = go (paper.is_full (length xs) (paper.used xs) (paper.shown xs k))
  where
    go : (b : Bool) → OfSettings (cond b (paper.replies (paper.only 13) xs) (paper.replies (paper.only 0) (paper.put k (paper.slot_of k v u) xs))).reply.number
    go true l = (omega arith, omega arith)
    go false l = absurd (omega arith)

of_remove : (k : ℕ) (xs : List (List ℕ)) → OfSettings (paper.on_slots (paper.to_remove k) xs).reply.number
unfolding paper.on_slots
of_remove k xs = go (paper.known (paper.shown xs k))
  where
    go : (b : Bool) → OfSettings (cond b (paper.replies (paper.only 0) (paper.take_out k xs)) (paper.replies (paper.only 12) xs)).reply.number
    go true l = absurd (omega arith)
    go false l = (omega arith, omega arith)

-- ---- the entry points
shown_once : (v : paper.Reply) → OfSettings v.number → (r r' : Result Shown Refusal) → says r ≡ v → says r' ≡ v → r ≡ r'
shown_once v known (Ok s) (Ok s') e e' = ap (λ (m : paper.Reply). ok (record { setting = m.setting; unit = m.unit })) (e ∙ sym e')
  where
    ok : Shown → Result Shown Refusal
    ok s = Ok s
shown_once v known (Ok s) (Err r) e e' = absurd (no_refusal r (ap (λ (m : paper.Reply). m.number) (e' ∙ sym e)))
shown_once v known (Err r) (Ok s) e e' = absurd (no_refusal r (ap (λ (m : paper.Reply). m.number) (e ∙ sym e')))
shown_once v known (Err r) (Err r') e e' =
    ap (λ (x : Refusal). err x) (same_refusal v.number known r r' (ap (λ (m : paper.Reply). m.number) e) (ap (λ (m : paper.Reply). m.number) e'))
  where
    err : Refusal → Result Shown Refusal
    err x = Err x

old_once : (v : paper.OldReply) → OfSettings v.number → (r r' : Result ℕ Refusal) → says_1 r ≡ v → says_1 r' ≡ v → r ≡ r'
old_once v known (Ok s) (Ok s') e e' = ap (λ (m : paper.OldReply). ok m.setting) (e ∙ sym e')
  where
    ok : ℕ → Result ℕ Refusal
    ok s = Ok s
old_once v known (Ok s) (Err r) e e' = absurd (no_refusal r (ap (λ (m : paper.OldReply). m.number) (e' ∙ sym e)))
old_once v known (Err r) (Ok s) e e' = absurd (no_refusal r (ap (λ (m : paper.OldReply). m.number) (e ∙ sym e')))
old_once v known (Err r) (Err r') e e' =
    ap (λ (x : Refusal). err x) (same_refusal v.number known r r' (ap (λ (m : paper.OldReply). m.number) e) (ap (λ (m : paper.OldReply). m.number) e'))
  where
    err : Refusal → Result ℕ Refusal
    err x = Err x

done_once : (n : ℕ) → OfSettings n → (r r' : Result (Unit {0}) Refusal) → number_in r ≡ n → number_in r' ≡ n → r ≡ r'
done_once n known (Ok x) (Ok x') e e' = refl
done_once n known (Ok x) (Err r) e e' = absurd (no_refusal r (e' ∙ sym e))
done_once n known (Err r) (Ok x) e e' = absurd (no_refusal r (e ∙ sym e'))
done_once n known (Err r) (Err r') e e' = ap (λ (x : Refusal). err x) (same_refusal n known r r' e e')
  where
    err : Refusal → Result (Unit {0}) Refusal
    err x = Err x

pub fetch_once : (κs : Lfts 1) (a : Dens κs fetch-kinds.ps) (r r' : Result Shown Refusal) (x x' : AtExit (ended_of 1 fetch-kinds.ps fetch-kinds.r) κs)
    → fetch.Post κs a r x → fetch.Post κs a r' x' → r ≡ r'
fetch_once κs a r r' x x' p p' = shown_once _ (of_fetched 2 _ _) r r' p p'

pub fetch_1_once : (κs : Lfts 1) (a : Dens κs fetch-1-kinds.ps) (r r' : Result ℕ Refusal) (x x' : AtExit (ended_of 1 fetch-1-kinds.ps fetch-1-kinds.r) κs)
    → fetch-1.Post κs a r x → fetch-1.Post κs a r' x' → r ≡ r'
unfolding paper.fetched_old
fetch_1_once κs a r r' x x' p p' = old_once _ (of_fetched 1 _ _) r r' p p'

-- of two answers that are one: the number, and the area afterwards
pub number_and_area : {a b : paper.Replied (List ℕ)} → a ≡ b → (a.reply.number ≡ b.reply.number) × (a.after ≡ b.after)
number_and_area e = (ap (λ (m : paper.Replied (List ℕ)). m.reply.number) e, ap (λ (m : paper.Replied (List ℕ)). m.after) e)

pub store_once : (κs : Lfts 1) (a : Dens κs store-kinds.ps) (r r' : Result (Unit {0}) Refusal) (x x' : AtExit (ended_of 1 store-kinds.ps store-kinds.r) κs)
    → store.Post κs a r x → store.Post κs a r' x' → (r ≡ r') × (x.0.now ≡ x'.0.now)
store_once κs a r r' x x' p p' =
    (done_once _ (of_called _ _ (of_store _ _ _ _)) r r' (number_and_area p).0 (number_and_area p').0, (number_and_area (p ∙ sym p')).1)

pub remove_once : (κs : Lfts 1) (a : Dens κs remove-kinds.ps) (r r' : Result (Unit {0}) Refusal) (x x' : AtExit (ended_of 1 remove-kinds.ps remove-kinds.r) κs)
    → remove.Post κs a r x → remove.Post κs a r' x' → (r ≡ r') × (x.0.now ≡ x'.0.now)
remove_once κs a r r' x x' p p' =
    (done_once _ (of_called _ _ (of_remove _ _)) r r' (number_and_area p).0 (number_and_area p').0, (number_and_area (p ∙ sym p')).1)

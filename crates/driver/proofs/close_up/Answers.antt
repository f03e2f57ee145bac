-- `driver::close_up`: each return is one law of Closing.
use Prim.Native.Nat.{◌<◌, ◌≤◌}
use mathlib.Core.Path.{◌≡◌, ap}
use mathlib.Core.Logic.{◌⊎◌, inl, inr}
use native.Mathlib.Omega.{arith}
use Rattle.record.specs.Kinds.{number_of}
use Rattle.record.specs.declared.kinds.Kind.{Kind}
use Rattle.record.specs.declared.kinds.Kind.TheVariants.{Integer, Symbol, Sum, Product, Power}
use Rattle.driver.proofs.Closing.{first_within, leaf_stays, raised, counted, unnoted, closed}
use Rattle.driver.proofs.close_up.Goals as goal

-- the numbers of a leaf's kind, of a power's, and of a kind that has a count
low : (k : Kind) → (k ≡ Integer) ⊎ (k ≡ Symbol) → number_of k < 2
low k (inl e) = omega (arith, ap number_of e)
low k (inr e) = omega (arith, ap number_of e)

high : (k : Kind) → k ≡ Power → 3 < number_of k
high k e = omega (arith, ap number_of e)

between : (k : Kind) → (k ≡ Sum) ⊎ (k ≡ Product) → (2 ≤ number_of k) × (number_of k < 4)
between k (inl e) = (omega (arith, ap number_of e), omega (arith, ap number_of e))
between k (inr e) = (omega (arith, ap number_of e), omega (arith, ap number_of e))

pub returns-in-Integer : goal.returns-in-Integer
returns-in-Integer c = λ t l e g. leaf_stays g (low _ c.in-Integer.is)

pub close-requires : goal.close-requires
close-requires c =
    let g = c.requires.3 in
    (_, unnoted g (raised g (high _ c.in-Power.is)))

pub returns-in-Power : goal.returns-in-Power
returns-in-Power c =
    λ t l e g.
    let over = raised g (high _ c.in-Power.is) in
    closed g over c.close.new.s (c.close.ensures _ (unnoted g over))

pub mark-mark-requires : goal.mark-mark-requires
mark-mark-requires c = first_within c.requires.3

pub write_record-requires : goal.write_record-requires
write_record-requires c = first_within c.requires.3

pub close-requires-in-Sum : goal.close-requires-in-Sum
close-requires-in-Sum c =
    let w = c.write_record in
    let m = c.mark-mark in
    let g = c.requires.3 in
    let k = between _ c.in-Sum.is in
    (_, unnoted g (counted g k.0 k.1 w.new.d m.result m.ensures.0 (rw c.number.ensures at w.ensures) w.auto.d))

pub returns-in-Sum : goal.returns-in-Sum
returns-in-Sum c =
    let w = c.write_record in
    let m = c.mark-mark in
    let k = between _ c.in-Sum.is in
    λ t l e g.
    let over = counted g k.0 k.1 w.new.d m.result m.ensures.0 (rw c.number.ensures at w.ensures) w.auto.d in
    closed g over c.close-in-Sum.new.s (c.close-in-Sum.ensures _ (unnoted g over))

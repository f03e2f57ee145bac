-- Laws of a look at the records of a table: what was counted up to record i, and what the definitions say of the records from there on, is what
-- they say of all; each record that has no flaw keeps that so, by its kind, and at the end nothing is left to count.
use Prim.Native.Nat.{ℕ, ◌+◌, ◌-◌, ◌*◌, ◌<◌, ◌≤◌}
use mathlib.Core.Path.{◌≡◌, refl, sym, ap, ◌∙◌}
use mathlib.Core.Bool.{Bool, true, false, not, ◌||◌}
use mathlib.Core.List.{List}
use native.Mathlib.Nat.{sub-zero}
use native.Mathlib.Omega.{arith}
use Rattle.paper.specs.Record.{kind, flaw, is_flawed, arity, weight_from}
use Rattle.paper.specs.Verdict.{first_flawed, skip, tree_end}
use Rattle.paper.proofs.Tests.{or_right}
use Rattle.paper.proofs.SkipLaws.{skip_none, skip_out, skip_one, skip_step}
use Rattle.table.specs.Due.{has_power}
use Rattle.table.specs.Look.{Sees, Looks}
use Rattle.std.specs.Prelude.{Some, None}
use Rattle.table.specs.declared.Seen.TheVariants.{Integer, Symbol, Members, Power}
use Rattle.table.proofs.StepLaws.{flawed_here, flawed_later, flawed_done, weight_symbol, weight_other, weight_done, power_here, power_later, power_done}
use Rattle.table.proofs.OwedLaws.{arity_leaf, arity_node, arity_power}

-- of n records those below i are counted: owed trees are owed, the weight is w with 1 for each record left, and `power` says whether one was a power
pub record Looking (s : List ℕ) (n i owed w : ℕ) (power : Bool) : Type 0 where
  pub within : i ≤ n
  pub few : owed ≤ 1 + 65535 * i
  pub light : w ≤ n + 2 * i
  pub flawless : first_flawed s 0 n ≡ first_flawed s i (n - i)
  pub ends : tree_end s n 0 ≡ skip s n (n - i) owed i
  pub weighs : w + weight_from s i (n - i) ≡ weight_from s 0 n + (n - i)
  pub powers : (power || has_power s i (n - i)) ≡ has_power s 0 n

pub begin_looking : (s : List ℕ) (n : ℕ) → Looking s n 0 1 n false
begin_looking s n = record {
  within = omega arith;
  few = omega arith;
  light = omega arith;
  flawless = simp sub-zero;
  ends = sym (skip_one s n 0);
  weighs = simp sub-zero (omega arith);
  powers = simp sub-zero;
}

or_none : (a b : Bool) → b ≡ false → (a || b) ≡ a
or_none true b e = refl
or_none false b e = e

module _ (s : List ℕ) (n i owed w : ℕ) (power : Bool) (at : Looking s n i owed w power) where
  module _ (more : i < n) where
    -- the trees end before the records
    pub ended_early : owed < 1 → Looks s n None
    ended_early none =
        let z : owed ≡ 0 = omega (arith, none) in
        let e : tree_end s n 0 ≡ i = at.ends ∙ rw z (skip_none s n (n - i) i) in
        λ first end. omega (arith, e, end, more)

    pub found_flawed : Sees s i None → Looks s n None
    found_flawed f =
        let e : first_flawed s 0 n ≡ i = at.flawless ∙ flawed_here s n i more false (sym (ap not f)) refl in
        λ first end. omega (arith, e, first, more)

    -- a record without a flaw, whatever its kind
    passed : 0 < owed → is_flawed (flaw s i) ≡ false → (o v : ℕ) (p : Bool) → o + 1 ≡ owed + arity s i → arity s i < 65536 → v ≤ w + 2
        → v + weight_from s (i + 1) (n - (i + 1)) + 1 ≡ w + weight_from s i (n - i)
        → (p || has_power s (i + 1) (n - (i + 1))) ≡ (power || has_power s i (n - i)) → Looking s n (i + 1) o v p
    passed some f o v p members bound add weight same =
        let owes : owed - 1 + arity s i ≡ o = omega (arith, members, some) in
        let low = at.few in
        let light = at.light in
        let weighs = at.weighs in
        record {
          within = omega (arith, more);
          few = omega (arith, members, bound, low);
          light = omega (arith, light, add);
          flawless = at.flawless ∙ flawed_later s n i more true (sym (ap not f)) refl;
          ends = at.ends ∙ skip_step s n i owed some more ∙ ap (λ (x : ℕ). skip s n (n - (i + 1)) x (i + 1)) owes;
          weighs = omega (arith, weight, weighs, more);
          powers = same ∙ at.powers;
        }

    no_power : (kind s i ≡ 4 → ⊥) → (power || has_power s (i + 1) (n - (i + 1))) ≡ (power || has_power s i (n - i))
    no_power k = ap (λ (b : Bool). power || b) (sym (power_later s n i more k))

    pub passed_integer : 0 < owed → Sees s i (Some Integer) → Looking s n (i + 1) (owed - 1) w power
    passed_integer some (f, k) =
        let a = arity_leaf s i (omega (arith, k)) in
        let weight = weight_other s n i more (λ e. omega (arith, e, k)) in
        passed some f (owed - 1) w power (omega (arith, some, a)) (omega (arith, a)) (omega arith) (omega (arith, weight))
        (no_power (λ e. omega (arith, e, k)))

    pub passed_symbol : 0 < owed → Sees s i (Some Symbol) → Looking s n (i + 1) (owed - 1) (w + 2) power
    passed_symbol some (f, k) =
        let a = arity_leaf s i (omega (arith, k)) in
        let weight = weight_symbol s n i more k in
        passed some f (owed - 1) (w + 2) power (omega (arith, some, a)) (omega (arith, a)) (omega arith) (omega (arith, weight))
        (no_power (λ e. omega (arith, e, k)))

    pub passed_members : 0 < owed → (c : ℕ) → Sees s i (Some (Members c)) → Looking s n (i + 1) (owed - 1 + c) w power
    passed_members some c (f, two, three, e, small) =
        let a = arity_node s i two three in
        let weight = weight_other s n i more (λ k. omega (arith, k, two)) in
        passed some f (owed - 1 + c) w power (omega (arith, some, a, e)) (omega (arith, a, e, small)) (omega arith) (omega (arith, weight))
        (no_power (λ k. omega (arith, k, three)))

    pub passed_power : 0 < owed → Sees s i (Some Power) → Looking s n (i + 1) (owed + 1) w true
    passed_power some (f, k) =
        let a = arity_power s i k in
        let weight = weight_other s n i more (λ e. omega (arith, e, k)) in
        passed some f (owed + 1) w true (omega (arith, some, a)) (omega (arith, a)) (omega arith) (omega (arith, weight))
        (sym (or_right power (has_power s i (n - i)) (power_here s n i more k)))

  module _ (all : n ≤ i) where
    -- the records end before the trees
    pub ended_late : 0 < owed → Looks s n None
    ended_late some =
        let e : tree_end s n 0 ≡ n + 1 = at.ends ∙ skip_out s n owed i some all in
        λ first end. omega (arith, e, end)

    pub looked : owed ≤ 0 → Looks s n (Some (record { weight = w; power = power }))
    looked none =
        let z : owed ≡ 0 = omega (arith, none) in
        let within = at.within in
        let last : i ≡ n = omega (arith, within, all) in
        let weighs = at.weighs in
        let left = weight_done s n i all in (
          at.flawless ∙ flawed_done s n i all ∙ last,
          at.ends ∙ rw z (skip_none s n (n - i) i) ∙ last,
          omega (arith, weighs, left, all),
          sym (or_none power (has_power s i (n - i)) (power_done s n i all)) ∙ at.powers,
        )

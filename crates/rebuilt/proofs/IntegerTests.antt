-- What a test for an integer's kind tells of a record's first byte n.
use Rattle.std.proofs.Common.{◌≡◌, ℕ, ◌<◌, min, Bool, true, false, not, refl, sym, ◌∙◌, arith}
use borrow.Author.Tests.{not-true, not-false}
use denote.Enum.Bare.{sameb}
use Rattle.record.specs.contracts.kinds.Kind.{the_type}
use Rattle.record.specs.Kinds.{number_of}
use Rattle.record.specs.declared.kinds.Kind.{Kind}
use Rattle.record.specs.declared.kinds.Kind.TheVariants.{Integer}
use Rattle.record.proofs.KindLaws.{kind_is, kind_is_not}

module _ (k : Kind) (n : ℕ) {r : Bool} (at : number_of k ≡ min n 4) where
  pub eq_integer : r ≡ sameb the_type k Integer → r ≡ true → n < 1
  eq_integer is e = let h = kind_is k Integer r n at is e in omega (arith, h)

  pub eq_other : r ≡ sameb the_type k Integer → r ≡ false → 0 < n
  eq_other is e = let h = kind_is_not k Integer r n at is e in omega (arith, h)

  pub ne_other : r ≡ not (sameb the_type k Integer) → r ≡ true → 0 < n
  ne_other is e = let h = kind_is_not k Integer _ n at refl (not-true _ (sym is ∙ e)) in omega (arith, h)

  pub ne_integer : r ≡ not (sameb the_type k Integer) → r ≡ false → n < 1
  ne_integer is e = let h = kind_is k Integer _ n at refl (not-false _ (sym is ∙ e)) in omega (arith, h)

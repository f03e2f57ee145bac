-- The kinds of records in the paper's terms: the number of each, and what a byte names.
use Rattle.std.specs.Prelude.{ℕ, ◌≡◌, ◌<◌, Result, MatchResult}
use Rattle.record.specs.declared.Flaw.{Flaw}
use Rattle.record.specs.declared.Flaw.TheVariants as flaw
use Rattle.record.specs.declared.kinds.Kind.{Kind}
use Rattle.record.specs.declared.kinds.Kind.TheVariants.{Integer, Symbol, Sum, Product, Power}

abbrev pub number_of : Kind → ℕ
number_of Integer = 0
number_of Symbol = 1
number_of Sum = 2
number_of Product = 3
number_of Power = 4

-- the kind of this number; or what is wrong with a record whose first byte is no kind's number
abbrev pub Decodes : ℕ → Result Kind Flaw → Type 0
Decodes byte r = MatchResult r (λ k. number_of k ≡ byte) (λ f. (f ≡ flaw.Kind) × (4 < byte))

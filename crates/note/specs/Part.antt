-- The keys of the parts that steps 2 and 6 compare: where a part takes up another their keys are the same, and the key stays.
use Rattle.std.specs.Prelude.{ℕ, Bool, true, false}
use Rattle.paper.specs.Tree.{Tree, integer, symbol, sum, product, power}
use Rattle.paper.specs.Rules.{Term, term_of, Factor, factor_of}
use Rattle.note.specs.Note.{note}

-- of a term: the note of its rest
unfoldable pub term_key : Term → ℕ
term_key c = note c.rest

-- of a base: its note; any two integers may be multiplied, so they share one key, which no note is
unfoldable pub base_key : Tree → ℕ
base_key (integer μ z) = 1
base_key (symbol μ s) = note (symbol μ s)
base_key (sum μ f) = note (sum μ f)
base_key (product μ f) = note (product μ f)
base_key (power μ b ξ e) = note (power μ b ξ e)

-- of a factor: that of its base
unfoldable pub factor_key : Factor → ℕ
factor_key c = base_key c.base

-- of a member: true for a member of a sum and its term, false for a member of a product and its factor
unfoldable pub part_key : Bool → Tree → ℕ
part_key true t = term_key (term_of t)
part_key false t = factor_key (factor_of t)

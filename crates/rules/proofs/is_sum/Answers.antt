-- `rules::is_sum`: a kind that is neither is no node's with a count.
use mathlib.Core.Path.{◌≡◌, refl}
use mathlib.Core.Bool.{false}
use Rattle.paper.specs.Record.{is_node}
use Rattle.record.specs.Kinds.{number_of}
use Rattle.record.specs.declared.kinds.Kind.{Kind}
use Rattle.record.specs.declared.kinds.Kind.TheVariants.{Integer, Symbol, Sum, Product, Power}
use Rattle.rules.proofs.is_sum.Goals as goal

no_node : (k : Kind) → (k ≡ Sum → ⊥) → (k ≡ Product → ⊥) → is_node (number_of k) ≡ false
unfolding is_node
no_node Integer s p = refl
no_node Symbol s p = refl
no_node Sum s p = absurd (s refl)
no_node Product s p = absurd (p refl)
no_node Power s p = refl

pub returns-in_default : goal.returns-in_default
returns-in_default c = no_node c.args.kind c.in_default.not-Sum c.in_default.not-Product

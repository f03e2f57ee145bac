-- The takeover by a machine at another limit: of a result that the limit `there` of the second machine still holds, lim being that of the first one.
-- Where both are one limit it is paper's takeover.
use Rattle.std.specs.Prelude.{ℕ, ◌≤◌, ◌≡◌, true, List}
use Rattle.paper.specs.Limits.{is_limit}
use Rattle.paper.specs.Bytes.{Bytes}
use Rattle.paper.specs.Answers.{Lent, Given, simplified}
use Rattle.paper.specs.Demands.{result}
use Rattle.paper.specs.Takeover.{Room, Repeats}

-- Q holds of what every accepted call gave, with the table that it was handed
abbrev pub OfAccepted : ℕ → ℕ → (List ℕ → Given → Type 0) → Type 0
OfAccepted lim ed Q = (s : List ℕ) → Bytes s → (l : Lent) → (simplified lim ed s l).answer.number ≡ 0 → Q s (simplified lim ed s l)

-- `there` is a limit, and what the call gave does not weigh more
pub record Holds (there : ℕ) (g : Given) : Type 0 where
  pub known : is_limit there ≡ true
  pub light : g.answer.weight_out ≤ there

-- whatever areas the second call is lent, if they have room for the result at its limit
abbrev pub TakesOverAt : ℕ → ℕ → ℕ → Type 0
TakesOverAt lim there ed =
    OfAccepted lim ed (λ s g. Holds there g → (l' : Lent) → Room there g.answer.weight_out l' → Repeats g (simplified there ed (result g) l'))

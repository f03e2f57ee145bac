-- "the output admits no rule and no opening", at every node. A rule that would leave the range counts as admitted: at such a
-- node the driver is refused with 7, and does not finish.
use Rattle.std.specs.Prelude.{ℕ, ◌≡◌, List, [], ◌∷◌}
use Rattle.paper.specs.Tree.{Tree}
use Rattle.paper.specs.Rules.{Rule}
use Rattle.paper.specs.Driver.{no_rule, ask, members, gather}

-- the openings that gathering a node's own members would make
unfoldable pub openings_at : Tree → ℕ
openings_at t = (gather t (members t)).1

mutual
  pub data AdmitsNone (rs : List Rule) : Tree → Type 0 where
    admits_none : {t : Tree} → ask rs t ≡ no_rule → openings_at t ≡ 0 → AllAdmitNone rs (members t) → AdmitsNone rs t

  pub data AllAdmitNone (rs : List Rule) : List Tree → Type 0 where
    no_more : AllAdmitNone rs []
    and_more : {t : Tree} {l : List Tree} → AdmitsNone rs t → AllAdmitNone rs l → AllAdmitNone rs (t ∷ l)

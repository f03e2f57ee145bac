-- What differs between the two machines: "a tool that walks the trees of two tables in step". The pairs of record numbers that it reports,
-- its answer, and the lent list afterwards.
use Rattle.std.specs.Prelude.{ℕ, ◌+◌, ◌*◌, ◌/◌, Bool, true, false, cond, ◌&&◌, List, [], ◌∷◌, ◌++◌, length, drop, pos, eqb, ltb}
use Rattle.std.proofs.Math.Option.{Option, none, some}
use Rattle.paper.specs.Limits.{is_limit}
use Rattle.paper.specs.Tree.{Tree, Forest, integer, symbol, sum, product, power, nil, cons, count, records, mark_of}
use Rattle.paper.specs.Record.{Flaw, sound}
use Rattle.paper.specs.Equal.{eq_z, on_integer, on_symbol, on_sum, on_product, on_power}
use Rattle.paper.specs.Table.{tree_of}
use Rattle.paper.specs.Verdict.{Verdict, refused, is_accepted, verdict}
use Rattle.paper.specs.Driver.{members}
use Rattle.paper.specs.Calls.{eights}

-- "kind, count and number agree", of the first records of two trees; a power's exponent is a member, so that its kind is all it has
unfoldable pub same_fields : Tree → Tree → Bool
same_fields (integer μ z) u = on_integer (eq_z z) u
same_fields (symbol μ s) u = on_symbol (eqb s) u
same_fields (sum μ f) u = on_sum (λ l. eqb (count f) (length l)) u
same_fields (product μ f) u = on_product (λ l. eqb (count f) (length l)) u
same_fields (power μ b ξ e) u = on_power (λ c d. true) u

-- they agree; "Q-7 compares marks as it does numbers"
unfoldable pub alike : Tree → Tree → Bool
alike t u = eqb (mark_of t) (mark_of u) && same_fields t u

-- ---- the walk. A pair of record numbers is a pair of numbers.
-- "Where kind, count and number agree it goes on to the members; where they do not it reports the pair of record numbers and goes no deeper."
unfoldable pub or_pair : Bool → ℕ → ℕ → List (ℕ × ℕ) → List (ℕ × ℕ)
or_pair true i j inside = inside
or_pair false i j inside = (i, j) ∷ []

-- the first of the trees there, and the others
unfoldable pub with_first : List Tree → (Tree → List Tree → List (ℕ × ℕ)) → List (ℕ × ℕ)
with_first [] k = []
with_first (u ∷ l) k = k u l

-- an exponent with its mark, the record after the base, and its partner
unfoldable pub exponents : ℕ → ℕ → List Tree → ℕ → ℕ → List (ℕ × ℕ)
exponents ξ e [] i j = []
exponents ξ e (x ∷ l) i j = or_pair (alike (integer ξ (pos e)) x) i j []

unfoldable mutual
  -- of the tree t, which begins at record i, and the tree u, which begins at record j
  pub differences : Tree → Tree → ℕ → ℕ → List (ℕ × ℕ)
  differences (integer μ z) u i j = or_pair (alike (integer μ z) u) i j []
  differences (symbol μ s) u i j = or_pair (alike (symbol μ s) u) i j []
  differences (sum μ f) u i j = or_pair (alike (sum μ f) u) i j (in_step f (members u) (i + 1) (j + 1))
  differences (product μ f) u i j = or_pair (alike (product μ f) u) i j (in_step f (members u) (i + 1) (j + 1))
  differences (power μ b ξ e) u i j =
      or_pair (alike (power μ b ξ e) u) i j
      (with_first (members u) (λ c l. differences b c (i + 1) (j + 1) ++ exponents ξ e l (i + 1 + records b) (j + 1 + records c)))

  -- of members in step
  pub in_step : Forest → List Tree → ℕ → ℕ → List (ℕ × ℕ)
  in_step nil l i j = []
  in_step (cons t f) l i j = with_first l (λ u m. differences t u i j ++ in_step f m (i + records t) (j + records u))

-- of two tables: their trees begin at record 0
unfoldable pub between : Option Tree → Option Tree → List (ℕ × ℕ)
between none u = []
between (some t) none = []
between (some t) (some u) = differences t u 0 0

unfoldable pub differences_of : List ℕ → List ℕ → List (ℕ × ℕ)
differences_of a b = between (tree_of a) (tree_of b)

-- ---- the call: "Refusals: first table, second table, as in 01; then 6 for a list with under two places a pair, which stays unchanged."
-- A place is a number of 8 bytes.
unfoldable pub too_few_places : List (ℕ × ℕ) → List ℕ → Bool
too_few_places ds list = ltb (length list / 8) (2 * length ds)

-- number and place of a refusal, and after 2 what is wrong with the record; which table is refused, 1 or 2, and 0 for neither; the pairs
pub record Differed : Type 0 where
  pub number : ℕ
  pub place : ℕ
  pub flaw : Flaw
  pub which : ℕ
  pub pairs : ℕ

unfoldable pub refused_for : Verdict → ℕ → Differed
refused_for v k = record { number = v.number; place = v.place; flaw = v.flaw; which = k; pairs = 0 }

unfoldable pub differed_tables : ℕ → List ℕ → List ℕ → List ℕ → Differed
differed_tables lim a b list =
    cond (is_accepted (verdict lim a))
    (cond (is_accepted (verdict lim b))
    (cond (too_few_places (differences_of a b) list) (refused_for (refused 6 0) 0)
    (record { number = 0; place = 0; flaw = sound; which = 0; pairs = length (differences_of a b) }))
    (refused_for (verdict lim b) 2))
    (refused_for (verdict lim a) 1)

-- "another limit is 19, before all others", and is the fault of neither table
unfoldable pub differed : ℕ → List ℕ → List ℕ → List ℕ → Differed
differed lim a b list = cond (is_limit lim) (differed_tables lim a b list) (refused_for (refused 19 0) 0)

-- the numbers of the pairs, one after the other: each takes two places
unfoldable pub numbers_of : List (ℕ × ℕ) → List ℕ
numbers_of [] = []
numbers_of (d ∷ ds) = d.0 ∷ d.1 ∷ numbers_of ds

-- the list with the pairs ds at its front
unfoldable pub at_front : List (ℕ × ℕ) → List ℕ → List ℕ
at_front ds list = eights (numbers_of ds) ++ drop (16 * length ds) list

unfoldable pub list_after : ℕ → List ℕ → List ℕ → List ℕ → List ℕ
list_after lim a b list = cond (eqb (differed lim a b list).number 0) (at_front (differences_of a b) list) list

-- the answer, and the list afterwards
unfoldable pub differing : ℕ → List ℕ → List ℕ → List ℕ → Differed × List ℕ
differing lim a b list = (differed lim a b list, list_after lim a b list)

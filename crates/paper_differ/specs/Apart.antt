-- The pairs in the request's words, without the walk that lists them: the walk comes to two records, and they do not agree. And what it is
-- for the pairs to stand on a list once, in walking order.
use Rattle.std.specs.Prelude.{ℕ, ◌+◌, ◌≤◌, ◌≡◌, true, false, List, [], ◌∷◌}
use Rattle.std.proofs.Math.Option.{some}
use Rattle.paper.specs.Tree.{Tree, records}
use Rattle.paper.specs.Table.{tree_of}
use Rattle.paper.specs.Driver.{members}
use Rattle.paper_differ.specs.Differ.{alike}

-- the k-th member of one list, at its record, and the k-th of the other, at its own
pub data Partners : List Tree → List Tree → ℕ → ℕ → Tree → Tree → ℕ → ℕ → Type 0 where
  first : {t u : Tree} {l m : List Tree} {i j : ℕ} → Partners (t ∷ l) (u ∷ m) i j t u i j
  later : {t u v w : Tree} {l m : List Tree} {i j p q : ℕ} → Partners l m (i + records t) (j + records u) v w p q
      → Partners (t ∷ l) (u ∷ m) i j v w p q

-- the walk from t at record i and u at record j comes to v at record p and w at record q: they are these; or t and u agree, and the walk from
-- two of their members in step comes there
pub data Reached : Tree → Tree → ℕ → ℕ → Tree → Tree → ℕ → ℕ → Type 0 where
  itself : {t u : Tree} {i j : ℕ} → Reached t u i j t u i j
  below : {t u x y v w : Tree} {i j k l p q : ℕ} → alike t u ≡ true → Partners (members t) (members u) (i + 1) (j + 1) x y k l
      → Reached x y k l v w p q → Reached t u i j v w p q

-- "where they do not it reports the pair"
pub record Apart (t u : Tree) (i j p q : ℕ) : Type 0 where
  pub one : Tree
  pub other : Tree
  pub reached : Reached t u i j one other p q
  pub unlike : alike one other ≡ false

-- record p of the table a and record q of the table b, the walk being that of their trees
pub record ApartIn (a b : List ℕ) (p q : ℕ) : Type 0 where
  pub first_tree : Tree
  pub second_tree : Tree
  pub first_read : tree_of a ≡ some first_tree
  pub second_read : tree_of b ≡ some second_tree
  pub apart : Apart first_tree second_tree 0 0 p q

-- the pair is on the list
pub data Listed (p q : ℕ) : List (ℕ × ℕ) → Type 0 where
  here : {d : ℕ × ℕ} {ds : List (ℕ × ℕ)} → d.0 ≡ p → d.1 ≡ q → Listed p q (d ∷ ds)
  there : {d : ℕ × ℕ} {ds : List (ℕ × ℕ)} → Listed p q ds → Listed p q (d ∷ ds)

-- "once, in walking order": both numbers rise along the list, the first pair's being i and j at least
abbrev pub Rises : ℕ → ℕ → List (ℕ × ℕ) → Type 0
Rises i j [] = Unit {0}
Rises i j (d ∷ ds) = (i ≤ d.0) × ((j ≤ d.1) × Rises (d.0 + 1) (d.1 + 1) ds)

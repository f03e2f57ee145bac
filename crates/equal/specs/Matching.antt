-- What matching compares and answers: the trees of a row with or without its integers, those that are not ticked, and what the code asks
-- for.
use Rattle.std.specs.Prelude.{Option, Some, None, ℕ, ◌+◌, ◌-◌, ◌*◌, ◌^◌, ◌≤◌, ◌<◌, ◌≡◌, Bool, true, false, cond, ◌&&◌, List, [], ◌∷◌, length, get_or, eqb, ltb}
use Rattle.std.proofs.Math.Option.{none, some}
use Rattle.paper.specs.Tree.{Tree, Forest, nil, cons, records, recordses, to_list, weight}
use Rattle.paper.specs.Record.{kind}
use Rattle.paper.specs.Rules.{others_of}
use Rattle.paper.specs.Standing.{TreeIn}
use Rattle.paper.specs.Equal.{remove_first, equal}
use Rattle.split.specs.Standing.{Told, ToldTrees}
use Rattle.equal.specs.Head.{begin_alike}

-- the answer of a comparison: equal, the first tree ending before record e; or not
abbrev pub match_of : Bool → ℕ → Option ℕ
match_of true e = Some e
match_of false e = None

-- the trees of f, without its integers where they are passed over
unfoldable pub without : Bool → Forest → List Tree
without false f = to_list f
without true f = others_of (to_list f)

-- the tree at record i is passed over: integers are, and this is one
unfoldable pub is_passed : Bool → List ℕ → ℕ → Bool
is_passed skip s i = skip && ltb (kind s i) 1

-- the trees of f that are not used yet: those whose tick, from tick k on, is 0
unfoldable pub unticked : List ℕ → ℕ → Forest → List Tree
unticked us k nil = []
unticked us k (cons t f) = cond (eqb (get_or us k 0) 0) (t ∷ unticked us (k + 1) f) (unticked us (k + 1) f)

-- two trees stand in the tables, told of by one h, and there is room for the ticks: a byte for each record of the second
pub record Comparable (a : List ℕ) (i : ℕ) (b : List ℕ) (j room : ℕ) : Type 0 where
  pub how : Tree → ℕ
  pub one : Tree
  pub other : Tree
  pub one_there : Told how a i one
  pub other_there : Told how b j other
  pub enough : records other ≤ room

-- the ticks in use are among those lent, and tables and ticks are as short as slices are
pub record Level (a b : List ℕ) (used : ℕ) (us : List ℕ) : Type 0 where
  pub within : used ≤ length us
  pub one_short : length a < 2 ^ 63
  pub other_short : length b < 2 ^ 63
  pub ticks_short : length us < 2 ^ 63

-- the first n ticks are as they were, and there are as many
pub record Kept (n : ℕ) (us us' : List ℕ) : Type 0 where
  pub as_long : length us' ≡ length us
  pub same : (k : ℕ) → k < n → get_or us' k 0 ≡ get_or us k 0

-- two trees that begin alike stand in the tables, and there is room for the ticks: a byte for each record behind the second's first
pub record Alike (a : List ℕ) (i : ℕ) (b : List ℕ) (j room : ℕ) : Type 0 where
  pub how : Tree → ℕ
  pub one : Tree
  pub other : Tree
  pub one_there : Told how a i one
  pub other_there : Told how b j other
  pub begin : begin_alike a i b j ≡ true
  pub enough : records other ≤ 1 + room

-- a record stands at j of the table b; where it is a power's, so do its exponent as far on as e is from i, and at e of the table a another
pub record Passable (a : List ℕ) (i : ℕ) (b : List ℕ) (j e : ℕ) : Type 0 where
  pub within : j * 16 + 16 ≤ length b
  pub ahead : i ≤ e
  pub exponent_within : 4 ≤ kind b j → e * 16 + 16 ≤ length a
  pub other_within : 4 ≤ kind b j → (j + (e - i)) * 16 + 16 ≤ length b

-- two tables hold trees that weigh no more than the limit
pub record Weighed (a b : List ℕ) (limit : ℕ) : Type 0 where
  pub one : Tree
  pub other : Tree
  pub one_there : TreeIn a 0 one
  pub other_there : TreeIn b 0 other
  pub one_light : weight one ≤ limit
  pub other_light : weight other ≤ limit

-- a tree stands in the one table, m trees in the other, and there is room for the ticks: a byte for each record of these
pub record Takeable (a : List ℕ) (i : ℕ) (b : List ℕ) (j m room : ℕ) : Type 0 where
  pub how : Tree → ℕ
  pub one : Tree
  pub others : Forest
  pub one_there : Told how a i one
  pub others_there : ToldTrees how b j m others
  pub enough : recordses others ≤ room

-- what taking the first unticked tree of g, whose ticks are those from tick u on, that equals t, which ends before record e, answers: none,
-- there being none; or e, it being ticked
abbrev pub Took : Tree → Forest → ℕ → List ℕ → List ℕ → ℕ → Option ℕ → Type 0
Took t g u us us' e None = remove_first (equal t) (unticked us u g) ≡ none
Took t g u us us' e (Some x) = (x ≡ e) × (remove_first (equal t) (unticked us u g) ≡ some (unticked us' u g))

-- n trees stand in the one table, m in the other; without those passed over, and without the ticked ones, there are as many
pub record Matchable (a : List ℕ) (i n : ℕ) (skip : Bool) (b : List ℕ) (j m : ℕ) (us : List ℕ) : Type 0 where
  pub how : Tree → ℕ
  pub ones : Forest
  pub others : Forest
  pub ones_there : ToldTrees how a i n ones
  pub others_there : ToldTrees how b j m others
  pub enough : recordses others ≤ length us
  pub as_many : length (without skip ones) ≡ length (unticked us 0 others)

-- Where the definition of each symbol is found: `which` has 1 + its number for a symbol, 0 for one that is not defined, and `from` where each
-- of the n definitions begins, and where the last one ends.
use Rattle.std.specs.Prelude.{ℕ, ◌+◌, ◌-◌, ◌*◌, ◌≤◌, ◌<◌, ◌≡◌, List, length, get_or, take, drop}
use Rattle.std.specs.Prelude as code
use Rattle.std.proofs.Math.Option.{Option, none, some}
use Rattle.paper.specs.Tree.{Tree, weight, records}
use Rattle.paper.specs.WellFormed.{WF}
use Rattle.paper.specs.Table.{encode}
use Rattle.stretch.specs.Put.{put}
use Rattle.paper_shared.specs.Shared.{Definition, make, defined, open_within, again_within}
use Rattle.replace.specs.Weighed.{told, capped, most_bytes}

-- the bytes of definition j
unfoldable pub piece_at : List ℕ → List ℕ → ℕ → List ℕ
piece_at definitions from j = take (get_or from (j + 1) 0 - get_or from j 0) (drop (get_or from j 0) definitions)

-- definition j lies within the bytes, and is no longer than a table may be
pub record Lies (definitions from : List ℕ) (j : ℕ) : Type 0 where
  pub up : get_or from j 0 ≤ get_or from (j + 1) 0
  pub within : get_or from (j + 1) 0 ≤ length definitions
  pub short : get_or from (j + 1) 0 ≤ get_or from j 0 + most_bytes

-- c is 1 + the number of a definition, of the n, that holds the tree u
pub record FoundAt (definitions from : List ℕ) (n c : ℕ) (u : Tree) : Type 0 where
  pub positive : 0 < c
  pub few : c ≤ n
  pub wf : WF u
  pub written : piece_at definitions from (c - 1) ≡ encode u

abbrev pub Found : List ℕ → List ℕ → ℕ → ℕ → Option Tree → Type 0
Found definitions from n c none = c ≡ 0
Found definitions from n c (some u) = FoundAt definitions from n c u

pub record Index (ds : List Definition) (definitions which from : List ℕ) (n : ℕ) : Type 0 where
  pub lies : (j : ℕ) → j < n → Lies definitions from j
  pub finds : (x : ℕ) → x < 256 → Found definitions from n (get_or which x 0) (defined ds x)

-- the capped weight of each definition found, opened r deep (not at all where r is 0)
abbrev pub Knows : ℕ → List Definition → List ℕ → List (code.Option ℕ) → ℕ → Type 0
Knows lim ds which weights r =
    (x : ℕ) (u : Tree) → x < 256 → defined ds x ≡ some u
    → get_or weights (get_or which x 0 - 1) code.None ≡ told (capped lim (make weight (again_within ds r u)))

-- the table s holds the tree t, which is opened `deep` deep to v, and v has room from record d of the area on
pub record Openable (ds : List Definition) (definitions which from s area : List ℕ) (n deep d : ℕ) (t v : Tree) : Type 0 where
  pub index : Index ds definitions which from n
  pub few : n ≤ 16
  pub wf : WF t
  pub written : s ≡ encode t
  pub opens : open_within ds deep t ≡ some v
  pub room : (d + records v) * 16 ≤ length area

-- and that is where it is written
pub record Holding (v : Tree) (d e : ℕ) (area area' : List ℕ) : Type 0 where
  pub end : e ≡ d + records v
  pub there : area' ≡ put area (d * 16) (encode v)

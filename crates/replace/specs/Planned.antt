-- What the plan of an opening tells: the refusal; or the weight of the opened tree, and all that is needed to write it.
use Rattle.std.specs.Prelude.{ℕ, ◌*◌, ◌≤◌, ◌≡◌, List, length, Result, Ok, Err}
use Rattle.paper.specs.Tree.{Tree, weight}
use Rattle.paper.specs.WellFormed.{WF}
use Rattle.paper_shared.specs.Answers.{Handed, tree_in, definitions_of, Opening, turned_away, opens}
use Rattle.table.specs.declared.refusals.Refusal.{Refusal}
use Rattle.table.specs.Refusals.{verdict_of}
use Rattle.replace.specs.Index.{Openable}
use Rattle.replace.specs.declared.Plan.{Plan}

abbrev pub handed : List ℕ → List ℕ → List ℕ → List ℕ → Handed
handed table symbols lengths definitions =
    record { table = table; symbols = symbols; lengths = lengths; definitions = definitions }

-- v is the opened tree, and is written into any area that has room for its weight
pub record Ready (lim : ℕ) (h : Handed) (v : Tree) (p : Plan) : Type 0 where
  pub weighs : p.weight ≡ weight v
  pub light : weight v ≤ lim
  pub wf : WF v
  pub openable : (area : List ℕ) → 16 * weight v ≤ length area
      → Openable (definitions_of h) h.definitions p.which p.from h.table area (length h.symbols) (length h.symbols) 0 (tree_in h.table) v

abbrev pub Planned : ℕ → Handed → Opening → Result Plan Refusal → Type 0
Planned lim h (turned_away v) (Err r) = verdict_of r ≡ v
Planned lim h (turned_away v) (Ok p) = ⊥
Planned lim h (opens v) (Err r) = ⊥
Planned lim h (opens v) (Ok p) = Ready lim h v p

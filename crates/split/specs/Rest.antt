-- What the splits of a member tell: its coefficient, and which tree a rest stands for.
use Rattle.number.specs.declared.OutOfRange.{OutOfRange}
use Rattle.number.specs.Num.{out_of_range}
use Rattle.std.specs.Prelude.{ℕ, Result, Ok, ◌≤◌, ◌≡◌, cond, List, length, pos}
use Rattle.std.proofs.Math.Option.{none}
use Rattle.paper.specs.Bytes.{word}
use Rattle.paper.specs.Tree.{Tree, Forest, integer, product, to_list, of_list}
use Rattle.paper.specs.WellFormed.{WF}
use Rattle.paper.specs.Rules.{as_integer, others_of, Term}
use Rattle.split.specs.Standing.{Told}
use Rattle.split.specs.declared.Rest.{Rest}
use Rattle.split.specs.declared.Rest.TheVariants.{One, At, Others}

-- the coefficient of a term: `Ok n`, every partial product was in range, and n is its 64 bits; `Err`, one was not
unfoldable pub coefficient_of : Term → Result ℕ OutOfRange
coefficient_of x = cond x.in_range (Ok (word x.coefficient)) out_of_range

-- the product at record i of the table s without its integers is the product t with its mark, of n members, two or more
pub record Lessened (how : Tree → ℕ) (s : List ℕ) (i n : ℕ) (t : Tree) : Type 0 where
  pub mark : ℕ
  pub members : Forest
  pub whole : Told how s i (product mark members)
  pub left : t ≡ product mark (of_list (others_of (to_list members)))
  pub many : n ≡ length (others_of (to_list members))
  pub two : 2 ≤ n
  pub wf : WF t

-- the tree that a rest, of the tree at record i, stands for: 1, which stands in no record; the tree at a record, no integer; the
-- product at record i itself without its integers
abbrev pub StandsFor : (Tree → ℕ) → List ℕ → ℕ → Rest → Tree → Type 0
StandsFor how s i One t = (μ : ℕ) × (t ≡ integer μ (pos 1))
StandsFor how s i (At p) t = Told how s p t × (as_integer t ≡ none)
StandsFor how s i (Others p n) t = (p ≡ i) × Lessened how s p n t

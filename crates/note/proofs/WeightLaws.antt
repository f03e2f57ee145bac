-- The records of a tree weigh what the tree weighs, whatever its nodes hold in their bytes 8-15: a record's weight depends on its kind alone.
-- By induction on the tree, as of the paper's own records.
use Rattle.std.proofs.Common.{◌≡◌, ℕ, ◌+◌, List, ◌++◌, arith}
use Rattle.paper.specs.Tree.{Tree, Forest, integer, symbol, sum, product, power, nil, cons, count, records, recordses, weight, weights}
use Rattle.paper.specs.Record.{weight_from}
use Rattle.paper.specs.Standing.{Stands}
use Rattle.paper.specs.Table.{record_of, encode}
use Rattle.paper.proofs.EncodeLaws.{record_length}
use Rattle.paper.proofs.Stands.{stands_first, stands_next}
use Rattle.paper.proofs.TableLaws.{weight_both, weight_none, weight_one, weight_there}
use Rattle.note.specs.Noted.{encode_by, encodes_by}
use Rattle.note.proofs.NotedLaws.{encode_by_length}

module _ (h : Tree → ℕ) where
  mutual
    unfolding encode encode_by records weight

    pub weight_by : (t : Tree) (s : List ℕ) (i : ℕ) → Stands s i (encode_by h t) → weight_from s i (records t) ≡ weight t
    weight_by (integer μ z) s i g = weight_there (integer μ z) s i g
    weight_by (symbol μ v) s i g = weight_there (symbol μ v) s i g
    weight_by (sum μ f) s i g =
        let own : List ℕ = record_of 2 (count f) μ (h (sum μ f)) in
        omega (
          arith,
          weight_both s i 1 (recordses f),
          weight_one s i 2 (count f) μ (h (sum μ f)) (stands_first own (encodes_by h f) g),
          weights_by f s (i + 1) (stands_next own (encodes_by h f) g 1 (record_length 2 (count f) μ (h (sum μ f)))),
        )
    weight_by (product μ f) s i g =
        let own : List ℕ = record_of 3 (count f) μ (h (product μ f)) in
        omega (
          arith,
          weight_both s i 1 (recordses f),
          weight_one s i 3 (count f) μ (h (product μ f)) (stands_first own (encodes_by h f) g),
          weights_by f s (i + 1) (stands_next own (encodes_by h f) g 1 (record_length 3 (count f) μ (h (product μ f)))),
        )
    weight_by (power μ b ξ e) s i g =
        let own : List ℕ = record_of 4 0 μ (h (power μ b ξ e)) in
        let k : 2 + records b ≡ 1 + (records b + 1) = omega arith in
        let inner = stands_next own (encode_by h b ++ record_of 0 0 ξ e) g 1 (record_length 4 0 μ (h (power μ b ξ e))) in
        rw k (omega (
          arith,
          weight_both s i 1 (records b + 1),
          weight_both s (i + 1) (records b) 1,
          weight_one s i 4 0 μ (h (power μ b ξ e)) (stands_first own (encode_by h b ++ record_of 0 0 ξ e) g),
          weight_by b s (i + 1) (stands_first (encode_by h b) (record_of 0 0 ξ e) inner),
          weight_one s (i + 1 + records b) 0 0 ξ e (stands_next (encode_by h b) (record_of 0 0 ξ e) inner (records b) (encode_by_length h b)),
        ))

    weights_by : (f : Forest) (s : List ℕ) (i : ℕ) → Stands s i (encodes_by h f) → weight_from s i (recordses f) ≡ weights f
    weights_by nil s i g = weight_none s i
    weights_by (cons t f) s i g =
        omega (
          arith,
          weight_both s i (records t) (recordses f),
          weight_by t s i (stands_first (encode_by h t) (encodes_by h f) g),
          weights_by f s (i + records t) (stands_next (encode_by h t) (encodes_by h f) g (records t) (encode_by_length h t)),
        )

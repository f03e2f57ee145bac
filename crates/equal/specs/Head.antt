-- How two trees begin: their first records, and those of the bases of powers. Equal trees begin alike (proofs/HeadLaws). And what these
-- records say of where the trees end.
use Rattle.std.specs.Prelude.{Option, Some, None, ℕ, ◌+◌, ◌-◌, Bool, true, cond, not, ◌&&◌, List, eqb, ltb}
use Rattle.paper.specs.Record.{kind, count_in, bits}
use Rattle.note.specs.Plain.{parts_in}

unfoldable pub same_head : List ℕ → ℕ → List ℕ → ℕ → Bool
same_head a i b j = eqb (bits a i) (bits b j) && eqb (kind a i) (kind b j)

unfoldable pub begin_alike : List ℕ → ℕ → List ℕ → ℕ → Bool
begin_alike a i b j = same_head a i b j && cond (eqb (kind a i) 4) (same_head a (i + 1) b (j + 1)) true

-- the tree at record j of b has no tick, and begins as the tree at record i of a does
unfoldable pub is_candidate : List ℕ → ℕ → List ℕ → (j tick : ℕ) → Bool
is_candidate a i b j x = eqb x 0 && begin_alike a i b j

-- how many members of the tree at record i are matched: of a power the base, of a leaf none
unfoldable pub members_in : List ℕ → ℕ → ℕ
members_in s i = parts_in s i (kind s i)

-- where the tree at record i of a ends, its matched members, equal to those of the tree at record j of b, ending before record e: of powers
-- the exponents follow, and none says that they differ
unfoldable pub past_exponent : List ℕ → ℕ → List ℕ → ℕ → ℕ → Option ℕ
past_exponent a i b j e = cond (ltb (kind b j) 4) (Some e) (cond (eqb (bits a e) (bits b (j + (e - i)))) (Some (e + 1)) None)

-- the tree at record i is its own rest: neither an integer nor a product
unfoldable pub is_whole : List ℕ → ℕ → Bool
is_whole s i = not (eqb (kind s i) 0) && not (eqb (kind s i) 3)

-- a symbol stands at record i, and at the next record a tree that is no integer
unfoldable pub two_at : List ℕ → ℕ → Bool
two_at s i = eqb (kind s i) 1 && not (eqb (kind s (i + 1)) 0)

-- the product at record i is seen at once to have two members that are no integers: the first two, or the two after an integer
unfoldable pub has_two : List ℕ → ℕ → Bool
has_two s i = cond (eqb (kind s (i + 1)) 0) (not (ltb (count_in s i) 3) && two_at s (i + 2)) (two_at s (i + 1))

-- the rests of two trees are seen at once to differ: one is a product that has two members besides its integers, the other is its own
-- rest; or neither is a product, not both are integers, and they begin otherwise
unfoldable pub rests_differ : List ℕ → ℕ → ℕ → Bool
rests_differ s i j =
    cond (is_whole s i) (cond (eqb (kind s j) 3) (has_two s j) (not (begin_alike s i s j)))
    (cond (eqb (kind s i) 0) (is_whole s j) (is_whole s j && has_two s i))

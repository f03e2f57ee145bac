-- A formula and its definitions as they are handed in, what is refused and in which order, and what the two calls give; lim is the limit.
use Rattle.std.specs.Prelude.{ℕ, zero, suc, ◌+◌, ◌*◌, Bool, false, cond, ◌||◌, not, List, [], ◌∷◌, ◌++◌, length, get_or, take, drop, pos, eqb, ltb}
use Rattle.std.proofs.Math.Option.{Option, none, some}
use Rattle.paper.specs.Limits.{is_limit}
use Rattle.paper.specs.Bytes.{le8}
use Rattle.paper.specs.Tree.{Tree, integer, weight, records}
use Rattle.paper.specs.Table.{encode, tree_of}
use Rattle.paper.specs.Record.{Flaw, sound}
use Rattle.paper.specs.Verdict.{Verdict, accepted, refused, is_accepted, verdict}
use Rattle.paper.specs.Rules.{is_edition}
use Rattle.paper.specs.Answers.{Lent, Given, cramped, refused_by, simplified}
use Rattle.paper_shared.specs.Shared.{Definition, opened}

-- "Up to 16 symbols may be defined"
abbrev pub max_definitions : ℕ
max_definitions = 16

-- "Definitions come end to end with symbols and lengths": a byte for each symbol, 8 for each length
pub record Handed : Type 0 where
  pub table : List ℕ
  pub symbols : List ℕ
  pub lengths : List ℕ
  pub definitions : List ℕ

unfoldable pub length_at : List ℕ → ℕ → ℕ
length_at lengths i = le8 lengths (i * 8)

-- what the n lengths from length i on add up to
unfoldable pub lengths_from : List ℕ → ℕ → ℕ → ℕ
lengths_from lengths i zero = 0
lengths_from lengths i (suc n) = length_at lengths i + lengths_from lengths (i + 1) n

-- where definition i begins
unfoldable pub beginning : List ℕ → ℕ → ℕ
beginning lengths i = lengths_from lengths 0 i

-- the bytes of definition i
unfoldable pub table_at : List ℕ → List ℕ → ℕ → List ℕ
table_at lengths definitions i = take (length_at lengths i) (drop (beginning lengths i) definitions)

-- 8: "the two lists differ in length or the lengths miss the bytes given"
unfoldable pub misses : List ℕ → List ℕ → List ℕ → Bool
misses symbols lengths definitions =
    not (eqb (length lengths) (8 * length symbols)) || not (eqb (beginning lengths (length symbols)) (length definitions))

-- 15: "a definition refused by 01", of the n from definition i on
unfoldable pub any_refused : ℕ → List ℕ → List ℕ → ℕ → ℕ → Bool
any_refused lim lengths definitions i zero = false
any_refused lim lengths definitions i (suc n) =
    not (is_accepted (verdict lim (table_at lengths definitions i))) || any_refused lim lengths definitions (i + 1) n

-- 16: "over 16 definitions or a symbol defined twice": the symbol x is one of the n from symbol i on; one of these is there again
unfoldable pub is_among : ℕ → List ℕ → ℕ → ℕ → Bool
is_among x symbols i zero = false
is_among x symbols i (suc n) = eqb (get_or symbols i 0) x || is_among x symbols (i + 1) n

unfoldable pub twice : List ℕ → ℕ → ℕ → Bool
twice symbols i zero = false
twice symbols i (suc n) = is_among (get_or symbols i 0) symbols (i + 1) n || twice symbols (i + 1) n

unfoldable pub crowded : List ℕ → Bool
crowded symbols = ltb max_definitions (length symbols) || twice symbols 0 (length symbols)

-- the tree of a table (an accepted table always holds one: proofs/Tables)
unfoldable pub or_nought : Option Tree → Tree
or_nought none = integer 0 (pos 0)
or_nought (some t) = t

unfoldable pub tree_in : List ℕ → Tree
tree_in s = or_nought (tree_of s)

-- the n definitions from definition i on
unfoldable pub definitions_from : List ℕ → List ℕ → List ℕ → ℕ → ℕ → List Definition
definitions_from symbols lengths definitions i zero = []
definitions_from symbols lengths definitions i (suc n) =
    record { name = get_or symbols i 0; tree = tree_in (table_at lengths definitions i) }
    ∷ definitions_from symbols lengths definitions (i + 1) n

unfoldable pub definitions_of : Handed → List Definition
definitions_of h = definitions_from h.symbols h.lengths h.definitions 0 (length h.symbols)

-- the formula with its definitions in place of their symbols
unfoldable pub opened_of : Handed → Option Tree
opened_of h = opened (definitions_of h) (tree_in h.table)

-- what becomes of a formula: refused by all but 6 and 7, or opened
pub data Opening : Type 0 where
  turned_away : Verdict → Opening
  opens : Tree → Opening

-- 17, where it cannot be opened (proofs/CircleLaws: exactly when there is a circle), and 18: "opened weight over 3,072", or what the limit is
unfoldable pub opening_of : ℕ → Option Tree → Opening
opening_of lim none = turned_away (refused 17 0)
opening_of lim (some v) = cond (ltb lim (weight v)) (turned_away (refused 18 0)) (opens v)

-- 8 "before 1"; 15 to 18 "after 5 and before 6, in this order"
unfoldable pub judged_site : ℕ → Handed → Opening
judged_site lim h =
    cond (misses h.symbols h.lengths h.definitions) (turned_away (refused 8 0))
    (cond (not (is_accepted (verdict lim h.table))) (turned_away (verdict lim h.table))
    (cond (any_refused lim h.lengths h.definitions 0 (length h.symbols)) (turned_away (refused 15 0))
    (cond (crowded h.symbols) (turned_away (refused 16 0))
    (opening_of lim (opened_of h)))))

-- "another limit is 19, before all others"
unfoldable pub opening : ℕ → Handed → Opening
opening lim h = cond (is_limit lim) (judged_site lim h) (turned_away (refused 19 0))

-- and 6, where W, the opened weight, is too much for what is lent
unfoldable pub verdict_on : (ℕ → Bool) → Opening → Verdict
verdict_on short (turned_away v) = v
verdict_on short (opens v) = cond (short (weight v)) (refused 6 0) accepted

-- "6 also when the area for the opened table is under 16 x W"
unfoldable pub no_room : List ℕ → ℕ → Bool
no_room area w = ltb (length area) (16 * w)

-- of the call that opens
unfoldable pub open_verdict : ℕ → Handed → List ℕ → Verdict
open_verdict lim h area = verdict_on (no_room area) (opening lim h)

-- "it holds that table, its other bytes unchanged"
unfoldable pub holding : Tree → List ℕ → List ℕ
holding v area = encode v ++ drop (length (encode v)) area

-- ---- the call that opens: number, place, what is wrong with the record after 2, and the records and the weight of the opened table
pub record OpenAnswer : Type 0 where
  pub number : ℕ
  pub place : ℕ
  pub flaw : Flaw
  pub records_written : ℕ
  pub opened_weight : ℕ

pub record OpenGiven : Type 0 where
  pub answer : OpenAnswer
  pub area : List ℕ

unfoldable pub unopened : Verdict → List ℕ → OpenGiven
unopened v area =
    record {
      answer = record { number = v.number; place = v.place; flaw = v.flaw; records_written = 0; opened_weight = 0 };
      area = area;
    }

unfoldable pub open_of : Opening → List ℕ → OpenGiven
open_of (turned_away v) area = unopened v area
open_of (opens v) area =
    cond (no_room area (weight v)) (unopened (refused 6 0) area)
    (record {
      answer = record { number = 0; place = 0; flaw = sound; records_written = records v; opened_weight = weight v };
      area = holding v area;
    })

unfoldable pub open_given : ℕ → Handed → List ℕ → OpenGiven
open_given lim h area = open_of (opening lim h) area

-- ---- the call that opens and simplifies, by the rules of the edition ed: an unknown one is 9 "before 8", but after 19; "Steps, demand 3 and
-- the W of refusal 6 speak of the opened tree"
unfoldable pub opening_by : ℕ → ℕ → Handed → Opening
opening_by lim ed h = cond (is_limit lim) (cond (is_edition ed) (judged_site lim h) (turned_away (refused 9 0))) (turned_away (refused 19 0))

unfoldable pub shared_verdict : ℕ → ℕ → Handed → List ℕ → Lent → Verdict
shared_verdict lim ed h area l = verdict_on (λ w. no_room area w || cramped lim w l) (opening_by lim ed h)

pub record SharedGiven : Type 0 where
  pub given : Given
  pub area : List ℕ

unfoldable pub unshared : Verdict → List ℕ → Lent → SharedGiven
unshared v area l = record { given = record { answer = refused_by v; lent = l }; area = area }

-- "after 0 or 7 it holds that table"
unfoldable pub shared_of : ℕ → ℕ → Opening → List ℕ → Lent → SharedGiven
shared_of lim ed (turned_away v) area l = unshared v area l
shared_of lim ed (opens v) area l =
    cond (no_room area (weight v) || cramped lim (weight v) l) (unshared (refused 6 0) area l)
    (record { given = simplified lim ed (encode v) l; area = holding v area })

unfoldable pub shared_given : ℕ → ℕ → Handed → List ℕ → Lent → SharedGiven
shared_given lim ed h area l = shared_of lim ed (opening_by lim ed h) area l

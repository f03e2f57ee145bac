-- A whole site at once: "one call that takes the tables end to end with a list of their byte lengths". The items are over any simplifier; the
-- call is over the paper's.
use Rattle.std.specs.Prelude.{ℕ, zero, suc, ◌+◌, ◌*◌, ◌/◌, ◌%◌, Bool, cond, ◌||◌, not, List, [], ◌∷◌, ◌++◌, length, take, drop, eqb, ltb}
use Rattle.paper.specs.Limits.{is_limit}
use Rattle.paper.specs.Bytes.{le8}
use Rattle.paper.specs.Verdict.{table_weight}
use Rattle.paper.specs.Rules.{is_edition}
use Rattle.paper.specs.Answers.{Lent, Answer, simplified}
use Rattle.paper.specs.Calls.{answer_numbers, eights}
use Rattle.paper.specs.Slices.{simplify_bytes}
use Rattle.paper.specs.Demands.{Simplifier}

-- "up to 200 formulas"
abbrev pub max_items : ℕ
max_items = 200

-- a place for an answer: the numbers of `simmergate_simplify`, 8 bytes each
abbrev pub place_bytes : ℕ
place_bytes = simplify_bytes

-- "an accepted item, or one with 7"
unfoldable pub has_run : Answer → Bool
has_run a = eqb a.number 0 || eqb a.number 7

-- W: it "uses up 16 x W and W bytes, any other none"
unfoldable pub used_up : List ℕ → Answer → ℕ
used_up s a = cond (has_run a) (table_weight s) 0

-- "each item is handed what remains of `out` and `steps`", and "`work` is lent whole to each"
unfoldable pub remaining : ℕ → Lent → Lent
remaining w l = record { out = drop (16 * w) l.out; steps = drop w l.steps; work = l.work }

-- what an item used up stands in front of what the later ones leave
unfoldable pub in_front : ℕ → Lent → Lent → Lent
in_front w l m = record { out = take (16 * w) l.out ++ m.out; steps = take w l.steps ++ m.steps; work = m.work }

-- the answers, first to last, and the lent areas afterwards
pub record Site : Type 0 where
  pub answers : List Answer
  pub lent : Lent

module _ (f : Simplifier) where
  -- the item in front, of n bytes: what it uses up, and what it hands on
  unfoldable pub first_uses : ℕ → List ℕ → Lent → ℕ
  first_uses n s l = used_up (take n s) (f (take n s) l).answer

  unfoldable pub handed_on : ℕ → List ℕ → Lent → Lent
  handed_on n s l = remaining (first_uses n s l) (f (take n s) l).lent

  -- the items one after the other: of the lengths, with the tables end to end
  unfoldable pub in_turn : List ℕ → List ℕ → Lent → Site
  in_turn [] s l = record { answers = []; lent = l }
  in_turn (n ∷ ns) s l =
      record {
        answers = (f (take n s) l).answer ∷ (in_turn ns (drop n s) (handed_on n s l)).answers;
        lent = in_front (first_uses n s l) (f (take n s) l).lent (in_turn ns (drop n s) (handed_on n s l)).lent;
      }

-- ---- the call on bytes
-- the n numbers that the bytes begin with, 8 bytes each, little-endian
unfoldable pub numbers_in : ℕ → List ℕ → List ℕ
numbers_in zero s = []
numbers_in (suc n) s = le8 s 0 ∷ numbers_in n (drop 8 s)

-- "a list of their byte lengths"
unfoldable pub lengths_in : List ℕ → List ℕ
lengths_in lengths = numbers_in (length lengths / 8) lengths

unfoldable pub total : List ℕ → ℕ
total [] = 0
total (n ∷ ns) = n + total ns

-- 8: "the list has over 200 items, its lengths do not add up to the bytes given, or the list for the answers has fewer places than items"
unfoldable pub unfit : List ℕ → ℕ → ℕ → Bool
unfit ns given places = ltb max_items (length ns) || (not (eqb (total ns) given) || ltb places (length ns))

-- (a list that is no multiple of 8 bytes holds no lengths)
unfoldable pub turns_down : List ℕ → List ℕ → List ℕ → Bool
turns_down tables lengths answers =
    not (eqb (length lengths % 8) 0) || unfit (lengths_in lengths) (length tables) (length answers / place_bytes)

-- what the call returns: "another limit is 19, before all others"; "an unknown edition, before 8 and 1, number 9"; 8 "before any item"; 0 where
-- the items are tried, whatever becomes of them
unfoldable pub site_number : ℕ → ℕ → List ℕ → List ℕ → List ℕ → ℕ
site_number lim ed tables lengths answers =
    cond (is_limit lim) (cond (is_edition ed) (cond (turns_down tables lengths answers) 8 0) 9) 19

unfoldable pub all_numbers : List Answer → List ℕ
all_numbers [] = []
all_numbers (a ∷ rest) = answer_numbers a ++ all_numbers rest

-- what the call returns, and all that it was lent, afterwards
pub record SiteCall : Type 0 where
  pub number : ℕ
  pub lent : Lent
  pub answers : List ℕ

-- refused: "changing nothing"
unfoldable pub untouched : ℕ → Lent → List ℕ → SiteCall
untouched k l answers = record { number = k; lent = l; answers = answers }

-- carried out: each answer in its place, and the list past them as it was
unfoldable pub carried_out : ℕ → List ℕ → Site → List ℕ → SiteCall
carried_out k ns x answers =
    record { number = k; lent = x.lent; answers = eights (all_numbers x.answers) ++ drop (place_bytes * length ns) answers }

-- the call: the limit, the edition, the tables end to end, the list of lengths, the areas, the list for the answers
unfoldable pub site_called : ℕ → ℕ → List ℕ → List ℕ → Lent → List ℕ → SiteCall
site_called lim ed tables lengths l answers =
    let k = site_number lim ed tables lengths answers in
    cond (eqb k 0) (carried_out k (lengths_in lengths) (in_turn (simplified lim ed) (lengths_in lengths) tables l) answers) (untouched k l answers)

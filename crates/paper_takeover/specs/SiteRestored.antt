-- A site restored whole: each item in its place, by its result where it was accepted, and by its own table where it was refused.
use Rattle.std.specs.Prelude.{ℕ, ◌+◌, ◌*◌, ◌%◌, ◌≤◌, ◌≡◌, cond, List, [], ◌∷◌, ◌++◌, length, take, drop}
use Rattle.paper.specs.Limits.{work_bytes}
use Rattle.paper.specs.Bytes.{Bytes}
use Rattle.paper.specs.Answers.{Lent, Answer, simplified}
use Rattle.paper.specs.Takeover.{Room, again}
use Rattle.paper_batch.specs.Batch.{place_bytes, used_up, Site, in_turn, lengths_in, total, site_number}
use Rattle.paper_takeover.specs.TakenOver.{is_done, restored, restored_lengths}

-- the tables end to end: of the lengths ns, the tables s, the answers and `out`
unfoldable pub restored_whole : List ℕ → List ℕ → List Answer → List ℕ → List ℕ
restored_whole [] s xs out = []
restored_whole (n ∷ ns) s [] out = []
restored_whole (n ∷ ns) s (x ∷ xs) out =
    cond (is_done x) (take (16 * x.records_written) out) (take n s) ++ restored_whole ns (drop n s) xs (drop (16 * used_up (take n s) x) out)

unfoldable pub whole_lengths : List ℕ → List Answer → List ℕ
whole_lengths [] xs = []
whole_lengths (n ∷ ns) [] = []
whole_lengths (n ∷ ns) (x ∷ xs) = cond (is_done x) (16 * x.records_written) n ∷ whole_lengths ns xs

-- the room that they use up: the weights of the results, and of the items with 7
unfoldable pub whole_weight : List ℕ → List ℕ → List Answer → ℕ
whole_weight [] s xs = 0
whole_weight (n ∷ ns) s [] = 0
whole_weight (n ∷ ns) s (x ∷ xs) = cond (is_done x) x.weight_out (used_up (take n s) x) + whole_weight ns (drop n s) xs

-- the second answers, in the same places: of an accepted item `again`; of a refused one the very answer, with its number, its place and its flaw
unfoldable pub again_in_place : List Answer → List Answer
again_in_place [] = []
again_in_place (x ∷ xs) = cond (is_done x) (again x) x ∷ again_in_place xs

-- no item lacked room
abbrev pub NoSix : List Answer → Type 0
NoSix [] = Unit {0}
NoSix (x ∷ xs) = (¬ (x.number ≡ 6)) × NoSix xs

-- the second site, of lengths ms with the tables t, repeats the answers xs, and what is restored of it is that site again
pub record RepeatsWhole (xs : List Answer) (ms t : List ℕ) (x : Site) : Type 0 where
  pub same_answers : x.answers ≡ again_in_place xs
  pub same_tables : restored_whole ms t x.answers x.lent.out ≡ t
  pub same_lengths : whole_lengths ms x.answers ≡ ms

-- whatever areas the second call is lent, if they have room for all that is restored
abbrev pub SiteRestored : ℕ → ℕ → Type 0
SiteRestored lim ed =
    (ns s : List ℕ) → Bytes s → total ns ≡ length s → (l m : Lent) → let x = in_turn (simplified lim ed) ns s l in
    NoSix x.answers → Room lim (whole_weight ns s x.answers) m
    → let ms = whole_lengths ns x.answers in
    let t = restored_whole ns s x.answers x.lent.out in
    RepeatsWhole x.answers ms t (in_turn (simplified lim ed) ms t m)

-- areas as long as those of the first call have that room, given the `work` that the limit asks for
abbrev pub AsLong : ℕ → ℕ → Type 0
AsLong lim ed =
    (ns s : List ℕ) → Bytes s → (l m : Lent) → length l.out ≤ length m.out → length l.steps ≤ length m.steps → work_bytes lim ≤ length m.work
    → Room lim (whole_weight ns s (in_turn (simplified lim ed) ns s l).answers) m

-- and however often the pair swaps: what is restored of the second site, the third is handed, and answers as the second did
abbrev pub SwapsAgain : ℕ → ℕ → Type 0
SwapsAgain lim ed =
    (ns s : List ℕ) → Bytes s → total ns ≡ length s → (l m m' : Lent) → let x = in_turn (simplified lim ed) ns s l in
    let w = whole_weight ns s x.answers in
    NoSix x.answers → Room lim w m → Room lim w m'
    → let ms = whole_lengths ns x.answers in
    let t = restored_whole ns s x.answers x.lent.out in
    let y = in_turn (simplified lim ed) ms t m in
    (in_turn (simplified lim ed) (whole_lengths ms y.answers) (restored_whole ms t y.answers y.lent.out) m').answers ≡ y.answers

-- ---- a call on what is restored of a call that was not refused as a whole is not refused as a whole: its lengths being a list, with a place for each answer
abbrev pub PassesEight : ℕ → ℕ → (List ℕ → List ℕ → Site → List ℕ) → (List ℕ → Site → List ℕ) → Type 0
PassesEight lim ed tables-of lengths-of =
    (tables lengths answers : List ℕ) → Bytes tables → site_number lim ed tables lengths answers ≡ 0
    → (l : Lent) → let ns = lengths_in lengths in
    let x = in_turn (simplified lim ed) ns tables l in
    (lengths' answers' : List ℕ) → length lengths' % 8 ≡ 0 → lengths_in lengths' ≡ lengths-of ns x
    → place_bytes * length (lengths-of ns x) ≤ length answers' → site_number lim ed (tables-of ns tables x) lengths' answers' ≡ 0

-- of the results alone, and of a site restored whole, items with 6 or not
abbrev pub ResultsPass : ℕ → ℕ → Type 0
ResultsPass lim ed = PassesEight lim ed (λ ns s x. restored ns s x.answers x.lent.out) (λ ns x. restored_lengths x.answers)

abbrev pub WholePasses : ℕ → ℕ → Type 0
WholePasses lim ed = PassesEight lim ed (λ ns s x. restored_whole ns s x.answers x.lent.out) (λ ns x. whole_lengths ns x.answers)

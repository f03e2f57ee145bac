-- What the second machine believes at the moment it takes over, beside the table of paper's `TakesOver`: of a result that travels as text or in
-- pieces, of a whole site, and of a formula that shares sub-formulas, each as one statement over the limit and the edition.
use Rattle.std.specs.Prelude.{ℕ, zero, suc, ◌+◌, ◌*◌, ◌≤◌, ◌≡◌, Bool, cond, List, [], ◌∷◌, ◌++◌, length, take, drop, eqb}
use Rattle.std.proofs.Math.Option.{some}
use Rattle.paper.specs.Limits.{max_bytes}
use Rattle.paper.specs.Bytes.{Bytes}
use Rattle.paper.specs.Tree.{Tree}
use Rattle.paper.specs.Table.{encode, tree_of}
use Rattle.paper.specs.Verdict.{accepted}
use Rattle.paper.specs.Erased.{erase}
use Rattle.paper.specs.Answers.{Lent, Answer, simplified}
use Rattle.paper.specs.Told.{answer_in}
use Rattle.paper.specs.Demands.{result}
use Rattle.paper.specs.Takeover.{Room, again, Repeats}
use Rattle.paper_text.specs.Answers.{write_given, read_given}
use Rattle.paper_receiver.specs.Receiver.{Held, fresh, finish_verdict, received_all, whole}
use Rattle.paper_batch.specs.Batch.{place_bytes, used_up, in_turn}
use Rattle.paper_shared.specs.Answers.{Handed, shared_given}

-- ---- a result that travels as text: what is written of a table in an area, and what is read of a text
unfoldable pub written_text : ℕ → List ℕ → List ℕ → List ℕ
written_text lim s area = let g = write_given lim s area in take g.answer.result g.area

unfoldable pub read_records : ℕ → List ℕ → List ℕ → List ℕ
read_records lim s area = let g = read_given lim s area in take (16 * g.answer.records_written) g.area

-- the records that arrive, where the result of a call is written to one area and read into another
unfoldable pub arrives : ℕ → ℕ → List ℕ → Lent → List ℕ → List ℕ → List ℕ
arrives lim ed s l line table = read_records lim (written_text lim (result (simplified lim ed s l)) line) table

-- neither call refuses; what arrives are the records of the result without their marks, and simplifying them repeats the first answer and gives the same bytes
pub record TextRepeats (lim ed : ℕ) (s : List ℕ) (l : Lent) (line table : List ℕ) (l' : Lent) : Type 0 where
  pub written : (write_given lim (result (simplified lim ed s l)) line).answer.number ≡ 0
  pub read : (read_given lim (written_text lim (result (simplified lim ed s l)) line) table).answer.number ≡ 0
  pub same_records : (u : Tree) → tree_of (result (simplified lim ed s l)) ≡ some u → arrives lim ed s l line table ≡ encode (erase u)
  pub same_answer : (simplified lim ed (arrives lim ed s l line table) l').answer ≡ again (simplified lim ed s l).answer
  pub same_bytes : result (simplified lim ed (arrives lim ed s l line table) l') ≡ arrives lim ed s l line table

-- whatever areas are lent for the text, for the records and to the second call, if they have room
abbrev pub TextTakesOver : ℕ → ℕ → Type 0
TextTakesOver lim ed =
    (s : List ℕ) → Bytes s → (l : Lent) → (simplified lim ed s l).answer.number ≡ 0
    → (line table : List ℕ) (l' : Lent) → let w = (simplified lim ed s l).answer.weight_out in
    21 * w ≤ length line → 16 * w ≤ length table → Room lim w l' → TextRepeats lim ed s l line table l'

-- ---- a result that comes over the link: the bytes that a receiver holds
unfoldable pub held_bytes : Held → List ℕ
held_bytes x = take x.state.count x.area

-- however it is cut, the finish accepts it, the result is what is held, and simplifying that is a takeover
pub record LinkRepeats (lim ed : ℕ) (s : List ℕ) (l : Lent) (x : Held) (l' : Lent) : Type 0 where
  pub accepts : finish_verdict lim x ≡ accepted
  pub same_table : held_bytes x ≡ result (simplified lim ed s l)
  pub repeats : Repeats (simplified lim ed s l) (simplified lim ed (held_bytes x) l')

abbrev pub LinkTakesOver : ℕ → ℕ → Type 0
LinkTakesOver lim ed =
    (s : List ℕ) → Bytes s → (l : Lent) → (simplified lim ed s l).answer.number ≡ 0
    → (area : List ℕ) → max_bytes lim ≤ length area → (ps : List (List ℕ)) → whole ps ≡ result (simplified lim ed s l)
    → (l' : Lent) → Room lim (simplified lim ed s l).answer.weight_out l' → LinkRepeats lim ed s l (received_all lim (fresh area) ps) l'

-- ---- a whole site: of answers, and of `out`, what a machine restores, the results of the accepted items end to end, with their lengths
unfoldable pub is_done : Answer → Bool
is_done x = eqb x.number 0

unfoldable pub restored : List ℕ → List ℕ → List Answer → List ℕ → List ℕ
restored [] s xs out = []
restored (n ∷ ns) s [] out = []
restored (n ∷ ns) s (x ∷ xs) out =
    cond (is_done x) (take (16 * x.records_written) out) [] ++ restored ns (drop n s) xs (drop (16 * used_up (take n s) x) out)

unfoldable pub restored_lengths : List Answer → List ℕ
restored_lengths [] = []
restored_lengths (x ∷ xs) = cond (is_done x) (16 * x.records_written ∷ restored_lengths xs) (restored_lengths xs)

-- what they weigh together
unfoldable pub restored_weight : List Answer → ℕ
restored_weight [] = 0
restored_weight (x ∷ xs) = cond (is_done x) x.weight_out 0 + restored_weight xs

-- the second answers, one for each accepted item
unfoldable pub again_each : List Answer → List Answer
again_each [] = []
again_each (x ∷ xs) = cond (is_done x) (again x ∷ again_each xs) (again_each xs)

-- the second site, of lengths ms with the tables t, repeats the answers xs, and what is restored of it is t again
pub record SiteRepeats (lim ed : ℕ) (xs : List Answer) (ms t : List ℕ) (m : Lent) : Type 0 where
  pub same_answers : (in_turn (simplified lim ed) ms t m).answers ≡ again_each xs
  pub same_bytes : restored ms t (in_turn (simplified lim ed) ms t m).answers (in_turn (simplified lim ed) ms t m).lent.out ≡ t

-- whatever areas the second call is lent, if they have room for all that is restored
abbrev pub SiteTakesOver : ℕ → ℕ → Type 0
SiteTakesOver lim ed =
    (ns s : List ℕ) → Bytes s → (l m : Lent) → let x = in_turn (simplified lim ed) ns s l in
    Room lim (restored_weight x.answers) m
    → SiteRepeats lim ed x.answers (restored_lengths x.answers) (restored ns s x.answers x.lent.out) m

-- (from C the answers are told by n places, one after the other)
unfoldable pub answers_in : ℕ → List ℕ → List Answer
answers_in zero s = []
answers_in (suc n) s = answer_in s ∷ answers_in n (drop place_bytes s)

-- ---- a formula that shares sub-formulas: the same definitions with another table
unfoldable pub with_table : Handed → List ℕ → Handed
with_table h s = record { table = s; symbols = h.symbols; lengths = h.lengths; definitions = h.definitions }

-- the result of an accepted call, handed to the same call with the same definitions: nothing is left to open, and the answer and the bytes are repeated
pub record SharedRepeats (lim ed : ℕ) (h : Handed) (area : List ℕ) (l : Lent) (area' : List ℕ) (l' : Lent) : Type 0 where
  pub repeats :
      let g = (shared_given lim ed h area l).given in
      Repeats g (shared_given lim ed (with_table h (result g)) area' l').given
  pub as_it_is :
      let r = result (shared_given lim ed h area l).given in
      (shared_given lim ed (with_table h r) area' l').area ≡ r ++ drop (length r) area'

abbrev pub SharedTakesOver : ℕ → ℕ → Type 0
SharedTakesOver lim ed =
    (h : Handed) → Bytes h.table → Bytes h.definitions → (area : List ℕ) (l : Lent) → (shared_given lim ed h area l).given.answer.number ≡ 0
    → (area' : List ℕ) (l' : Lent) → let w = (shared_given lim ed h area l).given.answer.weight_out in
    16 * w ≤ length area' → Room lim w l' → SharedRepeats lim ed h area l area' l'

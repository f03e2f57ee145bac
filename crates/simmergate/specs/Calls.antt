-- What each call from C promises, one record a call: `returns` is the number that it returns, `answers` its answer slice afterwards, and `leaves`,
-- or a name of its own, each other slice that it is lent to write to. Each part is an equation with a definition of the paper's crates, whatever
-- is handed in, so that together they give the return and every lent byte. A call of one part is that equation.
use Rattle.std.specs.Prelude.{ℕ, ◌≡◌, List}
use Rattle.std.specs.Borrow.{Bor, MutBor}
use denote.Triple.Both.{Both}
use Rattle.paper.specs.Answers.{Lent}
use Rattle.paper.specs.Calls.{check_returns, check_answers, weight_returns, weight_answers, value_returns, value_answers}
use Rattle.paper.specs.Calls.{equal_returns, equal_answers, simplify_returns, simplify_answers, simplify_leaves}
use Rattle.paper_batch.specs.Batch.{site_called}
use Rattle.paper_differ.specs.Calls.{differ_returns, differ_answers, differ_leaves}
use Rattle.paper_receiver.specs.Calls.{receive_returns, receive_record, receive_area, finish_returns, finish_record, finish_answers}
use Rattle.paper_settings.specs.Settings.{to_store, to_remove}
use Rattle.paper_settings.specs.Settings as settings
use Rattle.paper_settings.specs.Calls.{fetch_returns, fetch_answers, old_returns, old_answers}
use Rattle.paper_shared.specs.Answers.{Handed}
use Rattle.paper_shared.specs.Calls.{open_returns, open_answers, open_leaves, shared_returns, shared_answers, shared_leaves, shared_area}
use Rattle.paper_text.specs.Answers.{read_text_returns, read_text_answers, read_text_leaves, write_text_returns, write_text_answers, write_text_leaves}
use Rattle.simplify.specs.Answer.{lent}
use Rattle.batch.specs.Turn.{called}
use Rattle.replace.specs.Planned.{handed}
use Rattle.settings.specs.Shown.{stores_number}

-- ---- a slice that a call is lent to read, and the bytes that it holds; one that it is lent to write to, and the bytes that it holds as the call
-- begins and as it returns
abbrev pub Slice : Type 0
Slice = Both (Bor (List ℕ)) (Bor (List ℕ))

abbrev pub held : Slice → List ℕ
held s = s.entry.now

abbrev pub Area : Type 0
Area = Both (MutBor (List ℕ)) (MutBor (List ℕ))

abbrev pub before : Area → List ℕ
before s = s.entry.now

abbrev pub after : Area → List ℕ
after s = s.exit.now

-- the three areas of the simplifier, and a formula with its definitions
abbrev pub lent_before : Area → Area → Area → Lent
lent_before out steps work = lent (before out) (before steps) (before work)

abbrev pub lent_after : Area → Area → Area → Lent
lent_after out steps work = lent (after out) (after steps) (after work)

abbrev pub handed_in : Slice → Slice → Slice → Slice → Handed
handed_in table symbols lengths definitions = handed (held table) (held symbols) (held lengths) (held definitions)

-- ---- tables
pub record CheckCall (limit : ℕ) (table : Slice) (answer : Area) (r : ℕ) : Type 0 where
  pub returns : r ≡ check_returns limit (held table) (before answer)
  pub answers : after answer ≡ check_answers limit (held table) (before answer)

pub record WeightCall (limit : ℕ) (table : Slice) (answer : Area) (r : ℕ) : Type 0 where
  pub returns : r ≡ weight_returns limit (held table) (before answer)
  pub answers : after answer ≡ weight_answers limit (held table) (before answer)

pub record ValueCall (limit : ℕ) (table registers : Slice) (answer : Area) (r : ℕ) : Type 0 where
  pub returns : r ≡ value_returns limit (held table) (held registers) (before answer)
  pub answers : after answer ≡ value_answers limit (held table) (held registers) (before answer)

pub record EqualCall (limit : ℕ) (a b : Slice) (answer : Area) (r : ℕ) : Type 0 where
  pub returns : r ≡ equal_returns limit (held a) (held b) (before answer)
  pub answers : after answer ≡ equal_answers limit (held a) (held b) (before answer)

-- it leaves its three areas
pub record SimplifyCall (limit edition : ℕ) (table : Slice) (out steps work answer : Area) (r : ℕ) : Type 0 where
  pub returns : r ≡ simplify_returns limit edition (held table) (lent_before out steps work) (before answer)
  pub answers : after answer ≡ simplify_answers limit edition (held table) (lent_before out steps work) (before answer)
  pub leaves : lent_after out steps work ≡ simplify_leaves limit edition (held table) (lent_before out steps work) (before answer)

-- it leaves its list of pairs
pub record DifferCall (limit : ℕ) (a b : Slice) (list answer : Area) (r : ℕ) : Type 0 where
  pub returns : r ≡ differ_returns limit (held a) (held b) (before list) (before answer)
  pub answers : after answer ≡ differ_answers limit (held a) (held b) (before list) (before answer)
  pub leaves : after list ≡ differ_leaves limit (held a) (held b) (before list) (before answer)

-- a whole site: the return, its areas and its places for the answers are those of the definitions' call
abbrev pub BatchCall : (limit edition : ℕ) (tables lengths : Slice) (out steps work answers : Area) (r : ℕ) → Type 0
BatchCall limit edition tables lengths out steps work answers r =
    called r (after out) (after steps) (after work) (after answers)
    ≡ site_called limit edition (held tables) (held lengths) (lent_before out steps work) (before answers)

-- ---- text
-- it leaves its table
pub record ReadTextCall (limit : ℕ) (text : Slice) (table answer : Area) (r : ℕ) : Type 0 where
  pub returns : r ≡ read_text_returns limit (held text) (before table) (before answer)
  pub answers : after answer ≡ read_text_answers limit (held text) (before table) (before answer)
  pub leaves : after table ≡ read_text_leaves limit (held text) (before table) (before answer)

-- it leaves its text
pub record WriteTextCall (limit : ℕ) (table : Slice) (text answer : Area) (r : ℕ) : Type 0 where
  pub returns : r ≡ write_text_returns limit (held table) (before text) (before answer)
  pub answers : after answer ≡ write_text_answers limit (held table) (before text) (before answer)
  pub leaves : after text ≡ write_text_leaves limit (held table) (before text) (before answer)

-- ---- the serial link: each keeps the link task's record
-- it leaves its area
pub record ReceiveCall (limit : ℕ) (state area : Area) (piece : Slice) (r : ℕ) : Type 0 where
  pub returns : r ≡ receive_returns limit (before state) (before area) (held piece)
  pub keeps : after state ≡ receive_record limit (before state) (before area) (held piece)
  pub leaves : after area ≡ receive_area limit (before state) (before area) (held piece)

pub record FinishCall (limit : ℕ) (state : Area) (area : Slice) (answer : Area) (r : ℕ) : Type 0 where
  pub returns : r ≡ finish_returns limit (before state) (held area) (before answer)
  pub keeps : after state ≡ finish_record limit (before state) (held area) (before answer)
  pub answers : after answer ≡ finish_answers limit (before state) (held area) (before answer)

-- ---- settings: of a store and a remove the return and the area are those of the definitions' call
abbrev pub StoreCall : (area : Area) (key setting unit : ℕ) (r : ℕ) → Type 0
StoreCall area key setting unit r = stores_number r (after area) ≡ settings.called (to_store key setting unit) (before area)

abbrev pub RemoveCall : (area : Area) (key : ℕ) (r : ℕ) → Type 0
RemoveCall area key r = stores_number r (after area) ≡ settings.called (to_remove key) (before area)

pub record FetchCall (area : Slice) (key : ℕ) (answer : Area) (r : ℕ) : Type 0 where
  pub returns : r ≡ fetch_returns key (held area) (before answer)
  pub answers : after answer ≡ fetch_answers key (held area) (before answer)

-- as the old release does
pub record OldFetchCall (area : Slice) (key : ℕ) (answer : Area) (r : ℕ) : Type 0 where
  pub returns : r ≡ old_returns key (held area) (before answer)
  pub answers : after answer ≡ old_answers key (held area) (before answer)

-- ---- shared sub-formulas
-- it leaves the area for the opened table
pub record OpenCall (limit : ℕ) (table symbols lengths definitions : Slice) (opened answer : Area) (r : ℕ) : Type 0 where
  pub returns : r ≡ open_returns limit (handed_in table symbols lengths definitions) (before opened) (before answer)
  pub answers : after answer ≡ open_answers limit (handed_in table symbols lengths definitions) (before opened) (before answer)
  pub leaves : after opened ≡ open_leaves limit (handed_in table symbols lengths definitions) (before opened) (before answer)

-- it opens in that area, and leaves the three areas of the simplifier
pub record SharedCall (limit edition : ℕ) (table symbols lengths definitions : Slice) (opened out steps work answer : Area) (r : ℕ) : Type 0 where
  pub returns : r
      ≡ shared_returns limit edition (handed_in table symbols lengths definitions) (before opened) (lent_before out steps work) (before answer)
  pub answers : after answer
      ≡ shared_answers limit edition (handed_in table symbols lengths definitions) (before opened) (lent_before out steps work) (before answer)
  pub opens : after opened
      ≡ shared_area limit edition (handed_in table symbols lengths definitions) (before opened) (lent_before out steps work) (before answer)
  pub leaves : lent_after out steps work
      ≡ shared_leaves limit edition (handed_in table symbols lengths definitions) (before opened) (lent_before out steps work) (before answer)

-- Text and link on machines at the two limits, as paper's OldMachine has it of tables: of any text and of any pieces, not of results alone. Up to the
-- old limit both answer alike; beyond it the machine at the old limit refuses, by 3 or by 1 and 3.
use Rattle.std.specs.Prelude.{ℕ, ◌%◌, ◌≤◌, ◌<◌, ◌≡◌, List, length}
use Rattle.std.proofs.Math.Option.{some}
use Rattle.paper.specs.Limits.{max_bytes}
use Rattle.paper.specs.Tree.{Tree, weight}
use Rattle.paper.specs.Verdict.{refused, records_in, table_weight}
use Rattle.paper.specs.Refusals.{Flawed}
use Rattle.paper.specs.OldMachine.{old, higher, UpToOld}
use Rattle.paper_text.specs.Text.{read_text}
use Rattle.paper_text.specs.Answers.{write_given, read_given}
use Rattle.paper_receiver.specs.Receiver.{fresh, finish_verdict, received_all, whole}
use Rattle.paper_takeover.specs.TakenOver.{held_bytes}

-- the formula of a text, where it has one, is up to the old limit
abbrev pub TextUpToOld : List ℕ → Type 0
TextUpToOld s = (t : Tree) → read_text s ≡ some t → weight t ≤ old

pub record SameText : Type 0 where
  -- the same answer and the same area, refused or not
  pub read_alike : (s area : List ℕ) → TextUpToOld s → read_given old s area ≡ read_given higher s area
  pub written_alike : (s area : List ℕ) → UpToOld s → write_given old s area ≡ write_given higher s area
  pub read_too_heavy : (s area : List ℕ) (t : Tree) → read_text s ≡ some t → old < weight t
      → read_given old s area ≡ record { answer = record { number = 3; place = 0; records_written = 0 }; area = area }

-- pieces that come to an empty receiver in each machine's own area: the finish, and the bytes that are held
module _ (ps : List (List ℕ)) (area : List ℕ) (room : max_bytes old ≤ length area) where
  abbrev pub FinishAlike : Type 0
  FinishAlike =
      UpToOld (whole ps) → (area' : List ℕ) → max_bytes higher ≤ length area'
      → (finish_verdict old (received_all old (fresh area) ps) ≡ finish_verdict higher (received_all higher (fresh area') ps))
      × (held_bytes (received_all old (fresh area) ps) ≡ whole ps) × (held_bytes (received_all higher (fresh area') ps) ≡ whole ps)

  abbrev pub FinishTooLong : Type 0
  FinishTooLong = max_bytes old < length (whole ps) → finish_verdict old (received_all old (fresh area) ps) ≡ refused 1 0

  abbrev pub FinishTooHeavy : Type 0
  FinishTooHeavy =
      let s = whole ps in
      0 < length s → length s % 16 ≡ 0 → length s ≤ max_bytes old → ((i : ℕ) → i < records_in s → ¬ Flawed s i) → old < table_weight s
      → finish_verdict old (received_all old (fresh area) ps) ≡ refused 3 0

pub record SameLink (ps : List (List ℕ)) (area : List ℕ) (room : max_bytes old ≤ length area) : Type 0 where
  pub finish_alike : FinishAlike ps area room
  pub finish_too_long : FinishTooLong ps area room
  pub finish_too_heavy : FinishTooHeavy ps area room

-- Text and link at the two limits: the reader asks for the limit in one test, the writer and the finish by the checker alone, and the checker agrees up
-- to the old limit and refuses beyond it (paper's OldMachine).
use Prim.Native.Nat.{ℕ, ◌≤◌, ◌<◌}
use mathlib.Core.Path.{◌≡◌, refl, sym, ◌∙◌}
use mathlib.Core.List.{List}
use mathlib.Core.Option.{Option, none, some}
use native.Mathlib.Omega.{arith}
use lib.ListN.{length}
use borrow.Author.Tests.{le-ltb, lt-ltb}
use Rattle.paper.specs.Limits.{is_limit, max_bytes}
use Rattle.paper.specs.Tree.{Tree, weight}
use Rattle.paper.specs.Verdict.{is_accepted}
use Rattle.paper.specs.OldMachine.{old, higher, UpToOld}
use Rattle.paper.proofs.OldMachine.{limits_agree, old_too_long, old_too_heavy}
use Rattle.paper_text.specs.Text.{read_text}
use Rattle.paper_text.specs.Answers.{taken, area_after, read_judged, read_verdict, read_answer, read_given, write_verdict, write_answer, write_given}
use Rattle.paper_receiver.proofs.ReceiverLaws.{answer_whole}
use Rattle.paper_takeover.specs.OldOver.{TextUpToOld, SameText, SameLink}
use Rattle.paper_takeover.proofs.LinkTaken.{held_whole}

-- the two verdicts of the reader
read_verdicts : (o : Option Tree) (area : List ℕ) → ((t : Tree) → o ≡ some t → weight t ≤ old) → read_verdict old o area ≡ read_verdict higher o area
unfolding read_verdict read_judged is_limit
read_verdicts none area h = refl
read_verdicts (some t) area h = let l = h t refl in rw (le-ltb 3072 (weight t) l, le-ltb 16384 (weight t) (omega (arith, l)))

reads_alike : (s area : List ℕ) → TextUpToOld s → read_given old s area ≡ read_given higher s area
unfolding read_given read_answer
reads_alike s area h = rw (read_verdicts (read_text s) area h)

writes_alike : (s area : List ℕ) → UpToOld s → write_given old s area ≡ write_given higher s area
unfolding write_given write_answer write_verdict
writes_alike s area h = rw (limits_agree s h).0

reads_three : (s area : List ℕ) (t : Tree) → read_text s ≡ some t → old < weight t
    → read_given old s area ≡ record { answer = record { number = 3; place = 0; records_written = 0 }; area = area }
unfolding read_given read_answer read_verdict read_judged taken area_after is_accepted is_limit
reads_three s area t e h = rw (e, lt-ltb 3072 (weight t) h)

pub same_text : SameText
same_text = record { read_alike = reads_alike; written_alike = writes_alike; read_too_heavy = reads_three }

pub same_link : (ps : List (List ℕ)) (area : List ℕ) (room : max_bytes old ≤ length area) → SameLink ps area room
unfolding is_limit
same_link ps area room =
    let lower = answer_whole old area ps room in
    record {
      finish_alike = λ h area' room'. (
        lower ∙ (limits_agree _ h).0 ∙ sym (answer_whole higher area' ps room'),
        held_whole old refl area room ps h.0,
        held_whole higher refl area' room' ps (let l = h.0 in omega (arith, l)),
      );
      finish_too_long = λ h. lower ∙ old_too_long _ h;
      finish_too_heavy = λ p m short flawless heavy. lower ∙ old_too_heavy _ p m short flawless heavy;
    }

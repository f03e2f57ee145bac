-- The limits in figures hold: of weight and areas by the laws of the verdict and of the judgement, of the registers by computation.
use Prim.Native.Nat.{ℕ, ◌+◌, ◌≤◌, ◌<◌}
use mathlib.Core.Path.{◌≡◌, refl}
use mathlib.Core.Bool.{true}
use mathlib.Core.List.{List}
use native.Mathlib.Omega.{arith}
use native.Mathlib.Nat.{ne_of_gt}
use lib.ListN.{length}
use borrow.Author.Tests.{le-ltb, lt-ltb, ne_eqb}
use Rattle.paper.specs.Limits.{is_limit, work_bytes}
use Rattle.paper.specs.Tree.{Tree, records, weight}
use Rattle.paper.specs.WellFormed.{WF}
use Rattle.paper.specs.Record.{weight_from}
use Rattle.paper.specs.Table.{encode}
use Rattle.paper.specs.Verdict.{accepted, refused, is_accepted, records_in, first_flawed, table_weight, judge_records, judged_table, verdict}
use Rattle.paper.specs.Rules.{is_edition}
use Rattle.paper.specs.Answers.{Lent, cramped, judged_call, judgement}
use Rattle.paper.specs.Refusals.{Under, out_under, steps_under, work_under}
use Rattle.paper.specs.Takeover.{Room}
use Rattle.paper.specs.Bounds.{Weights, Rooms, AtBoth, Cramped, RegisterBytes}
use Rattle.paper.proofs.Computes.{answers_compute}
use Rattle.paper.proofs.EncodeLaws.{encode_length, records_pos}
use Rattle.paper.proofs.Stands.{stands_whole}
use Rattle.paper.proofs.FirstLaws.{All, no_flaw}
use Rattle.paper.proofs.LimitLaws.{limit_small}
use Rattle.paper.proofs.VerdictLaws.{Fine, good_length}
use Rattle.paper.proofs.TableLaws.{records_written, encode_weight, fine_there, written_accepted}
use Rattle.paper.proofs.CallLaws.{accepted_judgement}
use Rattle.paper.proofs.JudgementLaws.{words_cramped, of_room}

module _ (lim : ℕ) (limited : is_limit lim ≡ true) where
  weight_over : (t : Tree) → WF t → lim < weight t → records t ≤ lim → verdict lim (encode t) ≡ refused 3 0
  unfolding verdict judged_table judge_records table_weight
  weight_over t w h r =
      let p = records_pos t in
      let few = limit_small lim limited in
      let n = records_in (encode t) in
      let e : n ≡ records t = records_written t in
      let f : All (Fine (encode t) n) 0 (0 + records t) = fine_there t (encode t) n 0 (stands_whole (encode t)) w (omega arith) (omega arith) in
      let flawless : first_flawed (encode t) 0 n ≡ n = no_flaw (encode t) n (λ j a b. (f j a (omega arith)).0) in
      let heavy : weight_from (encode t) 0 n ≡ weight t = encode_weight t in
      rw (
        limited,
        good_length lim (length (encode t)) (rw (encode_length t) (record { positive = omega arith; sixteens = omega arith; short = omega arith })),
        flawless,
        le-ltb n n (omega arith),
        heavy,
        lt-ltb lim (weight t) h,
      )

  weights_at : Weights lim
  weights_at = record { at_most = written_accepted lim limited; over = weight_over }

  module _ (ed : ℕ) (known : is_edition ed ≡ true) (s : List ℕ) (l : Lent) (v : verdict lim s ≡ accepted) where
    -- any of the words of 6 is given as 6
    under : Under lim (table_weight s) l → judgement lim ed s l ≡ refused 6 0
    unfolding judgement judged_call is_accepted
    under u = rw (limited, known, v, words_cramped lim (table_weight s) l u) refl

    enough : Room lim (table_weight s) l → judgement lim ed s l ≡ accepted
    enough r = accepted_judgement lim ed s l limited known v (of_room lim (table_weight s) l r)

  table_first : (ed : ℕ) → is_edition ed ≡ true → (s : List ℕ) (l : Lent) → 0 < (verdict lim s).number → judgement lim ed s l ≡ verdict lim s
  unfolding judgement judged_call is_accepted
  table_first ed known s l h = rw (limited, known, ne_eqb (verdict lim s).number 0 (ne_of_gt h)) refl

  rooms_at : Rooms lim (work_bytes lim)
  rooms_at = record {
    room = λ ed k s l v o t w. enough ed k s l v (record { out_room = o; steps_room = t; work_room = w });
    out_under = λ ed k s l v h. under ed k s l v (out_under h);
    steps_under = λ ed k s l v h. under ed k s l v (steps_under h);
    work_under = λ ed k s l v h. under ed k s l v (work_under h);
    table_first = table_first;
  }

pub at_both : AtBoth
unfolding is_limit work_bytes
at_both = record { weights = (weights_at 3072 refl, weights_at 16384 refl); rooms = (rooms_at 3072 refl, rooms_at 16384 refl) }

pub crampeds : Cramped
unfolding cramped work_bytes
crampeds = record {
  out_31 = λ steps work. refl;
  steps_1 = λ work. refl;
  work_65535 = λ work e. rw e refl;
  work_65536 = λ work e. rw e refl;
  work_524287 = λ work e. rw e refl;
  work_524288 = λ work e. rw e refl;
}

pub register_bytes_lem : RegisterBytes
unfolding answers_compute
register_bytes_lem = record { one_fewer = refl; exactly = refl; one_more = refl }

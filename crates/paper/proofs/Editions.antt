-- Edition one answers as before: its judgement is that of 1 to 6, and its run is the driver's over the rules of document 01. Edition two
-- is judged alike, and its run is the driver's over those rules and the three on powers. An unknown edition is refused with 9 whatever else
-- is handed in, and changes no lent byte; so is another limit with 19, before all others.
use Prim.Native.Nat.{ℕ}
use mathlib.Core.Path.{◌≡◌, refl}
use mathlib.Core.Bool.{true, false}
use mathlib.Core.List.{List}
use Rattle.paper.specs.Limits.{is_limit}
use Rattle.paper.specs.Verdict.{refused, is_accepted, verdict}
use Rattle.paper.specs.Rules.{edition_one, edition_two, is_edition, rules_of}
use Rattle.paper.specs.Driver.{simplify}
use Rattle.paper.specs.Answers.{Lent, measured, weighed, registers_verdict, valued, turned_down_compared, compared, refusal, judged_call, judgement, outcome_of}
use Rattle.paper.specs.Answers.{answer_of, out_after, steps_after, work_after, lent_after, simplified_by, simplified}

module _ (lim : ℕ) (limited : is_limit lim ≡ true) (s : List ℕ) (l : Lent) where
  pub edition_one_same : (judgement lim 1 s l ≡ judged_call lim s l) × (simplified lim 1 s l ≡ simplified_by lim 1 (simplify edition_one) s l)
  unfolding judgement simplified is_edition rules_of
  edition_one_same = (rw limited, refl)

  pub edition_two_alike : (judgement lim 2 s l ≡ judged_call lim s l) × (simplified lim 2 s l ≡ simplified_by lim 2 (simplify edition_two) s l)
  unfolding judgement simplified is_edition rules_of
  edition_two_alike = (rw limited, refl)

  pub unknown_edition : (ed : ℕ) → is_edition ed ≡ false → simplified lim ed s l ≡ record { answer = refusal 9 0; lent = l }
  unfolding simplified simplified_by outcome_of judgement is_accepted answer_of lent_after out_after steps_after work_after
  unknown_edition ed e = rw (limited, e)

-- "another limit is 19, before all others": every call, whatever else it is handed
module _ (lim : ℕ) (other : is_limit lim ≡ false) where
  pub another_limit : (ed : ℕ) (s : List ℕ) (l : Lent) → simplified lim ed s l ≡ record { answer = refusal 19 0; lent = l }
  unfolding simplified simplified_by outcome_of judgement is_accepted answer_of lent_after out_after steps_after work_after
  another_limit ed s l = rw other

  pub another_limit_checked : (s : List ℕ) → verdict lim s ≡ refused 19 0
  unfolding verdict
  another_limit_checked s = rw other

  pub another_limit_weighed : (s : List ℕ) → weighed lim s ≡ measured (refused 19 0) 0
  unfolding weighed measured verdict is_accepted
  another_limit_weighed s = rw other

  pub another_limit_valued : (s regs : List ℕ) → valued lim s regs ≡ measured (refused 19 0) 0
  unfolding valued registers_verdict measured verdict is_accepted
  another_limit_valued s regs = rw other

  -- neither table is to blame
  pub another_limit_compared : (a b : List ℕ) → compared lim a b ≡ turned_down_compared (refused 19 0) 0
  unfolding compared
  another_limit_compared a b = rw other

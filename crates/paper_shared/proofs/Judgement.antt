-- The two calls answer as they are judged: the way through the tests ends in a refusal, or in the opened tree, and there the test of the areas
-- decides.
use Prim.Native.Nat.{ℕ, ◌≤◌}
use mathlib.Core.Path.{◌≡◌, refl, ap, ◌∙◌}
use mathlib.Core.Bool.{Bool, true, false, cond, ◌||◌}
use mathlib.Core.List.{List, ◌++◌}
use mathlib.Core.Option.{some}
use native.Mathlib.Omega.{arith}
use lib.Dec.{lit≤}
use lib.ListN.{length, drop}
use Rattle.paper.specs.Record.{sound}
use Rattle.paper.specs.Tree.{Tree, weight, records}
use Rattle.paper.specs.Table.{encode}
use Rattle.paper.specs.Verdict.{Verdict, accepted, refused}
use Rattle.paper.specs.Limits.{is_limit}
use Rattle.paper.specs.Rules.{is_edition}
use Rattle.paper.specs.Answers.{Lent, cramped, simplified}
use Rattle.paper.proofs.Refusals.{faulty_within}
use Rattle.paper.proofs.CallLaws.{same_tree}
use Rattle.paper_shared.specs.Answers.{Handed, opened_of, Opening, turned_away, opens, judged_site, opening, opening_by, verdict_on, no_room, open_verdict}
use Rattle.paper_shared.specs.Answers.{holding, OpenGiven, unopened, open_of, open_given, SharedGiven, unshared, shared_of, shared_verdict, shared_given}
use Rattle.paper_shared.specs.Demands.{OpensAsJudged, SharesAsJudged}
use Rattle.paper_shared.proofs.Words.{why}
use Rattle.paper_shared.proofs.Refusals.{Judged, judged, by_8, by_formula, by_15, by_16, by_17, by_18, through}

-- what a way through the tests ends in
abbrev Ends : Handed → Opening → Type 0
Ends h (turned_away v) = 1 ≤ v.number
Ends h (opens v) = opened_of h ≡ some v

ends : (lim : ℕ) (h : Handed) → is_limit lim ≡ true → (o : Opening) → Judged lim h o → Ends h o
ends lim h n (turned_away v) (by_8 m) = lit≤ tt
ends lim h n (turned_away v) (by_formula m r) = (faulty_within (why lim h.table n r).0.given).0
ends lim h n (turned_away v) (by_15 p a) = lit≤ tt
ends lim h n (turned_away v) (by_16 p a c) = lit≤ tt
ends lim h n (turned_away v) (by_17 p c) = lit≤ tt
ends lim h n (turned_away v) (by_18 p s w) = lit≤ tt
ends lim h n (opens v) (through p s w) = s

ends_at : (lim : ℕ) (h : Handed) → Ends h (opening lim h)
unfolding opening
ends_at lim h = go (is_limit lim) refl
  where
    go : (b : Bool) → is_limit lim ≡ b → Ends h (cond b (judged_site lim h) (turned_away (refused 19 0)))
    go true n = ends lim h n (judged_site lim h) (judged lim h)
    go false n = lit≤ tt

ends_by : (lim ed : ℕ) (h : Handed) → Ends h (opening_by lim ed h)
unfolding opening_by
ends_by lim ed h = go (is_limit lim) refl (is_edition ed)
  where
    go : (b : Bool) → is_limit lim ≡ b → (c : Bool)
        → Ends h (cond b (cond c (judged_site lim h) (turned_away (refused 9 0))) (turned_away (refused 19 0)))
    go true n true = ends lim h n (judged_site lim h) (judged lim h)
    go true n false = lit≤ tt
    go false n c = lit≤ tt

not_accepted : {v : Verdict} → 1 ≤ v.number → v ≡ accepted → ⊥
not_accepted l e = let n = ap (λ (v : Verdict). v.number) e in omega arith

-- what is given, by whether an area is too short: G of a refusal, or g of a tree
module _ {A : Type 0} (h : Handed) (short : ℕ → Bool) (G : Verdict → A) (g : Tree → A) where
  given : Opening → A
  given (turned_away v) = G v
  given (opens v) = cond (short (weight v)) (G (refused 6 0)) (g v)

  as_refused : (o : Opening) → 1 ≤ (verdict_on short o).number → given o ≡ G (verdict_on short o)
  unfolding verdict_on given
  as_refused (turned_away v) n = refl
  as_refused (opens v) n = go (short (weight v)) n
    where
      go : (b : Bool) → 1 ≤ (cond b (refused 6 0) accepted).number → cond b (G (refused 6 0)) (g v) ≡ G (cond b (refused 6 0) accepted)
      go true n = refl
      go false n = absurd (omega arith)

  as_opened : (o : Opening) → Ends h o → verdict_on short o ≡ accepted → (v : Tree) → opened_of h ≡ some v → given o ≡ g v
  unfolding verdict_on given
  as_opened (turned_away u) e q v s = absurd (not_accepted e q)
  as_opened (opens u) e q v s = go (short (weight u)) q
    where
      go : (b : Bool) → cond b (refused 6 0) accepted ≡ accepted → cond b (G (refused 6 0)) (g u) ≡ g v
      go true q = absurd (not_accepted (lit≤ tt) q)
      go false q = ap g (same_tree e s)

-- ---- the call that opens
module _ (lim : ℕ) (h : Handed) (area : List ℕ) where
  table_of : Tree → OpenGiven
  table_of v =
      record {
        answer = record { number = 0; place = 0; flaw = sound; records_written = records v; opened_weight = weight v };
        area = encode v ++ drop (length (encode v)) area;
      }

  open_given_lem : (o : Opening) → open_of o area ≡ given h (no_room area) (λ v. unopened v area) table_of o
  unfolding open_of given table_of holding
  open_given_lem (turned_away v) = refl
  open_given_lem (opens v) = refl

  pub opens_as_judged : OpensAsJudged lim h area
  unfolding open_verdict open_given unopened table_of
  opens_as_judged = record {
    refuses = λ n. open_given_lem (opening lim h) ∙ as_refused h (no_room area) (λ v. unopened v area) table_of (opening lim h) n;
    opens = λ q v s. open_given_lem (opening lim h) ∙ as_opened h (no_room area) (λ v. unopened v area) table_of (opening lim h) (ends_at lim h) q v s;
  }

-- ---- the call that opens and simplifies
module _ (lim ed : ℕ) (h : Handed) (area : List ℕ) (l : Lent) where
  simplified_of : Tree → SharedGiven
  simplified_of v = record { given = simplified lim ed (encode v) l; area = encode v ++ drop (length (encode v)) area }

  short : ℕ → Bool
  short w = no_room area w || cramped lim w l

  shared_given_lem : (o : Opening) → shared_of lim ed o area l ≡ given h short (λ v. unshared v area l) simplified_of o
  unfolding shared_of given simplified_of holding short
  shared_given_lem (turned_away v) = refl
  shared_given_lem (opens v) = refl

  pub shares_as_judged : SharesAsJudged lim ed h area l
  unfolding shared_verdict shared_given unshared simplified_of short
  shares_as_judged = record {
    refuses = λ n. shared_given_lem (opening_by lim ed h) ∙ as_refused h short (λ v. unshared v area l) simplified_of (opening_by lim ed h) n;
    opens = λ q v s. shared_given_lem (opening_by lim ed h) ∙ as_opened h short (λ v. unshared v area l) simplified_of (opening_by lim ed h)
        (ends_by lim ed h) q v s;
  }

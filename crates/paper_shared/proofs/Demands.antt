-- Where a shared formula is simplified, the run is the simplifier's on the table of the opened tree, so what the simplifier meets holds of it:
-- demand 3, the bound on the tries and the takeover, by citation; and the value is that of the formula itself where the registers hold
-- the values of the definitions reached.
use Prim.Native.Nat.{ℕ, ◌+◌, ◌*◌, ◌≤◌}
use mathlib.Core.Path.{◌≡◌, refl, sym, ap, ◌∙◌, subst}
use mathlib.Core.Bool.{Bool, true, false, cond, ◌||◌}
use mathlib.Core.List.{List}
use mathlib.Core.Option.{some, some-injective}
use native.Mathlib.Omega.{arith}
use Rattle.paper.specs.Limits.{is_limit}
use Rattle.paper.specs.Bytes.{Bytes}
use Rattle.paper.specs.Tree.{Tree, weight, value}
use Rattle.paper.specs.WellFormed.{WF}
use Rattle.paper.specs.Table.{encode, tree_of}
use Rattle.paper.specs.Verdict.{refused}
use Rattle.paper.specs.Rules.{is_edition, rules_of}
use Rattle.paper.specs.Admits.{AdmitsNone}
use Rattle.paper.specs.Answers.{Lent, Answer, Given, cramped, refused_by, ran_answer, simplified}
use Rattle.paper.specs.Demands.{result}
use Rattle.paper.specs.Takeover.{Room, Repeats}
use Rattle.paper.proofs.LimitLaws.{limit_small}
use Rattle.paper.proofs.Refusals.{faulty_within}
use Rattle.paper.proofs.EncodeLaws.{encode_bytes}
use Rattle.paper.proofs.ReadLaws.{tree_of_written}
use Rattle.paper.proofs.CallLaws.{same_tree}
use Rattle.paper.proofs.DemandLaws.{simplified_meets, call_done}
use Rattle.paper.proofs.Squared.{simplified_squared}
use Rattle.paper.proofs.Takeover.{takeover}
use Rattle.paper_shared.specs.Shared.{NoneLeft}
use Rattle.paper_shared.specs.Answers.{Handed, tree_in, definitions_of, opened_of, Opening, turned_away, opens, judged_site, opening_by, no_room, holding}
use Rattle.paper_shared.specs.Answers.{unshared, shared_of, shared_given}
use Rattle.paper_shared.specs.Demands.{Meets, TakenOver, SquaredOpened}
use Rattle.paper_shared.proofs.SharedLaws.{opened_value}
use Rattle.paper_shared.proofs.OpenedLaws.{told_of, opened_none_left}
use Rattle.paper_shared.proofs.Words.{why}
use Rattle.paper_shared.proofs.Refusals.{Past16, Judged, judged, by_8, by_formula, by_15, by_16, by_17, by_18, through}
use Rattle.paper_shared.proofs.Tables.{opened_is_wf}

-- a call without a refusal: the tree is opened, and the simplifier runs on its table
pub record Went (lim ed : ℕ) (h : Handed) (area : List ℕ) (l : Lent) : Type 0 where
  pub known : is_limit lim ≡ true
  pub tree : Tree
  pub past : Past16 lim h
  pub is_opened : opened_of h ≡ some tree
  pub light : weight tree ≤ lim
  pub given : (shared_given lim ed h area l).given ≡ simplified lim ed (encode tree) l
  pub holds : (shared_given lim ed h area l).area ≡ holding tree area

module _ (lim ed : ℕ) (h : Handed) (area : List ℕ) (l : Lent) where
  given_of : Opening → Given
  given_of o = (shared_of lim ed o area l).given

  went_as : is_limit lim ≡ true → (o : Opening) → opening_by lim ed h ≡ o → Judged lim h o → (given_of o).answer.number ≡ 0 → Went lim ed h area l
  unfolding given_of shared_of unshared refused_by shared_given
  went_as n (turned_away v) e (by_8 m) z = absurd (omega arith)
  went_as n (turned_away v) e (by_formula m r) z = absurd (let k = (faulty_within (why lim h.table n r).0.given).0 in omega (arith, z))
  went_as n (turned_away v) e (by_15 p a) z = absurd (omega arith)
  went_as n (turned_away v) e (by_16 p a c) z = absurd (omega arith)
  went_as n (turned_away v) e (by_17 p c) z = absurd (omega arith)
  went_as n (turned_away v) e (by_18 p s w) z = absurd (omega arith)
  went_as n (opens v) e (through p s w) z = go (no_room area (weight v) || cramped lim (weight v) l) refl z
    where
      go : (b : Bool) → (no_room area (weight v) || cramped lim (weight v) l) ≡ b
          → (cond b (unshared (refused 6 0) area l) (record { given = simplified lim ed (encode v) l; area = holding v area })).given.answer.number ≡ 0
          → Went lim ed h area l
      go true q z = absurd (omega arith)
      go false q z = record { known = n; tree = v; past = p; is_opened = s; light = w; given = rw (e, q); holds = rw (e, q) }

  pub went : (shared_given lim ed h area l).given.answer.number ≡ 0 → Went lim ed h area l
  unfolding shared_given given_of opening_by shared_of unshared refused_by
  went z = go (is_limit lim) refl (is_edition ed) refl z
    where
      go : (b : Bool) → is_limit lim ≡ b → (c : Bool) → is_edition ed ≡ c
          → (shared_of lim ed (cond b (cond c (judged_site lim h) (turned_away (refused 9 0))) (turned_away (refused 19 0))) area l).given.answer.number ≡ 0
          → Went lim ed h area l
      go true n true e z = went_as n (judged_site lim h) (rw (n, e)) (judged lim h) z
      go true n false e z = absurd (omega arith)
      go false n c e z = absurd (omega arith)

  module _ (b : Bytes h.table) (d : Bytes h.definitions) (z : (shared_given lim ed h area l).given.answer.number ≡ 0) where
    w : Went lim ed h area l
    w = went z

    opened_fine : WF w.tree
    opened_fine =
        opened_is_wf lim h (record { known = w.known; bytes = d; met = w.past.past.met; fine = w.past.all_fine }) b
        w.past.past.fine w.tree w.is_opened

    number_0 : (simplified lim ed (encode w.tree) l).answer.number ≡ 0
    number_0 = sym (ap (λ (g : Given). g.answer.number) w.given) ∙ z

    read_in : tree_of (encode w.tree) ≡ some w.tree
    read_in = tree_of_written w.tree opened_fine (let a = w.light in let b = limit_small lim w.known in omega arith)

    pub shared_demands : Meets lim ed h area l
    unfolding opened_of ran_answer
    shared_demands =
        let s = encode w.tree in
        let i = encode_bytes w.tree in
        let m = simplified_meets lim ed in
        let c = call_done lim ed s i l number_0 in
        let x = m.lightens s i l number_0 w.tree read_in in
        let t = m.bounded s i l number_0 w.tree read_in in
        let y = m.finishes s i l number_0 w.tree read_in in
        let v = m.keeps_value s i l number_0 w.tree read_in in
        record {
          opened_tree = w.tree;
          is_opened = w.is_opened;
          none_left = told_of (NoneLeft (definitions_of h)) (opened_of h) w.tree w.is_opened (opened_none_left (definitions_of h) (tree_in h.table));
          weighs =
              ap (λ (g : Given). g.answer.weight_in) w.given ∙ ap (λ (a : Answer). a.weight_in) c.answer
              ∙ ap weight (same_tree c.holds.read read_in);
          tree_out = x.0;
          read_back = ap (λ (g : Given). tree_of (result g)) w.given ∙ x.1;
          lightens = subst (λ (g : Given). g.answer.steps_taken + g.answer.openings + weight x.0 ≤ weight w.tree) (sym w.given) x.2;
          bounded = subst (λ (g : Given). g.answer.tries ≤ weight w.tree * (weight w.tree * weight w.tree)) (sym w.given) t.2;
          finishes = subst (λ (u : Tree). AdmitsNone (rules_of ed) u) (same_tree y.1 x.1) y.2;
          keeps_value = λ ρ k.
              ap (λ (u : Tree). value u ρ) (same_tree x.1 v.1) ∙ v.2 ρ
              ∙ told_of (λ (u : Tree). value u ρ ≡ value (tree_in h.table) ρ) (opened_of h) w.tree w.is_opened
              (opened_value (definitions_of h) (tree_in h.table) ρ k);
        }

    pub shared_squared : SquaredOpened lim ed h area l
    shared_squared v e =
        let x = simplified_squared lim ed (encode w.tree) (encode_bytes w.tree) l number_0 w.tree read_in in
        let a : (shared_given lim ed h area l).given.answer.tries ≤ weight w.tree * weight w.tree = rw w.given x.2 in
        subst (λ (u : Tree). (shared_given lim ed h area l).given.answer.tries ≤ weight u * weight u)
        (some-injective w.tree v (sym w.is_opened ∙ e)) a

    pub shared_takes_over : TakenOver lim ed h area l
    shared_takes_over l' room =
        subst (λ (g : Given). Repeats g (simplified lim ed (result g) l')) (sym w.given)
        (takeover lim ed (encode w.tree) (encode_bytes w.tree) l number_0 l'
        (subst (λ (g : Given). Room lim g.answer.weight_out l') w.given room))

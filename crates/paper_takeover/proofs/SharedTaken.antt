-- A formula that shares sub-formulas, simplified: no defined symbol is left in the opened tree, and no rule brings one in, so none stands in the
-- result. Opened with the same definitions it is itself, and the run on it is the simplifier's takeover (paper_shared).
use Prim.Native.Nat.{ℕ, zero, suc, ◌*◌, ◌≤◌}
use mathlib.Core.Path.{◌≡◌, refl, sym, ap, ◌∙◌, subst}
use mathlib.Core.Bool.{false}
use mathlib.Core.List.{List, ◌++◌}
use mathlib.Core.Logic.{inl, inr}
use mathlib.Core.Option.{Option, none, some}
use native.Mathlib.Omega.{arith}
use borrow.Author.Tests.{le-ltb}
use lib.ListN.{length, drop}
use Rattle.paper.specs.Bytes.{Bytes}
use Rattle.paper.specs.Tree.{Tree, Forest, integer, symbol, sum, product, power, nil, cons, weight}
use Rattle.paper.specs.Table.{encode, tree_of}
use Rattle.paper.specs.Verdict.{Verdict, is_accepted, verdict}
use Rattle.paper.specs.Answers.{Lent, Answer, Given, cramped, ran_answer, simplified}
use Rattle.paper.specs.Demands.{result}
use Rattle.paper.specs.Takeover.{Room, Repeats}
use Rattle.paper.proofs.LimitLaws.{limit_small}
use Rattle.paper.proofs.EncodeLaws.{encode_bytes}
use Rattle.paper.proofs.TableLaws.{written_accepted}
use Rattle.paper.proofs.ReadLaws.{tree_of_written}
use Rattle.paper.proofs.CallLaws.{judgement_accepted, same_tree}
use Rattle.paper.proofs.JudgementLaws.{of_room}
use Rattle.paper.proofs.DemandLaws.{Done, call_done}
use Rattle.paper_shared.specs.Shared.{Definition, defined, both, make, replaced, open_by, opens_by, open_within, opened, Stands, Among, NoneLeft}
use Rattle.paper_shared.specs.Answers.{Handed, or_nought, tree_in, definitions_of, opened_of, opening_of}
use Rattle.paper_shared.specs.Answers.{judged_site, opening_by, no_room, holding, SharedGiven, shared_of, shared_given}
use Rattle.paper_shared.proofs.OpenedLaws.{told_of, opened_none_left}
use Rattle.paper_shared.proofs.Tables.{opened_is_wf}
use Rattle.paper_shared.proofs.Demands.{Went, went, shared_takes_over}
use Rattle.paper_takeover.specs.TakenOver.{with_table, SharedRepeats, SharedTakesOver}
use Rattle.paper_takeover.proofs.SymbolLaws.{result_symbols}

-- ---- a tree in which no defined symbol stands is opened to itself
module _ (ds : List Definition) (again : Tree → Option Tree) where
  mutual
    unfolding open_by make both replaced

    itself : (t : Tree) → NoneLeft ds t → open_by ds again t ≡ some t
    itself (integer μ z) h = refl
    itself (symbol μ s) h = rw (h s refl)
    itself (sum μ f) h = rw (themselves f h)
    itself (product μ f) h = rw (themselves f h)
    itself (power μ b ξ e) h = rw (itself b h)

    themselves : (f : Forest) → ((s : ℕ) → Among s f → defined ds s ≡ none) → opens_by ds again f ≡ some f
    themselves nil h = refl
    themselves (cons t f) h = rw (itself t (λ s i. h s (inl i)), themselves f (λ s i. h s (inr i)))

opened_itself : (ds : List Definition) (t : Tree) → NoneLeft ds t → opened ds t ≡ some t
unfolding opened open_within
opened_itself ds t h = go (length ds)
  where
    go : (n : ℕ) → open_within ds n t ≡ some t
    go zero = itself ds (λ u. none) t h
    go (suc n) = itself ds (λ u. open_within ds n u) t h

module _ (lim ed : ℕ) (h : Handed) (b : Bytes h.table) (d : Bytes h.definitions) (area : List ℕ) (l : Lent)
    (z : (shared_given lim ed h area l).given.answer.number ≡ 0) where
  w : Went lim ed h area l
  w = went lim ed h area l z

  v : Tree
  v = w.tree

  g : Given
  g = (shared_given lim ed h area l).given

  number_0 : (simplified lim ed (encode v) l).answer.number ≡ 0
  unfolding v
  number_0 = sym (ap (λ (x : Given). x.answer.number) w.given) ∙ z

  c : Done lim ed (encode v) l
  c = call_done lim ed (encode v) (encode_bytes v) l number_0

  -- the result is the records of the tree u, in which no defined symbol stands
  u : Tree
  u = c.tree_out

  the_result : result g ≡ encode u
  unfolding g v u
  the_result = ap result w.given ∙ c.written_bytes

  out_weighs : g.answer.weight_out ≡ weight u
  unfolding g v u ran_answer
  out_weighs = ap (λ (x : Given). x.answer.weight_out) w.given ∙ ap (λ (x : Answer). x.weight_out) c.answer

  light : weight u ≤ lim
  unfolding u
  light = omega (arith, c.finished.lightens, c.holds.light)

  opened_is : c.holds.tree ≡ v
  unfolding v
  opened_is =
      same_tree c.holds.read
      (tree_of_written v
      (opened_is_wf lim h (record { known = w.known; bytes = d; met = w.past.past.met; fine = w.past.all_fine }) b w.past.past.fine v w.is_opened)
      (let x = limit_small lim w.known in omega (arith, w.light, x)))

  none_stands : NoneLeft (definitions_of h) u
  unfolding u v opened_of
  none_stands s i =
      told_of (NoneLeft (definitions_of h)) (opened_of h) v w.is_opened (opened_none_left (definitions_of h) (tree_in h.table)) s
      (subst (λ (t : Tree). Stands s t) opened_is (result_symbols ed c.holds.tree u c.steps c.opened c.tries c.runs s i))

  -- the same call on the result opens it to itself
  read_u : tree_of (encode u) ≡ some u
  unfolding u
  read_u = tree_of_written u c.finished.result_wf (let x = limit_small lim w.known in omega (arith, light, x))

  opens_itself : opened_of (with_table h (encode u)) ≡ some u
  unfolding opened_of with_table definitions_of tree_in or_nought
  opens_itself = rw read_u (opened_itself (definitions_of h) u none_stands)

  fine_u : (verdict lim (encode u)).number ≡ 0
  unfolding u
  fine_u = ap (λ (x : Verdict). x.number) (written_accepted lim w.known u c.finished.result_wf light)

  module _ (area' : List ℕ) (l' : Lent) (wide : 16 * g.answer.weight_out ≤ length area') (room : Room lim g.answer.weight_out l') where
    no_less : no_room area' (weight u) ≡ false
    unfolding no_room
    no_less = le-ltb (length area') (16 * weight u) (omega (arith, wide, out_weighs))

    roomy : cramped lim (weight u) l' ≡ false
    roomy = ap (λ (n : ℕ). cramped lim n l') (sym out_weighs) ∙ of_room lim _ l' room

    given_again : shared_given lim ed (with_table h (encode u)) area' l' ≡ record { given = simplified lim ed (encode u) l'; area = holding u area' }
    unfolding shared_given opening_by judged_site opening_of shared_of with_table is_accepted
    given_again =
        let known-ed = (judgement_accepted lim ed (encode v) l c.accepts).2 in
        rw (w.known, known-ed, w.past.past.met, fine_u, w.past.all_fine, w.past.few, opens_itself, le-ltb lim (weight u) light, no_less, roomy)

    repeats_so : SharedRepeats lim ed h area l area' l'
    unfolding g holding
    repeats_so =
        let on-bytes : shared_given lim ed (with_table h (result g)) area' l' ≡ record { given = simplified lim ed (encode u) l'; area = holding u area' } =
        ap (λ (x : List ℕ). shared_given lim ed (with_table h x) area' l') the_result ∙ given_again in
        record {
          repeats =
              subst (λ (x : Given). Repeats g x) (ap (λ (x : List ℕ). simplified lim ed x l') the_result ∙ sym (ap (λ (x : SharedGiven). x.given) on-bytes))
              (shared_takes_over lim ed h area l b d z l' room);
          as_it_is = ap (λ (x : SharedGiven). x.area) on-bytes ∙ ap (λ (x : List ℕ). x ++ drop (length x) area') (sym the_result);
        }

pub shared_call_takes_over : (lim ed : ℕ) → SharedTakesOver lim ed
unfolding g
shared_call_takes_over lim ed h b d area l z area' l' wide room = repeats_so lim ed h b d area l z area' l' wide room

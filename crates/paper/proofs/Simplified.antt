-- Demand 3 at the level of trees, over any list of good rules: what a finished run gives.
use Prim.Native.Nat.{ℕ, ◌+◌, ◌*◌, ◌≤◌}
use mathlib.Core.Path.{◌≡◌, subst}
use mathlib.Core.List.{List, []}
use native.Mathlib.Omega.{arith}
use lib.ListN.{length}
use Rattle.paper.specs.Tree.{Tree, weight, value, records}
use Rattle.paper.specs.WellFormed.{WF}
use Rattle.paper.specs.Table.{encode}
use Rattle.paper.specs.Rules.{Rule, rules_of}
use Rattle.paper.specs.Driver.{done, tried, ask, visit, simplify}
use Rattle.paper.specs.Admits.{AdmitsNone}
use Rattle.paper.proofs.EncodeLaws.{encode_length, records_weight}
use Rattle.paper.specs.Good.{Goods}
use Rattle.paper.proofs.EditionTwo.{edition_good}
use Rattle.paper.proofs.DriverLaws.{RunKept, run_kept}
use Rattle.paper.proofs.TryLaws.{tries_cube}
use Rattle.paper.proofs.Fuel.{simplify_visits}
use Rattle.paper.proofs.FinishedLaws.{Ended, simplify_ended, run_finished}

-- what holds of a tree t and the result u of a run on it, with its steps ks and o openings
pub record Finished (rs : List Rule) (t u : Tree) (ks : List ℕ) (o n : ℕ) : Type 0 where
  pub result_wf : WF u
  pub lightens : length ks + o + weight u ≤ weight t
  pub keeps_value : (ρ : ℕ → ℕ) → value u ρ ≡ value t ρ
  pub admits_none : AdmitsNone rs u
  -- so `16 x W` bytes and W steps always suffice
  pub out_suffices : length (encode u) ≤ 16 * weight t
  pub steps_suffice : length ks ≤ weight t
  pub bounded : n ≤ weight t * (weight t * weight t)

pub simplify_finished : {rs : List Rule} → Goods rs → (t u : Tree) (ks : List ℕ) (o n : ℕ) → WF t → simplify rs t ≡ done u ks o n → Finished rs t u ks o n
unfolding simplify
simplify_finished {rs} gs t u ks o n w e =
    let kept : RunKept t (done u ks o n) = subst (RunKept t) e (run_kept gs (weight t) t w) in
    let ended : Ended rs (done u ks o n) = subst (Ended rs) e (simplify_ended rs gs t w) in
    record {
      result_wf = kept.0;
      lightens = omega (arith, kept.1.lighter);
      keeps_value = kept.1.value_kept;
      admits_none = ended;
      out_suffices = omega (arith, kept.1.lighter, encode_length u, records_weight u);
      steps_suffice = omega (arith, kept.1.lighter);
      bounded = tries_cube gs t u ks o n w e;
    }

-- a result is simplified to itself, with no step and no opening
pub simplify_again : {rs : List Rule} (u : Tree) → WF u → AdmitsNone rs u → simplify rs u ≡ done u [] 0 (records u)
unfolding simplify
simplify_again u w a = run_finished a w (weight u) (omega arith)

-- the driver of an edition in the paper's words
pub edition_visits : (ed : ℕ) (t : Tree) → WF t → simplify (rules_of ed) t ≡ tried (visit (simplify (rules_of ed)) t (ask (rules_of ed) t))
edition_visits ed = simplify_visits (edition_good ed)

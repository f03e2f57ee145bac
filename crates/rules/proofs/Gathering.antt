-- A gathered node whose like members are combined. What came out of the walk stands in `out`, and the node of it is lighter than the one it is in
-- place of, so that there is scratch before what is pending; and what is said of the node that is made of it is what is said of the step, which
-- is the first that applies where no rule before it does; and where the walk removes nothing, no rule applies.
use Prim.Native.Nat.{ℕ, ◌+◌, ◌*◌}
use mathlib.Core.Path.{◌≡◌, sym, ap, ◌∙◌, subst}
use mathlib.Core.Bool.{Bool, false}
use mathlib.Core.List.{List, ◌++◌}
use native.Mathlib.Omega.{arith}
use lib.ListN.{length, take, drop}
use Rattle.paper.specs.Tree.{Tree, to_list, records, recordses}
use Rattle.paper.specs.Record.{kind, mark_in}
use Rattle.paper.specs.Rules as paper
use Rattle.paper.specs.Rules.{rules_of}
use Rattle.paper.specs.Driver.{ask, no_rule, step, members, opened}
use Rattle.paper.specs.Admits.{openings_at, AllAdmitNone}
use Rattle.note.specs.Note.{note}
use Rattle.note.specs.Noted.{encode_by}
use Rattle.part.specs.Like.{node_kind, node_of}
use Rattle.std.specs.Prelude.{Option}
use Rattle.walk.specs.Walked.{combined, came_out, CameOut, NewAt}
use Rattle.rules.specs.Alike.{combine_like, step_of, any_earlier, inside_of}
use Rattle.rules.specs.Asked.{Ready, CombinedIs}
use Rattle.rules.specs.Quiet.{Emerged, EmergedIs}
use Rattle.rules.specs.declared.Combined.{Combined}
use Rattle.rules.specs.declared.Combined.TheVariants.{No, Nothing, Pending, Quiet}
use Rattle.rules.proofs.RuleLaws.{ready_length, combine_light, combine_lighter, IsNode, combine_at}
use Rattle.rules.proofs.CombineLaws.{after_walk, came_built, end_within}
use Rattle.rules.proofs.AskLaws.{combine_asked, combine_none}
use Rattle.rules.proofs.Emerging.{node_records, node_members, node_openings}

module _ {o w : List ℕ} {d p : ℕ} {t : Tree} {rest : List ℕ} (h : Ready o w d p t rest) {b : Bool} (s : IsNode b o w d p t rest) where
  pub own_members : members t ≡ to_list s.members
  own_members = ap members s.is ∙ node_members s.mark s.members b

  own_records : records t ≡ 1 + recordses s.members
  own_records = ap records s.is ∙ node_records s.mark s.members b

  -- the record after it is the one after its members
  pub own_end : {end : ℕ} → end ≡ p + records t → end ≡ p + 1 + recordses s.members
  own_end e = omega (arith, e, own_records)

  own_openings : openings_at t ≡ (opened (inside_of b) (to_list s.members)).1
  own_openings = ap openings_at s.is ∙ node_openings s.mark s.members b

  none_earlier : any_earlier b (members t) ≡ false → any_earlier b (to_list s.members) ≡ false
  none_earlier none = ap (any_earlier b) (sym own_members) ∙ none

  -- the walk removes nothing
  pub no_rule_applies : (ed : ℕ) → kind w p ≡ node_kind b → any_earlier b (members t) ≡ false
      → ((μ : ℕ) → combined b μ (to_list s.members) ≡ paper.does_not_apply) → ask (rules_of ed) t ≡ no_rule
  no_rule_applies ed kinded none idle = combine_none ed h b kinded s (none_earlier none) (combine_at s ∙ idle (mark_in w p))

  abbrev came : List Tree
  came = came_out b (to_list s.members)

  module _ {end : ℕ} (k : end ≡ p + records t) {o₁ : List ℕ} {n e : ℕ} (c : CameOut b (to_list s.members) o o₁ d n e)
      (μ : ℕ) (marked : μ ≡ mark_in w p) where
    applies : combine_like b t ≡ paper.applies (node_of b μ came)
    applies = combine_at s ∙ c.applies (mark_in w p) ∙ ap (λ ν. paper.applies (node_of b ν came)) (sym marked)

    -- what came out is ready to be made a node of
    pub emerges : (w₂ : List ℕ) (f : Option ℕ) → length o₁ ≡ length o → length w₂ ≡ length w → drop (p * 16) w₂ ≡ drop (p * 16) w
        → NewAt (to_list s.members) came d f → Emerged b μ (to_list s.members) came rest o₁ w₂ d e f end n
    emerges w₂ f lo lw same named =
        let u = node_of b μ came in
        let long = ready_length h in
        let ends = own_end k in
        let within = end_within s.held ends in
        record {
          built = came_built s.held ends c lo;
          many = c.many;
          light = combine_light h b u applies;
          named = named;
          pending = after_walk s.held ends w₂ same;
          low = omega (arith, combine_lighter h b u applies, h.work_room, k);
          within = omega arith;
        }

    -- what is said of it is said of the step
    module _ (kinded : kind w p ≡ node_kind b) (none : any_earlier b (members t) ≡ false) (ed : ℕ) (done : take (d * 16) o₁ ≡ take (d * 16) o) where
      asked : (j : ℕ) → j ≡ step_of b → ask (rules_of ed) t ≡ step j (node_of b μ came)
      asked j e =
          combine_asked ed h b kinded s (none_earlier none) (paper.applies (node_of b μ came)) applies ∙ ap (λ i. step i (node_of b μ came)) (sym e)

      pub combines : (o' w' : List ℕ) (r : Combined) → EmergedIs b μ ed (to_list s.members) came rest o₁ o' w' d end r
          → CombinedIs (rules_of ed) t rest o o' w' d p r
      combines o' w' No x = absurd x
      combines o' w' Nothing x = absurd x
      combines o' w' (Pending j q) x = (node_of b μ came, asked j x.0, x.1.stands, x.1.done ∙ done)
      combines o' w' (Quiet j e) x =
          let u = node_of b μ came in (
            u,
            asked j x.0,
            x.1,
            x.2 ∙ ap (λ (y : List ℕ). y ++ encode_by note u) done,
            ap (λ i. drop (i * 16) w') (sym k) ∙ x.3,
            λ nones shut. x.4 (subst (AllAdmitNone (rules_of ed)) own_members nones) (sym own_openings ∙ shut),
          )

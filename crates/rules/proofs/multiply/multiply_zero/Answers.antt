-- `rules::multiply::multiply_zero`: at a tree of another kind the step does not apply; a product with a member 0 is 0, which ends where the product ended.
use Prim.Native.Nat.{ℕ, ◌+◌, ◌-◌, ◌*◌, ◌<◌}
use mathlib.Core.Path.{◌≡◌, refl, sym, ap, ◌∙◌}
use mathlib.Core.Bool.{false}
use mathlib.Core.List.{List}
use native.Mathlib.Omega.{arith}
use lib.ListN.{length, drop}
use lib.IntN.{pos}
use Rattle.paper.specs.Tree.{Tree, integer, records}
use Rattle.paper.specs.Rules as paper
use Rattle.paper.proofs.EncodeLaws.{records_pos}
use Rattle.note.proofs.ToldLaws.{record_within, some_told}
use Rattle.note.specs.Note.{note}
use Rattle.record.specs.declared.kinds.Kind.TheVariants.{Product}
use Rattle.split.proofs.SplitLaws.{kind_five}
use Rattle.rules.specs.Asked.{Ready}
use Rattle.rules.proofs.Dropping.{held_members}
use Rattle.rules.proofs.RuleLaws.{told_is, told_is_not}
use Rattle.rules.proofs.RuleLaws.{ready_tree, ready_length, ready_after, is_node_lem, zeroes, looks_elsewhere, finds, finds_none, zero_put}
use Rattle.rules.proofs.multiply.multiply_zero.Goals as goal

-- the tree ends in the table, and not at its start
record End (w : List ℕ) (p : ℕ) (t : Tree) (rest : List ℕ) (e : ℕ) : Type 0 where
  is : e ≡ p + records t
  some : p < e
  within : length w ≡ e * 16 + length rest

end_of : {o w : List ℕ} {d p : ℕ} {t : Tree} {rest : List ℕ} {e : ℕ} → Ready o w d p t rest → e ≡ p + records t → End w p t rest e
end_of {t = t} h e = record { is = e; some = omega (arith, e, records_pos t); within = omega (arith, e, ready_length h) }

pub at-requires : goal.at-requires
at-requires c = record_within (ready_tree c.requires.2)

pub returns-then-ne : goal.returns-then-ne
returns-then-ne c = λ t rest h. (looks_elsewhere h zeroes (told_is_not _ Product c.at.ensures.all c.ne.ensures c.if-ne.true), refl, refl)

pub any_member-requires : goal.any_member-requires
any_member-requires c =
    let s = is_node_lem c.requires.2 false (told_is (kind_five _ (ready_tree c.requires.2)) _ Product c.at.ensures.all c.ne.ensures c.if-ne.false) in
    ((s.members, held_members s.held), omega arith)

pub mark-mark-requires : goal.mark-mark-requires
mark-mark-requires c = record_within (ready_tree c.requires.2)

pub skip_tree-q-requires : goal.skip_tree-q-requires
skip_tree-q-requires c = some_told (ready_tree c.requires.2)

pub overflow_sub-q : goal.overflow_sub-q
overflow_sub-q c =
    let h = c.requires.2 in
    let e = end_of h (c.skip_tree-q.ensures note _ (ready_tree h)) in
    omega (arith, e.some)

pub write_record-requires : goal.write_record-requires
write_record-requires c =
    let h = c.requires.2 in
    let e = end_of h (c.skip_tree-q.ensures note _ (ready_tree h)) in
    omega (arith, e.some, e.within)

pub returns-then-any_member : goal.returns-then-any_member
returns-then-any_member c =
    let g = c.args in
    let w = g.work.now in
    let q = c.skip_tree-q.result - 1 in
    let μ = c.mark-mark.result in
    λ t rest h.
    let s = is_node_lem h false (told_is (kind_five _ (ready_tree h)) _ Product c.at.ensures.all c.ne.ensures c.if-ne.false) in
    let e = end_of h (c.skip_tree-q.ensures note t (ready_tree h)) in
    let any = sym (c.any_member.ensures s.members (held_members s.held)) ∙ c.if-any_member.true in
    let place : (q + 1) * 16 ≡ (g.p + records t) * 16 = omega (arith, e.is, e.some) in (
      integer μ (pos 0),
      finds s zeroes any ∙ ap (λ m. paper.applies (integer m (pos 0))) (sym c.mark-mark.ensures.0),
      zero_put w _ q μ rest (omega (arith, e.some, e.within)) (ap (λ n. drop n w) place ∙ ready_after h) c.write_record.ensures,
      refl,
    )

pub returns : goal.returns
returns c =
    λ t rest h.
    let s = is_node_lem h false (told_is (kind_five _ (ready_tree h)) _ Product c.at.ensures.all c.ne.ensures c.if-ne.false) in
    (finds_none s zeroes (sym (c.any_member.ensures s.members (held_members s.held)) ∙ c.if-any_member.false), refl, refl)

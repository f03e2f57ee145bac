-- `differ::write_pairs` meets its contract: each turn is one law of WalkedLaws.
use Rattle.std.proofs.Common.{ℕ, ◌*◌, List, [], ◌∷◌, ◌++◌, length, true, false, sym, ap, ◌∙◌, arith}
use Rattle.paper.specs.Bytes.{bytes}
use Rattle.paper_differ.specs.Differ.{differences_of}
use Rattle.paper.proofs.StandingLaws.{record_within}
use Rattle.stretch.specs.Put.{put}
use Rattle.note.proofs.ToldLaws.{plain_told, some_told}
use Rattle.differ.proofs.WalkedLaws.{Agree, walked_start, walked_all, walked_tree, walked_other}
use Rattle.differ.proofs.WalkedLaws.{walked_alike, walked_further, walked_unlike, walked_room}
use Rattle.differ.proofs.ListLaws.{written, written_none, written_more, written_all}
use Rattle.differ.proofs.write_pairs.Goals as goal
use Rattle.differ.proofs.write_pairs.Goals.{then-pairs-room, else-pairs-room}

pub loop-i-init : goal.loop-i-init
loop-i-init c = ([], walked_start c.requires, λ h. sym (written_none c.args.list.now))

pub agree-requires : goal.agree-requires
agree-requires c =
    let w = c.loop-i.invariant.1 in
    (walked_tree w c.loop-i-test.true, walked_other w c.loop-i-test.true)

pub overflow_add-j : goal.overflow_add-j
overflow_add-j c = omega (arith, record_within (walked_other c.loop-i.invariant.1 c.loop-i-test.true).there)

pub overflow_add-pairs : goal.overflow_add-pairs
overflow_add-pairs c = omega (arith, c.loop-i.invariant.1.few)

pub skip_tree-i-requires : goal.skip_tree-i-requires
skip_tree-i-requires c = some_told (plain_told (walked_tree c.loop-i.invariant.1 c.loop-i-test.true).there)

pub skip_tree-j-requires : goal.skip_tree-j-requires
skip_tree-j-requires c = some_told (plain_told (walked_other c.loop-i.invariant.1 c.loop-i-test.true).there)

pub loop-i-preserved-then-agree : goal.loop-i-preserved-then-agree
loop-i-preserved-then-agree c =
    let l = c.loop-i in
    let agree : Agree _ _ l.i l.j true = λ t u h g. sym c.if-agree.true ∙ c.agree.ensures t u h g in
    (l.invariant.0, walked_alike l.invariant.1 c.loop-i-test.true agree, l.invariant.2)

pub loop-i-smaller : goal.loop-i-smaller
loop-i-smaller c =
    let more = walked_further c.loop-i.invariant.1 c.loop-i-test.true c.skip_tree-i.result c.skip_tree-i.ensures in
    omega arith

pub loop-i-preserved : goal.loop-i-preserved
loop-i-preserved c =
    let l = c.loop-i in
    let w = l.invariant.1 in
    let d = c.args.list.now in
    let unlike : Agree _ _ l.i l.j false = λ t u h g. sym c.if-agree.false ∙ c.agree.ensures t u h g in
    let room = walked_room w c.loop-i-test.true unlike in
    let more = l.invariant.0 ++ ((l.i, l.j) ∷ []) in (
      more,
      walked_unlike w c.loop-i-test.true unlike c.skip_tree-i.result c.skip_tree-j.result c.skip_tree-i.ensures c.skip_tree-j.ensures,
      λ wide. elim c.if-pairs-room.branch [
        | then-pairs-room v ↦
            v.list-is ∙ v.write_pair.ensures
            ∙ ap (λ (x : List ℕ). put x (l.pairs * 16) (bytes 8 l.i ++ bytes 8 l.j)) (l.invariant.2 wide)
            ∙ written_more d l.invariant.0 l.pairs l.i l.j w.many (omega (arith, room, wide))
        | else-pairs-room v ↦ absurd (omega (arith, room, wide))
      ],
    )

pub returns-clause-all : goal.returns-clause-all
returns-clause-all c =
    let w = c.loop-i.invariant.1 in
    sym (ap length (walked_all w c.loop-i-test.false) ∙ w.many)

pub returns-clause-written : goal.returns-clause-written
returns-clause-written c = λ wide.
    let d = c.args.list.now in
    c.loop-i.invariant.2 wide ∙ ap (written d) (sym (walked_all c.loop-i.invariant.1 c.loop-i-test.false))
    ∙ written_all d (differences_of c.args.a.now c.args.b.now)

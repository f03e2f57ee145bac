-- `rules::members::collapse`: with no member it writes the integer, with one nothing, with more the node's record, which it closes, and so the tree of the
-- members stands.
use mathlib.Core.Path.{sym, ◌∙◌}
use native.Mathlib.Omega.{arith}
use Rattle.rules.proofs.Puts.{collapse_none, collapse_one, collapse_closable, collapse_more}
use Rattle.rules.proofs.members.collapse.Goals as goal

pub returns-then-count-lt1 : goal.returns-then-count-lt1
returns-then-count-lt1 c =
    let g = c.args in
    λ e l b n k. collapse_none g.sum g.mark l g.out.now g.d e b _ _ (omega arith) c.neutral.ensures.0 c.write_record.ensures

pub returns-then-count-lt-SEVERAL : goal.returns-then-count-lt-SEVERAL
returns-then-count-lt-SEVERAL c =
    let g = c.args in
    λ e l b n k. collapse_one g.sum g.mark l g.out.now g.d e b (omega arith) (omega arith)

pub close-requires : goal.close-requires
close-requires c =
    let q = c.requires in
    let g = c.args in (
      _,
      collapse_closable g.sum g.mark q.1 g.out.now g.d q.0 q.2 (omega arith) q.4 _ _ (c.number.ensures ∙ c.node_kind.ensures)
          (rw (sym q.3) at c.write_record-2.ensures),
    )

pub returns : goal.returns
returns c =
    let g = c.args in
    λ e l b n k.
    collapse_more g.sum g.mark l g.out.now g.d e b (omega arith) k _ _ (c.number.ensures ∙ c.node_kind.ensures)
    (rw (sym n) at c.write_record-2.ensures) _ c.close.ensures

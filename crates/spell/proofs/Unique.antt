-- Two answers that meet a contract of this crate, as the check reads it from the source, are the same: some tree stands there, and its text tells
-- where it ends, and the area, where it fits.
use Prim.Native.Nat.{ℕ, ◌+◌, ◌≤◌}
use mathlib.Core.Path.{◌≡◌, sym, ap₂, ◌∙◌}
use borrow.Fn.Kinds.{Dens, ended_of}
use contract.Lifetimes.{Lfts}
use denote.Triple.Clauses.{AtExit}
use lib.ListN.{length}
use Rattle.paper.specs.Once.{Once}
use Rattle.paper_text.specs.Text.{text}
use Rattle.spell.specs.declared.Spelt.{Spelt}
use Rattle.spell.proofs.spell.Reads as spell-reads
use Rattle.spell.proofs.spell.Kinds as spell-kinds
use Rattle.spell.proofs.measure.Reads as measure-reads
use Rattle.spell.proofs.measure.Kinds as measure-kinds

pub spell_once : (κs : Lfts 2) (a : Dens κs spell-kinds.ps) (v v' : Spelt) (x x' : AtExit (ended_of 2 spell-kinds.ps spell-kinds.r) κs)
    → (q : spell-reads.Pre κs a) → spell-reads.Post κs a v x → spell-reads.Post κs a v' x'
    → (v ≡ v') × (a.1.1.1.0 + length (text q.0.tree) ≤ length a.1.1.0.now → x.1.1.0.now ≡ x'.1.1.0.now)
spell_once κs a v v' x x' q p p' =
    let f = p q.0.tree q.0.there in
    let g = p' q.0.tree q.0.there in (
      ap₂ (λ (n e : ℕ). record { next = n; end = e }) (f.next ∙ sym g.next) (f.text_put.end ∙ sym g.text_put.end),
      λ l. f.text_put.put_there l ∙ sym (g.text_put.put_there l),
    )

pub measure_once : Once 1 measure-kinds.ps measure-kinds.r measure-reads.Pre measure-reads.Post
measure_once κs a v v' x x' q p p' = p q.0.tree q.0.there ∙ sym (p' q.0.tree q.0.there)

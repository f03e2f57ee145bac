-- Both flags are read before either is filled (`both_filled`).
use Rattle.std.proofs.Common.{ℕ, ◌+◌, ◌*◌, List, sym, ap, ◌∙◌, subst, arith}
use Rattle.note.proofs.ToldLaws.{record_within, some_told}
use Rattle.note.specs.Note.{note}
use Rattle.walk.specs.Numbers.{first_flag, held_at, filled, Put}
use Rattle.walk.proofs.EntryLaws.{entry_there}
use Rattle.walk.proofs.NumbersLaws.{both_filled}
use Rattle.walk.proofs.numbers.put.Goals as goal

pub overflow_add-round : goal.overflow_add-round
overflow_add-round c = record { fits = omega (arith, record_within c.requires.k_in_bounds.0.1.there, c.read2.ensures.0) }

pub flags_of-v-requires : goal.flags_of-v-requires
flags_of-v-requires c =
    let q = c.requires in
    (some_told (entry_there q.k_in_bounds.0.1 _ c.read2.ensures.0), q.m_nonzero.0, q.m_nonzero.1)

pub returns : goal.returns
returns c =
    let g = c.args in
    let r = g.round in
    let q = c.requires in
    let v = c.flags_of-v in
    let x = c.read2-first in
    let y = c.read2-second in
    λ t e.
    let is = v.ensures.2 note t (entry_there e _ c.read2.ensures.0) in
    subst (λ (o : List ℕ). Put r.terms g.out.now o g.at g.k r.m r.f t x.result y.result)
    (sym
    (c.fill-2.ensures
    ∙ ap (λ (o : List ℕ). filled o (g.at + v.result.second * 2) y.result g.k) c.fill.ensures
    ∙ ap (λ z. filled (filled g.out.now (g.at + z * 2) x.result g.k) (g.at + v.result.second * 2) y.result g.k) is.0
    ∙ ap (λ z. filled (filled g.out.now (g.at + first_flag r.terms r.f r.m t * 2) x.result g.k) (g.at + z * 2) y.result g.k) is.1))
    (both_filled r.terms g.out.now g.at g.k r.m r.f t x.result y.result q.k_in_bounds.2 q.m_nonzero.2 x.ensures.1 y.ensures.1
    (omega (arith, v.ensures.0, is.0)) (omega (arith, v.ensures.1, is.1))
    (x.ensures.0 ∙ ap (held_at g.out.now g.at) is.0) (y.ensures.0 ∙ ap (held_at g.out.now g.at) is.1))

-- The term becomes its coefficient n times the rest of the member, and `rest_of` tells what that rest is: 1, and the coefficient is written by
-- itself; a tree that stands at a record; or a product without one of its members. For the last two there is a function that writes n times
-- such a rest, and its contract is this one.
use Rattle.std.proofs.Common.{◌≡◌, ◌*◌, List, ℕ, Bool, refl, sym, subst, arith, Ok}
use Rattle.paper.specs.Record.{mark_in}
use Rattle.paper.specs.Tree.{Tree}
use Rattle.paper.specs.Rules.{Term, term_of, from_term}
use Rattle.paper.proofs.EncodeLaws.{records_pos}
use Rattle.note.proofs.ToldLaws.{record_within}
use Rattle.note.specs.Note.{note}
use Rattle.split.specs.Rest.{StandsFor}
use Rattle.split.specs.declared.Rest.{Rest}
use Rattle.part.specs.Part.{ShowsTerm}
use Rattle.rebuilt.specs.Written.{timed, WrittenIs, Fitting}
use Rattle.rebuilt.proofs.Becomes.{from_term_lem, unit_becomes, written}
use Rattle.rebuilt.proofs.WriteLaws.{integer_written}
use Rattle.rebuilt.proofs.write_term.Goals as goal

-- ---- any term that n and the member at record i show becomes n times its rest, with the mark that was read
module _ {s : List ℕ} {n i μ : ℕ} {x : Term} (h : ShowsTerm s n i x) (is : μ ≡ mark_in s i) where
  fitting : {out : List ℕ} {m : ℕ} → Fitting (from_term x) out m → Fitting (timed μ n (term_of h.member).rest) out m
  fitting {out} {m} f = subst (λ (x : Tree × Bool). Fitting x out m) (from_term_lem h is) f

  answered : (out out' : List ℕ) (m r : ℕ) → WrittenIs (timed μ n (term_of h.member).rest) out out' m (Ok r) → WrittenIs (from_term x) out out' m (Ok r)
  answered out out' m r = subst (λ (x : Tree × Bool). WrittenIs x out out' m (Ok r)) (sym (from_term_lem h is))

pub mark-mark-requires : goal.mark-mark-requires
mark-mark-requires c = record_within c.requires.1.there

pub write_record-requires : goal.write_record-requires
write_record-requires c =
    let q = c.requires in
    omega (arith, records_pos (from_term q.0).0, q.2.room)

pub write_times-requires-clause-told : goal.write_times-requires-clause-told
write_times-requires-clause-told c =
    let q = c.requires in
    let stands = subst (λ (r : Rest). StandsFor note c.args.s.now c.args.i r (term_of q.1.member).rest) c.in-At.is
    (c.rest_of-rest.ensures.by_index note q.1.member q.1.there) in
    ((term_of q.1.member).rest, stands.0, fitting q.1 c.mark-mark.ensures.0 q.2, stands.1)

pub write_without-requires-clause-lessened : goal.write_without-requires-clause-lessened
write_without-requires-clause-lessened c =
    let q = c.requires in
    let stands = subst (λ (r : Rest). StandsFor note c.args.s.now c.args.i r (term_of q.1.member).rest) c.in-Others.is
    (c.rest_of-rest.ensures.by_index note q.1.member q.1.there) in
    ((term_of q.1.member).rest, stands.1, fitting q.1 c.mark-mark.ensures.0 q.2)

pub returns-in-One : goal.returns-in-One
returns-in-One c x h =
    let g = c.args in
    let stands = subst (λ (r : Rest). StandsFor note g.s.now g.i r (term_of h.member).rest) c.in-One.is
    (c.rest_of-rest.ensures.by_index note h.member h.there) in
    written (unit_becomes h c.mark-mark.ensures.0 stands.1) g.out.now g.m _ _ refl
    (integer_written g.out.now _ (g.m * 16) c.mark-mark.result g.n h.bits c.write_record.ensures)

pub returns-in-At : goal.returns-in-At
returns-in-At c x h =
    let stands = subst (λ (r : Rest). StandsFor note c.args.s.now c.args.i r (term_of h.member).rest) c.in-At.is
    (c.rest_of-rest.ensures.by_index note h.member h.there) in
    answered h c.mark-mark.ensures.0 _ _ _ _ (c.write_times.ensures _ stands.0)

pub returns-in-Others : goal.returns-in-Others
returns-in-Others c x h =
    let stands = subst (λ (r : Rest). StandsFor note c.args.s.now c.args.i r (term_of h.member).rest) c.in-Others.is
    (c.rest_of-rest.ensures.by_index note h.member h.there) in
    answered h c.mark-mark.ensures.0 _ _ _ _ (c.write_without.ensures _ stands.1)

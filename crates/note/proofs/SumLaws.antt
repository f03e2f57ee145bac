-- Notes of trees that stand one after the other, added up as code does it: what has been added and what the trees still to come add agree
-- with one number, modulo 2^64, whatever the nodes' records hold. A tree adds by its kind and its note, and ends as many records later
-- as its note says.
use Rattle.std.proofs.Common.{◌≡◌, ℕ, ◌+◌, ◌-◌, ◌%◌, ◌<◌, List, sym, ap, ◌∙◌, subst, mod-eq_of_lt, arith}
use Rattle.paper.specs.Limits.{modulus}
use Rattle.paper.specs.Tree.{Tree, Forest, nil, records, recordses, weight}
use Rattle.paper.specs.Record.{kind}
use Rattle.paper.specs.Standing.{kind_number}
use Rattle.paper.proofs.Congruence.{Agree, agree_refl, agree_of, agree_trans, agree_mod, agree_add}
use Rattle.note.specs.Note.{shares, note_of, note, added}
use Rattle.note.specs.Noted.{TreeBy, TreesBy}
use Rattle.note.specs.Told.{Telling}
use Rattle.note.proofs.KeyLaws.{adds, adds_all, adds_cons, note_records, note_added}
use Rattle.note.proofs.ToldLaws.{told_by, kind_number_lem, none_of}
use Rattle.note.proofs.LightLaws.{told_all, FirstBy, first_by}

-- from record `at` on `left` trees are to come, which end before record `last`; acc is added, and they make it `whole`
pub record Summing (h : Tree → ℕ) (whole : ℕ) (s : List ℕ) (last at left acc : ℕ) : Type 0 where
  pub tells : Telling h
  pub rest : Forest
  pub there : TreesBy h s at left rest
  pub total : Agree modulus (acc + adds_all rest) whole
  pub place : at + recordses rest ≡ last

module _ {h : Tree → ℕ} {whole : ℕ} {s : List ℕ} {last at left acc : ℕ} (a : Summing h whole s last at left acc) where
  pub summing_first : 0 < left → FirstBy h s at left a.rest
  summing_first l = first_by a.rest a.tells a.there l

  -- one tree more
  pub summing_step : 0 < left → (k n : ℕ) → k ≡ kind s at → ((u : Tree) → TreeBy h s at u → n ≡ note u) → (next : ℕ)
      → next ≡ (acc + added k n) % modulus → Summing h whole s last (at + n % 65536) (left - 1) next
  unfolding records
  summing_step l k n e g next m =
      let f = summing_first l in
      let u = f.tree in
      let x : n ≡ note u = g u f.there in
      let y : k ≡ kind_number u = e ∙ kind_number_lem (told_by a.tells f.there) in
      let size : n % 65536 ≡ records u = ap (λ c. c % 65536) x ∙ note_records u f.there.light in
      let more : added k n ≡ adds u = rw (x, y) (note_added u f.there.light) in
      let all : acc + adds_all a.rest ≡ acc + added k n + adds_all f.others =
      ap (λ r. acc + adds_all r) f.whole ∙ omega (arith, adds_cons u f.others, more) in
      record {
        tells = a.tells;
        rest = f.others;
        there = subst (λ c. TreesBy h s (at + c) (left - 1) f.others) (sym size) f.after;
        total =
            agree_trans (agree_add (agree_trans (agree_of m) (agree_mod (acc + added k n))) (agree_refl {a = adds_all f.others}))
            (agree_trans (agree_of (sym all)) a.total);
        place = omega (arith, size, a.place, ap recordses f.whole);
      }

  -- none to come
  none : left ≡ 0 → a.rest ≡ nil
  none l = none_of a.rest (told_all a.tells a.there) l

  pub summing_end : left ≡ 0 → acc < modulus → acc ≡ whole % modulus
  unfolding records weight shares note_of
  summing_end l b =
      let all : acc + adds_all a.rest ≡ acc = ap (λ r. acc + adds_all r) (none l) ∙ omega arith in
      sym (mod-eq_of_lt b) ∙ (agree_trans (agree_of (sym all)) a.total).agree

  pub summing_last : left ≡ 0 → at ≡ last
  unfolding records
  summing_last l = omega (arith, a.place, ap recordses (none l))

-- Without a `^` the item stays; with one it has to fit as a base, and a number from 1 on to follow; then the base is shifted one record on, the
-- exponent written behind it and the power's record before it.
use Rattle.std.proofs.Common.{◌≡◌, ℕ, true, false, List, sym}
use Rattle.paper_text.specs.Text.{Reading, as_base}
use Rattle.paper_text.specs.Text as paper
use Rattle.parse.specs.declared.Item.{Item}
use Rattle.parse.specs.Parsed.{Laid, Found, fitted}
use Rattle.parse.specs.Joined.{bound}
use Rattle.parse.proofs.ItemLaws.{MemberIs, member}
use Rattle.parse.proofs.ItemLaws.{not_raised, unfit_raised, no_exponent, exponent_nought, is_raised}
use Rattle.parse.proofs.LaidLaws.{power_laid}
use Rattle.parse.proofs.raised.Goals as goal

-- the item as a base
fitting : (s : List ℕ) (d : ℕ) (new : List ℕ) (i : Item) → fitted 1 i.form ≡ true → (at : ℕ) (o : Reading paper.Item) (old : List ℕ)
    → Found s at o (Laid old d new) i → MemberIs as_base s at o (Laid old d new i.end) i.next i.weight true
unfolding bound
fitting s d new i e at o old h = member as_base s at o (Laid old d new) i h true e

unfit : (s : List ℕ) (d : ℕ) (new : List ℕ) (i : Item) → fitted 1 i.form ≡ false → (at : ℕ) (o : Reading paper.Item) (old : List ℕ)
    → Found s at o (Laid old d new) i → MemberIs as_base s at o (Laid old d new i.end) i.next i.weight false
unfolding bound
unfit s d new i e at o old h = member as_base s at o (Laid old d new) i h false e

pub returns-then-not-sign_at : goal.returns-then-not-sign_at
returns-then-not-sign_at c =
    let a = c.args in
    λ at o old h. not_raised a.text.now at o (Laid old a.d a.out.now) a.i h (sym c.if-not-sign_at.ensures)

pub returns-then-not-fits : goal.returns-then-not-fits
returns-then-not-fits c =
    let a = c.args in
    λ at o old h. unfit_raised a.text.now at o _ (unfit a.text.now a.d a.out.now a.i (sym c.if-not-fits.ensures) at o old h) (sym c.if-not-sign_at.ensures)

pub returns-in_default : goal.returns-in_default
returns-in_default c =
    let a = c.args in
    let s = a.text.now in
    λ at o old h. no_exponent s at o (Laid old a.d a.out.now a.i.end) a.i.next a.i.weight
    (fitting s a.d a.out.now a.i (sym c.if-not-fits.ensures) at o old h)
    (sym c.if-not-sign_at.ensures) c.in_default.ensures

pub returns-then-v-lt1 : goal.returns-then-v-lt1
returns-then-v-lt1 c =
    let a = c.args in
    let s = a.text.now in
    λ at o old h. exponent_nought s at o (Laid old a.d a.out.now a.i.end) a.i.next a.i.weight _ _
    (fitting s a.d a.out.now a.i (sym c.if-not-fits.ensures) at o old h) (sym c.if-not-sign_at.ensures) c.in-Some.ensures c.if-v-lt1.true

pub returns : goal.returns
returns c =
    let a = c.args in
    let s = a.text.now in
    λ at o old h.
    rw c.bare.ensures
    (is_raised s at o (Laid old a.d a.out.now a.i.end) _ a.i.next a.i.weight _ _
    (fitting s a.d a.out.now a.i (sym c.if-not-fits.ensures) at o old h) (sym c.if-not-sign_at.ensures) c.in-Some.ensures c.if-v-lt1.false
    (power_laid c.make_room.ensures c.put_record.ensures c.put_record-2.ensures))

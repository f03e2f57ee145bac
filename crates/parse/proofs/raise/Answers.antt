-- A group is closed and may be raised, a power with no group that is read is read flat.
use Rattle.std.proofs.Common.{◌≡◌, ℕ, ◌+◌, List, refl, sym, subst, arith, drop, None}
use Rattle.paper.specs.Tree.{Tree}
use Rattle.paper_text.specs.Text.{Reading, then, closed, read_power}
use Rattle.paper_text.specs.Levels.{read_cut}
use Rattle.parse.specs.declared.Form.{Form}
use Rattle.parse.specs.declared.Reader.{Reader}
use Rattle.parse.specs.declared.Read as level
use Rattle.parse.specs.Parsed.{Laid, bared, raising}
use Rattle.parse.specs.Joined.{Is, Inside, Read}
use Rattle.parse.proofs.ItemLaws.{stands_sized}
use Rattle.parse.proofs.TurnLaws.{Came, came, takes}
use Rattle.parse.proofs.GroupLaws.{no_content, unclosed, group_is}
use Rattle.parse.proofs.raise.Goals as goal

-- the content, in the reader
content : (s : List ℕ) (at : ℕ) (o : Reading Tree) (old out : List ℕ) (st : Reader) (w : ℕ) (m : level.Read) (f : Form) → m ≡ Is f
    → Inside s at o old out st w m → Came s (at + 1) (bared o) (Laid old st.first out) w st f
content s at o old out st w m f e h =
    let r = h.read in
    came s (at + 1) (bared o) (Laid old st.first out) r.item m w st f r.given r.is e

pub taken-requires : goal.taken-requires
taken-requires c =
    let a = c.args in
    let r = a.r.now in
    let low = c.requires.0 c.in-Another.is in
    let g = c.well_formed.0.1 in
    takes a.text.now r.place _ r.out.now _ r.next low.0 c.flat-i.result r.weight c.flat-i.ensures low.1 (omega (arith, g))

pub returns-in_default-form_of-clause-raised : goal.returns-in_default-form_of-clause-raised
returns-in_default-form_of-clause-raised c =
    let a = c.args in
    let r = a.r.now in (
      λ h. absurd (c.in_default.not-Another h),
      λ h. (
        refl,
        λ at o old i. record {
          item = None;
          given = (refl, tt);
          is = no_content a.text.now at o old r.first r.out.now i.read.item a.m a.w r i.read.given c.in_default-form_of.ensures i.read.is;
        },
      ),
    )

pub returns-then-not-sign_at-clause-raised : goal.returns-then-not-sign_at-clause-raised
returns-then-not-sign_at-clause-raised c =
    let a = c.args in
    let r = a.r.now in (
      λ h. absurd (c.in_default.not-Another h),
      λ h. (
        refl,
        λ at o old i. record {
          item = None;
          given = (refl, tt);
          is =
              unclosed a.text.now at o old r.first r.out.now a.w r c.in-Some.form
              (content a.text.now at o old r.out.now r a.w a.m c.in-Some.form c.in-Some.ensures i) (sym c.if-not-sign_at.ensures);
        },
      ),
    )

pub raised-i-requires : goal.raised-i-requires
raised-i-requires c =
    let a = c.args in
    let r = a.r.now in
    let g = (c.requires.1 c.in_default.not-Another).1 in
    stands_sized a.text.now g.0 (then g.1 closed) g.2 r.out.now r.first g.3.low
    (group_is a.text.now g.0 g.1 g.2 r.first r.out.now a.w r c.in-Some.form
    (content a.text.now g.0 g.1 g.2 r.out.now r a.w a.m c.in-Some.form c.in-Some.ensures g.3) (sym c.if-not-sign_at.ensures))

pub taken-requires-2 : goal.taken-requires-2
taken-requires-2 c =
    let a = c.args in
    let r = a.r.now in
    let g = (c.requires.1 c.in_default.not-Another).1 in
    let short = c.well_formed.0.1 in
    takes a.text.now g.0 _ g.2 _ r.first g.3.low c.raised-i.result a.w
    (c.raised-i.ensures g.0 (then g.1 closed) g.2
    (group_is a.text.now g.0 g.1 g.2 r.first r.out.now a.w r c.in-Some.form
    (content a.text.now g.0 g.1 g.2 r.out.now r a.w a.m c.in-Some.form c.in-Some.ensures g.3) (sym c.if-not-sign_at.ensures)))
    g.3.light (omega (arith, short))

pub returns-in-Another-clause-raised : goal.returns-in-Another-clause-raised
returns-in-Another-clause-raised c =
    let a = c.args in
    let r = a.r.now in
    let told = c.taken.ensures in (
      λ h. (
        told.given.0,
        subst
            (λ (x : List ℕ). Read a.text.now r.place (read_power (read_cut 0) (drop r.place a.text.now)) r.out.now r.next x r.weight c.taken.new.r
            c.taken.result) (sym told.area_kept.1) (record { item = c.flat-i.result; given = told.given.1; is = c.flat-i.ensures }),
      ),
      λ h. absurd (h c.in-Another.is),
    )

pub returns-clause-raised : goal.returns-clause-raised
returns-clause-raised c =
    let a = c.args in
    let r = a.r.now in
    let told = c.taken-2.ensures in (
      λ h. absurd (c.in_default.not-Another h),
      λ h. (
        told.given.0,
        λ at o old i.
            subst (λ (x : List ℕ). Read a.text.now at (then (then o closed) raising) old r.first x a.w c.taken-2.new.r c.taken-2.result)
            (sym told.area_kept.1)
            (record {
              item = c.raised-i.result;
              given = told.given.1;
              is = c.raised-i.ensures at (then o closed) old
                  (group_is a.text.now at o old r.first r.out.now a.w r c.in-Some.form
                  (content a.text.now at o old r.out.now r a.w a.m c.in-Some.form c.in-Some.ensures i) (sym c.if-not-sign_at.ensures));
            }),
      ),
    )

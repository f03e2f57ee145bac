-- Once for sums and products: what the member makes of the turn.
use Rattle.std.proofs.Common.{◌≡◌, true, false, ℕ, ◌+◌, refl, sym, ◌∙◌, subst, arith, drop, None}
use Rattle.paper_text.specs.Text.{begins}
use Rattle.paper.specs.Table.{record_of}
use Rattle.parse.specs.Written.{Written, Shifted}
use Rattle.parse.specs.declared.Read.TheVariants.{Bare}
use Rattle.parse.specs.Parsed.{fitted}
use Rattle.parse.specs.Joined.{Read, whole, kind_of}
use Rattle.parse.proofs.TurnLaws.{no_other, turn_start, turn_on, turn_one, not_there, not_fitting, stands_alone}
use Rattle.parse.proofs.TurnLaws.{first_of_more, one_of_more, last_of_more, kind_least, moved_read}
use Rattle.parse.proofs.after.Goals as goal
use Rattle.parse.proofs.after.Goals.{else-c-lt1-via-then-c-lt1+else-not-more, else-c-lt1-via-else-c-lt1}

pub returns-in_default-clause-followed : goal.returns-in_default-clause-followed
returns-in_default-clause-followed c =
    let a = c.args in (
      refl,
      refl,
      λ r p node from n κ old at d w area was z h f l. (
        λ q. cc,
        λ q. record {
          item = None;
          given = (refl, tt);
          is = not_there n κ a.text.now.now old at d w a.c area was a.r.now.out.now a.r.now a.m z h c.in_default.ensures;
        },
      ),
    )

pub returns-then-not-more-clause-followed : goal.returns-then-not-more-clause-followed
returns-then-not-more-clause-followed c =
    let a = c.args in
    let b = subst (λ (y : ℕ). begins y (drop a.r.now.place a.text.now.now) ≡ false) c.sign.ensures (sym c.sign_at-more.ensures ∙ c.if-not-more.true) in (
      refl,
      refl,
      λ r p node from n κ old at d w area was z h f l.
          let start = turn_start n κ a.text.now.now old at d w a.c area was c.if-c-lt1.true z in
          let alone = stands_alone n κ a.text.now.now old at d w area was a.r.now.out.now a.r.now a.m c.in-Some.form start h c.in-Some.ensures b in (
            λ q. absurd (no_other alone.item _ _ _ alone.given (sym c.lone_in.ensures ∙ q)),
            λ q. subst (λ x. Read a.text.now.now at (whole n (drop at a.text.now.now)) old d a.r.now.out.now w a.r.now x) (sym c.lone_in.ensures) alone,
          ),
    )

pub returns-then-not-fits-clause-followed : goal.returns-then-not-fits-clause-followed
returns-then-not-fits-clause-followed c =
    let a = c.args in (
      refl,
      refl,
      λ r p node from n κ old at d w area was z h f l. (
        λ q. cc,
        λ q. record {
          item = None;
          given = (refl, tt);
          is =
              not_fitting n κ a.text.now.now old at d w a.c area was a.r.now.out.now a.r.now a.m c.in-Some.form z h c.in-Some.ensures
              (subst (λ (y : ℕ). fitted y c.in-Some.form ≡ false) c.rank.ensures (sym c.if-not-fits.ensures))
              (λ g. subst (λ (y : ℕ). begins y (drop a.r.now.place a.text.now.now) ≡ true) c.sign.ensures
              (elim c.else-c-lt1.branch [
                | else-c-lt1-via-then-c-lt1+else-not-more x ↦ sym c.sign_at-more.ensures ∙ x.if-not-more.false
                | else-c-lt1-via-else-c-lt1 x ↦ let y = x.if-c-lt1.false in absurd (omega (arith, g, y))
              ]));
        },
      ),
    )

pub returns-then-c-lt1-2-clause-followed : goal.returns-then-c-lt1-2-clause-followed
returns-then-c-lt1-2-clause-followed c =
    let a = c.args in (
      refl,
      refl,
      λ r p node from n κ old at d w area was z h f l.
          let start = turn_start n κ a.text.now.now old at d w a.c area was c.if-c-lt1-2.true z in (
            λ q. (
              (c.in-Some.form, c.in-Some.ensures),
              refl,
              turn_one n κ a.text.now.now old at d w a.c _ _ c.if-c-lt1-2.true
                  (first_of_more n κ a.text.now.now old at d w area was a.r.now.out.now _ a.r.now _ a.m c.in-Some.form start h c.in-Some.ensures
                  (subst (λ (y : ℕ). fitted y c.in-Some.form ≡ true) c.rank.ensures (sym c.if-not-fits.ensures))
                  (subst (λ (y : ℕ). begins y (drop a.r.now.place a.text.now.now) ≡ true) c.sign.ensures
                  (elim c.else-c-lt1.branch [
                    | else-c-lt1-via-then-c-lt1+else-not-more x ↦ sym c.sign_at-more.ensures ∙ x.if-not-more.false
                    | else-c-lt1-via-else-c-lt1 x ↦ let y = x.if-c-lt1.false in let g = c.if-c-lt1-2.true in absurd (omega (arith, g, y))
                  ]))
                  (c.requires.1 c.in-Some.form c.in-Some.ensures).1
                  (subst (λ (i : ℕ). Shifted a.r.now.out.now i a.r.now.next c.make_room.new.out) f c.make_room.ensures) refl refl refl),
            ),
            λ q. absurd (q refl),
          ),
    )

pub returns-then-more-clause-followed : goal.returns-then-more-clause-followed
returns-then-more-clause-followed c =
    let a = c.args in (
      refl,
      refl,
      λ r p node from n κ old at d w area was z h f l. (
        λ q. (
          (c.in-Some.form, c.in-Some.ensures),
          refl,
          one_of_more n κ a.text.now.now old at d w a.c area was a.r.now.out.now a.r.now _ a.m c.in-Some.form
              (turn_on n κ a.text.now.now old at d w a.c area was c.if-c-lt1-2.false z) h c.in-Some.ensures
              (subst (λ (y : ℕ). fitted y c.in-Some.form ≡ true) c.rank.ensures (sym c.if-not-fits.ensures)) l
              (subst (λ (y : ℕ). begins y (drop a.r.now.place a.text.now.now) ≡ true) c.sign.ensures (sym c.if-more.ensures)) refl refl refl,
        ),
        λ q. absurd (q refl),
      ),
    )

pub returns-clause-followed : goal.returns-clause-followed
returns-clause-followed c =
    let a = c.args in (
      refl,
      refl,
      λ r p node from n κ old at d w area was z h f l.
          let x = kind_of a.node in
          let put = subst (λ (i : ℕ). Written (record_of x (a.c + 1) 0 0) a.r.now.out.now i c.put_record.new.out) f
          (subst (λ (y : ℕ). Written (record_of y (a.c + 1) 0 0) a.r.now.out.now a.r.now.first c.put_record.new.out) c.kind.ensures c.put_record.ensures) in (
            λ q. cc,
            λ q. moved_read a.text.now.now at (whole n (drop at a.text.now.now)) old d c.put_record.new.out w a.r.now _ (Bare c.rank-2.result)
                (subst (λ (y : ℕ). Read a.text.now.now at (whole n (drop at a.text.now.now)) old d c.put_record.new.out w a.r.now (Bare y))
                (sym c.rank-2.ensures)
                (last_of_more n κ a.text.now.now old at d w a.c area was a.r.now.out.now _ a.r.now a.m c.in-Some.form
                (turn_on n κ a.text.now.now old at d w a.c area was c.if-c-lt1-2.false z) h c.in-Some.ensures
                (subst (λ (y : ℕ). fitted y c.in-Some.form ≡ true) c.rank.ensures (sym c.if-not-fits.ensures)) l
                (subst (λ (y : ℕ). begins y (drop a.r.now.place a.text.now.now) ≡ false) c.sign.ensures (sym c.if-more.ensures)) put (kind_least a.node)))
                refl refl refl,
          ),
    )

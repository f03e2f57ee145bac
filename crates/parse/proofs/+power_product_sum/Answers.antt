-- `parse::sum`, `product` and `power`, which call each other, meet their contracts.
use Rattle.std.proofs.Common.{◌≡◌, ℕ, ◌+◌, ◌-◌, List, length, drop, refl, sym, ap, ◌∙◌, arith}
use Rattle.paper_text.specs.Text.{read_power, read_product, read_sum}
use Rattle.paper_text.specs.Levels.{read_cut}
use Rattle.paper_text.proofs.PlaceLaws.{sign_inside}
use Rattle.parse.specs.declared.Read as level
use Rattle.parse.specs.declared.Reader.{Reader}
use Rattle.parse.specs.Parsed.{bared}
use Rattle.parse.specs.Joined.{Read, Inside, Turn, Followed, Ready, ReadFrom}
use Rattle.parse.proofs.LevelReads.{sums, products, sum_kind, product_kind, sum_whole, product_whole, group_read, last_level, no_group}
use Rattle.parse.proofs.TurnLaws.{no_other, read_as, turn_handed, Outcome, turn_outcome, at_first}
use Rattle.parse.proofs.+power_product_sum.Goals as goal
use Rattle.parse.proofs.+power_product_sum.Goals.{power-then-r-lt1-via-then-r-lt1, power-then-r-lt1-via-else-r-lt1+then-not-sign_at}

-- ---- power: the content of a group that is read
inside : (s : List ℕ) (st₀ : Reader) → Ready s st₀ → (out : List ℕ) (st : Reader) (m : level.Read) → st.first ≡ st₀.next
    → Read s (st₀.place + 1) (bared (read_sum (read_cut (st₀.level - 1)) (drop (st₀.place + 1) s))) st₀.out.now st₀.next out st₀.weight st m
    → Inside s st₀.place (read_sum (read_cut (st₀.level - 1)) (drop (st₀.place + 1) s)) st₀.out.now out st st₀.weight m
inside s st₀ q out st m f h =
    let low = q.1 in
    record {
      read = read_as s (st₀.place + 1) (st₀.place + 1) _ _ st₀.out.now st₀.next st.first out st₀.weight st₀.weight st m h refl refl (sym f) refl;
      low = omega (arith, f, low);
      light = q.2;
    }

pub power-returns-then-r-lt1-clause-left : goal.power-returns-then-r-lt1-clause-left
power-returns-then-r-lt1-clause-left t c =
    let s = c.args.text.now.now in
    let st = c.args.r.now in
    let up = c.raise.ensures.raised.0 refl in
    let alike : read_power (read_cut st.level) (drop st.place s) ≡ read_power (read_cut 0) (drop st.place s) =
    elim c.then-r-lt1.branch [
      | power-then-r-lt1-via-then-r-lt1 w ↦ last_level s st.place st.level w.if-r-lt1.true
      | power-then-r-lt1-via-else-r-lt1+then-not-sign_at w ↦ no_group s st.place st.level (sym w.sign_at.ensures ∙ w.if-not-sign_at.true)
    ] in (
      up.0,
      read_as s st.place st.place _ (read_power (read_cut st.level) (drop st.place s)) st.out.now st.next st.next c.raise.new.r.out.now st.weight st.weight
          c.raise.new.r c.raise.result up.1 refl (sym alike) refl refl,
    )

pub power-overflow_add-r : goal.power-overflow_add-r
power-overflow_add-r t c =
    let h = sign_inside c.args.text.now.now c.args.r.now.place 40 (sym c.sign_at.ensures ∙ c.if-not-sign_at.false) in
    let l = c.requires.0 in
    record { fits = omega (arith, h, l) }

pub power-sum-m-requires : goal.power-sum-m-requires
power-sum-m-requires t c =
    let h = sign_inside c.args.text.now.now c.args.r.now.place 40 (sym c.sign_at.ensures ∙ c.if-not-sign_at.false) in
    let m = c.decreases in
    let q = c.requires in
    let q1 = q.1 in
    let q2 = q.2 in
    let q3 = q.3 in
    (omega (arith, h, m), (q.0, omega (arith, q1), omega (arith, q2), omega (arith, q3)))

pub power-raise-requires-2 : goal.power-raise-requires-2
power-raise-requires-2 t c =
    let s = c.args.text.now.now in
    let st = c.args.r.now in
    let told = c.sum-m.ensures.left in
    let i = told.2 in
    let lv = told.0 in
    let l = c.if-r-lt1.false in
    let q3 = c.requires.3 in (
      λ h. absurd (no_other i.item _ _ _ i.given h),
      λ h. (
        omega (arith, lv, l, q3),
        (
          st.place,
          read_sum (read_cut (st.level - 1)) (drop (st.place + 1) s),
          st.out.now,
          inside s st c.requires c.sum-m.new.r.out.now c.sum-m.new.r c.sum-m.result told.1 told.2,
        ),
      ),
    )

pub power-returns-clause-left : goal.power-returns-clause-left
power-returns-clause-left t c =
    let s = c.args.text.now.now in
    let st = c.args.r.now in
    let told = c.sum-m.ensures.left in
    let i = told.2 in
    let lv = told.0 in
    let l = c.if-r-lt1.false in
    let r = c.raise-2 in
    let up = r.ensures.raised.1 (no_other i.item _ _ _ i.given) in
    let u0 = up.0 in (
      omega (arith, u0, lv, l),
      read_as s st.place st.place _ (read_power (read_cut st.level) (drop st.place s)) st.out.now _ st.next r.new.r.out.now st.weight st.weight r.new.r r.result
          (up.1 st.place (read_sum (read_cut (st.level - 1)) (drop (st.place + 1) s)) st.out.now
          (inside s st c.requires c.sum-m.new.r.out.now c.sum-m.new.r c.sum-m.result told.1 told.2))
          refl (sym (group_read s st.place st.level l (sym c.sign_at.ensures ∙ c.if-not-sign_at.false))) told.1 refl,
    )

-- ---- product: what is read as a member is what `products` reads there, and what a turn comes to
product_member : (s : List ℕ) (st₀ : Reader) (out₁ : List ℕ) (st₁ : Reader) (out : List ℕ) (st : Reader) (m : level.Read) → st₁.level ≡ st₀.level
    → ReadFrom s (λ n x. read_power (read_cut n) x) out₁ st₁ out st m
    → Read s st₁.place (read_power (read_cut st₀.level) (drop st₁.place s)) out₁ st₁.next out st₁.weight st m
product_member s st₀ out₁ st₁ out st m e h =
    read_as s st₁.place st₁.place _ _ out₁ st₁.next st₁.next out st₁.weight st₁.weight st m h refl
    (ap (λ (k : ℕ). read_power (read_cut k) (drop st₁.place s)) e) refl refl

product_outcome : (s out₀ : List ℕ) (st₀ : Reader) → Ready s st₀ → (c : ℕ) (out₁ : List ℕ) (st₁ : Reader) → st₁.level ≡ st₀.level
    → Turn (products (read_cut st₀.level)) s out₀ st₀.place st₀.next st₀.weight c out₁ st₁ → (out₂ : List ℕ) (st₂ : Reader) (m : level.Read)
    → st₂.level ≡ st₁.level → ReadFrom s (λ n x. read_power (read_cut n) x) out₁ st₁ out₂ st₂ m → length out₂ ≡ length out₁
    → (out : List ℕ) (st : Reader) (a : level.Read) → Followed 3 s c m out₂ (at_first st₂ st₀.next) out st a
    → Outcome 3 (products (read_cut st₀.level)) s out₀ st₀ c st₁ st₂ out st a × (st.level ≡ st₀.level)
product_outcome s out₀ st₀ r c out₁ st₁ e z out₂ st₂ m l told same out st a f =
    let inner = read_cut st₀.level in
    let o = turn_outcome (products inner) (product_kind inner) s out₀ st₀ r.1 r.2 c out₁ st₁ z out₂ st₂ m
    (product_member s st₀ out₁ st₁ out₂ st₂ m e told) out st a same f in
    (o, o.level ∙ l ∙ e)

pub product-after-requires : goal.product-after-requires
product-after-requires t c =
    let s = c.args.text.now.now in
    let st = c.args.r.now in
    let l = c.loop-c in
    let p = c.power-m in
    let q = c.requires in
    let inner = read_cut st.level in
    turn_handed (products inner) (product_kind inner) s st.out.now st q.1 q.2 l.c l.r.out.now l.r l.invariant.turn p.new.r.out.now p.new.r p.result
    (product_member s st l.r.out.now l.r p.new.r.out.now p.new.r p.result l.invariant.level p.ensures.left.1) q.0

pub product-returns-in_default-clause-left : goal.product-returns-in_default-clause-left
product-returns-in_default-clause-left t c =
    let s = c.args.text.now.now in
    let st = c.args.r.now in
    let l = c.loop-c in
    let i = l.invariant in
    let p = c.power-m in
    let f = c.after in
    let told = p.ensures.left in
    let o = product_outcome s st.out.now st c.requires l.c l.r.out.now l.r i.level i.turn p.new.r.out.now p.new.r p.result told.0 told.1
    p.ensures.area_kept.1 f.new.r.out.now f.new.r f.result f.ensures.followed in (
      o.1,
      read_as s st.place st.place _ (read_product (read_cut st.level) (drop st.place s)) st.out.now st.next st.next f.new.r.out.now
          st.weight st.weight f.new.r f.result (o.0.done c.in_default.not-Another) refl (sym (product_whole (read_cut st.level) (drop st.place s))) refl refl,
    )

pub product-loop-c-smaller : goal.product-loop-c-smaller
product-loop-c-smaller t c =
    let s = c.args.text.now.now in
    let st = c.args.r.now in
    let l = c.loop-c in
    let i = l.invariant in
    let p = c.power-m in
    let f = c.after in
    let told = p.ensures.left in
    let o = product_outcome s st.out.now st c.requires l.c l.r.out.now l.r i.level i.turn p.new.r.out.now p.new.r p.result told.0 told.1
    p.ensures.area_kept.1 f.new.r.out.now f.new.r f.result f.ensures.followed in
    o.0.less c.in-Another.is

pub product-loop-c-preserved : goal.product-loop-c-preserved
product-loop-c-preserved t c =
    let s = c.args.text.now.now in
    let st = c.args.r.now in
    let l = c.loop-c in
    let i = l.invariant in
    let p = c.power-m in
    let f = c.after in
    let told = p.ensures.left in
    let o = product_outcome s st.out.now st c.requires l.c l.r.out.now l.r i.level i.turn p.new.r.out.now p.new.r p.result told.0 told.1
    p.ensures.area_kept.1 f.new.r.out.now f.new.r f.result f.ensures.followed in
    record {
      level = o.1;
      turn = o.0.again c.in-Another.is;
      name = f.ensures.area_kept.0 ∙ p.ensures.area_kept.0 ∙ i.name;
      same = f.ensures.area_kept.1 ∙ p.ensures.area_kept.1 ∙ i.same;
    }

-- ---- sum: what is read as a member is what `sums` reads there, and what a turn comes to
sum_member : (s : List ℕ) (st₀ : Reader) (out₁ : List ℕ) (st₁ : Reader) (out : List ℕ) (st : Reader) (m : level.Read) → st₁.level ≡ st₀.level
    → ReadFrom s (λ n x. read_product (read_cut n) x) out₁ st₁ out st m
    → Read s st₁.place (read_product (read_cut st₀.level) (drop st₁.place s)) out₁ st₁.next out st₁.weight st m
sum_member s st₀ out₁ st₁ out st m e h =
    read_as s st₁.place st₁.place _ _ out₁ st₁.next st₁.next out st₁.weight st₁.weight st m h refl
    (ap (λ (k : ℕ). read_product (read_cut k) (drop st₁.place s)) e) refl refl

sum_outcome : (s out₀ : List ℕ) (st₀ : Reader) → Ready s st₀ → (c : ℕ) (out₁ : List ℕ) (st₁ : Reader) → st₁.level ≡ st₀.level
    → Turn (sums (read_cut st₀.level)) s out₀ st₀.place st₀.next st₀.weight c out₁ st₁ → (out₂ : List ℕ) (st₂ : Reader) (m : level.Read)
    → st₂.level ≡ st₁.level → ReadFrom s (λ n x. read_product (read_cut n) x) out₁ st₁ out₂ st₂ m → length out₂ ≡ length out₁
    → (out : List ℕ) (st : Reader) (a : level.Read) → Followed 2 s c m out₂ (at_first st₂ st₀.next) out st a
    → Outcome 2 (sums (read_cut st₀.level)) s out₀ st₀ c st₁ st₂ out st a × (st.level ≡ st₀.level)
sum_outcome s out₀ st₀ r c out₁ st₁ e z out₂ st₂ m l told same out st a f =
    let inner = read_cut st₀.level in
    let o = turn_outcome (sums inner) (sum_kind inner) s out₀ st₀ r.1 r.2 c out₁ st₁ z out₂ st₂ m
    (sum_member s st₀ out₁ st₁ out₂ st₂ m e told) out st a same f in
    (o, o.level ∙ l ∙ e)

pub sum-after-requires : goal.sum-after-requires
sum-after-requires t c =
    let s = c.args.text.now.now in
    let st = c.args.r.now in
    let l = c.loop-c in
    let p = c.product-m in
    let q = c.requires in
    let inner = read_cut st.level in
    turn_handed (sums inner) (sum_kind inner) s st.out.now st q.1 q.2 l.c l.r.out.now l.r l.invariant.turn p.new.r.out.now p.new.r p.result
    (sum_member s st l.r.out.now l.r p.new.r.out.now p.new.r p.result l.invariant.level p.ensures.left.1) q.0

pub sum-returns-in_default-clause-left : goal.sum-returns-in_default-clause-left
sum-returns-in_default-clause-left t c =
    let s = c.args.text.now.now in
    let st = c.args.r.now in
    let l = c.loop-c in
    let i = l.invariant in
    let p = c.product-m in
    let f = c.after in
    let told = p.ensures.left in
    let o = sum_outcome s st.out.now st c.requires l.c l.r.out.now l.r i.level i.turn p.new.r.out.now p.new.r p.result told.0 told.1
    p.ensures.area_kept.1 f.new.r.out.now f.new.r f.result f.ensures.followed in (
      o.1,
      o.0.first,
      read_as s st.place st.place _ (bared (read_sum (read_cut st.level) (drop st.place s))) st.out.now st.next st.next f.new.r.out.now
          st.weight st.weight f.new.r f.result (o.0.done c.in_default.not-Another) refl (sym (sum_whole (read_cut st.level) (drop st.place s))) refl refl,
    )

pub sum-loop-c-smaller : goal.sum-loop-c-smaller
sum-loop-c-smaller t c =
    let s = c.args.text.now.now in
    let st = c.args.r.now in
    let l = c.loop-c in
    let i = l.invariant in
    let p = c.product-m in
    let f = c.after in
    let told = p.ensures.left in
    let o = sum_outcome s st.out.now st c.requires l.c l.r.out.now l.r i.level i.turn p.new.r.out.now p.new.r p.result told.0 told.1
    p.ensures.area_kept.1 f.new.r.out.now f.new.r f.result f.ensures.followed in
    o.0.less c.in-Another.is

pub sum-loop-c-preserved : goal.sum-loop-c-preserved
sum-loop-c-preserved t c =
    let s = c.args.text.now.now in
    let st = c.args.r.now in
    let l = c.loop-c in
    let i = l.invariant in
    let p = c.product-m in
    let f = c.after in
    let told = p.ensures.left in
    let o = sum_outcome s st.out.now st c.requires l.c l.r.out.now l.r i.level i.turn p.new.r.out.now p.new.r p.result told.0 told.1
    p.ensures.area_kept.1 f.new.r.out.now f.new.r f.result f.ensures.followed in
    record {
      level = o.1;
      turn = o.0.again c.in-Another.is;
      name = f.ensures.area_kept.0 ∙ p.ensures.area_kept.0 ∙ i.name;
      same = f.ensures.area_kept.1 ∙ p.ensures.area_kept.1 ∙ i.same;
    }

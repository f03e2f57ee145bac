-- Each way through the loops is a step of the paper's walk (Steps), so that where the loops are left the whole walk's outcome is known.
use Rattle.std.proofs.Common.{◌≡◌, ℕ, ◌+◌, ◌-◌, ◌*◌, ◌%◌, ◌<◌, ◌≤◌, Bool, true, ◌&&◌, eqb, List, length, take, drop}
use Rattle.std.proofs.Common.{sym, refl, ap, ◌∙◌, subst, arith, length-take, length-drop, eqb-true}
use borrow.Rule.Slice.PartMut.{put_mid, take_put, same_len_mid}
use Rattle.paper.specs.Tree.{Tree, weight, records}
use Rattle.paper.proofs.Value.{total, list_weights}
use Rattle.paper.proofs.EncodeLaws.{records_weight}
use Rattle.paper.proofs.Tests.{and_both, true_not_false}
use Rattle.walk.specs.Numbers.{Lonely}
use Rattle.walk.specs.Stays.{stays}
use Rattle.walk.specs.Walked.{Walkable, Turned, Says}
use Rattle.walk.proofs.KeptLaws.{kept_where, new_where, lone_bit}
use Rattle.walk.proofs.LoneLaws.{lonely_moves}
use Rattle.walk.proofs.RoomLaws.{each_weighs}
use Rattle.walk.proofs.StaysLaws.{stays_itself}
use Rattle.walk.proofs.States.{common_done}
use Rattle.walk.proofs.Steps.{Outer, Inner, outer_begins, first, inner_begins, outer_lone, next, enough, inner_apart, inner_into, fitting}
use Rattle.walk.proofs.Steps.{outer_written, kept_news, new_news, outer_late, says_over, left_alone, says_answer}
use Rattle.walk.proofs.walk.Goals as goal
use Rattle.walk.proofs.walk.Goals.{in-Ok-Kept, in-Ok-New, in-Err-finish, else-walk-test, then-walk-test+in_default+then-loop-j-test+in-Err}

-- ---- `out` has room behind record d for all that the members may become, and the entries stand before record p of `work`
record Bounds (l : List Tree) (d p count : ℕ) (out work : List ℕ) : Type 0 where
  room : (d + (1 + total weight l)) * 16 ≤ length out
  light : total weight l < 65536
  low : count * 4 ≤ p * 16
  high : p * 16 ≤ length work
  heavy : count ≤ total weight l

bounds : {b : Bool} {l : List Tree} {d p count : ℕ} {out work : List ℕ} → Walkable b out work d p count l → Bounds l d p count out work
bounds {l = l} q =
    record {
      room = omega (arith, q.room, list_weights l);
      light = omega (arith, q.light, list_weights l);
      low = q.listed.low;
      high = q.listed.within;
      heavy = omega (arith, q.listed.many, each_weighs l);
    }

-- there is room for the member whose turn it is
its_room : {b : Bool} {l : List Tree} {o₀ w₀ : List ℕ} {d p count : ℕ} {o w : List ℕ} {n i e : ℕ} {late : Bool} {new f : ℕ}
    (s : Outer b l o₀ w₀ d p count o w n i e late new f) (less : i < n) → e + records (first s less).tree ≤ d + (1 + total weight l)
unfolding total
its_room s less = omega (arith, s.room, ap (total weight) (first s less).is, records_weight (first s less).tree)

-- alone, where there are as many members as before its turn
alone : {m n : ℕ} {A : Type 0} → (m ≡ n → A) → eqb m n ≡ true → A
alone {m} {n} f q = f (eqb-true m n q)

pub tell_lone-told-requires : goal.tell_lone-told-requires
tell_lone-told-requires c =
    let q = c.requires in
    let b = bounds q.1 in
    ((q.0, q.1.listed), omega (arith, b.light, b.heavy), omega (arith, b.room, b.heavy))

pub walk-init : goal.walk-init
walk-init c =
    let t = c.tell_lone-told.ensures in
    record {
      long = t.long;
      wide = t.only.wide;
      few = omega arith;
      calm = refl;
      lonely = t.lonely;
      few_new = omega arith;
      state = λ l h. outer_begins h t;
    }

-- ---- a turn begins: the member of entry i
pub keep-requires : goal.keep-requires
keep-requires c =
    let q = c.requires in
    let b = bounds q.1 in
    let v = c.walk.invariant in
    let s = v.state q.0 q.1 in
    let t = first s c.walk-test.true in
    record {
      member = t.tree;
      entry = t.entry;
      low = omega (arith, b.low, b.high, v.few, v.wide, c.walk-test.true);
      room = λ k. omega (arith, b.room, v.long, its_room s c.walk-test.true);
    }

-- it is alone with its key and stays, and was copied
pub walk-preserved-in-Some : goal.walk-preserved-in-Some
walk-preserved-in-Some c =
    let q = c.requires in
    let b = bounds q.1 in
    let v = c.walk.invariant in
    let terms = c.args.terms in
    let less = c.walk-test.true in
    let room : c.walk.e * 16 ≤ length c.walk.out = omega (arith, b.room, v.long, its_room (v.state q.0 q.1) less) in
    record {
      long = c.keep.auto.out ∙ v.long;
      wide = v.wide;
      few = v.few;
      calm = v.calm;
      lonely = v.lonely;
      few_new = omega (arith, v.few_new);
      state = λ l h.
          let s = v.state l h in
          let t = first s less in
          let k = kept_where (c.is_lone-alone.result && stays terms t.tree) t.tree _ _ c.walk.e _ (c.in-Some.ensures t.tree t.entry) in
          let both = and_both c.is_lone-alone.result (stays terms t.tree) k.0 in
          let bit = lone_bit _ c.tell_lone-told.result (sym c.is_lone-alone.ensures ∙ both.0) in
          outer_lone s less _ _ room (v.lonely bit.0) bit.1 (stays_itself terms t.tree t.entry.there.wf both.1) k.1 k.2;
    }

-- ---- else it is compared with the later ones
pub current-c-requires : goal.current-c-requires
current-c-requires c =
    let q = c.requires in
    let b = bounds q.1 in
    let v = c.walk.invariant in
    let t = first (v.state q.0 q.1) c.walk-test.true in
    (t.tree, t.entry, omega (arith, b.low, b.high, v.few, v.wide, c.walk-test.true))

pub loop-j-init : goal.loop-j-init
loop-j-init c =
    let g = c.args in
    let u = c.walk in
    let v = u.invariant in
    let less = c.walk-test.true in
    let key = c.read2-key.result % 32768 in
    record {
      long = c.keep.auto.out ∙ v.long;
      wide = v.wide;
      few = omega arith;
      calm = v.calm;
      lonely = v.lonely;
      state = λ l h.
          let s = v.state l h in
          let t = first s less in
          let same = new_where (c.is_lone-alone.result && stays g.terms t.tree) t.tree _ _ u.e (c.in_default.ensures t.tree t.entry) in
          subst
          (λ y. Inner g.terms l g.out.now g.work.now g.d g.p g.count y u.work u.n u.i u.e u.late u.new u.f c.current-c.result key u.n (u.i + 1))
          (sym same.1)
          (inner_begins s less c.current-c.result key (c.current-c.ensures.shows t.tree t.entry) c.current-c.ensures.place
          (ap (λ x. x % 32768) c.read2-key.ensures.0));
    }

pub overflow_mul-a : goal.overflow_mul-a
overflow_mul-a c =
    let q = c.requires in
    let v = c.loop-j.invariant in
    record { fits = omega (arith, (bounds q.1).room, v.long, enough (v.state q.0 q.1) c.loop-j-test.true) }

pub slice_bounds-meet-count : goal.slice_bounds-meet-count
slice_bounds-meet-count c =
    let q = c.requires in
    let v = c.loop-j.invariant in
    omega (arith, (bounds q.1).room, v.long, enough (v.state q.0 q.1) c.loop-j-test.true)

pub slice_bounds-meet-start : goal.slice_bounds-meet-start
slice_bounds-meet-start c =
    let q = c.requires in
    let v = c.loop-j.invariant in
    omega (arith, (bounds q.1).room, v.long, enough (v.state q.0 q.1) c.loop-j-test.true)

pub meet-requires : goal.meet-requires
meet-requires c =
    let q = c.requires in
    let b = bounds q.1 in
    let v = c.loop-j.invariant in
    let z = v.state q.0 q.1 in
    let x = next z c.loop-j-test.true in
    let big : c.walk.e * 16 + records x.tree ≤ length c.loop-j.out = omega (arith, b.room, v.long, enough z c.loop-j-test.true) in
    record {
      flag = c.args.terms;
      current = z.current;
      later = x.tree;
      shown = z.shown;
      keyed = z.keyed;
      entry = x.entry;
      low = omega (arith, b.low, b.high, v.wide, v.few, c.walk.invariant.few, c.loop-j-test.true);
      enough = simp (length-take, length-drop) (omega arith);
    }

-- ---- what the comparison left of `out`, whose end from byte `at` on was lent to it
module _ (at : ℕ) (out ticks : List ℕ) (fits : at ≤ length out) where
  ticks_behind : take at (put_mid at (length out - at) out ticks) ≡ take at out
  ticks_behind = take_put at (length out - at) out ticks (omega (arith, fits))

-- the member is passed by
pub loop-j-preserved-in-Ok-None : goal.loop-j-preserved-in-Ok-None
loop-j-preserved-in-Ok-None c =
    let g = c.args in
    let q = c.requires in
    let v = c.loop-j.invariant in
    let at = c.walk.e * 16 in
    let fits : at ≤ length c.loop-j.out = omega (arith, (bounds q.1).room, v.long, enough (v.state q.0 q.1) c.loop-j-test.true) in
    record {
      long = same_len_mid at (length c.loop-j.out - at) c.loop-j.out c.meet.new.ticks c.meet.auto.ticks ∙ v.long;
      wide = v.wide;
      few = v.few;
      calm = v.calm;
      lonely = v.lonely;
      state = λ l h.
          let z = v.state l h in
          let y = next z c.loop-j-test.true in
          let merged = rw c.in-Ok-None.field-0-is at c.in-Ok-None.ensures.merged_is in
          inner_apart z c.loop-j-test.true _ (ticks_behind at c.loop-j.out c.meet.new.ticks fits)
          (merged g.terms z.current y.tree z.shown z.keyed y.entry);
    }

-- the member is taken up, and the last one is the next to be met
pub loop-j-preserved : goal.loop-j-preserved
loop-j-preserved c =
    let g = c.args in
    let q = c.requires in
    let b = bounds q.1 in
    let s = c.loop-j in
    let v = s.invariant in
    let less = c.loop-j-test.true in
    let at = c.walk.e * 16 in
    let fits : at ≤ length s.out = omega (arith, b.room, v.long, enough (v.state q.0 q.1) less) in
    let few : s.n ≤ g.count = omega (arith, v.few, c.walk.invariant.few) in
    let high : g.p * 16 ≤ length s.work = omega (arith, b.high, v.wide) in
    let low : s.n * 4 ≤ g.p * 16 = omega (arith, b.low, few) in
    record {
      long = same_len_mid at (length s.out - at) s.out c.meet.new.ticks c.meet.auto.ticks ∙ v.long;
      wide = c.remove-j.auto.work ∙ v.wide;
      few = omega (arith, v.few);
      calm = v.calm;
      lonely = λ t.
          lonely_moves _ _ _ _ (omega arith) (omega (arith, low, high)) c.remove-j.ensures.0 _ _ (omega (arith, low))
          (subst (Lonely g.terms s.work g.p) (omega arith) (v.lonely t));
      state = λ l h.
          let z = v.state l h in
          let y = next z less in
          let merged = rw c.in-Ok-Some.field-0-is at c.in-Ok-Some.ensures.merged_is in
          let into = merged g.terms z.current y.tree z.shown z.keyed y.entry in
          let from = rw c.in-Ok-Some.field-0-is at c.in-Ok-Some.ensures.place in
          let place = from z.place in
          rw c.remove-j.ensures.1
          (inner_into z less _ _ _ into.0 (ticks_behind at s.out c.meet.new.ticks fits) into.1 into.2 place (omega (arith, low)) high
          c.remove-j.ensures.0);
    }

-- ---- it has met all later members, and the part that it has become is written
pub finish-requires : goal.finish-requires
finish-requires c =
    let q = c.requires in
    let b = bounds q.1 in
    let v = c.loop-j.invariant in
    let z = v.state q.0 q.1 in
    let f = fitting z c.loop-j-test.false in
    record {
      current = z.current;
      member = z.member;
      turned = record { shown = z.shown; entry = z.own_entry; own = alone z.own };
      low = omega (arith, b.low, b.high, v.wide, v.few, c.walk.invariant.few, z.behind, z.many);
      fitting = record { room = omega (arith, b.room, v.long, f.0); light = omega (arith, b.light, f.1) };
    }

-- it is copied, or written as new, up to the record that e becomes; or it is out of range, and `late` becomes true
pub walk-preserved : goal.walk-preserved
walk-preserved c =
    let g = c.args in
    let q = c.requires in
    let b = bounds q.1 in
    let u = c.walk.invariant in
    let s = c.loop-j in
    let v = s.invariant in
    let all = c.loop-j-test.false in
    let room : c.walk.e * 16 ≤ length s.out = omega (arith, b.room, v.long, (fitting (v.state q.0 q.1) all).0) in
    record {
      long = c.finish.auto.out ∙ v.long;
      wide = v.wide;
      few = omega (arith, u.few, v.few);
      calm = v.calm;
      lonely = v.lonely;
      few_new = elim c.match-finish.branch [
        | in-Ok-Kept w ↦ omega (arith, u.few_new, w.new-is)
        | in-Ok-New w ↦ omega (arith, u.few_new, w.new-is)
        | in-Err-finish w ↦ omega (arith, u.few_new, w.new-is)
      ];
      state = λ l h.
          let z = v.state l h in
          let turned : Turned g.terms s.work g.p c.walk.i s.c (eqb s.n c.walk.n) z.current z.member =
          record { shown = z.shown; entry = z.own_entry; own = alone z.own } in
          elim c.match-finish.branch [
            | in-Ok-Kept w ↦
                let told = rw w.in-Ok-Kept.field-0-is at w.in-Ok-Kept.ensures in
                let to = told z.current z.member turned in
                rw (w.e-is, w.late-is, w.new-is, w.f-is) (outer_written z all _ _ room to.2.0 to.2.1 to.2.2 _ _ (kept_news z all to.1))
            | in-Ok-New w ↦
                let told = rw w.in-Ok-New.field-0-is at w.in-Ok-New.ensures in
                let to = (told z.current z.member turned).1 in
                rw (w.e-is, w.late-is, w.new-is, w.f-is) (outer_written z all _ _ room to.0 to.1 to.2 _ _ (new_news z all))
            | in-Err-finish w ↦
                let out = (w.in-Err-finish.ensures z.current z.member turned).1 in
                rw (w.e-is, w.late-is, w.new-is, w.f-is) (outer_late z all _ out.0 out.1)
          ];
    }

-- ---- the ways out of the walk meet behind the outer loop: either the outer test failed, and the state between two turns holds with no member left;
-- or the label was left by the break, where a merge left the range, and then the paper's rule leaves it too
pub returns-then-over : goal.returns-then-over
returns-then-over c = λ l h.
    let g = c.args in
    let q = c.requires in
    elim c.walk-test.branch [
      | else-walk-test w ↦ absurd (true_not_false c.if-over.true (w.over-is ∙ c.walk.invariant.calm))
      | then-walk-test+in_default+then-loop-j-test+in-Err w ↦
          let v = w.loop-j.invariant in
          let z = v.state l h in
          let less = w.loop-j-test.true in
          let y = next z less in
          let fits : c.walk.e * 16 ≤ length w.loop-j.out = omega (arith, (bounds q.1).room, v.long, enough (v.state q.0 q.1) less) in
          let bad = w.in-Err.ensures.merged_is g.terms z.current y.tree z.shown z.keyed y.entry in
          let stays = left_alone z _ (ticks_behind (c.walk.e * 16) w.loop-j.out w.meet.new.ticks fits) in
          record {
            answers = says_over z less bad.0 bad.1 bad.2;
            pending = ap (drop (g.p * 16)) w.work-is ∙ stays.0;
            done = ap (take (g.d * 16)) w.out-is ∙ stays.1;
          }
    ]

pub returns : goal.returns
returns c = λ l h.
    let g = c.args in
    let u = c.walk in
    let x = c.walk-test in
    elim c.walk-test.branch [
      | else-walk-test w ↦
          let s : Outer g.terms l g.out.now g.work.now g.d g.p g.count x.out x.work x.n u.i u.e u.late u.new u.f =
          rw (w.out-is, w.work-is, w.n-is) (u.invariant.state l h) in
          record {
            answers = subst (Says g.terms l g.out.now x.out g.d) (sym c.answer.ensures) (says_answer s (omega (arith, w.walk-test.false, w.n-is)));
            pending = s.common.pending;
            done = common_done s.common;
          }
      | then-walk-test+in_default+then-loop-j-test+in-Err w ↦ absurd (true_not_false w.over-is c.if-over.false)
    ]

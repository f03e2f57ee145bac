-- Trees with other numbers of members differ. A turn of the loop over the members of a takes an equal one of b away; where there is none to take,
-- the trees differ. All taken, the exponents of powers decide (MemberLaws).
-- A tree of the row, where it is unticked, is compared with its tick set: equal, it is the one that is taken; else its tick is cleared again, and it
-- is passed over like one that was ticked before.
use Prim.Native.Nat.{ℕ, ◌+◌, ◌-◌, ◌≤◌, ◌<◌}
use mathlib.Core.Path.{◌≡◌, refl, sym, ap, ◌∙◌, subst}
use mathlib.Core.List.{List}
use mathlib.Core.Bool.{true, false}
use mathlib.Core.Option.{none, some}
use native.Mathlib.Omega.{arith}
use lib.ListN.{length, get_or, length-set, replicate}
use Rattle.paper.specs.Tree.{Tree, records, recordses}
use Rattle.paper.specs.Equal.{equal, remove_first}
use Rattle.stretch.specs.Put.{put}
use Rattle.note.specs.Plain.{parts_of}
use Rattle.note.proofs.ToldLaws.{record_within, some_told}
use Rattle.split.specs.Standing.{Told}
use Rattle.equal.specs.Head.{members_in}
use Rattle.equal.specs.Matching.{unticked, match_of, Alike, Kept}
use Rattle.equal.proofs.SameLaws.{match_ends, match_differs, is_different}
use Rattle.equal.proofs.HeadLaws.{candidate_free, candidate_begins, passed_by}
use Rattle.equal.proofs.TickLaws.{cleared, cleared_kept, kept_on}
use Rattle.equal.proofs.TickLaws.{ticked_at, ticked_back, Looked, looked_none, looked_tree, looked_pair, looked_next, looked_found}
use Rattle.equal.proofs.MemberLaws.{members_there, members_few, same_members, members_differ, members_fewer, members_passable, members_end}
use Rattle.equal.proofs.MatchLaws.{Matched, matched_done, matched_tree, matched_takeable, none_passed, matched_none, matched_more}
use Rattle.equal.proofs.MatchLaws.{members_room, all_members, members_start}
use Rattle.equal.proofs.+match_members_take_equal.Goals as goal
use Rattle.equal.proofs.+match_members_take_equal.Goals.{take_equal-then-is_candidate+in_default, take_equal-else-is_candidate}

-- ---- the ticks of the members
-- there is room for them
room : {a : List ℕ} {i : ℕ} {b : List ℕ} {j : ℕ} (us : List ℕ) (u n : ℕ) → Alike a i b j (length us - u) → u ≤ length us → n ≡ members_in a i
    → n ≡ members_in b j → u + n ≤ length us
room us u n p l one other = omega (arith, members_room p.one_there p.other_there n one other _ p.enough)

-- cleared, they are free
free : (us us' : List ℕ) (u n : ℕ) → u ≤ length us → us' ≡ put us u (replicate n 0) → (x : ℕ) → u ≤ x → x < u + n → get_or us' x 0 ≡ 0
free us us' u n l e x p h = ap (λ (vs : List ℕ). get_or vs x 0) e ∙ cleared us u n x l p h

-- those before them are kept
kept_at : {us vs : List ℕ} (n u : ℕ) → n ≡ u → Kept n us vs → Kept u us vs
kept_at {us} {vs} n u q h = subst (λ n. Kept n us vs) q h

-- all are matched: the members are the same
all : {how : Tree → ℕ} {a : List ℕ} {i : ℕ} {b : List ℕ} {j : ℕ} {t u : Tree} (h : Told how a i t) (g : Told how b j u) (n : ℕ)
    → n ≡ members_in a i → n ≡ members_in b j → (v : ℕ) (us₀ us : List ℕ) → ((k : ℕ) → v ≤ k → k < v + n → get_or us₀ k 0 ≡ 0)
    → {at left : ℕ} → Matched how a (i + 1) false v us₀ us (parts_of t) (parts_of u) at left → left ≡ 0
    → (same_members t u ≡ true) × (at ≡ i + 1 + recordses (parts_of t))
all h g n one other v us₀ us z m e = let d = matched_done m e in (sym (all_members h g n one other v us₀ z) ∙ d.0, d.1)

pub match_members-members_of-n-requires : goal.match_members-members_of-n-requires
match_members-members_of-n-requires t c = record_within c.requires.0.one_there

pub match_members-members_of-requires : goal.match_members-members_of-requires
match_members-members_of-requires t c = record_within c.requires.0.other_there

pub match_members-returns-then-n-members_of-clause-by_index : goal.match_members-returns-then-n-members_of-clause-by_index
match_members-returns-then-n-members_of-clause-by_index t c =
    λ how x y h g.
    is_different _
    (members_fewer h g c.requires.0.begin (λ e. c.if-n-members_of.true (c.members_of-n.ensures ∙ e ∙ sym c.members_of.ensures)))

pub match_members-clear-requires : goal.match_members-clear-requires
match_members-clear-requires t c =
    let w = c.args.w.now in
    room w.ticks.now w.used c.members_of-n.result c.requires.0 c.requires.1.within c.members_of-n.ensures
    (c.if-n-members_of.false ∙ c.members_of.ensures)

pub match_members-overflow_add-w : goal.match_members-overflow_add-w
match_members-overflow_add-w t c = omega (arith, record_within c.requires.0.one_there, c.requires.1.one_short)

pub match_members-overflow_add-w-2 : goal.match_members-overflow_add-w-2
match_members-overflow_add-w-2 t c =
    let w = c.args.w.now in
    omega (
      arith,
      room w.ticks.now w.used c.members_of-n.result c.requires.0 c.requires.1.within c.members_of-n.ensures
          (c.if-n-members_of.false ∙ c.members_of.ensures),
      c.requires.1.ticks_short,
    )

pub match_members-loop-init : goal.match_members-loop-init
match_members-loop-init t c =
    let w = c.args.w.now in
    let n = c.members_of-n.result in
    let one = c.members_of-n.ensures in
    let other = c.if-n-members_of.false ∙ c.members_of.ensures in
    let none_matched : n - 0 ≡ n = omega arith in
    record {
      used = refl;
      ahead = omega arith;
      kept = subst (Kept w.used w.ticks.now) (sym c.clear.ensures)
          (cleared_kept w.ticks.now w.used n (room w.ticks.now w.used n c.requires.0 c.requires.1.within one other));
      matched = λ how x y h g.
          rw none_matched (members_start h g n one other w.used c.clear.new.d (free w.ticks.now c.clear.new.d w.used n c.requires.1.within c.clear.ensures));
      same_reference = refl;
    }

pub match_members-overflow_add-j : goal.match_members-overflow_add-j
match_members-overflow_add-j t c = omega (arith, record_within c.requires.0.other_there, c.requires.1.other_short)

pub match_members-members_of-requires-in-loop : goal.match_members-members_of-requires-in-loop
match_members-members_of-requires-in-loop t c = record_within c.requires.0.other_there

pub match_members-take_equal-requires : goal.match_members-take_equal-requires
match_members-take_equal-requires t c =
    let w = c.args.w.now in
    let p = c.requires.0 in
    let level = c.requires.1 in
    let n = c.members_of-n.result in
    let other = c.if-n-members_of.false ∙ c.members_of.ensures in
    let count = c.members_of-in-loop in
    let same : count.result ≡ n = count.ensures ∙ sym other in
    let space = room w.ticks.now w.used n p level.within c.members_of-n.ensures other in
    let l = c.loop in
    let m = l.invariant.matched p.how p.one p.other p.one_there p.other_there in
    let next = matched_tree m (omega arith) in (
      omega (arith, c.decreases, l.invariant.ahead, record_within next.1),
      (
        matched_takeable m (omega arith) _ (members_there p.other_there count.result count.ensures)
            (omega (arith, p.enough, members_few p.other, l.invariant.kept.as_long, l.invariant.used, same, space)),
        omega (arith, l.invariant.used, same),
        record {
          within = omega (arith, l.invariant.used, space, l.invariant.kept.as_long);
          one_short = level.one_short;
          other_short = level.other_short;
          ticks_short = omega (arith, level.ticks_short, l.invariant.kept.as_long);
        },
      ),
    )

pub match_members-members_of-requires-in-None : goal.match_members-members_of-requires-in-None
match_members-members_of-requires-in-None t c = record_within c.requires.0.other_there

pub match_members-returns-in-None-clause-by_index : goal.match_members-returns-in-None-clause-by_index
match_members-returns-in-None-clause-by_index t c =
    let w = c.args.w.now in
    let n = c.members_of-n.result in
    let one = c.members_of-n.ensures in
    let other = c.if-n-members_of.false ∙ c.members_of.ensures in
    let count = c.members_of-in-loop in
    let same : count.result ≡ n = count.ensures ∙ sym other in
    let l = c.loop in
    let base : l.w.used - count.result ≡ w.used = omega (arith, same, l.invariant.used) in
    let zero = free w.ticks.now c.clear.new.d w.used n c.requires.1.within c.clear.ensures in
    λ how x y h g.
    is_different _
    (members_differ h g c.requires.0.begin
    (sym (all_members h g n one other w.used c.clear.new.d zero)
    ∙ matched_none (l.invariant.matched how x y h g) (omega arith) (none_passed _ _)
    (λ v o.
    subst (λ u. remove_first (equal v) (unticked l.w.ticks.now u (parts_of y)) ≡ none) base
    (c.in-None.ensures.by_index how v (parts_of y) o (members_there g count.result count.ensures)))))

pub match_members-loop-preserved : goal.match_members-loop-preserved
match_members-loop-preserved t c =
    let w = c.args.w.now in
    let p = c.requires.0 in
    let n = c.members_of-n.result in
    let other = c.if-n-members_of.false ∙ c.members_of.ensures in
    let count = c.members_of-in-loop in
    let same : count.result ≡ n = count.ensures ∙ sym other in
    let l = c.loop in
    let after = c.take_equal in
    let e = c.in-Some.e in
    let left : n - l.counter - 1 ≡ n - (l.counter + 1) = omega arith in
    let base : l.w.used - count.result ≡ w.used = omega (arith, same, l.invariant.used) in
    let m = l.invariant.matched p.how p.one p.other p.one_there p.other_there in
    let next = matched_tree m (omega arith) in
    let says = λ (how : Tree → ℕ) (x y : Tree) (h : Told how c.args.a.now.now l.w.place x) (g : Told how c.args.b.now.now c.args.j y).
    subst (λ u. (e ≡ l.w.place + records x)
    × (remove_first (equal x) (unticked l.w.ticks.now u (parts_of y)) ≡ some (unticked after.new.w.ticks.now u (parts_of y)))) base
    (c.in-Some.ensures.by_index how x (parts_of y) h (members_there g count.result count.ensures)) in
    record {
      used = c.in-Some.ensures.at_unchanged.1 ∙ l.invariant.used;
      ahead = omega (arith, (says p.how next.0 p.other next.1 p.other_there).0, l.invariant.ahead);
      kept = kept_on l.invariant.kept (kept_at _ w.used base c.in-Some.ensures.at_unchanged.2);
      matched = λ how x y h g.
          rw (← left)
          (matched_more (l.invariant.matched how x y h g) (omega arith) (none_passed _ _) after.new.w.ticks.now e (λ v o. says how v y o g));
      same_reference = c.in-Some.ensures.at_unchanged.3 ∙ l.invariant.same_reference;
    }

pub match_members-members_of-requires-2 : goal.match_members-members_of-requires-2
match_members-members_of-requires-2 t c = record_within c.requires.0.other_there

pub match_members-past_exponent-requires : goal.match_members-past_exponent-requires
match_members-past_exponent-requires t c =
    let w = c.args.w.now in
    let p = c.requires.0 in
    let n = c.members_of-n.result in
    let other = c.if-n-members_of.false ∙ c.members_of.ensures in
    let l = c.loop in
    let zero = free w.ticks.now c.clear.new.d w.used n c.requires.1.within c.clear.ensures in
    let m = l.invariant.matched p.how p.one p.other p.one_there p.other_there in
    let done = all p.one_there p.other_there n c.members_of-n.ensures other w.used c.clear.new.d l.w.ticks.now zero m (omega arith) in
    members_passable p.one_there p.other_there p.begin l.w.place done.0 done.1

pub match_members-returns-clause-by_index : goal.match_members-returns-clause-by_index
match_members-returns-clause-by_index t c =
    let w = c.args.w.now in
    let n = c.members_of-n.result in
    let other = c.if-n-members_of.false ∙ c.members_of.ensures in
    let l = c.loop in
    let zero = free w.ticks.now c.clear.new.d w.used n c.requires.1.within c.clear.ensures in
    λ how x y h g.
    let done = all h g n c.members_of-n.ensures other w.used c.clear.new.d l.w.ticks.now zero (l.invariant.matched how x y h g) (omega arith) in
    c.past_exponent.ensures ∙ members_end h g c.requires.0.begin l.w.place done.0 done.1

-- ---- take_equal
pub take_equal-is_candidate-requires : goal.take_equal-is_candidate-requires
take_equal-is_candidate-requires t c =
    let p = c.requires.0 in
    let l = c.loop-k in
    let look = l.invariant.looked p.how p.one p.others p.one_there p.others_there in
    let more : l.k < c.args.w.now.used = omega (arith, l.invariant.used) in
    (some_told (subst (λ k. Told p.how c.args.a.now.now k p.one) (sym l.invariant.place) p.one_there), some_told (looked_tree look more).1)

pub take_equal-match_members-requires : goal.take_equal-match_members-requires
take_equal-match_members-requires t c =
    let a = c.args in
    let p = c.requires.0 in
    let level = c.requires.2 in
    let l = c.loop-k in
    let look = l.invariant.looked p.how p.one p.others p.one_there p.others_there in
    let more : l.k < a.w.now.used = omega (arith, l.invariant.used) in
    let there = subst (λ k. Told p.how a.a.now.now k p.one) (sym l.invariant.place) p.one_there in
    let begins = candidate_begins a.a.now.now l.w.place a.b.now.now l.c _ (sym c.is_candidate.ensures ∙ c.if-is_candidate.true) in
    let long = length-set l.w.ticks.now l.k 1 in (
      omega (arith, c.decreases, l.invariant.place),
      (
        looked_pair look more _ there begins
            (omega (arith, p.enough, level.within, l.invariant.as_long, l.invariant.used, long, c.requires.1)),
        record {
          within = omega (arith, level.within, l.invariant.as_long, l.invariant.used, long);
          one_short = level.one_short;
          other_short = level.other_short;
          ticks_short = omega (arith, level.ticks_short, l.invariant.as_long, long);
        },
      ),
    )

pub take_equal-returns-in-Some-clause-by_index : goal.take_equal-returns-in-Some-clause-by_index
take_equal-returns-in-Some-clause-by_index t c =
    let a = c.args in
    let l = c.loop-k in
    let r = c.match_members in
    let more : l.k < a.w.now.used = omega (arith, l.invariant.used) in
    let free_tick = candidate_free a.a.now.now l.w.place a.b.now.now l.c _ (sym c.is_candidate.ensures ∙ c.if-is_candidate.true) in
    let ticked = ticked_at l.w.ticks.now r.new.w.ticks.now a.w.now.used l.k (omega (arith, c.requires.2.within, l.invariant.as_long)) more
    (kept_at _ a.w.now.used l.invariant.used c.in-Some.ensures.at_unchanged.2) in
    let says = λ (how : Tree → ℕ) (x u : Tree) (h : Told how a.a.now.now a.w.now.place x) (v : Told how a.b.now.now l.c u).
    match_ends (equal x u) (a.w.now.place + records x) c.in-Some.e
    (sym
    (c.in-Some.ensures.by_index how x u (subst (λ p. Told how a.a.now.now p x) (sym l.invariant.place) h) v
    ∙ ap (λ p. match_of (equal x u) (p + records x)) l.invariant.place)) in
    λ how x g h q.
    let found = l.invariant.looked how x g h q in
    let o = looked_tree found more in
    ((says how x o.0 h o.1).1, looked_found found more r.new.w.ticks.now ticked free_tick (λ u v. (says how x u h v).0))

pub take_equal-returns-in-Some-clause-at_unchanged : goal.take_equal-returns-in-Some-clause-at_unchanged
take_equal-returns-in-Some-clause-at_unchanged t c =
    let a = c.args in
    let p = c.requires.0 in
    let l = c.loop-k in
    let r = c.match_members in
    let more : l.k < a.w.now.used = omega (arith, l.invariant.used) in
    let kept = kept_at _ a.w.now.used l.invariant.used c.in-Some.ensures.at_unchanged.2 in
    let ticked = ticked_at l.w.ticks.now r.new.w.ticks.now a.w.now.used l.k (omega (arith, c.requires.2.within, l.invariant.as_long)) more kept in
    let look = l.invariant.looked p.how p.one p.others p.one_there p.others_there in (
      c.in-Some.ensures.at_unchanged.0 ∙ l.invariant.place,
      c.in-Some.ensures.at_unchanged.1 ∙ l.invariant.used,
      record {
        as_long = kept.as_long ∙ length-set l.w.ticks.now l.k 1 ∙ l.invariant.as_long;
        same = λ n o.
            ticked.others n (omega (arith, more, l.invariant.from)) (λ d. omega (arith, l.invariant.from))
            ∙ look.kept n (omega (arith, more, l.invariant.from));
      },
      c.in-Some.ensures.at_unchanged.3 ∙ l.invariant.same_reference,
    )

pub take_equal-skip_tree-c-requires : goal.take_equal-skip_tree-c-requires
take_equal-skip_tree-c-requires t c =
    let p = c.requires.0 in
    let l = c.loop-k in
    let look = l.invariant.looked p.how p.one p.others p.one_there p.others_there in
    let more : l.k < c.args.w.now.used = omega (arith, l.invariant.used) in
    some_told (looked_tree look more).1

pub take_equal-loop-k-preserved : goal.take_equal-loop-k-preserved
take_equal-loop-k-preserved t c =
    let a = c.args in
    let b = a.b.now.now in
    let l = c.loop-k in
    let past = c.skip_tree-c in
    let more : l.k < a.w.now.used = omega (arith, l.invariant.used) in
    let is = sym c.is_candidate.ensures in
    elim c.if-is_candidate.branch [
      | take_equal-then-is_candidate+in_default w ↦
          let r = w.match_members in
          let free_tick = candidate_free a.a.now.now l.w.place b l.c _ (is ∙ w.if-is_candidate.true) in
          let kept = kept_at _ a.w.now.used l.invariant.used w.in_default.ensures.at_unchanged.2 in
          let ticked = ticked_at l.w.ticks.now r.new.w.ticks.now a.w.now.used l.k (omega (arith, c.requires.2.within, l.invariant.as_long)) more kept in
          let now = ap (λ v. v.ticks.now) w.w-is in
          record {
            place = ap (λ v. v.place) w.w-is ∙ w.in_default.ensures.at_unchanged.0 ∙ l.invariant.place;
            used = ap (λ v. v.used) w.w-is ∙ w.in_default.ensures.at_unchanged.1 ∙ l.invariant.used;
            from = omega (arith, l.invariant.from);
            up_to = omega (arith, more);
            as_long = ap length now ∙ length-set r.new.w.ticks.now l.k 0 ∙ kept.as_long ∙ length-set l.w.ticks.now l.k 1 ∙ l.invariant.as_long;
            looked = λ how x g h q.
                subst (λ us. Looked how x b (a.w.now.used - a.m) a.w.now.used a.w.now.ticks.now us g past.result (l.k + 1)) (sym now)
                (looked_next (l.invariant.looked how x g h q) more _ past.result (ticked_back ticked _ (sym free_tick)) (past.ensures how)
                (λ z u v. match_differs (equal x u) (l.w.place + records x)
                (sym (w.in_default.ensures.by_index how x u (subst (λ p. Told how a.a.now.now p x) (sym l.invariant.place) h) v))));
            same_reference = ap (λ v. v.ticks.ghost_name) w.w-is ∙ w.in_default.ensures.at_unchanged.3 ∙ l.invariant.same_reference;
          }
      | take_equal-else-is_candidate w ↦
          let now = ap (λ v. v.ticks.now) w.w-is in
          record {
            place = ap (λ v. v.place) w.w-is ∙ l.invariant.place;
            used = ap (λ v. v.used) w.w-is ∙ l.invariant.used;
            from = omega (arith, l.invariant.from);
            up_to = omega (arith, more);
            as_long = ap length now ∙ l.invariant.as_long;
            looked = λ how x g h q.
                subst (λ us. Looked how x b (a.w.now.used - a.m) a.w.now.used a.w.now.ticks.now us g past.result (l.k + 1)) (sym now)
                (looked_next (l.invariant.looked how x g h q) more l.w.ticks.now past.result (λ n v. refl) (past.ensures how)
                (λ z u v. passed_by (subst (λ p. Told how a.a.now.now p x) (sym l.invariant.place) h) v _ (is ∙ w.if-is_candidate.false) z));
            same_reference = ap (λ v. v.ticks.ghost_name) w.w-is ∙ l.invariant.same_reference;
          }
    ]

pub take_equal-returns-clause-by_index : goal.take_equal-returns-clause-by_index
take_equal-returns-clause-by_index t c =
    let l = c.loop-k in
    λ how x g h q. looked_none (l.invariant.looked how x g h q) (omega (arith, l.invariant.used))

pub take_equal-returns-clause-at_unchanged : goal.take_equal-returns-clause-at_unchanged
take_equal-returns-clause-at_unchanged t c =
    let p = c.requires.0 in
    let l = c.loop-k in
    let look = l.invariant.looked p.how p.one p.others p.one_there p.others_there in (
      l.invariant.place,
      l.invariant.used,
      record { as_long = l.invariant.as_long; same = λ n o. look.kept n (omega arith) },
      l.invariant.same_reference,
    )

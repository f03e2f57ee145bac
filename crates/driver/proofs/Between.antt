-- The driver between two members. Its numbers stay small, since all that is done and noted was paid for by the weight of the tree that it was
-- called on. A pass begins with all members pending; a member that is kept at once, and then a member's result, is gathered; the next member weighs
-- less than the tree; and where none is left the pass ends: finished, refused, or with the gathered node to be taken up. Each is a law of Driving,
-- Membering or Passing for the numbers as the driver holds them.
use Prim.Native.Nat.{ℕ, ◌+◌, ◌-◌, ◌*◌, ◌^◌, ◌<◌, ◌≤◌}
use mathlib.Core.Path.{◌≡◌, refl, sym, ap, ◌∙◌, subst}
use mathlib.Core.Bool.{Bool, true, false, ◌&&◌}
use mathlib.Core.List.{List, [], ◌∷◌, ◌++◌, append-nil}
use native.Mathlib.Omega.{arith}
use lib.Dec.{eqb}
use lib.ListN.{length, take, drop}
use lib.Seq.{drop_at, length-take-le, take-take, get_or-take}
use Rattle.paper.specs.Tree.{Tree, of_list, weight}
use Rattle.paper.specs.Record.{kind, count_in, arity, is_node}
use Rattle.paper.specs.Rules.{rules_of}
use Rattle.paper.specs.Verdict.{table_weight}
use Rattle.paper.specs.Driver.{over, each, members}
use Rattle.paper.specs.Cost.{cost}
use Rattle.paper.proofs.EncodeLaws.{recordses_weights, records_weight}
use Rattle.rules.specs.Asked.{Ready}
use Rattle.stretch.specs.Put.{part, put}
use Rattle.driver.specs.declared.Stand.{Stand}
use Rattle.std.specs.Prelude.{None, Some, Result, Ok, Err}
use Rattle.driver.specs.declared.LeftRange.{LeftRange}
use Rattle.driver.specs.declared.Settled.{Settled}
use Rattle.driver.specs.declared.TakenUp.{TakenUp}
use Rattle.driver.specs.declared.TakenUp.TheVariants as taken
use Rattle.driver.specs.declared.Turn.TheVariants as turn
use Rattle.driver.specs.Driven.{kind_number, with_notes, encode_all, weight_all, first_record, inside, opened_runs, passed, closed_over}
use Rattle.driver.specs.Driven.{Set, Back, TakenIs, KeptWhole, KeptIs, Drove, Gave, Gathers, Closed}
use Rattle.driver.specs.Paused.{begun_at, joined_to, kept_by, ended_at, entered, returned, Onward, Call, call, run_of, Called, Fell, Reached, Come, Gathering}
use Rattle.driver.specs.Paused.{Midway, Resumed, WentOn, TurnIs}
use Rattle.driver.proofs.Forests.{members_weigh, front_long}
use Rattle.driver.proofs.Weighs.{weighs_all, weighs_tree}
use Rattle.driver.proofs.Places.{front_of_lem}
use Rattle.driver.proofs.Runs.{drives, drives_kept, run_lighter}
use Rattle.driver.proofs.Counting.{cost_both, cost_steps}
use Rattle.driver.proofs.FirstRecords.{kind_there_first}
use Rattle.driver.proofs.Opening.{one_over, member_fits, as_it_is, opened_up}
use Rattle.driver.proofs.Keeping.{kept_gathered}
use Rattle.driver.proofs.Membering as membering
use Rattle.driver.proofs.Passing as passing
use Rattle.driver.proofs.Driving as driving

-- ---- a pass begins
module _ {c : Call} (called : Called c) {out work steps : List ℕ} {q n o τ : ℕ}
    (come : Come c.stand.edition c.tree c.rest c.out c.work c.steps c.stand.node
    c.stand.place c.stand.noted out work steps q n o τ) where
  pub begin_fits : (c.stand.node * 16 + 16 ≤ length out) × (q * 16 + 16 ≤ length work) × (n + (c.stand.openings + o) < 65536)
  begin_fits =
      let f = passing.record_fits (driving.set_now come) in
      (f.1, f.0, omega (arith, called.few, come.lighter, come.noted_end))

  pub begun : (s : Stand) → s.node ≡ c.stand.node → s.edition ≡ c.stand.edition → s.openings ≡ c.stand.openings + o
      → (τ' : ℕ) → τ' ≡ c.stand.tries + τ
      → (out' : List ℕ) → out' ≡ put out (s.node * 16) (part work (q * 16) 16) → length out' ≡ length out
      → Midway c out' work steps (begun_at s q n τ' (arity work q))
  begun s nd ed op τ' ti out' w lo =
      let d = c.stand.node in
      let set_now = driving.set_now come in
      let k = kind_number come.u in
      let put-now : out' ≡ put out (d * 16) (part work (q * 16) 16) = w ∙ ap (λ i. put out (i * 16) (part work (q * 16) 16)) nd in
      let all : Gathering c.stand.edition (members come.u) c.rest out' work steps k (d + 1) (q + 1)
      n out' work steps (length (members come.u)) (d + 1) (q + 1) n 0 0 0
      = membering.start k (passing.members_set set_now out' put-now lo) in
      record {
        called = called;
        out₁ = out;
        work₁ = work;
        steps₁ = steps;
        at = q;
        n = n;
        o = o;
        τ = τ;
        come = come;
        out₂ = out';
        copied = put-now;
        out_kept = lo;
        b = 0;
        υ = 0;
        gathering =
            subst (λ i. Gathering c.stand.edition (members come.u) c.rest out' work steps k (d + 1)
            (q + 1) n out' work steps (arity work q) (i + 1) (q + 1) n 0 0 0) (sym nd)
            (subst (λ i. Gathering c.stand.edition (members come.u) c.rest out' work steps
            k (d + 1) (q + 1) n out' work steps i (d + 1) (q + 1) n 0 0 0)
            (sym (passing.arity_is set_now)) all);
        openings_are = omega arith;
        tries_are = omega arith;
        prior_is = omega arith;
        node_is = nd;
        edition_is = ed;
      }

module _ {c : Call} {out work steps : List ℕ} {s : Stand} (v : Midway c out work steps s) where
  abbrev ed : ℕ
  ed = c.stand.edition

  abbrev d : ℕ
  d = c.stand.node

  abbrev u : Tree
  u = v.come.u

  set_then : Set v.out₁ v.work₁ v.steps₁ d v.at v.n u c.rest
  set_then = driving.set_now v.come

  -- ---- the numbers
  pub few_now : s.end + s.noted + s.openings + weight_all v.gathering.r < 65536
  few_now =
      let g = v.gathering in
      let r = recordses_weights (of_list g.g) in
      omega (arith, v.called.few, v.come.lighter, v.come.noted_end, members_weigh u, g.lighter, g.end, g.noted_end, v.openings_are)

  pub tries_now : s.tries + cost (weight_all v.gathering.r) + 1 < 2 ^ 63
  tries_now =
      let one = cost_steps 1 (weight_all (members u)) (weight u) (omega (arith, members_weigh u)) in
      omega (arith, v.called.few_tries, v.come.tried_bound, v.gathering.tried_bound, v.tries_are)

  pub node_fits : (s.node * 16 + 16 ≤ length out) × (s.node + 1 ≤ s.end)
  node_fits =
      let f = (passing.record_fits set_then).1 in
      (omega (arith, v.node_is, v.out_kept, v.gathering.out_long), omega (arith, v.node_is, v.gathering.end))

  -- what is pending weighs less than the tree and what was pending after it
  pub lighter_now : table_weight (drop (s.place * 16) work) < table_weight (drop (c.stand.place * 16) c.work)
  lighter_now =
      let g = v.gathering in
      let now : table_weight (drop (s.place * 16) work) ≡ weight_all g.r + table_weight c.rest = ap table_weight g.stands ∙ weighs_all g.r c.rest in
      let then : table_weight (drop (c.stand.place * 16) c.work) ≡ weight c.tree + table_weight c.rest
      = ap table_weight v.called.set.ready.stands ∙ weighs_tree c.tree c.rest in
      omega (arith, g.lighter, members_weigh u, v.come.lighter)

  -- ---- the node's kind, which stands in front of what is gathered
  front_there : take ((d + 1) * 16) out ≡ take (d * 16) v.out₁ ++ first_record u
  front_there =
      let g = v.gathering in
      let f = (passing.record_fits set_then).1 in
      front_of_lem out (take ((d + 1) * 16) v.out₂) (encode_all g.g) ((d + 1) * 16) (s.end * 16) g.wrote
      (length-take-le ((d + 1) * 16) v.out₂ (omega (arith, v.out_kept))) (omega (arith, g.end))
      ∙ passing.front_now set_then v.out₂ v.copied

  kind_of_lem : (x : List ℕ) → take ((d + 1) * 16) x ≡ take (d * 16) v.out₁ ++ first_record u → kind x d ≡ kind_number u
  kind_of_lem x e =
      let a : kind (take ((d + 1) * 16) x) d ≡ kind_number u
      = kind_there_first (take ((d + 1) * 16) x) d u []
      (ap (drop (d * 16)) e ∙ drop_at (take (d * 16) v.out₁) (first_record u) (d * 16) (front_long set_then) ∙ sym (append-nil (first_record u))) in
      let b : kind (take ((d + 1) * 16) x) d ≡ kind x d = unfold kind in get_or-take ((d + 1) * 16) x (d * 16) 0 (omega arith) in
      sym b ∙ a

  pub node_kind_lem : kind out s.node ≡ kind_number u
  node_kind_lem = ap (kind out) v.node_is ∙ kind_of_lem out front_there

  pub next_of : 1 ≤ s.left → membering.First v.gathering.r
  next_of h = membering.first v.gathering.r (omega (arith, v.gathering.to_go))

  -- ---- what stands past the gathered members does not matter
  pub past_changed : (out' : List ℕ) → take (s.end * 16) out' ≡ take (s.end * 16) out → length out' ≡ length out → Midway c out' work steps s
  past_changed out' same lo =
      record {
        called = v.called;
        out₁ = v.out₁;
        work₁ = v.work₁;
        steps₁ = v.steps₁;
        at = v.at;
        n = v.n;
        o = v.o;
        τ = v.τ;
        come = v.come;
        out₂ = v.out₂;
        copied = v.copied;
        out_kept = v.out_kept;
        b = v.b;
        υ = v.υ;
        gathering = membering.past_changed v.gathering same lo;
        openings_are = v.openings_are;
        tries_are = v.tries_are;
        prior_is = v.prior_is;
        node_is = v.node_is;
        edition_is = v.edition_is;
      }

  -- ---- the next member
  module _ {x : Tree} {later : List Tree} (is : v.gathering.r ≡ x ∷ later) where
    pub some_left : 1 ≤ s.left
    some_left = let l : length v.gathering.r ≡ 1 + length later = ap length is ∙ omega arith in omega (arith, v.gathering.to_go)

    pub next_called : Called (call out work steps (entered s) x (encode_all later ++ c.rest))
    next_called =
        let w = membering.weight_next v.gathering is in
        let both = cost_both (weight x) (weight_all later) in
        record {
          set = membering.set_next v.gathering is;
          few = omega (arith, few_now);
          few_tries = omega (arith, tries_now, ap cost w);
        }

    -- it was refused
    pub next_fell : (n : ℕ) → Fell (call out work steps (entered s) x (encode_all later ++ c.rest)) n → Fell c n
    next_fell n b =
        let e = v.edition_is in
        let k = kind_number u in
        let run : drives ed x ≡ over b.0 = ap (λ i. drives i x) (sym e) ∙ b.1 in
        let all = membering.burst v.gathering is n (b.0, one_over ed k x b.0 run, b.2) in
        driving.pass_burst v.come n (passing.burst set_then v.out₂ v.copied ed k refl n all)

    -- a member is gathered
    gathered_one : {out' work' steps' : List ℕ} {e' q' n' o' m' τ' : ℕ}
        → Gave (opened_runs (inside (kind_number u)) (each (drives ed) (x ∷ []))) (encode_all later ++ c.rest)
        out out' work' steps steps' s.end s.noted e' q' n' o' m' τ'
        → length out' ≡ length out → length work' ≡ length work → length steps' ≡ length steps
        → (s' : Stand) → s'.place ≡ q' → s'.noted ≡ n' → s'.openings ≡ s.openings + o' → s'.tries ≡ s.tries + τ' → s'.node ≡ s.node → s'.end ≡ e'
        → s'.left ≡ s.left - 1 → s'.gathered ≡ s.gathered + m' → s'.prior ≡ s.prior → s'.edition ≡ s.edition
        → Midway c out' work' steps' s'
    gathered_one {out'} {work'} {steps'} {e'} {q'} {n'} {o'} {m'} {τ'} a lo lw lz s' pl nt op ti nd en le ga pr edi =
        let all = membering.next v.gathering is a lo lw lz in
        let G : (i e q n m : ℕ) → Type 0
        = λ i e q n m. Gathering ed (members u) c.rest v.out₂ v.work₁ v.steps₁ (kind_number u) (d + 1)
        (v.at + 1) v.n out' work' steps' i e q n (v.b + o') m (v.υ + τ') in
        record {
          called = v.called;
          out₁ = v.out₁;
          work₁ = v.work₁;
          steps₁ = v.steps₁;
          at = v.at;
          n = v.n;
          o = v.o;
          τ = v.τ;
          come = v.come;
          out₂ = v.out₂;
          copied = v.copied;
          out_kept = v.out_kept;
          b = v.b + o';
          υ = v.υ + τ';
          gathering =
              subst (λ i. G i s'.end s'.place s'.noted s'.gathered) (sym le)
              (subst (λ i. G (s.left - 1) i s'.place s'.noted s'.gathered) (sym en)
              (subst (λ i. G (s.left - 1) e' i s'.noted s'.gathered) (sym pl)
              (subst (λ i. G (s.left - 1) e' q' i s'.gathered) (sym nt)
              (subst (λ i. G (s.left - 1) e' q' n' i) (sym ga) all))));
          openings_are = omega (arith, v.openings_are);
          tries_are = omega (arith, v.tries_are);
          prior_is = pr ∙ v.prior_is;
          node_is = nd ∙ v.node_is;
          edition_is = edi ∙ v.edition_is;
        }

    -- a member is kept at once
    pub next_ready : Ready out work s.end s.place x (encode_all later ++ c.rest)
    next_ready = (membering.set_next v.gathering is).ready

    pub next_kept : {out' : List ℕ} {n : ℕ} → KeptWhole (rules_of s.edition) (kind out s.node) x out out' s.end n → length out' ≡ length out
        → Midway c out' work steps (kept_by s 1 n)
    next_kept {out'} {n} a lo =
        let whole : KeptWhole (rules_of ed) (kind_number u) x out out' s.end n
        = subst (λ k. KeptWhole (rules_of ed) k x out out' s.end n) node_kind_lem
        (subst (λ i. KeptWhole (rules_of i) (kind out s.node) x out out' s.end n) v.edition_is a) in
        gathered_one (kept_gathered ed (membering.set_next v.gathering is) whole lo) lo refl refl (kept_by s 1 n)
        refl refl (omega arith) refl refl refl refl refl refl refl

-- ---- the member that the driver waited for
module _ {c : Call} {out work steps : List ℕ} {s : Stand} {g : ℕ} (v : Resumed c out work steps s g) where
  abbrev m : Midway c v.out₁ v.work₁ v.steps₁ v.s₁
  m = v.midway

  abbrev rest_after : List ℕ
  rest_after = encode_all v.later ++ c.rest

  abbrev k : ℕ
  k = kind_number m.come.u

  drove : Drove (drives c.stand.edition v.x) rest_after v.out₁ out work v.steps₁ steps v.s₁.end v.s₁.noted g v.s₂.place v.s₂.noted
      v.member.o v.member.τ
  drove =
      subst (λ i. Drove (drives i v.x) rest_after v.out₁ out work v.steps₁ steps v.s₁.end
      v.s₁.noted g v.s₂.place v.s₂.noted v.member.o v.member.τ)
      m.edition_is v.member.drove

  set_member : Set v.out₁ v.work₁ v.steps₁ v.s₁.end v.s₁.place v.s₁.noted v.x rest_after
  set_member = membering.set_next m.gathering v.next_is

  -- the node's kind still stands there
  kind_still : kind out v.s₁.node ≡ k
  kind_still =
      let e = v.s₁.end in
      let d = c.stand.node in
      let fits = front_long set_member in
      let same : take (e * 16) out ≡ take (e * 16) v.out₁
      = front_of_lem out (take (e * 16) v.out₁) (with_notes drove.to) (e * 16) (g * 16) drove.wrote fits (omega (arith, drove.end)) in
      let le : (d + 1) * 16 ≤ e * 16 = omega (arith, m.gathering.end) in
      ap (kind out) m.node_is
      ∙ kind_of_lem m out (sym (take-take ((d + 1) * 16) (e * 16) out le) ∙ ap (take ((d + 1) * 16)) same
      ∙ take-take ((d + 1) * 16) (e * 16) v.out₁ le ∙ front_there m)

  pub gather_fits : (s.end + 1 ≤ g) × (g * 16 ≤ length out) × (s.node * 16 + 16 ≤ length out) × (s.openings < 131072) × (s.gathered < 65536) × (1 ≤ s.left)
  gather_fits =
      let f = member_fits c.stand.edition set_member drove v.out_long in
      let f2 = f.2 in
      let n = node_fits m in
      let w = few_now m in
      let l = some_left m v.next_is in
      let a = membering.small m.gathering in
      let nd = v.member.node_is in
      let op = v.member.openings_are in
      subst (λ x. (x.end + 1 ≤ g) × (g * 16 ≤ length out) × (x.node * 16 + 16 ≤ length out) × (x.openings < 131072) × (x.gathered < 65536) × (1 ≤ x.left))
      (sym v.back)
      (omega (arith, f), f.1, omega (arith, n, v.out_long), omega arith, a.1, l)

  -- the test whether the result is opened, for the node's kind
  abbrev Test : Stand → Bool → Type 0
  Test x b = (eqb (kind out x.end) (kind out x.node) && is_node (kind out x.node)) ≡ b

  abbrev now : Stand
  now = returned v.s₂ v.s₁.node v.s₁.left v.s₁.gathered v.s₁.prior

  test : (b : Bool) → Test now b → (eqb (kind out v.s₁.end) k && is_node k) ≡ b
  test b t =
      subst (λ j. (eqb (kind out v.s₁.end) j && is_node j) ≡ b) kind_still
      (subst (λ i. (eqb (kind out i) (kind out v.s₁.node) && is_node (kind out v.s₁.node)) ≡ b) v.member.node_is t)

  pub kept_whole : Test s false → Midway c out work steps (joined_to s g s.openings 1)
  kept_whole =
      subst (λ x. Test x false → Midway c out work steps (joined_to x g x.openings 1)) (sym v.back)
      (λ t. gathered_one m v.next_is (as_it_is c.stand.edition set_member drove v.out_long k (test false t))
      v.out_long v.work_long v.steps_long
      (joined_to now g now.openings 1)
      refl refl v.member.openings_are v.member.tries_are refl refl refl refl refl v.member.edition_is)

  pub opened_into : Test s true → (out' : List ℕ)
      → out' ≡ put out (s.end * 16) (part out (s.end * 16 + 16) ((g - s.end - 1) * 16)) → length out' ≡ length out
      → Midway c out' work steps (joined_to s (g - 1) (s.openings + 1) (count_in out s.end))
  opened_into =
      subst (λ x. Test x true → (out' : List ℕ) → out' ≡ put out (x.end * 16) (part out (x.end * 16 + 16) ((g - x.end - 1) * 16)) → length out' ≡ length out
      → Midway c out' work steps (joined_to x (g - 1) (x.openings + 1) (count_in out x.end))) (sym v.back)
      (λ t out' w lo.
      let nd = v.member.node_is in
      let op = v.member.openings_are in
      let w' : out' ≡ put out (v.s₁.end * 16) (part out (v.s₁.end * 16 + 16) ((g - v.s₁.end - 1) * 16))
      = subst (λ i. out' ≡ put out (i * 16) (part out (i * 16 + 16) ((g - i - 1) * 16))) nd w in
      gathered_one m v.next_is (opened_up c.stand.edition set_member drove v.out_long k (test true t) out' w')
      (lo ∙ v.out_long) v.work_long v.steps_long
      (joined_to now (g - 1) (now.openings + 1) (count_in out now.end))
      refl refl (omega arith) v.member.tries_are refl refl refl (ap (λ i. v.s₁.gathered + count_in out i) nd) refl v.member.edition_is)

-- ---- all members are gathered
module _ {c : Call} {out work steps : List ℕ} {s : Stand} (v : Midway c out work steps s) (z : s.left ≤ 0) where
  abbrev edition : ℕ
  edition = c.stand.edition

  abbrev node : ℕ
  node = c.stand.node

  abbrev w : Tree
  w = v.come.u

  pub gave : Gave (opened_runs (inside (kind_number w)) (each (drives edition) (members w))) c.rest v.out₂ out work v.steps₁ steps (node + 1) v.n
      s.end s.place s.noted v.b s.gathered v.υ
  gave = membering.finish v.gathering z

  pub gathers : Gathers w gave.to out s.node s.end (kind out s.node) s.gathered
  gathers =
      subst (λ i. Gathers w gave.to out i s.end (kind out s.node) s.gathered) (sym v.node_is)
      (subst (λ j. Gathers w gave.to out node s.end j s.gathered) (sym (node_kind_lem v))
      (passing.gathers (set_then v) v.out₂ v.copied edition refl gave v.out_kept v.gathering.out_long))

  -- nothing changed
  pub unchanged : s.noted + s.openings ≤ s.prior → Reached c out work steps (ended_at s s.end s.place s.noted (s.tries + 1)) s.end
  unchanged h =
      let nothing : s.noted - v.n + v.b < 1 = omega (arith, v.prior_is, v.openings_are, gave.noted_end) in
      let same : v.n ≡ s.noted = omega (arith, gave.noted_end) in
      let was = passing.as_it_was (set_then v) v.out₂ v.copied edition refl gave v.out_kept v.gathering.out_long nothing in
      let lo : length out ≡ length v.out₁ = v.gathering.out_long ∙ v.out_kept in
      let all = driving.nothing_changed v.come was lo v.gathering.work_long v.gathering.steps_long nothing in
      record {
        o = v.o;
        τ = v.τ + (v.υ + 1);
        drove =
            subst (λ i. Drove (run_of c) c.rest c.out out work c.steps steps node c.stand.noted s.end s.place i v.o (v.τ + (v.υ + 1)))
            same all;
        openings_are = omega (arith, v.openings_are);
        tries_are = omega (arith, v.tries_are);
        node_is = v.node_is;
        edition_is = v.edition_is;
      }

  pub finish_fits : (s.node ≤ s.end) × (s.tries + 1 + (s.end - s.node) < 2 ^ 63 + 65536)
  finish_fits = (omega (arith, node_fits v), omega (arith, tries_now v, few_now v))

  -- something changed: the node is closed up, and taken up
  module _ (h : s.prior < s.noted + s.openings) {out' : List ℕ}
      (shut : Closed (closed_over w gave.to) out out' s.node s.end) (lo : length out' ≡ length out) where
    changed : 1 ≤ s.noted - v.n + v.b
    changed = omega (arith, v.prior_is, v.openings_are, gave.noted_end)

    pub pass_driven : Drove (passed w (each (drives edition) (members w))) c.rest v.out₁ out' work
        v.steps₁ steps node v.n s.end s.place s.noted v.b v.υ
    pass_driven =
        passing.closed_up_lem (set_then v) v.out₂ v.copied edition refl gave v.out_kept v.gathering.out_long
        (subst (λ i. Closed (closed_over w gave.to) out out' i s.end) v.node_is shut)

    lo' : length out' ≡ length v.out₁
    lo' = lo ∙ v.gathering.out_long ∙ v.out_kept

    pub taken_back : Back out' work steps s.node s.end s.place s.noted pass_driven.to c.rest
    taken_back =
        subst (λ i. Back out' work steps i s.end s.place s.noted pass_driven.to c.rest) (sym v.node_is)
        (driving.gathered v.come pass_driven lo' v.gathering.work_long v.gathering.steps_long changed)

    module _ (out'' work'' steps'' : List ℕ) (lo2 : length out'' ≡ length out') (lw2 : length work'' ≡ length work) (lz2 : length steps'' ≡ length steps) where
      -- what became of the gathered node, as `take_up` tells it, and by the call's own edition and node
      abbrev Took : Result TakenUp LeftRange → Type 0
      Took = TakenIs (rules_of s.edition) pass_driven.to c.rest out' out'' work'' steps steps'' s.node s.end s.noted

      told : (x : Result TakenUp LeftRange) → Took x
          → TakenIs (rules_of edition) pass_driven.to c.rest out' out'' work'' steps steps'' node s.end s.noted x
      told x y =
          subst (λ i. TakenIs (rules_of edition) pass_driven.to c.rest out' out'' work'' steps steps'' i s.end s.noted x) v.node_is
          (subst (λ i. TakenIs (rules_of i) pass_driven.to c.rest out' out'' work'' steps steps'' s.node s.end s.noted x) v.edition_is y)

      pub turned_over : (l : LeftRange) → Took (Err l) → TurnIs c out'' work'' steps'' s (Err l)
      turned_over l y =
          driving.burst v.come pass_driven lo' v.gathering.work_long v.gathering.steps_long changed l.steps (told (Err l) y)

      -- it is finished, after as many tries
      came : {f r n σ τ : ℕ} → Drove (run_of c) c.rest c.out out'' work'' c.steps steps'' node c.stand.noted f r n (v.o + v.b) σ
          → τ ≡ c.stand.tries + σ → s.tries ≤ τ → TurnIs c out'' work'' steps'' s (Ok (turn.Finished f r n τ))
      came {σ = σ} a e h = (
        record {
          o = v.o + v.b;
          τ = σ;
          drove = a;
          openings_are = v.openings_are;
          tries_are = e;
          node_is = v.node_is;
          edition_is = v.edition_is;
        },
        h,
      )

      pub turned_finished : (r : ℕ) → Took (Ok (taken.Finished r))
          → TurnIs c out'' work'' steps'' s (Ok (turn.Finished s.end r s.noted (s.tries + 1 + (s.end - s.node))))
      turned_finished r y =
          let nd = v.node_is in
          came (driving.finished v.come pass_driven lo' v.gathering.work_long v.gathering.steps_long changed (told (Ok (taken.Finished r)) y))
          (omega (arith, v.tries_are)) (omega arith)

      module _ (f r : ℕ) (y : Took (Ok (taken.Quiet f r))) where
        home : Drove (run_of c) c.rest c.out out'' work'' c.steps steps'' node c.stand.noted
            f r (s.noted + 1) (v.o + v.b) (v.τ + (v.υ + 1) + 1 + (f - node))
        home = driving.quieted v.come pass_driven lo' v.gathering.work_long v.gathering.steps_long changed (told (Ok (taken.Quiet f r)) y)

        pub quiet_fits : (s.node ≤ f) × (s.tries + 1 + 1 + (f - s.node) < 2 ^ 63 + 65538) × (s.noted < 65536)
        quiet_fits =
            let end = y.3 in
            let l = (run_lighter c.tree home.to home.ks _ _ (run_of c) (drives_kept edition c.tree v.called.set.ready.wf) home.ran).1 in
            let r = records_weight home.to in
            let nd = v.node_is in
            (omega arith, omega (arith, tries_now v, home.end, v.called.few), omega (arith, few_now v))

        pub turned_quiet : TurnIs c out'' work'' steps'' s (Ok (turn.Finished f r (s.noted + 1) (s.tries + 1 + 1 + (f - s.node))))
        turned_quiet = let nd = v.node_is in came home (omega (arith, v.tries_are)) (omega arith)

      module _ (it : Settled) (y : Took (Ok (taken.Stepped it))) where
        again_come : Come edition c.tree c.rest c.out c.work c.steps node c.stand.place
            c.stand.noted out'' work'' steps'' it.at it.noted (v.o + v.b)
            (v.τ + (v.υ + 1) + (it.noted - s.noted))
        again_come =
            driving.again v.come pass_driven lo' v.gathering.work_long v.gathering.steps_long changed (told (Ok (taken.Stepped it)) y) lo2 lw2 lz2

        pub again_fits : (s.noted ≤ it.noted) × (s.tries + 1 + (it.noted - s.noted) < 2 ^ 63 + 65536)
        again_fits =
            let more = y.2 in
            let n = again_come.noted_end in
            let l = again_come.lighter in
            (omega arith, omega (arith, tries_now v, v.called.few))

        pub turned_again : TurnIs c out'' work'' steps'' s (Ok (turn.Again it.at it.noted (s.tries + 1 + (it.noted - s.noted))))
        turned_again = (v.o + v.b, v.τ + (v.υ + 1) + (it.noted - s.noted), again_come, v.openings_are, omega (arith, v.tries_are), y.2, omega arith)

-- ---- members kept one after the other
same_stand : {ed₁ pl₁ nt₁ op₁ ti₁ nd₁ en₁ le₁ ga₁ pr₁ pl₂ ti₂ en₂ le₂ ga₂ : ℕ} → pl₁ ≡ pl₂ → ti₁ ≡ ti₂ → en₁ ≡ en₂ → le₁ ≡ le₂ → ga₁ ≡ ga₂
    → ◌≡◌ {A = Stand}
    (record { edition = ed₁; place = pl₁; noted = nt₁; openings = op₁; tries = ti₁; node = nd₁; end = en₁; left = le₁; gathered = ga₁; prior = pr₁ })
    (record { edition = ed₁; place = pl₂; noted = nt₁; openings = op₁; tries = ti₂; node = nd₁; end = en₂; left = le₂; gathered = ga₂; prior = pr₁ })
same_stand a b c d e = cc

pub kept_none : (s : Stand) → s ≡ kept_by s 0 0
kept_none s = same_stand (omega arith) (omega arith) (omega arith) (omega arith) (omega arith)

pub kept_more : (s : Stand) (i r n : ℕ) → kept_by (kept_by s i r) 1 n ≡ kept_by s (i + 1) (r + n)
kept_more s i r n = same_stand (omega arith) (omega arith) (omega arith) (omega arith) (omega arith)

pub place_fits : {c : Call} {out work steps : List ℕ} {s : Stand} → Midway c out work steps s → s.place * 16 ≤ length work
place_fits v = omega (arith, v.gathering.place)

-- where i members are kept, of r records, the numbers are small
pub record KeptFits (s : Stand) (i r : ℕ) (out work : List ℕ) : Type 0 where
  pub place : (s.place + r) * 16 ≤ length work
  pub tries : s.tries + r < 2 ^ 63
  pub end : s.end + r < 65536
  pub gathered : s.gathered + i < 65536

pub kept_fits : {c : Call} {out work steps : List ℕ} (s : Stand) (i r : ℕ) → Midway c out work steps (kept_by s i r) → KeptFits s i r out work
kept_fits s i r v =
    record { place = place_fits v; tries = omega (arith, tries_now v); end = omega (arith, few_now v); gathered = (membering.small v.gathering).1 }

-- the next member is asked of, and the answer n is given
module _ {c : Call} {out work steps : List ℕ} (s : Stand) (i r : ℕ) (v : Midway c out work steps (kept_by s i r)) (h : i < s.left) where
  more : membering.First v.gathering.r
  more = next_of v (omega arith)

  pub kept_ready : (s.node < s.end + r) × ((t : Tree) × (rest : List ℕ) × Ready out work (s.end + r) (s.place + r) t rest)
  kept_ready = (omega (arith, node_fits v), (more.x, encode_all more.xs ++ c.rest, next_ready v more.is))

  module _ {out' : List ℕ} (lo : length out' ≡ length out) where
    pub kept_next : (n : ℕ) → ((t : Tree) (rest : List ℕ) → Ready out work (s.end + r) (s.place + r) t rest
        → KeptIs (rules_of s.edition) (kind out s.node) t out out' (s.end + r) (Some n))
        → Midway c out' work steps (kept_by s (i + 1) (r + n))
    kept_next n says =
        subst (λ x. Midway c out' work steps x) (kept_more s i r n)
        (next_kept v more.is (says more.x (encode_all more.xs ++ c.rest) (next_ready v more.is)).1 lo)

    -- it is to be driven: scratch alone has changed
    pub kept_still : ((t : Tree) (rest : List ℕ) → Ready out work (s.end + r) (s.place + r) t rest
        → KeptIs (rules_of s.edition) (kind out s.node) t out out' (s.end + r) None)
        → Midway c out' work steps (kept_by s i r)
    kept_still says = past_changed v out' (says more.x (encode_all more.xs ++ c.rest) (next_ready v more.is)) lo

-- ---- a pass begins again
module _ {c : Call} {out₁ work₁ steps₁ : List ℕ} {s : Stand} (v : Midway c out₁ work₁ steps₁ s) (out work steps : List ℕ) (q n τ : ℕ)
    (a : TurnIs c out work steps s (Ok (turn.Again q n τ))) where
  pub again_room : (s.node * 16 + 16 ≤ length out) × (q * 16 + 16 ≤ length work) × (n + s.openings < 65536) × (n ≤ length steps)
  again_room =
      let f = begin_fits v.called a.2 in
      let nd = v.node_is in
      let op = a.3 in
      (omega (arith, f.0), f.1, omega (arith, f.2), omega (arith, (driving.set_now a.2).steps_room))

  pub again_midway : (out' : List ℕ) → out' ≡ put out (s.node * 16) (part work (q * 16) 16) → length out' ≡ length out
      → Midway c out' work steps (begun_at s q n τ (arity work q))
  again_midway out' w lo = begun v.called a.2 s v.node_is v.edition_is a.3 τ a.4 out' w lo

-- ---- it is at its end
pub came_home : {c : Call} {out work steps : List ℕ} (s : Stand) (e q n τ : ℕ)
    → Reached c out work steps (ended_at s e q n τ) e → WentOn c out work steps (ended_at s e q n τ)
came_home s e q n τ r = record { waits = λ h. absurd (omega arith); ends = λ h. r }

-- ---- the edition stays, and the tries do not fall
pub onward_both : {s t r : Stand} → Onward s t → Onward t r → Onward s r
onward_both a b = record { edition = b.edition ∙ a.edition; tries = omega (arith, a.tries, b.tries) }

pub onward : (s : Stand) {r t : Stand} → r ≡ t → t.edition ≡ s.edition → s.tries ≤ t.tries → Onward s r
onward s e f h = record { edition = ap (λ x. x.edition) e ∙ f; tries = let g = ap (λ x. x.tries) e in omega arith }

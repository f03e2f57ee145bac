-- What the two calls give, from the plan of the opening: a refusal is the plan's; without one the tree is opened, and what is written is the
-- table of the opened tree, which the simplifier then takes.
use Prim.Native.Nat.{ℕ, ◌-◌, ◌*◌, ◌≤◌, ◌<◌}
use mathlib.Core.Path.{◌≡◌, refl, sym, ap, ◌∙◌, subst}
use mathlib.Core.Bool.{Bool, true, false, cond, ◌||◌}
use mathlib.Core.List.{List, ◌++◌}
use native.Mathlib.Nat.{zero-add}
use native.Mathlib.Omega.{arith}
use borrow.Author.Tests.{lt-ltb, le-ltb, ltb-false}
use lib.ListN.{length, take, drop}
use lib.Seq.{take_at}
use lib.Dec.{ltb}
use Rattle.paper.specs.Tree.{Tree, weight, records}
use Rattle.paper.specs.Table.{encode}
use Rattle.paper.specs.Verdict.{Verdict, refused}
use Rattle.paper.specs.Limits.{is_limit}
use Rattle.paper.specs.Rules.{is_edition}
use Rattle.paper.specs.Record.{sound}
use Rattle.paper.specs.Answers.{Answer, cramped, refused_by, refusal, simplified}
use Rattle.paper.proofs.EncodeLaws.{encode_length}
use Rattle.paper.proofs.LimitLaws.{limit_small}
use Rattle.paper.proofs.Tests.{or_neither}
use Rattle.stretch.specs.Put.{put}
use Rattle.paper_shared.specs.Answers.{Handed, tree_in, definitions_of, Opening, turned_away, opens, judged_site, opening, opening_by, no_room, holding}
use Rattle.paper_shared.specs.Answers.{unopened, open_of, open_given, unshared, shared_of, shared_given}
use Rattle.std.specs.Prelude.{Ok, Err}
use Rattle.table.specs.declared.refusals.Refusal.{Refusal}
use Rattle.table.specs.declared.refusals.Refusal.TheVariants.{Room}
use Rattle.table.specs.Refusals.{verdict_of}
use Rattle.table.proofs.RefusalLaws.{some_number}
use Rattle.simplify.specs.Answer.{says, lent, call_number, short}
use Rattle.simplify.specs.declared.Answer as simplifier
use Rattle.shared.specs.Answer.{gives_opened, gives_shared, tight}
use Rattle.replace.specs.Index.{Openable, Holding}
use Rattle.replace.specs.Planned.{Ready, Planned}
use Rattle.replace.specs.declared.Plan.{Plan}

-- a plan without a refusal opens a tree
pub record Opens (lim : ℕ) (h : Handed) (p : Plan) : Type 0 where
  pub tree : Tree
  pub is : judged_site lim h ≡ opens tree
  pub ready : Ready lim h tree p

module _ (lim : ℕ) (h : Handed) (known : is_limit lim ≡ true) where
  -- under a limit that there is, what becomes of a formula is as the site is judged
  pub as_judged : opening lim h ≡ judged_site lim h
  unfolding opening
  as_judged = rw known

  pub opens_as : (p : Plan) → Planned lim h (opening lim h) (Ok p) → Opens lim h p
  opens_as p k = go (judged_site lim h) refl (subst (λ (o : Opening). Planned lim h o (Ok p)) as_judged k)
    where
      go : (o : Opening) → judged_site lim h ≡ o → Planned lim h o (Ok p) → Opens lim h p
      go (turned_away v) e r = absurd r
      go (opens v) e r = record { tree = v; is = e; ready = r }

-- and one with a refusal is turned away with it
pub turned_as : (lim : ℕ) (h : Handed) (r : Refusal) → Planned lim h (opening lim h) (Err r) → opening lim h ≡ turned_away (verdict_of r)
turned_as lim h r k = go (opening lim h) k
  where
    go : (o : Opening) → Planned lim h o (Err r) → o ≡ turned_away (verdict_of r)
    go (turned_away v) e = ap turned_away (sym e)
    go (opens v) e = absurd e

-- a plan was made under a limit that there is
pub limit_known : (lim : ℕ) (h : Handed) (p : Plan) → Planned lim h (opening lim h) (Ok p) → is_limit lim ≡ true
unfolding opening
limit_known lim h p k = go (is_limit lim) refl k
  where
    go : (b : Bool) → is_limit lim ≡ b → Planned lim h (cond b (judged_site lim h) (turned_away (refused 19 0))) (Ok p) → is_limit lim ≡ true
    go true e k = e
    go false e k = absurd k

-- what a plan gives: a limit that there is, a tree, its weight and the room that it takes
module _ (lim : ℕ) (h : Handed) (p : Plan) (k : Planned lim h (opening lim h) (Ok p)) where
  pub opens_to : Opens lim h p
  opens_to = opens_as lim h (limit_known lim h p k) p k

  pub small : p.weight ≤ 16384
  small =
      let e = opens_to.ready.weighs in
      let l = opens_to.ready.light in
      let m = limit_small lim (limit_known lim h p k) in
      omega arith

  pub openable : (area : List ℕ) → 16 * p.weight ≤ length area
      → Openable (definitions_of h) h.definitions p.which p.from h.table area (length h.symbols) (length h.symbols) 0 (tree_in h.table) opens_to.tree
  openable area l = let e = opens_to.ready.weighs in opens_to.ready.openable area (omega arith)

-- ---- the opened table in its area
pub held : (v : Tree) (e : ℕ) (area area' : List ℕ) → Holding v 0 e area area' → area' ≡ holding v area
unfolding holding put
held v e area area' w =
    w.there ∙ ap (λ (k : ℕ). encode v ++ drop k area) (zero-add (length (encode v)))

pub table_of : (v : Tree) (e : ℕ) (area area' : List ℕ) → Holding v 0 e area area' → take (16 * e - 0) area' ≡ encode v
unfolding holding
table_of v e area area' w =
    let q = w.end in
    let l = encode_length v in
    ap (take (16 * e - 0)) (held v e area area' w) ∙ take_at (encode v) (drop (length (encode v)) area) (16 * e - 0) (omega arith)

-- ---- the call that opens
pub open_refused : (lim : ℕ) (h : Handed) (area : List ℕ) (r : Refusal) → opening lim h ≡ turned_away (verdict_of r)
    → gives_opened (Err r) area ≡ open_given lim h area
unfolding open_given open_of unopened
open_refused lim h area r q = rw q refl

module _ (lim : ℕ) (h : Handed) (known : is_limit lim ≡ true) {p : Plan} (o : Opens lim h p) (area : List ℕ) where
  pub open_tight : length area < 16 * p.weight → gives_opened (Err Room) area ≡ open_given lim h area
  unfolding open_given open_of no_room unopened
  open_tight l =
      let q = o.ready.weighs in
      rw (as_judged lim h known, o.is, lt-ltb (length area) (16 * weight o.tree) (omega arith)) refl

  pub open_done : (area' : List ℕ) (e : ℕ) → 16 * p.weight ≤ length area → Holding o.tree 0 e area area'
      → record { answer = record { number = 0; place = 0; flaw = sound; records_written = e; opened_weight = p.weight }; area = area' } ≡ open_given lim h area
  unfolding open_given open_of no_room
  open_done area' e l w =
      let q = o.ready.weighs in
      rw (
        as_judged lim h known,
        o.is,
        le-ltb (length area) (16 * weight o.tree) (omega arith),
        w.end,
        q,
        held o.tree e area area' w,
        zero-add (records o.tree),
      )

-- ---- the call that opens and simplifies
module _ (lim ed : ℕ) (h : Handed) (area out steps work : List ℕ) where
  refused_as : (v : Verdict) (r : simplifier.Answer) → says r ≡ refused_by v → opening_by lim ed h ≡ turned_away v
      → gives_shared r area out steps work ≡ shared_given lim ed h area (lent out steps work)
  unfolding shared_given shared_of unshared
  refused_as v r e q = rw q (ap (λ (x : Answer). record { given = record { answer = x; lent = lent out steps work }; area = area }) e)

  -- 19 and 9
  pub shared_off : (v : Refusal) → verdict_of v ≡ refused (call_number lim ed) 0 → (r : simplifier.Answer) → says r ≡ refused_by (verdict_of v)
      → gives_shared r area out steps work ≡ shared_given lim ed h area (lent out steps work)
  unfolding opening_by call_number
  shared_off v e r q = refused_as (verdict_of v) r q (go (is_limit lim) (is_edition ed) e)
    where
      go : (a b : Bool) → verdict_of v ≡ refused (cond a (cond b 0 9) 19) 0
          → cond a (cond b (judged_site lim h) (turned_away (refused 9 0))) (turned_away (refused 19 0)) ≡ turned_away (verdict_of v)
      go false b f = ap turned_away (sym f)
      go true false f = ap turned_away (sym f)
      go true true f = absurd (omega (arith, some_number v, ap (λ (x : Verdict). x.number) f))

  module _ (limit : is_limit lim ≡ true) (known : is_edition ed ≡ true) where
    -- with both known the opening is as the site is judged
    by_site : opening_by lim ed h ≡ judged_site lim h
    unfolding opening_by
    by_site = rw (limit, known)

    pub shared_refused : (v : Verdict) (r : simplifier.Answer) → says r ≡ refused_by v → opening lim h ≡ turned_away v
        → gives_shared r area out steps work ≡ shared_given lim ed h area (lent out steps work)
    shared_refused v r e q = refused_as v r e (by_site ∙ sym (as_judged lim h limit) ∙ q)

    module _ {p : Plan} (o : Opens lim h p) where
      -- 6, by the lengths
      tight_is : (b : Bool) → b ≡ tight lim p.weight (length area) (length out) (length steps) (length work)
          → (no_room area (weight o.tree) || cramped lim (weight o.tree) (lent out steps work)) ≡ b
      unfolding tight short no_room cramped
      tight_is b e = let q = o.ready.weighs in rw (← q) (sym e)

      pub shared_tight : (r : simplifier.Answer) → says r ≡ refusal 6 0 → true ≡ tight lim p.weight (length area) (length out) (length steps) (length work)
          → gives_shared r area out steps work ≡ shared_given lim ed h area (lent out steps work)
      unfolding shared_given shared_of unshared
      shared_tight r e t =
          rw (by_site, o.is, tight_is true t)
          (ap (λ (x : Answer). record { given = record { answer = x; lent = lent out steps work }; area = area }) e)

      pub shared_done : (area' : List ℕ) (e : ℕ) → false ≡ tight lim p.weight (length area) (length out) (length steps) (length work)
          → Holding o.tree 0 e area area'
          → record { given = simplified lim ed (encode o.tree) (lent out steps work); area = area' } ≡ shared_given lim ed h area (lent out steps work)
      unfolding shared_given shared_of
      shared_done area' e t w = rw (by_site, o.is, tight_is false t, held o.tree e area area' w)

-- the lengths that are not too short
pub roomy : (lim w area out steps work : ℕ) → false ≡ tight lim w area out steps work → 16 * w ≤ area
unfolding tight
roomy lim w area out steps work e = ltb-false area (16 * w) (or_neither (ltb area (16 * w)) _ (sym e)).0

-- The plan of an opening. Where the lengths fit and every definition is accepted, each definition's bytes are the records of its tree, so the
-- two arrays find the definitions; the formula then weighs, capped, what its opened tree weighs. Each test that holds is the refusal
-- whose turn it is.
use Prim.Native.Nat.{ℕ, zero, suc, ◌+◌, ◌-◌, ◌≤◌, ◌<◌, min}
use mathlib.Core.Path.{◌≡◌, refl, sym, ap, ◌∙◌, subst}
use mathlib.Core.Bool.{Bool, true, false, cond}
use mathlib.Core.List.{List}
use mathlib.Core.Option.{Option, none, some}
use native.Mathlib.Omega.{arith}
use borrow.Author.Tests.{ne_eqb, lt-ltb, le-ltb}
use lib.ListN.{length, get_or, drop, length-drop}
use lib.Seq.{length-take-le}
use Rattle.std.specs.Prelude.{Some, None, Ok, Err}
use Rattle.std.specs.Prelude as code
use lib.Dec.{eqb}
use Rattle.paper.specs.Limits.{is_limit}
use Rattle.paper.specs.Bytes.{Bytes}
use Rattle.paper.specs.Tree.{Tree, weight}
use Rattle.paper.specs.Verdict.{Verdict, accepted, refused, is_accepted, verdict}
use Rattle.paper.proofs.LimitLaws.{limit_small}
use Rattle.paper.proofs.EncodeLaws.{records_weight}
use Rattle.paper.proofs.VerdictLaws.{accepted_passes}
use Rattle.paper_shared.specs.Shared.{defined, make, open_within, opened}
use Rattle.paper_shared.specs.Answers.{Handed, max_definitions, length_at, beginning, table_at, misses, any_refused, twice, crowded}
use Rattle.paper_shared.specs.Answers.{tree_in, definitions_from, definitions_of, opened_of, Opening, turned_away, opens, opening_of, judged_site, opening}
use Rattle.paper_shared.proofs.Tables.{Sound, Whole, whole, table_fine, table_whole, opened_is_wf}
use Rattle.table.specs.declared.refusals.Refusal.{Refusal}
use Rattle.table.specs.Refusals.{verdict_of}
use Rattle.replace.specs.Place.{place_from}
use Rattle.replace.specs.Weighed.{told, capped, weighs, most_bytes}
use Rattle.replace.specs.Index.{piece_at, Lies, Found, FoundAt, Index, Knows}
use Rattle.replace.specs.Planned.{Ready, Planned}
use Rattle.replace.specs.declared.Plan.{Plan}
use Rattle.replace.proofs.PartLaws.{fit, begins_next, begins_up}
use Rattle.replace.proofs.WeighLaws.{weighs_opened}

module _ (lim : ℕ) (h : Handed) (k : Sound lim h) where
  -- where definition i lies
  ends_within : (i : ℕ) → i < length h.symbols → beginning h.lengths (i + 1) ≤ length h.definitions
  ends_within i l =
      let e = (fit h.symbols h.lengths h.definitions k.met).1 in
      let u = begins_up h.lengths (i + 1) (length h.symbols) (omega arith) in
      omega arith

  table_long : (i : ℕ) → i < length h.symbols → length (table_at h.lengths h.definitions i) ≡ length_at h.lengths i
  unfolding table_at
  table_long i l =
      let a = begins_next h.lengths i in
      let b = ends_within i l in
      let d = length-drop (beginning h.lengths i) h.definitions in
      length-take-le (length_at h.lengths i) (drop (beginning h.lengths i) h.definitions) (omega arith)

  table_short : (i : ℕ) → i < length h.symbols → length_at h.lengths i ≤ most_bytes
  table_short i l =
      let s = (accepted_passes lim (table_at h.lengths h.definitions i) (table_fine lim h k i l)).long.short in
      let m = limit_small lim k.known in
      let e = table_long i l in
      omega arith

  module _ (from : List ℕ) (begins : (j : ℕ) → j ≤ length h.symbols → get_or from j 0 ≡ beginning h.lengths j) where
    lies : (j : ℕ) → j < length h.symbols → Lies h.definitions from j
    lies j l =
        let a = begins j (omega arith) in
        let b = begins (j + 1) (omega arith) in
        let c = begins_next h.lengths j in
        let d = ends_within j l in
        let e = table_short j l in
        record { up = omega arith; within = omega arith; short = omega arith }

    piece : (j : ℕ) → j < length h.symbols → piece_at h.definitions from j ≡ table_at h.lengths h.definitions j
    unfolding piece_at table_at
    piece j l =
        let a = begins j (omega arith) in
        let b = begins (j + 1) (omega arith) in
        let c = begins_next h.lengths j in
        let e : get_or from (j + 1) 0 - get_or from j 0 ≡ length_at h.lengths j = omega arith in
        rw (e, a)

    found_at : (i : ℕ) → i < length h.symbols
        → FoundAt h.definitions from (length h.symbols) (i + 1) (tree_in (table_at h.lengths h.definitions i))
    found_at i l =
        let t = table_whole lim h k i l in
        let q : i + 1 - 1 ≡ i = omega arith in
        record {
          positive = omega arith;
          few = omega arith;
          wf = t.wf;
          written = ap (λ (j : ℕ). piece_at h.definitions from j) q ∙ piece i l ∙ t.written;
        }

    found_from : (x m i : ℕ) → i + m ≡ length h.symbols
        → Found h.definitions from (length h.symbols) (place_from h.symbols x i m)
        (defined (definitions_from h.symbols h.lengths h.definitions i m) x)
    unfolding place_from definitions_from defined
    found_from x zero i e = refl
    found_from x (suc m) i e = go (eqb (get_or h.symbols i 0) x) (found_from x m (i + 1) (omega arith))
      where
        go : (b : Bool)
            → Found h.definitions from (length h.symbols) (place_from h.symbols x (i + 1) m)
            (defined (definitions_from h.symbols h.lengths h.definitions (i + 1) m) x)
            → Found h.definitions from (length h.symbols) (cond b (i + 1) (place_from h.symbols x (i + 1) m))
            (cond b (some (tree_in (table_at h.lengths h.definitions i)))
            (defined (definitions_from h.symbols h.lengths h.definitions (i + 1) m) x))
        go true ih = found_at i (omega arith)
        go false ih = ih

    found_of : (x : ℕ) → Found h.definitions from (length h.symbols) (place_from h.symbols x 0 (length h.symbols)) (defined (definitions_of h) x)
    unfolding definitions_of
    found_of x = found_from x (length h.symbols) 0 (omega arith)

    pub index : (which : List ℕ) → ((x : ℕ) → x < 256 → get_or which x 0 ≡ place_from h.symbols x 0 (length h.symbols))
        → Index (definitions_of h) h.definitions which from (length h.symbols)
    index which places = record {
      lies = lies;
      finds = λ x l. subst (λ (c : ℕ). Found h.definitions from (length h.symbols) c (defined (definitions_of h) x)) (sym (places x l)) (found_of x);
    }

  definitions_long : (m i : ℕ) → length (definitions_from h.symbols h.lengths h.definitions i m) ≡ m
  unfolding definitions_from
  definitions_long zero i = refl
  definitions_long (suc m) i = ap suc (definitions_long m (i + 1))

  pub opened_deep : opened_of h ≡ open_within (definitions_of h) (length h.symbols) (tree_in h.table)
  unfolding opened_of opened definitions_of
  opened_deep = rw (definitions_long (length h.symbols) 0)

-- ---- the tests, one after the other
module _ (lim : ℕ) (h : Handed) where
  pub refuses : (r : Refusal) → opening lim h ≡ turned_away (verdict_of r) → Planned lim h (opening lim h) (Err r)
  refuses r e = subst (λ (o : Opening). Planned lim h o (Err r)) (sym e) refl

  pub open_19 : is_limit lim ≡ false → opening lim h ≡ turned_away (refused 19 0)
  unfolding opening
  open_19 e = rw e

  module _ (known : is_limit lim ≡ true) where
    pub open_8 : misses h.symbols h.lengths h.definitions ≡ true → opening lim h ≡ turned_away (refused 8 0)
    unfolding opening judged_site
    open_8 e = rw (known, e)

    module _ (met : misses h.symbols h.lengths h.definitions ≡ false) where
      pub open_formula : (v : Verdict) → v ≡ verdict lim h.table → 0 < v.number → opening lim h ≡ turned_away v
      unfolding opening judged_site is_accepted
      open_formula v e l = rw (known, met, ← e, ne_eqb v.number 0 (λ q. absurd (omega (arith, l, q))))

      module _ (fine : verdict lim h.table ≡ accepted) where
        pub open_15 : any_refused lim h.lengths h.definitions 0 (length h.symbols) ≡ true → opening lim h ≡ turned_away (refused 15 0)
        unfolding opening judged_site is_accepted
        open_15 e = rw (known, met, fine, e)

        module _ (all_fine : any_refused lim h.lengths h.definitions 0 (length h.symbols) ≡ false) where
          pub open_over : max_definitions < length h.symbols → opening lim h ≡ turned_away (refused 16 0)
          unfolding opening judged_site is_accepted crowded
          open_over l = rw (known, met, fine, all_fine, lt-ltb max_definitions (length h.symbols) l)

          module _ (few : length h.symbols ≤ max_definitions) where
            pub open_twice : twice h.symbols 0 (length h.symbols) ≡ true → opening lim h ≡ turned_away (refused 16 0)
            unfolding opening judged_site is_accepted crowded
            open_twice e = rw (known, met, fine, all_fine, le-ltb max_definitions (length h.symbols) few, e)

            pub open_tree : twice h.symbols 0 (length h.symbols) ≡ false → opening lim h ≡ opening_of lim (opened_of h)
            unfolding opening judged_site is_accepted crowded
            open_tree e = rw (known, met, fine, all_fine, le-ltb max_definitions (length h.symbols) few, e)

-- ---- and the weight
pub record Weighs (lim : ℕ) (o : Option Tree) (w : ℕ) : Type 0 where
  pub tree : Tree
  pub is : o ≡ some tree
  pub weight_is : w ≡ min (weight tree) (lim + 1)

pub weighs_something : (lim : ℕ) (o : Option Tree) (w : ℕ) → Some w ≡ told (capped lim (make weight o)) → Weighs lim o w
unfolding told capped make
weighs_something lim none w e = cc
weighs_something lim (some v) w e = record { tree = v; is = refl; weight_is = cc }

pub weighs_nothing : (lim : ℕ) (o : Option Tree) → None ≡ told (capped lim (make weight o)) → o ≡ none
unfolding told capped make
weighs_nothing lim none e = refl
weighs_nothing lim (some v) e = cc

-- everything that was found out before the weight is known
pub record Prepared (lim : ℕ) (h : Handed) (which from : List ℕ) : Type 0 where
  pub sound : Sound lim h
  pub bytes : Bytes h.table
  pub fine : verdict lim h.table ≡ accepted
  pub few : length h.symbols ≤ max_definitions
  pub once : twice h.symbols 0 (length h.symbols) ≡ false
  pub begins : (j : ℕ) → j ≤ length h.symbols → get_or from j 0 ≡ beginning h.lengths j
  pub places : (x : ℕ) → x < 256 → get_or which x 0 ≡ place_from h.symbols x 0 (length h.symbols)

module _ {lim : ℕ} {h : Handed} {which from : List ℕ} (p : Prepared lim h which from) where
  pub index_of : Index (definitions_of h) h.definitions which from (length h.symbols)
  index_of = index lim h p.sound from p.begins which p.places

  formula : Whole lim h.table
  formula = whole lim h.table p.bytes p.fine

  is_opening : opening lim h ≡ opening_of lim (opened_of h)
  is_opening = open_tree lim h p.sound.known p.sound.met p.fine p.sound.fine p.few p.once

  module _ (weights : List (code.Option ℕ)) (knows : Knows lim (definitions_of h) which weights (length h.symbols)) where
    weight_told : weighs lim which weights h.table ≡ told (capped lim (make weight (opened_of h)))
    weight_told =
        ap (weighs lim which weights) formula.written
        ∙ weighs_opened lim (definitions_of h) h.definitions which from weights (length h.symbols)
        (length h.symbols) index_of knows (tree_in h.table) formula.wf
        ∙ ap (λ (o : Option Tree). told (capped lim (make weight o))) (sym (opened_deep lim h p.sound))

    pub open_17 : None ≡ weighs lim which weights h.table → opening lim h ≡ turned_away (refused 17 0)
    unfolding opening_of
    open_17 e = is_opening ∙ rw (weighs_nothing lim (opened_of h) (e ∙ weight_told))

    module _ (w : ℕ) (is : Some w ≡ weighs lim which weights h.table) where
      weighed : Weighs lim (opened_of h) w
      weighed = weighs_something lim (opened_of h) w (is ∙ weight_told)

      pub open_18 : lim < w → opening lim h ≡ turned_away (refused 18 0)
      unfolding opening_of
      open_18 l = is_opening ∙ rw (weighed.is, lt-ltb lim (weight weighed.tree) (let e = weighed.weight_is in omega arith))

      light_enough : (v : Tree) → weight v ≤ lim → opening_of lim (some v) ≡ opens v
      unfolding opening_of
      light_enough v l = rw (le-ltb lim (weight v) l)

      is_fine : is_accepted (verdict lim h.table) ≡ true
      unfolding is_accepted
      is_fine = rw p.fine

      plan : (r : Plan) → r.weight ≡ w → r.which ≡ which → r.from ≡ from
          → (v : Tree) → opened_of h ≡ some v → w ≡ weight v → weight v ≤ lim → Ready lim h v r
      plan r e x y v i q l = record {
        weighs = e ∙ q;
        light = l;
        wf = opened_is_wf lim h p.sound p.bytes is_fine v i;
        openable = λ area room. record {
          index = rw (← x, ← y) at index_of;
          few = p.few;
          wf = formula.wf;
          written = formula.written;
          opens = sym (opened_deep lim h p.sound) ∙ i;
          room = let z = records_weight v in omega (arith, z, room);
        };
      }

      pub ready : w ≤ lim → (r : Plan) → r.weight ≡ w → r.which ≡ which → r.from ≡ from → Planned lim h (opening lim h) (Ok r)
      ready b r e x y =
          let k = weighed in
          let m = k.weight_is in
          let q : w ≡ weight k.tree = omega arith in
          let l : weight k.tree ≤ lim = omega arith in
          subst (λ (o : Opening). Planned lim h o (Ok r)) (sym (is_opening ∙ ap (opening_of lim) k.is ∙ light_enough k.tree l))
          (plan r e x y k.tree k.is q l)

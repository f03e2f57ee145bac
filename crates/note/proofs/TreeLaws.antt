-- The note of a plain tree that stands in a table. A leaf's comes from its record; a node's is that of its record by itself, with what the
-- trees behind it add, a power's base among them, and last what an exponent adds, modulo 2^64.
use Rattle.std.proofs.Common.{◌≡◌, ℕ, ◌+◌, ◌-◌, ◌*◌, ◌%◌, ◌<◌, ◌≤◌, List, length, sym, refl, ap, ◌∙◌, subst, append-nil, mod-eq_of_lt, arith}
use Rattle.paper.specs.Limits.{modulus}
use Rattle.paper.specs.Tree.{Tree, integer, symbol, sum, product, power, nil, cons, count, records, recordses, weight}
use Rattle.paper.specs.Record.{kind, count_in, bits}
use Rattle.paper.specs.Standing.{Stands, TreeIn, kind_number}
use Rattle.paper.proofs.Congruence.{agree_refl, agree_of, agree_trans, agree_mod, agree_add}
use Rattle.paper.proofs.EncodeLaws.{records_weight}
use Rattle.paper.proofs.StandingLaws.{tree_within, record_within, power_parts}
use Rattle.note.specs.Note.{keys, shares, note_of, note, leaf_note, added, added_exponent}
use Rattle.note.specs.Noted.{encode_by, inner, TreeBy, TreesBy}
use Rattle.note.specs.Plain.{parts_of, parts_in}
use Rattle.note.proofs.KeyLaws.{adds, adds_all, adds_cons, note_lt, sum_adds, product_adds, power_adds}
use Rattle.note.proofs.NotedLaws.{plain_encode, kind_lt}
use Rattle.note.proofs.ToldLaws.{plain_tells, told_by, kind_number_lem}
use Rattle.note.proofs.LightLaws.{members_by, power_base, note_of_leaf}
use Rattle.note.proofs.SumLaws.{Summing, summing_first, summing_step, summing_end, summing_last}

-- no node holds anything
abbrev pub plain : Tree → ℕ
plain u = 0

module _ {s : List ℕ} {i : ℕ} {t : Tree} where
  pub plain_by : TreeIn s i t → weight t < 65536 → TreeBy plain s i t
  plain_by h l = record { wf = h.wf; light = l; stands = subst (Stands s i) (sym (plain_encode t)) h.stands }

  pub plain_in : TreeBy plain s i t → TreeIn s i t
  plain_in q = record { wf = q.wf; few = omega (arith, records_weight t, q.light); stands = subst (Stands s i) (plain_encode t) q.stands }

  plain_kind : TreeBy plain s i t → kind s i ≡ kind_number t
  plain_kind q = kind_number_lem (told_by plain_tells q)

-- a tree that is not too heavy stands there
abbrev pub Given : List ℕ → ℕ → Type 0
Given s i = (t : Tree) × TreeIn s i t × (weight t < 65536)

pub given_by : {s : List ℕ} {i : ℕ} (g : Given s i) → TreeBy plain s i g.0
given_by g = plain_by g.1 g.2

pub inside : {s : List ℕ} {i : ℕ} → Given s i → i * 16 + 16 ≤ length s
inside g = record_within g.1

pub given_kind : {s : List ℕ} {i : ℕ} → Given s i → kind s i < 5
given_kind g = omega (arith, plain_kind (given_by g), kind_lt g.0)

-- ---- a leaf: its record is that of a noted one
leaf_noted : {s : List ℕ} {i : ℕ} (t : Tree) → TreeBy plain s i t → kind_number t < 2 → TreeBy note s i t
unfolding kind_number encode_by
leaf_noted (integer μ z) q l = record { wf = q.wf; light = q.light; stands = q.stands }
leaf_noted (symbol μ v) q l = record { wf = q.wf; light = q.light; stands = q.stands }
leaf_noted (sum μ f) q l = absurd (omega arith)
leaf_noted (product μ f) q l = absurd (omega arith)
leaf_noted (power μ b ξ e) q l = absurd (omega arith)

pub leaf_told : {s : List ℕ} {i : ℕ} {t : Tree} → TreeBy plain s i t → (k v : ℕ) → k ≡ kind s i → v ≡ bits s i → k < 2
    → leaf_note k v ≡ note t
leaf_told {t = t} q k v e b l = note_of_leaf (leaf_noted t q (omega (arith, e, plain_kind q))) k v e b l

-- ---- a node: what the trees behind its record make with it
unfoldable pub summed : Tree → ℕ
summed t = note_of 1 1 (kind_number t) + adds_all (parts_of t)

parts_there : {s : List ℕ} {i : ℕ} (t : Tree) → TreeBy plain s i t → 2 ≤ kind_number t
    → TreesBy plain s (i + 1) (parts_in s i (kind_number t)) (parts_of t)
unfolding kind_number parts_of parts_in weight count encode_by inner
parts_there (integer μ z) q l = absurd (omega arith)
parts_there (symbol μ v) q l = absurd (omega arith)
parts_there {s} {i} (sum μ f) q l = members_by (sum μ f) plain_tells q l (omega arith) (count_in s i) refl
parts_there {s} {i} (product μ f) q l = members_by (product μ f) plain_tells q l (omega arith) (count_in s i) refl
parts_there {s} {i} (power μ b ξ e) q l =
    let p = power_base plain_tells q in
    record {
      counted = refl;
      wf = (p.wf, tt);
      light = omega (arith, p.light);
      stand = subst (Stands s (i + 1)) (sym (append-nil (encode_by plain b))) p.stands;
    }

-- the record after them
abbrev pub behind : ℕ → Tree → ℕ
behind i t = i + 1 + recordses (parts_of t)

pub summing_start : {s : List ℕ} {i : ℕ} {t : Tree} → TreeBy plain s i t → (k n : ℕ) → k ≡ kind s i → 2 ≤ k
    → n ≡ parts_in s i k → Summing plain (summed t) s (behind i t) (i + 1) n (65537 + k * keys)
unfolding note_of summed
summing_start {s} {i} {t} q k n e l c =
    let x : k ≡ kind_number t = e ∙ plain_kind q in
    let y : n ≡ parts_in s i (kind_number t) = c ∙ ap (parts_in s i) x in
    record {
      tells = plain_tells;
      rest = parts_of t;
      there = rw y (parts_there t q (omega arith));
      total = agree_of (omega (arith, x));
      place = refl;
    }

-- a sum or a product: nothing is added after them
members_told : (t : Tree) → 2 ≤ kind_number t → kind_number t < 4 → summed t % modulus ≡ note t
unfolding kind_number parts_of summed
members_told (integer μ z) l m = absurd (omega arith)
members_told (symbol μ v) l m = absurd (omega arith)
members_told (sum μ f) l m = (sum_adds μ f).agree ∙ mod-eq_of_lt (note_lt (sum μ f))
members_told (product μ f) l m = (product_adds μ f).agree ∙ mod-eq_of_lt (note_lt (product μ f))
members_told (power μ b ξ e) l m = absurd (omega arith)

pub node_told : {s : List ℕ} {i : ℕ} {t : Tree} → TreeBy plain s i t → (k v : ℕ) → k ≡ kind s i → 2 ≤ k → k < 4 → v ≡ summed t % modulus
    → v ≡ note t
node_told {t = t} q k v e l m d = d ∙ members_told t (omega (arith, e, plain_kind q)) (omega (arith, e, plain_kind q))

-- a power: its exponent is, which stands behind them
pub record Exponent (s : List ℕ) (i : ℕ) (t : Tree) : Type 0 where
  pub number : ℕ
  pub within : behind i t * 16 + 16 ≤ length s
  pub there : bits s (behind i t) ≡ number
  pub total : (summed t % modulus + added_exponent number) % modulus ≡ note t

power_exponent : {s : List ℕ} {i : ℕ} (t : Tree) → TreeBy plain s i t → 4 ≤ kind_number t → Exponent s i t
unfolding kind_number parts_of summed records weight note_of shares
power_exponent (integer μ z) q l = absurd (omega arith)
power_exponent (symbol μ v) q l = absurd (omega arith)
power_exponent (sum μ f) q l = absurd (omega arith)
power_exponent (product μ f) q l = absurd (omega arith)
power_exponent {s} {i} (power μ b ξ e) q l =
    let h = plain_in q in
    let place : behind i (power μ b ξ e) ≡ i + 1 + records b = omega arith in
    let all : note_of 1 1 4 + adds_all (cons b nil) + added_exponent e ≡ note_of 1 1 4 + (adds b + added_exponent e) =
    omega (arith, adds_cons b nil) in
    record {
      number = e;
      within = omega (arith, place, tree_within h);
      there = ap (bits s) place ∙ (power_parts h).exponent_bits;
      total =
          (agree_trans (agree_add (agree_mod (note_of 1 1 4 + adds_all (cons b nil))) (agree_refl {a = added_exponent e}))
          (agree_trans (agree_of all) (power_adds μ b ξ e))).agree
          ∙ mod-eq_of_lt (note_lt (power μ b ξ e));
    }

pub exponent_told : {s : List ℕ} {i : ℕ} {t : Tree} → TreeBy plain s i t → (k : ℕ) → k ≡ kind s i → 4 ≤ k → Exponent s i t
exponent_told {t = t} q k e l = power_exponent t q (omega (arith, e, plain_kind q))

-- ---- what the loop over the trees behind record i keeps: `left` of them are to come from record `at` on, and acc is added
pub record Summed (s : List ℕ) (i acc at left : ℕ) : Type 0 where
  pub fits : acc < modulus
  pub ahead : i < at
  pub each : (t : Tree) → TreeBy plain s i t → Summing plain (summed t) s (behind i t) at left acc

module _ {s : List ℕ} {i acc at left : ℕ} (l : Summed s i acc at left) where
  pub part_given : Given s i → 0 < left → Given s at
  part_given g m =
      let first = summing_first (l.each g.0 (given_by g)) m in
      (first.tree, plain_in first.there, first.there.light)

  pub summed_step : 0 < left → (k n : ℕ) → k ≡ kind s at → ((u : Tree) → TreeIn s at u → weight u < 65536 → n ≡ note u) → (next : ℕ)
      → next ≡ (acc + added k n) % modulus → Summed s i next (at + n % 65536) (left - 1)
  summed_step m k n e h next d = record {
    fits = omega (arith, d);
    ahead = omega (arith, l.ahead);
    each = λ t q. summing_step (l.each t q) m k n e (λ u r. h u (plain_in r) r.light) next d;
  }

  module _ (m : left ≤ 0) where
    none : left ≡ 0
    none = omega arith

    -- a sum or a product is told
    pub summed_node : (k : ℕ) → k ≡ kind s i → 2 ≤ k → k < 4 → (t : Tree) → TreeIn s i t → weight t < 65536 → acc ≡ note t
    summed_node k e a b t h w = let q = plain_by h w in node_told q k acc e a b (summing_end (l.each t q) none l.fits)

    -- and so is a power, with its exponent, which stands there
    module _ (k : ℕ) (e : k ≡ kind s i) (a : 4 ≤ k) where
      pub exponent_inside : Given s i → at * 16 + 16 ≤ length s
      exponent_inside g =
          let q = given_by g in
          omega (arith, summing_last (l.each g.0 q) none, (exponent_told q k e a).within)

      pub summed_power : (x p v : ℕ) → x ≡ bits s at → p ≡ added_exponent x → v ≡ (acc + p) % modulus
          → (t : Tree) → TreeIn s i t → weight t < 65536 → v ≡ note t
      summed_power x p v b c d t h w =
          let q = plain_by h w in
          let r = exponent_told q k e a in
          let j = l.each t q in
          let y : p ≡ added_exponent r.number = c ∙ ap added_exponent (b ∙ ap (bits s) (summing_last j none) ∙ r.there) in
          d ∙ rw (summing_end j none l.fits, y) r.total

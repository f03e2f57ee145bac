-- Adding up, or multiplying, the values of members one after the other, as a loop does: what is gathered so far, joined with what the
-- members left would give, stays what all of them give, since the operation modulo 2^64 may be grouped as one likes. Once, for an
-- operation and what it gives for the members.
use Rattle.std.proofs.Common.{◌≡◌, ℕ, ◌+◌, ◌-◌, ◌*◌, ◌%◌, ◌<◌, ◌≤◌, Bool, true, false, cond, ltb, List, [], ◌∷◌, sym, refl, ap, ◌∙◌, mod-eq_of_lt}
use Rattle.std.proofs.Common.{mul_assoc, arith}
use Rattle.paper.specs.Limits.{modulus}
use Rattle.paper.specs.Tree.{Tree, Forest, nil, cons, records, recordses, value, sum_value, product_value}
use Rattle.paper.proofs.StandingLaws.{first_of, none_of}
use Rattle.paper.proofs.Congruence.{agree_refl, agree_sym, agree_trans, agree_mod, agree_mul, agree_of}
use Rattle.paper.proofs.Value.{sum_value_exact, product_value_exact}
use Rattle.paper.specs.Standing.{TreeIn, TreesIn, SomeTree, SomeTrees}
use Rattle.value.specs.Evaluated.{Evaluated, place, neutral, joined}

-- `op` gathers, from `unit` on, what `whole` gives for the members
pub record Gathers (op : ℕ → ℕ → ℕ) (unit : ℕ) (ρ : ℕ → ℕ) (whole : Forest → ℕ) : Type 0 where
  pub none : whole nil ≡ unit
  pub one_more : (t : Tree) (f : Forest) → whole (cons t f) ≡ op (value t ρ) (whole f) % modulus
  pub before : (v : ℕ) → op unit v ≡ v
  pub after : (v : ℕ) → op v unit ≡ v
  pub small : (f : Forest) → whole f < modulus
  pub grouped : (a v w : ℕ) → op (op a v % modulus) w % modulus ≡ op a (op v w % modulus) % modulus

-- of the members f from record i on, `left` are left from record `at` on, and `total` is gathered from the others
pub record Left (op : ℕ → ℕ → ℕ) (whole : Forest → ℕ) (s : List ℕ) (i total at left : ℕ) (f : Forest) : Type 0 where
  pub rest : Forest
  pub there : TreesIn s at left rest
  pub gathered : op total (whole rest) % modulus ≡ whole f
  pub sized : at + recordses rest ≡ i + recordses f

-- what a loop over the n members from record i on keeps, whichever they are; the cell `at` names the record where those left begin
pub record Gathering (op : ℕ → ℕ → ℕ) (whole : Forest → ℕ) (s : List ℕ) (i n total left : ℕ) (at : List ℕ) : Type 0 where
  pub ahead : i ≤ place at
  pub cell : at ≡ place at ∷ []
  pub fits : total < modulus
  pub each : (f : Forest) → TreesIn s i n f → Left op whole s i total (place at) left f

module _ {op : ℕ → ℕ → ℕ} {unit : ℕ} {ρ : ℕ → ℕ} {whole : Forest → ℕ} (o : Gathers op unit ρ whole) {s : List ℕ} {i : ℕ} where
  all_left : (n : ℕ) (f : Forest) → TreesIn s i n f → Left op whole s i unit i n f
  all_left n f m = record {
    rest = f;
    there = m;
    gathered = ap (λ (v : ℕ). v % modulus) (o.before (whole f)) ∙ mod-eq_of_lt (o.small f);
    sized = refl;
  }

  one_fewer : (f : Forest) (total next at left r : ℕ) (at' : List ℕ) → 0 < left → Left op whole s i total at left f
      → ((t : Tree) → TreeIn s at t → Evaluated at (records t) (value t ρ) r at')
      → next ≡ op total r % modulus → Left op whole s i next (place at') (left - 1) f
  unfolding records
  one_fewer f total next at left r at' h l g e =
      let m = first_of l.rest l.there h in
      let v = g m.tree m.there in
      let p : place at' ≡ at + records m.tree = ap place v.end in
      record {
        rest = m.others;
        there = rw p m.after;
        gathered =
            ap (λ (n : ℕ). op n (whole m.others) % modulus) (e ∙ ap (λ (x : ℕ). op total x % modulus) v.value)
            ∙ o.grouped total (value m.tree ρ) (whole m.others)
            ∙ ap (λ (x : ℕ). op total x % modulus) (sym (o.one_more m.tree m.others) ∙ ap whole (sym m.whole))
            ∙ l.gathered;
        sized = omega (arith, l.sized, p, ap recordses m.whole);
      }

  none_left : (f : Forest) (total at : ℕ) → total < modulus → Left op whole s i total at 0 f
      → (total ≡ whole f) × (at ≡ i + recordses f)
  unfolding records
  none_left f total at h l =
      let e = none_of l.rest l.there refl in (
        sym (mod-eq_of_lt h)
            ∙ ap (λ (x : ℕ). x % modulus) (sym (o.after total) ∙ ap (op total) (sym o.none ∙ ap whole (sym e)))
            ∙ l.gathered,
        omega (arith, l.sized, ap recordses e),
      )

  -- the loop's turns: at the start all are left; a member stands at `at` while one is left; each turn leaves one fewer
  pub begins : (n : ℕ) → unit < modulus → Gathering op whole s i n unit n (i ∷ [])
  begins n h = record { ahead = omega arith; cell = refl; fits = h; each = all_left n }

  module _ {n total left : ℕ} {at : List ℕ} (l : Gathering op whole s i n total left at) where
    pub member_there : SomeTrees s i n → 0 < left → SomeTree s (place at)
    member_there m h =
        let k = l.each m.trees m.there in
        let q = first_of k.rest k.there h in
        record { tree = q.tree; there = q.there }

    pub goes_on : SomeTrees s i n → 0 < left → (r : ℕ) (at' : List ℕ)
        → ((t : Tree) → TreeIn s (place at) t → Evaluated (place at) (records t) (value t ρ) r at')
        → (next : ℕ) → next ≡ op total r % modulus → Gathering op whole s i n next (left - 1) at'
    goes_on m h r at' g next e =
        let q = member_there m h in
        let v = g q.tree q.there in
        let p = ap place v.end in
        record {
          ahead = omega (arith, l.ahead, p);
          cell = v.end ∙ ap (λ (x : ℕ). x ∷ []) (sym p);
          fits = rw e (omega arith);
          each = λ f k. one_fewer f total next (place at) left r at' h (l.each f k) g e;
        }

    pub ends : left ≤ 0 → (f : Forest) → TreesIn s i n f → Evaluated i (recordses f) (whole f) total at
    ends h f m =
        let d : left ≡ 0 = omega arith in
        let q = none_left f total (place at) l.fits (rw d at (l.each f m)) in
        record { value = q.0; end = l.cell ∙ ap (λ (x : ℕ). x ∷ []) q.1 }

module _ (ρ : ℕ → ℕ) where
  sums : Gathers ◌+◌ 0 ρ (λ f. sum_value f ρ)
  unfolding value
  sums = record {
    none = refl;
    one_more = λ t f. refl;
    before = λ v. omega arith;
    after = λ v. omega arith;
    small = λ f. rw (sum_value_exact f ρ) (omega arith);
    grouped = λ a v w. omega arith;
  }

  products : Gathers ◌*◌ 1 ρ (λ f. product_value f ρ)
  unfolding value
  products = record {
    none = refl;
    one_more = λ t f. refl;
    before = λ v. omega arith;
    after = λ v. omega arith;
    small = λ f. rw (product_value_exact f ρ) (omega arith);
    grouped = λ a v w. (agree_trans
        (agree_mul (agree_mod (a * v)) (agree_refl {a = w}))
        (agree_trans (agree_of (mul_assoc a v w)) (agree_mul (agree_refl {a = a}) (agree_sym (agree_mod (v * w)))))).agree;
  }

  -- what the members of a node of kind k give, and how its value is gathered from them: both in one
  unfoldable pub gathered : ℕ → Forest → ℕ
  gathered k f = cond (ltb k 3) (sum_value f ρ) (product_value f ρ)

  either : (b : Bool) → Gathers (λ a v. cond b (a + v) (a * v)) (cond b 0 1) ρ (λ f. cond b (sum_value f ρ) (product_value f ρ))
  either true = sums
  either false = products

  pub gathers : (k : ℕ) → Gathers (joined k) (neutral k) ρ (gathered k)
  unfolding joined neutral gathered
  gathers k = either (ltb k 3)

pub neutral_small : (k : ℕ) → neutral k < modulus
unfolding neutral
neutral_small k = small (ltb k 3)
  where
    small : (b : Bool) → cond b 0 1 < modulus
    small true = omega arith
    small false = omega arith

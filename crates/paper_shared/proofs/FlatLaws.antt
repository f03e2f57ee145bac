-- Opening is flat: the opened records of a tree are its records in order, each record of a defined symbol giving way to what replaces it; and the
-- opened weight is the sum of what the records count. Both are one law, over anything that is joined record by record (`Flat`): by
-- induction on the tree, what stands after a record being joined to it.
use Prim.Native.Nat.{ℕ, zero, suc, ◌+◌, ◌<◌}
use mathlib.Core.Path.{◌≡◌, refl, sym, ap, ◌∙◌}
use mathlib.Core.Bool.{false, cond}
use mathlib.Core.List.{List, [], ◌++◌, append_assoc, append-nil}
use mathlib.Core.Option.{Option, none, some}
use native.Mathlib.Nat.{zero-add, add-zero, suc-add, add_assoc}
use native.Mathlib.Omega.{arith}
use lib.Dec.{eqb}
use lib.Seq.{take_at}
use Rattle.paper.specs.Bytes.{word}
use Rattle.paper.specs.Tree.{Tree, Forest, integer, symbol, sum, product, power, nil, cons, count, records, recordses, weight, weights}
use Rattle.paper.specs.WellFormed.{WF, WFs}
use Rattle.paper.specs.Record.{kind, symbol_in}
use Rattle.paper.specs.Verdict.{records_in}
use Rattle.paper.specs.Table.{record_of, encode, encodes}
use Rattle.paper.proofs.EncodeLaws.{record_length, kind_there, symbol_there}
use Rattle.paper.proofs.TableLaws.{records_written}
use Rattle.paper.proofs.Stands.{Stands, stands_whole, sum_record, sum_members, product_record, product_members}
use Rattle.paper.proofs.Stands.{power_record, power_base, power_exponent, first_member, other_members}
use Rattle.paper_shared.specs.Shared.{Definition, defined, both, make, replaced, open_by, opens_by, open_within, again_within, Tells}
use Rattle.paper_shared.specs.Records.{joined, over_records, instead, bytes_at, weight_at, open_from, weigh_from, records_for, weight_for}
use Rattle.paper_shared.proofs.OpenedLaws.{opens_count, within_again}

-- what is told of a tree by joining what is told of its records
pub record Flat (A : Type 0) : Type 0 where
  pub join : A → A → A
  pub nought : A
  pub own : List ℕ → ℕ → A
  pub one : ℕ → ℕ → ℕ → ℕ → A
  pub of : Tree → A
  pub ofs : Forest → A
  pub join_join : (a b c : A) → join (join a b) c ≡ join a (join b c)
  pub nought_join : (a : A) → join nought a ≡ a
  pub join_nought : (a : A) → join a nought ≡ a
  pub own_one : (s : List ℕ) (i k c m v : ℕ) → Stands s i (record_of k c m v) → own s i ≡ one k c m v
  pub of_integer : (μ : ℕ) (z : _) → of (integer μ z) ≡ one 0 0 μ (word z)
  pub of_symbol : (μ x : ℕ) → of (symbol μ x) ≡ one 1 0 μ x
  pub of_sum : (μ : ℕ) (f : Forest) → of (sum μ f) ≡ join (one 2 (count f) μ 0) (ofs f)
  pub of_product : (μ : ℕ) (f : Forest) → of (product μ f) ≡ join (one 3 (count f) μ 0) (ofs f)
  pub of_power : (μ : ℕ) (b : Tree) (ξ e : ℕ) → of (power μ b ξ e) ≡ join (one 4 0 μ 0) (join (of b) (one 0 0 ξ e))
  pub of_nil : ofs nil ≡ nought
  pub of_cons : (t : Tree) (f : Forest) → ofs (cons t f) ≡ join (of t) (ofs f)

module _ {A : Type 0} (F : Flat A) where
  -- what replaces a symbol tells
  unfoldable pub tells_of : List Definition → (Tree → Option Tree) → ℕ → A → Option A
  tells_of ds again x own = instead own (λ u. make F.of (again u)) (defined ds x)

  joins : Option A → Option A → Option A
  joins o p = joined F.join o p

  over : (ℕ → A → Option A) → List ℕ → ℕ → ℕ → Option A
  over f s i n = over_records F.join F.nought F.own f s i n

  joins_joins : (o p q : Option A) → joins (joins o p) q ≡ joins o (joins p q)
  unfolding joined joins
  joins_joins none p q = refl
  joins_joins (some a) none q = refl
  joins_joins (some a) (some b) none = refl
  joins_joins (some a) (some b) (some c) = ap some (F.join_join a b c)

  nought_joins : (o : Option A) → joins (some F.nought) o ≡ o
  unfolding joined joins
  nought_joins none = refl
  nought_joins (some a) = ap some (F.nought_join a)

  joins_nought : (o : Option A) → joins o (some F.nought) ≡ o
  unfolding joined joins
  joins_nought none = refl
  joins_nought (some a) = ap some (F.join_nought a)

  module _ (f : ℕ → A → Option A) where
    over_both : (s : List ℕ) (i a b : ℕ) → over f s i (a + b) ≡ joins (over f s i a) (over f s (i + a) b)
    unfolding over over_records joins
    over_both s i zero b = simp (zero-add, add-zero) (sym (nought_joins (over f s i b)))
    over_both s i (suc a) b = rw (suc-add a b) (step (over_both s (i + 1) a b))
      where
        here : Option A
        here = cond (eqb (kind s i) 1) (f (symbol_in s i) (F.own s i)) (some (F.own s i))

        step : over f s (i + 1) (a + b) ≡ joins (over f s (i + 1) a) (over f s (i + 1 + a) b)
            → joins here (over f s (i + 1) (a + b)) ≡ joins (joins here (over f s (i + 1) a)) (over f s (i + suc a) b)
        step e =
            let q : i + suc a ≡ i + 1 + a = omega arith in
            rw (q, e) (sym (joins_joins here (over f s (i + 1) a) (over f s (i + 1 + a) b)))

    over_one : (s : List ℕ) (i k c m v : ℕ) → eqb k 1 ≡ false → Stands s i (record_of k c m v) → over f s i 1 ≡ some (F.one k c m v)
    unfolding over over_records joins
    over_one s i k c m v n h =
        rw (kind_there s i k c m v h.after h.there, n) (joins_nought (some (F.own s i)) ∙ ap some (F.own_one s i k c m v h))

    over_symbol : (s : List ℕ) (i m x : ℕ) → x < 256 → Stands s i (record_of 1 0 m x) → over f s i 1 ≡ f x (F.one 1 0 m x)
    unfolding over over_records joins
    over_symbol s i m x l h =
        rw (kind_there s i 1 0 m x h.after h.there, symbol_there s i 1 0 m x h.after h.there l)
        (joins_nought (f x (F.own s i)) ∙ ap (f x) (F.own_one s i 1 0 m x h))

  module _ (ds : List Definition) (again : Tree → Option Tree) where
    symbol_told : (μ x : ℕ) (o : Option Tree) → instead (F.one 1 0 μ x) (λ u. make F.of (again u)) o ≡ make F.of (replaced again μ x o)
    unfolding instead make replaced
    symbol_told μ x none = ap some (sym (F.of_symbol μ x))
    symbol_told μ x (some u) = refl

    node_told : (k μ : ℕ) (node : Forest → Tree) → ((g : Forest) → F.of (node g) ≡ F.join (F.one k (count g) μ 0) (F.ofs g))
        → (f : Forest) (o : Option Forest) → Tells (λ g. count g ≡ count f) o
        → joins (some (F.one k (count f) μ 0)) (make F.ofs o) ≡ make F.of (make node o)
    unfolding joins joined make
    node_told k μ node e f none h = refl
    node_told k μ node e f (some g) h = ap some (ap (λ (n : ℕ). F.join (F.one k n μ 0) (F.ofs g)) (sym h) ∙ sym (e g))

    power_told : (μ ξ e : ℕ) (o : Option Tree)
        → joins (some (F.one 4 0 μ 0)) (joins (make F.of o) (some (F.one 0 0 ξ e))) ≡ make F.of (make (λ u. power μ u ξ e) o)
    unfolding joins joined make
    power_told μ ξ e none = refl
    power_told μ ξ e (some b) = ap some (sym (F.of_power μ b ξ e))

    cons_told : (o : Option Tree) (p : Option Forest) → joins (make F.of o) (make F.ofs p) ≡ make F.ofs (both o p)
    unfolding joins joined make both
    cons_told none p = refl
    cons_told (some t) none = refl
    cons_told (some t) (some f) = ap some (sym (F.of_cons t f))

    nothing : (s : List ℕ) (i : ℕ) → over (tells_of ds again) s i 0 ≡ some (F.ofs nil)
    unfolding over over_records
    nothing s i = ap some (sym F.of_nil)

    mutual
      unfolding encode records open_by make tells_of

      there : (t : Tree) (s : List ℕ) (i : ℕ) → WF t → Stands s i (encode t) → over (tells_of ds again) s i (records t) ≡ make F.of (open_by ds again t)
      there (integer μ z) s i w h = over_one (tells_of ds again) s i 0 0 μ (word z) refl h ∙ ap some (sym (F.of_integer μ z))
      there (symbol μ x) s i w h = over_symbol (tells_of ds again) s i μ x w.0 h ∙ symbol_told μ x (defined ds x)
      there (sum μ f) s i w h =
          over_both (tells_of ds again) s i 1 (recordses f)
          ∙ rw (over_one (tells_of ds again) s i 2 (count f) μ 0 refl (sum_record μ f h), theres f s (i + 1) w.1 (sum_members μ f h))
          (node_told 2 μ (sum μ) (F.of_sum μ) f (opens_by ds again f) (opens_count ds again f))
      there (product μ f) s i w h =
          over_both (tells_of ds again) s i 1 (recordses f)
          ∙ rw (over_one (tells_of ds again) s i 3 (count f) μ 0 refl (product_record μ f h), theres f s (i + 1) w.1 (product_members μ f h))
          (node_told 3 μ (product μ) (F.of_product μ) f (opens_by ds again f) (opens_count ds again f))
      there (power μ b ξ e) s i w h =
          let k : 2 + records b ≡ 1 + (records b + 1) = omega arith in
          ap (λ (n : ℕ). over (tells_of ds again) s i n) k
          ∙ over_both (tells_of ds again) s i 1 (records b + 1)
          ∙ rw (
            over_both (tells_of ds again) s (i + 1) (records b) 1,
            over_one (tells_of ds again) s i 4 0 μ 0 refl (power_record μ b ξ e h),
            there b s (i + 1) w.0 (power_base μ b ξ e h),
            over_one (tells_of ds again) s (i + 1 + records b) 0 0 ξ e refl (power_exponent μ b ξ e h),
          ) (power_told μ ξ e (open_by ds again b))

      theres : (f : Forest) (s : List ℕ) (i : ℕ) → WFs f → Stands s i (encodes f)
          → over (tells_of ds again) s i (recordses f) ≡ make F.ofs (opens_by ds again f)
      theres nil s i w h = nothing s i
      theres (cons t f) s i w h =
          over_both (tells_of ds again) s i (records t) (recordses f)
          ∙ rw (there t s i w.0 (first_member t f h), theres f s (i + records t) w.1 (other_members t f h))
          (cons_told (open_by ds again t) (opens_by ds again f))

-- ---- records
records_flat : Flat (List ℕ)
unfolding encode bytes_at
records_flat = record {
  join = ◌++◌;
  nought = [];
  own = bytes_at;
  one = record_of;
  of = encode;
  ofs = encodes;
  join_join = append_assoc;
  nought_join = λ a. refl;
  join_nought = append-nil;
  own_one = λ s i k c m v h. rw h.there (take_at (record_of k c m v) h.after 16 (record_length k c m v));
  of_integer = λ μ z. refl;
  of_symbol = λ μ x. refl;
  of_sum = λ μ f. refl;
  of_product = λ μ f. refl;
  of_power = λ μ b ξ e. refl;
  of_nil = refl;
  of_cons = λ t f. refl;
}

-- ---- weights
weight_flat : Flat ℕ
unfolding weight weight_at
weight_flat = record {
  join = ◌+◌;
  nought = 0;
  own = weight_at;
  one = λ k c m v. cond (eqb k 1) 3 1;
  of = weight;
  ofs = weights;
  join_join = add_assoc;
  nought_join = zero-add;
  join_nought = add-zero;
  own_one = λ s i k c m v h. rw (kind_there s i k c m v h.after h.there) refl;
  of_integer = λ μ z. refl;
  of_symbol = λ μ x. refl;
  of_sum = λ μ f. refl;
  of_product = λ μ f. refl;
  of_power = λ μ b ξ e. omega arith;
  of_nil = refl;
  of_cons = λ t f. refl;
}

-- "the loader replaces each by its tree", over records: opened n deep
pub encode_opened : (ds : List Definition) (n : ℕ) (t : Tree) → WF t
    → open_from (records_for ds (again_within ds n)) (encode t) 0 (records_in (encode t)) ≡ make encode (open_within ds n t)
unfolding open_from over tells_of records_for records_flat
encode_opened ds n t w =
    rw (records_written t, within_again ds n t) (there records_flat ds (again_within ds n) t (encode t) 0 w (stands_whole (encode t)))

-- and what it weighs
pub opened_weight : (ds : List Definition) (n : ℕ) (t : Tree) → WF t
    → weigh_from (weight_for ds (again_within ds n)) (encode t) 0 (records_in (encode t)) ≡ make weight (open_within ds n t)
unfolding weigh_from over tells_of weight_for weight_flat
opened_weight ds n t w =
    rw (records_written t, within_again ds n t) (there weight_flat ds (again_within ds n) t (encode t) 0 w (stands_whole (encode t)))

-- A written table is accepted, and weighs what its tree weighs. Each fact about the records of a tree that stands in a table is an
-- induction on the tree: it holds of the first record, whose fields are known, and of the members' records after it.
use Prim.Native.Nat.{ℕ, zero, suc, ◌+◌, ◌-◌, ◌*◌, ◌^◌, ◌<◌, ◌≤◌}
use mathlib.Core.Path.{◌≡◌, refl, sym, ap, ◌∙◌}
use mathlib.Core.Bool.{Bool, true, false, cond, ◌&&◌, ◌||◌, not}
use mathlib.Core.List.{List, ◌++◌}
use native.Mathlib.Nat.{zero-add, add-zero, suc-add, div-eq_of_lt}
use native.Mathlib.Omega.{arith}
use borrow.Author.Tests.{ne_eqb, lt-ltb, le-ltb}
use lib.Dec.{eqb, ltb, lit<}
use lib.ListN.{get_or, drop}
use lib.Seq.{get_or-drop}
use Rattle.paper.specs.Limits.{is_limit}
use Rattle.paper.specs.Bytes.{bytes, word}
use Rattle.paper.specs.Tree.{Tree, Forest, integer, symbol, sum, product, power, nil, cons, count, records, recordses, weight, weights}
use Rattle.paper.specs.Record.{kind, count_in, may_table, may_be, stray, is_node, sound, flaw, arity, weight_from}
use Rattle.paper.specs.Verdict.{accepted, records_in, table_weight, skip, tree_end, is_positive, bad_exponent, verdict}
use Rattle.paper.specs.WellFormed.{WF, WFs}
use Rattle.paper.specs.Table.{record_of, encode, encodes}
use Rattle.paper.proofs.EncodeLaws.{encode_length, records_pos, records_weight, count_records, kind_there, count_there, bits_there}
use Rattle.paper.proofs.Stands.{Stands, stands_whole, sum_record, sum_members, product_record, product_members}
use Rattle.paper.proofs.Stands.{power_record, power_base, power_exponent, first_member, other_members}
use Rattle.paper.proofs.FirstLaws.{All, all_one, all_both}
use Rattle.paper.proofs.LimitLaws.{limit_small}
use Rattle.paper.proofs.VerdictLaws.{Fine, passes_accepted}
use Rattle.paper.proofs.SkipLaws.{skip_none, skip_one, skip_more, end_step}

-- the records of a table in two parts
pub weight_both : (s : List ℕ) (i a b : ℕ) → weight_from s i (a + b) ≡ weight_from s i a + weight_from s (i + a) b
unfolding weight_from
weight_both s i zero b = simp (zero-add, add-zero)
weight_both s i (suc a) b = rw (suc-add a b) (step (weight_both s (i + 1) a b))
  where
    step : weight_from s (i + 1) (a + b) ≡ weight_from s (i + 1) a + weight_from s (i + 1 + a) b
        → cond (eqb (kind s i) 1) 3 1 + weight_from s (i + 1) (a + b)
        ≡ cond (eqb (kind s i) 1) 3 1 + weight_from s (i + 1) a + weight_from s (i + suc a) b
    step e = let q : i + suc a ≡ i + 1 + a = omega arith in rw q (omega arith)

pub weight_none : (s : List ℕ) (i : ℕ) → weight_from s i 0 ≡ 0
unfolding weight_from
weight_none s i = refl

pub weight_one : (s : List ℕ) (i k c m v : ℕ) → Stands s i (record_of k c m v) → weight_from s i 1 ≡ cond (eqb k 1) 3 1
unfolding weight_from
weight_one s i k c m v h = rw (kind_there s i k c m v h.after h.there) (add-zero (cond (eqb k 1) 3 1))

-- the records of a tree weigh what the tree weighs
mutual
  unfolding encode records weight

  pub weight_there : (t : Tree) (s : List ℕ) (i : ℕ) → Stands s i (encode t) → weight_from s i (records t) ≡ weight t
  weight_there (integer μ z) s i h = weight_one s i 0 0 μ (word z) h
  weight_there (symbol μ v) s i h = weight_one s i 1 0 μ v h
  weight_there (sum μ f) s i h =
      omega (arith, weight_both s i 1 (recordses f), weight_one s i 2 (count f) μ 0 (sum_record μ f h), weights_there f s (i + 1) (sum_members μ f h))
  weight_there (product μ f) s i h =
      omega (
        arith,
        weight_both s i 1 (recordses f),
        weight_one s i 3 (count f) μ 0 (product_record μ f h),
        weights_there f s (i + 1) (product_members μ f h),
      )
  weight_there (power μ b ξ e) s i h =
      let k : 2 + records b ≡ 1 + (records b + 1) = omega arith in
      rw k (omega (
        arith,
        weight_both s i 1 (records b + 1),
        weight_both s (i + 1) (records b) 1,
        weight_one s i 4 0 μ 0 (power_record μ b ξ e h),
        weight_there b s (i + 1) (power_base μ b ξ e h),
        weight_one s (i + 1 + records b) 0 0 ξ e (power_exponent μ b ξ e h),
      ))

  pub weights_there : (f : Forest) (s : List ℕ) (i : ℕ) → Stands s i (encodes f) → weight_from s i (recordses f) ≡ weights f
  weights_there nil s i h = weight_none s i
  weights_there (cons t f) s i h =
      omega (
        arith,
        weight_both s i (records t) (recordses f),
        weight_there t s i (first_member t f h),
        weights_there f s (i + records t) (other_members t f h),
      )

pub records_written : (t : Tree) → records_in (encode t) ≡ records t
unfolding records_in
records_written t = let l = encode_length t in omega arith

-- table weight is tree weight
pub encode_weight : (t : Tree) → table_weight (encode t) ≡ weight t
unfolding table_weight
encode_weight t = rw (records_written t) (weight_there t (encode t) 0 (stands_whole (encode t)))

-- the number of members of a record that stands in a table
arity_leaf : (s : List ℕ) (i k m v : ℕ) → k < 2 → Stands s i (record_of k 0 m v) → arity s i ≡ 0
unfolding arity
arity_leaf s i k m v l h = rw (kind_there s i k 0 m v h.after h.there, lt-ltb k 2 l)

arity_sum : (s : List ℕ) (i c m : ℕ) → c < 65536 → Stands s i (record_of 2 c m 0) → arity s i ≡ c
unfolding arity
arity_sum s i c m l h = rw (kind_there s i 2 c m 0 h.after h.there) (count_there s i 2 c m 0 h.after h.there l)

arity_product : (s : List ℕ) (i c m : ℕ) → c < 65536 → Stands s i (record_of 3 c m 0) → arity s i ≡ c
unfolding arity
arity_product s i c m l h = rw (kind_there s i 3 c m 0 h.after h.there) (count_there s i 3 c m 0 h.after h.there l)

arity_power : (s : List ℕ) (i m : ℕ) → Stands s i (record_of 4 0 m 0) → arity s i ≡ 2
unfolding arity
arity_power s i m h = rw (kind_there s i 4 0 m 0 h.after h.there)

-- a leaf ends one record later
pub end_leaf : (s : List ℕ) (n i k m v : ℕ) → k < 2 → i < n → Stands s i (record_of k 0 m v) → tree_end s n i ≡ i + 1
end_leaf s n i k m v l u h = end_step s n i u ∙ rw (arity_leaf s i k m v l h) (skip_none s n (n - (i + 1)) (i + 1))

-- the tree that stands at record i ends as many records later as it has
mutual
  unfolding encode records count

  pub encode_end : (t : Tree) (s : List ℕ) (n i : ℕ) → Stands s i (encode t) → records t < 65536 → i + records t ≤ n
      → tree_end s n i ≡ i + records t
  encode_end (integer μ z) s n i h c l = end_leaf s n i 0 μ (word z) (lit< tt) (omega arith) h
  encode_end (symbol μ v) s n i h c l = end_leaf s n i 1 μ v (lit< tt) (omega arith) h
  encode_end (sum μ f) s n i h c l =
      end_step s n i (omega arith)
      ∙ rw (arity_sum s i (count f) μ (omega (arith, count_records f)) (sum_record μ f h))
      (encodes_end f s n (i + 1) (sum_members μ f h) (omega arith) (omega arith) ∙ omega arith)
  encode_end (product μ f) s n i h c l =
      end_step s n i (omega arith)
      ∙ rw (arity_product s i (count f) μ (omega (arith, count_records f)) (product_record μ f h))
      (encodes_end f s n (i + 1) (product_members μ f h) (omega arith) (omega arith) ∙ omega arith)
  encode_end (power μ b ξ e) s n i h c l =
      let j : tree_end s n (i + 1) ≡ i + 1 + records b = encode_end b s n (i + 1) (power_base μ b ξ e h) (omega arith) (omega arith) in
      end_step s n i (omega arith)
      ∙ rw (arity_power s i μ (power_record μ b ξ e h), skip_more s n (i + 1) 1, j, skip_one s n (i + 1 + records b))
      (end_leaf s n (i + 1 + records b) 0 ξ e (lit< tt) (omega arith) (power_exponent μ b ξ e h) ∙ omega arith)

  pub encodes_end : (f : Forest) (s : List ℕ) (n i : ℕ) → Stands s i (encodes f) → recordses f < 65536 → i + recordses f ≤ n
      → skip s n (n - i) (count f) i ≡ i + recordses f
  encodes_end nil s n i h c l = skip_none s n (n - i) i ∙ omega arith
  encodes_end (cons t f) s n i h c l =
      rw (skip_more s n i (count f), encode_end t s n i (first_member t f h) (omega arith) (omega arith))
      (encodes_end f s n (i + records t) (other_members t f h) (omega arith) (omega arith) ∙ omega arith)

-- the stray bytes of a record that stands in a table are those of the record by itself
stray_there : (s : List ℕ) (i : ℕ) (l : List ℕ) (k j n : ℕ) → drop (i * 16) s ≡ l → stray s i k j n ≡ stray l 0 k j n
unfolding stray
stray_there s i l k j zero e = refl
stray_there s i l k j (suc n) e =
    let b : get_or s (i * 16 + j) 0 ≡ get_or l (0 * 16 + j) 0
    = sym (get_or-drop (i * 16) s j 0) ∙ ap (λ (x : List ℕ). get_or x j 0) e ∙ ap (λ (x : ℕ). get_or l x 0) (sym (zero-add j)) in
    rw (b, stray_there s i l k (j + 1) n e)

or_true : (b : Bool) → (b || true) ≡ true
or_true true = refl
or_true false = refl

-- no byte that must be zero is written with another
clean_integer : (m v : ℕ) (rest : List ℕ) → stray (record_of 0 0 m v ++ rest) 0 0 0 16 ≡ 16
unfolding record_of bytes stray may_be may_table
clean_integer m v rest = simp or_true

clean_symbol : (m v : ℕ) (rest : List ℕ) → v < 256 → stray (record_of 1 0 m v ++ rest) 0 1 0 16 ≡ 16
unfolding record_of bytes stray may_be may_table
clean_symbol m v rest h = simp (div-eq_of_lt h, or_true)

clean_sum : (c m : ℕ) (rest : List ℕ) → stray (record_of 2 c m 0 ++ rest) 0 2 0 16 ≡ 16
unfolding record_of bytes stray may_be may_table
clean_sum c m rest = simp or_true

clean_product : (c m : ℕ) (rest : List ℕ) → stray (record_of 3 c m 0 ++ rest) 0 3 0 16 ≡ 16
unfolding record_of bytes stray may_be may_table
clean_product c m rest = simp or_true

clean_power : (m : ℕ) (rest : List ℕ) → stray (record_of 4 0 m 0 ++ rest) 0 4 0 16 ≡ 16
unfolding record_of bytes stray may_be may_table
clean_power m rest = simp or_true

-- a written record has no flaw
sound_there : (s : List ℕ) (i k c m v : ℕ) (h : Stands s i (record_of k c m v)) → k ≤ 4
    → stray (record_of k c m v ++ h.after) 0 k 0 16 ≡ 16 → (is_node k && ltb (count_in s i) 2) ≡ false → flaw s i ≡ sound
unfolding flaw
sound_there s i k c m v h small clean members =
    rw (kind_there s i k c m v h.after h.there, le-ltb 4 k small, stray_there s i (record_of k c m v ++ h.after) k 0 16 h.there, clean, members)

-- a written record that is no power has no bad exponent; a written power has a good one
no_power : (s : List ℕ) (n i k c m v : ℕ) → Stands s i (record_of k c m v) → k < 4 → bad_exponent s n i ≡ n
unfolding bad_exponent
no_power s n i k c m v h l = rw (kind_there s i k c m v h.after h.there, ne_eqb k 4 (omega arith))

positive_there : (s : List ℕ) (e m v : ℕ) → Stands s e (record_of 0 0 m v) → 1 ≤ v → v < 2 ^ 63 → is_positive s e ≡ true
unfolding is_positive
positive_there s e m v h l u =
    rw (kind_there s e 0 0 m v h.after h.there, bits_there s e 0 0 m v h.after h.there (omega arith), lt-ltb 0 v l, lt-ltb v (2 ^ 63) u)

good_power : (s : List ℕ) (n i e m : ℕ) → Stands s i (record_of 4 0 m 0) → tree_end s n (i + 1) ≡ e → is_positive s e ≡ true → bad_exponent s n i ≡ n
unfolding bad_exponent
good_power s n i e m h q p = rw (kind_there s i 4 0 m 0 h.after h.there, q, p) (go (ltb e n))
  where
    go : (b : Bool) → cond (b && not true) e n ≡ n
    go true = refl
    go false = refl

fine_integer : (s : List ℕ) (n i m v : ℕ) → Stands s i (record_of 0 0 m v) → All (Fine s n) i (i + 1)
unfolding is_node
fine_integer s n i m v h =
    all_one (Fine s n) i (sound_there s i 0 0 m v h (omega arith) (clean_integer m v h.after) refl, no_power s n i 0 0 m v h (omega arith))

fine_symbol : (s : List ℕ) (n i m v : ℕ) → Stands s i (record_of 1 0 m v) → v < 256 → All (Fine s n) i (i + 1)
unfolding is_node
fine_symbol s n i m v h l =
    all_one (Fine s n) i (sound_there s i 1 0 m v h (omega arith) (clean_symbol m v h.after l) refl, no_power s n i 1 0 m v h (omega arith))

fine_sum : (s : List ℕ) (n i c m : ℕ) → Stands s i (record_of 2 c m 0) → 2 ≤ c → c < 65536 → All (Fine s n) i (i + 1)
unfolding is_node
fine_sum s n i c m h l u =
    let e : ltb (count_in s i) 2 ≡ false = rw (count_there s i 2 c m 0 h.after h.there u) (le-ltb c 2 l) in
    all_one (Fine s n) i (sound_there s i 2 c m 0 h (omega arith) (clean_sum c m h.after) e, no_power s n i 2 c m 0 h (omega arith))

fine_product : (s : List ℕ) (n i c m : ℕ) → Stands s i (record_of 3 c m 0) → 2 ≤ c → c < 65536 → All (Fine s n) i (i + 1)
unfolding is_node
fine_product s n i c m h l u =
    let e : ltb (count_in s i) 2 ≡ false = rw (count_there s i 3 c m 0 h.after h.there u) (le-ltb c 2 l) in
    all_one (Fine s n) i (sound_there s i 3 c m 0 h (omega arith) (clean_product c m h.after) e, no_power s n i 3 c m 0 h (omega arith))

fine_power : (s : List ℕ) (n i e m y v : ℕ) → Stands s i (record_of 4 0 m 0) → tree_end s n (i + 1) ≡ e → Stands s e (record_of 0 0 y v)
    → 1 ≤ v → v < 2 ^ 63 → All (Fine s n) i (i + 1)
unfolding is_node
fine_power s n i e m y v h q x l u =
    all_one (Fine s n) i
    (sound_there s i 4 0 m 0 h (omega arith) (clean_power m h.after) refl, good_power s n i e m h q (positive_there s e y v x l u))

fine_both : (s : List ℕ) (n i a b : ℕ) → All (Fine s n) i (i + a) → All (Fine s n) (i + a) (i + a + b) → All (Fine s n) i (i + (a + b))
fine_both s n i a b f g = let q : i + (a + b) ≡ i + a + b = omega arith in rw q (all_both (Fine s n) i (i + a) (i + a + b) f g)

-- every record of a well-formed tree is fine
mutual
  unfolding encode records count

  pub fine_there : (t : Tree) (s : List ℕ) (n i : ℕ) → Stands s i (encode t) → WF t → records t < 65536 → i + records t ≤ n
      → All (Fine s n) i (i + records t)
  fine_there (integer μ z) s n i h w c l = fine_integer s n i μ (word z) h
  fine_there (symbol μ v) s n i h w c l = fine_symbol s n i μ v h w.0
  fine_there (sum μ f) s n i h w c l =
      fine_both s n i 1 (recordses f) (fine_sum s n i (count f) μ (sum_record μ f h) w.0 (omega (arith, count_records f)))
      (fines_there f s n (i + 1) (sum_members μ f h) w.1 (omega arith) (omega arith))
  fine_there (product μ f) s n i h w c l =
      fine_both s n i 1 (recordses f) (fine_product s n i (count f) μ (product_record μ f h) w.0 (omega (arith, count_records f)))
      (fines_there f s n (i + 1) (product_members μ f h) w.1 (omega arith) (omega arith))
  fine_there (power μ b ξ e) s n i h w c l =
      let j : tree_end s n (i + 1) ≡ i + 1 + records b = encode_end b s n (i + 1) (power_base μ b ξ e h) (omega arith) (omega arith) in
      let k : 2 + records b ≡ 1 + (records b + 1) = omega arith in
      rw k (fine_both s n i 1 (records b + 1)
      (fine_power s n i (i + 1 + records b) μ ξ e (power_record μ b ξ e h) j (power_exponent μ b ξ e h) w.1 w.2)
      (fine_both s n (i + 1) (records b) 1 (fine_there b s n (i + 1) (power_base μ b ξ e h) w.0 (omega arith) (omega arith))
      (fine_integer s n (i + 1 + records b) ξ e (power_exponent μ b ξ e h))))

  pub fines_there : (f : Forest) (s : List ℕ) (n i : ℕ) → Stands s i (encodes f) → WFs f → recordses f < 65536 → i + recordses f ≤ n
      → All (Fine s n) i (i + recordses f)
  fines_there nil s n i h w c l = λ j a b. absurd (omega arith)
  fines_there (cons t f) s n i h w c l =
      fine_both s n i (records t) (recordses f) (fine_there t s n i (first_member t f h) w.0 (omega arith) (omega arith))
      (fines_there f s n (i + records t) (other_members t f h) w.1 (omega arith) (omega arith))

-- the records of every well-formed tree that is not too heavy are a table
pub written_accepted : (lim : ℕ) → is_limit lim ≡ true → (t : Tree) → WF t → weight t ≤ lim → verdict lim (encode t) ≡ accepted
written_accepted lim known t w h =
    let small = limit_small lim known in
    let r = records_weight t in
    let p = records_pos t in
    let at = stands_whole (encode t) in
    let n = records_in (encode t) in
    let e : n ≡ records t = records_written t in
    let f : All (Fine (encode t) n) 0 (0 + records t) = fine_there t (encode t) n 0 at w (omega arith) (omega arith) in
    passes_accepted lim (encode t) (record {
      known = known;
      long = rw (encode_length t) (record { positive = omega arith; sixteens = omega arith; short = omega arith });
      fine = λ j a b. f j a (omega arith);
      light = rw (encode_weight t) h;
      ends = encode_end t (encode t) n 0 at (omega arith) (omega arith) ∙ omega arith;
    })

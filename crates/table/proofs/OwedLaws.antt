-- Laws of the trees that are owed, of which some are exponents: what they and the records that are left tell of bad exponents is what the
-- whole table tells, record by record. A power's exponent is the record after its base, so where the base and the exponent are owed,
-- that tells what the power did. The first bad one that is met is the least, since the others stand behind it.
use Prim.Native.Nat.{ℕ, zero, suc, ◌+◌, ◌-◌, ◌*◌, ◌<◌, ◌≤◌, min}
use mathlib.Core.Path.{◌≡◌, refl, sym, ◌∙◌}
use mathlib.Core.Bool.{Bool, true, false, cond, ◌&&◌, not}
use mathlib.Core.List.{List}
use native.Mathlib.Decide.{ℕ_discrete}
use native.Mathlib.Omega.{arith}
use borrow.Author.Tests.{eq-eqb, ne_eqb, lt-ltb, le-ltb, eqb-true}
use lib.Dec.{eqb, ltb}
use lib.ListN.{length}
use Rattle.paper.specs.Record.{kind, count_in, arity}
use Rattle.paper.specs.Verdict.{skip, tree_end, is_positive, bad_exponent, first_bad_exponent}
use Rattle.paper.proofs.SkipLaws.{skip_none, skip_out, skip_one, skip_step, skip_more, end_step}
use Rattle.table.specs.Due.{due_at, turned, owing}
use Rattle.table.proofs.BadLaws.{bad_at, cond_least, bad_least, end_after, no_power, of_power, first_most, first_after, first_none, first_step}
use Rattle.table.proofs.DueLaws.{turned_length, set_bit, cleared_bit, other_bits}

-- the number of members, by kind
module _ (s : List ℕ) (i : ℕ) where
  pub arity_power : kind s i ≡ 4 → arity s i ≡ 2
  unfolding arity
  arity_power p = rw p

  pub arity_leaf : kind s i < 2 → arity s i ≡ 0
  unfolding arity
  arity_leaf h = rw (lt-ltb (kind s i) 2 h)

  pub arity_node : 2 ≤ kind s i → kind s i ≤ 3 → arity s i ≡ count_in s i
  unfolding arity
  arity_node h l = rw (le-ltb (kind s i) 2 h, ne_eqb (kind s i) 4 (λ e. omega arith)) refl

and_first : (a b c : Bool) → (a && b && c) ≡ true → a ≡ true
and_first true b c h = refl
and_first false b c h = h

-- an exponent that is good is an integer
positive_integer : (s : List ℕ) (x : ℕ) → is_positive s x ≡ true → kind s x ≡ 0
unfolding is_positive
positive_integer s x h = eqb-true (kind s x) 0 (and_first (eqb (kind s x) 0) _ _ h)

module _ (s : List ℕ) (n : ℕ) where
  bad_good : (x : ℕ) → is_positive s x ≡ true → bad_at s n x ≡ n
  unfolding bad_at
  bad_good x h = rw h (by (ltb x n))
    where
      by : (b : Bool) → cond (b && not true) x n ≡ n
      by true = refl
      by false = refl

  bad_bad : (x : ℕ) → x < n → is_positive s x ≡ false → bad_at s n x ≡ x
  unfolding bad_at
  bad_bad x l h = rw (h, lt-ltb x n l)

  -- what the first k trees that are owed tell, the top one beginning at record j, b being the bits: the least bad exponent, or n
  unfoldable pub owed_bad : (ℕ → ℕ) → ℕ → ℕ → ℕ
  owed_bad b zero j = n
  owed_bad b (suc k) j = min (cond (eqb (b k) 1) (bad_at s n j) n) (owed_bad b k (tree_end s n j))

  module _ (b : ℕ → ℕ) where
    owed_most : (k j : ℕ) → owed_bad b k j ≤ n
    unfolding owed_bad
    owed_most zero j = omega arith
    owed_most (suc k) j = let h = owed_most k (tree_end s n j) in omega arith

    owed_least : (k j z : ℕ) → z ≤ j → z ≤ n → j ≤ n + 1 → z ≤ owed_bad b k j
    unfolding owed_bad
    owed_least zero j z h l m = l
    owed_least (suc k) j z h l m =
        let e = end_after s n j m in
        let r = owed_least k (tree_end s n j) z (omega arith) l e.1 in
        let t = cond_least (eqb (b k) 1) z (bad_at s n j) n (bad_least s n j z h l) l in
        omega arith

    -- the top one is no exponent, or it is one
    owed_other : (k j : ℕ) → b k ≡ 0 → owed_bad b (suc k) j ≡ owed_bad b k (tree_end s n j)
    unfolding owed_bad
    owed_other k j z = let h = owed_most k (tree_end s n j) in rw z (omega arith)

    owed_exponent : (k j : ℕ) → b k ≡ 1 → owed_bad b (suc k) j ≡ min (bad_at s n j) (owed_bad b k (tree_end s n j))
    unfolding owed_bad
    owed_exponent k j z = rw z refl

    -- a trees above the first k are no exponents
    owed_others : (a k j : ℕ) → ((m : ℕ) → k ≤ m → b m ≡ 0) → owed_bad b (k + a) j ≡ owed_bad b k (skip s n (n - j) a j)
    owed_others zero k j z = let e : k + 0 ≡ k = omega arith in rw (e, skip_none s n (n - j) j) refl
    owed_others (suc a) k j z =
        let e : k + suc a ≡ suc (k + a) = omega arith in
        rw (e, skip_more s n j a) (owed_other (k + a) j (z (k + a) (omega arith)) ∙ owed_others a k (tree_end s n j) z)

  -- bits that agree tell the same
  owed_same : (b c : ℕ → ℕ) (k j : ℕ) → ((m : ℕ) → m < k → b m ≡ c m) → owed_bad b k j ≡ owed_bad c k j
  unfolding owed_bad
  owed_same b c zero j h = refl
  owed_same b c (suc k) j h =
      rw (h k (omega arith), owed_same b c k (tree_end s n j) (λ m l. h m (omega arith))) refl

  -- each tree that is owed has a record
  pub owed_few : (f o i : ℕ) → n - i ≡ f → i ≤ n → skip s n (n - i) o i ≤ n → i + o ≤ n
  owed_few zero zero i e l h = omega arith
  owed_few (suc f) zero i e l h = omega arith
  owed_few zero (suc o) i e l h = absurd (omega (arith, skip_out s n (suc o) i (omega arith) (omega arith)))
  owed_few (suc f) (suc o) i e l h =
      let q = skip_step s n i (suc o) (omega arith) (omega arith) in
      let r = owed_few f (suc o - 1 + arity s i) (i + 1) (omega arith) (omega arith) (omega arith) in
      omega arith

-- what holds where `owed` trees are owed from record i on, `due` being their bits
pub record Owing (s : List ℕ) (n i owed : ℕ) (due : List ℕ) : Type 0 where
  pub few : i ≤ n
  pub long : length due ≡ 256
  pub past : (k : ℕ) → owed ≤ k → due_at due k ≡ 0
  pub ends : skip s n (n - i) owed i ≡ n
  pub rest : min (owed_bad s n (due_at due) owed i) (first_bad_exponent s n i (n - i)) ≡ first_bad_exponent s n 0 n

module _ {s : List ℕ} {n : ℕ} where
  pub begins : (due : List ℕ) → length due ≡ 256 → ((k : ℕ) → due_at due k ≡ 0) → tree_end s n 0 ≡ n → Owing s n 0 1 due
  unfolding owed_bad
  begins due l z e =
      let most = first_most s n 0 n in
      let none : n - 0 ≡ n = omega arith in
      record {
        few = omega arith;
        long = l;
        past = λ k h. z k;
        ends = skip_one s n 0 ∙ e;
        rest = rw (none, owed_other s n (due_at due) 0 0 (z 0)) (omega arith);
      }

  module _ {i owed : ℕ} {due : List ℕ} (o : Owing s n i owed due) where
    pub some_owed : i < n → 0 < owed
    some_owed h = by owed refl
      where
        by : (k : ℕ) → owed ≡ k → 0 < owed
        by zero e = absurd (omega (arith, sym (skip_none s n (n - i) i) ∙ rw e at o.ends))
        by (suc k) e = omega arith

    pub one_on_top : i < n → Owing s n i (suc (owed - 1)) due
    one_on_top h = let e : owed ≡ suc (owed - 1) = omega (arith, some_owed h) in rw e at o

    pub owed_within : i + owed ≤ n
    owed_within = owed_few s n (n - i) owed i refl o.few (omega (arith, o.ends))

    pub all_taken : n ≤ i → first_bad_exponent s n 0 n ≡ n
    unfolding owed_bad
    all_taken h =
        let z : owed ≡ 0 = omega (arith, owed_within) in
        let r = rw (z, first_none s n i h) at o.rest in
        sym r ∙ omega arith

  -- record i is the top one of k + 1 trees
  module _ {i k : ℕ} {due : List ℕ} (small : n ≤ 16384) (o : Owing s n i (suc k) due) (l : i < n) where
    inside : k < length due * 64
    inside = omega (arith, owed_within o, o.long)

    -- it is a bad exponent
    pub bad_taken : due_at due k ≡ 1 → is_positive s i ≡ false → first_bad_exponent s n 0 n ≡ i
    bad_taken z h =
        let own = bad_bad s n i l h in
        let e = end_after s n i (omega arith) in
        let others = owed_least s n (due_at due) k (tree_end s n i) i e.0 (omega arith) e.1 in
        let later = first_after s n i (n - i) (omega arith) in
        sym o.rest ∙ omega (arith, owed_exponent s n (due_at due) k i z)

    -- it is none, and its members are owed then
    goes_on : (due' : List ℕ) → length due' ≡ length due → ((m : ℕ) → k + arity s i ≤ m → due_at due' m ≡ 0)
        → owed_bad s n (due_at due) (suc k) i ≡ owed_bad s n (due_at due) k (tree_end s n i)
        → owed_bad s n (due_at due') (k + arity s i) (i + 1) ≡ min (bad_exponent s n i) (owed_bad s n (due_at due) k (tree_end s n i))
        → Owing s n (i + 1) (k + arity s i) due'
    goes_on due' same past top told =
        let e : suc k - 1 + arity s i ≡ k + arity s i = omega arith in
        record {
          few = omega arith;
          long = same ∙ o.long;
          past = past;
          ends = sym (rw e at (skip_step s n i (suc k) (omega arith) l)) ∙ o.ends;
          rest = rw told (omega (arith, o.rest, top, first_step s n i l));
        }

    -- the bits below k are those that were there, whether or not that of k is turned
    below : (j : ℕ) → owed_bad s n (due_at (turned due k)) k j ≡ owed_bad s n (due_at due) k j
    below j = owed_same s n (due_at (turned due k)) (due_at due) k j (λ m h. other_bits due k m inside (λ e. omega arith))

    above : (m : ℕ) → k < m → due_at (turned due k) m ≡ 0
    above m h = other_bits due k m inside (λ e. omega arith) ∙ o.past m h

    -- a good exponent is an integer
    pub good_taken : due_at due k ≡ 1 → is_positive s i ≡ true → Owing s n (i + 1) k (turned due k)
    good_taken z h =
        let integer = positive_integer s i h in
        let leaf = arity_leaf s i (omega (arith, integer)) in
        let none : k + arity s i ≡ k = omega (arith, leaf) in
        let end : tree_end s n i ≡ i + 1 = end_step s n i l ∙ rw leaf (skip_none s n (n - (i + 1)) (i + 1)) in
        let own = bad_good s n i h in
        let most = owed_most s n (due_at due) k (tree_end s n i) in
        let top : owed_bad s n (due_at due) (suc k) i ≡ owed_bad s n (due_at due) k (tree_end s n i) = owed_exponent s n (due_at due) k i z ∙ omega arith in
        let other = no_power s n i (λ e. omega arith) in
        let told : owed_bad s n (due_at (turned due k)) (k + arity s i) (i + 1) ≡ min (bad_exponent s n i) (owed_bad s n (due_at due) k (tree_end s n i)) =
        rw none (below (i + 1) ∙ rw (← end) (omega arith)) in
        rw none at (goes_on (turned due k) (turned_length due k) (rw none past) top told)
      where
        past : (m : ℕ) → k ≤ m → due_at (turned due k) m ≡ 0
        past m g = by (ℕ_discrete m k)
          where
            by : Dec (m ≡ k) → due_at (turned due k) m ≡ 0
            by (yes e) = rw e (cleared_bit due k inside z)
            by (no e) = above m (omega arith)

    module _ (z : due_at due k ≡ 0) where
      top : owed_bad s n (due_at due) (suc k) i ≡ owed_bad s n (due_at due) k (tree_end s n i)
      top = owed_other s n (due_at due) k i z

      past : (m : ℕ) → k ≤ m → due_at due m ≡ 0
      past m g = by (ℕ_discrete m k)
        where
          by : Dec (m ≡ k) → due_at due m ≡ 0
          by (yes e) = rw e z
          by (no e) = o.past m (omega arith)

      others_owed : (kind s i ≡ 4 → ⊥) → Owing s n (i + 1) (k + arity s i) due
      others_owed p =
          let most = owed_most s n (due_at due) k (tree_end s n i) in
          let none = no_power s n i p in
          let members = rw (← (end_step s n i l)) at (owed_others s n (due_at due) (arity s i) k (i + 1) past) in
          goes_on due refl (λ m g. past m (omega arith)) top (members ∙ omega arith)

      power_owed : kind s i ≡ 4 → Owing s n (i + 1) (k + arity s i) (turned due k)
      power_owed p =
          let b = due_at (turned due k) in
          let x = tree_end s n (i + 1) in
          let two : k + arity s i ≡ suc (suc k) = omega (arith, arity_power s i p) in
          let end : tree_end s n i ≡ tree_end s n x =
          end_step s n i l ∙ rw (arity_power s i p, skip_more s n (i + 1) 1, skip_one s n x) refl in
          let base = owed_other s n b (suc k) (i + 1) (above (suc k) (omega arith)) in
          let exponent = owed_exponent s n b k x (set_bit due k inside z) in
          let told : owed_bad s n b (k + arity s i) (i + 1) ≡ min (bad_exponent s n i) (owed_bad s n (due_at due) k (tree_end s n i)) =
          rw (two, base, exponent, of_power s n i p, end, below (tree_end s n x)) refl in
          goes_on (turned due k) (turned_length due k) (λ m g. above m (omega arith)) top told

      pub members_owed : Owing s n (i + 1) (k + arity s i) (owing s i due k)
      unfolding owing
      members_owed = by (ℕ_discrete (kind s i) 4)
        where
          by : Dec (kind s i ≡ 4) → Owing s n (i + 1) (k + arity s i) (owing s i due k)
          by (yes p) = rw (eq-eqb (kind s i) 4 p) (power_owed p)
          by (no p) = rw (ne_eqb (kind s i) 4 p) (others_owed p)

-- Trees that take a quarter of the square of their weight in tries, but for 5, in either edition: a step at the bottom of a tower of nodes. Each node
-- of the tower is asked in vain, its members are driven, one of them changed, and it is begun again: and then it is finished, which takes a try for each
-- of its records. So each level that is built on takes more tries by two and by its records: these make the square.
use Prim.Native.Nat.{ℕ, zero, suc, ◌+◌, ◌*◌, ◌≤◌}
use mathlib.Core.Path.{◌≡◌, refl, ap, ◌∙◌}
use mathlib.Core.Bool.{Bool, true, false, cond}
use mathlib.Core.List.{List, [], ◌∷◌}
use native.Mathlib.Omega.{arith}
use lib.IntN.{pos}
use lib.Dec.{eqb, lit<, lit≤}
use Rattle.paper.specs.Tree.{Tree, Forest, integer, symbol, sum, product, to_list, of_list, count, weight, records}
use Rattle.paper.specs.WellFormed.{WF, WFs}
use Rattle.paper.specs.Rules.{Rule, rules_of, edition_one, edition_two}
use Rattle.paper.specs.Driver.{no_rule, step, ask, done, after, tried, and_then, each, members, as_sum, as_product, open_one, opened}
use Rattle.paper.specs.Driver.{gather, settle, gathered, visit, simplify}
use Rattle.paper.specs.Admits.{openings_at, AdmitsNone, admits_none, no_more, and_more}
use Rattle.paper.specs.Good.{Goods}
use Rattle.paper.specs.Squared.{nested, tall, shorter, Steep}
use Rattle.paper.proofs.EditionTwo.{edition_good}
use Rattle.paper.proofs.Fuel.{simplify_visits}
use Rattle.paper.proofs.Simplified.{simplify_again}
use Rattle.paper.proofs.Computes.{driver_computes}

abbrev two : Tree
two = integer 0 (pos 2)

abbrev over_product : Tree → Tree
over_product t = product 0 (of_list (two ∷ t ∷ []))

abbrev over_sum : Tree → Tree
over_sum t = sum 0 (of_list (two ∷ t ∷ []))

abbrev bottom : List Tree
bottom = symbol 0 0 ∷ integer 0 (pos 1) ∷ []

-- what is asked of the rules: at the bottom step 1 applies, and nothing applies after it, nor at any node of the tower
record Steps (rs : List Rule) : Type 0 where
  at_bottom : ask rs (sum 0 (of_list (symbol 0 0 ∷ integer 0 (pos 1) ∷ integer 0 (pos 0) ∷ []))) ≡ step 1 (sum 0 (of_list bottom))
  after_it : AdmitsNone rs (sum 0 (of_list bottom))
  at_two : ask rs two ≡ no_rule
  at_product : (f : Forest) → ask rs (over_product (sum 0 f)) ≡ no_rule
  at_sum : (f : Forest) → ask rs (over_sum (over_product (sum 0 f))) ≡ no_rule

nested_wf : (h : ℕ) (f : Forest) → 2 ≤ count f → WFs f → (2 ≤ count (nested h f)) × WFs (nested h f)
unfolding nested of_list count
nested_wf zero f c w = (c, w)
nested_wf (suc h) f c w =
    let r = nested_wf h f c w in
    (lit≤ tt, ((lit< tt, lit< tt), ((lit≤ tt, ((lit< tt, lit< tt), ((r.0, r.1, lit< tt), tt)), lit< tt), tt)))

tall_wf : (h : ℕ) → WF (tall h)
unfolding tall of_list count
tall_wf h =
    let r =
    nested_wf h (of_list (symbol 0 0 ∷ integer 0 (pos 1) ∷ integer 0 (pos 0) ∷ [])) (lit≤ tt)
    ((lit< tt, lit< tt), ((lit< tt, lit< tt), ((lit< tt, lit< tt), tt))) in
    (r.0, r.1, lit< tt)

shorter_wf : (h : ℕ) → WF (shorter h)
unfolding shorter of_list count
shorter_wf h =
    let r = nested_wf h (of_list bottom) (lit≤ tt) ((lit< tt, lit< tt), ((lit< tt, lit< tt), tt)) in
    (r.0, r.1, lit< tt)

over_wf : (t : Tree) → WF t → WF (over_product t) × WF (over_sum t)
unfolding of_list count
over_wf t w = ((lit≤ tt, ((lit< tt, lit< tt), (w, tt)), lit< tt), (lit≤ tt, ((lit< tt, lit< tt), (w, tt)), lit< tt))

tall_weight : (h : ℕ) → weight (tall h) ≡ 4 * h + 6
unfolding tall nested weight of_list
tall_weight zero = refl
tall_weight (suc h) = omega (arith, tall_weight h)

shorter_records : (h : ℕ) → records (shorter h) ≡ 4 * h + 3
unfolding shorter nested records of_list
shorter_records zero = refl
shorter_records (suc h) = omega (arith, shorter_records h)

module _ {rs : List Rule} (gs : Goods rs) (st : Steps rs) where
  quiet_two : AdmitsNone rs two
  unfolding openings_at gather members
  quiet_two = admits_none st.at_two refl no_more

  quiet_product : (f : Forest) → AdmitsNone rs (sum 0 f) → AdmitsNone rs (over_product (sum 0 f))
  unfolding openings_at gather members opened open_one as_product to_list of_list
  quiet_product f q = admits_none (st.at_product f) refl (and_more quiet_two (and_more q no_more))

  quiet_sum : (f : Forest) → AdmitsNone rs (over_product (sum 0 f)) → AdmitsNone rs (over_sum (over_product (sum 0 f)))
  unfolding openings_at gather members opened open_one as_sum to_list of_list
  quiet_sum f q = admits_none (st.at_sum f) refl (and_more quiet_two (and_more q no_more))

  quiet : (h : ℕ) → AdmitsNone rs (shorter h)
  unfolding shorter nested
  quiet zero = st.after_it
  quiet (suc h) = quiet_sum _ (quiet_product _ (quiet h))

  -- one level: a node with the members 2 and x, where x changes to y, and the node with 2 and y is finished
  level : (t u x y : Tree) (n : ℕ) → WF t → WF u → ask rs t ≡ no_rule → members t ≡ two ∷ x ∷ [] → gather t (two ∷ y ∷ []) ≡ (u, 0)
      → simplify rs x ≡ done y (1 ∷ []) 0 n → AdmitsNone rs u → simplify rs t ≡ done u (1 ∷ []) 0 (2 + n + records u)
  unfolding visit each and_then gathered settle after tried
  level t u x y n w v a m g e q =
      simplify_visits gs t w
      ∙ rw (a, m, simplify_again two (lit< tt, lit< tt) quiet_two, e, g, simplify_again u v q) (ap (done u (1 ∷ []) 0) (unfold records in omega arith))

  -- the bottom: step 1, and then it is finished
  bottom_runs : simplify rs (tall 0) ≡ done (shorter 0) (1 ∷ []) 0 4
  unfolding tall shorter nested visit after tried
  bottom_runs =
      simplify_visits gs (tall 0) (tall_wf 0)
      ∙ rw (st.at_bottom, simplify_again (sum 0 (of_list bottom)) (shorter_wf 0) st.after_it)
      (ap (done (shorter 0) (1 ∷ []) 0) (unfold records of_list in refl))

  product_runs : (h n : ℕ) → simplify rs (tall h) ≡ done (shorter h) (1 ∷ []) 0 n
      → simplify rs (over_product (tall h)) ≡ done (over_product (shorter h)) (1 ∷ []) 0 (2 + n + records (over_product (shorter h)))
  unfolding tall shorter members gather opened open_one as_product to_list of_list
  product_runs h n e =
      level (over_product (tall h)) (over_product (shorter h)) (tall h) (shorter h) n (over_wf (tall h) (tall_wf h)).0 (over_wf (shorter h) (shorter_wf h)).0
      (st.at_product _) refl refl e (quiet_product _ (quiet h))

  sum_runs : (h n : ℕ) → simplify rs (over_product (tall h)) ≡ done (over_product (shorter h)) (1 ∷ []) 0 n
      → simplify rs (tall (suc h)) ≡ done (shorter (suc h)) (1 ∷ []) 0 (2 + n + records (shorter (suc h)))
  unfolding tall shorter nested members gather opened open_one as_sum to_list of_list
  sum_runs h n e =
      level (tall (suc h)) (shorter (suc h)) (over_product (tall h)) (over_product (shorter h)) n (tall_wf (suc h)) (shorter_wf (suc h))
      (st.at_sum _) refl refl e (quiet (suc h))

  runs : (h : ℕ) → simplify rs (tall h) ≡ done (shorter h) (1 ∷ []) 0 (4 * (h * h) + 12 * h + 4)
  unfolding records of_list
  runs zero = bottom_runs
  runs (suc h) =
      sum_runs h _ (product_runs h _ (runs h))
      ∙ ap (done (shorter (suc h)) (1 ∷ []) 0) (omega (arith, shorter_records h, shorter_records (suc h)))

-- ---- the editions
steps_one : Steps edition_one
unfolding driver_computes openings_at
steps_one =
    record {
      at_bottom = refl;
      after_it = admits_none refl refl (and_more (admits_none refl refl no_more) (and_more (admits_none refl refl no_more) no_more));
      at_two = refl;
      at_product = λ f. refl;
      at_sum = λ f. refl;
    }

steps_two : Steps edition_two
unfolding driver_computes openings_at
steps_two =
    record {
      at_bottom = refl;
      after_it = admits_none refl refl (and_more (admits_none refl refl no_more) (and_more (admits_none refl refl no_more) no_more));
      at_two = refl;
      at_product = λ f. refl;
      at_sum = λ f. refl;
    }

edition_steps : (ed : ℕ) → Steps (rules_of ed)
unfolding rules_of
edition_steps ed = go (eqb ed 2)
  where
    go : (b : Bool) → Steps (cond b edition_two edition_one)
    go true = steps_two
    go false = steps_one

-- in either edition, and for any h
pub steep : (ed h : ℕ) → Steep ed h
steep ed h =
    record {
      weighs = tall_weight h;
      tries = 4 * (h * h) + 12 * h + 4;
      runs = runs (edition_good ed) (edition_steps ed) h;
      many = rw (tall_weight h) (omega arith);
    }

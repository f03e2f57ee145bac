-- A product without its integers: its other members are copied one after the other, each behind those before it, so that all of them stand
-- there in the end; a record that counts them in front, and the coefficient behind them where there is one, make the tree. One product
-- stands at the record, so whatever is known of one such tree is known of every other.
use Prim.Native.Nat.{ℕ, ◌+◌, ◌-◌, ◌*◌, ◌^◌, ◌<◌, ◌≤◌}
use mathlib.Core.Path.{◌≡◌, refl, sym, ap, ◌∙◌, subst}
use mathlib.Core.List.{List, [], ◌∷◌, ◌++◌, append_assoc, append-nil}
use native.Mathlib.Omega.{arith}
use lib.ListN.{length}
use Rattle.paper.specs.Record.{kind, count_in}
use Rattle.paper.specs.Tree.{Tree, Forest, integer, symbol, sum, product, power, cons, marked, mark_of, to_list, of_list, records, recordses}
use Rattle.paper.specs.WellFormed.{Mark, WF}
use Rattle.paper.specs.Standing.{kind_number}
use Rattle.paper.specs.Table.{record_of}
use Rattle.paper.specs.Rules.{as_integer, with_other, others_of}
use Rattle.paper.proofs.EncodeLaws.{record_length, count_records}
use Rattle.note.proofs.NotedLaws.{encode_by_length, encodes_by_length}
use Rattle.paper.proofs.WFLaws.{list_count}
use Rattle.note.proofs.ToldLaws.{seen_integer}
use Rattle.note.proofs.ToldLaws.{seen, product_trees, FirstOf, first_of, none_of, one_tree}
use Rattle.note.proofs.CloseLaws.{unclosed}
use Rattle.note.specs.Note.{note}
use Rattle.note.specs.Noted.{encode_by, encodes_by, count_of, inner}
use Rattle.stretch.specs.Put.{put}
use Rattle.stretch.proofs.Laws.{put_none}
use Rattle.split.specs.Standing.{Told, ToldTrees}
use Rattle.split.specs.Rest.{Lessened}
use Rattle.split.proofs.SplitLaws.{no_integer}
use Rattle.rebuilt.specs.Written.{lengthened}
use Rattle.rebuilt.proofs.Closing.{lengthened_wf}
use Rattle.rebuilt.proofs.Encoded.{encodes_snoc, recordses_append, recordses_snoc, two_puts}
use Rattle.rebuilt.proofs.WriteLaws.{longer_written}

-- the members that are no integers
abbrev pub others : Forest → List Tree
others f = others_of (to_list f)

-- ---- the others of f, copied one after the other from record m of `out` on, so far up to record `to`; those from record `at` on are left
pub record Copying (s out₀ : List ℕ) (m : ℕ) (f : Forest) (out : List ℕ) (to at left : ℕ) : Type 0 where
  pub done : List Tree
  pub rest : Forest
  pub stand : ToldTrees note s at left rest
  pub whole : others f ≡ done ++ others rest
  pub place : to ≡ m + recordses (of_list done)
  pub there : out ≡ put out₀ (m * 16) (encodes_by note (of_list done))

pub copying_start : {s : List ℕ} {i μ : ℕ} {f : Forest} (out : List ℕ) (m : ℕ) → Told note s i (product μ f)
    → Copying s out m f out m (i + 1) (count_in s i)
unfolding of_list records encode_by
copying_start {f = f} out m h =
    record { done = []; rest = f; stand = product_trees h; whole = refl; place = omega arith; there = sym (put_none out (m * 16)) }

module _ {s out₀ : List ℕ} {m : ℕ} {f : Forest} {out : List ℕ} {to at left : ℕ} (h : Copying s out₀ m f out to at left) where
  pub copied_all : left ≡ 0 → (to ≡ m + recordses (of_list (others f))) × (out ≡ put out₀ (m * 16) (encodes_by note (of_list (others f))))
  unfolding others_of to_list
  copied_all e =
      let all : others f ≡ h.done =
      h.whole ∙ ap (λ r. h.done ++ others r) (none_of h.rest h.stand e) ∙ append-nil h.done in
      rw all (h.place, h.there)

  module _ (l : 0 < left) where
    next : FirstOf note s at left h.rest
    next = first_of h.rest h.stand l

    pub copying_tree : (t : Tree) × Told note s at t
    copying_tree = (next.tree, next.there)

    -- an integer is passed over
    pub copying_past : (e : ℕ) → ((t : Tree) → Told note s at t → e ≡ at + records t) → kind s at ≡ 0 → Copying s out₀ m f out to e (left - 1)
    unfolding others_of with_other as_integer to_list
    copying_past e ends k =
        let q = seen_integer (seen next.there) k in
        let past : others h.rest ≡ others next.others = ap others next.whole ∙ ap (λ t. others (cons t next.others)) q.2 in
        rw (ends next.tree next.there)
        (record {
          done = h.done;
          rest = next.others;
          stand = next.after;
          whole = h.whole ∙ ap (◌++◌ h.done) past;
          place = h.place;
          there = h.there;
        })

    -- any other is copied
    module _ (k : 1 ≤ kind s at) where
      first : others h.rest ≡ next.tree ∷ others next.others
      unfolding others_of with_other to_list
      first =
          ap others next.whole ∙ ap (λ o. with_other o next.tree (others next.others)) (no_integer next.there k)

      pub copying_room : (m + recordses (of_list (others f))) * 16 ≤ length out₀ → (t : Tree) → Told note s at t → (to + records t) * 16 ≤ length out₀
      unfolding of_list records
      copying_room r t g =
          let all : recordses (of_list (others f)) ≡ recordses (of_list h.done) + recordses (of_list (others h.rest)) =
          ap (λ (l : List Tree). recordses (of_list l)) h.whole ∙ recordses_append h.done (others h.rest) in
          omega (arith, h.place, ap (λ (l : List Tree). recordses (of_list l)) first, ap records (one_tree g next.there))

      pub copying_more : (m + recordses (of_list (others f))) * 16 ≤ length out₀ → (out' : List ℕ) (e : ℕ)
          → ((t : Tree) → Told note s at t → e ≡ at + records t) → ((t : Tree) → Told note s at t → out' ≡ put out (to * 16) (encode_by note t))
          → Copying s out₀ m f out' (to + (e - at)) e (left - 1)
      copying_more r out' e ends told =
          let t = next.tree in
          let long = encodes_by_length note (of_list h.done) in
          rw (ends t next.there)
          (record {
            done = h.done ++ (t ∷ []);
            rest = next.others;
            stand = next.after;
            whole = h.whole ∙ ap (◌++◌ h.done) first ∙ sym (append_assoc h.done (t ∷ []) (others next.others));
            place = omega (arith, h.place, recordses_snoc h.done t);
            there =
                two_puts out₀ out out' (encodes_by note (of_list h.done)) (encode_by note t) (m * 16) (to * 16) h.there (told t next.there)
                (omega (arith, h.place)) (omega (arith, encode_by_length note t, copying_room r t next.there))
                ∙ ap (put out₀ (m * 16)) (sym (encodes_snoc h.done t));
          })

-- ---- the product t of what is left, `many` members
module _ {s : List ℕ} {i many : ℕ} where
  -- there is one
  pub lessened_once : {t u : Tree} → Lessened note s i many t → Lessened note s i many u → t ≡ u
  lessened_once h g =
      h.left ∙ ap without (one_tree h.whole g.whole) ∙ sym g.left
    where
      -- what is left of a product
      without : Tree → Tree
      without (integer μ z) = integer μ z
      without (symbol μ v) = symbol μ v
      without (sum μ f) = sum μ f
      without (product μ f) = product μ (of_list (others f))
      without (power μ b ξ e) = power μ b ξ e

  module _ {t : Tree} (h : Lessened note s i many t) where
    abbrev left : List Tree
    left = others h.members

    pub left_records : records t ≡ 1 + recordses (of_list left)
    unfolding records
    left_records = ap records h.left

    -- each member has a record
    pub left_many : many + 1 ≤ records t
    left_many = omega (arith, left_records, h.many, list_count left, count_records (of_list left))

    left_unclosed : (μ : ℕ) → unclosed (marked μ t) ≡ record_of 3 many μ 0 ++ encodes_by note (of_list left)
    unfolding marked kind_number count_of mark_of inner
    left_unclosed μ = ap (λ u. unclosed (marked μ u)) h.left ∙ ap (λ n. record_of 3 n μ 0 ++ encodes_by note (of_list left)) (list_count left ∙ sym h.many)

    -- the trees that are written are products, and well-formed
    pub left_node : (μ : ℕ) → 2 ≤ kind_number (marked μ t)
    unfolding marked kind_number
    left_node μ = omega (arith, ap (λ u. kind_number (marked μ u)) h.left)

    pub left_longer_wf : (μ n : ℕ) → Mark μ → n < 2 ^ 64 → WF (lengthened μ n (of_list left))
    left_longer_wf μ n k l = let w = subst WF h.left h.wf in lengthened_wf μ n (of_list left) k l w.0 w.1

    -- written, and not closed yet: a record that counts the members, and the members; or, with the integer n after them, one that counts one more
    module _ (out d₁ d₂ : List ℕ) (m μ : ℕ) (q : d₂ ≡ put d₁ ((m + 1) * 16) (encodes_by note (of_list left))) where
      pub left_written : (m + records t) * 16 ≤ length out → d₁ ≡ put out (m * 16) (record_of 3 many μ 0)
          → d₂ ≡ put out (m * 16) (unclosed (marked μ t))
      left_written r p =
          let a = record_length 3 many μ 0 in
          let k = encodes_by_length note (of_list left) in
          two_puts out d₁ d₂ (record_of 3 many μ 0) (encodes_by note (of_list left)) (m * 16) ((m + 1) * 16) p q (omega arith) (omega (arith, left_records))
          ∙ ap (put out (m * 16)) (sym (left_unclosed μ))

      pub left_longer_written : (d₃ : List ℕ) (n a : ℕ) → n < 2 ^ 64 → a ≡ m + records t → (m + (records t + 1)) * 16 ≤ length out
          → d₁ ≡ put out (m * 16) (record_of 3 (many + 1) μ 0) → d₃ ≡ put d₂ (a * 16) (record_of 0 0 μ n)
          → d₃ ≡ put out (m * 16) (unclosed (lengthened μ n (of_list left)))
      left_longer_written d₃ n a b e r p w =
          longer_written out d₁ d₂ d₃ m n b μ (of_list left) (many + 1) (records t) a
          (ap (λ c. c + 1) (h.many ∙ sym (list_count left))) left_records e r p q w

-- Writing an opened table, record by record. What is written and what the records left give are together the opened records; a record that is
-- no defined symbol's gives itself, a defined symbol's the opened records of its definition, which lie one definition less deep.
use Prim.Native.Nat.{ℕ, zero, suc, ◌+◌, ◌-◌, ◌*◌, ◌≤◌, ◌<◌}
use mathlib.Core.Path.{◌≡◌, refl, sym, ap, ◌∙◌, subst}
use mathlib.Core.Bool.{Bool, true, false, cond}
use mathlib.Core.List.{List, [], ◌++◌, append_assoc, append-nil}
use mathlib.Core.Option.{Option, none, some}
use native.Mathlib.Nat.{sub-zero}
use native.Mathlib.Omega.{arith}
use borrow.Author.Tests.{eqb-true, eq-eqb}
use lib.ListN.{length, get_or, take, drop, length-append}
use lib.Dec.{eqb}
use Rattle.paper.specs.Bytes.{Bytes}
use Rattle.paper.specs.Tree.{Tree}
use Rattle.paper.specs.Record.{kind, symbol_in}
use Rattle.paper.specs.Verdict.{records_in}
use Rattle.paper.specs.Table.{encode}
use Rattle.paper.proofs.EncodeLaws.{encode_bytes, encode_length}
use Rattle.paper.proofs.RecordLaws.{symbol_lt}
use Rattle.paper.proofs.TableLaws.{records_written}
use Rattle.stretch.specs.Put.{part, put}
use Rattle.stretch.proofs.Laws.{put_none, put_put, length_put, length_part}
use Rattle.paper_shared.specs.Shared.{Definition, defined, make, open_within, again_within}
use Rattle.paper_shared.specs.Records.{joined, over_records, instead, bytes_at, open_from, records_for}
use Rattle.paper_shared.proofs.FlatLaws.{encode_opened}
use Rattle.replace.specs.Index.{piece_at, Found, Openable, Holding}

-- what record i gives
unfoldable pub given : (ℕ → List ℕ → Option (List ℕ)) → List ℕ → ℕ → Option (List ℕ)
given f s i = cond (eqb (kind s i) 1) (f (symbol_in s i) (bytes_at s i)) (some (bytes_at s i))

open_none : (f : ℕ → List ℕ → Option (List ℕ)) (s : List ℕ) (i : ℕ) → open_from f s i 0 ≡ some []
unfolding open_from over_records
open_none f s i = refl

open_suc : (f : ℕ → List ℕ → Option (List ℕ)) (s : List ℕ) (i n : ℕ) → open_from f s i (suc n) ≡ joined ◌++◌ (given f s i) (open_from f s (i + 1) n)
unfolding open_from over_records given
open_suc f s i n = refl

none_some : {A : Type 0} {a : A} → none ≡ some a → ⊥
none_some {A} {a} e = let z : ◌≡◌ {A = ℕ} 0 1 = cc in omega arith

same : {A : Type 0} {a b : A} → some a ≡ some b → a ≡ b
same {A} {a} {b} e = cc

-- where both parts are there
record Both (o p : Option (List ℕ)) (xs : List ℕ) : Type 0 where
  first : List ℕ
  others : List ℕ
  first_is : o ≡ some first
  others_are : p ≡ some others
  together : xs ≡ first ++ others

both_there : (o p : Option (List ℕ)) (xs : List ℕ) → joined ◌++◌ o p ≡ some xs → Both o p xs
unfolding joined
both_there none p xs e = absurd (none_some e)
both_there (some a) none xs e = absurd (none_some e)
both_there (some a) (some b) xs e = record { first = a; others = b; first_is = refl; others_are = refl; together = sym (same e) }

step : (f : ℕ → List ℕ → Option (List ℕ)) (s : List ℕ) (i n : ℕ) (xs : List ℕ) → i < n → open_from f s i (n - i) ≡ some xs
    → Both (given f s i) (open_from f s (i + 1) (n - (i + 1))) xs
step f s i n xs l e =
    let q : n - i ≡ suc (n - (i + 1)) = omega arith in
    both_there (given f s i) (open_from f s (i + 1) (n - (i + 1))) xs (sym (open_suc f s i (n - (i + 1))) ∙ sym (ap (λ (k : ℕ). open_from f s i k) q) ∙ e)

-- 1 + the definition of record i, as the code finds it
unfoldable pub place : List ℕ → List ℕ → ℕ → ℕ
place which s i = cond (eqb (kind s i) 1) (get_or which (symbol_in s i) 0) 0

module _ {ds : List Definition} {definitions which from s area₀ : List ℕ} {n deep d : ℕ}
    {t v : Tree} (o : Openable ds definitions which from s area₀ n deep d t v) where
  bytes : Bytes s
  bytes = subst (λ (x : List ℕ). Bytes x) (sym o.written) (encode_bytes t)

  long : length s ≡ 16 * records_in s
  long =
      let e = encode_length t in
      let r = records_written t in
      ap length o.written ∙ e ∙ ap (λ (k : ℕ). 16 * k) (sym r ∙ ap records_in (sym o.written))

  -- where the code stands: what is written, and what is left
  pub record Copying (area : List ℕ) (at i : ℕ) : Type 0 where
    pub done : List ℕ
    pub rest : List ℕ
    pub whole : encode v ≡ done ++ rest
    pub left : open_from (records_for ds (again_within ds deep)) s i (records_in s - i) ≡ some rest
    pub end : at * 16 ≡ d * 16 + length done
    pub there : area ≡ put area₀ (d * 16) done

  pub begins : Copying area₀ d 0
  unfolding make
  begins = record {
    done = [];
    rest = encode v;
    whole = refl;
    left =
        rw (sub-zero (records_in s))
        (ap (λ (x : List ℕ). open_from (records_for ds (again_within ds deep)) x 0 (records_in x)) o.written
        ∙ encode_opened ds deep t o.wf ∙ ap (make encode) o.opens);
    end = omega arith;
    there = sym (put_none area₀ (d * 16));
  }

  room : d * 16 + length (encode v) ≤ length area₀
  room = let e = encode_length v in let r = o.room in omega arith

  -- a record that is no defined symbol's gives itself
  pub plain : (i : ℕ) → i < records_in s → place which s i ≡ 0 → given (records_for ds (again_within ds deep)) s i ≡ some (bytes_at s i)
  unfolding given place records_for instead
  plain i l z = go (eqb (kind s i) 1) refl z
    where
      undefined : (x : Option Tree) → Found definitions from n 0 x
          → instead (bytes_at s i) (λ u. make encode (again_within ds deep u)) x ≡ some (bytes_at s i)
      undefined none e = refl
      undefined (some u) k = absurd (let p = k.positive in omega arith)

      go : (b : Bool) → eqb (kind s i) 1 ≡ b → cond b (get_or which (symbol_in s i) 0) 0 ≡ 0
          → cond b (instead (bytes_at s i) (λ u. make encode (again_within ds deep u)) (defined ds (symbol_in s i))) (some (bytes_at s i)) ≡ some (bytes_at s i)
      go true e z =
          undefined (defined ds (symbol_in s i))
          (subst (λ (c : ℕ). Found definitions from n c (defined ds (symbol_in s i))) z (o.index.finds (symbol_in s i) (symbol_lt s i bytes)))
      go false e z = refl

  module _ {area : List ℕ} {at i : ℕ} (c : Copying area at i) where
    -- what comes next has room
    pub fits : (first : List ℕ) → i < records_in s → given (records_for ds (again_within ds deep)) s i ≡ some first → at * 16 + length first ≤ length area₀
    fits first l e =
        let b = step (records_for ds (again_within ds deep)) s i (records_in s) c.rest l c.left in
        let q : first ≡ b.first = same (sym e ∙ b.first_is) in
        let w = ap length (c.whole ∙ ap (λ (x : List ℕ). c.done ++ x) b.together) in
        let x = length-append c.done (b.first ++ b.others) in
        let y = length-append b.first b.others in
        let z = ap length q in
        let r = room in
        let p = c.end in
        omega arith

    pub same_long : length area ≡ length area₀
    same_long =
        let w = ap length c.whole in
        let x = length-append c.done c.rest in
        let r = room in
        ap length c.there ∙ length_put area₀ (d * 16) c.done (omega arith)

    -- a defined symbol's gives the opened records of its definition
    pub record Deeper (k : ℕ) : Type 0 where
      pub below : 0 < deep
      pub up : get_or from k 0 ≤ get_or from (k + 1) 0
      pub within : get_or from (k + 1) 0 ≤ length definitions
      pub few : k < 16
      pub tree : Tree
      pub to : Tree
      pub openable : Openable ds definitions which from (take (get_or from (k + 1) 0 - get_or from k 0) (drop (get_or from k 0) definitions))
          area n (deep - 1) at tree to
      pub gives : given (records_for ds (again_within ds deep)) s i ≡ some (encode to)

    module _ (l : i < records_in s) (k : ℕ) (is : place which s i ≡ k + 1) where
      symbol's : kind s i ≡ 1
      unfolding place
      symbol's = go (eqb (kind s i) 1) refl is
        where
          go : (b : Bool) → eqb (kind s i) 1 ≡ b → cond b (get_or which (symbol_in s i) 0) 0 ≡ k + 1 → kind s i ≡ 1
          go true e q = eqb-true (kind s i) 1 e
          go false e q = absurd (omega arith)

      k_is : get_or which (symbol_in s i) 0 ≡ k + 1
      unfolding place
      k_is = (rw (eq-eqb (kind s i) 1 symbol's) at is)

      given_is : given (records_for ds (again_within ds deep)) s i ≡ instead (bytes_at s i) (λ u. make encode (again_within ds deep u))
          (defined ds (symbol_in s i))
      unfolding given records_for
      given_is = rw (eq-eqb (kind s i) 1 symbol's)

      piece : {xs : List ℕ} → piece_at definitions from (k + 1 - 1) ≡ xs → take (get_or from (k + 1) 0 - get_or from k 0)
          (drop (get_or from k 0) definitions) ≡ xs
      unfolding piece_at
      piece e = let kk : k + 1 - 1 ≡ k = omega arith in rw kk at e

      found : (x : Option Tree) → defined ds (symbol_in s i) ≡ x → Found definitions from n (k + 1) x → Deeper k
      unfolding again_within instead make
      found none e h = absurd (omega arith)
      found (some u) e h = at_depth deep refl
        where
          given_again : given (records_for ds (again_within ds deep)) s i ≡ make encode (again_within ds deep u)
          given_again = given_is ∙ rw e refl

          b : Both (given (records_for ds (again_within ds deep)) s i)
              (open_from (records_for ds (again_within ds deep)) s (i + 1) (records_in s - (i + 1))) c.rest
          b = step (records_for ds (again_within ds deep)) s i (records_in s) c.rest l c.left

          opened_to : (m : ℕ) → deep ≡ suc m → (y : Option Tree) → open_within ds m u ≡ y → make encode (again_within ds deep u) ≡ make encode y → Deeper k
          opened_to m q none y z = absurd (none_some (sym (given_again ∙ z) ∙ b.first_is))
          opened_to m q (some w) y z =
              let g = given_again ∙ z in
              let r = fits (encode w) l g in
              let a = same_long in
              let le = encode_length w in
              let fw = h.few in
              let y' = o.index.lies k (omega arith) in
              record {
                below = omega arith;
                up = y'.up;
                within = y'.within;
                few = let x = o.few in omega arith;
                tree = u;
                to = w;
                openable = record {
                  index = o.index;
                  few = o.few;
                  wf = h.wf;
                  written = piece h.written;
                  opens = let q' : deep - 1 ≡ m = omega arith in ap (λ (x : ℕ). open_within ds x u) q' ∙ y;
                  room = omega arith;
                };
                gives = g;
              }

          at_depth : (m : ℕ) → deep ≡ m → Deeper k
          at_depth zero q = absurd (none_some (sym (given_again ∙ ap (λ (x : ℕ). make encode (again_within ds x u)) q) ∙ b.first_is))
          at_depth (suc m) q = opened_to m q (open_within ds m u) refl (ap (λ (x : ℕ). make encode (again_within ds x u)) q)

      pub deeper : Deeper k
      deeper =
          found (defined ds (symbol_in s i)) refl
          (subst (λ (x : ℕ). Found definitions from n x (defined ds (symbol_in s i))) k_is (o.index.finds (symbol_in s i) (symbol_lt s i bytes)))

    -- and is written there
    pub goes_on : (first area' : List ℕ) (at' : ℕ) → i < records_in s → given (records_for ds (again_within ds deep)) s i ≡ some first
        → area' ≡ put area (at * 16) first → at' * 16 ≡ at * 16 + length first → Copying area' at' (i + 1)
    goes_on first area' at' l e p q =
        let b = step (records_for ds (again_within ds deep)) s i (records_in s) c.rest l c.left in
        let s' : first ≡ b.first = same (sym e ∙ b.first_is) in
        let r = fits first l e in
        record {
          done = c.done ++ first;
          rest = b.others;
          whole =
              c.whole ∙ ap (λ (x : List ℕ). c.done ++ x) (b.together ∙ ap (λ (x : List ℕ). x ++ b.others) (sym s'))
              ∙ sym (append_assoc c.done first b.others);
          left = b.others_are;
          end = let x = length-append c.done first in let y = c.end in omega arith;
          there =
              p ∙ ap (λ (x : List ℕ). put x (at * 16) first) c.there
              ∙ put_put area₀ (d * 16) c.done (at * 16) first c.end r;
        }

    pub moved : {area' : List ℕ} {at' : ℕ} → area' ≡ area → at' ≡ at → Copying area' at' i
    moved e q = record { done = c.done; rest = c.rest; whole = c.whole; left = c.left; end = ap (λ (x : ℕ). x * 16) q ∙ c.end; there = e ∙ c.there }

    -- a copy of the record, and the records of a definition
    module _ (l : i < records_in s) (z : place which s i ≡ 0) where
      sixteen : length (part s (i * 16) 16) ≡ 16
      sixteen = length_part s (i * 16) 16 (let g = long in omega arith)

      given_part : given (records_for ds (again_within ds deep)) s i ≡ some (part s (i * 16) 16)
      unfolding part bytes_at
      given_part = plain i l z

      pub has_room : at * 16 + 16 ≤ length area
      has_room =
          let r = fits (part s (i * 16) 16) l given_part in
          let e = sixteen in
          let a = same_long in
          omega arith

      pub copied : (area' : List ℕ) → area' ≡ put area (at * 16) (part s (i * 16) 16) → Copying area' (at + 1) (i + 1)
      copied area' e = goes_on (part s (i * 16) 16) area' (at + 1) l given_part e (let q = sixteen in omega arith)

    pub replaced_by : i < records_in s → {k : ℕ} (h : Deeper k) (area' : List ℕ) (at' : ℕ) → Holding h.to at at' area area' → Copying area' at' (i + 1)
    replaced_by l h area' at' w =
        goes_on (encode h.to) area' at' l h.gives w.there (let e = w.end in let q = encode_length h.to in omega arith)

    pub ends : records_in s ≤ i → Holding v d at area₀ area
    ends l =
        let z : records_in s - i ≡ 0 = omega arith in
        let e : c.rest ≡ [] = same (sym c.left ∙ ap (λ (k : ℕ). open_from (records_for ds (again_within ds deep)) s i k) z
        ∙ open_none (records_for ds (again_within ds deep)) s i) in
        let w : encode v ≡ c.done = c.whole ∙ ap (λ (x : List ℕ). c.done ++ x) e ∙ append-nil c.done in
        let y = c.end in
        let r = encode_length v in
        let k = ap length w in
        record { end = omega arith; there = c.there ∙ ap (λ (x : List ℕ). put area₀ (d * 16) x) (sym w) }

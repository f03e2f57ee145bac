-- The walk reports exactly the pairs that it comes to and that do not agree, each once, in walking order, and no more than the shorter tree has
-- records. A pair of the list is the trees' own or one of their members' in step (`differ_node`), and every law is proved of a tree from its
-- members' (`by_members`).
use Prim.Native.Nat.{ℕ, ◌+◌, ◌*◌, ◌/◌, ◌<◌, ◌≤◌, min}
use mathlib.Core.Path.{◌≡◌, refl, ap, ◌∙◌, subst}
use mathlib.Core.Bool.{Bool, true, false}
use mathlib.Core.List.{List, [], ◌∷◌, ◌++◌}
use mathlib.Core.Logic.{◌⊎◌, inl, inr, ◌↔◌}
use mathlib.Core.Option.{Option, none, some}
use native.Mathlib.Omega.{arith}
use borrow.Author.Tests.{le-ltb}
use lib.ListN.{length}
use Rattle.paper.specs.Bytes.{Bytes}
use Rattle.paper.specs.Tree.{Tree, records, of_list}
use Rattle.paper.specs.Table.{tree_of}
use Rattle.paper.specs.Verdict.{accepted, verdict}
use Rattle.paper.specs.Driver.{members}
use Rattle.paper_differ.specs.Differ.{alike, or_pair, differences, between, differences_of, too_few_places}
use Rattle.paper_differ.specs.Apart.{Partners, first, later, Reached, itself, below, Apart, ApartIn, Listed, here, there, Rises}
use Rattle.paper.proofs.EncodeLaws.{records_pos, encode_length}
use Rattle.paper.proofs.AcceptedLaws.{accepted_holds}
use Rattle.paper_differ.proofs.DifferLaws.{Every, by_members, records_all, records_first, steps, differ_node}

-- ---- exactly the pairs that are apart
none_listed : {p q : ℕ} (ds : List (ℕ × ℕ)) → ds ≡ [] → Listed p q ds → ⊥
none_listed {p = p} {q = q} [] n h = elim h [ ]
none_listed (d ∷ ds) n (here e f) = let z : length (d ∷ ds) ≡ 0 = ap length n in omega arith
none_listed (d ∷ ds) n (there h) = let z : length (d ∷ ds) ≡ 0 = ap length n in omega arith

listed_left : {p q : ℕ} (a b : List (ℕ × ℕ)) → Listed p q a → Listed p q (a ++ b)
listed_left {p = p} {q = q} [] b h = elim h [ ]
listed_left (d ∷ a) b (here e f) = here e f
listed_left (d ∷ a) b (there h) = there (listed_left a b h)

listed_right : {p q : ℕ} (a b : List (ℕ × ℕ)) → Listed p q b → Listed p q (a ++ b)
listed_right [] b h = h
listed_right (d ∷ a) b h = there (listed_right a b h)

listed_either : {p q : ℕ} (a b : List (ℕ × ℕ)) → Listed p q (a ++ b) → Listed p q a ⊎ Listed p q b
listed_either [] b h = inr h
listed_either (d ∷ a) b (here e f) = inl (here e f)
listed_either {p} {q} (d ∷ a) b (there h) = go (listed_either a b h)
  where
    go : Listed p q a ⊎ Listed p q b → Listed p q (d ∷ a) ⊎ Listed p q b
    go (inl x) = inl (there x)
    go (inr x) = inr x

abbrev Tells : ℕ → ℕ → Tree → Type 0
Tells p q t = (u : Tree) (i j : ℕ) → Listed p q (differences t u i j) → Apart t u i j p q

-- two members in step that a pair is apart in
record Below (l m : List Tree) (i j p q : ℕ) : Type 0 where
  x : Tree
  y : Tree
  k : ℕ
  n : ℕ
  partners : Partners l m i j x y k n
  apart : Apart x y k n p q

further : {t u : Tree} {l m : List Tree} {i j p q : ℕ} → Below l m (i + records t) (j + records u) p q → Below (t ∷ l) (u ∷ m) i j p q
further b = record { x = b.x; y = b.y; k = b.k; n = b.n; partners = later b.partners; apart = b.apart }

steps_tell : (p q : ℕ) (l : List Tree) → Every (Tells p q) l → (m : List Tree) (i j : ℕ) → Listed p q (steps l m i j) → Below l m i j p q
unfolding steps
steps_tell p q [] h m i j s = absurd (none_listed [] refl s)
steps_tell p q (t ∷ l) h [] i j s = absurd (none_listed [] refl s)
steps_tell p q (t ∷ l) h (u ∷ m) i j s =
    go (listed_either (differences t u i j) (steps l m (i + records t) (j + records u)) s)
    (λ r. steps_tell p q l h.1 m (i + records t) (j + records u) r)
  where
    go : Listed p q (differences t u i j) ⊎ Listed p q (steps l m (i + records t) (j + records u))
        → (Listed p q (steps l m (i + records t) (j + records u)) → Below l m (i + records t) (j + records u) p q) → Below (t ∷ l) (u ∷ m) i j p q
    go (inl r) ih = record { x = t; y = u; k = i; n = j; partners = first; apart = h.0 u i j r }
    go (inr r) ih = further (ih r)

listed_apart : (p q : ℕ) (t u : Tree) (i j : ℕ) → Listed p q (differences t u i j) → Apart t u i j p q
unfolding or_pair
listed_apart p q = by_members (Tells p q) (λ t h u i j s. go t h u i j (alike t u) refl (subst (Listed p q) (differ_node t u i j) s))
  where
    go : (t : Tree) → Every (Tells p q) (members t) → (u : Tree) (i j : ℕ) (b : Bool) → alike t u ≡ b
        → Listed p q (or_pair b i j (steps (members t) (members u) (i + 1) (j + 1))) → Apart t u i j p q
    go t h u i j true a s =
        let r = steps_tell p q (members t) h (members u) (i + 1) (j + 1) s in
        record { one = r.apart.one; other = r.apart.other; reached = below a r.partners r.apart.reached; unlike = r.apart.unlike }
    go t h u i j false a (here e f) =
        record {
          one = t;
          other = u;
          reached = subst (λ (x : ℕ). Reached t u i j t u x q) e (subst (λ (y : ℕ). Reached t u i j t u i y) f itself);
          unlike = a;
        }
    go t h u i j false a (there s) = absurd (none_listed [] refl s)

steps_list : {l m : List Tree} {i j k n p q : ℕ} {x y : Tree} → Partners l m i j x y k n → Listed p q (differences x y k n)
    → Listed p q (steps l m i j)
unfolding steps
steps_list (first {t = t} {u = u} {i = i} {j = j}) h = listed_left (differences t u i j) _ h
steps_list (later {t = t} {u = u} {i = i} {j = j} r) h = listed_right (differences t u i j) _ (steps_list r h)

apart_listed : {t u v w : Tree} {i j p q : ℕ} → Reached t u i j v w p q → alike v w ≡ false → Listed p q (differences t u i j)
unfolding or_pair
apart_listed (itself {t = t} {u = u} {i = i} {j = j}) e = rw (differ_node t u i j, e) (here refl refl)
apart_listed (below {t = t} {u = u} {i = i} {j = j} a r s) e = rw (differ_node t u i j, a) (steps_list r (apart_listed s e))

-- of two trees, wherever they begin
pub trees_exactly : (t u : Tree) (i j p q : ℕ) → Listed p q (differences t u i j) ↔ Apart t u i j p q
trees_exactly t u i j p q = (listed_apart p q t u i j, λ a. apart_listed a.reached a.unlike)

-- "where they do not it reports the pair of record numbers and goes no deeper": of any two tables
pub pairs_exactly : (a b : List ℕ) (p q : ℕ) → Listed p q (differences_of a b) ↔ ApartIn a b p q
unfolding differences_of between
pairs_exactly a b p q = (λ s. go (tree_of a) refl (tree_of b) refl s, λ h. rw (h.first_read, h.second_read) ((trees_exactly _ _ 0 0 p q).1 h.apart))
  where
    go : (x : Option Tree) → tree_of a ≡ x → (y : Option Tree) → tree_of b ≡ y → Listed p q (between x y) → ApartIn a b p q
    go none e y f s = absurd (none_listed [] refl s)
    go (some t) e none f s = absurd (none_listed [] refl s)
    go (some t) e (some u) f s =
        record { first_tree = t; second_tree = u; first_read = e; second_read = f; apart = (trees_exactly t u 0 0 p q).0 s }

-- ---- "Every such pair appears once, in walking order": the numbers rise, and stay within the trees
abbrev Within : ℕ → ℕ → List (ℕ × ℕ) → Type 0
Within m n [] = Unit {0}
Within m n (d ∷ ds) = (d.0 < m) × ((d.1 < n) × Within m n ds)

within_up : (ds : List (ℕ × ℕ)) (m n k l : ℕ) → m ≤ k → n ≤ l → Within m n ds → Within k l ds
within_up [] m n k l g h w = tt
within_up (d ∷ ds) m n k l g h w = (omega (arith, w.0), (omega (arith, w.1.0), within_up ds m n k l g h w.1.1))

within_both : (a b : List (ℕ × ℕ)) (m n : ℕ) → Within m n a → Within m n b → Within m n (a ++ b)
within_both [] b m n v w = w
within_both (d ∷ a) b m n v w = (v.0, (v.1.0, within_both a b m n v.1.1 w))

rises_from : (ds : List (ℕ × ℕ)) (i j k l : ℕ) → i ≤ k → j ≤ l → Rises k l ds → Rises i j ds
rises_from [] i j k l g h r = tt
rises_from (d ∷ ds) i j k l g h r = (omega (arith, r.0), (omega (arith, r.1.0), r.1.1))

rises_both : (a b : List (ℕ × ℕ)) (i j m n : ℕ) → i ≤ m → j ≤ n → Rises i j a → Within m n a → Rises m n b → Rises i j (a ++ b)
rises_both [] b i j m n g h r w s = rises_from b i j m n g h s
rises_both (d ∷ a) b i j m n g h r w s =
    (r.0, (r.1.0, rises_both a b (d.0 + 1) (d.1 + 1) m n (omega (arith, w.0)) (omega (arith, w.1.0)) r.1.1 w.1.1 s))

abbrev InOrder : Tree → Type 0
InOrder t = (u : Tree) (i j : ℕ) → Rises i j (differences t u i j) × Within (i + records t) (j + records u) (differences t u i j)

steps_order : (l : List Tree) → Every InOrder l → (m : List Tree) (i j : ℕ)
    → Rises i j (steps l m i j) × Within (i + records_all l) (j + records_all m) (steps l m i j)
unfolding steps records of_list
steps_order [] h m i j = (tt, tt)
steps_order (t ∷ l) h [] i j = (tt, tt)
steps_order (t ∷ l) h (u ∷ m) i j =
    let d = differences t u i j in
    let ds = steps l m (i + records t) (j + records u) in
    let x = h.0 u i j in
    let y = steps_order l h.1 m (i + records t) (j + records u) in (
      rises_both d ds i j (i + records t) (j + records u) (omega arith) (omega arith) x.0 x.1 y.0,
      within_both d ds _ _ (within_up d _ _ _ _ (omega arith) (omega arith) x.1) (within_up ds _ _ _ _ (omega arith) (omega arith) y.1),
    )

in_order_lem : (t u : Tree) (i j : ℕ) → Rises i j (differences t u i j) × Within (i + records t) (j + records u) (differences t u i j)
unfolding or_pair
in_order_lem =
    by_members InOrder
    (λ t h u i j. rw (differ_node t u i j) (go t h u i j (alike t u)))
  where
    go : (t : Tree) → Every InOrder (members t) → (u : Tree) (i j : ℕ) (b : Bool)
        → let ds = or_pair b i j (steps (members t) (members u) (i + 1) (j + 1)) in Rises i j ds × Within (i + records t) (j + records u) ds
    go t h u i j true =
        let ds = steps (members t) (members u) (i + 1) (j + 1) in
        let x = steps_order (members t) h (members u) (i + 1) (j + 1) in (
          rises_from ds i j (i + 1) (j + 1) (omega arith) (omega arith) x.0,
          within_up ds _ _ _ _ (omega (arith, records_first t)) (omega (arith, records_first u)) x.1,
        )
    go t h u i j false = ((omega arith, (omega arith, tt)), (omega (arith, records_pos t), (omega (arith, records_pos u), tt)))

-- of any two tables
pub once_in_order : (a b : List ℕ) → Rises 0 0 (differences_of a b)
unfolding differences_of between
once_in_order a b = go (tree_of a) (tree_of b)
  where
    go : (x y : Option Tree) → Rises 0 0 (between x y)
    go none y = tt
    go (some t) none = tt
    go (some t) (some u) = (in_order_lem t u 0 0).0

-- ---- how many pairs: no more than the shorter tree has records
pairs_within : (ds : List (ℕ × ℕ)) (i j m n : ℕ) → i ≤ m → j ≤ n → Rises i j ds → Within m n ds → (i + length ds ≤ m) × (j + length ds ≤ n)
pairs_within [] i j m n g h r w = (omega arith, omega arith)
pairs_within (d ∷ ds) i j m n g h r w =
    let x = pairs_within ds (d.0 + 1) (d.1 + 1) m n (omega (arith, w.0)) (omega (arith, w.1.0)) r.1.1 w.1.1 in
    (omega (arith, r.0, x.0), omega (arith, r.1.0, x.1))

pub pairs_at_most : (t u : Tree) → (length (differences t u 0 0) ≤ records t) × (length (differences t u 0 0) ≤ records u)
pairs_at_most t u =
    let x = in_order_lem t u 0 0 in
    let y = pairs_within (differences t u 0 0) 0 0 (0 + records t) (0 + records u) (omega arith) (omega arith) x.0 x.1 in
    (omega (arith, y.0), omega (arith, y.1))

-- a list as long as the shorter table is never refused
pub room_suffices : (lim : ℕ) (a b list : List ℕ) → Bytes a → Bytes b → verdict lim a ≡ accepted → verdict lim b ≡ accepted
    → min (length a) (length b) ≤ length list → too_few_places (differences_of a b) list ≡ false
unfolding too_few_places differences_of between
room_suffices lim a b list x y p q l =
    let h = accepted_holds lim a x p in
    let k = accepted_holds lim b y q in
    let r = pairs_at_most h.tree k.tree in
    let m : length a ≡ 16 * records h.tree = ap length h.written ∙ encode_length h.tree in
    let n : length b ≡ 16 * records k.tree = ap length k.written ∙ encode_length k.tree in
    rw (h.read, k.read) (le-ltb (length list / 8) (2 * length (differences h.tree k.tree 0 0)) (omega (arith, r.0, r.1)))

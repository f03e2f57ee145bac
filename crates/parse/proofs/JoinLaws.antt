-- Members one after the other, as the loops of `sum` and `product` read them: the trees read so far, with those that the rest gives after
-- them, are what the whole gives. A member that does not fit its place spoils the whole, whatever follows.
use Prim.Native.Nat.{ℕ, zero, suc, ◌+◌, ◌-◌, ◌*◌, ◌≤◌}
use mathlib.Core.Path.{◌≡◌, refl, sym, ap, ◌∙◌, subst}
use mathlib.Core.Bool.{true, false}
use mathlib.Core.List.{List, [], ◌∷◌, ◌++◌, append_assoc, append-nil}
use mathlib.Core.Option.{Option, none, some, some-injective}
use native.Mathlib.Omega.{arith}
use lib.ListN.{length, drop, length-drop}
use Rattle.paper.specs.Tree.{Tree, Forest, of_list, weight, weights}
use Rattle.paper_text.specs.Text.{Place, Reading, then, begins, tail}
use Rattle.paper_text.specs.Text.{Item, bare, fits, also, all_fit, leaving, read_others}
use Rattle.paper.proofs.Tests.{never}
use Rattle.paper_text.proofs.PlaceLaws.{sign_inside, tail_there}
use Rattle.paper_text.proofs.ReadTold.{Told}
use Rattle.parse.specs.Parsed.{Laid, Stands}
use Rattle.parse.proofs.ItemLaws.{FitIs, Misfit}
use Rattle.parse.proofs.LaidLaws.{no_rows, one_row}
use Rattle.parse.specs.Joined.{Rows, Nodes, whole, finish, first_in, Joining, Going}
use Rattle.paper.proofs.EncodeLaws.{records_weight}

-- ---- readings one after the other
then_agree : {A B : Type 0} (Q : A → Type 0) (o : Reading A) (k l : A → List ℕ → Reading B) → Told (λ a z. Q a) o
    → ((a : A) (z : List ℕ) → Q a → k a z ≡ l a z) → then o k ≡ then o l
unfolding then
then_agree Q none k l h g = refl
then_agree Q (some x) k l h g = g x.0 x.1 h

anyway : {A : Type 0} (o : Reading A) → Told (λ a z. Unit {0}) o
anyway none = tt
anyway (some x) = tt

then_then : {A B C : Type 0} (o : Reading A) (k : A → List ℕ → Reading B) (l : B → List ℕ → Reading C) → then (then o k) l ≡ then o (λ a z. then (k a z) l)
unfolding then
then_then none k l = refl
then_then (some x) k l = refl

then_none : {A B : Type 0} (o : Reading A) → then {B = B} o (λ a z. none) ≡ none
unfolding then
then_none none = refl
then_none (some x) = refl

abbrev Nonempty : List Item → Type 0
Nonempty [] = ⊥
Nonempty (i ∷ l) = Unit {0}

module _ {r : List ℕ → Reading Item} {p : Place} {sign k : ℕ} {node : Forest → Tree} {from : Item → List ℕ → List Item → Reading Item}
    (n : Nodes r p sign k node from) where
  finish_more : (acc : List Tree) (i : Item) (t : Tree) (l : List Item) (z : List ℕ) → fits p i ≡ some t
      → finish n acc (i ∷ l) z ≡ finish n (acc ++ (t ∷ [])) l z
  unfolding finish all_fit also leaving
  finish_more acc i t l z e = rw e (go (all_fit p l))
    where
      go : (o : Option (List Tree))
          → leaving z (λ ts. bare (node (of_list (acc ++ ts)))) (also (some t) o) ≡ leaving z (λ ts. bare (node (of_list ((acc ++ (t ∷ [])) ++ ts)))) o
      go none = refl
      go (some ts) = ap (λ (x : List Tree). some (bare (node (of_list x)), z)) (sym (append_assoc acc (t ∷ []) ts))

  finish_misfit : (acc : List Tree) (i : Item) (l : List Item) (z : List ℕ) → fits p i ≡ none → finish n acc (i ∷ l) z ≡ none
  unfolding finish all_fit also leaving
  finish_misfit acc i l z e = rw e

  -- the first member
  from_first : (i j : Item) (t : Tree) (l : List Item) (z : List ℕ) → fits p i ≡ some t → from i z (j ∷ l) ≡ finish n (t ∷ []) (j ∷ l) z
  unfolding finish all_fit also leaving
  from_first i j t l z e = n.made i j l z ∙ rw e (go (also (fits p j) (all_fit p l)))
    where
      go : (o : Option (List Tree)) → leaving z (λ ts. bare (node (of_list ts))) (also (some t) o) ≡ leaving z (λ ts. bare (node (of_list ((t ∷ []) ++ ts)))) o
      go none = refl
      go (some ts) = refl

  from_misfit : (i : Item) (l : List Item) (z : List ℕ) → fits p i ≡ none → Nonempty l → from i z l ≡ none
  unfolding all_fit also leaving
  from_misfit i [] z e h = absurd h
  from_misfit i (j ∷ l) z e h = n.made i j l z ∙ rw e

  others_some : (f : ℕ) (q : List ℕ) → begins sign q ≡ true → 1 ≤ f → Told (λ l z. Nonempty l) (read_others r sign f q)
  unfolding read_others then
  others_some zero q b h = absurd (omega (arith, h))
  others_some (suc f) q b h = rw b (go (r (tail q)))
    where
      last : (i : Item) (o : Reading (List Item)) → Told (λ l z. Nonempty l) (then o (λ l z. some (i ∷ l, z)))
      last i none = tt
      last i (some x) = tt

      go : (o : Reading Item) → Told (λ l z. Nonempty l) (then o (λ i q'. then (read_others r sign f q') (λ l z. some (i ∷ l, z))))
      go none = tt
      go (some x) = last x.0 (read_others r sign f x.1)

  some_left : (s : List ℕ) (e : ℕ) → begins sign (drop e s) ≡ true → 1 ≤ length (drop e s)
  some_left s e b = let h = sign_inside s e sign b in let l = length-drop e s in omega (arith, h, l)

  pub first_misfit : (s : List ℕ) (at m : ℕ) → Told (Misfit p s m) (r (drop at s)) → begins sign (drop m s) ≡ true → whole n (drop at s) ≡ none
  unfolding whole then
  first_misfit s at m h b = go (r (drop at s)) h
    where
      go : (o : Reading Item) → Told (Misfit p s m) o → then o (λ i q. then (read_others r sign (length q) q) (λ l z. from i z l)) ≡ none
      go none h = refl
      go (some (i, q)) h =
          rw h.place
          (then_agree Nonempty (read_others r sign (length (drop m s)) (drop m s)) (λ l z. from i z l) (λ l z. none)
          (others_some (length (drop m s)) (drop m s) b (some_left s m b)) (λ l z y. from_misfit i l z h.unfit y)
          ∙ then_none (read_others r sign (length (drop m s)) (drop m s)))

  pub begin_joining : (s : List ℕ) (L : Tree → Type 0) (A : List Tree → Type 0) (at e w : ℕ) → FitIs p s at (r (drop at s)) L e w
      → begins sign (drop e s) ≡ true → A []
      → Joining n s A at e (w + 1)
  unfolding whole then of_list weight first_in
  begin_joining s L A at e w f b none_yet =
      let l = f.light in
      let g = f.weighs in
      let d = length-drop e s in
      let i = f.within in
      record {
        first = f.tree;
        more = [];
        fuel = length (drop e s);
        enough = omega (arith, d, i);
        rest =
            rw f.read
            (then_agree Nonempty (read_others r sign (length (drop e s)) (drop e s)) (λ l z. from f.item z l) (λ l z. finish n (f.tree ∷ []) l z)
            (others_some (length (drop e s)) (drop e s) b (some_left s e b)) (firsts f.item f.tree f.fits_there));
        begun = rw f.read f.fits_there;
        rows = none_yet;
        heavy = omega (arith, g);
        ahead = f.ahead;
        within = f.within;
        light = omega (arith, l);
        several = λ q. never (sym q ∙ b);
      }
    where
      firsts : (i : Item) (t : Tree) → fits p i ≡ some t → (l : List Item) (z : List ℕ) → Nonempty l → from i z l ≡ finish n (t ∷ []) l z
      firsts i t h [] z y = absurd y
      firsts i t h (j ∷ l) z y = from_first i j t l z h

  weights_more : (acc : List Tree) (t : Tree) → weights (of_list (acc ++ (t ∷ []))) ≡ weights (of_list acc) + weight t
  unfolding of_list weight
  weights_more [] t = omega arith
  weights_more (u ∷ acc) t = let i = weights_more acc t in omega (arith, i)

  -- one member more is read, for the fuel that is left
  step_others : (s : List ℕ) (e f : ℕ) (acc : List Tree) → begins sign (drop e s) ≡ true
      → then (read_others r sign (suc f) (drop e s)) (λ l z. finish n acc l z)
      ≡ then (r (drop (e + 1) s)) (λ i q. then (read_others r sign f q) (λ l z. finish n acc (i ∷ l) z))
  unfolding read_others then
  step_others s e f acc b =
      rw (b, tail_there s e (sign_inside s e sign b))
      (then_then (r (drop (e + 1) s)) (λ i q. then (read_others r sign f q) (λ l z. some (i ∷ l, z))) (λ l z. finish n acc l z)
      ∙ then_agree (λ i. Unit {0}) (r (drop (e + 1) s)) (λ i q. then (then (read_others r sign f q) (λ l z. some (i ∷ l, z))) (λ l z. finish n acc l z))
      (λ i q. then (read_others r sign f q) (λ l z. finish n acc (i ∷ l) z)) (anyway (r (drop (e + 1) s)))
      (λ i q y. then_then (read_others r sign f q) (λ l z. some (i ∷ l, z)) (λ l z. finish n acc l z)))

  fuel_left : (s : List ℕ) (e fuel : ℕ) → length s ≤ e + fuel → begins sign (drop e s) ≡ true → fuel ≡ suc (fuel - 1)
  fuel_left s e fuel h b = let i = sign_inside s e sign b in omega (arith, i, h)

  pub member_misfit : (s : List ℕ) (A : List Tree → Type 0) (at e w m : ℕ) → Joining n s A at e w → begins sign (drop e s) ≡ true
      → Told (Misfit p s m) (r (drop (e + 1) s)) → whole n (drop at s) ≡ none
  unfolding then
  member_misfit s A at e w m j b h =
      j.rest ∙ ap (λ (f : ℕ). then (read_others r sign f (drop e s)) (λ l z. finish n (j.first ∷ j.more) l z)) (fuel_left s e j.fuel j.enough b)
      ∙ step_others s e (j.fuel - 1) (j.first ∷ j.more) b ∙ go (r (drop (e + 1) s)) h
    where
      go : (o : Reading Item) → Told (Misfit p s m) o
          → then o (λ i q. then (read_others r sign (j.fuel - 1) q) (λ l z. finish n (j.first ∷ j.more) (i ∷ l) z)) ≡ none
      go none h = refl
      go (some (i, q)) h =
          then_agree (λ l. Unit {0}) (read_others r sign (j.fuel - 1) q) (λ l z. finish n (j.first ∷ j.more) (i ∷ l) z) (λ l z. none)
          (anyway (read_others r sign (j.fuel - 1) q))
          (λ l z y. finish_misfit (j.first ∷ j.more) i l z h.unfit)
          ∙ then_none (read_others r sign (j.fuel - 1) q)

  pub one_member : (s : List ℕ) (L : Tree → Type 0) (A A' : List Tree → Type 0) (at e w e1 w1 : ℕ) → Joining n s A at e w → begins sign (drop e s) ≡ true
      → FitIs p s (e + 1) (r (drop (e + 1) s)) L e1 w1 → ((l : List Tree) (t : Tree) → A l → L t → A' (l ++ (t ∷ []))) → Joining n s A' at e1 (w + w1)
  unfolding then
  one_member s L A A' at e w e1 w1 j b f step =
      let a = j.ahead in
      let c = f.ahead in
      let l = j.light in
      let m = f.light in
      let g = j.heavy in
      let h = f.weighs in
      let u = j.enough in
      let i = sign_inside s e sign b in
      let x = weights_more (j.first ∷ j.more) f.tree in
      record {
        first = j.first;
        more = j.more ++ (f.tree ∷ []);
        fuel = j.fuel - 1;
        enough = omega (arith, u, c, i);
        rest =
            j.rest ∙ ap (λ (y : ℕ). then (read_others r sign y (drop e s)) (λ l z. finish n (j.first ∷ j.more) l z)) (fuel_left s e j.fuel j.enough b)
            ∙ step_others s e (j.fuel - 1) (j.first ∷ j.more) b
            ∙ rw f.read
            (then_agree (λ l. Unit {0}) (read_others r sign (j.fuel - 1) (drop e1 s)) (λ l z. finish n (j.first ∷ j.more) (f.item ∷ l) z)
            (λ l z. finish n (j.first ∷ (j.more ++ (f.tree ∷ []))) l z) (anyway (read_others r sign (j.fuel - 1) (drop e1 s)))
            (λ l z y. finish_more (j.first ∷ j.more) f.item f.tree l z f.fits_there));
        begun = j.begun;
        rows = step j.more f.tree j.rows f.laid;
        heavy = omega (arith, g, h, x);
        ahead = omega (arith, a, c);
        within = f.within;
        light = omega (arith, a, c, l, m);
        several = λ q. omega (arith, a, c, l, m);
      }

  -- the first member is the same, whichever way it is come by
  pub same_first : (s : List ℕ) (L : Tree → Type 0) (at e w : ℕ) (f : FitIs p s at (r (drop at s)) L e w) (t : Tree) → first_in n (r (drop at s)) ≡ some t → L t
  unfolding first_in
  same_first s L at e w f t q = subst L (some-injective f.tree t (sym (rw f.read f.fits_there) ∙ q)) f.laid

  pub all_read : (s : List ℕ) (L' : Tree → Type 0) (A : List Tree → Type 0) (at e w : ℕ) (j : Joining n s A at e w)
      → begins sign (drop e s) ≡ false → L' (node (of_list (j.first ∷ j.more)))
      → Stands s at (whole n (drop at s)) bare L' k e w
  unfolding read_others then finish all_fit leaving
  all_read s L' A at e w j b last =
      let h = j.heavy in
      let x = n.weighs (of_list (j.first ∷ j.more)) in
      record {
        tree = node (of_list (j.first ∷ j.more));
        read =
            j.rest ∙ ended (j.first ∷ j.more) j.fuel ∙ ap (λ (l : List Tree). some (bare (node (of_list l)), drop e s)) (append-nil (j.first ∷ j.more));
        ranked = n.ranked (of_list (j.first ∷ j.more));
        weighs = omega (arith, h, x);
        ahead = j.ahead;
        within = j.within;
        light = j.several b;
        laid = last;
      }
    where
      ended : (acc : List Tree) (f : ℕ) → then (read_others r sign f (drop e s)) (λ l z. finish n acc l z) ≡ some (bare (node (of_list (acc ++ []))), drop e s)
      ended acc zero = refl
      ended acc (suc f) = rw b

  -- ---- the loop with its area
  pub begin_going : (s area : List ℕ) (L : Tree → Type 0) (at e w i : ℕ) → FitIs p s at (r (drop at s)) L e w → begins sign (drop e s) ≡ true → i ≤ 2 * e
      → Going n s area i area at e (w + 1) i 1
  begin_going s area L at e w i f b h =
      let a = f.ahead in
      record { joined = begin_joining s L (Rows area i area i 1) at e w f b (no_rows area i); low = h; few = omega (arith, a); same = refl }

  pub one_going : (s old : List ℕ) (i : ℕ) (new new' : List ℕ) (at e w q c e1 w1 q1 : ℕ) → Going n s old i new at e w q c → begins sign (drop e s) ≡ true
      → FitIs p s (e + 1) (r (drop (e + 1) s)) (Laid new q new' q1) e1 w1 → length new' ≡ length new → Going n s old i new' at e1 (w + w1) q1 (c + 1)
  one_going s old i new new' at e w q c e1 w1 q1 g b f n =
      let l = g.low in
      let m = g.few in
      let a = f.ahead in
      let x = f.laid.next in
      let y = records_weight f.tree in
      let z = f.weighs in
      let v = f.light in
      record {
        joined = one_member s (Laid new q new' q1) (Rows old i new q c) (Rows old i new' q1 (c + 1)) at e w e1 w1 g.joined b f one_row;
        low = omega (arith, l, x, y, z, v, a);
        few = omega (arith, m, a);
        same = n ∙ g.same;
      }

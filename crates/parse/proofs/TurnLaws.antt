-- A turn of the loops of `sum` and `product`, once for both: what the member that was read makes of it, and the reader's numbers.
use Prim.Native.Nat.{ℕ, zero, suc, ◌+◌, ◌-◌, ◌*◌, ◌^◌, ◌≤◌, ◌<◌}
use mathlib.Core.Path.{◌≡◌, refl, sym, ap, ◌∙◌, subst}
use mathlib.Core.Bool.{Bool, true, false, cond, ◌&&◌}
use mathlib.Core.List.{List}
use mathlib.Core.Option.{none, some-injective}
use native.Mathlib.Omega.{arith}
use lib.ListN.{length, drop}
use lib.Dec.{ltb}
use lib.IntN.{pos, negsuc}
use Rattle.paper.specs.Tree.{Tree, Forest, integer, symbol, sum, product, power}
use Rattle.paper.specs.Table.{record_of}
use Rattle.paper_text.specs.Text.{Place, Reading, then, begins}
use Rattle.paper_text.specs.Text as paper
use Rattle.paper_text.specs.Levels.{rank}
use Rattle.paper_text.proofs.PlaceLaws.{sign_inside}
use Rattle.paper_text.proofs.ReadTold.{Told}
use Rattle.parse.specs.Written.{Written, Shifted}
use Rattle.std.specs.Prelude.{Some, None}
use Rattle.std.specs.declared.option.Option as code
use Rattle.parse.specs.declared.Form.{Form}
use Rattle.parse.specs.declared.Item.{Item}
use Rattle.parse.specs.declared.Node.{Node}
use Rattle.parse.specs.declared.Node.TheVariants.{Sum, Product}
use Rattle.parse.specs.declared.Reader.{Reader}
use Rattle.parse.specs.declared.Read as level
use Rattle.parse.specs.declared.Read.TheVariants.{Nothing, Bare, Grouped, Another}
use Rattle.parse.specs.Parsed.{Laid, Stands, ItemIs, Found, bare_item, fitted}
use Rattle.parse.specs.Joined.{Nodes, Kind, kind_of, Going, Start, On, Turn, whole, Gives, InReader, InRank}
use Rattle.parse.specs.Joined.{Read, AfterAsks, Is, lone_in, lone_as, Followed}
use Rattle.parse.proofs.ItemLaws.{FitIs, Misfit, member, stands_sized}
use Rattle.parse.proofs.JoinLaws.{first_misfit, begin_going, member_misfit, one_going, same_first, all_read}

-- ---- an item in the reader
rank_low : (t : Tree) → rank t ≤ 3
unfolding rank
rank_low (integer μ (pos n)) = omega arith
rank_low (integer μ (negsuc n)) = omega arith
rank_low (symbol μ s) = omega arith
rank_low (sum μ f) = omega arith
rank_low (product μ f) = omega arith
rank_low (power μ b ξ e) = omega arith

-- what a level tells tells how the item stands
is_same : (f g : Form) → Is f ≡ Is g → f ≡ g
is_same f g e = go f.grouped g.grouped f.rank g.rank e
  where
    go : (a b : Bool) (j k : ℕ) → cond a (Grouped j) (Bare j) ≡ cond b (Grouped k) (Bare k)
        → ◌≡◌ {A = Form} (record { grouped = a; rank = j }) (record { grouped = b; rank = k })
    go true true j k e = let z : j ≡ k = cc in ap (λ (x : ℕ). record { grouped = true; rank = x }) z
    go false false j k e = let z : j ≡ k = cc in ap (λ (x : ℕ). record { grouped = false; rank = x }) z
    go true false j k e = cc
    go false true j k e = cc

pub is_nothing : (f : Form) → Nothing ≡ Is f → ⊥
is_nothing f e = go f.grouped e
  where
    go : (a : Bool) → Nothing ≡ cond a (Grouped f.rank) (Bare f.rank) → ⊥
    go true e = cc
    go false e = cc

pub is_another : (f : Form) → Is f ≡ Another → ⊥
is_another f e = go f.grouped e
  where
    go : (a : Bool) → cond a (Grouped f.rank) (Bare f.rank) ≡ Another → ⊥
    go true e = cc
    go false e = cc

-- an item of which a level tells, where it stands and how it is read
pub record Came (s : List ℕ) (a : ℕ) (o : Reading paper.Item) (L : ℕ → Tree → Type 0) (w : ℕ) (st : Reader) (f : Form) : Type 0 where
  pub item : Item
  pub formed : item.form ≡ f
  pub held : InReader (Some item) w st
  pub here : st.place ≡ item.next
  pub weighs : st.weight ≡ w + item.weight
  pub next : st.next ≡ item.end
  pub is : Found s a o L item

pub came : (s : List ℕ) (a : ℕ) (o : Reading paper.Item) (L : ℕ → Tree → Type 0) (i : code.Option Item) (m : level.Read) (w : ℕ) (st : Reader) (f : Form)
    → Gives i m w st → ItemIs s a o L i → m ≡ Is f → Came s a o L w st f
came s a o L None m w st f g y e = absurd (is_nothing f (sym g.0 ∙ e))
came s a o L (Some i) m w st f g y e =
    record { item = i; formed = is_same i.form f (sym g.0 ∙ e); held = g.1; here = g.1.1; weighs = g.1.2; next = g.1.3; is = y }

pub none_read : (s : List ℕ) (a : ℕ) (o : Reading paper.Item) (L : ℕ → Tree → Type 0) (i : code.Option Item) (m : level.Read) (w : ℕ) (st : Reader)
    → Gives i m w st → ((f : Form) → m ≡ Is f → ⊥) → ItemIs s a o L i → o ≡ none
none_read s a o L None m w st g h y = y
none_read s a o L (Some i) m w st g h y = absurd (h i.form g.0)

pub no_other : (i : code.Option Item) (m : level.Read) (w : ℕ) (st : Reader) → Gives i m w st → m ≡ Another → ⊥
no_other None m w st g e = let z : Nothing ≡ Another = sym g.0 ∙ e in cc
no_other (Some i) m w st g e = is_another i.form (sym g.0 ∙ e)

-- with nothing beside it
pub lone_given : (x : ℕ) (i : Item) (f : Form) (w : ℕ) (st : Reader) → i.form ≡ f → InReader (Some i) w st → Gives (lone_in x i) (lone_as x f) w st
lone_given x i f w st e c = subst (λ (y : Form). Gives (lone_in x i) (lone_as x y) w st) e (go (ltb x 3 && i.form.grouped))
  where
    go : (b : Bool) → Gives (cond b None (Some i)) (cond b Nothing (Is i.form)) w st
    go true = (refl, tt)
    go false = (refl, c)

-- the same reading, said otherwise
pub read_as : (s : List ℕ) (a a' : ℕ) (o o' : Reading paper.Item) (old : List ℕ) (d d' : ℕ) (new : List ℕ) (w w' : ℕ) (st : Reader) (m : level.Read)
    → Read s a o old d new w st m
    → a ≡ a' → o ≡ o' → d ≡ d' → w ≡ w' → Read s a' o' old d' new w' st m
read_as s a a' o o' old d d' new w w' st m h ea eo ed ew =
    subst (λ (x : ℕ). Read s x o' old d' new w' st m) ea
    (subst (λ (x : Reading paper.Item). Read s a x old d' new w' st m) eo
    (subst (λ (x : ℕ). Read s a o old x new w' st m) ed
    (subst (λ (x : ℕ). Read s a o old d new x st m) ew h)))

-- the item moves on: the numbers that hold it are the same
pub moved : (i : code.Option Item) (m : level.Read) (w : ℕ) (st st' : Reader) → Gives i m w st → st'.place ≡ st.place
    → st'.next ≡ st.next → st'.weight ≡ st.weight → Gives i m w st'
moved None m w st st' g a b c = (g.0, tt)
moved (Some i) m w st st' g a b c = (g.0, (g.1.0, a ∙ g.1.1, c ∙ g.1.2, b ∙ g.1.3))

pub moved_read : (s : List ℕ) (a : ℕ) (o : Reading paper.Item) (old : List ℕ) (d : ℕ) (new : List ℕ) (w : ℕ) (st st' : Reader) (m : level.Read)
    → Read s a o old d new w st m
    → st'.place ≡ st.place → st'.next ≡ st.next → st'.weight ≡ st.weight → Read s a o old d new w st' m
moved_read s a o old d new w st st' m h x y z = record { item = h.item; given = moved h.item m w st st' h.given x y z; is = h.is }

module _ (s : List ℕ) (a : ℕ) (o : Reading paper.Item) (area out : List ℕ) (q : ℕ) (low : q ≤ 2 * a) where
  -- the numbers of an item that is read, v having been read before it
  stands_numbers : {wrap : Tree → paper.Item} {k e w q1 : ℕ} (v : ℕ) (st : Reader) → Stands s a o wrap (Laid area q out q1) k e w
      → (st.place ≡ e) × (st.weight ≡ v + w) × (st.next ≡ q1) → v ≤ 2 * a
      → (q ≤ st.next) × (st.next + 1 ≤ 2 * st.place) × (st.weight + 1 ≤ 2 * st.place) × (st.place ≤ length s) × (a < st.place)
  stands_numbers v st h g l =
      let z = stands_sized s a o area out q low h in
      let z1 = z.1 in
      let z2 = z.2 in
      let z3 = z.3 in
      let x = h.light in
      let y = h.ahead in
      let g0 = g.0 in
      let g1 = g.1 in
      let g2 = g.2 in
      (omega (arith, z1, g2), omega (arith, z2, g2, g0), omega (arith, x, y, g0, g1, l), omega (arith, z3, g0), omega (arith, y, g0))

  pub numbers : (i : code.Option Item) (m : level.Read) (v : ℕ) (st : Reader) (f : Form) → ItemIs s a o (Laid area q out) i → Gives i m v st → m ≡ Is f
      → v ≤ 2 * a
      → (q ≤ st.next) × (st.next + 1 ≤ 2 * st.place) × (st.weight + 1 ≤ 2 * st.place) × (st.place ≤ length s) × (a < st.place)
  numbers i m v st f h g e l =
      let k = came s a o (Laid area q out) i m v st f g h e in
      stands_numbers v st k.is (k.here, k.weighs, k.next) l

  -- the reader can take it up
  stands_takes : {wrap : Tree → paper.Item} {k e w q1 : ℕ} (v : ℕ) → Stands s a o wrap (Laid area q out q1) k e w → v ≤ 2 * a → length s < 2 ^ 63
      → (k ≤ 3) × (v + w < 2 ^ 64)
  stands_takes v h l n =
      let x = h.light in
      let y = h.ahead in
      let z = h.within in
      let u = h.ranked in
      let c = rank_low h.tree in
      (omega (arith, u, c), omega (arith, x, y, z, l, n))

  pub takes : (i : code.Option Item) (v : ℕ) → ItemIs s a o (Laid area q out) i → v ≤ 2 * a → length s < 2 ^ 63 → InRank i v
  takes None v h l n = tt
  takes (Some i) v h l n = stands_takes v h l n

-- ---- the turn
module _ {x : ℕ} {r : List ℕ → Reading paper.Item} {p : Place} {node : Forest → Tree} {from : paper.Item → List ℕ → List paper.Item → Reading paper.Item}
    (n : Nodes r p (45 - x) (5 - x) node from) (κ : Kind x n) (s old : List ℕ) (at d w : ℕ) where
  as_fit : (a : ℕ) (o : Reading paper.Item) (L : ℕ → Tree → Type 0) (v : ℕ) (st : Reader) (f : Form) (k : Came s a o L v st f) → fitted (5 - x) f ≡ true
      → FitIs p s a o (L k.item.end) k.item.next k.item.weight
  as_fit a o L v st f k u =
      member p s a o L k.item k.is true (ap (λ (b : ℕ). fitted b k.item.form) κ.bounded ∙ ap (fitted (5 - x)) k.formed ∙ u)

  as_misfit : (a : ℕ) (o : Reading paper.Item) (L : ℕ → Tree → Type 0) (v : ℕ) (st : Reader) (f : Form) (k : Came s a o L v st f)
      → fitted (5 - x) f ≡ false → Told (Misfit p s k.item.next) o
  as_misfit a o L v st f k u =
      member p s a o L k.item k.is false (ap (λ (b : ℕ). fitted b k.item.form) κ.bounded ∙ ap (fitted (5 - x)) k.formed ∙ u)

  pub turn_start : (c : ℕ) (area : List ℕ) (was : Reader) → c < 1 → Turn n s old at d w c area was → Start n old at d w area was
  turn_start zero area was h z = z
  turn_start (suc c) area was h z = absurd (omega (arith, h))

  pub turn_on : (c : ℕ) (area : List ℕ) (was : Reader) → 1 ≤ c → Turn n s old at d w c area was → On n s old at d w c area was
  turn_on zero area was h z = absurd (omega (arith, h))
  turn_on (suc c) area was h z = z

  pub turn_one : (c : ℕ) (area : List ℕ) (was : Reader) → c < 1 → On n s old at d w 1 area was → Turn n s old at d w (suc c) area was
  turn_one zero area was h z = z
  turn_one (suc c) area was h z = absurd (omega (arith, h))

  -- before the first member
  started : (area : List ℕ) (was : Reader) (out : List ℕ) (st : Reader) (m : level.Read) → Start n old at d w area was
      → Read s was.place (r (drop was.place s)) area was.next out was.weight st m → Read s at (r (drop at s)) old d out w st m
  started area was out st m z h =
      subst (λ (a : ℕ). Read s a (r (drop a s)) old d out w st m) z.here
      (subst (λ (b : ℕ). Read s was.place (r (drop was.place s)) old b out w st m) z.next
      (subst (λ (v : ℕ). Read s was.place (r (drop was.place s)) old was.next out v st m) z.weighs
      (subst (λ (l : List ℕ). Read s was.place (r (drop was.place s)) l was.next out was.weight st m) z.same h)))

  -- after another
  gone_on : (c : ℕ) (area : List ℕ) (was : Reader) (out : List ℕ) (st : Reader) (m : level.Read) (z : On n s old at d w c area was)
      → Read s was.place (r (drop was.place s)) area was.next out was.weight st m
      → Read s (z.end + 1) (r (drop (z.end + 1) s)) area was.next out (w + z.weighed) st m
  gone_on c area was out st m z h =
      subst (λ (a : ℕ). Read s a (r (drop a s)) area was.next out (w + z.weighed) st m) z.here
      (subst (λ (v : ℕ). Read s was.place (r (drop was.place s)) area was.next out v st m) z.weighs h)

  misfit_spoils : (c : ℕ) (area : List ℕ) (was : Reader) (k : ℕ) → Turn n s old at d w c area was → Told (Misfit p s k) (r (drop was.place s))
      → (c < 1 → begins (45 - x) (drop k s) ≡ true) → whole n (drop at s) ≡ none
  misfit_spoils zero area was k z t b = first_misfit n s at k (subst (λ (a : ℕ). Told (Misfit p s k) (r (drop a s))) z.here t) (b (omega arith))
  misfit_spoils (suc c) area was k z t b =
      member_misfit n s _ at z.end z.weighed k z.going.joined z.sign_there (subst (λ (a : ℕ). Told (Misfit p s k) (r (drop a s))) z.here t)

  nothing_first : r (drop at s) ≡ none → whole n (drop at s) ≡ none
  unfolding whole then
  nothing_first h = rw h

  -- nothing is read
  pub not_there : (c : ℕ) (area : List ℕ) (was : Reader) (out : List ℕ) (st : Reader) (m : level.Read) → Turn n s old at d w c area was
      → Read s was.place (r (drop was.place s)) area was.next out was.weight st m → ((f : Form) → m ≡ Is f → ⊥)
      → whole n (drop at s) ≡ none
  not_there zero area was out st m z h l =
      let i = started area was out st m z h in
      nothing_first (none_read s at _ _ i.item m w st i.given l i.is)
  not_there (suc c) area was out st m z h l =
      let e = none_read s was.place _ _ h.item m _ st h.given l h.is in
      misfit_spoils (suc c) area was 0 z (subst (Told (Misfit p s 0)) (sym e) tt) (λ q. absurd (omega (arith, q)))

  -- it does not fit
  pub not_fitting : (c : ℕ) (area : List ℕ) (was : Reader) (out : List ℕ) (st : Reader) (m : level.Read) (f : Form) → Turn n s old at d w c area was
      → Read s was.place (r (drop was.place s)) area was.next out was.weight st m → m ≡ Is f → fitted (5 - x) f ≡ false
      → (c < 1 → begins (45 - x) (drop st.place s) ≡ true) → whole n (drop at s) ≡ none
  not_fitting c area was out st m f z h e u b =
      let k = came s was.place (r (drop was.place s)) (Laid area was.next out) h.item m was.weight st f h.given h.is e in
      misfit_spoils c area was k.item.next z (as_misfit was.place _ _ _ st f k u)
      (λ q. ap (λ (y : ℕ). begins (45 - x) (drop y s)) (sym k.here) ∙ b q)

  -- it stands alone
  pub stands_alone : (area : List ℕ) (was : Reader) (out : List ℕ) (st : Reader) (m : level.Read) (f : Form) → Start n old at d w area was
      → Read s was.place (r (drop was.place s)) area was.next out was.weight st m → m ≡ Is f
      → begins (45 - x) (drop st.place s) ≡ false → Read s at (whole n (drop at s)) old d out w st (lone_as x f)
  stands_alone area was out st m f z h e b =
      let i = started area was out st m z h in
      let k = came s at (r (drop at s)) (Laid old d out) i.item m w st f i.given i.is e in
      record {
        item = lone_in x k.item;
        given = lone_given x k.item f w st k.formed k.held;
        is = κ.alone s at old d out k.item k.is (ap (λ (y : ℕ). begins (45 - x) (drop y s)) (sym k.here) ∙ b);
      }

  -- the first of several
  pub first_of_more : (area : List ℕ) (was : Reader) (out out' : List ℕ) (st st' : Reader) (m : level.Read) (f : Form) → Start n old at d w area was
      → Read s was.place (r (drop was.place s)) area was.next out was.weight st m → m ≡ Is f → fitted (5 - x) f ≡ true
      → begins (45 - x) (drop st.place s) ≡ true → st.next + 1 ≤ 2 * st.place → Shifted out d st.next out'
      → st'.place ≡ st.place + 1 → st'.next ≡ st.next + 1 → st'.weight ≡ st.weight + 1 → On n s old at d w 1 out' st'
  first_of_more area was out out' st st' m f z h e u b low sh pe qe we =
      let rd = started area was out st m z h in
      let k = came s at (r (drop at s)) (Laid old d out) rd.item m w st f rd.given rd.is e in
      let i = k.item in
      let g0 = k.here in
      let g1 = k.weighs in
      let g2 = k.next in
      let fit = as_fit at (r (drop at s)) (Laid old d out) w st f k u in
      let sign = ap (λ (y : ℕ). begins (45 - x) (drop y s)) (sym g0) ∙ b in
      let next : i.end + 1 ≡ st'.next = omega (arith, qe, g2) in
      let going = subst (λ (q : ℕ). Going n s out' (i.end + 1) out' at i.next (i.weight + 1) q 1) next
      (begin_going n s out' _ at i.next i.weight (i.end + 1) fit sign (omega (arith, low, g0, g2))) in
      record {
        first_read = out;
        area = out';
        first_end = i.end;
        end = i.next;
        weighed = i.weight + 1;
        shifted = subst (λ (q : ℕ). Shifted out d q out') g2 sh;
        going = going;
        laid = same_first n s (Laid old d out i.end) at i.next i.weight fit going.joined.first going.joined.begun;
        sign_there = sign;
        here = omega (arith, pe, g0);
        weighs = omega (arith, we, g1);
      }

  -- one more
  joins : (c : ℕ) (area : List ℕ) (was : Reader) (out : List ℕ) (st : Reader) (f : Form) (z : On n s old at d w c area was)
      (k : Came s (z.end + 1) (r (drop (z.end + 1) s)) (Laid area was.next out) (w + z.weighed) st f) → fitted (5 - x) f ≡ true
      → length out ≡ length area
      → Going n s z.area (z.first_end + 1) out at k.item.next (z.weighed + k.item.weight) k.item.end (c + 1)
  joins c area was out st f z k u same =
      one_going n s z.area (z.first_end + 1) area out at z.end z.weighed was.next c k.item.next k.item.weight
      k.item.end z.going z.sign_there (as_fit (z.end + 1) _ _ _ st f k u) same

  first_stays_lem : (c c' : ℕ) (area : List ℕ) (was : Reader) (new : List ℕ) (e v q : ℕ) (z : On n s old at d w c area was)
      (g : Going n s z.area (z.first_end + 1) new at e v q c')
      → Laid old d z.first_read z.first_end g.joined.first
  first_stays_lem c c' area was new e v q z g =
      subst (Laid old d z.first_read z.first_end)
      (some-injective z.going.joined.first g.joined.first (sym z.going.joined.begun ∙ g.joined.begun)) z.laid

  pub one_of_more : (c : ℕ) (area : List ℕ) (was : Reader) (out : List ℕ) (st st' : Reader) (m : level.Read) (f : Form) → On n s old at d w c area was
      → Read s was.place (r (drop was.place s)) area was.next out was.weight st m → m ≡ Is f
      → fitted (5 - x) f ≡ true → length out ≡ length area
      → begins (45 - x) (drop st.place s) ≡ true → st'.place ≡ st.place + 1 → st'.next ≡ st.next → st'.weight ≡ st.weight
      → On n s old at d w (suc c) out st'
  one_of_more c area was out st st' m f z h e u same b pe qe we =
      let rd = gone_on c area was out st m z h in
      let k = came s (z.end + 1) (r (drop (z.end + 1) s)) (Laid area was.next out) rd.item m (w + z.weighed) st f rd.given rd.is e in
      let i = k.item in
      let g0 = k.here in
      let g1 = k.weighs in
      let g2 = k.next in
      let next : i.end ≡ st'.next = omega (arith, qe, g2) in
      let count : c + 1 ≡ suc c = omega arith in
      let going = subst (λ (y : ℕ). Going n s z.area (z.first_end + 1) out at i.next (z.weighed + i.weight) st'.next y) count
      (subst (λ (q : ℕ). Going n s z.area (z.first_end + 1) out at i.next (z.weighed + i.weight) q (c + 1)) next
      (joins c area was out st f z k u same)) in
      record {
        first_read = z.first_read;
        area = z.area;
        first_end = z.first_end;
        end = i.next;
        weighed = z.weighed + i.weight;
        shifted = z.shifted;
        going = going;
        laid = first_stays_lem c (suc c) area was out _ _ _ z going;
        sign_there = ap (λ (y : ℕ). begins (45 - x) (drop y s)) (sym g0) ∙ b;
        here = omega (arith, pe, g0);
        weighs = omega (arith, we, g1);
      }

  -- the last
  pub last_of_more : (c : ℕ) (area : List ℕ) (was : Reader) (out out' : List ℕ) (st : Reader) (m : level.Read) (f : Form) → On n s old at d w c area was
      → Read s was.place (r (drop was.place s)) area was.next out was.weight st m → m ≡ Is f
      → fitted (5 - x) f ≡ true → length out ≡ length area
      → begins (45 - x) (drop st.place s) ≡ false → Written (record_of x (c + 1) 0 0) out d out' → 2 ≤ x
      → Read s at (whole n (drop at s)) old d out' w st (Is (record { grouped = false; rank = 5 - x }))
  last_of_more c area was out out' st m f z h e u same b put lo =
      let rd = gone_on c area was out st m z h in
      let k = came s (z.end + 1) (r (drop (z.end + 1) s)) (Laid area was.next out) rd.item m (w + z.weighed) st f rd.given rd.is e in
      let i = k.item in
      let g1 = k.weighs in
      let going = joins c area was out st f z k u same in
      let j = going.joined in
      record {
        item = Some (bare_item (5 - x) i.next (z.weighed + i.weight) i.end);
        given = (refl, (omega (arith, lo), k.here, omega (arith, g1), k.next));
        is =
            all_read n s (Laid old d out' i.end) _ at i.next (z.weighed + i.weight) j
            (ap (λ (y : ℕ). begins (45 - x) (drop y s)) (sym k.here) ∙ b)
            (κ.lays z.shifted put j.first j.more (first_stays_lem c (c + 1) area was out _ _ _ z going) j.rows);
      }

  -- the numbers of a turn
  pub turn_numbers : (c : ℕ) (area : List ℕ) (was : Reader) → Turn n s old at d w c area was → d ≤ 2 * at → w ≤ 2 * at
      → (was.next ≤ 2 * was.place) × (was.weight ≤ 2 * was.place) × (d ≤ was.next) × (at ≤ was.place) × (c ≤ was.place)
  turn_numbers zero area was z l h =
      let x = z.here in
      let y = z.next in
      let v = z.weighs in
      (omega (arith, x, y, l), omega (arith, x, v, h), omega (arith, y), omega (arith, x), omega arith)
  turn_numbers (suc c) area was z l h =
      let x = z.here in
      let v = z.weighs in
      let lo = z.going.low in
      let few = z.going.few in
      let li = z.going.joined.light in
      let ah = z.going.joined.ahead in
      let nx = z.going.joined.rows.next in
      let la = z.laid.next in
      (omega (arith, x, lo), omega (arith, x, v, h, li, ah), omega (arith, nx, la), omega (arith, x, ah), omega (arith, x, few))

  pub turn_within : (c : ℕ) (area : List ℕ) (was : Reader) → On n s old at d w c area was → was.place ≤ length s
  turn_within c area was z =
      let x = z.here in
      let y = sign_inside s z.end _ z.sign_there in
      omega (arith, x, y)

  pub turn_few : (c : ℕ) (area : List ℕ) (was : Reader) → Turn n s old at d w c area was → length s < 2 ^ 63 → c < 2 ^ 63
  turn_few zero area was z h = omega arith
  turn_few (suc c) area was z h =
      let x = z.going.few in
      let y = z.going.joined.within in
      omega (arith, x, y, h)

  -- what `after` is asked for after a member: the numbers fit
  pub turn_asks : (c : ℕ) (area : List ℕ) (was : Reader) (out : List ℕ) (st st' : Reader) (m : level.Read) (o : Reading paper.Item)
      → Turn n s old at d w c area was → d ≤ 2 * at → w ≤ 2 * at → length s < 2 ^ 63
      → Read s was.place o area was.next out was.weight st m → st'.place ≡ st.place → st'.next ≡ st.next
      → st'.weight ≡ st.weight
      → st'.first ≡ d → AfterAsks s st' c m
  turn_asks c area was out st st' m o z lo li short h e1 e2 e3 e4 = (
    turn_few c area was z short,
    λ f p.
        let t = turn_numbers c area was z lo li in
        let t2 = t.2 in
        let x = numbers s was.place o area out was.next t.0 h.item m was.weight st f h.is h.given p t.1 in
        let x0 = x.0 in
        let x1 = x.1 in
        let x2 = x.2 in
        let x3 = x.3 in
        (omega (arith, x0, t2, e2, e4), omega (arith, x1, e1, e2), omega (arith, x2, e1, e3), omega (arith, x3, e1)),
  )

  -- the place moves on
  pub turn_ahead : (c : ℕ) (area : List ℕ) (was : Reader) (out : List ℕ) (st st' : Reader) (out' : List ℕ) (st'' : Reader) (m : level.Read)
      (o : Reading paper.Item) → Turn n s old at d w c area was → d ≤ 2 * at → w ≤ 2 * at
      → Read s was.place o area was.next out was.weight st m → ((f : Form) × (m ≡ Is f)) → st'.place ≡ st.place
      → st''.place ≡ st'.place + 1
      → Turn n s old at d w (suc c) out' st'' → length s - st''.place < length s - was.place
  turn_ahead c area was out st st' out' st'' m o z lo li h p e1 e2 z' =
      let t = turn_numbers c area was z lo li in
      let x = (numbers s was.place o area out was.next t.0 h.item m was.weight st p.0 h.is h.given p.1 t.1).4 in
      let y = turn_within (suc c) out' st'' z' in
      omega (arith, x, y, e1, e2)

pub kind_least : (node : Node) → 2 ≤ kind_of node
kind_least Sum = omega arith
kind_least Product = omega arith

-- ---- a turn of a level's loop: the reader st₀ when the level began, st before the member, st' behind it, st'' as `after` leaves it
pub record Outcome (x : ℕ) {r : List ℕ → Reading paper.Item} {p : Place} {node : Forest → Tree}
    {from : paper.Item → List ℕ → List paper.Item → Reading paper.Item} (n : Nodes r p (45 - x) (5 - x) node from) (s old : List ℕ) (st₀ : Reader) (c : ℕ)
    (st st' : Reader) (out' : List ℕ) (st'' : Reader) (a : level.Read) : Type 0 where
  pub level : st''.level ≡ st'.level
  pub first : st''.first ≡ st₀.next
  pub less : a ≡ Another → length s - st''.place < length s - st.place
  pub again : a ≡ Another → Turn n s old st₀.place st₀.next st₀.weight (c + 1) out' st''
  pub done : (a ≡ Another → ⊥) → Read s st₀.place (whole n (drop st₀.place s)) old st₀.next out' st₀.weight st'' a

-- the reader, the record where the node at work stands being d
abbrev pub at_first : Reader → ℕ → Reader
at_first st d = record { out = st.out; place = st.place; next = st.next; weight = st.weight; level = st.level; first = d }

module _ {x : ℕ} {r : List ℕ → Reading paper.Item} {p : Place} {node : Forest → Tree} {from : paper.Item → List ℕ → List paper.Item → Reading paper.Item}
    (n : Nodes r p (45 - x) (5 - x) node from) (κ : Kind x n) (s old : List ℕ) (st₀ : Reader) (low : st₀.next ≤ 2 * st₀.place)
    (light : st₀.weight ≤ 2 * st₀.place) (c : ℕ) (area : List ℕ) (st : Reader) (z : Turn n s old st₀.place st₀.next st₀.weight c area st)
    (out : List ℕ) (st' : Reader) (m : level.Read) (h : Read s st.place (r (drop st.place s)) area st.next out st.weight st' m) where
  pub turn_handed : length s < 2 ^ 63 → AfterAsks s (at_first st' st₀.next) c m
  turn_handed short =
      turn_asks n κ s old st₀.place st₀.next st₀.weight c area st out st' (at_first st' st₀.next) m _ z low light short h refl refl refl refl

  pub turn_outcome : (out' : List ℕ) (st'' : Reader) (a : level.Read) → length out ≡ length area
      → Followed x s c m out (at_first st' st₀.next) out' st'' a → Outcome x n s old st₀ c st st' out' st'' a
  turn_outcome out' st'' a same f =
      let t = at_first st' st₀.next in
      let h' = moved_read s st.place (r (drop st.place s)) area st.next out st.weight st' t m h refl refl refl in
      let o = f.2 r p node from n κ old st₀.place st₀.next st₀.weight area st z h' refl same in
      let count : suc c ≡ c + 1 = omega arith in
      record {
        level = f.0;
        first = f.1;
        less =
            λ q.
            let g = o.0 q in
            turn_ahead n κ s old st₀.place st₀.next st₀.weight c area st out st' t out' st'' m _ z low light h g.0 refl g.1 g.2;
        again = λ q. subst (λ (y : ℕ). Turn n s old st₀.place st₀.next st₀.weight y out' st'') count (o.0 q).2;
        done = o.1;
      }

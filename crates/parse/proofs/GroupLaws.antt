-- A group in the reader: its content, its closing parenthesis, and the exponent that may follow.
use Prim.Native.Nat.{ℕ, ◌+◌, ◌-◌}
use mathlib.Core.Path.{◌≡◌, sym, ap, ◌∙◌, subst}
use mathlib.Core.Bool.{true, false}
use mathlib.Core.List.{List}
use mathlib.Core.Option.{none}
use native.Mathlib.Omega.{arith}
use lib.ListN.{drop}
use Rattle.paper.specs.Tree.{Tree}
use Rattle.paper_text.specs.Text.{closes, Reading, then, begins, closed}
use Rattle.paper_text.specs.Text as paper
use Rattle.std.specs.declared.option.Option as code
use Rattle.parse.specs.declared.Form.{Form}
use Rattle.parse.specs.declared.Item.{Item}
use Rattle.parse.specs.declared.Reader.{Reader}
use Rattle.parse.specs.declared.Read as level
use Rattle.parse.specs.Parsed.{Laid, Stands, ItemIs, Found, bared, raising}
use Rattle.parse.specs.Joined.{Is, Gives, Read}
use Rattle.parse.proofs.ItemLaws.{bare_found, nothing_closed, is_closed, not_closed}
use Rattle.parse.proofs.TurnLaws.{Came, came, none_read}

pub nothing_raised : (o : Reading paper.Item) → o ≡ none → then o raising ≡ none
unfolding then
nothing_raised o h = rw h

-- a group in the reader, in parentheses
abbrev pub group_item : Form → ℕ → Reader → Item
group_item f w st = record { form = record { grouped = true; rank = f.rank }; next = st.place + 1; weight = st.weight - w; end = st.next }

module _ (s : List ℕ) (at : ℕ) (o : Reading Tree) (old : List ℕ) (d : ℕ) (out : List ℕ) where
  pub no_content : (i : code.Option Item) (m : level.Read) (w : ℕ) (st : Reader) → Gives i m w st → ((f : Form) → m ≡ Is f → ⊥)
      → ItemIs s (at + 1) (bared o) (Laid old d out) i
      → then (then o closed) raising ≡ none
  no_content i m w st g h y =
      nothing_raised (then o closed) (nothing_closed s at o (none_read s (at + 1) (bared o) (Laid old d out) i m w st g h y))

  pub unclosed : (w : ℕ) (st : Reader) (f : Form) → Came s (at + 1) (bared o) (Laid old d out) w st f → begins closes (drop st.place s) ≡ false
      → then (then o closed) raising ≡ none
  unclosed w st f k b =
      nothing_raised (then o closed)
      (not_closed s at o (ap (λ (y : ℕ). begins closes (drop y s)) (sym k.here) ∙ b) (bare_found s (at + 1) o (Laid old d out) k.item k.is))

  pub group_is : (w : ℕ) (st : Reader) (f : Form) → Came s (at + 1) (bared o) (Laid old d out) w st f → begins closes (drop st.place s) ≡ true
      → Found s at (then o closed) (Laid old d out) (group_item f w st)
  group_is w st f k b =
      let i = k.item in
      let g = k.weighs in
      let v-is : i.weight ≡ st.weight - w = omega (arith, g) in
      subst (λ (x : ℕ). Stands s at (then o closed) paper.grouped (Laid old d out st.next) x (st.place + 1) (st.weight - w))
      (ap (λ (y : Form). y.rank) k.formed)
      (subst (λ (x : ℕ). Stands s at (then o closed) paper.grouped (Laid old d out st.next) i.form.rank (x + 1) (st.weight - w)) (sym k.here)
      (subst (λ (x : ℕ). Stands s at (then o closed) paper.grouped (Laid old d out st.next) i.form.rank (i.next + 1) x) v-is
      (subst (λ (x : ℕ). Stands s at (then o closed) paper.grouped (Laid old d out x) i.form.rank (i.next + 1) i.weight) (sym k.next)
      (is_closed s at o (ap (λ (y : ℕ). begins closes (drop y s)) (sym k.here) ∙ b) (bare_found s (at + 1) o (Laid old d out) i k.is)))))

-- ---- the whole of it, nothing having been read before it
module _ (s : List ℕ) (at : ℕ) (o : Reading paper.Item) (old : List ℕ) (d : ℕ) (new : List ℕ) (st : Reader) (m : level.Read)
    (h : Read s at o old d new 0 st m) where
  pub read_nothing : ((f : Form) → m ≡ Is f → ⊥) → o ≡ none
  read_nothing l = none_read s at o (Laid old d new) h.item m 0 st h.given l h.is

  pub read_item : (f : Form) → m ≡ Is f
      → Found s at o (Laid old d new) (record { form = f; next = st.place; weight = st.weight; end = st.next })
  read_item f e =
      let k = came s at o (Laid old d new) h.item m 0 st f h.given h.is e in
      let g = k.weighs in
      let w-is : st.weight ≡ k.item.weight = omega (arith, g) in
      subst (λ (y : Form). Found s at o (Laid old d new) (record { form = y; next = st.place; weight = st.weight; end = st.next })) k.formed
      (subst (λ (x : ℕ). Found s at o (Laid old d new) (record { form = k.item.form; next = x; weight = st.weight; end = st.next })) (sym k.here)
      (subst (λ (x : ℕ). Found s at o (Laid old d new) (record { form = k.item.form; next = k.item.next; weight = x; end = st.next })) (sym w-is)
      (subst (λ (x : ℕ). Found s at o (Laid old d new) (record { form = k.item.form; next = k.item.next; weight = k.item.weight; end = x })) (sym k.next)
      k.is)))

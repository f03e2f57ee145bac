-- The reader's answer, case by case: refused by 14, 3 or 6, or the records of the text's tree at the front of the area; and what the verdict
-- on the text tells of its tree.
use Prim.Native.Nat.{ℕ, ◌+◌, ◌*◌, ◌<◌, ◌≤◌}
use mathlib.Core.Path.{◌≡◌, refl, ap, ◌∙◌}
use mathlib.Core.List.{List}
use mathlib.Core.Bool.{Bool, true, false, cond}
use mathlib.Core.Option.{Option, none, some}
use native.Mathlib.Omega.{arith}
use borrow.Author.Tests.{lt-ltb, le-ltb, ltb-true, ltb-false}
use lib.Dec.{ltb}
use lib.ListN.{length}
use Rattle.paper.specs.Limits.{is_limit}
use Rattle.paper.specs.Tree.{Tree, records, weight}
use Rattle.paper_text.specs.Text.{read_text}
use Rattle.paper.specs.Table.{encode}
use Rattle.paper.specs.Verdict.{is_accepted}
use Rattle.paper_text.specs.Answers.{Filled, Taken, taken, area_after, room_for, records_of, count_of, read_judged, read_verdict, read_answer, read_given}
use Rattle.paper.proofs.EncodeLaws.{encode_length}
use Rattle.stretch.specs.Put.{put}
use Rattle.std.specs.declared.result.Result.{Result}
use Rattle.std.specs.declared.result.Result.TheVariants.{Ok, Err}
use Rattle.parse.specs.declared.Unread.{Unread}
use Rattle.parse.specs.declared.Unread.TheVariants.{NotWritten, Heavy}
use Rattle.parse.specs.Parsed.{weighed}
use Rattle.text.proofs.WriteLaws.{front}

abbrev pub took : ℕ → ℕ → ℕ → List ℕ → Filled Taken
took k p n area = record { answer = record { number = k; place = p; records_written = n }; area = area }

pub no_limit : (lim : ℕ) (s area : List ℕ) → is_limit lim ≡ false → took 19 0 0 area ≡ read_given lim s area
unfolding read_given read_answer read_verdict taken area_after is_accepted
no_limit lim s area u = rw u

module _ (lim : ℕ) (known : is_limit lim ≡ true) (s area : List ℕ) where
  pub no_form : read_text s ≡ none → took 14 0 0 area ≡ read_given lim s area
  unfolding read_given read_answer read_verdict read_judged taken area_after is_accepted records_of count_of
  no_form e = rw (known, e)

  module _ (t : Tree) (e : read_text s ≡ some t) where
    pub heavy : lim < weight t → took 3 0 0 area ≡ read_given lim s area
    unfolding read_given read_answer read_verdict read_judged taken area_after is_accepted records_of count_of
    heavy l = rw (known, e, lt-ltb lim (weight t) l)

    pub no_records : weight t ≤ lim → length area < 16 * records t → took 6 0 0 area ≡ read_given lim s area
    unfolding read_given read_answer read_verdict read_judged taken area_after is_accepted room_for records_of count_of
    no_records l h =
        let n = encode_length t in
        rw (known, e, le-ltb lim (weight t) l, lt-ltb (length area) (length (encode t)) (omega (arith, h, n)))

    pub records_written : weight t ≤ lim → 16 * records t ≤ length area → (n : ℕ) (area' : List ℕ) → n ≡ records t
        → area' ≡ put area 0 (encode t) → took 0 0 n area' ≡ read_given lim s area
    unfolding read_given read_answer read_verdict read_judged taken area_after is_accepted room_for records_of count_of
    records_written l h n area' q w =
        let m = encode_length t in
        rw (known, e, le-ltb lim (weight t) l, le-ltb (length area) (length (encode t)) (omega (arith, h, m)), q, w ∙ front area (encode t))

-- ---- what the verdict tells
unfoldable code : Result ℕ Unread → ℕ
code (Err NotWritten) = 0
code (Err Heavy) = 1
code (Ok n) = 2 + n

pub is_none : (limit : ℕ) (o : Option Tree) → Err NotWritten ≡ weighed limit o → o ≡ none
unfolding code
is_none limit none e = refl
is_none limit (some t) e = absurd (go (ltb limit (weight t)) (ap code e))
  where
    go : (b : Bool) → 0 ≡ code (cond b (Err Heavy) (Ok (records t))) → ⊥
    go true z = omega (arith, z)
    go false z = omega (arith, z)

pub record Over (limit : ℕ) (o : Option Tree) : Type 0 where
  pub tree : Tree
  pub read : o ≡ some tree
  pub over : limit < weight tree

pub is_heavy : (limit : ℕ) (o : Option Tree) → Err Heavy ≡ weighed limit o → Over limit o
unfolding code
is_heavy limit none e = absurd (let z = ap code e in omega (arith, z))
is_heavy limit (some t) e = go (ltb limit (weight t)) refl (ap code e)
  where
    go : (b : Bool) → ltb limit (weight t) ≡ b → 1 ≡ code (cond b (Err Heavy) (Ok (records t))) → Over limit (some t)
    go true q z = record { tree = t; read = refl; over = ltb-true limit (weight t) q }
    go false q z = absurd (omega (arith, z))

pub record Light (limit n : ℕ) (o : Option Tree) : Type 0 where
  pub tree : Tree
  pub read : o ≡ some tree
  pub light : weight tree ≤ limit
  pub counted : n ≡ records tree

pub is_light : (limit n : ℕ) (o : Option Tree) → Ok n ≡ weighed limit o → Light limit n o
unfolding code
is_light limit n none e = absurd (let z = ap code e in omega (arith, z))
is_light limit n (some t) e = go (ltb limit (weight t)) refl (ap code e)
  where
    go : (b : Bool) → ltb limit (weight t) ≡ b → 2 + n ≡ code (cond b (Err Heavy) (Ok (records t))) → Light limit n (some t)
    go true q z = absurd (omega (arith, z))
    go false q z = record { tree = t; read = refl; light = ltb-false limit (weight t) q; counted = omega (arith, z) }

-- `note::pair_rest` meets its contract: the kinds of the two members tell which of them are left (RestingLaws).
use Rattle.std.proofs.Common.{◌≡◌, ℕ, ◌+◌, List, ◌∙◌, arith, rules}
use Rattle.paper.specs.Tree.{Forest, product, count, records}
use Rattle.note.specs.Note.{note}
use Rattle.note.specs.Noted.{Known}
use Rattle.note.proofs.ToldLaws.{noted_told, tree_within, record_within, kind_number_lem}
use Rattle.note.proofs.LightLaws.{FirstBy}
use Rattle.note.proofs.RestingLaws.{pair_start, pair_first, pair_second, both_integers_lem, second_alone, first_alone, neither_integer}
use Rattle.note.proofs.pair_rest.Statement.{statement}
use Rattle.note.proofs.pair_rest.Tie as tie

-- the first member, of a product that stands there
abbrev first_of : {s : List ℕ} {i n : ℕ} (p : (μ : ℕ) × (f : Forest) × Known s i 3 n (product μ f) × (count f ≡ 2))
    → FirstBy note s (i + 1) 2 (pair_start p.2 p.3).rest
first_of p = pair_first p.2 p.3

add_kind : tie.Need-overflow_add-i
add_kind c = let p = c.requires in omega (arith, tree_within (noted_told (first_of p).there))

kind_requires : tie.Need-kind-k-requires
kind_requires c κs = record_within (noted_told (first_of c.requires).there)

add_at : tie.Need-overflow_add-at
add_at c = let p = c.requires in omega (arith, tree_within (noted_told (first_of p).there))

add_size_at : tie.Need-overflow_add-i-2
add_size_at c = let p = c.requires in omega (arith, tree_within (noted_told (first_of p).there))

size_at_requires : tie.Need-size_at-requires
size_at_requires c κs =
    let f = first_of c.requires in
    (f.tree, f.there, c.kind-k.ensures ∙ kind_number_lem (noted_told f.there))

add_at_2 : tie.Need-overflow_add-at-2
add_at_2 c =
    let f = first_of c.requires in
    let z = c.size_at.ensures f.tree f.there (c.kind-k.ensures ∙ kind_number_lem (noted_told f.there)) in
    omega (arith, z, tree_within (noted_told f.there))

kind_requires_2 : tie.Need-kind-j-requires
kind_requires_2 c κs =
    let p = c.requires in
    let f = first_of p in
    let z = c.size_at.ensures f.tree f.there (c.kind-k.ensures ∙ kind_number_lem (noted_told f.there)) in
    record_within (noted_told (pair_second p.2 p.3 _ _ c.kind-k.ensures z).there)

-- where both kinds are known: the first member's size is, and so is where the second one stands
abbrev Read : Type 0
Read = tie.After-kind-j

abbrev start_of : Read → tie.Start
start_of c = c.before.before.before.before

module _ (c : Read) {μ : ℕ} {f : Forest} (q : Known (start_of c).args.s.now (start_of c).args.i 3 (start_of c).args.n (product μ f))
    (two : count f ≡ 2) where
  sized : c.size_at.result ≡ records (pair_first q two).tree
  sized = let u = pair_first q two in c.size_at.ensures u.tree u.there (c.kind-k.ensures ∙ kind_number_lem (noted_told u.there))

  abbrev second : FirstBy note (start_of c).args.s.now ((start_of c).args.i + 1 + c.size_at.result) 1 (pair_first q two).others
  second = pair_second q two _ _ c.kind-k.ensures sized

returns : tie.Need-returns-then-j-lt-SYMBOL
returns c = λ μ f q two.
    c.leaf_note.ensures
    ∙ both_integers_lem q two _ _ c.kind-k.ensures (sized c.before.before.before q two) _ c.kind-j.ensures c.if-k-lt-SYMBOL.true
    c.if-j-lt-SYMBOL.true

note_at_requires : tie.Need-note_at-requires
note_at_requires c κs =
    let p = (start_of c.before.before).requires in
    let u = second c.before.before p.2 p.3 in
    (u.tree, u.there)

returns_2 : tie.Need-returns-then-k-lt-SYMBOL
returns_2 c = λ μ f q two.
    second_alone q two _ _ c.kind-k.ensures (sized c.before.before.before q two) _ c.kind-j.ensures c.if-k-lt-SYMBOL.true c.if-j-lt-SYMBOL.false _
    c.note_at.ensures

add_note_at : tie.Need-overflow_add-i-then-j-lt-SYMBOL-2
add_note_at c =
    let p = (start_of c.before.before).requires in
    omega (arith, tree_within (noted_told (first_of p).there))

note_at_requires_2 : tie.Need-note_at-requires-then-j-lt-SYMBOL-2
note_at_requires_2 c κs =
    let u = first_of (start_of c.before.before).requires in
    (u.tree, u.there)

returns_3 : tie.Need-returns-then-j-lt-SYMBOL-2
returns_3 c = λ μ f q two.
    first_alone q two _ _ c.kind-k.ensures (sized c.before.before.before q two) _ c.kind-j.ensures c.if-k-lt-SYMBOL.false c.if-j-lt-SYMBOL-2.true _
    c.note_at-then-j-lt-SYMBOL-2.ensures

returns_4 : tie.Need-returns
returns_4 c = λ μ f q two.
    neither_integer q two _ _ c.kind-k.ensures (sized c.before.before q two) _ c.kind-j.ensures c.if-k-lt-SYMBOL.false c.if-j-lt-SYMBOL-2.false

pub pair_rest_spec : {M : Type 1} → statement M
pair_rest_spec =
    tie.close
    (tie.spec
    add_kind kind_requires add_at add_size_at size_at_requires add_at_2 kind_requires_2 (λ c κs. search rules) returns note_at_requires returns_2
    add_note_at note_at_requires_2 returns_3 returns_4)

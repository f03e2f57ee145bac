-- `note::rest_note` meets its contract, by the kind.
use Rattle.std.proofs.Common.{sym, ap, ◌∙◌, arith, rules}
use Rattle.paper.specs.Rules.{term_of}
use Rattle.note.specs.Part.{term_key}
use Rattle.note.proofs.RestingLaws.{integer_rest, other_rest, product_kind, known_product}
use Rattle.note.proofs.rest_note.Statement.{statement}
use Rattle.note.proofs.rest_note.Tie as tie

returns : tie.Need-returns-then-k-lt-SYMBOL
returns c = λ t h. let k = h.kind_known in c.leaf_note.ensures ∙ integer_rest t (omega arith)

returns_2 : tie.Need-returns-then-k-ne-PRODUCT
returns_2 c = λ t h. let k = h.kind_known in h.note_known ∙ other_rest t (omega arith) (λ e. c.if-k-ne-PRODUCT.true (k ∙ e))

product_rest_requires : tie.Need-product_rest-requires
product_rest_requires c κs =
    let some = c.requires in
    let p = product_kind some.0 (sym some.1.kind_known ∙ c.if-k-ne-PRODUCT.false) in
    (p.mark, p.members, known_product p some.1)

returns_3 : tie.Need-returns
returns_3 c = λ t h.
    let p = product_kind t (sym h.kind_known ∙ c.if-k-ne-PRODUCT.false) in
    c.product_rest.ensures p.mark p.members (known_product p h) ∙ ap (λ u. term_key (term_of u)) (sym p.whole)

pub rest_note_spec : {M : Type 1} → statement M
rest_note_spec = tie.close (tie.spec (λ c κs. search rules) returns returns_2 product_rest_requires returns_3)

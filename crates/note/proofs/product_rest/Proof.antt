-- `note::product_rest` meets its contract: of two members the pair's rest is found, of more the members'.
use Rattle.std.proofs.Common.{sym, ◌∙◌, rules}
use Rattle.note.specs.Noted.{count_of}
use Rattle.note.proofs.ToldLaws.{noted_told, record_within, count_number}
use Rattle.note.proofs.product_rest.Statement.{statement}
use Rattle.note.proofs.product_rest.Tie as tie

count_requires : tie.Need-count-requires
count_requires c κs = record_within (noted_told c.requires.2.there)

pair_rest_requires : tie.Need-pair_rest-requires
unfolding count_of
pair_rest_requires c κs =
    let some = c.requires in
    (some.0, some.1, some.2, sym (count_number (noted_told some.2.there)) ∙ sym c.count.ensures.0 ∙ c.if-count-eq-PAIR.true)

returns : tie.Need-returns-then-count-eq-PAIR
unfolding count_of
returns c = λ μ f q.
    c.pair_rest.ensures μ f q (sym (count_number (noted_told q.there)) ∙ sym c.count.ensures.0 ∙ c.if-count-eq-PAIR.true)

pub product_rest_spec : {M : Type 1} → statement M
product_rest_spec = tie.close (tie.spec count_requires pair_rest_requires returns (λ c κs. search rules) (λ c. search rules))

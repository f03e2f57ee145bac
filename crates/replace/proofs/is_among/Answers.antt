-- `replace::is_among` meets its contract: one of the symbols left passes the test.
use Rattle.std.proofs.Common.{◌≡◌, ℕ, List, ◌-◌, length, take, drop, eqb, ap, ◌∙◌, arith, length-drop}
use Rattle.std.specs.List.{list_any}
use Rattle.std.proofs.lemmas.List.{take_all}
use Rattle.replace.proofs.PartLaws.{among_left}
use Rattle.replace.proofs.is_among.Goals as goal

pub returns : goal.returns
returns c =
    let a = c.args in
    let rest = drop a.i a.symbols.now in
    let left = length a.symbols.now - a.i in
    let all : take left rest ≡ rest = take_all left rest (omega (arith, length-drop a.i a.symbols.now)) in
    c.contains.ensures.value ∙ ap (λ (l : List ℕ). list_any (λ (y : ℕ). eqb y a.x) l) all ∙ among_left a.x a.symbols.now a.i left (omega arith)

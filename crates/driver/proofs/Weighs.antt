-- What is pending weighs what its first tree, or its first trees, weigh, and what the rest weighs: a record's weight depends on its
-- own bytes alone.
use Prim.Native.Nat.{ℕ, zero, suc, ◌+◌, ◌*◌, ◌/◌}
use mathlib.Core.Path.{◌≡◌, refl, ap, ◌∙◌}
use mathlib.Core.List.{List, [], ◌∷◌, ◌++◌, append_assoc}
use native.Mathlib.Omega.{arith}
use lib.ListN.{length, get_or, length-append}
use lib.Seq.{get_or-append-add}
use Rattle.paper.specs.Tree.{Tree, of_list, records, weight}
use Rattle.paper.specs.Record.{kind, weight_from}
use Rattle.paper.specs.Verdict.{records_in, table_weight}
use Rattle.note.proofs.NotedLaws.{encode_by_length}
use Rattle.paper.proofs.TableLaws.{weight_both}
use Rattle.note.proofs.WeightLaws.{weight_by}
use Rattle.note.specs.Note.{note}
use Rattle.note.specs.Noted.{encode_by}
use Rattle.driver.specs.Driven.{with_notes, encode_all, weight_all}

kind_past : (p q : List ℕ) (m i : ℕ) → length p ≡ 16 * m → kind (p ++ q) (m + i) ≡ kind q i
unfolding kind
kind_past p q m i e =
    let a : (m + i) * 16 ≡ length p + i * 16 = omega arith in
    ap (λ (n : ℕ). get_or (p ++ q) n 0) a ∙ get_or-append-add p q (i * 16) 0

weight_past : (p q : List ℕ) (m i n : ℕ) → length p ≡ 16 * m → weight_from (p ++ q) (m + i) n ≡ weight_from q i n
unfolding weight_from
weight_past p q m i zero e = refl
weight_past p q m i (suc n) e =
    let a : m + i + 1 ≡ m + (i + 1) = omega arith in
    let b : weight_from (p ++ q) (m + (i + 1)) n ≡ weight_from q (i + 1) n = weight_past p q m (i + 1) n e in
    rw (kind_past p q m i e, a, b)

pub weighs_tree : (t : Tree) (rest : List ℕ) → table_weight (with_notes t ++ rest) ≡ weight t + table_weight rest
unfolding table_weight records_in
weighs_tree t rest =
    let s : List ℕ = with_notes t ++ rest in
    let l : length s ≡ 16 * records t + length rest = length-append (with_notes t) rest ∙ ap (λ n. n + length rest) (encode_by_length note t) in
    let n : length s / 16 ≡ records t + length rest / 16 = omega arith in
    let a : weight_from s 0 (records t) ≡ weight t = weight_by note t s 0 (record { after = rest; there = refl }) in
    let z : 0 + records t ≡ records t + 0 = omega arith in
    let b : weight_from s (0 + records t) (length rest / 16) ≡ weight_from rest 0 (length rest / 16)
    = ap (λ i. weight_from s i (length rest / 16)) z ∙ weight_past (with_notes t) rest (records t) 0 (length rest / 16) (encode_by_length note t) in
    ap (weight_from s 0) n ∙ weight_both s 0 (records t) (length rest / 16) ∙ omega arith

pub weighs_all : (l : List Tree) (rest : List ℕ) → table_weight (encode_all l ++ rest) ≡ weight_all l + table_weight rest
unfolding encode_by weight of_list
weighs_all [] rest = omega arith
weighs_all (t ∷ l) rest =
    ap table_weight (append_assoc (with_notes t) (encode_all l) rest) ∙ weighs_tree t (encode_all l ++ rest) ∙ omega (arith, weighs_all l rest)

-- Trees that stand one after the other. Their records, and what they weigh, are those of the forest of them, so the paper's laws of
-- forests hold of them; a node is its first record and its members; and bytes hold one tree, and one list of trees of a given length,
-- at the most, since no two trees stand at one record.
use Prim.Native.Nat.{ℕ, ◌+◌, ◌*◌, ◌^◌, ◌<◌, ◌≤◌}
use mathlib.Core.Path.{◌≡◌, refl, sym, ap, ◌∙◌, subst}
use mathlib.Core.List.{List, [], ◌∷◌, ◌++◌, append_assoc, append-nil}
use native.Mathlib.Omega.{arith}
use native.Mathlib.Nat.{mod-eq_of_lt}
use lib.ListN.{length, take, drop}
use lib.Seq.{length-take-le, drop_at}
use lib.IntN.{pos}
use Rattle.paper.specs.Limits.{modulus}
use Rattle.paper.specs.Bytes.{word}
use Rattle.paper.specs.Tree.{Tree, integer, symbol, sum, product, power, of_list, count, records, weight}
use Rattle.paper.specs.WellFormed.{WF}
use Rattle.paper.specs.Table.{record_of}
use Rattle.paper.specs.Driver.{members}
use Rattle.paper.proofs.EncodeLaws.{record_length, records_weight, count_records}
use Rattle.paper.proofs.WFLaws.{list_count, of_to_list}
use Rattle.paper.proofs.Value.{list_weights}
use Rattle.paper.proofs.Fuel.{members_lighter}
pub use Rattle.paper.proofs.Fuel.{records_first}
pub use Rattle.paper.proofs.EncodeLaws.{recordses_append}
use Rattle.note.specs.Note.{note}
use Rattle.note.specs.Noted.{encode_by, encodes_by}
use Rattle.note.specs.Told.{Told}
use Rattle.note.proofs.ToldLaws.{note_tells, one_tree}
use Rattle.driver.specs.Driven.{with_notes, encode_all, records_all, weight_all, first_record, Set}

-- ---- lists of trees
pub encode_both : (l m : List Tree) → encode_all (l ++ m) ≡ encode_all l ++ encode_all m
unfolding encode_by of_list
encode_both [] m = refl
encode_both (t ∷ l) m = ap (λ (x : List ℕ). with_notes t ++ x) (encode_both l m) ∙ sym (append_assoc (with_notes t) (encode_all l) (encode_all m))

pub weight_both : (l m : List Tree) → weight_all (l ++ m) ≡ weight_all l + weight_all m
unfolding weight of_list
weight_both [] m = omega arith
weight_both (t ∷ l) m = omega (arith, weight_both l m)

pub all_many : (l : List Tree) → length l ≤ records_all l
all_many l = omega (arith, count_records (of_list l), list_count l)

-- ---- a node: its first record, and its members
pub first_length : (t : Tree) → length (first_record t) ≡ 16
unfolding first_record
first_length (integer μ z) = record_length 0 0 μ (word z)
first_length (symbol μ s) = record_length 1 0 μ s
first_length (sum μ f) = record_length 2 (count f) μ (note (sum μ f))
first_length (product μ f) = record_length 3 (count f) μ (note (product μ f))
first_length (power μ b ξ e) = record_length 4 0 μ (note (power μ b ξ e))

pub exponent_record : (ξ e : ℕ) → e < 2 ^ 63 → with_notes (integer ξ (pos e)) ≡ record_of 0 0 ξ e
unfolding encode_by word
exponent_record ξ e h = ap (record_of 0 0 ξ) (mod-eq_of_lt {n = e} {m = modulus} (omega arith))

pub encode_first : (t : Tree) → WF t → with_notes t ≡ first_record t ++ encode_all (members t)
unfolding encode_by first_record members of_list
encode_first (integer μ z) w = sym (append-nil (record_of 0 0 μ (word z)))
encode_first (symbol μ s) w = sym (append-nil (record_of 1 0 μ s))
encode_first (sum μ f) w = ap (λ g. record_of 2 (count f) μ (note (sum μ f)) ++ encodes_by note g) (sym (of_to_list f))
encode_first (product μ f) w = ap (λ g. record_of 3 (count f) μ (note (product μ f)) ++ encodes_by note g) (sym (of_to_list f))
encode_first (power μ b ξ e) w =
    ap (λ (l : List ℕ). record_of 4 0 μ (note (power μ b ξ e)) ++ (with_notes b ++ l))
    (sym (exponent_record ξ e w.2) ∙ sym (append-nil (with_notes (integer ξ (pos e)))))

pub members_weigh : (t : Tree) → weight_all (members t) < weight t
members_weigh t = omega (arith, members_lighter t, list_weights (members t))

-- ---- where a tree is set up, the records done end within the area
pub front_long : {out work steps : List ℕ} {d p s : ℕ} {t : Tree} {rest : List ℕ} → Set out work steps d p s t rest
    → length (take (d * 16) out) ≡ d * 16
front_long {out = out} {d = d} h = length-take-le (d * 16) out (omega (arith, h.ready.out_room))

-- a light tree has few records
pub few_records : (t : Tree) → weight t < 65536 → records t < 65536
few_records t l = omega (arith, records_weight t)

-- ---- what stands there is determined
pub tree_once : (t u : Tree) (r q : List ℕ) → WF t → WF u → records t < 65536 → records u < 65536 → with_notes t ++ r ≡ with_notes u ++ q
    → (t ≡ u) × (r ≡ q)
tree_once t u r q v w h k e =
    let a : Told note (with_notes t ++ r) 0 t = record { tells = note_tells; wf = v; few = h; stands = record { after = r; there = refl } } in
    let b : Told note (with_notes t ++ r) 0 u = record { tells = note_tells; wf = w; few = k; stands = record { after = q; there = e } } in
    let same : t ≡ u = one_tree a b in
    let n : length (with_notes u) ≡ length (with_notes t) = ap (λ x. length (with_notes x)) (sym same) in (
      same,
      sym (drop_at (with_notes t) r (length (with_notes t)) refl) ∙ ap (drop (length (with_notes t))) e ∙ drop_at (with_notes u) q
          (length (with_notes t)) n,
    )

pub set_once : {out work steps : List ℕ} {d p s : ℕ} {t u : Tree} {r q : List ℕ}
    → Set out work steps d p s t r → Set out work steps d p s u q → (t ≡ u) × (r ≡ q)
set_once {t = t} {u = u} {r = r} {q = q} a b =
    tree_once t u r q a.ready.wf b.ready.wf (few_records t a.ready.light) (few_records u b.ready.light)
    (sym a.ready.stands ∙ b.ready.stands)

-- what holds of the tree that is set up, and of what is pending after it, holds of whichever are
pub for_every : {out work steps : List ℕ} {d p s : ℕ} {t : Tree} {rest : List ℕ} → Set out work steps d p s t rest
    → (Q : Tree → List ℕ → Type 0) → Q t rest → (u : Tree) (r : List ℕ) → Set out work steps d p s u r → Q u r
for_every {rest = rest} h Q q u r g =
    let e = set_once h g in
    subst (λ x. Q u x) e.1 (subst (λ x. Q x rest) e.0 q)

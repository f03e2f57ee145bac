-- Equal trees have equal keys and equal notes, and a note tells records, weight and key. What members add to a key is a total over
-- them, and taking a member out of a list lowers a total by its part, whatever the part is; so nothing is asked of `mix` and `strewn`.
use Rattle.std.proofs.Common.{◌≡◌, ℕ, ◌+◌, ◌*◌, ◌/◌, ◌%◌, ◌<◌, Bool, true, false, cond, ltb, List, [], ◌∷◌, ℤ, sym, refl, ap, ◌∙◌, mod-lt, arith, lit<}
use native.Mathlib.Nat.{mod-mod}
use Rattle.paper.specs.Limits.{modulus}
use Rattle.paper.specs.Bytes.{word}
use Rattle.paper.specs.Tree.{Tree, Forest, integer, symbol, sum, product, power, nil, cons, to_list, of_list, records, recordses, weight, weights}
use Rattle.paper.specs.Equal.{equal}
use Rattle.paper.proofs.Congruence.{Agree, agree_of, agree_sym, agree_trans, agree_mod}
use Rattle.paper.proofs.EncodeLaws.{records_weight}
use Rattle.paper.proofs.Value.{total}
use Rattle.paper.proofs.EqualView.{Same, Sames, s_integer, s_symbol, s_sum, s_product, s_power, s_nil, s_cons, taken_total}
use Rattle.paper.proofs.EqualView.{same_view, same_weight, same_records}
use Rattle.paper.specs.Standing.{kind_number}
use Rattle.note.specs.Note.{keys, stir, mix, strewn, leaf_key, share_of, exponent_share, node_key, key, shares, share}
use Rattle.note.specs.Note.{note_of, note, leaf_note, added, added_exponent}

-- what members add is a total over them
pub shares_list : (f : Forest) → total share (to_list f) ≡ shares f
unfolding shares total to_list share
shares_list nil = refl
shares_list (cons t f) = ap (λ n. share t + n) (shares_list f)

pub list_shares : (l : List Tree) → shares (of_list l) ≡ total share l
unfolding shares total of_list share
list_shares [] = refl
list_shares (t ∷ l) = ap (λ n. share t + n) (list_shares l)

pub same_kind : {t u : Tree} → Same t u → kind_number t ≡ kind_number u
unfolding kind_number
same_kind s_integer = refl
same_kind s_symbol = refl
same_kind (s_sum r) = refl
same_kind (s_product r) = refl
same_kind (s_power r) = refl

cons_shares : (t : Tree) (f : Forest) → shares (cons t f) ≡ share t + shares f
unfolding shares share
cons_shares t f = refl

power_key : (μ ξ ν ζ : ℕ) (a b : Tree) (e : ℕ) → share a ≡ share b → key (power μ a ξ e) ≡ key (power ν b ζ e)
unfolding key share
power_key μ ξ ν ζ a b e h = ap (λ n. node_key 4 (n + exponent_share e)) h

share_alike : (t u : Tree) → kind_number t ≡ kind_number u → key t ≡ key u → share t ≡ share u
unfolding share
share_alike t u k e = rw (k, e)

mutual
  unfolding key total

  pub same_key : {t u : Tree} → Same t u → key t ≡ key u
  same_key s_integer = refl
  same_key s_symbol = refl
  same_key (s_sum {g = g} r) = ap (node_key 2) (sames_shares r ∙ shares_list g)
  same_key (s_product {g = g} r) = ap (node_key 3) (sames_shares r ∙ shares_list g)
  same_key (s_power {μ} {ξ} {ν} {ζ} {a} {b} {e} r) = power_key μ ξ ν ζ a b e (share_alike a b (same_kind r) (same_key r))

  sames_shares : {f : Forest} {l : List Tree} → Sames f l → shares f ≡ total share l
  sames_shares s_nil = refl
  sames_shares (s_cons {t} {u} {f} r k s) =
      omega (arith, cons_shares t f, share_alike t u (same_kind r) (same_key r), taken_total share k, sames_shares s)

-- equal trees have equal keys
pub key_equal : (t u : Tree) → equal t u ≡ true → key t ≡ key u
key_equal t u e = same_key (same_view t u e)

-- and equal notes
pub same_note : {t u : Tree} → Same t u → note t ≡ note u
unfolding note
same_note r = rw (same_records r, same_weight r, same_key r)

pub note_equal : (t u : Tree) → equal t u ≡ true → note t ≡ note u
note_equal t u e = same_note (same_view t u e)

-- ---- what a note tells
stir_lt : (x c : ℕ) → stir x c < keys
unfolding stir
stir_lt x c = let y = (x * 0x9e3779b1 + c) % keys in mod-lt (y * y / 65536) {m = keys} (lit< tt)

strewn_lt : (v c : ℕ) → strewn v c < keys
unfolding strewn
strewn_lt v c = stir_lt ((stir (v % keys) c + v / keys) % keys) c

pub key_lt : (t : Tree) → key t < keys
unfolding key leaf_key node_key
key_lt (integer μ z) = strewn_lt _ _
key_lt (symbol μ s) = strewn_lt _ _
key_lt (sum μ f) = mod-lt (2 + shares f) {m = keys} (lit< tt)
key_lt (product μ f) = mod-lt (3 + shares f) {m = keys} (lit< tt)
key_lt (power μ b ξ e) = mod-lt (4 + (share_of (kind_number b) (key b) + exponent_share e)) {m = keys} (lit< tt)

-- a note is 64 bits
pub note_lt : (t : Tree) → note t < modulus
unfolding note
note_lt t = mod-lt (note_of (records t) (weight t) (key t)) {m = modulus} (lit< tt)

-- its lowest 16 bits are the number of records, whatever the weight
pub note_size : (t : Tree) → records t < 65536 → note t % 65536 ≡ records t
unfolding note note_of
note_size t r = omega (arith, r)

-- keys wrap around where notes do
pub wraps : (n w a b : ℕ) → a % keys ≡ b % keys → note_of n w a % modulus ≡ note_of n w b % modulus
unfolding note_of
wraps n w a b e = omega (arith, e)

-- the parts of a note, where the weight is under 2^16, and so the number of records
module _ (t : Tree) (w : weight t < 65536) where
  pub note_whole : note t ≡ note_of (records t) (weight t) (key t)
  unfolding note note_of
  note_whole = omega (arith, records_weight t, w, key_lt t)

  pub note_records : note t % 65536 ≡ records t
  note_records = note_size t (omega (arith, records_weight t))

  pub note_weight : note t / 65536 % 65536 ≡ weight t
  unfolding note_of
  note_weight = omega (arith, note_whole, records_weight t, w)

  pub note_key : note t / keys ≡ key t
  unfolding note_of
  note_key = omega (arith, note_whole, records_weight t, w)

  -- what a member adds, told by its kind and its note
  pub note_added : added (kind_number t) (note t) ≡ note_of (records t) (weight t) (share t)
  unfolding added share share_of note_of
  note_added = go (ltb (kind_number t) 2)
    where
      go : (b : Bool) → cond b (note t) (note t % keys + keys * mix (note t / keys) (kind_number t))
          ≡ records t + 65536 * (weight t + 65536 * cond b (key t) (mix (key t) (kind_number t)))
      go true = note_whole
      go false = rw note_key (omega (arith, note_whole, records_weight t, w))

-- a note tells the number of records and the weight
pub note_reads : (t : Tree) → records t < 65536 → weight t < 65536 → (note t % 65536 ≡ records t) × (note t / 65536 % 65536 ≡ weight t)
note_reads t r w = (note_size t r, note_weight t w)

-- a leaf's note, from its record
pub integer_note : (μ : ℕ) (z : ℤ) → note (integer μ z) ≡ leaf_note 0 (word z)
unfolding leaf_note key records weight
integer_note μ z = note_whole (integer μ z) (lit< tt)

pub symbol_note : (μ v : ℕ) → note (symbol μ v) ≡ leaf_note 1 v
unfolding leaf_note key records weight
symbol_note μ v = note_whole (symbol μ v) (lit< tt)

-- ---- a node's note adds up over its members, modulo 2^64: what a member adds, and what members add all together
abbrev pub adds : Tree → ℕ
adds t = note_of (records t) (weight t) (share t)

abbrev pub adds_all : Forest → ℕ
adds_all f = note_of (recordses f) (weights f) (shares f)

pub adds_cons : (t : Tree) (f : Forest) → adds_all (cons t f) ≡ adds t + adds_all f
unfolding records weight shares share note_of
adds_cons t f = omega arith

-- a node of kind k that has one record of its own
module _ (k : ℕ) (f : Forest) where
  node_adds : Agree modulus (note_of 1 1 k + adds_all f) (note_of (1 + recordses f) (1 + weights f) (node_key k (shares f)))
  unfolding node_key note_of
  node_adds =
      let e : note_of 1 1 k + adds_all f ≡ note_of (1 + recordses f) (1 + weights f) (k + shares f) = omega arith in
      agree_trans (agree_of e)
      (record { agree = wraps (1 + recordses f) (1 + weights f) (k + shares f) ((k + shares f) % keys) (sym (mod-mod (k + shares f) keys)) })

pub sum_adds : (μ : ℕ) (f : Forest) → Agree modulus (note_of 1 1 2 + adds_all f) (note (sum μ f))
unfolding note records weight key
sum_adds μ f = agree_trans (node_adds 2 f) (agree_sym (agree_mod (note_of (1 + recordses f) (1 + weights f) (node_key 2 (shares f)))))

pub product_adds : (μ : ℕ) (f : Forest) → Agree modulus (note_of 1 1 3 + adds_all f) (note (product μ f))
unfolding note records weight key
product_adds μ f = agree_trans (node_adds 3 f) (agree_sym (agree_mod (note_of (1 + recordses f) (1 + weights f) (node_key 3 (shares f)))))

pub power_adds : (μ : ℕ) (b : Tree) (ξ e : ℕ) → Agree modulus (note_of 1 1 4 + (adds b + added_exponent e)) (note (power μ b ξ e))
unfolding note records weight key added_exponent node_key note_of share
power_adds μ b ξ e =
    let n = 2 + records b in
    let w = 2 + weight b in
    let k = 4 + (share b + exponent_share e) in
    let q : note_of 1 1 4 + (adds b + added_exponent e) ≡ note_of n w k = omega arith in
    agree_trans (agree_of q)
    (agree_trans (record { agree = wraps n w k (k % keys) (sym (mod-mod k keys)) }) (agree_sym (agree_mod (note_of n w (k % keys)))))

-- A node's note from its members' notes, as code adds them up: what has been added and what the members still to come add make the node's
-- note, modulo 2^64 (SumLaws).
use Rattle.std.proofs.Common.{◌≡◌, ℕ, ◌+◌, ◌*◌, ◌%◌, ◌<◌, ◌≤◌, List, length, pos, sym, refl, ap, ◌∙◌, mod-eq_of_lt, arith}
use Rattle.paper.specs.Limits.{modulus}
use Rattle.paper.specs.Tree.{Tree, integer, symbol, sum, product, power, nil, cons, count, records, recordses, weight}
use Rattle.paper.specs.Record.{kind, count_in, bits}
use Rattle.paper.proofs.Congruence.{agree_refl, agree_of, agree_trans, agree_mod, agree_add}
use Rattle.paper.proofs.EncodeLaws.{records_weight}
use Rattle.paper.specs.Standing.{kind_number}
use Rattle.note.specs.Note.{keys, note_of, note, added, added_exponent}
use Rattle.note.specs.Noted.{count_of, inner, bits_by, TreeBy, Unnoted}
use Rattle.note.specs.Told.{Told, ToldTrees}
use Rattle.note.proofs.KeyLaws.{adds, note_lt, note_records, note_added, sum_adds, product_adds, power_adds}
use Rattle.note.proofs.NotedLaws.{Headed, own_kind, own_count, own_behind, exponent_word}
use Rattle.note.proofs.ToldLaws.{note_tells, noted_told, told_noted, record_within, kind_number_lem, bits_number, first_tree, other_trees}
use Rattle.note.proofs.SumLaws.{Summing, summing_end}

-- a node that is not noted itself: its record holds another number
pub headed : {s : List ℕ} {i : ℕ} {t : Tree} (q : Unnoted s i t) → Headed note s i t q.old
headed q = record { stands = q.stands }

-- ---- the members of the node t at record i added up to its note: from record `at` on `left` are to come, and acc is added
abbrev pub Adding : List ℕ → ℕ → Tree → ℕ → ℕ → ℕ → Type 0
Adding s i t at left acc = Summing note (note t) s (i + 1 + recordses (inner t)) at left acc

adding_members : {s : List ℕ} {i : ℕ} (t : Tree) (q : Unnoted s i t) → kind_number t ≤ 3
    → Adding s i t (i + 1) (count_of t) (note_of 1 1 (kind_number t))
unfolding kind_number count_of inner weight
adding_members (integer μ z) q l = absurd (omega (arith, q.node))
adding_members (symbol μ v) q l = absurd (omega (arith, q.node))
adding_members (sum μ f) q l =
    record {
      tells = note_tells;
      rest = f;
      there = record { counted = refl; wf = q.wf.1; light = omega (arith, q.light); stand = own_behind (headed q) };
      total = sum_adds μ f;
      place = refl;
    }
adding_members (product μ f) q l =
    record {
      tells = note_tells;
      rest = f;
      there = record { counted = refl; wf = q.wf.1; light = omega (arith, q.light); stand = own_behind (headed q) };
      total = product_adds μ f;
      place = refl;
    }
adding_members (power μ b ξ e) q l = absurd (omega arith)

pub adding_start : {s : List ℕ} {i : ℕ} {t : Tree} → Unnoted s i t → kind_number t ≤ 3 → (k n : ℕ) → k ≡ kind s i → n ≡ count_in s i
    → Adding s i t (i + 1) n (65537 + k * keys)
unfolding note_of
adding_start {s} {i} {t} q l k n e c =
    let x : n ≡ count_of t = c ∙ own_count (headed q) (omega (arith, q.light, records_weight t)) in
    let y : 65537 + k * keys ≡ note_of 1 1 (kind_number t) = omega (arith, e, own_kind (headed q)) in
    rw (x, y) (adding_members t q l)

-- none to come
pub adding_end : (i : ℕ) (t : Tree) {s : List ℕ} {at left acc : ℕ} → Adding s i t at left acc → left ≡ 0 → acc < modulus → acc ≡ note t
adding_end i t a l b = summing_end a l b ∙ mod-eq_of_lt (note_lt t)

-- ---- a power: its base and its exponent
pub record Raised (s : List ℕ) (i : ℕ) (t : Tree) : Type 0 where
  pub mark : ℕ
  pub base : Tree
  pub exponent_mark : ℕ
  pub exponent : ℕ
  pub whole : t ≡ power mark base exponent_mark exponent
  pub there : TreeBy note s (i + 1) base
  pub within : (i + 1 + records base) * 16 + 16 ≤ length s
  pub bits_there : bits s (i + 1 + records base) ≡ exponent

pub raised : {s : List ℕ} {i : ℕ} (t : Tree) → Unnoted s i t → 4 ≤ kind_number t → Raised s i t
unfolding kind_number inner weight records count bits_by
raised (integer μ z) q l = absurd (omega arith)
raised (symbol μ v) q l = absurd (omega arith)
raised (sum μ f) q l = absurd (omega arith)
raised (product μ f) q l = absurd (omega arith)
raised {s} {i} (power μ b ξ e) q l =
    let m : ToldTrees note s (i + 1) 2 (cons b (cons (integer ξ (pos e)) nil)) =
    record {
      tells = note_tells;
      counted = refl;
      wf = (q.wf.0, ((q.wf.2, q.wf.4), tt));
      few = omega (arith, q.light, records_weight b);
      stand = own_behind (headed q);
    } in
    let x : Told note s (i + 1 + records b) (integer ξ (pos e)) = first_tree (other_trees m) in
    record {
      mark = μ;
      base = b;
      exponent_mark = ξ;
      exponent = e;
      whole = refl;
      there = told_noted (first_tree m) (omega (arith, q.light));
      within = record_within x;
      bits_there = bits_number x ∙ exponent_word e q.wf.2;
    }

module _ {s : List ℕ} {i : ℕ} {t : Tree} (r : Raised s i t) (k n e : ℕ) (x : k ≡ kind s (i + 1)) (y : n ≡ note r.base) where
  pub raised_size : n % 65536 ≡ records r.base
  raised_size = ap (λ c. c % 65536) y ∙ note_records r.base r.there.light

  pub raised_note : (b p v : ℕ) → b ≡ added k n → e ≡ r.exponent → p ≡ added_exponent e
      → v ≡ ((17179934721 + b) % modulus + p) % modulus → v ≡ note t
  unfolding note_of
  raised_note b p v h g d c =
      let w : k ≡ kind_number r.base = x ∙ kind_number_lem (noted_told r.there) in
      let more : b ≡ adds r.base = h ∙ rw (w, y) (note_added r.base r.there.light) in
      let last : p ≡ added_exponent r.exponent = d ∙ ap added_exponent g in
      let whole : 17179934721 + b + p ≡ note_of 1 1 4 + (adds r.base + added_exponent r.exponent) = omega (arith, more, last) in
      c
      ∙ (agree_trans (agree_add (agree_mod (17179934721 + b)) (agree_refl {a = p}))
      (agree_trans (agree_of whole) (power_adds r.mark r.base r.exponent_mark r.exponent))).agree
      ∙ mod-eq_of_lt (note_lt (power r.mark r.base r.exponent_mark r.exponent))
      ∙ ap note (sym r.whole)

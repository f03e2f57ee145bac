-- A node that was written with 0 in place of its note, behind it its members, noted: it can be closed, and closing it makes its records
-- those of the noted node, wherever they stand. The note is put over eight bytes of the node's own record.
use Rattle.std.proofs.Common.{◌≡◌, ℕ, ◌+◌, ◌*◌, ◌<◌, ◌≤◌, List, ◌++◌, length, take, drop, sym, ap, ◌∙◌, append_assoc, arith, length-append}
use Rattle.std.proofs.Common.{take-append-drop, length-take-le, take_at, drop_at}
use Rattle.paper.specs.Bytes.{bytes}
use Rattle.paper.specs.Tree.{Tree, mark_of, records, weight}
use Rattle.paper.specs.WellFormed.{WF}
use Rattle.paper.specs.Standing.{Stands, kind_number}
use Rattle.stretch.specs.Put.{put}
use Rattle.stretch.proofs.Laws.{take_put, drop_put_at}
use Rattle.note.specs.Note.{note}
use Rattle.note.specs.Noted.{encode_by, encodes_by, count_of, inner, bits_by, Unnoted}
use Rattle.note.proofs.NotedLaws.{own, own_length, head_inner, encode_by_length, node_bits}
use Rattle.note.proofs.RelabelLaws.{put_number}

-- the records of a node, its own with its note first
closed : (t : Tree) → WF t → 2 ≤ kind_number t → encode_by note t ≡ own t (note t) ++ encodes_by note (inner t)
closed t w l = head_inner note t w ∙ ap (λ v. own t v ++ encodes_by note (inner t)) (node_bits note t l)

-- closed among other bytes, whatever number it holds
pub closed_among : (a b : List ℕ) (i old : ℕ) (t : Tree) → WF t → 2 ≤ kind_number t → length a ≡ i
    → put (a ++ (own t old ++ (encodes_by note (inner t) ++ b))) (i + 8) (bytes 8 (note t)) ≡ a ++ (encode_by note t ++ b)
closed_among a b i old t w k l =
    let x = encodes_by note (inner t) in
    put_number a (x ++ b) i (kind_number t) (count_of t) (mark_of t) old (note t) l
    ∙ ap (λ (z : List ℕ). a ++ z) (sym (append_assoc (own t (note t)) x b) ∙ ap (λ (z : List ℕ). z ++ b) (sym (closed t w k)))

-- the records of a node whose members are noted, with 0 in place of its note
abbrev pub unclosed : Tree → List ℕ
unclosed t = own t 0 ++ encodes_by note (inner t)

pub unclosed_length : (t : Tree) → WF t → length (unclosed t) ≡ 16 * records t
unclosed_length t w =
    length-append (own t 0) (encodes_by note (inner t)) ∙ ap (λ n. n + length (encodes_by note (inner t)))
    (own_length t 0 ∙ sym (own_length t (bits_by note t)))
    ∙ sym (length-append (own t (bits_by note t)) (encodes_by note (inner t))) ∙ ap length (sym (head_inner note t w)) ∙ encode_by_length note t

module _ (t : Tree) (w : WF t) (l : 2 ≤ kind_number t) where
  pub closable : {s : List ℕ} {i : ℕ} → weight t < 65536 → Stands s i (unclosed t) → Unnoted s i t
  closable light stands = record { wf = w; light = light; node = l; old = 0; stands = stands }

  -- where the node stands at the head of what is pending
  pub closed_pending : (d e rest : List ℕ) (a : ℕ) → a ≤ length d → drop a d ≡ unclosed t ++ rest → e ≡ put d (a + 8) (bytes 8 (note t))
      → (drop a e ≡ encode_by note t ++ rest) × (take a e ≡ take a d)
  closed_pending d e rest a r p q =
      let x = encodes_by note (inner t) in
      let y = take a d in
      let long : length y ≡ a = length-take-le a d r in
      let whole : d ≡ y ++ (own t 0 ++ (x ++ rest)) =
      sym (take-append-drop a d) ∙ ap (λ (z : List ℕ). y ++ z) (p ∙ append_assoc (own t 0) x rest) in
      let after : e ≡ y ++ (encode_by note t ++ rest) =
      q ∙ ap (λ (z : List ℕ). put z (a + 8) (bytes 8 (note t))) whole ∙ closed_among y rest a 0 t w l long in
      (ap (drop a) after ∙ drop_at y (encode_by note t ++ rest) a long, ap (take a) after ∙ take_at y (encode_by note t ++ rest) a long)

  -- where it was put
  pub closed_put : (d d' e : List ℕ) (a : ℕ) → a ≤ length d → d' ≡ put d a (unclosed t) → e ≡ put d' (a + 8) (bytes 8 (note t))
      → e ≡ put d a (encode_by note t)
  unfolding put
  closed_put d d' e a r p q =
      let n : length (unclosed t) ≡ length (encode_by note t) = unclosed_length t w ∙ sym (encode_by_length note t) in
      let rest = drop (a + length (unclosed t)) d in
      let long : a ≤ length d' = omega (arith, ap length p, length-append (take a d) (unclosed t ++ rest), length-take-le a d r) in
      let h = closed_pending d' e rest a long (ap (drop a) p ∙ drop_put_at d a (unclosed t) r) q in
      let front : take a e ≡ take a d = h.1 ∙ ap (take a) p ∙ take_put d a (unclosed t) a (omega arith) r in
      sym (take-append-drop a e) ∙ ap (λ (z : List ℕ). z ++ drop a e) front ∙ ap (λ (z : List ℕ). take a d ++ z) h.0
      ∙ ap (λ m. take a d ++ (encode_by note t ++ drop (a + m) d)) n

-- A node's result, built in `out` behind a free record and put back into the pending records. What was built stands behind the free
-- record; with the node's record written there, or none, the whole tree stands; and its copy stands before all that followed the
-- node. Each is read off what a put leaves.
use Prim.Native.Nat.{ℕ, ◌+◌, ◌-◌, ◌*◌, ◌<◌, ◌≤◌}
use mathlib.Core.Path.{◌≡◌, refl, sym, ap, ◌∙◌}
use mathlib.Core.Bool.{Bool}
use mathlib.Core.List.{List, [], ◌∷◌, ◌++◌, append_assoc}
use native.Mathlib.Omega.{arith}
use lib.ListN.{length, take, drop, length-append, take-append-drop}
use lib.Seq.{take_at, drop_at}
use Rattle.paper.specs.Tree.{Tree, records, recordses, of_list}
use Rattle.paper.specs.Bytes.{bytes}
use Rattle.paper.specs.Table.{record_of}
use Rattle.paper.proofs.EncodeLaws.{record_length}
use Rattle.note.proofs.NotedLaws.{encode_by_length, encodes_by_length}
use Rattle.note.specs.Note.{note}
use Rattle.note.specs.Noted.{encode_by, encodes_by, Unnoted}
use Rattle.note.proofs.CloseLaws.{unclosed, unclosed_length, closable, closed_pending}
use Rattle.stretch.specs.Put.{put, part}
use Rattle.stretch.proofs.Laws.{take_put, drop_put_at, length_put}
use Rattle.part.specs.Like.{node_kind, neutral, node_of}
use Rattle.rebuilt.specs.Written.{Light}
use Rattle.rules.specs.Tried.{Built, Collapsed, PutBack}
use Rattle.rules.proofs.Nodes.{of_none, of_one, of_more, more_node}

no_records : (l : List Tree) → length l < 1 → recordses (of_list l) ≡ 0
unfolding of_list records
no_records [] h = refl
no_records (t ∷ l) h = absurd (omega arith)

module _ (b : Bool) (μ : ℕ) (l : List Tree) (out : List ℕ) (d e : ℕ) (h : Built out d e l) where
  built_drop : drop ((d + 1) * 16) out ≡ encodes_by note (of_list l) ++ drop (e * 16) out
  built_drop =
      ap (drop ((d + 1) * 16)) (sym (take-append-drop (e * 16) out) ∙ ap (λ (x : List ℕ). x ++ drop (e * 16) out) h.built)
      ∙ ap (drop ((d + 1) * 16)) (append_assoc h.front (encodes_by note (of_list l)) (drop (e * 16) out))
      ∙ drop_at h.front (encodes_by note (of_list l) ++ drop (e * 16) out) ((d + 1) * 16) h.free

  room : (d + 1) * 16 ≤ length out
  room = omega (arith, h.end, h.within)

  module _ (out' : List ℕ) (k n v : ℕ) (w : out' ≡ put out (d * 16) (record_of k n μ v)) where
    written : drop (d * 16) out' ≡ record_of k n μ v ++ drop ((d + 1) * 16) out
    written =
        let r = record_length k n μ v in
        let at : d * 16 + length (record_of k n μ v) ≡ (d + 1) * 16 = omega arith in
        ap (drop (d * 16)) w ∙ drop_put_at out (d * 16) (record_of k n μ v) (omega (arith, room)) ∙ ap (λ m. record_of k n μ v ++ drop m out) at

    stays : take (d * 16) out' ≡ take (d * 16) out
    stays = ap (take (d * 16)) w ∙ take_put out (d * 16) (record_of k n μ v) (d * 16) (omega arith) (omega (arith, room))

  pub collapse_none : (out' : List ℕ) (v : ℕ) → length l < 1 → v ≡ neutral b → out' ≡ put out (d * 16) (record_of 0 0 μ v)
      → Collapsed b μ l out out' d e d
  collapse_none out' v c q w =
      let same : encode_by note (node_of b μ l) ≡ record_of 0 0 μ v = of_none b μ l c ∙ ap (record_of 0 0 μ) (sym q) in
      record {
        stands = record { after = drop ((d + 1) * 16) out; there = rw same (written out' 0 0 v w) };
        low = omega arith;
        end = omega (arith, h.end, no_records l c, encode_by_length note (node_of b μ l), ap length same, record_length 0 0 μ v);
        done = stays out' 0 0 v w;
      }

  pub collapse_one : 1 ≤ length l → length l < 2 → Collapsed b μ l out out d e (d + 1)
  collapse_one g c =
      let same = of_one b μ l g c in
      record {
        stands = record { after = drop (e * 16) out; there = rw same built_drop };
        low = omega arith;
        end = omega (arith, h.end, encode_by_length note (node_of b μ l), ap length same, encodes_by_length note (of_list l));
        done = refl;
      }

  -- two members or more: the node is closed
  module _ (more : 2 ≤ length l) (light : Light (node_of b μ l)) (out' : List ℕ) (k : ℕ) (q : k ≡ node_kind b)
      (w : out' ≡ put out (d * 16) (record_of k (length l) μ 0)) where
    node : unclosed (node_of b μ l) ≡ record_of k (length l) μ 0 ++ encodes_by note (of_list l)
    node = of_more b μ l more ∙ ap (λ k. record_of k (length l) μ 0 ++ encodes_by note (of_list l)) (sym q)

    node_there : drop (d * 16) out' ≡ unclosed (node_of b μ l) ++ drop (e * 16) out
    node_there =
        written out' k (length l) 0 w
        ∙ ap (λ (x : List ℕ). record_of k (length l) μ 0 ++ x) built_drop
        ∙ sym (append_assoc (record_of k (length l) μ 0) (encodes_by note (of_list l)) (drop (e * 16) out))
        ∙ ap (λ (x : List ℕ). x ++ drop (e * 16) out) (sym node)

    pub collapse_closable : Unnoted out' d (node_of b μ l)
    collapse_closable =
        closable (node_of b μ l) light.0 (more_node b μ l more) light.1 (record { after = drop (e * 16) out; there = node_there })

    pub collapse_more : (o : List ℕ) → ((t : Tree) → Unnoted out' d t → o ≡ put out' (d * 16 + 8) (bytes 8 (note t))) → Collapsed b μ l out o d e d
    collapse_more o told =
        let r = record_length k (length l) μ 0 in
        let long = length-append (record_of k (length l) μ 0) (encodes_by note (of_list l)) in
        let size = unclosed_length (node_of b μ l) light.0 in
        let wide = ap length w ∙ length_put out (d * 16) (record_of k (length l) μ 0) (omega (arith, room)) in
        let c =
        closed_pending (node_of b μ l) light.0 (more_node b μ l more) out' o (drop (e * 16) out) (d * 16) (omega (arith, room)) node_there
        (told (node_of b μ l) collapse_closable) in
        record {
          stands = record { after = drop (e * 16) out; there = c.0 };
          low = omega arith;
          end = omega (arith, h.end, ap length node, encodes_by_length note (of_list l));
          done = c.1 ∙ stays out' k (length l) 0 w;
        }

-- the copy of the result before what followed the node
pub put_back : (b : Bool) (μ : ℕ) (l : List Tree) (out out' work work' : List ℕ) (d e end r q : ℕ) → Collapsed b μ l out out' d e r
    → q ≡ end - (e - r) → e - r ≤ end → end * 16 ≤ length work → work' ≡ put work (q * 16) (part out' (r * 16) ((e - r) * 16))
    → PutBack b μ l (drop (end * 16) work) out out' work' d q
unfolding part
put_back b μ l out out' work work' d e end r q h at low high w =
    let x = encode_by note (node_of b μ l) in
    let size : length x ≡ (e - r) * 16 = encode_by_length note (node_of b μ l) ∙ omega (arith, h.end) in
    let taken : part out' (r * 16) ((e - r) * 16) ≡ x =
    ap (take ((e - r) * 16)) h.stands.there ∙ take_at x h.stands.after ((e - r) * 16) size in
    let place : q * 16 + length x ≡ end * 16 = omega arith in
    record {
      stands =
          ap (drop (q * 16)) (w ∙ ap (put work (q * 16)) taken)
          ∙ drop_put_at work (q * 16) x (omega arith)
          ∙ ap (λ m. x ++ drop m work) place;
      done = h.done;
    }

-- the node's mark and what followed it are known, and what was done before the members were built
pub put_follows : {b : Bool} {μ ν : ℕ} {l : List Tree} {x rest o o₀ o' w' : List ℕ} {d q : ℕ} → PutBack b μ l x o o' w' d q → μ ≡ ν → x ≡ rest
    → take (d * 16) o ≡ take (d * 16) o₀ → PutBack b ν l rest o₀ o' w' d q
put_follows {b} {μ} {ν} {l} {x} h m e k =
    record { stands = h.stands ∙ ap (λ n. encode_by note (node_of b n l) ++ x) m ∙ ap (λ y. encode_by note (node_of b ν l) ++ y) e; done = h.done ∙ k }

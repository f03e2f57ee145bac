-- Every accepted table holds a tree: its records are one tree's, each without a flaw and so the record of a tree with the members
-- that stand after it, which are found by induction. Hence a table is accepted exactly when its bytes are the records of a
-- well-formed tree that is not too heavy, and reading and writing are inverse on it.
use Prim.Native.Nat.{ℕ, zero, suc, ◌+◌, ◌*◌, ◌^◌, ◌<◌, ◌≤◌}
use mathlib.Core.Path.{◌≡◌, refl, sym, ap, ◌∙◌}
use mathlib.Core.Bool.{Bool, true, false}
use mathlib.Core.List.{List, [], ◌∷◌, ◌++◌, append-nil}
use mathlib.Core.Option.{some}
use mathlib.Core.Logic.{◌↔◌}
use native.Mathlib.Nat.{add-zero}
use native.Mathlib.Omega.{arith}
use borrow.Author.Tests.{lt-ltb}
use lib.Dec.{lit<}
use lib.ListN.{length, drop, length-append}
use Rattle.paper.specs.Limits.{is_limit}
use Rattle.paper.specs.Bytes.{Bytes, word, signed}
use Rattle.paper.specs.Tree.{Tree, Forest, integer, symbol, sum, product, power, nil, cons, count, records, recordses, weight}
use Rattle.paper.specs.Record.{kind, count_in, mark_in, bits, symbol_in, is_node, sound, flaw, arity}
use Rattle.paper.specs.Verdict.{accepted, records_in, table_weight, tree_end, is_positive, bad_exponent, verdict}
use Rattle.paper.specs.Refusals.{Spans, no_tree, one_tree}
use Rattle.paper.specs.WellFormed.{WF, WFs}
use Rattle.paper.specs.Table.{record_of, encode, encodes, tree_of}
use Rattle.paper.proofs.Congruence.{word_lt}
use Rattle.paper.proofs.EncodeLaws.{record_length, encode_length, records_pos, signed_in_range, word_signed, kind_there, bits_there, records_weight}
use Rattle.paper.proofs.ReadLaws.{tree_of_written}
use Rattle.paper.specs.Standing.{TreeIn}
use Rattle.paper.proofs.Stands.{Stands, stands_both, first_member, other_members, stands_whole, sum_record, product_record, power_record}
use Rattle.paper.proofs.SkipLaws.{end_step}
use Rattle.paper.proofs.SpanLaws.{spans_within, spans_skip, spans_end}
use Rattle.paper.proofs.FirstLaws.{All}
use Rattle.paper.proofs.RecordLaws.{positive_kind, bits_lt, mark_lt, symbol_lt, sound_kind, sound_count, sound_integer, sound_symbol, sound_sum}
use Rattle.paper.proofs.RecordLaws.{sound_product, sound_power}
use Rattle.paper.proofs.LimitLaws.{limit_small}
use Rattle.paper.proofs.VerdictLaws.{Fine, accepted_passes}
use Rattle.paper.proofs.TableLaws.{end_leaf, encode_end, encode_weight, written_accepted}

-- a well-formed tree stands from record i up to record e
pub record TreeAt (s : List ℕ) (i e : ℕ) : Type 0 where
  pub tree : Tree
  pub wf : WF tree
  pub size : i + records tree ≡ e
  pub stands : Stands s i (encode tree)

-- k well-formed trees stand one after the other from record i up to record e
pub record TreesAt (s : List ℕ) (i k e : ℕ) : Type 0 where
  pub trees : Forest
  pub wf : WFs trees
  pub counted : count trees ≡ k
  pub size : i + recordses trees ≡ e
  pub stands : Stands s i (encodes trees)

-- where no bad exponent belongs to a power, the record after its base is an integer record of at least 1
good_exponent : (s : List ℕ) (n i e : ℕ) → bad_exponent s n i ≡ n → kind s i ≡ 4 → tree_end s n (i + 1) ≡ e → e < n → is_positive s e ≡ true
unfolding bad_exponent
good_exponent s n i e h k q l = go (is_positive s e) refl
  where
    go : (b : Bool) → is_positive s e ≡ b → is_positive s e ≡ true
    go true p = p
    go false p =
        let x : e ≡ n = rw (k, q, p, lt-ltb e n l) at h in
        absurd (omega arith)

-- the tree of a record, kind by kind, from its members
integer_at : (s : List ℕ) (i e m v : ℕ) → m < 65536 → v < 2 ^ 64 → i + 1 ≡ e → Stands s i (record_of 0 0 m v) → TreeAt s i e
unfolding encode records
integer_at s i e m v k l q h = record {
  tree = integer m (signed v);
  wf = (signed_in_range v l, k);
  size = q;
  stands = rw (word_signed v l) h;
}

symbol_at : (s : List ℕ) (i e m v : ℕ) → m < 65536 → v < 256 → i + 1 ≡ e → Stands s i (record_of 1 0 m v) → TreeAt s i e
unfolding encode records
symbol_at s i e m v k l q h = record { tree = symbol m v; wf = (l, k); size = q; stands = h }

sum_at : (s : List ℕ) (i c e n : ℕ) → n < 65536 → 2 ≤ c → Stands s i (record_of 2 c n 0) → TreesAt s (i + 1) c e → TreeAt s i e
unfolding encode records
sum_at s i c e n k l h m = record {
  tree = sum n m.trees;
  wf = (rw m.counted l, m.wf, k);
  size = omega (arith, m.size);
  stands = rw m.counted (stands_both (record_of 2 c n 0) (encodes m.trees) 1 (record_length 2 c n 0) h m.stands);
}

product_at : (s : List ℕ) (i c e n : ℕ) → n < 65536 → 2 ≤ c → Stands s i (record_of 3 c n 0) → TreesAt s (i + 1) c e → TreeAt s i e
unfolding encode records
product_at s i c e n k l h m = record {
  tree = product n m.trees;
  wf = (rw m.counted l, m.wf, k);
  size = omega (arith, m.size);
  stands = rw m.counted (stands_both (record_of 3 c n 0) (encodes m.trees) 1 (record_length 3 c n 0) h m.stands);
}

-- a record of another kind than 0 is no integer record
only_integers : (s : List ℕ) (e k c m v : ℕ) → Stands s e (record_of k c m v) → 0 < k → is_positive s e ≡ true → ⊥
only_integers s e k c m v h l p = omega (arith, kind_there s e k c m v h.after h.there, (positive_kind s e p).0)

-- a power: its base, and the tree after it, which is an integer since its record has kind 0
raise : (s : List ℕ) (i e m : ℕ) (b x : Tree) → m < 65536 → WF x → Stands s i (record_of 4 0 m 0) → WF b → Stands s (i + 1) (encode b)
    → Stands s (i + 1 + records b) (encode x) → is_positive s (i + 1 + records b) ≡ true → i + 1 + (records b + records x) ≡ e → TreeAt s i e
unfolding encode records
raise s i e m b (integer μ z) k y h w base x p q =
    let j = i + 1 + records b in
    let k' = positive_kind s j p in
    let v : bits s j ≡ word z = bits_there s j 0 0 μ (word z) x.after x.there (word_lt z) in
    record {
      tree = power m b μ (word z);
      wf = (w, omega (arith, v, k'.1), omega (arith, v, k'.2), k, y.1);
      size = omega arith;
      stands =
          stands_both (record_of 4 0 m 0) (encode b ++ record_of 0 0 μ (word z)) 1 (record_length 4 0 m 0) h
          (stands_both (encode b) (record_of 0 0 μ (word z)) (records b) (encode_length b) base x);
    }
raise s i e m b (symbol μ v) k y h w base x p q = absurd (only_integers s (i + 1 + records b) 1 0 μ v x (lit< tt) p)
raise s i e m b (sum μ f) k y h w base x p q = absurd (only_integers s (i + 1 + records b) 2 (count f) μ 0 (sum_record μ f x) (lit< tt) p)
raise s i e m b (product μ f) k y h w base x p q = absurd (only_integers s (i + 1 + records b) 3 (count f) μ 0 (product_record μ f x) (lit< tt) p)
raise s i e m b (power μ c ξ v) k y h w base x p q = absurd (only_integers s (i + 1 + records b) 4 0 μ 0 (power_record μ c ξ v x) (lit< tt) p)

-- a tree and the trees after it
join_trees : (s : List ℕ) (i k e g : ℕ) → TreeAt s i e → TreesAt s e k g → TreesAt s i (suc k) g
unfolding encode records count
join_trees s i k e g t m = record {
  trees = cons t.tree m.trees;
  wf = (t.wf, m.wf);
  counted = ap suc m.counted;
  size = omega (arith, t.size, m.size);
  stands =
      stands_both (encode t.tree) (encodes m.trees) (records t.tree) (encode_length t.tree) t.stands
      (rw t.size m.stands);
}

-- the trees that stand in n records, all of them fine
module _ (s : List ℕ) (n : ℕ) (b : Bytes s) (l : n * 16 ≤ length s) (small : n < 65536) (fine : All (Fine s n) 0 n) where
  -- the tree of a power record, from its two members
  power_at : (i e : ℕ) → i < n → e ≤ n → kind s i ≡ 4 → (m : Forest) → WFs m → count m ≡ 2 → i + 1 + recordses m ≡ e
      → Stands s (i + 1) (encodes m) → TreeAt s i e
  unfolding count records
  power_at i e u v k nil w c q h = absurd (omega arith)
  power_at i e u v k (cons t nil) w c q h = absurd (omega arith)
  power_at i e u v k (cons t (cons x nil)) w c q h =
      let base = first_member t (cons x nil) h in
      let j : tree_end s n (i + 1) ≡ i + 1 + records t = encode_end t s n (i + 1) base (omega arith) (omega arith) in
      let p = good_exponent s n i (i + 1 + records t) (fine i (omega arith) u).1 k j (omega (arith, records_pos x)) in
      let r = sound_power s i b (omega arith) (fine i (omega arith) u).0 k in
      raise s i e (mark_in s i) t x (mark_lt s i b) w.1.0 r w.0 base (first_member x nil (other_members t (cons x nil) h)) p (omega arith)
  power_at i e u v k (cons t (cons x (cons y f))) w c q h = absurd (omega arith)

  -- the tree at record i, from its members
  tree_at : (i e : ℕ) → i < n → tree_end s n i ≡ e → e ≤ n → TreesAt s (i + 1) (arity s i) e → TreeAt s i e
  unfolding arity is_node
  tree_at i e u q v m = go (kind s i) refl (sound_kind s i sound_here)
    where
      sound_here : flaw s i ≡ sound
      sound_here = (fine i (omega arith) u).0

      room : (i + 1) * 16 ≤ length s
      room = omega arith

      go : (k : ℕ) → kind s i ≡ k → k ≤ 4 → TreeAt s i e
      go zero k c =
          let h = sound_integer s i b room sound_here k in
          integer_at s i e (mark_in s i) (bits s i) (mark_lt s i b) (bits_lt s i b) (sym (end_leaf s n i 0 (mark_in s i) (bits s i) (lit< tt) u h) ∙ q) h
      go (suc zero) k c =
          let h = sound_symbol s i b room sound_here k in
          symbol_at s i e (mark_in s i) (symbol_in s i) (mark_lt s i b) (symbol_lt s i b)
          (sym (end_leaf s n i 1 (mark_in s i) (symbol_in s i) (lit< tt) u h) ∙ q) h
      go (suc (suc zero)) k c =
          let a : arity s i ≡ count_in s i = rw k in
          sum_at s i (count_in s i) e (mark_in s i) (mark_lt s i b) (sound_count s i sound_here (rw k)) (sound_sum s i b room sound_here k) (rw a at m)
      go (suc (suc (suc zero))) k c =
          let a : arity s i ≡ count_in s i = rw k in
          product_at s i (count_in s i) e (mark_in s i) (mark_lt s i b) (sound_count s i sound_here (rw k)) (sound_product s i b room sound_here k) (rw a at m)
      go (suc (suc (suc (suc zero)))) k c =
          let a : arity s i ≡ 2 = rw k in
          power_at i e u v k m.trees m.wf (m.counted ∙ a) m.size m.stands
      go (suc (suc (suc (suc (suc k))))) r c = absurd (omega arith)

  no_trees : (i : ℕ) → TreesAt s i 0 i
  unfolding encode records count
  no_trees i = record {
    trees = nil;
    wf = tt;
    counted = refl;
    size = add-zero i;
    stands = record { after = drop (i * 16) s; there = refl };
  }

  -- records that are k trees one after the other hold k trees
  trees_at : {i k e : ℕ} → Spans s n i k e → i ≤ n → TreesAt s i k e
  trees_at (no_tree {i = i}) u = no_trees i
  trees_at (one_tree {i = i} {k = k} {m = m} {e = e} h x y) u =
      let r : m ≤ n = (spans_within s n x (omega arith)).1 in
      join_trees s i k m e (tree_at i m h (end_step s n i h ∙ spans_skip s n x) r (trees_at x (omega arith))) (trees_at y r)

  -- and one tree holds a tree
  one_tree_at : {i e : ℕ} → Spans s n i 1 e → TreeAt s i e
  one_tree_at (one_tree {i = i} {m = m} h x no_tree) =
      tree_at i m h (end_step s n i h ∙ spans_skip s n x) (spans_within s n x (omega arith)).1 (trees_at x (omega arith))

-- a table that holds a tree
pub record Holds (lim : ℕ) (s : List ℕ) : Type 0 where
  pub known : is_limit lim ≡ true
  pub tree : Tree
  pub wf : WF tree
  pub light : weight tree ≤ lim
  pub written : s ≡ encode tree
  pub read : tree_of s ≡ some tree
  pub weighs : table_weight s ≡ weight tree

-- where the whole is no longer than its first part, it is that part
nothing_left : (p q : List ℕ) → length (p ++ q) ≤ length p → p ++ q ≡ p
nothing_left p [] h = append-nil p
nothing_left p (x ∷ q) h = absurd (omega (arith, length-append p (x ∷ q)))

-- a tree that stands in all the records of a table is the whole table
all_written : (s : List ℕ) (n : ℕ) → length s ≡ 16 * n → (t : TreeAt s 0 n) → s ≡ encode t.tree
all_written s n l t = k.there ∙ nothing_left (encode t.tree) k.after (omega (arith, ap length k.there, encode_length t.tree, t.size))
  where
    k : Stands s 0 (encode t.tree)
    k = t.stands

holds : (lim : ℕ) → is_limit lim ≡ true → (s : List ℕ) (t : Tree) → WF t → s ≡ encode t → table_weight s ≤ lim → Holds lim s
holds lim known s t w e l =
    let weighs : table_weight s ≡ weight t = ap table_weight e ∙ encode_weight t in
    let light : weight t ≤ lim = omega arith in
    record {
      known = known;
      tree = t;
      wf = w;
      light = light;
      written = e;
      read = ap tree_of e ∙ tree_of_written t w (omega (arith, limit_small lim known));
      weighs = weighs;
    }

records_hold : (lim : ℕ) → is_limit lim ≡ true → (s : List ℕ) (n : ℕ) → Bytes s → length s ≡ 16 * n → n < 65536 → All (Fine s n) 0 n → tree_end s n 0 ≡ n
    → table_weight s ≤ lim → Holds lim s
records_hold lim known s n b q l f e w =
    let t : TreeAt s 0 n = one_tree_at s n b (omega arith) l f ((spans_end s n 0 n (omega arith)).1 (e, omega arith)) in
    holds lim known s t.tree t.wf (all_written s n q t) w

-- every accepted table holds a tree, well-formed and not too heavy, which is read from it and whose records it is
pub accepted_holds : (lim : ℕ) (s : List ℕ) → Bytes s → verdict lim s ≡ accepted → Holds lim s
unfolding records_in
accepted_holds lim s b h =
    let p = accepted_passes lim s h in
    let l = p.long in
    records_hold lim p.known s (records_in s) b (omega (arith, l.sixteens)) (omega (arith, l.short, limit_small lim p.known))
    p.fine p.ends p.light

-- "fine" exactly when the bytes are the records of a well-formed tree that weighs at most the limit
pub fine_exactly : (lim : ℕ) → is_limit lim ≡ true → (s : List ℕ) → Bytes s
    → (verdict lim s ≡ accepted) ↔ ((t : Tree) × WF t × (weight t ≤ lim) × (s ≡ encode t))
fine_exactly lim known s b = (
  λ h. let k = accepted_holds lim s b h in (k.tree, k.wf, k.light, k.written),
  λ k. ap (verdict lim) k.3 ∙ written_accepted lim known k.0 k.1 k.2,
)

-- "reading, then writing": the records of the tree that an accepted table is read as are the table
pub written_read : (lim : ℕ) (s : List ℕ) → Bytes s → verdict lim s ≡ accepted → (t : Tree) → tree_of s ≡ some t → encode t ≡ s
written_read lim s b h t r =
    let k = accepted_holds lim s b h in
    let q : tree_of s ≡ some k.tree = k.read in
    let e : t ≡ k.tree = cc in
    ap encode e ∙ sym k.written

-- the tree that an accepted table holds stands in it
pub holds_tree : (lim : ℕ) (s : List ℕ) (h : Holds lim s) → TreeIn s 0 h.tree
holds_tree lim s h =
    record { wf = h.wf; few = omega (arith, h.light, limit_small lim h.known, records_weight h.tree); stands = rw h.written (stands_whole _) }

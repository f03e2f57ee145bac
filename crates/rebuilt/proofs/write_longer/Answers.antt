-- The answer is the product's first record with one member more, the product's other records as they stand in the table, and the record of
-- n: one record more than the product has, and the contract asks for room for those. Each is put where the one before it ends, so the three
-- puts are one put of the longer product, which is then closed. One product stands at the record, so that any other is the one that the
-- contract asks for.
use Rattle.std.proofs.Common.{◌≡◌, ℕ, ◌+◌, ◌-◌, ◌*◌, ◌^◌, ◌<◌, ◌≤◌, List, length, refl, subst, arith}
use Rattle.paper.specs.Record.{count_in}
use Rattle.paper.specs.Tree.{Forest, product}
use Rattle.paper.specs.Table.{record_of}
use Rattle.note.specs.Note.{note}
use Rattle.note.specs.Noted.{encodes_by}
use Rattle.note.proofs.NotedLaws.{encodes_by_length}
use Rattle.note.proofs.ToldLaws.{one_product}
use Rattle.note.proofs.CloseLaws.{unclosed}
use Rattle.stretch.specs.Put.{put, part}
use Rattle.part.specs.Part.{Sized}
use Rattle.rebuilt.specs.Written.{Light, lengthened}
use Rattle.rebuilt.proofs.Closing.{put_closable, put_closed, product_node}
use Rattle.rebuilt.proofs.Encoded.{copied}
use Rattle.rebuilt.proofs.WriteLaws.{product_at, longer_written}
use Rattle.rebuilt.proofs.write_longer.Goals as goal

-- first record, members and last record are put for any product of k records that stands at the record
puts : (out : List ℕ) (m mark : ℕ) {s d₁ d₂ d₃ : List ℕ} {i k n count μ : ℕ} {f : Forest} → Sized s i k (product μ f) → n < 2 ^ 64
    → (m + (k + 1)) * 16 ≤ length out
    → count ≡ count_in s i → d₁ ≡ put out (m * 16) (record_of 3 (count + 1) mark 0)
    → d₂ ≡ put d₁ ((m + 1) * 16) (part s ((i + 1) * 16) ((k - 1) * 16)) → d₃ ≡ put d₂ ((m + k) * 16) (record_of 0 0 mark n)
    → d₃ ≡ put out (m * 16) (unclosed (lengthened mark n f))
puts out m mark {s} {d₁} {i = i} {k} {n} {f = f} h fits room e p q w =
    let there = product_at s i k f h in
    let size : length (encodes_by note f) ≡ (k - 1) * 16 = omega (arith, encodes_by_length note f, there.size) in
    longer_written out _ _ _ m n fits mark f _ k _ (omega (arith, e, there.counted)) there.size refl room p
    (copied d₁ _ s ((m + 1) * 16) (i + 1) ((k - 1) * 16) (encodes_by note f) there.stand size q) w

pub count-requires : goal.count-requires
count-requires c = let q = c.requires.0 in omega (arith, product_at c.args.s.now c.args.i c.args.k q.1 q.2)

pub overflow_add-i : goal.overflow_add-i
overflow_add-i c = let q = c.requires.0 in record { fits = omega (arith, product_at c.args.s.now c.args.i c.args.k q.1 q.2) }

pub overflow_mul-i : goal.overflow_mul-i
overflow_mul-i c = let q = c.requires.0 in record { fits = omega (arith, product_at c.args.s.now c.args.i c.args.k q.1 q.2) }

pub overflow_sub-k : goal.overflow_sub-k
overflow_sub-k c = let q = c.requires.0 in omega (arith, product_at c.args.s.now c.args.i c.args.k q.1 q.2)

pub copy_bytes-requires : goal.copy_bytes-requires
copy_bytes-requires c =
    let q = c.requires.0 in
    let there = product_at c.args.s.now c.args.i c.args.k q.1 q.2 in
    (omega (arith, there, c.requires.1, c.write_record.auto.d), omega (arith, there, c.requires.1, c.write_record.auto.d))

pub write_record-requires-2 : goal.write_record-requires-2
write_record-requires-2 c =
    let q = c.requires.0 in
    omega (arith, product_at c.args.s.now c.args.i c.args.k q.1 q.2, c.requires.1, c.write_record.auto.d, c.copy_bytes.auto.dst)

pub close-requires : goal.close-requires
close-requires c =
    let q = c.requires.0 in (
      _,
      put_closable _ q.3 (product_node _ _) _ _ _ (omega (arith, c.requires.1))
          (puts c.args.out.now c.args.m c.args.mark q.2 c.ranges.n.fits c.requires.1
          c.count.ensures.0 c.write_record.ensures c.copy_bytes.ensures c.write_record-2.ensures),
    )

pub returns : goal.returns
returns c = λ μ f h.
    let g = c.args in
    let q = c.requires.0 in
    put_closed _ (subst (λ r. Light (lengthened g.mark g.n r)) (one_product q.2.there h.there) q.3) (product_node _ _) _ _ _
    (omega (arith, c.requires.1))
    (puts g.out.now g.m g.mark h c.ranges.n.fits c.requires.1 c.count.ensures.0 c.write_record.ensures c.copy_bytes.ensures c.write_record-2.ensures) _
    c.close.ensures

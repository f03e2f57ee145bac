-- Small sites with what the call returns and leaves, as one table: each row is one that a wrong reading of the request would get wrong.
-- proofs/Computed proves the whole table by one statement. Every lent byte is 165 before a call.
use Rattle.std.specs.Prelude.{ℕ, ◌+◌, ◌-◌, ◌*◌, ◌^◌, List, [], ◌∷◌, ◌++◌, get_or, replicate, pos}
use Rattle.paper.specs.Tree.{Tree, integer, symbol, sum, product, power, nil, cons}
use Rattle.paper.specs.Table.{encode}
use Rattle.paper.specs.Calls.{eights}
use Rattle.paper_batch.specs.Batch.{SiteCall, site_called}

-- what is handed in: the limit, the edition, the tables, the list of lengths, and how many bytes are lent
pub record Handed : Type 0 where
  pub limit : ℕ
  pub edition : ℕ
  pub tables : List ℕ
  pub lengths : List ℕ
  pub out_bytes : ℕ
  pub steps_bytes : ℕ
  pub work_bytes : ℕ
  pub answer_bytes : ℕ

-- and what comes of it: the return, the answers, the areas, of `work` the first byte
pub record Example : Type 0 where
  pub handed : Handed
  pub returns : ℕ
  pub answers : List ℕ
  pub out : List ℕ
  pub steps : List ℕ
  pub work_byte : ℕ

abbrev hands : ℕ → ℕ → List ℕ → List ℕ → ℕ → ℕ → ℕ → ℕ → Handed
hands lim ed s lengths o n w a =
    record { limit = lim; edition = ed; tables = s; lengths = lengths; out_bytes = o; steps_bytes = n; work_bytes = w; answer_bytes = a }

abbrev gives : Handed → ℕ → List ℕ → List ℕ → List ℕ → ℕ → Example
gives h k a o n w = record { handed = h; returns = k; answers = a; out = o; steps = n; work_byte = w }

-- ---- trees and tables: a + a, of weight 7; a + a + b, of weight 10; (2^63 - 1) + 1, of weight 3, which is refused by 7; a^0, refused by 5 at 2; a^1
abbrev a : Tree
a = symbol 0 0

abbrev a+a : List ℕ
a+a = encode (sum 0 (cons a (cons a nil)))

abbrev a+a+b : List ℕ
a+a+b = encode (sum 0 (cons a (cons a (cons (symbol 0 1) nil))))

abbrev too_large : List ℕ
too_large = encode (sum 0 (cons (integer 0 (pos (2 ^ 63 - 1))) (cons (integer 0 (pos 1)) nil)))

abbrev a^0 : List ℕ
a^0 = encode (power 0 a 0 0)

abbrev a^1 : List ℕ
a^1 = encode (power 0 a 0 1)

-- a record of kind 9
abbrev kind9 : List ℕ
kind9 = 9 ∷ replicate 15 0

-- ---- answers: a + a, whose result is 2 * a, and after it zeros up to 16 x 7 bytes; a refusal; n bytes as they were
abbrev done_a+a : List ℕ
done_a+a = eights (0 ∷ 0 ∷ 3 ∷ 1 ∷ 0 ∷ 7 ∷ 5 ∷ 0 ∷ 0 ∷ 4 ∷ [])

abbrev out_a+a : List ℕ
out_a+a = encode (product 0 (cons (integer 0 (pos 2)) (cons a nil))) ++ replicate 64 0

abbrev steps_a+a : List ℕ
steps_a+a = 2 ∷ replicate 6 0

abbrev refuses : ℕ → ℕ → List ℕ
refuses k p = eights (k ∷ p ∷ 0 ∷ 0 ∷ 0 ∷ 0 ∷ 0 ∷ 0 ∷ 0 ∷ 0 ∷ [])

abbrev kept : ℕ → List ℕ
kept n = replicate n 165

abbrev cleared : ℕ
cleared = 0

abbrev same : ℕ
same = 165

-- the call is refused with k, and nothing is changed
abbrev refused : ℕ → ℕ → ℕ → List ℕ → List ℕ → ℕ → Example
refused k lim ed s lengths places = gives (hands lim ed s lengths 112 7 65536 places) k (kept places) (kept 112) (kept 7) same

-- ---- the items
unfoldable pub sites : List Example
sites =
    -- one item, with a byte of each more than its room, which stays
    gives (hands 3072 1 a+a (eights (48 ∷ [])) 113 8 65537 81) 0 (done_a+a ++ kept 1) (out_a+a ++ kept 1) (steps_a+a ++ kept 1) cleared
    -- no item: nothing is changed, `work` neither
    ∷ gives (hands 3072 1 [] [] 3 2 65536 1) 0 (kept 1) (kept 3) (kept 2) same
    -- an item with 7 uses up 16 x W and W bytes, which are zeros; the next one's result is behind them
    ∷ gives (hands 3072 1 (too_large ++ a+a) (eights (48 ∷ 48 ∷ [])) 160 10 65536 160) 0 (refuses 7 0 ++ done_a+a) (replicate 48 0 ++ out_a+a)
    (replicate 3 0 ++ steps_a+a) cleared
    -- an item with 6 uses up none, and a lighter one behind it has the room
    ∷ gives (hands 3072 1 (a+a+b ++ a+a) (eights (64 ∷ 48 ∷ [])) 112 7 65536 160) 0 (refuses 6 0 ++ done_a+a) out_a+a steps_a+a cleared
    -- what one item uses up is missing for the next
    ∷ gives (hands 3072 1 (a+a ++ a+a) (eights (48 ∷ 48 ∷ [])) 223 14 65536 160) 0 (done_a+a ++ refuses 6 0) (out_a+a ++ kept 111) (steps_a+a ++ kept 7) cleared
    ∷ gives (hands 3072 1 (a+a ++ a+a) (eights (48 ∷ 48 ∷ [])) 224 13 65536 160) 0 (done_a+a ++ refuses 6 0) (out_a+a ++ kept 112) (steps_a+a ++ kept 6) cleared
    -- items that 1, 5 and 2 refuse use up none, the last with what is wrong; all refused, `work` stays
    ∷ gives (hands 3072 1 (a^0 ++ (kind9 ++ a+a)) (eights (0 ∷ 48 ∷ 16 ∷ 48 ∷ [])) 112 7 65536 320) 0
    (refuses 1 0 ++ (refuses 5 2 ++ (eights (2 ∷ 0 ∷ 0 ∷ 0 ∷ 0 ∷ 0 ∷ 0 ∷ 1 ∷ 0 ∷ 0 ∷ []) ++ done_a+a))) out_a+a steps_a+a cleared
    ∷ gives (hands 3072 1 a^0 (eights (48 ∷ 0 ∷ [])) 112 7 65536 160) 0 (refuses 5 2 ++ refuses 1 0) (kept 112) (kept 7) same
    -- the borders come from the lengths alone
    ∷ gives (hands 3072 1 (a+a ++ a+a) (eights (32 ∷ 64 ∷ [])) 224 14 65536 160) 0 (refuses 4 2 ++ refuses 4 1) (kept 224) (kept 14) same
    -- `work` is lent whole to each, and one byte too few of it is too few for each; edition one leaves a^1
    ∷ gives (hands 3072 1 (a+a ++ a^1) (eights (48 ∷ 48 ∷ [])) 192 12 65536 160) 0 (done_a+a ++ eights (0 ∷ 0 ∷ 3 ∷ 0 ∷ 0 ∷ 5 ∷ 5 ∷ 0 ∷ 0 ∷ 3 ∷ []))
    (out_a+a ++ (a^1 ++ replicate 32 0)) (steps_a+a ++ replicate 5 0) cleared
    ∷ gives (hands 3072 1 (a+a ++ a^0) (eights (48 ∷ 48 ∷ [])) 224 14 65535 160) 0 (refuses 6 0 ++ refuses 5 2) (kept 224) (kept 14) same
    -- 65,536 bytes of `work` are too few at the limit 16,384
    ∷ gives (hands 16384 1 (a+a ++ a^0) (eights (48 ∷ 48 ∷ [])) 224 14 65536 160) 0 (refuses 6 0 ++ refuses 5 2) (kept 224) (kept 14) same
    -- edition two makes a of a^1
    ∷ gives (hands 3072 2 a^1 (eights (48 ∷ [])) 80 5 65536 80) 0 (eights (0 ∷ 0 ∷ 1 ∷ 1 ∷ 0 ∷ 5 ∷ 3 ∷ 0 ∷ 0 ∷ 2 ∷ [])) (encode a ++ replicate 64 0)
    (7 ∷ replicate 4 0) cleared
    ∷ []

-- ---- the call as a whole
unfoldable pub refusals : List Example
refusals =
    -- the lengths add up to a byte fewer, to a byte more, to nothing, and, wrapping round, to the bytes given
    refused 8 3072 1 a+a (eights (47 ∷ [])) 80
    ∷ refused 8 3072 1 a+a (eights (49 ∷ [])) 80
    ∷ refused 8 3072 1 a+a [] 80
    ∷ refused 8 3072 1 [] (eights ((2 ^ 63) ∷ (2 ^ 63) ∷ [])) 160
    ∷ refused 8 3072 1 a+a (eights ((2 ^ 63 + 48) ∷ (2 ^ 63) ∷ [])) 160
    -- a place too few, by a byte
    ∷ refused 8 3072 1 a+a (eights (48 ∷ [])) 79
    ∷ refused 8 3072 1 (a+a ++ a+a) (eights (48 ∷ 48 ∷ [])) 159
    -- no list of lengths, though what there is of one adds up
    ∷ refused 8 3072 1 a+a (eights (48 ∷ []) ++ replicate 7 0) 160
    ∷ refused 8 3072 1 [] (replicate 1 0) 80
    -- an unknown edition goes first
    ∷ refused 9 3072 0 a+a (eights (48 ∷ [])) 80
    ∷ refused 9 16384 3 a+a (eights (48 ∷ [])) 80
    ∷ refused 9 16384 3 a+a (eights (47 ∷ [])) 0
    ∷ refused 9 3072 0 [] [] 0
    -- another limit goes before it
    ∷ refused 19 0 1 a+a (eights (48 ∷ [])) 80
    ∷ refused 19 3073 1 a+a (eights (48 ∷ [])) 80
    ∷ refused 19 16383 0 a+a (eights (47 ∷ [])) 0
    ∷ refused 19 65536 1 [] [] 0
    ∷ []

-- what the definitions give
unfoldable pub computed : Example → Example
computed e =
    let h : Handed = e.handed in
    let c : SiteCall =
    site_called h.limit h.edition h.tables h.lengths
    (record { out = replicate h.out_bytes 165; steps = replicate h.steps_bytes 165; work = replicate h.work_bytes 165 })
    (replicate h.answer_bytes 165) in
    gives h c.number c.answers c.lent.out c.lent.steps (get_or c.lent.work 0 0)

-- what the call returns for n items of no bytes at all
unfoldable pub empty_items : ℕ → ℕ
empty_items n = (computed (gives (hands 3072 1 [] (replicate (8 * n) 0) 0 0 0 (80 * n)) 0 [] [] [] 0)).returns

-- Members that are alone with their keys. Counting never lowers a flag, and counting an entry raises its flag to 1, or to 2 where it was
-- raised before: so a flag that counts 1 is that of one entry alone, and an entry that gets its bit shares its 15 bits with no other
-- (OneKeyed). The bits change neither the 15 bits nor the starts. Where the last entry moves into the place of another, this stays. By
-- induction on the entries.
use Rattle.std.proofs.Common.{◌≡◌, ℕ, zero, suc, ◌+◌, ◌*◌, ◌/◌, ◌%◌, ◌<◌, ◌≤◌, Bool, true, false, List, length, get_or, take, drop, set, replicate}
use Rattle.std.proofs.Common.{sym, refl, ap, ◌∙◌, mul-le-mul_right, arith, length-set, get_or-drop, get_or-set_other, get_or-take, get_or-set_same}
use Rattle.std.proofs.Common.{drop-set-lt}
use mathlib.Core.Option.{none}
use native.Mathlib.Decide.{ℕ_discrete, dec_lt}
use lib.ListN.{length-replicate, get_or-append}
use lib.Seq.{take-set-le}
use Rattle.paper.specs.Bytes.{le, le2}
use Rattle.stretch.specs.Put.{put, part}
use Rattle.stretch.proofs.Laws.{length_part, length_put, take_put, drop_put_at, get_d_put_before, get_d_put_after}
use Rattle.walk.specs.Listed.{bits_of}
use Rattle.part.specs.Like.{split, merge}
use Rattle.walk.specs.Numbers.{Lonely}
use Rattle.walk.proofs.EntryLaws.{moved, pending_still}
use Rattle.walk.specs.Lone.{entry_flag, one_more, counted, lone_byte, marked, flagged, LoneTold}

-- ---- one count
pub more_first : (c : ℕ) → c < 1 → 1 ≡ one_more c
unfolding one_more
more_first zero h = refl
more_first (suc c) h = absurd (omega arith)

pub more_again : (c : ℕ) → 1 ≤ c → 2 ≡ one_more c
unfolding one_more
more_again zero h = absurd (omega arith)
more_again (suc c) h = refl

pub more_counts : (c : ℕ) → 1 ≤ one_more c
unfolding one_more
more_counts zero = omega arith
more_counts (suc c) = omega arith

pub byte_lone : (high c : ℕ) → c ≡ 1 → high % 128 + 128 ≡ lone_byte high c
unfolding lone_byte
byte_lone high zero h = absurd (omega arith)
byte_lone high (suc zero) h = refl
byte_lone high (suc (suc c)) h = absurd (omega arith)

pub byte_shared : (high c : ℕ) → (c ≡ 1 → ⊥) → high % 128 ≡ lone_byte high c
unfolding lone_byte
byte_shared high zero h = refl
byte_shared high (suc zero) h = absurd (h refl)
byte_shared high (suc (suc c)) h = refl

-- the bit leaves the lower seven as they are, and is set for a count of 1 only
byte_keeps : (high c : ℕ) → lone_byte high c % 128 ≡ high % 128
byte_keeps high c = by (ℕ_discrete c 1)
  where
    by : Dec (c ≡ 1) → lone_byte high c % 128 ≡ high % 128
    by (yes e) = rw (sym (byte_lone high c e)) (omega arith)
    by (no e) = rw (sym (byte_shared high c e)) (omega arith)

byte_tells : (high c : ℕ) → 128 ≤ lone_byte high c → c ≡ 1
byte_tells high c h = by (ℕ_discrete c 1)
  where
    by : Dec (c ≡ 1) → c ≡ 1
    by (yes e) = e
    by (no e) = absurd (omega (arith, byte_shared high c e))

-- ---- a flag is one of the 16 n
pub flag_of_bits : (x n : ℕ) → x < 32768 → 0 < n → x * n / 2048 < n * 16
flag_of_bits x n l h = let m : x * n ≤ 32767 * n = mul-le-mul_right n (omega arith) in omega arith

pub flag_lt : (w : List ℕ) (n k : ℕ) → 0 < n → entry_flag w n k < n * 16
unfolding entry_flag
flag_lt w n k h = flag_of_bits (bits_of w k) n (omega arith) h

flags_alike : (v w : List ℕ) (n i j : ℕ) → bits_of v i ≡ bits_of w j → entry_flag v n i ≡ entry_flag w n j
unfolding entry_flag
flags_alike v w n i j e = ap (λ x. x * n / 2048) e

-- ---- counting
module _ (o w : List ℕ) (a n : ℕ) where
  pub counted_none : counted o w a n 0 ≡ o
  unfolding counted
  counted_none = refl

  counted_next : (k : ℕ) → set (counted o w a n k) (a + entry_flag w n k) (one_more (get_or (counted o w a n k) (a + entry_flag w n k) 0)) ≡ counted o
      w a n (k + 1)
  unfolding counted
  counted_next k = let e : suc k ≡ k + 1 = omega arith in ap (counted o w a n) e

  -- a turn of the loop that counts
  pub counted_turn : (k : ℕ) (out : List ℕ) (f m : ℕ) → out ≡ counted o w a n k → f ≡ entry_flag w n k → m ≡ one_more (get_or out (a + f) 0)
      → set out (a + f) m ≡ counted o w a n (k + 1)
  counted_turn k out f m p q s = rw (s, q, p) (counted_next k)

  pub counted_length : (k : ℕ) → length (counted o w a n k) ≡ length o
  unfolding counted
  counted_length zero = refl
  counted_length (suc k) = length-set (counted o w a n k) (a + entry_flag w n k) _ ∙ counted_length k

  counted_front : (k : ℕ) → take a (counted o w a n k) ≡ take a o
  unfolding counted
  counted_front zero = refl
  counted_front (suc k) = take-set-le a (counted o w a n k) (a + entry_flag w n k) _ (omega arith) ∙ counted_front k

  module _ (some : 0 < n) (room : a + n * 16 ≤ length o) where
    there : (k : ℕ) → a + entry_flag w n k < length (counted o w a n k)
    there k = omega (arith, flag_lt w n k some, counted_length k)

    -- the flag of entry i after k entries
    abbrev flag : ℕ → ℕ → ℕ
    flag k i = get_or (counted o w a n k) (a + entry_flag w n i) 0

    same : (k i : ℕ) → entry_flag w n i ≡ entry_flag w n k → flag (suc k) i ≡ one_more (flag k k)
    unfolding counted
    same k i e = ap (λ x. get_or (counted o w a n (suc k)) (a + x) 0) e ∙ get_or-set_same (counted o w a n k) (a + entry_flag w n k) _ 0 (there k)

    other : (k i : ℕ) → (entry_flag w n i ≡ entry_flag w n k → ⊥) → flag (suc k) i ≡ flag k i
    unfolding counted
    other k i h = get_or-set_other (counted o w a n k) (a + entry_flag w n k) (a + entry_flag w n i) _ 0 (λ e. h (omega arith))

    seen : (k i : ℕ) → i < k → 1 ≤ flag k i
    seen zero i h = absurd (omega arith)
    seen (suc k) i h = by (ℕ_discrete (entry_flag w n i) (entry_flag w n k)) (ℕ_discrete i k) (λ l. seen k i l)
      where
        by : Dec (entry_flag w n i ≡ entry_flag w n k) → Dec (i ≡ k) → (i < k → 1 ≤ flag k i) → 1 ≤ flag (suc k) i
        by (yes e) q before = omega (arith, same k i e, more_counts (flag k k))
        by (no e) (yes q) before = absurd (e (ap (entry_flag w n) q))
        by (no e) (no q) before = omega (arith, other k i e, before (omega arith))

    pub twice : (k i j : ℕ) → i < j → j < k → entry_flag w n i ≡ entry_flag w n j → 2 ≤ flag k i
    twice zero i j l h e = absurd (omega arith)
    twice (suc k) i j l h e = by (ℕ_discrete (entry_flag w n i) (entry_flag w n k)) (ℕ_discrete j k) (λ m. twice k i j l m e)
      where
        by : Dec (entry_flag w n i ≡ entry_flag w n k) → Dec (j ≡ k) → (j < k → 2 ≤ flag k i) → 2 ≤ flag (suc k) i
        by (yes q) r before =
            let one = ap (λ x. get_or (counted o w a n k) (a + x) 0) q in
            omega (arith, same k i q, more_again (flag k k) (omega (arith, one, seen k i (omega arith))))
        by (no q) (yes r) before = absurd (q (e ∙ ap (entry_flag w n) r))
        by (no q) (no r) before = omega (arith, other k i q, before (omega arith))

-- ---- the bits
module _ (w o : List ℕ) (a n : ℕ) where
  pub marked_none : marked w o a n 0 ≡ w
  unfolding marked
  marked_none = refl

  marked_next : (k : ℕ)
      → set (marked w o a n k) (k * 4 + 3) (lone_byte (get_or (marked w o a n k) (k * 4 + 3) 0) (get_or o (a + entry_flag (marked w o a n k) n k) 0))
      ≡ marked w o a n (k + 1)
  unfolding marked
  marked_next k = let e : suc k ≡ k + 1 = omega arith in ap (marked w o a n) e

  -- a turn of the loop that sets bits
  pub marked_turn : (k : ℕ) (work : List ℕ) (f m : ℕ) → work ≡ marked w o a n k → f ≡ entry_flag work n k
      → m ≡ lone_byte (get_or work (k * 4 + 3) 0) (get_or o (a + f) 0) → set work (k * 4 + 3) m ≡ marked w o a n (k + 1)
  marked_turn k work f m p q s = rw (s, q, p) (marked_next k)

  pub marked_length : (k : ℕ) → length (marked w o a n k) ≡ length w
  unfolding marked
  marked_length zero = refl
  marked_length (suc k) = length-set (marked w o a n k) (k * 4 + 3) _ ∙ marked_length k

  pub marked_behind : (k m : ℕ) → k * 4 ≤ m → drop m (marked w o a n k) ≡ drop m w
  unfolding marked
  marked_behind zero m h = refl
  marked_behind (suc k) m h = drop-set-lt m (marked w o a n k) (k * 4 + 3) _ (omega arith) ∙ marked_behind k m (omega arith)

  -- all other bytes stay
  pub marked_other : (k x : ℕ) → ((j : ℕ) → x ≡ j * 4 + 3 → ⊥) → get_or (marked w o a n k) x 0 ≡ get_or w x 0
  unfolding marked
  marked_other zero x h = refl
  marked_other (suc k) x h = get_or-set_other (marked w o a n k) (k * 4 + 3) x _ 0 (h k) ∙ marked_other k x h

  module _ (room : n * 4 ≤ length w) where
    -- the high byte of entry i after k entries
    abbrev high : ℕ → ℕ → ℕ
    high k i = get_or (marked w o a n k) (i * 4 + 3) 0

    step : (k i : ℕ) → (i ≡ k → ⊥) → high (suc k) i ≡ high k i
    unfolding marked
    step k i h = get_or-set_other (marked w o a n k) (k * 4 + 3) (i * 4 + 3) _ 0 (λ e. h (omega arith))

    here : (k : ℕ) → k < n → high (suc k) k ≡ lone_byte (high k k) (get_or o (a + entry_flag (marked w o a n k) n k) 0)
    unfolding marked
    here k h = get_or-set_same (marked w o a n k) (k * 4 + 3) _ 0 (omega (arith, marked_length k))

    low_bits : (k i : ℕ) → k ≤ n → high k i % 128 ≡ get_or w (i * 4 + 3) 0 % 128
    unfolding marked
    low_bits zero i h = refl
    low_bits (suc k) i h = by (ℕ_discrete i k) (low_bits k i (omega arith))
      where
        by : Dec (i ≡ k) → high k i % 128 ≡ get_or w (i * 4 + 3) 0 % 128 → high (suc k) i % 128 ≡ get_or w (i * 4 + 3) 0 % 128
        by (yes e) before =
            ap (λ x. high (suc k) x % 128) e ∙ ap (λ x. x % 128) (here k (omega arith)) ∙ byte_keeps (high k k) _ ∙ ap (λ x. high k x % 128) (sym e) ∙ before
        by (no e) before = ap (λ x. x % 128) (step k i e) ∙ before

    pub marked_bits : (k i : ℕ) → k ≤ n → bits_of (marked w o a n k) i ≡ bits_of w i
    unfolding le2 le
    marked_bits k i h =
        let low = marked_other k (i * 4 + 2) (λ j e. omega arith) in
        let three : i * 4 + 2 + 1 ≡ i * 4 + 3 = omega arith in
        rw (three, low) (omega (arith, low_bits k i h))

    pub marked_start : (k i : ℕ) → le2 (marked w o a n k) (i * 4) ≡ le2 w (i * 4)
    unfolding le2 le
    marked_start k i =
        rw (marked_other k (i * 4) (λ j e. omega arith), marked_other k (i * 4 + 1) (λ j e. omega arith)) refl

    same_flag : (k : ℕ) → k ≤ n → entry_flag (marked w o a n k) n k ≡ entry_flag w n k
    same_flag k h = flags_alike (marked w o a n k) w n k k (marked_bits k k h)

    -- an entry with the bit has a flag that counts 1
    bit_tells : (k i : ℕ) → k ≤ n → i < k → 128 ≤ high k i → get_or o (a + entry_flag w n i) 0 ≡ 1
    bit_tells zero i m h b = absurd (omega arith)
    bit_tells (suc k) i m h b = by (ℕ_discrete i k) (λ l g. bit_tells k i (omega arith) l g)
      where
        by : Dec (i ≡ k) → (i < k → 128 ≤ high k i → get_or o (a + entry_flag w n i) 0 ≡ 1) → get_or o (a + entry_flag w n i) 0 ≡ 1
        by (yes e) before =
            let c = byte_tells (high k k) (get_or o (a + entry_flag (marked w o a n k) n k) 0) (omega (arith, here k (omega arith), ap (high (suc k)) e)) in
            rw e (ap (λ x. get_or o (a + x) 0) (sym (same_flag k (omega arith))) ∙ c)
        by (no e) before = before (omega arith) (omega (arith, step k i e))

-- ---- of n entries, one with the bit shares its 15 bits with no other
abbrev pub OneKeyed : List ℕ → ℕ → Type 0
OneKeyed w n = (i j : ℕ) → i < n → j < n → (i ≡ j → ⊥) → 128 ≤ get_or w (i * 4 + 3) 0 → bits_of w i ≡ bits_of w j → ⊥

counted_lonely : (o w : List ℕ) (a n : ℕ) → a + n * 16 ≤ length o → n * 4 ≤ length w → OneKeyed (marked w (counted o w a n n) a n n) n
counted_lonely o w a n far near i j hi hj apart bit e =
    let f = counted o w a n n in
    let same : bits_of w i ≡ bits_of w j = sym (marked_bits w f a n near n i (omega arith)) ∙ e ∙ marked_bits w f a n near n j (omega arith) in
    let one = bit_tells w f a n near n i (omega arith) hi bit in
    by (dec_lt i j) one (flags_alike w w n i j same)
  where
    by : Dec (i < j) → get_or (counted o w a n n) (a + entry_flag w n i) 0 ≡ 1 → entry_flag w n i ≡ entry_flag w n j → ⊥
    by (yes l) one q = omega (arith, twice o w a n (omega arith) far n i j l hj q)
    by (no l) one q =
        let two = twice o w a n (omega arith) far n j i (omega arith) hi (sym q) in
        omega (arith, ap (λ x. get_or (counted o w a n n) (a + x) 0) q)

-- ---- the flags behind record d, cleared and then counted
pub flags_there : (o z o' w : List ℕ) (d n : ℕ) → z ≡ put o ((d + 1) * 16) (replicate (n * 16) 0) → o' ≡ counted z w ((d + 1) * 16) n n
    → o' ≡ flagged o w d n
unfolding flagged
flags_there o z o' w d n cleared h = h ∙ ap (λ (y : List ℕ). counted y w ((d + 1) * 16) n n) cleared

-- ---- what is told, whether or not it is
pub record AfterKeys (o o' w w' : List ℕ) (d n : ℕ) (told : Bool) : Type 0 where
  pub long : length o' ≡ length o
  pub wide : length w' ≡ length w
  pub front : take ((d + 1) * 16) o' ≡ take ((d + 1) * 16) o
  pub starts : (i : ℕ) → le2 w' (i * 4) ≡ le2 w (i * 4)
  pub bits : (i : ℕ) → bits_of w' i ≡ bits_of w i
  pub behind : (m : ℕ) → n * 4 ≤ m → drop m w' ≡ drop m w
  pub lonely : told ≡ true → OneKeyed w' n

pub after_telling : (o o' w w' : List ℕ) (d n : ℕ) (told : Bool) → (d + 1) * 16 + n * 16 ≤ length o → n * 4 ≤ length w → LoneTold o o' w w' d n told
    → AfterKeys o o' w w' d n told
unfolding flagged
after_telling o o' w w' d n true far near h =
    let a = (d + 1) * 16 in
    let z : List ℕ = replicate (n * 16) 0 in
    let zeros : length z ≡ n * 16 = length-replicate (n * 16) 0 in
    let c = put o a z in
    let size = length_put o a z (omega (arith, zeros)) in
    rw (h.2, h.1) (record {
      long = counted_length c w a n n ∙ size;
      wide = marked_length w (counted c w a n n) a n n;
      front = counted_front c w a n n ∙ take_put o a z a (omega arith) (omega arith);
      starts = λ i. marked_start w (counted c w a n n) a n near n i;
      bits = λ i. marked_bits w (counted c w a n n) a n near n i (omega arith);
      behind = λ m l. marked_behind w (counted c w a n n) a n n m l;
      lonely = λ e. counted_lonely c w a n (omega (arith, size)) near;
    })
after_telling o o' w w' d n false far near h =
    rw (h.2, h.1) (record {
      long = refl;
      wide = refl;
      front = refl;
      starts = λ i. refl;
      bits = λ i. refl;
      behind = λ m l. refl;
      lonely = λ e. absurd (let z : ◌≡◌ {A = ℕ} 0 1 = cc in omega arith);
    })

-- ---- the last of n + 1 entries moves into the place of entry j
module _ (w w' : List ℕ) (j n : ℕ) (most : j ≤ n) (room : n * 4 + 4 ≤ length w) (swap : w' ≡ put w (j * 4) (part w (n * 4) 4)) where
  four : length (part w (n * 4) 4) ≡ 4
  four = length_part w (n * 4) 4 (omega arith)

  stays : (i b : ℕ) → (i ≡ j → ⊥) → b < 4 → get_or w' (i * 4 + b) 0 ≡ get_or w (i * 4 + b) 0
  stays i b h l = rw swap (by (dec_lt i j))
    where
      by : Dec (i < j) → get_or (put w (j * 4) (part w (n * 4) 4)) (i * 4 + b) 0 ≡ get_or w (i * 4 + b) 0
      by (yes g) = get_d_put_before w (j * 4) (part w (n * 4) 4) (i * 4 + b) (omega arith) (omega arith)
      by (no g) = get_d_put_after w (j * 4) (part w (n * 4) 4) (i * 4 + b) (omega arith) (omega (arith, four))

  arrives : (b : ℕ) → b < 4 → get_or w' (j * 4 + b) 0 ≡ get_or w (n * 4 + b) 0
  unfolding part
  arrives b l =
      let x = part w (n * 4) 4 in
      ap (λ (y : List ℕ). get_or y (j * 4 + b) 0) swap
      ∙ sym (get_or-drop (j * 4) (put w (j * 4) x) b 0)
      ∙ ap (λ (y : List ℕ). get_or y b 0) (drop_put_at w (j * 4) x (omega arith))
      ∙ get_or-append x (drop (j * 4 + length x) w) 0 b (omega (arith, four))
      ∙ get_or-take 4 (drop (n * 4) w) b 0 l
      ∙ get_or-drop (n * 4) w b 0

  -- where entry i came from
  record Source (i : ℕ) : Type 0 where
    at : ℕ
    high : get_or w' (i * 4 + 3) 0 ≡ get_or w (at * 4 + 3) 0
    start : le2 w' (i * 4) ≡ le2 w (at * 4)
    bits : bits_of w' i ≡ bits_of w at
    place : Dec (i ≡ j)
    moved : i ≡ j → at ≡ n
    kept : (i ≡ j → ⊥) → at ≡ i

  start_from : (i k : ℕ) → get_or w' (i * 4 + 0) 0 ≡ get_or w (k * 4 + 0) 0 → get_or w' (i * 4 + 1) 0 ≡ get_or w (k * 4 + 1) 0 → le2 w' (i * 4) ≡ le2 w (k * 4)
  unfolding le2
  start_from i k low high =
      let none : (m : ℕ) → m * 4 + 0 ≡ m * 4 = λ m. omega arith in
      let first : get_or w' (i * 4) 0 ≡ get_or w (k * 4) 0 = ap (λ x. get_or w' x 0) (sym (none i)) ∙ low ∙ ap (λ x. get_or w x 0) (none k) in
      rw (first, high) refl

  bits_from : (i k : ℕ) → get_or w' (i * 4 + 2) 0 ≡ get_or w (k * 4 + 2) 0 → get_or w' (i * 4 + 3) 0 ≡ get_or w (k * 4 + 3) 0 → bits_of w' i ≡ bits_of w k
  unfolding le2
  bits_from i k low high =
      let three : (m : ℕ) → m * 4 + 2 + 1 ≡ m * 4 + 3 = λ m. omega arith in
      rw (three i, three k, low, high) refl

  source : (i : ℕ) → Source i
  source i = by (ℕ_discrete i j)
    where
      by : Dec (i ≡ j) → Source i
      by (yes e) =
          let high : get_or w' (i * 4 + 3) 0 ≡ get_or w (n * 4 + 3) 0 = rw e (arrives 3 (omega arith)) in
          let low : get_or w' (i * 4 + 2) 0 ≡ get_or w (n * 4 + 2) 0 = rw e (arrives 2 (omega arith)) in
          record {
            at = n;
            high = high;
            start = start_from i n (rw e (arrives 0 (omega arith))) (rw e (arrives 1 (omega arith)));
            bits = bits_from i n low high;
            place = yes e;
            moved = λ q. refl;
            kept = λ q. absurd (q e);
          }
      by (no e) =
          let high = stays i 3 e (omega arith) in
          record {
            at = i;
            high = high;
            start = start_from i i (stays i 0 e (omega arith)) (stays i 1 e (omega arith));
            bits = bits_from i i (stays i 2 e (omega arith)) high;
            place = no e;
            moved = λ q. absurd (e q);
            kept = λ q. refl;
          }

  pub lonely_moves : (b : Bool) (p : ℕ) → n * 4 + 4 ≤ p * 16 → Lonely b w p (n + 1) → Lonely b w' p n
  lonely_moves b p low h i k hi hk apart bit t u et eu = at_most f.place g.place
    where
      still : drop (p * 16) w' ≡ drop (p * 16) w
      still = ap (drop (p * 16)) swap ∙ pending_still w (part w (n * 4) 4) j four (omega arith) p (omega arith)

      f : Source i
      f = source i

      g : Source k
      g = source k

      told : f.at ≤ n → g.at ≤ n → (f.at ≡ g.at → ⊥) → (merge b (split b t) (split b u) ≡ none) × (merge b (split b u) (split b t) ≡ none)
      told l m q =
          h f.at g.at (omega arith) (omega arith) q (omega (arith, f.high)) t u
          (moved w' w p (sym still) b i f.at t (sym f.start) (sym f.bits) et)
          (moved w' w p (sym still) b k g.at u (sym g.start) (sym g.bits) eu)

      at_most : Dec (i ≡ j) → Dec (k ≡ j) → (merge b (split b t) (split b u) ≡ none) × (merge b (split b u) (split b t) ≡ none)
      at_most (yes a) (yes c) = absurd (apart (a ∙ sym c))
      at_most (yes a) (no c) = let x = f.moved a in let y = g.kept c in told (omega arith) (omega arith) (λ q. omega arith)
      at_most (no a) (yes c) = let x = f.kept a in let y = g.moved c in told (omega arith) (omega arith) (λ q. omega arith)
      at_most (no a) (no c) = let x = f.kept a in let y = g.kept c in told (omega arith) (omega arith) (λ q. apart (omega arith))

-- The test of members one after the other, as the code makes it: what is left of it is the whole test, with the keys of the members passed
-- kept in scratch. Each store lies in the scratch, so the bytes around it stay.
use Prim.Native.Nat.{ℕ, ◌+◌, ◌-◌, ◌*◌, ◌≤◌, ◌<◌}
use mathlib.Core.Path.{◌≡◌, refl, sym, ap, ◌∙◌, subst}
use mathlib.Core.Bool.{Bool, true, false, cond, not}
use Rattle.std.proofs.Common.{None, Some, Option}
use mathlib.Core.List.{List, [], ◌∷◌, ◌++◌}
use native.Mathlib.Omega.{arith}
use lib.ListN.{length, get_or, drop, set, length-append, length-set}
use lib.Seq.{take-set-le, drop-set-lt, drop-drop}
use Rattle.paper.specs.Limits.{modulus}
use Rattle.paper.specs.Bytes.{le8, bytes}
use Rattle.paper.specs.Tree.{Tree, Forest, to_list, records}
use Rattle.paper.specs.Record.{kind}
use Rattle.paper.proofs.BytesLaws.{length_bytes}
use Rattle.paper.proofs.EncodeLaws.{count_records, recordses_weights}
use Rattle.paper.proofs.Tests.{never}
use Rattle.stretch.specs.Put.{put}
use Rattle.stretch.proofs.Laws.{length_put, take_put, drop_put}
use Rattle.note.specs.Note.{keys, note}
use Rattle.note.specs.Part.{part_key}
use Rattle.note.specs.Noted.{TreeBy, TreesBy, Known}
use Rattle.still.specs.Still.{among, sought, apart}
use Rattle.still.specs.Met.{meeting, met_of}
use Rattle.still.specs.declared.Met.{Met}
use Rattle.still.specs.Keys.{turned, first_flag, second_flag, Kept, KeysIn, KeptIn, keeping, Scratched}
use Rattle.note.proofs.ToldLaws.{note_tells, noted_told, kind_number_lem, none_of}
use Rattle.note.proofs.LightLaws.{told_all, FirstBy, first_by}
use Rattle.still.proofs.KeysLaws.{flag_lt, keeping_kept}

-- ---- what lies around scratch stays
pub scratched_none : (d : List ℕ) (o n : ℕ) → Scratched d d o n
scratched_none d o n = record { long = refl; before = refl; past = refl }

pub scratched_both : {d e f : List ℕ} {o n : ℕ} → Scratched d e o n → Scratched e f o n → Scratched d f o n
scratched_both a b = record { long = b.long ∙ a.long; before = b.before ∙ a.before; past = b.past ∙ a.past }

-- more of it
pub scratched_more : {d e : List ℕ} {o n : ℕ} (m : ℕ) → n ≤ m → Scratched d e o n → Scratched d e o m
scratched_more {d} {e} {o} {n} m l a =
    let x : o + m ≡ o + n + (m - n) = omega arith in
    record {
      long = a.long;
      before = a.before;
      past =
          ap (λ k. drop k e) x
          ∙ sym (drop-drop (m - n) (o + n) e)
          ∙ ap (drop (m - n)) a.past
          ∙ drop-drop (m - n) (o + n) d
          ∙ ap (λ k. drop k d) (sym x);
    }

pub scratched_put : (d : List ℕ) (o n a : ℕ) (x : List ℕ) → o ≤ a → a + length x ≤ o + n → o + n ≤ length d → Scratched d (put d a x) o n
scratched_put d o n a x l k r =
    record {
      long = length_put d a x (omega arith);
      before = take_put d a x o l (omega arith);
      past = drop_put d a x (o + n) k (omega arith);
    }

scratched_set : (d : List ℕ) (o n a v : ℕ) → o ≤ a → a < o + n → Scratched d (set d a v) o n
scratched_set d o n a v l k =
    record { long = length-set d a v; before = take-set-le o d a v l; past = drop-set-lt (o + n) d a v k }

-- one key more
module _ {d : List ℕ} {o n x m : ℕ} {ks : List ℕ} (h : KeptIn d o n x m ks) (k : ℕ) (b : k < modulus) where
  key_scratched : Scratched d (keeping d o n x m k) o (n * 40)
  unfolding keeping
  key_scratched =
      let f = first_flag o n x k in
      let g = second_flag o n x k in
      let once = set d f 1 in
      let c = flag_lt n x k (omega (arith, h.place)) in
      let q = flag_lt n (turned x) k (omega (arith, h.place)) in
      scratched_both
      (scratched_both (scratched_set d o (n * 40) f 1 (omega arith) (omega arith)) (scratched_set once o (n * 40) g 1 (omega arith) (omega arith)))
      (scratched_put (set once g 1) o (n * 40) (o + m * 8) (bytes 8 k) (omega arith) (omega (arith, length_bytes 8 k, h.place))
      (omega (arith, length-set d f 1, length-set once g 1, h.room)))

  pub keeping_scratched : (e : List ℕ) → e ≡ keeping d o n x m k → Scratched d e o (n * 40)
  keeping_scratched e q = rw q key_scratched

-- ---- what is kept of a member: it is known by its record's kind and its note
pub member_known : {s : List ℕ} {i : ℕ} {t : Tree} → TreeBy note s i t → (k v : ℕ) → k ≡ kind s i → ((w : Tree) → TreeBy note s i w → v ≡ note w)
    → Known s i k v t
member_known {t = t} h k v e n = record { there = h; kind_known = e ∙ kind_number_lem (noted_told h); note_known = n t h }

pub met_sought : (terms : Bool) (t : Tree) → sought terms t ≡ true → None ≡ met_of terms t
met_sought terms t e = rw e

pub met_passed : (terms : Bool) (t : Tree) (k z : ℕ) → sought terms t ≡ false → k ≡ part_key terms t → z ≡ records t
    → ◌≡◌ {A = Option Met} (Some record { key = k; size = z }) (met_of terms t)
met_passed terms t k z e p q = rw (e, p, q)

pub none_met : (terms : Bool) (t : Tree) → None ≡ met_of terms t → sought terms t ≡ true
none_met terms t = by (sought terms t) refl
  where
    by : (b : Bool) → sought terms t ≡ b → None ≡ cond b None (Some (meeting terms t)) → sought terms t ≡ true
    by true e q = e
    by false e q = cc

pub one_met : (terms : Bool) (t : Tree) (v : Met) → Some v ≡ met_of terms t
    → (sought terms t ≡ false) × (v.key ≡ part_key terms t) × (v.size ≡ records t)
one_met terms t v = by (sought terms t) refl
  where
    by : (b : Bool) → sought terms t ≡ b → Some v ≡ cond b None (Some (meeting terms t))
        → (sought terms t ≡ false) × (v.key ≡ part_key terms t) × (v.size ≡ records t)
    by true e q = cc
    by false e q = let w : v ≡ meeting terms t = cc in (e, ap (λ (x : Met). x.key) w, ap (λ (x : Met). x.size) w)

-- ---- the test, member by member: the keys `before` are kept, as K says, and the members of `rest` are to come
pub record Testing (s : List ℕ) (f : Forest) (terms : Bool) (K : List ℕ → Type 0) (n at m : ℕ) : Type 0 where
  pub before : List ℕ
  pub rest : Forest
  pub there : TreesBy note s at (n - m) rest
  pub kept : K before
  pub many : length before ≡ m
  pub left : apart terms before (to_list rest) ≡ apart terms [] (to_list f)

pub members_few : {s : List ℕ} {i n : ℕ} {f : Forest} → TreesBy note s i n f → n < 65536
members_few {f = f} h = omega (arith, h.counted, count_records f, recordses_weights f, h.light)

-- no key is kept
pub kept_none : (d : List ℕ) (o n x : ℕ) → Kept d o n x []
unfolding among
kept_none d o n x = record { keys_there = λ j l. absurd (omega arith); flagged = λ k e. never e }

pub testing_start : {s : List ℕ} {i n : ℕ} {f : Forest} {terms : Bool} {K : List ℕ → Type 0} → K [] → TreesBy note s i n f → Testing s f terms K n i 0
testing_start {s} {i} {n} {f} none h =
    let z : n ≡ n - 0 = omega arith in
    record {
      before = [];
      rest = f;
      there = subst (λ c. TreesBy note s i c f) z h;
      kept = none;
      many = refl;
      left = refl;
    }

-- one member of the test
module _ (terms : Bool) (before : List ℕ) (t : Tree) (l : List Tree) where
  member_sought : sought terms t ≡ true → apart terms before (t ∷ l) ≡ false
  unfolding apart
  member_sought e = rw e

  member_seen : sought terms t ≡ false → not (among (part_key terms t) before) ≡ false → apart terms before (t ∷ l) ≡ false
  unfolding apart
  member_seen e k = rw (e, k)

  member_new : sought terms t ≡ false → not (among (part_key terms t) before) ≡ true
      → apart terms before (t ∷ l) ≡ apart terms (before ++ (part_key terms t ∷ [])) l
  unfolding apart
  member_new e k = rw (e, k)

module _ {s : List ℕ} {f : Forest} {terms : Bool} {K : List ℕ → Type 0} {n at m : ℕ} (a : Testing s f terms K n at m) where
  -- no member to come
  pub testing_end : n ≤ m → true ≡ apart terms [] (to_list f)
  unfolding apart to_list
  testing_end l = ap (λ g. apart terms a.before (to_list g)) (sym (none_of a.rest (told_all note_tells a.there) (omega arith))) ∙ a.left

  module _ (p : m < n) where
    pub testing_first : FirstBy note s at (n - m) a.rest
    testing_first = first_by a.rest note_tells a.there (omega arith)

    abbrev u : Tree
    u = testing_first.tree

    first_left : apart terms a.before (u ∷ to_list testing_first.others) ≡ apart terms [] (to_list f)
    unfolding to_list
    first_left = ap (λ g. apart terms a.before (to_list g)) (sym testing_first.whole) ∙ a.left

    pub testing_sought : sought terms u ≡ true → false ≡ apart terms [] (to_list f)
    testing_sought e = sym (member_sought terms a.before u (to_list testing_first.others) e) ∙ first_left

    pub testing_seen : sought terms u ≡ false → not (among (part_key terms u) a.before) ≡ false → false ≡ apart terms [] (to_list f)
    testing_seen e k = sym (member_seen terms a.before u (to_list testing_first.others) e k) ∙ first_left

    -- the member is passed, its key kept
    pub testing_step : sought terms u ≡ false → not (among (part_key terms u) a.before) ≡ true → (k z : ℕ) → k ≡ part_key terms u → z ≡ records u
        → {K' : List ℕ → Type 0} → K' (a.before ++ (k ∷ [])) → Testing s f terms K' n (at + z) (m + 1)
    testing_step e q k z x size w =
        let less : n - m - 1 ≡ n - (m + 1) = omega arith in
        let after : TreesBy note s (at + z) (n - (m + 1)) testing_first.others =
        subst (λ r. TreesBy note s (at + z) r testing_first.others) less
        (subst (λ r. TreesBy note s (at + r) (n - m - 1) testing_first.others) (sym size) testing_first.after) in
        record {
          before = a.before ++ (k ∷ []);
          rest = testing_first.others;
          there = after;
          kept = w;
          many = length-append a.before (k ∷ []) ∙ omega (arith, a.many);
          left =
              ap (λ r. apart terms (a.before ++ (r ∷ [])) (to_list testing_first.others)) x
              ∙ sym (member_new terms a.before u (to_list testing_first.others) e q)
              ∙ first_left;
        }

-- ---- the keys of the members passed, with flags and without
pub testing_kept : {s : List ℕ} {f : Forest} {terms : Bool} {d : List ℕ} {o n x at m : ℕ} (a : Testing s f terms (Kept d o n x) n at m)
    → x < keys → m < n → n < 65536 → o + n * 40 ≤ length d
    → KeptIn d o n x m a.before
testing_kept a f p few room = record { kept = a.kept; factor = f; many = a.many; place = p; few = few; room = room }

pub kept_more : {d : List ℕ} {o n x m : ℕ} {ks : List ℕ} → KeptIn d o n x m ks → (k : ℕ) → k < modulus
    → (c : List ℕ) → c ≡ keeping d o n x m k → Kept c o n x (ks ++ (k ∷ []))
kept_more h k b c w = rw w (keeping_kept h k b)

abbrev pub KeysAt : List ℕ → ℕ → List ℕ → Type 0
KeysAt d o ks = (j : ℕ) → j < length ks → le8 d (o + j * 8) ≡ get_or ks j 0

pub keys_none : (d : List ℕ) (o : ℕ) → KeysAt d o []
keys_none d o j l = absurd (omega arith)

pub testing_keys : {s : List ℕ} {f : Forest} {terms : Bool} {d : List ℕ} {o n at m : ℕ} (a : Testing s f terms (KeysAt d o) n at m)
    → m < n → n < 65536 → o + n * 8 ≤ length d
    → KeysIn d o m a.before
testing_keys a p few room = record { keys_there = a.kept; many = a.many; few = omega arith; room = omega arith }

pub key_put_scratched : (d : List ℕ) (o n m k : ℕ) → m < n → o + n * 8 ≤ length d → (e : List ℕ) → e ≡ put d (o + m * 8) (bytes 8 k) → Scratched d e o (n * 8)
key_put_scratched d o n m k p room e q =
    rw q (scratched_put d o (n * 8) (o + m * 8) (bytes 8 k) (omega arith) (omega (arith, length_bytes 8 k)) room)

-- The answer and the list afterwards, case by case: the limit refused, the first table, the second, the list too short, or nothing; in the last two
-- both tables hold trees, which stand in them from record 0 on.
use Prim.Native.Nat.{ℕ, ◌*◌, ◌/◌, ◌<◌, ◌≤◌}
use mathlib.Core.Path.{◌≡◌, refl, ap, ◌∙◌}
use mathlib.Core.Bool.{true, false}
use mathlib.Core.List.{List}
use native.Mathlib.Omega.{arith}
use borrow.Author.Tests.{ne_eqb, lt-ltb, le-ltb}
use lib.ListN.{length}
use Rattle.paper.specs.Bytes.{Bytes}
use Rattle.paper.specs.Limits.{is_limit}
use Rattle.paper.specs.Record.{Flaw, sound}
use Rattle.paper.specs.Verdict.{accepted, told, is_accepted, verdict}
use Rattle.paper_differ.specs.Differ.{Differed, between, differences_of, too_few_places, refused_for, differed_tables, differed, at_front, list_after}
use Rattle.paper_differ.specs.Differ.{differing}
use Rattle.paper.proofs.EncodeLaws.{encode_length}
use Rattle.paper.proofs.AcceptedLaws.{accepted_holds, holds_tree}
use Rattle.differ.specs.Together.{Together}

-- a refusal leaves the list
module _ (lim : ℕ) (a b list : List ℕ) where
  refused_leaves : (d : Differed) → d ≡ differed lim a b list → 0 < d.number → (d, list) ≡ differing lim a b list
  unfolding differing list_after
  refused_leaves d e h = rw (← e, ne_eqb d.number 0 (λ z. omega arith)) refl

  pub limit_refused : is_limit lim ≡ false → (record { number = 19; place = 0; flaw = sound; which = 0; pairs = 0 }, list) ≡ differing lim a b list
  unfolding differed refused_for
  limit_refused e = refused_leaves (record { number = 19; place = 0; flaw = sound; which = 0; pairs = 0 }) (rw e refl) (omega arith)

-- the limit being known, the other cases
module _ (lim : ℕ) (known : is_limit lim ≡ true) (a b list : List ℕ) where
  pub first_refused : (k p : ℕ) (f : Flaw) → told k p f ≡ verdict lim a → 0 < k
      → (record { number = k; place = p; flaw = f; which = 1; pairs = 0 }, list) ≡ differing lim a b list
  unfolding differed differed_tables refused_for is_accepted
  first_refused k p f e h =
      refused_leaves lim a b list (record { number = k; place = p; flaw = f; which = 1; pairs = 0 }) (rw (known, ← e, ne_eqb k 0 (λ z. omega arith)) refl) h

  pub second_refused : (k p : ℕ) (f : Flaw) → verdict lim a ≡ accepted → told k p f ≡ verdict lim b → 0 < k
      → (record { number = k; place = p; flaw = f; which = 2; pairs = 0 }, list) ≡ differing lim a b list
  unfolding differed differed_tables refused_for is_accepted
  second_refused k p f v e h =
      refused_leaves lim a b list (record { number = k; place = p; flaw = f; which = 2; pairs = 0 }) (rw (known, v, ← e, ne_eqb k 0 (λ z. omega arith)) refl) h

  pub list_refused : verdict lim a ≡ accepted → verdict lim b ≡ accepted → (p : ℕ) → p ≡ length (differences_of a b) → length list / 16 < p
      → (record { number = 6; place = 0; flaw = sound; which = 0; pairs = 0 }, list) ≡ differing lim a b list
  unfolding differed differed_tables refused_for is_accepted too_few_places
  list_refused v w p e h =
      let t = lt-ltb (length list / 8) (2 * length (differences_of a b)) (omega arith) in
      refused_leaves lim a b list (record { number = 6; place = 0; flaw = sound; which = 0; pairs = 0 }) (rw (known, v, w, t) refl) (omega arith)

  pub none_refused : verdict lim a ≡ accepted → verdict lim b ≡ accepted → (p : ℕ) → p ≡ length (differences_of a b) → p ≤ length list / 16
      → (after : List ℕ) → after ≡ at_front (differences_of a b) list
      → (record { number = 0; place = 0; flaw = sound; which = 0; pairs = p }, after) ≡ differing lim a b list
  unfolding differing differed differed_tables list_after is_accepted too_few_places
  none_refused v w p e h after q =
      let t = le-ltb (length list / 8) (2 * length (differences_of a b)) (omega arith) in
      rw (known, v, w, t, e, q) refl

-- two accepted tables hold trees
pub both_accepted : (lim : ℕ) (a b : List ℕ) → Bytes a → Bytes b → verdict lim a ≡ accepted → verdict lim b ≡ accepted → Together a b
unfolding differences_of between
both_accepted lim a b x y v w =
    let h = accepted_holds lim a x v in
    let k = accepted_holds lim b y w in
    record {
      one = h.tree;
      other = k.tree;
      one_there = holds_tree lim a h;
      other_there = holds_tree lim b k;
      whole = ap length h.written ∙ encode_length h.tree;
      theirs = rw (h.read, k.read) refl;
    }

-- A member that is an integer, looked for among those of a node: some members are left, they stand where the look is, and one of all is the integer
-- exactly where one of those left is.
use Prim.Native.Nat.{ℕ, ◌+◌, ◌-◌, ◌<◌, ◌≤◌}
use mathlib.Core.Path.{◌≡◌, refl, sym, ap, ◌∙◌, subst}
use mathlib.Core.Bool.{true, false, ◌||◌}
use native.Mathlib.Omega.{arith}
use mathlib.Core.List.{List}
use lib.IntN.{pos}
use Rattle.paper.specs.Tree.{Forest, to_list, records}
use Rattle.paper.specs.Record.{count_in}
use Rattle.paper.specs.Rules.{is_the, any_of}
use Rattle.note.specs.Note.{note}
use Rattle.split.specs.Standing.{ToldTrees, SomeTold}
use Rattle.rules.specs.Tried.{MembersIn}
use Rattle.note.proofs.ToldLaws.{FirstOf, first_of, none_of, some_told}
use Rattle.rules.proofs.Nodes.{after_first, members_in_lem}

pub record Left (s : List ℕ) (z : ℕ) (f : Forest) (at left : ℕ) : Type 0 where
  pub others : Forest
  pub stand : ToldTrees note s at left others
  pub same : any_of (is_the (pos z)) (to_list f) ≡ any_of (is_the (pos z)) (to_list others)

-- all are left
pub all_left : {s : List ℕ} {p : ℕ} (z : ℕ) {f : Forest} {n : ℕ} → MembersIn s p f → n ≡ count_in s p → Left s z f (p + 1) n
all_left {s} {p} z {f} h e =
    record { others = f; stand = subst (λ n. ToldTrees note s (p + 1) n f) (sym e) (members_in_lem s p f h); same = refl }

module _ {s : List ℕ} {z : ℕ} {f : Forest} {at left : ℕ} (h : Left s z f at left) where
  pub none_left : left ≤ 0 → any_of (is_the (pos z)) (to_list f) ≡ false
  unfolding any_of to_list
  none_left l = h.same ∙ ap (λ g. any_of (is_the (pos z)) (to_list g)) (none_of h.others h.stand (omega arith))

  module _ (l : 0 < left) where
    -- the first of those that are left
    abbrev pub head : FirstOf note s at left h.others
    head = first_of h.others h.stand l

    pub some_left : SomeTold s at
    some_left = some_told head.there

    it_or_others : any_of (is_the (pos z)) (to_list f) ≡ (is_the (pos z) head.tree || any_of (is_the (pos z)) (to_list head.others))
    unfolding any_of to_list
    it_or_others = h.same ∙ ap (λ g. any_of (is_the (pos z)) (to_list g)) head.whole

    pub found : is_the (pos z) head.tree ≡ true → any_of (is_the (pos z)) (to_list f) ≡ true
    found e = it_or_others ∙ ap (λ b. b || any_of (is_the (pos z)) (to_list head.others)) e

    pub passed : (next rest : ℕ) → is_the (pos z) head.tree ≡ false → next ≡ at + records head.tree → rest + 1 ≡ left → Left s z f next rest
    passed next rest e n r =
        let fewer : left - 1 ≡ rest = omega arith in
        record {
          others = head.others;
          stand = subst (λ k. ToldTrees note s next k head.others) fewer (after_first head next n);
          same = it_or_others ∙ ap (λ b. b || any_of (is_the (pos z)) (to_list head.others)) e;
        }

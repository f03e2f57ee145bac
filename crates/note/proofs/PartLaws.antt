-- Where one part takes up another their keys are the same, and the key stays: rests, or bases, that are equal have equal notes, and
-- all integer bases have one key.
use Rattle.std.proofs.Common.{◌≡◌, ℕ, Bool, true, false, sym, refl, ap, ◌∙◌}
use mathlib.Core.Option.{some, some-injective, none-ne-some}
use Rattle.paper.specs.Tree.{Tree}
use Rattle.paper.specs.Equal.{equal}
use Rattle.paper.specs.Rules.{Term, added, add_if, merge_terms, Factor, merge_factors}
use Rattle.paper.proofs.EqualView.{Same, s_integer, s_symbol, s_sum, s_product, s_power, same_view}
use Rattle.paper.proofs.MergeFactors.{Merged, by_bases, by_exponents, times_bases, add_exponents, merge_factors_some}
use Rattle.note.specs.Part.{term_key, base_key, factor_key}
use Rattle.note.proofs.KeyLaws.{note_equal, same_note}

-- a part that takes up another has its key, and keeps it
pub record OneKey (a b c : ℕ) : Type 0 where
  pub same : a ≡ b
  pub stays : c ≡ a

pub term_key_lem : (c x d : Term) → merge_terms c x ≡ some d → OneKey (term_key c) (term_key x) (term_key d)
unfolding merge_terms add_if added term_key
term_key_lem c x d m = go (equal c.rest x.rest) refl m
  where
    go : (b : Bool) → equal c.rest x.rest ≡ b → add_if b c x ≡ some d → OneKey (term_key c) (term_key x) (term_key d)
    go true e m = record {
      same = note_equal c.rest x.rest e;
      stays = ap term_key (sym (some-injective (added c x) d m));
    }
    go false e m = absurd (none-ne-some d m)

-- equal bases have one key
same_base : {t u : Tree} → Same t u → base_key t ≡ base_key u
unfolding base_key
same_base s_integer = refl
same_base s_symbol = same_note s_symbol
same_base (s_sum r) = same_note (s_sum r)
same_base (s_product r) = same_note (s_product r)
same_base (s_power r) = same_note (s_power r)

merged_key : {c x d : Factor} → Merged c x d → OneKey (factor_key c) (factor_key x) (factor_key d)
unfolding factor_key base_key times_bases add_exponents
merged_key {c} {x} (by_bases {y} {z} p q e) = record { same = ap base_key p ∙ sym (ap base_key q); stays = sym (ap base_key p) }
merged_key {c} {x} (by_exponents e h) = record { same = same_base (same_view c.base x.base e); stays = refl }

pub factor_key_lem : (c x d : Factor) → merge_factors c x ≡ some d → OneKey (factor_key c) (factor_key x) (factor_key d)
factor_key_lem c x d m = merged_key (merge_factors_some c x d m)

-- of terms and of factors
pub part_key_lem : ((c x d : Term) → merge_terms c x ≡ some d → OneKey (term_key c) (term_key x) (term_key d))
    × ((c x d : Factor) → merge_factors c x ≡ some d → OneKey (factor_key c) (factor_key x) (factor_key d))
part_key_lem = (term_key_lem, factor_key_lem)

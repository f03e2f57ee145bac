-- The keys of parts in the walk: a member's key is that of its part, a part that takes up another keeps its key, and one takes up another
-- only where 15 bits of their keys are the same. By the law of keys where one part takes up another (`part_key_lem`).
use Rattle.std.proofs.Common.{◌≡◌, Bool, true, false, sym, refl, ap, ◌∙◌}
use mathlib.Core.Option.{Option, none, some}
use Rattle.paper.specs.Tree.{Tree}
use Rattle.note.specs.Part.{part_key}
use Rattle.note.proofs.PartLaws.{OneKey, part_key_lem}
use Rattle.part.specs.Like.{Like, split, merge}
use Rattle.walk.specs.Listed.{short_key}
use Rattle.walk.specs.Walked.{key_of}

pub member_key : (b : Bool) (t : Tree) → part_key b t ≡ key_of b (split b t)
unfolding part_key
member_key true t = refl
member_key false t = refl

pub one_key : (b : Bool) (c x d : Like b) → merge b c x ≡ some d → OneKey (key_of b c) (key_of b x) (key_of b d)
one_key true c x d m = part_key_lem.0 c x d m
one_key false c x d m = part_key_lem.1 c x d m

pub key_stays : (b : Bool) (c x d : Like b) → merge b c x ≡ some d → key_of b d ≡ key_of b c
key_stays b c x d m = (one_key b c x d m).stays

pub apart_by_key : (b : Bool) (c : Like b) (t : Tree) → (short_key (part_key b t) ≡ short_key (key_of b c) → ⊥) → merge b c (split b t) ≡ none
apart_by_key b c t h = go (merge b c (split b t)) refl
  where
    go : (r : Option (Like b)) → merge b c (split b t) ≡ r → r ≡ none
    go none e = refl
    go (some d) e = absurd (h (ap short_key (member_key b t ∙ sym (one_key b c (split b t) d e).same)))

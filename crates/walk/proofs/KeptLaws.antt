-- A member that comes out as it stands: it was copied where a record is answered, and where none is it was not, and nothing was written; and the turn of
-- a member that is alone with its key passes all later ones by.
use Rattle.std.proofs.Common.{◌≡◌, ℕ, ◌+◌, ◌*◌, ◌<◌, ◌≤◌, Bool, true, false, ltb, List, [], ◌∷◌, map, length, None, Some, refl, arith, ltb-true}
use Rattle.paper.specs.Tree.{Tree, records}
use Rattle.paper.proofs.Tests.{and_both}
use Rattle.note.specs.Note.{note}
use Rattle.note.specs.Noted.{encode_by}
use Rattle.stretch.specs.Put.{put}
use Rattle.part.specs.Like.{split, merge}
use Rattle.walk.specs.Listed.{Entry, Entries}
use Rattle.walk.specs.Lone.{is_lone}
use Rattle.walk.specs.Numbers.{Unlike}
use Rattle.walk.specs.Walked.{KeptIs}
use Rattle.walk.proofs.TurnLaws.{Refuses}

pub kept_where : (b : Bool) (t : Tree) (o o' : List ℕ) (e r : ℕ) → KeptIs b t o o' e (Some r)
    → (b ≡ true) × (r ≡ e + records t) × (o' ≡ put o (e * 16) (encode_by note t))
kept_where true t o o' e r h = (refl, h.0, h.1)
kept_where false t o o' e r h = absurd h

pub new_where : (b : Bool) (t : Tree) (o o' : List ℕ) (e : ℕ) → KeptIs b t o o' e None → (b ≡ false) × (o' ≡ o)
new_where true t o o' e h = absurd h
new_where false t o o' e h = (refl, h)

-- the member at entry i takes up none of the later ones, where those of later entries, from x on, are all unlike it
pub lone_refuses : (b : Bool) (w : List ℕ) (p i n : ℕ) (t : Tree) (l : List Tree) (x : ℕ) → Entry b w p i t → Entries b w p x l → x + length l ≤ n
    → ((y : ℕ) → x ≤ y → y < n → Unlike b w p i y) → Refuses (merge b) (split b t) (map (split b) l)
lone_refuses b w p i n t [] x own e few h = tt
lone_refuses b w p i n t (u ∷ l) x own e few h =
    ((h x (omega arith) (omega arith) t u own e.0).0, lone_refuses b w p i n t l (x + 1) own e.1 (omega arith) (λ y g. h y (omega arith)))

-- the bit of an entry that is said to be alone with its key
pub lone_bit : (high : ℕ) (told : Bool) → is_lone high told ≡ true → (told ≡ true) × (128 ≤ high)
unfolding is_lone
lone_bit high told h = let both = and_both told (ltb 127 high) h in (both.0, ltb-true 127 high both.1)

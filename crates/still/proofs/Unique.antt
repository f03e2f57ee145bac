-- Each contract, as the check reads it off the source, leaves one answer open and no other: some tree stands at the record, or some keys
-- are kept, and both ends of a call equal one definition of these. What `still` leaves in its scratch is not said.
use mathlib.Core.Path.{refl, sym, ◌∙◌}
use mathlib.Core.List.{List}
use Prim.Native.Nat.{ℕ}
use Rattle.paper.specs.Once.{Once, OnceLeft}
use Rattle.still.proofs.is_new.Reads as is-new
use Rattle.still.proofs.is_new.Kinds as is-new-kinds
use Rattle.still.proofs.still.Reads as still
use Rattle.still.proofs.still.Kinds as still-kinds
use Rattle.still.proofs.keep_key.Reads as keep-key
use Rattle.still.proofs.keep_key.Kinds as keep-key-kinds

pub is_new_once : Once 1 is-new-kinds.ps is-new-kinds.r is-new.Pre is-new.Post
is_new_once κs a v v' x x' h p q = p h.0 h.1 ∙ sym (q h.0 h.1)

pub still_once : Once 2 still-kinds.ps still-kinds.r still.Pre still.Post
still_once κs a v v' x x' h p q = p.0 h.0 h.1 ∙ sym (q.0 h.0 h.1)

pub keep_key_once : OnceLeft 1 keep-key-kinds.ps keep-key-kinds.r keep-key.Pre keep-key.Post (List ℕ) (λ κs x. x.0.now)
keep_key_once κs a v v' x x' h p q = (refl, p ∙ sym q)

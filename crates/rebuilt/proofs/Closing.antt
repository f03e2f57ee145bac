-- Closing the node that was put into a table: what `close` asks for is there, and what it promises makes the records those of the noted
-- node. And which of the trees that are written are well-formed.
use Prim.Native.Nat.{ℕ, ◌+◌, ◌*◌, ◌^◌, ◌<◌, ◌≤◌}
use mathlib.Core.Path.{◌≡◌, ap, ◌∙◌}
use mathlib.Core.List.{List, [], ◌∷◌, ◌++◌}
use native.Mathlib.Omega.{arith}
use lib.ListN.{length, drop, length-append}
use lib.Dec.{lit≤}
use Rattle.paper.specs.Bytes.{bytes, signed}
use Rattle.paper.specs.Tree.{Tree, Forest, integer, product, power, count, to_list, of_list}
use Rattle.paper.specs.WellFormed.{Mark, WF, WFs}
use Rattle.paper.specs.Standing.{Stands, kind_number}
use Rattle.paper.proofs.EncodeLaws.{signed_in_range}
use Rattle.paper.proofs.WFLaws.{wf_list, list_wf, wf_append, count_list, list_count}
use Rattle.note.specs.Note.{note}
use Rattle.note.specs.Noted.{encode_by, Unnoted}
use Rattle.note.proofs.CloseLaws.{unclosed, closable, closed_put}
use Rattle.stretch.specs.Put.{put}
use Rattle.stretch.proofs.Laws.{drop_put_at}
use Rattle.rebuilt.specs.Written.{Light, paired, lengthened}

put_stands : (d d' x : List ℕ) (m : ℕ) → m * 16 ≤ length d → d' ≡ put d (m * 16) x → Stands d' m x
put_stands d d' x m r p =
    record { after = drop (m * 16 + length x) d; there = ap (drop (m * 16)) p ∙ drop_put_at d (m * 16) x r }

module _ (u : Tree) (light : Light u) (node : 2 ≤ kind_number u) (d d' : List ℕ) (m : ℕ) (r : m * 16 ≤ length d)
    (p : d' ≡ put d (m * 16) (unclosed u)) where
  pub put_closable : Unnoted d' m u
  put_closable = closable u light.0 node light.1 (put_stands d d' (unclosed u) m r p)

  pub put_closed : (e : List ℕ) → ((t : Tree) → Unnoted d' m t → e ≡ put d' (m * 16 + 8) (bytes 8 (note t)))
      → e ≡ put d (m * 16) (encode_by note u)
  put_closed e told = closed_put u light.0 node d d' e (m * 16) r p (told u put_closable)

-- ---- products and powers are nodes
pub product_node : (μ : ℕ) (f : Forest) → 2 ≤ kind_number (product μ f)
unfolding kind_number
product_node μ f = lit≤ tt

pub power_node : (μ : ℕ) (b : Tree) (ξ e : ℕ) → 2 ≤ kind_number (power μ b ξ e)
unfolding kind_number
power_node μ b ξ e = lit≤ tt

-- ---- products with a coefficient
pub paired_wf : (μ n : ℕ) (t : Tree) → Mark μ → n < 2 ^ 64 → WF t → WF (paired μ n t)
unfolding of_list count
paired_wf μ n t m l w = (omega arith, ((signed_in_range n l, m), (w, tt)), m)

pub lengthened_wf : (μ n : ℕ) (f : Forest) → Mark μ → n < 2 ^ 64 → 2 ≤ count f → WFs f → WF (lengthened μ n f)
lengthened_wf μ n f m l two w = (
  omega (arith, list_count (to_list f ++ last), length-append (to_list f) last, count_list f),
  list_wf (to_list f ++ last) (wf_append (to_list f) last (wf_list f w) ((signed_in_range n l, m), tt)),
  m,
)
  where
    last : List Tree
    last = integer μ (signed n) ∷ []

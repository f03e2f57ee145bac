-- The calls from C on settings. A fetch writes number, place (always 0: "A refusal number that a later request adds has place 0"), setting
-- and, in the new release, unit to its answer slice, as every call of the paper does. A store and a remove have no more to say than the
-- number that they return, and have no such slice: `called` is what they answer and leave.
use Rattle.std.specs.Prelude.{ℕ, List, [], ◌∷◌}
use Rattle.paper.specs.Calls.{returned, answered}
use Rattle.paper_settings.specs.Settings.{new_release, Reply, OldReply, fetched, fetched_old}

unfoldable pub reply_numbers : Reply → List ℕ
reply_numbers r = r.number ∷ 0 ∷ r.setting ∷ r.unit ∷ []

unfoldable pub old_numbers : OldReply → List ℕ
old_numbers r = r.number ∷ 0 ∷ r.setting ∷ []

-- simmergate_settings_fetch: of a key, an area and the answer slice, what it returns and the slice afterwards
unfoldable pub fetch_returns : ℕ → List ℕ → List ℕ → ℕ
fetch_returns k a slice = returned (reply_numbers (fetched new_release k a)) (fetched new_release k a).number slice

unfoldable pub fetch_answers : ℕ → List ℕ → List ℕ → List ℕ
fetch_answers k a slice = answered (reply_numbers (fetched new_release k a)) slice

-- simmergate_settings_fetch_1
unfoldable pub old_returns : ℕ → List ℕ → List ℕ → ℕ
old_returns k a slice = returned (old_numbers (fetched_old k a)) (fetched_old k a).number slice

unfoldable pub old_answers : ℕ → List ℕ → List ℕ → List ℕ
old_answers k a slice = answered (old_numbers (fetched_old k a)) slice

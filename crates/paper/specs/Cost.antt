-- What the tries of a run may come to, by the weight of its tree: more than any run takes (Demands: `Bounded`), and so made that the cost of the parts
-- is within the cost of the whole. The driver's contracts keep the count of tries in its range by it.
use Rattle.std.specs.Prelude.{ℕ, ◌+◌, ◌*◌}

unfoldable pub cost : ℕ → ℕ
cost w = w + w * (w * w)

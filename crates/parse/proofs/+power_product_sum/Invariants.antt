-- The measures of `parse::sum`, `product` and `power`, which call each other, and what their loops keep. They end because the text left falls: a group
-- begins behind its parenthesis, and at one place a sum asks a product and a product a power. A loop stands before a member, as `Turn` has it.
use Rattle.std.proofs.Common.{◌≡◌, ◌+◌, ◌-◌, ◌*◌, length}
use Rattle.paper_text.specs.Levels.{read_cut}
use Rattle.parse.specs.Joined.{Turn}
use Rattle.parse.proofs.LevelReads.{sums, products}
use Rattle.parse.proofs.+power_product_sum.Given as goal

abbrev pub decreases-power : goal.decreases-power
decreases-power l = 3 * (length l.text.now.now - l.r.now.place)

abbrev pub decreases-product : goal.decreases-product
decreases-product l = 3 * (length l.text.now.now - l.r.now.place) + 1

abbrev pub decreases-sum : goal.decreases-sum
decreases-sum l = 3 * (length l.text.now.now - l.r.now.place) + 2

abbrev pub invariant-product-loop-c : goal.invariant-product-loop-c
invariant-product-loop-c l = record {
  level : l.r.level ≡ l.fn.r.level;
  turn : Turn (products (read_cut l.fn.r.level)) l.text.now l.fn.r.out.now l.fn.r.place l.fn.r.next l.fn.r.weight l.c l.r.out.now l.r;
  name : l.r.out.ghost_name ≡ l.fn.r.out.ghost_name;
  same : length l.r.out.now ≡ length l.fn.r.out.now;
}

abbrev pub decreases-product-loop-c : goal.decreases-product-loop-c
decreases-product-loop-c l = length l.text.now - l.r.place

abbrev pub invariant-sum-loop-c : goal.invariant-sum-loop-c
invariant-sum-loop-c l = record {
  level : l.r.level ≡ l.fn.r.level;
  turn : Turn (sums (read_cut l.fn.r.level)) l.text.now l.fn.r.out.now l.fn.r.place l.fn.r.next l.fn.r.weight l.c l.r.out.now l.r;
  name : l.r.out.ghost_name ≡ l.fn.r.out.ghost_name;
  same : length l.r.out.now ≡ length l.fn.r.out.now;
}

abbrev pub decreases-sum-loop-c : goal.decreases-sum-loop-c
decreases-sum-loop-c l = length l.text.now - l.r.place

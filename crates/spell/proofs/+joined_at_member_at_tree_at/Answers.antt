-- `spell::tree_at`, `member_at` and `joined_at`, which call each other, meet their contracts. A tree's text is put by the law of its kind.
use Rattle.std.proofs.Common.{◌≡◌, ◌<◌, ◌≤◌, ◌+◌, ◌-◌, ◌∙◌, refl, rules, arith}
use Rattle.paper.specs.Verdict.{records_in}
use Rattle.paper_text.specs.Text.{in_sum, in_product, as_base}
use Rattle.spell.specs.Spelt.{least_rank, place_of}
use Rattle.spell.specs.Ranks.{number_of}
use Rattle.spell.proofs.MemberLaws.{first_there, others_there, first_ahead, first_room, joined_put, begins, member_there, goes_on, ends}
use Rattle.spell.proofs.LongLaws.{closing_room}
use Rattle.spell.proofs.RankLaws.{bare_there, grouped_there}
use Rattle.spell.proofs.TreeLaws.{inside, kind_as, behind, sum_there, sum_put, product_there, product_put}
use Rattle.spell.proofs.TreeLaws.{base_there, exponent_inside, sign_room, power_put, bare_put, grouped_put}
use Rattle.spell.proofs.+joined_at_member_at_tree_at.Goals as goal

-- ---- joined_at: the loop stands behind the first member
pub joined_at-member_at-requires : goal.joined_at-member_at-requires
joined_at-member_at-requires t c =
    let p = c.requires in
    let m = c.decreases in
    (omega (arith, m), (p.0, first_there p.2 p.1, p.3, p.4))

pub joined_at-loop-init : goal.joined_at-loop-init
joined_at-loop-init t c =
    let p = c.requires in
    record { joining = begins (first_room p.2 c.member_at.ensures.member_put p.1 p.3 p.4); name = refl }

pub joined_at-member_at-requires-in-loop : goal.joined_at-member_at-requires-in-loop
joined_at-member_at-requires-in-loop t c =
    let p = c.requires in
    let m = c.decreases in
    let joining = c.loop.invariant.joining in
    let first = c.member_at.ensures.member_put in
    let x = first_ahead p.2 first p.1 p.3 in
    let y = joining.ahead in
    let f = joining.roomy.fits in
    let z = c.put_sign-w.ensures.end in (
      omega (arith, x, y, m),
      (p.0, member_there joining (others_there p.2 first p.1 p.3) p.3 (omega arith), p.3, record { fits = omega (arith, f, z) }),
    )

pub joined_at-loop-preserved : goal.joined_at-loop-preserved
joined_at-loop-preserved t c =
    let p = c.requires in
    let member = c.member_at-in-loop in
    let long = member.ensures.area_kept.1 in
    let left : c.args.n - (c.loop.counter + 1) ≡ c.args.n - c.loop.counter - 1 = omega arith in
    record {
      joining =
          rw left
          (goes_on c.loop.invariant.joining (omega arith) c.put_sign-w.ensures (place_of member.new.w) member.ensures.member_put
          (others_there p.2 c.member_at.ensures.member_put p.1 p.3) p.3 (search (rules, long)));
      name = member.ensures.area_kept.0 ∙ c.loop.invariant.name;
    }

pub joined_at-returns-clause-members_put : goal.joined_at-returns-clause-members_put
joined_at-returns-clause-members_put t c =
    let p = c.requires in
    joined_put p.2 c.member_at.ensures.member_put c.args.sign (ends c.loop.invariant.joining (omega arith))

-- ---- member_at
pub member_at-returns-then-lt-clause-member_put : goal.member_at-returns-then-lt-clause-member_put
member_at-returns-then-lt-clause-member_put t c =
    let rank = c.rank_at in
    let below : number_of rank.result < number_of c.args.least = search rules in
    λ p u e h. bare_put p u (bare_there p u (number_of rank.result) (number_of c.args.least) (rank.ensures u h) e below) (c.tree_at.ensures.tree_put u h)

pub member_at-put_sign-w-requires-2 : goal.member_at-put_sign-w-requires-2
member_at-put_sign-w-requires-2 t c =
    let p = c.requires in
    let u = p.1 in
    closing_room c.put_sign-w.result c.tree_at-2.new.w.end u.tree u.there p.3 c.put_sign-w.ensures.end
    (c.tree_at-2.ensures.tree_put u.tree u.there).text_put.end

pub member_at-returns-clause-member_put : goal.member_at-returns-clause-member_put
member_at-returns-clause-member_put t c =
    let rank = c.rank_at in
    let from : number_of c.args.least ≤ number_of rank.result = search rules in
    λ p u d h. grouped_put p u (grouped_there p u (number_of rank.result) (number_of c.args.least) (rank.ensures u h) d from) c.put_sign-w.ensures
    (c.tree_at-2.ensures.tree_put u h) c.put_sign-w-2.ensures

-- ---- tree_at
pub tree_at-at-requires : goal.tree_at-at-requires
tree_at-at-requires t c = inside c.requires.1

pub tree_at-overflow_add-w : goal.tree_at-overflow_add-w
tree_at-overflow_add-w t c =
    let w = inside c.requires.1 in
    let l = c.requires.0 in
    record { fits = omega (arith, w, l) }

pub tree_at-count-requires : goal.tree_at-count-requires
tree_at-count-requires t c = inside c.requires.1

pub tree_at-joined_at-requires : goal.tree_at-joined_at-requires
unfolding records_in least_rank
tree_at-joined_at-requires t c =
    let p = c.requires in
    let m = c.decreases in
    let w = inside p.1 in
    let q = sum_there c.count.ensures.0 p.1 (kind_as p.1 c.in-Sum.ensures.named) in
    (omega (arith, w, m), (p.0, q.0, q.1, (in_sum, refl), behind p.1 p.2))

pub tree_at-returns-in-Sum-clause-tree_put : goal.tree_at-returns-in-Sum-clause-tree_put
tree_at-returns-in-Sum-clause-tree_put t c =
    λ u h. sum_put c.count.ensures.0 u h (kind_as c.requires.1 c.in-Sum.ensures.named) c.joined_at.ensures.members_put

pub tree_at-count-requires-in-Product : goal.tree_at-count-requires-in-Product
tree_at-count-requires-in-Product t c = inside c.requires.1

pub tree_at-joined_at-requires-in-Product : goal.tree_at-joined_at-requires-in-Product
unfolding records_in least_rank
tree_at-joined_at-requires-in-Product t c =
    let p = c.requires in
    let m = c.decreases in
    let w = inside p.1 in
    let q = product_there c.count-in-Product.ensures.0 p.1 (kind_as p.1 c.in-Product.ensures.named) in
    (omega (arith, w, m), (p.0, q.0, q.1, (in_product, refl), behind p.1 p.2))

pub tree_at-returns-in-Product-clause-tree_put : goal.tree_at-returns-in-Product-clause-tree_put
tree_at-returns-in-Product-clause-tree_put t c =
    λ u h. product_put c.count-in-Product.ensures.0 u h (kind_as c.requires.1 c.in-Product.ensures.named) c.joined_at-in-Product.ensures.members_put

pub tree_at-member_at-requires : goal.tree_at-member_at-requires
unfolding records_in least_rank
tree_at-member_at-requires t c =
    let p = c.requires in
    let m = c.decreases in
    let w = inside p.1 in
    (omega (arith, w, m), (p.0, base_there p.1 (kind_as p.1 c.in-Power.ensures.named), (as_base, refl), behind p.1 p.2))

pub tree_at-overflow_add-w-in-Power : goal.tree_at-overflow_add-w-in-Power
tree_at-overflow_add-w-in-Power t c =
    let p = c.requires in
    let w = exponent_inside (kind_as p.1 c.in-Power.ensures.named) c.member_at.ensures.member_put p.1 in
    let l = p.0 in
    record { fits = omega (arith, w, l) }

pub tree_at-put_exponent-w-requires : goal.tree_at-put_exponent-w-requires
tree_at-put_exponent-w-requires t c =
    let p = c.requires in
    let k = kind_as p.1 c.in-Power.ensures.named in
    let put = c.member_at.ensures.member_put in
    (exponent_inside k put p.1, sign_room k put p.1 (behind p.1 p.2))

pub tree_at-returns-in-Power-clause-tree_put : goal.tree_at-returns-in-Power-clause-tree_put
tree_at-returns-in-Power-clause-tree_put t c =
    λ u h. power_put (kind_as c.requires.1 c.in-Power.ensures.named) c.member_at.ensures.member_put u h c.put_exponent-w.ensures

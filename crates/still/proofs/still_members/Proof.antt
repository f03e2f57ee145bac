-- `still::still_members` meets its contract: the weight is read off the node's note, and where there is room the members are tested in
-- scratch that lies within 16 bytes for each unit of it.
use Prim.Native.Nat.{ℕ, ◌+◌, ◌*◌, ◌/◌, ◌%◌, ◌^◌, ◌≤◌, ◌<◌}
use mathlib.Core.Path.{sym, ap, ◌∙◌, subst}
use native.Mathlib.Omega.{arith}
use lib.ListN.{length, length-replicate}
use Rattle.paper.specs.Tree.{Tree, weight}
use Rattle.note.specs.Note.{note}
use Rattle.note.specs.Noted.{inner, TreeBy}
use Rattle.still.specs.Keys.{Scratched}
use Rattle.note.proofs.ToldLaws.{noted_told, record_within, kind_number_lem}
use Rattle.still.proofs.SoughtLaws.{Read, members_read, no_room_lem, room_lies, with_room}
use Rattle.still.proofs.KeepLaws.{scratched_none, scratched_both, scratched_more, scratched_put}
use borrow.Author.Rules.{rules}
use Rattle.still.proofs.still_members.Statement.{statement}
use Rattle.still.proofs.still_members.Tie as tie

count_requires : tie.Need-count-n-requires
count_requires c κs = record_within (noted_told c.requires.1.1.there)

bits_requires : tie.Need-bits-requires
bits_requires c κs = record_within (noted_told c.requires.1.1.there)

-- what is read of the node
abbrev start : tie.After-weight_of-w → tie.Start
start c = c.before.before.before.before.before

abbrev many : tie.After-weight_of-w → ℕ
many c = c.count-n.result

read : (c : tie.After-weight_of-w) → Read (start c).args.s.now (start c).args.i (start c).args.k (many c) c.weight_of-w.result
read c =
    let pre = (start c).requires in
    let h = pre.1.1 in
    record {
      kind_read = h.kind_known ∙ sym (kind_number_lem (noted_told h.there));
      low = pre.0.0;
      high = pre.0.1;
      count_read = c.count-n.ensures.0;
      weight_read = c.weight_of-w.ensures ∙ ap (λ v. v / 65536 % 65536) c.bits.ensures;
    }

returns : tie.Need-returns-then-w-n
returns c = (λ t edition q k. no_room_lem (read c.before) q c.if-w-n.true edition, λ t q. scratched_none _ _ _)

-- where there is room
room : (c : tie.Else-w-n) {t : Tree} → TreeBy note (start c.before).args.s.now (start c.before).args.i t
    → many c.before * 40 ≤ 16 * weight t
room c q = room_lies (read c.before) q c.if-w-n.false

room_within : (c : tie.Else-w-n) → (start c.before).args.o + many c.before * 40 ≤ length (start c.before).args.d.now
room_within c = let h = (start c.before).requires.1.1 in omega (arith, room c h.there, h.scratch)

behind : (c : tie.Else-w-n) → (start c.before).args.i + 1 < 2 ^ 64
behind c = omega (arith, record_within (noted_told (start c.before).requires.1.1.there))

add_few_apart : tie.Need-overflow_add-i
add_few_apart c = omega (arith, behind c.before)

few_apart_requires : tie.Need-few_apart-requires
few_apart_requires c κs =
    let some = (start c.before.before.before).requires.1 in
    ((inner some.0, members_read (read c.before.before.before) some.1.there), omega (arith, room_within c.before.before))

returns_2 : tie.Need-returns-then-n-lt-MANY
returns_2 c = (
  λ t edition q k.
      with_room (read c.before.before.before.before.before.before) q c.if-w-n.false c.few_apart.result
      (c.few_apart.ensures.0 (inner t) (members_read (read c.before.before.before.before.before.before) q)) edition,
  λ t q. scratched_more (16 * weight t) (omega (arith, room c.before.before.before.before.before q)) c.few_apart.ensures.1,
)

clear_requires : tie.Need-clear-requires
clear_requires c κs = omega (arith, room_within c.before.before)

odd_key_requires : tie.Need-odd_key-x-requires
odd_key_requires c κs = record_within (noted_told (start c.before.before.before.before.before.before).requires.1.1.there)

add_members_apart : tie.Need-overflow_add-i-2
add_members_apart c = omega (arith, behind c.before.before.before.before.before.before)

members_apart_requires : tie.Need-members_apart-requires
members_apart_requires c κs =
    let some = (start c.before.before.before.before.before.before.before.before).requires.1 in (
      (inner some.0, members_read (read c.before.before.before.before.before.before.before.before) some.1.there),
      (omega (arith, room_within c.before.before.before.before.before.before.before, c.clear.auto.d), omega arith),
    )

returns_3 : tie.Need-returns
returns_3 c =
    let clear = c.clear in
    let g = (start c.before.before.before.before.before.before.before.before.before.before.before).args in
    let n = many c.before.before.before.before.before.before.before.before.before.before.before in
    let cleared : Scratched g.d.now clear.new.d g.o (n * 40) =
    subst (λ y. Scratched g.d.now y g.o (n * 40)) (sym clear.ensures)
    (scratched_put g.d.now g.o (n * 40) (g.o + n * 8) _ (omega arith) (omega (arith, length-replicate {A = ℕ} (n * 32) 0))
    (room_within c.before.before.before.before.before.before.before.before.before.before)) in (
      λ t edition q k.
          with_room (read c.before.before.before.before.before.before.before.before.before.before.before) q c.if-w-n.false c.members_apart.result
          (c.members_apart.ensures.0 (inner t) (members_read (read c.before.before.before.before.before.before.before.before.before.before.before) q)) edition,
      λ t q. scratched_more (16 * weight t) (room c.before.before.before.before.before.before.before.before.before.before q)
          (scratched_both cleared c.members_apart.ensures.1),
    )

pub still_members_spec : {M : Type 1} → statement M
still_members_spec =
    tie.close
    (tie.spec
    count_requires bits_requires (λ c κs. search rules) (λ c. search rules) (λ c. search rules) returns add_few_apart few_apart_requires
    (λ c. search rules) returns_2 (λ c. search rules) (λ c. search rules) (λ c. search rules) clear_requires odd_key_requires add_members_apart
    members_apart_requires (λ c. search rules) returns_3)

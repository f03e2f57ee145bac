-- `still::keep_key` meets its contract: two stores, and eight bytes written.
use Prim.Native.Nat.{◌+◌, ◌*◌}
use mathlib.Core.Path.{ap, ◌∙◌}
use native.Mathlib.Omega.{arith}
use lib.ListN.{set, length-set}
use Rattle.paper.specs.Bytes.{bytes}
use Rattle.stretch.specs.Put.{put}
use Rattle.still.specs.Keys.{flag_of, keeping}
use borrow.Author.Rules.{rules}
use Rattle.still.proofs.keep_key.Statement.{statement}
use Rattle.still.proofs.keep_key.Tie as tie

slice_write_d_2 : tie.Need-bounds-d-g
slice_write_d_2 c =
    let a = c.args in
    let h = c.requires.1 in
    omega (arith, length-set a.d.now c.flag_at-f.result 1, c.flag_at-g.ensures.1, h.room)

write8_requires : tie.Need-write8-requires
write8_requires c κs =
    let d = c.args.d.now in
    let h = c.requires.1 in
    let once = set d c.flag_at-f.result 1 in
    omega (arith, length-set d c.flag_at-f.result 1, length-set once c.flag_at-g.result 1, h.place, h.room)

same_length : tie.Need-shape_of-d
same_length c =
    let d = c.args.d.now in
    c.write8.auto.d
    ∙ length-set (set d c.flag_at-f.result 1) c.flag_at-g.result 1
    ∙ length-set d c.flag_at-f.result 1

returns : tie.Need-returns
unfolding keeping
returns c =
    let a = c.args in
    let place = c.flag_at-g.ensures.0 ∙ ap (λ y. a.o + a.n * 8 + flag_of a.n y a.key) c.turned.ensures.0 in
    c.write8.ensures
    ∙ ap (λ x. put (set (set a.d.now x 1) c.flag_at-g.result 1) (a.o + a.m * 8) (bytes 8 a.key)) c.flag_at-f.ensures.0
    ∙ ap (λ x. put (set (set a.d.now (a.o + a.n * 8 + flag_of a.n a.x a.key) 1) x 1) (a.o + a.m * 8) (bytes 8 a.key)) place

pub keep_key_spec : {M : Type 1} → statement M
keep_key_spec =
    tie.close
    (tie.spec
    (λ c κs. search rules) (λ c. search rules) (λ c κs. search rules) (λ c κs. search rules) slice_write_d_2 (λ c. search rules) (λ c. search rules)
    write8_requires same_length returns)

-- Each form of a part has its own function, and a part of that form is a term or a factor, whose member is the part's member; a term out of
-- range becomes none. So the room that the contract asks for is the room that the function asks for, and its answer is the answer.
use Rattle.std.proofs.Common.{refl, sym, Bool, subst, Ok}
use Rattle.paper.specs.Tree.{Tree}
use Rattle.rebuilt.specs.Written.{WrittenIs, Fitting}
use Rattle.rebuilt.proofs.WriteLaws.{a_term, a_wide, a_power, a_number}
use Rattle.rebuilt.proofs.write_part.Goals as goal

pub write_term-requires : goal.write_term-requires
write_term-requires c =
    let q = c.requires in
    let t = a_term c.args.s.now c.in-Term.is q.0 q.1 q.2 in
    (t.0, t.1, subst (λ (y : Tree × Bool). Fitting y c.args.out.now c.args.m) t.2 q.3)

pub write_power-requires : goal.write_power-requires
write_power-requires c =
    let q = c.requires in
    let t = a_power c.args.s.now c.in-Power.is q.0 q.1 q.2 in
    (t.0, t.1, subst (λ (y : Tree × Bool). Fitting y c.args.out.now c.args.m) t.2 q.3)

pub write_number-requires : goal.write_number-requires
write_number-requires c =
    let q = c.requires in
    let t = a_number c.args.s.now c.in-Number.is q.0 q.1 q.2 in
    (t.0, t.1, subst (λ (y : Tree × Bool). Fitting y c.args.out.now c.args.m) t.2 q.3)

pub returns-in-Term : goal.returns-in-Term
returns-in-Term c b x h =
    let g = c.args in
    let w = c.write_term in
    let t = a_term g.s.now c.in-Term.is b x h in
    subst (λ (y : Tree × Bool). WrittenIs y g.out.now w.new.out g.m (Ok w.result)) (sym t.2) (w.ensures t.0 t.1)

-- a term out of range
pub returns-in-Wide : goal.returns-in-Wide
returns-in-Wide c b x h = (a_wide c.args.s.now c.in-Wide.is b x h, refl)

pub returns-in-Power : goal.returns-in-Power
returns-in-Power c b x h =
    let g = c.args in
    let w = c.write_power in
    let t = a_power g.s.now c.in-Power.is b x h in
    subst (λ (y : Tree × Bool). WrittenIs y g.out.now w.new.out g.m (Ok w.result)) (sym t.2) (w.ensures t.0 t.1)

pub returns-in-Number : goal.returns-in-Number
returns-in-Number c b x h =
    let g = c.args in
    let w = c.write_number in
    let t = a_number g.s.now c.in-Number.is b x h in
    subst (λ (y : Tree × Bool). WrittenIs y g.out.now w.new.out g.m (Ok w.result)) (sym t.2) (w.ensures t.0 t.1)

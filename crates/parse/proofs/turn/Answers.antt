-- One law a kind of character.
use Rattle.std.proofs.Common.{arith}
use Rattle.parse.proofs.BlockLaws.{one_deeper, block_read, block_bad, back_up, back_out, other}
use Rattle.parse.proofs.turn.Goals as goal

pub returns-in-40 : goal.returns-in-40
returns-in-40 c =
    let a = c.args in
    let q = c.requires in
    one_deeper a.text.now a.i a.left a.k q.0 c.in-40.is c.if-left-gt0.true q.1

pub returns-in-40-2 : goal.returns-in-40-2
returns-in-40-2 c =
    let a = c.args in
    block_read a.text.now a.i a.left a.k c.requires.0 c.group_reads.result c.in-40.is c.if-left-gt0.false c.group_reads.ensures c.if-group_reads.true

pub returns-in-40-3 : goal.returns-in-40-3
returns-in-40-3 c =
    let a = c.args in
    block_bad a.text.now a.i a.left a.k c.requires.0 c.group_reads.result c.in-40.is c.if-left-gt0.false c.group_reads.ensures c.if-group_reads.false

pub returns-in-41 : goal.returns-in-41
returns-in-41 c =
    let a = c.args in
    let h = c.in-41.is in
    back_up a.text.now a.i a.left a.k c.requires.0 (λ e. omega (arith, e, h)) h c.if-left-k.true

pub returns-in-41-2 : goal.returns-in-41-2
returns-in-41-2 c =
    let a = c.args in
    let h = c.in-41.is in
    back_out a.text.now a.i a.left a.k c.requires.0 (λ e. omega (arith, e, h)) h c.if-left-k.false

pub returns-in_default : goal.returns-in_default
returns-in_default c =
    let a = c.args in
    let q = c.requires in
    other a.text.now a.i a.left a.k q.0 (λ e. omega (arith, e)) (λ e. omega (arith, e)) q.1

-- `table::glance`: each kind that is told is one form of a record by its halves, and where none is told the halves have none of the forms, by
-- the tests before (SeenLaws).
use native.Mathlib.Omega.{arith}
use Rattle.paper.proofs.BytesLaws.{are_bytes}
use Rattle.table.proofs.SeenLaws.{formless, untold, integer, symbol, power, members}
use Rattle.table.proofs.glance.Goals as goal

pub returns-then-h-ge-BYTE_6 : goal.returns-then-h-ge-BYTE_6
returns-then-h-ge-BYTE_6 c =
    formless c.args.s.now c.args.i (are_bytes c.args.s.now c.type_inv.s) _ _ c.read8-h.ensures c.bits-v.ensures (omega arith)

pub returns-then-front-lt-SYMBOL : goal.returns-then-front-lt-SYMBOL
returns-then-front-lt-SYMBOL c =
    integer c.args.s.now c.args.i (are_bytes c.args.s.now c.type_inv.s) _ c.read8-h.ensures c.if-h-ge-BYTE_6.false (omega arith)

pub returns-then-v-gt-LAST_SYMBOL : goal.returns-then-v-gt-LAST_SYMBOL
returns-then-v-gt-LAST_SYMBOL c =
    formless c.args.s.now c.args.i (are_bytes c.args.s.now c.type_inv.s) _ _ c.read8-h.ensures c.bits-v.ensures
    (untold _ _ c.if-h-ge-BYTE_6.false (λ e. omega arith) (λ e l. omega arith) (λ e z. omega arith) (λ z m a b. omega arith))

pub returns-then-front-lt-SUM : goal.returns-then-front-lt-SUM
returns-then-front-lt-SUM c =
    symbol c.args.s.now c.args.i (are_bytes c.args.s.now c.type_inv.s) _ c.read8-h.ensures c.if-h-ge-BYTE_6.false (omega arith) (omega arith)
    (omega arith)

pub returns-then-v-gt0 : goal.returns-then-v-gt0
returns-then-v-gt0 c =
    formless c.args.s.now c.args.i (are_bytes c.args.s.now c.type_inv.s) _ _ c.read8-h.ensures c.bits-v.ensures
    (untold _ _ c.if-h-ge-BYTE_6.false (λ e. omega arith) (λ e l. omega arith) (λ e z. omega arith) (λ z m a b. omega arith))

pub returns-then-front-eq-POWER : goal.returns-then-front-eq-POWER
returns-then-front-eq-POWER c =
    power c.args.s.now c.args.i (are_bytes c.args.s.now c.type_inv.s) _ c.read8-h.ensures c.if-h-ge-BYTE_6.false c.if-front-eq-POWER.true
    (omega arith)

pub returns-then-front : goal.returns-then-front
returns-then-front c =
    formless c.args.s.now c.args.i (are_bytes c.args.s.now c.type_inv.s) _ _ c.read8-h.ensures c.bits-v.ensures
    (untold _ _ c.if-h-ge-BYTE_6.false (λ e. omega arith) (λ e l. omega arith) (λ e z. omega arith) (λ z m a b. omega arith))

pub returns-then-kind-lt-SUM : goal.returns-then-kind-lt-SUM
returns-then-kind-lt-SUM c =
    formless c.args.s.now c.args.i (are_bytes c.args.s.now c.type_inv.s) _ _ c.read8-h.ensures c.bits-v.ensures
    (untold _ _ c.if-h-ge-BYTE_6.false (λ e. omega arith) (λ e l. omega arith) (λ e z. omega arith) (λ z m a b. omega arith))

pub returns-then-kind-gt-PRODUCT : goal.returns-then-kind-gt-PRODUCT
returns-then-kind-gt-PRODUCT c =
    formless c.args.s.now c.args.i (are_bytes c.args.s.now c.type_inv.s) _ _ c.read8-h.ensures c.bits-v.ensures
    (untold _ _ c.if-h-ge-BYTE_6.false (λ e. omega arith) (λ e l. omega arith) (λ e z. omega arith) (λ z m a b. omega arith))

pub returns : goal.returns
returns c =
    members c.args.s.now c.args.i (are_bytes c.args.s.now c.type_inv.s) _ c.read8-h.ensures c.if-h-ge-BYTE_6.false c.if-front.false
    c.if-kind-lt-SUM.false c.if-kind-gt-PRODUCT.false (omega arith)

-- A result that travels as text between two machines at one limit: it is what travels to a machine at any limit that holds it (TextOver), and its own
-- limit does.
use Prim.Native.Nat.{ℕ}
use Rattle.paper_takeover.specs.TakenOver.{arrives, TextTakesOver}
use Rattle.paper_takeover.proofs.LimitTaken.{own_limit}
use Rattle.paper_takeover.proofs.TextOver.{text_takes_over_at}

pub text_takes_over : (lim ed : ℕ) → TextTakesOver lim ed
unfolding arrives
text_takes_over lim ed s b l e line table l' long wide room =
    let t = text_takes_over_at lim lim ed s b l e (own_limit lim ed s b l e) line table long wide l' room in
    record { written = t.written; read = t.read; same_records = t.same_records; same_answer = t.same_answer; same_bytes = t.same_bytes }

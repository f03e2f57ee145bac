-- The examples of the link's calls, by computation, and the takeover at its very edges: a record of 16 bytes, an area, an answer slice and lent areas
-- with not a byte to spare, from the higher limit to the lower.
use mathlib.Core.Path.{◌≡◌, refl, sym, ◌∙◌}
use Prim.Native.Nat.{ℕ}
use mathlib.Core.List.{[], ◌∷◌, ◌++◌}
use lib.ListN.{replicate, length-replicate}
use lib.Dec.{lit≤}
use Rattle.paper.specs.Tree.{symbol, sum, of_list}
use Rattle.paper.specs.Limits.{is_limit, work_bytes}
use Rattle.paper.specs.Table.{encode}
use Rattle.paper.specs.Verdict.{refused}
use Rattle.paper.specs.Answers.{Given, simplified}
use Rattle.paper.specs.Demands.{result}
use Rattle.paper.specs.Takeover.{Room}
use Rattle.paper.proofs.EncodeLaws.{encode_bytes}
use Rattle.paper_receiver.specs.Receiver.{whole}
use Rattle.paper_receiver.proofs.Computed.{receiver_computes}
use Rattle.paper_batch.proofs.Computed.{batch_computes}
use Rattle.paper_takeover.specs.TakenOver.{held_bytes}
use Rattle.paper_takeover.specs.LimitOver.{Holds}
use Rattle.paper_takeover.specs.LinkOver.{Task, after_call, after_calls, returns, over_by, Ready, CallsRepeat}
use Rattle.paper_takeover.specs.TextOver.{TextArrives}
use Rattle.paper_takeover.specs.OverExamples.{first_table, 2*a, lends, simplified_first, cuts, received_whole, wanted_whole, numbers, table_come}
use Rattle.paper_takeover.specs.OverExamples.{refused_numbers, refused_whole, copied_table, over_just, over_longer}
use Rattle.paper_takeover.proofs.LinkOver.{calls_take_over}
use Rattle.paper_takeover.proofs.TextOver.{text_takes_over_at}

pub record LinkShown : Type 0 where
  pub comes : received_whole ≡ wanted_whole
  pub each : numbers ≡ 0 ∷ 0 ∷ 0 ∷ []
  pub table : table_come ≡ encode 2*a
  pub too_short : refused_numbers ≡ 6 ∷ 6 ∷ 6 ∷ []
  pub stays : refused_whole ≡ record { record_bytes = replicate 16 0 ++ (165 ∷ []); area = replicate 49151 165 }
  pub copied : copied_table ≡ encode 2*a
  pub just : over_just ≡ refused 3 0
  pub longer : over_longer ≡ refused 1 0

pub link_shown : LinkShown
unfolding
    batch_computes receiver_computes held_bytes after_call after_calls returns over_by 2*a cuts received_whole wanted_whole numbers table_come
    refused_numbers refused_whole copied_table over_just over_longer
link_shown =
    record { comes = refl; each = refl; table = refl; too_short = refl; stays = refl; copied = refl; just = refl; longer = refl }

-- what the first machine gave: the result, of weight 5
pub record First : Type 0 where
  pub accepted : simplified_first.answer.number ≡ 0
  pub weighs : simplified_first.answer.weight_out ≡ 5
  pub bytes : result simplified_first ≡ encode 2*a
  pub joins : whole cuts ≡ encode 2*a

-- the call looks at the length of the lent `work` alone, so that length stays a variable: 524288 bytes are not computed
abbrev first_in : ℕ → Given
first_in n = simplified 16384 1 first_table (record { out = replicate 112 165; steps = replicate 7 165; work = replicate n 165 })

record FirstIn (n : ℕ) : Type 0 where
  accepted : (first_in n).answer.number ≡ 0
  weighs : (first_in n).answer.weight_out ≡ 5
  bytes : result (first_in n) ≡ encode 2*a

first_in_any : (n : ℕ) → n ≡ 524288 → FirstIn n
unfolding batch_computes result first_table 2*a
first_in_any n e =
    let r = length-replicate {A = ℕ} n 165 in
    record { accepted = rw (r, e) refl; weighs = rw (r, e) refl; bytes = rw (r, e) refl }

cuts_join : whole cuts ≡ encode 2*a
unfolding batch_computes whole 2*a cuts
cuts_join = refl

pub first : First
unfolding lends simplified_first
first =
    let f : FirstIn 524288 = first_in_any 524288 refl in
    record { accepted = f.accepted; weighs = f.weighs; bytes = f.bytes; joins = cuts_join }

-- the lower limit holds it
first_held : Holds 3072 simplified_first
unfolding is_limit
first_held = record { known = refl; light = rw first.weighs (lit≤ tt) }

-- areas for a weight of 5, and no byte more
edge_room : Room 3072 simplified_first.answer.weight_out (lends 80 5 65536)
unfolding work_bytes lends
edge_room = rw first.weighs (record { out_room = lit≤ tt; steps_room = lit≤ tt; work_room = lit≤ tt })

-- over the link
abbrev edge_task : Task
edge_task = record { record_bytes = replicate 16 0; area = replicate 49152 165 }

pub edge_ready : Ready 3072 edge_task
unfolding receiver_computes
edge_ready = record { record_room = lit≤ tt; nothing_yet = refl; area_room = lit≤ tt }

pub link_edge : CallsRepeat 3072 1 simplified_first edge_task cuts (replicate 32 165) (lends 80 5 65536)
unfolding first_table simplified_first
link_edge =
    calls_take_over 16384 3072 1 first_table (encode_bytes (sum 0 (of_list (symbol 7 0 ∷ symbol 0 0 ∷ [])))) (lends 112 7 524288)
    first.accepted first_held edge_task
    edge_ready cuts (first.joins ∙ sym first.bytes) (replicate 32 165) (lit≤ tt) (lends 80 5 65536) edge_room

-- as text
pub text_edge : TextArrives 16384 3072 1 first_table simplified_first (replicate 105 165) (replicate 80 165) (lends 80 5 65536)
unfolding first_table simplified_first
text_edge =
    text_takes_over_at 16384 3072 1 first_table (encode_bytes (sum 0 (of_list (symbol 7 0 ∷ symbol 0 0 ∷ [])))) (lends 112 7 524288) first.accepted first_held
    (replicate 105 165) (replicate 80 165) (rw first.weighs (lit≤ tt)) (rw first.weighs (lit≤ tt)) (lends 80 5 65536) edge_room

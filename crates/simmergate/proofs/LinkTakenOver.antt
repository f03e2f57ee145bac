-- The takeover of a result that comes over the link, from C: of any list of calls that take a piece, each handed the record and the area as the last one
-- left them, of the finish and of the simplifier on what has come, as the contracts that the check reads from the source let them be. The list
-- leaves what the definitions of the calls leave (paper_takeover), so their takeover is that of the calls; also where the pair swaps in the
-- middle of the list, and where the second machine has another limit.
use Prim.Native.Nat.{ℕ, ◌≤◌, ◌<◌}
use mathlib.Core.Path.{◌≡◌, refl, sym, ap, ap₂, ◌∙◌, subst}
use mathlib.Core.Bool.{true}
use mathlib.Core.List.{List, [], ◌∷◌, ◌++◌, map}
use lib.ListN.{length, drop, replicate, length-map}
use Rattle.paper.specs.Limits.{is_limit}
use Rattle.paper.specs.Bytes.{Bytes}
use Rattle.paper.specs.Verdict.{accepted}
use Rattle.paper.specs.Answers.{Given, simplified}
use Rattle.paper.specs.Calls.{verdict_numbers, eights}
use Rattle.paper.specs.Slices.{simplify_bytes}
use Rattle.paper.specs.Demands.{result}
use Rattle.paper.specs.Takeover.{Room, Repeats}
use Rattle.paper.proofs.EncodeLaws.{encode_bytes}
use Rattle.paper.proofs.DemandLaws.{call_done}
use Rattle.paper_receiver.specs.Receiver.{whole}
use Rattle.paper_receiver.specs.Calls.{receive_returns, finish_returns, finish_answers}
use Rattle.paper_takeover.specs.LimitOver.{Holds}
use Rattle.paper_takeover.specs.LinkOver.{Task, after_call, after_calls, returns, table_in, Ready, Arrived, CopiedTask, over_by}
use Rattle.paper_takeover.proofs.LimitTaken.{own_limit}
use Rattle.paper_takeover.proofs.LinkOver.{calls_take_over, calls_too_heavy, swap_takes_over}
use Rattle.simmergate.proofs.FromC.{FromC}
use Rattle.simmergate.proofs.Demanded.{CCall, limit, edition, table, areas, slice, given, call_gives}
use Rattle.simmergate.proofs.receiver_calls.simmergate_receive.Reads as receive-reads
use Rattle.simmergate.proofs.receiver_calls.simmergate_receive.Kinds as receive-kinds
use Rattle.simmergate.proofs.receiver_calls.simmergate_receive_finish.Reads as finish-reads
use Rattle.simmergate.proofs.receiver_calls.simmergate_receive_finish.Kinds as finish-kinds

-- ---- the two calls of the link, as their contracts let them be
abbrev pub ReceiveCCall : Type 0
ReceiveCCall = FromC 3 receive-kinds.ps receive-kinds.r receive-reads.Post

abbrev pub FinishCCall : Type 0
FinishCCall = FromC 3 finish-kinds.ps finish-kinds.r finish-reads.Post

-- the limit, the record and the area that a call finds, the piece, and the record and the area that it leaves
abbrev pub receive_limit : ReceiveCCall → ℕ
receive_limit c = c.handed.0

abbrev pub found : ReceiveCCall → Task
found c = record { record_bytes = c.handed.1.0.now; area = c.handed.1.1.0.now }

abbrev pub piece : ReceiveCCall → List ℕ
piece c = c.handed.1.1.1.0.now

abbrev pub leaves : ReceiveCCall → Task
leaves c = record { record_bytes = c.left.1.0.now; area = c.left.1.1.0.now }

-- of a finish: the limit, the record and the area that it finds, its answer slice, and that slice afterwards
abbrev pub finish_limit : FinishCCall → ℕ
finish_limit f = f.handed.0

abbrev pub finish_found : FinishCCall → Task
finish_found f = record { record_bytes = f.handed.1.0.now; area = f.handed.1.1.0.now }

abbrev pub finish_slice : FinishCCall → List ℕ
finish_slice f = f.handed.1.1.1.0.now

abbrev pub finish_told : FinishCCall → List ℕ
finish_told f = f.left.1.1.1.0.now

-- ---- a list of calls at one limit, each of which finds the record and the area that the last one left: from x to y
pub data Chain (lim : ℕ) : Task → List ReceiveCCall → Task → Type 0 where
  no_call : {x : Task} → Chain lim x [] x
  one_call : {x y : Task} {cs : List ReceiveCCall} (c : ReceiveCCall) → receive_limit c ≡ lim → found c ≡ x → Chain lim (leaves c) cs y → Chain lim x (c ∷ cs) y

abbrev pub pieces : List ReceiveCCall → List (List ℕ)
pieces cs = map piece cs

abbrev pub returned_by : List ReceiveCCall → List ℕ
returned_by cs = map (λ (c : ReceiveCCall). c.returned) cs

-- it leaves, and returns, what the definitions do on its pieces
call_leaves : (c : ReceiveCCall) → leaves c ≡ after_call (receive_limit c) (found c) (piece c)
unfolding after_call
call_leaves c = ap₂ (λ (s l : List ℕ). record { record_bytes = s; area = l }) c.promised.keeps c.promised.leaves

pub chain_leaves : {lim : ℕ} {x y : Task} {cs : List ReceiveCCall} → Chain lim x cs y → y ≡ after_calls lim x (pieces cs)
unfolding after_calls
chain_leaves no_call = refl
chain_leaves {lim = lim} (one_call {cs = cs} c n q ch) =
    chain_leaves ch ∙ ap (λ (z : Task). after_calls lim z (pieces cs)) (call_leaves c ∙ ap₂ (λ (i : ℕ) (z : Task). after_call i z (piece c)) n q)

pub chain_returns : {lim : ℕ} {x y : Task} {cs : List ReceiveCCall} → Chain lim x cs y → returned_by cs ≡ returns lim x (pieces cs)
unfolding returns
chain_returns no_call = refl
chain_returns {lim = lim} (one_call {cs = cs} c n q ch) =
    ap₂ (λ (k : ℕ) (l : List ℕ). k ∷ l) (c.promised.returns ∙ ap₂ (λ (i : ℕ) (z : Task). receive_returns i z.record_bytes z.area (piece c)) n q)
    (chain_returns ch ∙ ap (λ (z : Task). returns lim z (pieces cs)) (call_leaves c ∙ ap₂ (λ (i : ℕ) (z : Task). after_call i z (piece c)) n q))

taken_each : {lim : ℕ} {x y : Task} {cs : List ReceiveCCall} → Chain lim x cs y → returns lim x (pieces cs) ≡ replicate (length (pieces cs)) 0
    → returned_by cs ≡ replicate (length cs) 0
taken_each {cs = cs} ch e = chain_returns ch ∙ e ∙ ap (λ (n : ℕ). replicate n 0) (length-map cs piece)

-- ---- a swap: two lists of calls, the second of which goes on from what the first one left, are one list; and each list can be so parted
pub chain_joins : {lim : ℕ} {x y z : Task} {cs ds : List ReceiveCCall} → Chain lim x cs y → Chain lim y ds z → Chain lim x (cs ++ ds) z
chain_joins no_call next = next
chain_joins (one_call c n q ch) next = one_call c n q (chain_joins ch next)

pub chain_parts : {lim : ℕ} {x z : Task} (cs ds : List ReceiveCCall) → Chain lim x (cs ++ ds) z → (y : Task) × Chain lim x cs y × Chain lim y ds z
chain_parts {x = x} [] ds ch = (x, no_call, ch)
chain_parts {lim = lim} {x = x} {z = z} (c ∷ cs) ds (one_call _ n q ch) = let r = chain_parts {x = leaves c} cs ds ch in (r.0, one_call c n q r.1, r.2)

-- two lists with the same pieces, on whichever machines, from the same record and area: the same numbers, and the same record and area in the end
pub chain_once : {lim : ℕ} {x y y' : Task} {cs ds : List ReceiveCCall} → Chain lim x cs y → Chain lim x ds y' → pieces ds ≡ pieces cs
    → (returned_by ds ≡ returned_by cs) × (y' ≡ y)
chain_once {lim = lim} {x = x} ch dh q = (
  chain_returns dh ∙ ap (returns lim x) q ∙ sym (chain_returns ch),
  chain_leaves dh ∙ ap (after_calls lim x) q ∙ sym (chain_leaves ch),
)

-- ---- one machine simplifies (c); f finishes where the record and the area are y, and d simplifies what has come
pub record Linked (c d : CCall) (f : FinishCCall) (y : Task) : Type 0 where
  pub same_edition : edition d ≡ edition c
  pub table_bytes : Bytes (table c)
  pub first_slice : simplify_bytes ≤ length (slice c)
  pub second_slice : simplify_bytes ≤ length (slice d)
  pub first_accepted : (given c).answer.number ≡ 0
  pub finish_at : finish_limit f ≡ limit d
  pub finish_finds : finish_found f ≡ y
  pub finish_room : 32 ≤ length (finish_slice f)
  pub handed_on : table d ≡ table_in y
  pub room : Room (limit d) (given c).answer.weight_out (areas d)

-- the finish accepts and tells so, what has come is the result, and simplifying that is a takeover
pub record CArrived (c d : CCall) (f : FinishCCall) : Type 0 where
  pub finish_accepts : f.returned ≡ 0
  pub finish_tells : finish_told f ≡ eights (verdict_numbers accepted) ++ drop 32 (finish_slice f)
  pub same_table : table d ≡ result (given c)
  pub repeats : Repeats (given c) (given d)

module _ (c d : CCall) (f : FinishCCall) (y : Task) (k : Linked c d f y) where
  g : Given
  g = simplified (limit c) (edition c) (table c) (areas c)

  gives : given c ≡ g
  unfolding g
  gives = call_gives c k.table_bytes k.first_slice

  g_accepted : g.answer.number ≡ 0
  g_accepted = sym (ap (λ (x : Given). x.answer.number) gives) ∙ k.first_accepted

  g_room : Room (limit d) g.answer.weight_out (areas d)
  g_room = subst (λ (x : Given). Room (limit d) x.answer.weight_out (areas d)) gives k.room

  -- the limit of the first call holds its result
  own : limit d ≡ limit c → Holds (limit d) (given c)
  unfolding g
  own n =
      subst (λ (i : ℕ). Holds i (given c)) (sym n)
      (subst (Holds (limit c)) (sym gives) (own_limit (limit c) (edition c) (table c) k.table_bytes (areas c) g_accepted))

  -- what has come, by the definitions, has come by the calls
  closes : Arrived (limit d) (edition c) g y (finish_slice f) (areas d) → CArrived c d f
  unfolding g
  closes a =
      let there : table d ≡ result g = k.handed_on ∙ a.same_table in
      let u = call_done (limit c) (edition c) (table c) k.table_bytes (areas c) g_accepted in
      let b : Bytes (table d) = subst Bytes (sym (there ∙ u.written_bytes)) (encode_bytes u.tree_out) in
      let second : given d ≡ simplified (limit d) (edition c) (table_in y) (areas d) =
      call_gives d b k.second_slice ∙ ap₂ (λ (i : ℕ) (x : List ℕ). simplified (limit d) i x (areas d)) k.same_edition k.handed_on in
      record {
        finish_accepts =
            f.promised.returns
            ∙ ap₂ (λ (i : ℕ) (x : Task). finish_returns i x.record_bytes x.area (finish_slice f)) k.finish_at k.finish_finds
            ∙ a.finish_accepts;
        finish_tells =
            f.promised.answers
            ∙ ap₂ (λ (i : ℕ) (x : Task). finish_answers i x.record_bytes x.area (finish_slice f)) k.finish_at k.finish_finds
            ∙ a.finish_tells;
        same_table = there ∙ ap result (sym gives);
        repeats = subst (λ (x : Given). Repeats x (given d)) (sym gives) (subst (Repeats g) (sym second) a.repeats);
      }

-- any list of calls that take its pieces: each returns 0, and the result stands at the front of the area
pub record CLinkRepeats (c d : CCall) (cs : List ReceiveCCall) (f : FinishCCall) (x y : Task) : Type 0 where
  pub each_taken : returned_by cs ≡ replicate (length cs) 0
  pub at_the_front : y.area ≡ result (given c) ++ drop (length (result (given c))) x.area
  pub arrived : CArrived c d f

-- to a machine at any limit that holds the result
pub c_link_takeover_at : (c d : CCall) (cs : List ReceiveCCall) (f : FinishCCall) (x y : Task) → Linked c d f y → Holds (limit d) (given c)
    → Ready (limit d) x → Chain (limit d) x cs y → whole (pieces cs) ≡ result (given c) → CLinkRepeats c d cs f x y
unfolding g
c_link_takeover_at c d cs f x y k h ready ch q =
    let same = gives c d f y k in
    let r =
    calls_take_over (limit c) (limit d) (edition c) (table c) k.table_bytes (areas c) (g_accepted c d f y k)
    (subst (Holds (limit d)) same h) x ready (pieces cs) (q ∙ ap result same) (finish_slice f) k.finish_room (areas d) (g_room c d f y k) in
    let end = chain_leaves ch in
    record {
      each_taken = taken_each ch r.each_taken;
      at_the_front =
          ap (λ (z : Task). z.area) end ∙ r.at_the_front ∙ ap (λ (z : Given). result z ++ drop (length (result z)) x.area) (sym same);
      arrived =
          closes c d f y k (subst (λ (z : Task). Arrived (limit d) (edition c) (g c d f y k) z (finish_slice f) (areas d)) (sym end) r.arrived);
    }

-- to a machine at the same limit
pub c_link_takeover : (c d : CCall) (cs : List ReceiveCCall) (f : FinishCCall) (x y : Task) → Linked c d f y → limit d ≡ limit c
    → Ready (limit d) x → Chain (limit d) x cs y → whole (pieces cs) ≡ result (given c) → CLinkRepeats c d cs f x y
c_link_takeover c d cs f x y k n = c_link_takeover_at c d cs f x y k (own c d f y k n)

-- the pair swaps in the middle: the calls cs ran on the one machine, from x to y, the calls ds on the other, from a copy y' of the record and of the bytes that
-- it counts; each returns 0
pub record CSwapRepeats (c d : CCall) (cs ds : List ReceiveCCall) (f : FinishCCall) : Type 0 where
  pub first_taken : returned_by cs ≡ replicate (length cs) 0
  pub second_taken : returned_by ds ≡ replicate (length ds) 0
  pub arrived : CArrived c d f

pub c_swap_takeover : (c d : CCall) (cs ds : List ReceiveCCall) (f : FinishCCall) (x y y' z : Task) → Linked c d f z → Holds (limit d) (given c)
    → Ready (limit d) x → Chain (limit d) x cs y → CopiedTask (limit d) y y' → Chain (limit d) y' ds z → whole (pieces cs ++ pieces ds) ≡ result (given c)
    → CSwapRepeats c d cs ds f
unfolding g
c_swap_takeover c d cs ds f x y y' z k h ready ch copy dh q =
    let same = gives c d f z k in
    let r =
    swap_takes_over (limit c) (limit d) (edition c) (table c) k.table_bytes (areas c) (g_accepted c d f z k)
    (subst (Holds (limit d)) same h) x ready (pieces cs) (pieces ds) (q ∙ ap result same) y'
    (subst (λ (v : Task). CopiedTask (limit d) v y') (chain_leaves ch) copy) (finish_slice f) k.finish_room (areas d) (g_room c d f z k) in
    record {
      first_taken = taken_each ch r.first_taken;
      second_taken = taken_each dh r.second_taken;
      arrived =
          closes c d f z k
          (subst (λ (v : Task). Arrived (limit d) (edition c) (g c d f z k) v (finish_slice f) (areas d)) (sym (chain_leaves dh)) r.arrived);
    }

-- a result over the limit lim of the second machine: each piece is taken, and the finish refuses the whole by 1 or 3, and tells so
pub record CLinkRefused (c : CCall) (lim : ℕ) (cs : List ReceiveCCall) (f : FinishCCall) : Type 0 where
  pub each_taken : returned_by cs ≡ replicate (length cs) 0
  pub finish_refuses : f.returned ≡ (over_by lim (result (given c))).number
  pub finish_tells : finish_told f ≡ eights (verdict_numbers (over_by lim (result (given c)))) ++ drop 32 (finish_slice f)

pub c_link_too_heavy : (c : CCall) (lim : ℕ) (cs : List ReceiveCCall) (f : FinishCCall) (x y : Task) → Bytes (table c) → simplify_bytes ≤ length (slice c)
    → (given c).answer.number ≡ 0 → is_limit lim ≡ true → lim < (given c).answer.weight_out → Ready lim x → Chain lim x cs y
    → whole (pieces cs) ≡ result (given c) → finish_limit f ≡ lim → finish_found f ≡ y → 32 ≤ length (finish_slice f) → CLinkRefused c lim cs f
c_link_too_heavy c lim cs f x y b room e known heavy ready ch q n finds long =
    let same = call_gives c b room in
    let g = simplified (limit c) (edition c) (table c) (areas c) in
    let r =
    calls_too_heavy (limit c) lim (edition c) (table c) b (areas c) (sym (ap (λ (v : Given). v.answer.number) same) ∙ e) known
    (subst (λ (v : Given). lim < v.answer.weight_out) same heavy) x ready (pieces cs) (q ∙ ap result same) (finish_slice f) long in
    let at = finds ∙ chain_leaves ch in
    record {
      each_taken = taken_each ch r.each_taken;
      finish_refuses =
          f.promised.returns
          ∙ ap₂ (λ (i : ℕ) (v : Task). finish_returns i v.record_bytes v.area (finish_slice f)) n at
          ∙ r.finish_refuses
          ∙ ap (λ (v : Given). (over_by lim (result v)).number) (sym same);
      finish_tells =
          f.promised.answers
          ∙ ap₂ (λ (i : ℕ) (v : Task). finish_answers i v.record_bytes v.area (finish_slice f)) n at
          ∙ r.finish_tells
          ∙ ap (λ (v : Given). eights (verdict_numbers (over_by lim (result v))) ++ drop 32 (finish_slice f)) (sym same);
    }

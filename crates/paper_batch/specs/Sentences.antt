-- The request's sentences about the call, as statements; proofs/BatchLaws proves each.
use Rattle.std.specs.Prelude.{ℕ, zero, suc, ◌+◌, ◌*◌, ◌<◌, ◌≤◌, ◌≡◌, Bool, false, cond, ◌||◌, List, [], ◌∷◌, length, get_or, take, drop}
use Rattle.std.proofs.Math.Option.{some}
use Rattle.paper.specs.Limits.{work_bytes}
use Rattle.paper.specs.Tree.{Tree, weight, value}
use Rattle.paper.specs.Table.{tree_of}
use Rattle.paper.specs.Verdict.{is_accepted, table_weight, verdict}
use Rattle.paper.specs.Rules.{rules_of}
use Rattle.paper.specs.Admits.{AdmitsNone}
use Rattle.paper.specs.Answers.{Lent, Answer, simplified}
use Rattle.paper.specs.Told.{answer_in}
use Rattle.paper.specs.Demands.{Simplifier}
use Rattle.paper_batch.specs.Batch.{place_bytes, has_run, used_up, first_uses, handed_on, in_turn, lengths_in, total, SiteCall}

-- ---- 8 in the request's words
pub data Unfit (tables lengths answers : List ℕ) : Type 0 where
  no_lengths : ((m : ℕ) → ¬ (length lengths ≡ 8 * m)) → Unfit tables lengths answers
  over_200 : 200 < length (lengths_in lengths) → Unfit tables lengths answers
  not_adding_up : ¬ (total (lengths_in lengths) ≡ length tables) → Unfit tables lengths answers
  fewer_places : length answers < place_bytes * length (lengths_in lengths) → Unfit tables lengths answers

-- ---- item i: the tables stand end to end
unfoldable pub item : List ℕ → List ℕ → ℕ → List ℕ
item [] s i = []
item (n ∷ ns) s zero = take n s
item (n ∷ ns) s (suc i) = item ns (drop n s) i

module _ (f : Simplifier) where
  -- what item i is handed, and how much was used up before it
  unfoldable pub handed : List ℕ → List ℕ → Lent → ℕ → Lent
  handed ns s l zero = l
  handed [] s l (suc i) = l
  handed (n ∷ ns) s l (suc i) = handed ns (drop n s) (handed_on f n s l) i

  unfoldable pub used_before : List ℕ → List ℕ → Lent → ℕ → ℕ
  used_before ns s l zero = 0
  used_before [] s l (suc i) = 0
  used_before (n ∷ ns) s l (suc i) = first_uses f n s l + used_before ns (drop n s) (handed_on f n s l) i

-- the W of the items before item i whose answers have 0 or 7, added up, as a caller counts them
unfoldable pub counted_up : List ℕ → List ℕ → List Answer → ℕ → ℕ
counted_up ns s xs zero = 0
counted_up [] s xs (suc i) = 0
counted_up (n ∷ ns) s [] (suc i) = 0
counted_up (n ∷ ns) s (x ∷ xs) (suc i) = used_up (take n s) x + counted_up ns (drop n s) xs i

-- "Every answer must be what separate calls would give, where each item is handed what remains of `out` and `steps`": item i has a call of its
-- own that is handed what is behind the stretches used up before it; its answer, and the stretches that it used up, are that call's
pub record Separate (f : Simplifier) (ns s : List ℕ) (l : Lent) (i : ℕ) : Type 0 where
  pub own : Lent
  pub used : ℕ
  pub before : ℕ
  pub counted : before ≡ counted_up ns s (in_turn f ns s l).answers i
  pub handed_out : own.out ≡ drop (16 * before) l.out
  pub handed_steps : own.steps ≡ drop before l.steps
  pub handed_work : length own.work ≡ length l.work
  pub uses : used ≡ used_up (item ns s i) (f (item ns s i) own).answer
  pub answer : (d : Answer) → get_or (in_turn f ns s l).answers i d ≡ (f (item ns s i) own).answer
  pub out : take (16 * used) (drop (16 * before) (in_turn f ns s l).lent.out) ≡ take (16 * used) (f (item ns s i) own).lent.out
  pub steps : take used (drop before (in_turn f ns s l).lent.steps) ≡ take used (f (item ns s i) own).lent.steps

-- ---- demand 3 of an accepted item with the tree t: the records written, which stand in `out` behind the stretches used up before it, are those of a
-- tree u, and so on
pub record Demanded (ed : ℕ) (table out : List ℕ) (before : ℕ) (a : Answer) : Type 0 where
  pub tree : Tree
  pub holds : tree_of table ≡ some tree
  pub shortened : Tree
  pub result : tree_of (take (16 * a.records_written) (drop (16 * before) out)) ≡ some shortened
  pub lightens : a.steps_taken + a.openings + weight shortened ≤ weight tree
  pub bounded : a.tries ≤ weight tree * (weight tree * weight tree)
  pub finishes : AdmitsNone (rules_of ed) shortened
  pub keeps_value : (ρ : ℕ → ℕ) → value shortened ρ ≡ value tree ρ

-- item i of a call, as its caller finds it afterwards: the place i of the list tells the answer of its separate call, and demand 3 holds of what
-- stands in `out`
pub record ItemTold (lim ed : ℕ) (tables lengths : List ℕ) (l : Lent) (c : SiteCall) (i : ℕ) : Type 0 where
  pub separate : Separate (simplified lim ed) (lengths_in lengths) tables l i
  pub answer : answer_in (drop (place_bytes * i) c.answers) ≡ (simplified lim ed (item (lengths_in lengths) tables i) separate.own).answer
  pub demanded : (answer_in (drop (place_bytes * i) c.answers)).number ≡ 0
      → Demanded ed (item (lengths_in lengths) tables i) c.lent.out separate.before (answer_in (drop (place_bytes * i) c.answers))

-- ---- `work`: whether any item ran
unfoldable pub any_ran : List Answer → Bool
any_ran [] = false
any_ran (a ∷ rest) = has_run a || any_ran rest

-- ---- room for all: W of the items that the checker accepts, added up
unfoldable pub weight_if : Bool → List ℕ → ℕ
weight_if b s = cond b (table_weight s) 0

unfoldable pub site_weight : ℕ → List ℕ → List ℕ → ℕ
site_weight lim [] s = 0
site_weight lim (n ∷ ns) s = weight_if (is_accepted (verdict lim (take n s))) (take n s) + site_weight lim ns (drop n s)

pub record RoomForAll (lim : ℕ) (ns s : List ℕ) (l : Lent) : Type 0 where
  pub out_room : 16 * site_weight lim ns s ≤ length l.out
  pub steps_room : site_weight lim ns s ≤ length l.steps
  pub work_room : work_bytes lim ≤ length l.work

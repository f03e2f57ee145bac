-- The driver between two members: where it stands, by its numbers; what it was called on; and what holds while it waits for a member that is a
-- node. It has come, by steps and passes, from the tree that it was called on to a node to which no rule applies, and has gathered the results of some
-- of that node's members behind the node's first record; the others are pending.
use Rattle.std.specs.Prelude.{ℕ, ◌+◌, ◌-◌, ◌*◌, ◌≤◌, ◌<◌, ◌^◌, ◌≡◌, List, ◌∷◌, ◌++◌, length, take, drop, Option, Some, None, Result, Ok, Err, MatchResult}
use Rattle.paper.specs.Tree.{Tree, weight}
use Rattle.paper.specs.WellFormed.{WF, WFl}
use Rattle.paper.specs.Rules.{rules_of}
use Rattle.paper.specs.Driver.{ask, no_rule, Ran, over, Rans, dones, overs, after, each, members, simplify}
use Rattle.paper.specs.Cost.{cost}
use Rattle.stretch.specs.Put.{part, put}
use Rattle.driver.specs.declared.LeftRange.{LeftRange}
use Rattle.driver.specs.declared.Stand.{Stand}
use Rattle.driver.specs.declared.Turn.{Turn}
use Rattle.driver.specs.declared.Turn.TheVariants as turn
use Rattle.driver.specs.Driven.{kind_number, with_notes, encode_all, records_all, weight_all, inside, opened_runs, Set, SetAll, Drove}

-- ---- where the driver stands: at the beginning the tree is pending at record p, and nothing is done, noted or tried
abbrev pub first_stand : (ed p : ℕ) → Stand
first_stand ed p =
    record {
      edition = ed;
      place = p;
      noted = 0;
      openings = 0;
      tries = 0;
      node = 0;
      end = 0;
      left = 0;
      gathered = 0;
      prior = 0;
    }

-- a pass begins at the record q of work, whose tree has a members
abbrev pub begun_at : Stand → (q n τ a : ℕ) → Stand
begun_at s q n τ a =
    record {
      edition = s.edition;
      place = q + 1;
      noted = n;
      openings = s.openings;
      tries = τ;
      node = s.node;
      end = s.node + 1;
      left = a;
      gathered = 0;
      prior = n + s.openings;
    }

-- a member's result is gathered to m trees, which end at f, after o openings
abbrev pub joined_to : Stand → (f o m : ℕ) → Stand
joined_to s f o m =
    record {
      edition = s.edition;
      place = s.place;
      noted = s.noted;
      openings = o;
      tries = s.tries;
      node = s.node;
      end = f;
      left = s.left - 1;
      gathered = s.gathered + m;
      prior = s.prior;
    }

-- i members are kept, of r records
abbrev pub kept_by : Stand → (i r : ℕ) → Stand
kept_by s i r =
    record {
      edition = s.edition;
      place = s.place + r;
      noted = s.noted;
      openings = s.openings;
      tries = s.tries + r;
      node = s.node;
      end = s.end + r;
      left = s.left - i;
      gathered = s.gathered + i;
      prior = s.prior;
    }

-- the tree is finished, its result ending at e
abbrev pub ended_at : Stand → (e q n τ : ℕ) → Stand
ended_at s e q n τ =
    record {
      edition = s.edition;
      place = q;
      noted = n;
      openings = s.openings;
      tries = τ;
      node = s.node;
      end = e;
      left = 0;
      gathered = s.gathered;
      prior = s.prior;
    }

-- the member that is next as the node; and the node again after it, by its own numbers
abbrev pub entered : Stand → Stand
entered s =
    record {
      edition = s.edition;
      place = s.place;
      noted = s.noted;
      openings = s.openings;
      tries = s.tries;
      node = s.end;
      end = s.end;
      left = s.left;
      gathered = s.gathered;
      prior = s.prior;
    }

abbrev pub returned : Stand → (node left gathered prior : ℕ) → Stand
returned s d l g b =
    record {
      edition = s.edition;
      place = s.place;
      noted = s.noted;
      openings = s.openings;
      tries = s.tries;
      node = d;
      end = s.node;
      left = l;
      gathered = g;
      prior = b;
    }

-- the edition stays, and the tries do not fall
pub record Onward (s s' : Stand) : Type 0 where
  pub edition : s'.edition ≡ s.edition
  pub tries : s.tries ≤ s'.tries

-- ---- what the driver was called on: the areas, where it stood, the tree pending, and what is pending after it
pub record Call : Type 0 where
  pub out : List ℕ
  pub work : List ℕ
  pub steps : List ℕ
  pub stand : Stand
  pub tree : Tree
  pub rest : List ℕ

abbrev pub call : (out work steps : List ℕ) → Stand → Tree → List ℕ → Call
call out work steps s t rest = record { out = out; work = work; steps = steps; stand = s; tree = t; rest = rest }

abbrev pub run_of : Call → Ran
run_of c = simplify (rules_of c.stand.edition) c.tree

-- the tree is set up, and with its weight all numbers of the driver stay small
pub record Called (c : Call) : Type 0 where
  pub set : Set c.out c.work c.steps c.stand.node c.stand.place c.stand.noted c.tree c.rest
  pub few : c.stand.node + c.stand.noted + c.stand.openings + weight c.tree < 65536
  pub few_tries : c.stand.tries + cost (weight c.tree) < 2 ^ 63

-- ---- what the answer says: a rule left the range, n steps being completed; or the run is done, and its result ends at e
abbrev pub Fell : Call → ℕ → Type 0
Fell c n = (k : ℕ) × (run_of c ≡ over k) × (n ≡ c.stand.noted + k)

pub record Reached (c : Call) (out work steps : List ℕ) (s : Stand) (e : ℕ) : Type 0 where
  pub o : ℕ
  pub τ : ℕ
  pub drove : Drove (run_of c) c.rest c.out out work c.steps steps c.stand.node c.stand.noted e s.place s.noted o τ
  pub openings_are : s.openings ≡ c.stand.openings + o
  pub tries_are : s.tries ≡ c.stand.tries + τ
  pub node_is : s.node ≡ c.stand.node
  pub edition_is : s.edition ≡ c.stand.edition

abbrev pub DrivenTo : (c : Call) (out work steps : List ℕ) → Stand → Result ℕ LeftRange → Type 0
DrivenTo c out work steps s r = MatchResult r (λ e. Reached c out work steps s e) (λ l. Fell c l.steps)

-- a tree is set up where the driver stands
abbrev pub Drivable : (out work steps : List ℕ) → Stand → Type 0
Drivable out work steps s = (t : Tree) × (rest : List ℕ) × Called (call out work steps s t rest)

-- what a run from there leaves and answers, on whatever tree is set up there
abbrev pub Drives : (out work steps : List ℕ) → Stand → (out' work' steps' : List ℕ) → Stand → Result ℕ LeftRange → Type 0
Drives out work steps s out' work' steps' s' r =
    (t : Tree) (rest : List ℕ) → Called (call out work steps s t rest) → DrivenTo (call out work steps s t rest) out' work' steps' s' r

-- ---- on the way
-- members gathered before others
unfoldable pub before : List Tree → List ℕ → ℕ → ℕ → Rans → Rans
before g ks o τ (overs k) = overs (length ks + k)
before g ks o τ (dones l s n υ) = dones (g ++ l) (ks ++ s) (o + n) (τ + υ)

-- the driver has come from t to u, to which no rule applies, and which stands at record `at` of work: the run on t is the steps ks, o openings and τ
-- tries, and then the run on u
pub record Come (ed : ℕ) (t : Tree) (rest out₀ work₀ steps₀ : List ℕ) (d p s : ℕ) (out work steps : List ℕ) (at n o τ : ℕ) : Type 0 where
  pub set_up : Set out₀ work₀ steps₀ d p s t rest
  pub u : Tree
  pub ks : List ℕ
  pub wf : WF u
  pub none : ask (rules_of ed) u ≡ no_rule
  pub stands : drop (at * 16) work ≡ with_notes u ++ rest
  pub kept : take (d * 16) out ≡ take (d * 16) out₀
  pub noted_end : n ≡ s + length ks
  pub noted : take n steps ≡ take s steps₀ ++ ks
  pub goes_on : simplify (rules_of ed) t ≡ after ks o τ (simplify (rules_of ed) u)
  pub lighter : length ks + o + weight u ≤ weight t
  pub tried_bound : τ + cost (weight u) ≤ cost (weight t)
  pub out_long : length out ≡ length out₀
  pub work_long : length work ≡ length work₀
  pub steps_long : length steps ≡ length steps₀

-- of the members l of a node of kind k the last, `left` of them, are pending from record q of work on, and the results of the others are
-- gathered to m trees that end at record e of out, by the steps ks, o openings and τ tries
pub record Gathering (ed : ℕ) (l : List Tree) (rest out₀ work₀ steps₀ : List ℕ) (k d p s : ℕ) (out work steps : List ℕ) (left e q n o m τ : ℕ) : Type 0 where
  pub set_up : SetAll out₀ work₀ steps₀ d p s l rest
  pub g : List Tree
  pub r : List Tree
  pub ks : List ℕ
  pub wf : WFl r
  pub stands : drop (q * 16) work ≡ encode_all r ++ rest
  pub place : q * 16 + length (encode_all r ++ rest) ≡ length work
  pub to_go : left ≡ length r
  pub gathered : m ≡ length g
  pub end : e ≡ d + records_all g
  pub wrote : take (e * 16) out ≡ take (d * 16) out₀ ++ encode_all g
  pub noted_end : n ≡ s + length ks
  pub noted : take n steps ≡ take s steps₀ ++ ks
  pub goes_on : opened_runs (inside k) (each (simplify (rules_of ed)) l) ≡ before g ks o τ (opened_runs (inside k) (each (simplify (rules_of ed)) r))
  pub lighter : weight_all g + (length ks + o) + weight_all r ≤ weight_all l
  pub tried_bound : τ + cost (weight_all r) ≤ cost (weight_all l)
  pub out_long : length out ≡ length out₀
  pub work_long : length work ≡ length work₀
  pub steps_long : length steps ≡ length steps₀

-- the driver, called as c says, has come to a node when the areas were out₁, work₁ and steps₁; it has copied the node's first record, and is
-- gathering the members
pub record Midway (c : Call) (out work steps : List ℕ) (s : Stand) : Type 0 where
  pub called : Called c
  pub out₁ : List ℕ
  pub work₁ : List ℕ
  pub steps₁ : List ℕ
  pub at : ℕ
  pub n : ℕ
  pub o : ℕ
  pub τ : ℕ
  pub come : Come c.stand.edition c.tree c.rest c.out c.work c.steps c.stand.node
      c.stand.place c.stand.noted out₁ work₁ steps₁ at n o τ
  pub out₂ : List ℕ
  pub copied : out₂ ≡ put out₁ (c.stand.node * 16) (part work₁ (at * 16) 16)
  pub out_kept : length out₂ ≡ length out₁
  pub b : ℕ
  pub υ : ℕ
  pub gathering : Gathering c.stand.edition (members come.u) c.rest out₂ work₁ steps₁ (kind_number come.u) (c.stand.node + 1) (at + 1) n
      out work steps s.left s.end s.place s.noted b s.gathered υ
  pub openings_are : s.openings ≡ c.stand.openings + (o + b)
  pub tries_are : s.tries ≡ c.stand.tries + (τ + υ)
  pub prior_is : s.prior ≡ n + (c.stand.openings + o)
  pub node_is : s.node ≡ c.stand.node
  pub edition_is : s.edition ≡ c.stand.edition

-- the driver waited, where it stood as s₁ says, for the member x; the areas are as the run on x left them, and the result ends at g
pub record Resumed (c : Call) (out work steps : List ℕ) (s : Stand) (g : ℕ) : Type 0 where
  pub out₁ : List ℕ
  pub work₁ : List ℕ
  pub steps₁ : List ℕ
  pub s₁ : Stand
  pub s₂ : Stand
  pub midway : Midway c out₁ work₁ steps₁ s₁
  pub x : Tree
  pub later : List Tree
  pub next_is : midway.gathering.r ≡ x ∷ later
  pub member : Reached (call out₁ work₁ steps₁ (entered s₁) x (encode_all later ++ c.rest)) out work steps s₂ g
  pub out_long : length out ≡ length out₁
  pub work_long : length work ≡ length work₁
  pub steps_long : length steps ≡ length steps₁
  pub back : s ≡ returned s₂ s₁.node s₁.left s₁.gathered s₁.prior

-- the driver is to go on: from the beginning; or from the result of the member that it waited for
abbrev pub GoesOn : (c : Call) (out work steps : List ℕ) → Stand → Option ℕ → Type 0
GoesOn c out work steps s None = (c ≡ call out work steps s c.tree c.rest) × Called c
GoesOn c out work steps s (Some g) = Resumed c out work steps s g

-- it waits for a member, or is at its end
pub record WentOn (c : Call) (out work steps : List ℕ) (s : Stand) : Type 0 where
  pub waits : 1 ≤ s.left → Midway c out work steps s
  pub ends : s.left ≤ 0 → Reached c out work steps s s.end

-- how a pass ended, at s
abbrev pub TurnIs : (c : Call) (out work steps : List ℕ) (s : Stand) → Result Turn LeftRange → Type 0
TurnIs c out work steps s (Ok (turn.Finished e q n τ)) = Reached c out work steps (ended_at s e q n τ) e × (s.tries ≤ τ)
TurnIs c out work steps s (Ok (turn.Again q n τ)) =
    (o : ℕ) × (υ : ℕ)
    × Come c.stand.edition c.tree c.rest c.out c.work c.steps c.stand.node c.stand.place c.stand.noted out work steps q n o υ
    × (s.openings ≡ c.stand.openings + o) × (τ ≡ c.stand.tries + υ) × (s.noted < n) × (s.tries ≤ τ)
TurnIs c out work steps s (Err l) = Fell c l.steps

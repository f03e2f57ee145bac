-- What the rules are asked with, and what they answer: "The rules, each tried on one node", tried in the paper's order.
use Rattle.std.specs.Prelude.{ℕ, ◌+◌, ◌*◌, ◌≤◌, ◌<◌, ◌≡◌, List, ◌++◌, length, take, drop, Option, Some, None, Result, Ok, Err}
use Rattle.paper.specs.Tree.{Tree, records, weight}
use Rattle.paper.specs.WellFormed.{WF}
use Rattle.paper.specs.Rules.{Rule}
use Rattle.paper.specs.Driver.{ask, no_rule, step, out_of_range, members}
use Rattle.paper.specs.Admits.{openings_at, AdmitsNone, AllAdmitNone}
use Rattle.note.specs.Note.{note}
use Rattle.note.specs.Noted.{encode_by}
use Rattle.number.specs.declared.OutOfRange.{OutOfRange}
use Rattle.rules.specs.declared.Applied.{Applied}
use Rattle.rules.specs.declared.Combined.{Combined}
use Rattle.rules.specs.declared.Combined.TheVariants as combined

-- a well-formed tree t stands, noted, at the head of what is pending, from record p of `work` on, and `rest` after it; d records of `out`
-- are done, and there is room for all that a rule may write: for each unit of the weight one record, and one entry of four bytes in the
-- walk's table of members
pub record Ready (out work : List ℕ) (d p : ℕ) (t : Tree) (rest : List ℕ) : Type 0 where
  pub wf : WF t
  pub light : weight t < 65536
  pub stands : drop (p * 16) work ≡ encode_by note t ++ rest
  pub out_room : 16 * (d + weight t) ≤ length out
  pub work_room : 20 * weight t + length rest ≤ length work

-- what each answer says of t, by the rules rs: `Ok None`, no rule applies and t is pending as it was; `Ok (Some a)`, the step of a applies and its result
-- is pending from there on in place of t; `Err`, a rule "meets an integer outside the signed 64-bit range". What is done stays.
abbrev pub AskedIs : (rs : List Rule) (t : Tree) (rest out out' work' : List ℕ) (d p : ℕ) → Result (Option Applied) OutOfRange → Type 0
AskedIs rs t rest out out' work' d p (Ok None) =
    (ask rs t ≡ no_rule) × (drop (p * 16) work' ≡ encode_by note t ++ rest) × (take (d * 16) out' ≡ take (d * 16) out)
AskedIs rs t rest out out' work' d p (Ok (Some a)) =
    (u : Tree) × (ask rs t ≡ step a.step u) × (drop (a.at * 16) work' ≡ encode_by note u ++ rest) × (take (d * 16) out' ≡ take (d * 16) out)
AskedIs rs t rest out out' work' d p (Err e) = ask rs t ≡ out_of_range

-- what each answer says of a gathered node t: `No`, nothing, and t is pending as it was; `Nothing`, no rule applies; `Pending k q`, the step k applies
-- and its result is pending from record q on; `Quiet k e`, the step k applies, its result stands after what is done, up to record e, and what followed t
-- is pending; and where t's members admit no rule and no opening, and none of them opens, neither does the result
abbrev pub CombinedIs : (rs : List Rule) (t : Tree) (rest out out' work' : List ℕ) (d p : ℕ) → Combined → Type 0
CombinedIs rs t rest out out' work' d p combined.No = (drop (p * 16) work' ≡ encode_by note t ++ rest) × (take (d * 16) out' ≡ take (d * 16) out)
CombinedIs rs t rest out out' work' d p combined.Nothing = AskedIs rs t rest out out' work' d p (Ok None)
CombinedIs rs t rest out out' work' d p (combined.Pending k q) = AskedIs rs t rest out out' work' d p (Ok (Some (record { step = k; at = q })))
CombinedIs rs t rest out out' work' d p (combined.Quiet k e) =
    (u : Tree) × (ask rs t ≡ step k u) × (e ≡ d + records u) × (take (e * 16) out' ≡ take (d * 16) out ++ encode_by note u)
    × (drop ((p + records t) * 16) work' ≡ rest) × (AllAdmitNone rs (members t) → openings_at t ≡ 0 → AdmitsNone rs u)

-- Two answers of `ask` that meet its contract, as the check reads it from the source, are the same, and so is what they leave pending and
-- done: the paper's answer at the tree is one, and where its result ends is where the tree ended. Of what is scratch, `out` past what is
-- done and `work` before what is pending, nothing is said. Two answers of `combine_gathered` may differ: `No` says nothing, and `Quiet` is a look; but
-- the step and the tree that they name are those of `ask`, and so is `Nothing`.
use Prim.Native.Nat.{ℕ, ◌+◌, ◌-◌, ◌*◌}
use mathlib.Core.Path.{◌≡◌, refl, sym, ap, ◌∙◌}
use mathlib.Core.List.{List, ◌++◌}
use native.Mathlib.Omega.{arith}
use borrow.Fn.Kinds.{Dens, ended_of}
use contract.Lifetimes.{Lfts}
use denote.Triple.Clauses.{AtExit}
use lib.ListN.{length, take, drop, length-append, length-drop}
use Rattle.paper.specs.Tree.{Tree, records}
use Rattle.paper.specs.Rules.{Rule, rules_of}
use Rattle.paper.specs.Driver.{step}
use Rattle.paper.proofs.EncodeLaws.{records_pos}
use Rattle.note.proofs.NotedLaws.{encode_by_length}
use Rattle.note.specs.Note.{note}
use Rattle.note.specs.Noted.{encode_by}
use Rattle.rules.specs.Asked.{Ready, AskedIs}
use Rattle.std.specs.Prelude.{Option, Some, None, Result, Ok, Err}
use Rattle.number.specs.declared.OutOfRange.{OutOfRange}
use Rattle.rules.specs.declared.Applied.{Applied}
use Rattle.rules.proofs.ask.Reads as reads
use Rattle.rules.proofs.ask.Kinds as kinds

-- what is left pending and done after an answer
abbrev Left : (d p : ℕ) (o o' w w' : List ℕ) → Result (Option Applied) OutOfRange → Type 0
Left d p o o' w w' (Ok None) = (drop (p * 16) w ≡ drop (p * 16) w') × (take (d * 16) o ≡ take (d * 16) o')
Left d p o o' w w' (Ok (Some a)) = (drop (a.at * 16) w ≡ drop (a.at * 16) w') × (take (d * 16) o ≡ take (d * 16) o')
Left d p o o' w w' (Err e) = Unit {0}

-- the record that a tree stands at, what follows it being known, is known
place : (w : List ℕ) (q : ℕ) (u : Tree) (rest : List ℕ) → drop (q * 16) w ≡ encode_by note u ++ rest → length w ≡ (q + records u) * 16 + length rest
place w q u rest e =
    let l : length w - q * 16 ≡ length (encode_by note u) + length rest =
    sym (length-drop (q * 16) w) ∙ ap length e ∙ length-append (encode_by note u) rest in
    omega (arith, encode_by_length note u, records_pos u)

module _ (rs : List Rule) (t : Tree) (rest s o o' w w' : List ℕ) (d p : ℕ) (long : length w ≡ length w') where
  stepped : (a a' : Applied) → AskedIs rs t rest s o w d p (Ok (Some a)) → AskedIs rs t rest s o' w' d p (Ok (Some a'))
      → (◌≡◌ {A = Result (Option Applied) OutOfRange} (Ok (Some a)) (Ok (Some a'))) × Left d p o o' w w' (Ok (Some a))
  stepped a a' h h' =
      let e : step a.step h.0 ≡ step a'.step h'.0 = sym h.1 ∙ h'.1 in
      let number : a.step ≡ a'.step = cc in
      let tree : h.0 ≡ h'.0 = cc in
      let here = place w a.at h.0 rest h.2 in
      let there = place w' a'.at h'.0 rest h'.2 in
      let size = ap records tree in
      let same : a.at ≡ a'.at = omega arith in
      let both : a ≡ a' = ap (λ k. record { step = k; at = a.at }) number ∙ ap (λ q. record { step = a'.step; at = q }) same in (
        ap (λ x. Ok (Some x)) both,
        (h.2 ∙ ap (λ u. encode_by note u ++ rest) tree ∙ sym h'.2 ∙ ap (λ n. drop (n * 16) w') (sym same), h.3 ∙ sym h'.3),
      )

  answered_once : (r r' : Result (Option Applied) OutOfRange) → AskedIs rs t rest s o w d p r → AskedIs rs t rest s o' w' d p r'
      → (r ≡ r') × Left d p o o' w w' r
  answered_once (Ok None) (Ok None) h h' = (refl, (h.1 ∙ sym h'.1, h.2 ∙ sym h'.2))
  answered_once (Ok None) (Ok (Some x)) h h' = let a = h.0 in let b = h'.1 in absurd (let z : ◌≡◌ {A = ℕ} 0 1 = cc in omega arith)
  answered_once (Ok None) (Err e) h h' = let a = h.0 in absurd (let z : ◌≡◌ {A = ℕ} 0 1 = cc in omega arith)
  answered_once (Ok (Some x)) (Ok None) h h' = let a = h.1 in let b = h'.0 in absurd (let z : ◌≡◌ {A = ℕ} 0 1 = cc in omega arith)
  answered_once (Ok (Some x)) (Ok (Some x')) h h' = stepped x x' h h'
  answered_once (Ok (Some x)) (Err e) h h' = let a = h.1 in absurd (let z : ◌≡◌ {A = ℕ} 0 1 = cc in omega arith)
  answered_once (Err e) (Ok None) h h' = let b = h'.0 in absurd (let z : ◌≡◌ {A = ℕ} 0 1 = cc in omega arith)
  answered_once (Err e) (Ok (Some x)) h h' = let b = h'.1 in absurd (let z : ◌≡◌ {A = ℕ} 0 1 = cc in omega arith)
  answered_once (Err e) (Err e') h h' = (refl, tt)

pub ask_once : (κs : Lfts 2) (a : Dens κs kinds.ps) (t : Tree) (rest : List ℕ)
    (r r' : Result (Option Applied) OutOfRange) (x x' : AtExit (ended_of 2 kinds.ps kinds.r) κs)
    → let d = a.1.1.0 in
    let p = a.1.1.1.0 in
    let work = x.1.0.now in
    let work' = x'.1.0.now in
    Ready a.0.now a.1.0.now d p t rest → length work ≡ length work' → reads.Post κs a r x → reads.Post κs a r' x'
    → (r ≡ r') × Left d p x.0.now x'.0.now work work' r
ask_once κs a t rest r r' x x' h l p p' =
    answered_once (rules_of a.1.1.1.1.0) t rest a.0.now x.0.now x'.0.now x.1.0.now x'.1.0.now a.1.1.0 a.1.1.1.0 l r r'
    (p t rest h) (p' t rest h)

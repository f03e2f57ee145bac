-- Two answers of `drive` that meet its contract, as the check reads it from the source, are the same, and so are the records done, what is
-- pending, the steps noted and their number, the openings and the tries: the paper's run on the tree is one, and its result, its steps and what is left tell
-- the places. Of what is scratch, and of all but the number of steps after a refusal, nothing is said.
use Prim.Native.Nat.{ℕ, ◌+◌, ◌*◌}
use mathlib.Core.Path.{◌≡◌, sym, ap, ◌∙◌}
use mathlib.Core.List.{List, ◌++◌}
use native.Mathlib.Omega.{arith}
use borrow.Fn.Kinds.{Dens, ended_of}
use contract.Lifetimes.{Lfts}
use denote.Triple.Clauses.{AtExit}
use lib.ListN.{length, take, drop}
use Rattle.paper.specs.Tree.{Tree, records}
use Rattle.paper.specs.Driver.{done, over}
use Rattle.paper.specs.Once.{Once}
use Rattle.std.specs.Prelude.{Result, Ok, Err, IfErr}
use Rattle.driver.specs.declared.LeftRange.{LeftRange}
use Rattle.driver.specs.declared.Stand.{Stand}
use Rattle.driver.specs.Driven.{with_notes}
use Rattle.driver.specs.Paused.{Call, call, Called, Fell, Reached, DrivenTo}
use Rattle.driver.proofs.drive.Reads as reads
use Rattle.driver.proofs.drive.Kinds as kinds
use Rattle.driver.proofs.first_stand.Reads as first-reads
use Rattle.driver.proofs.first_stand.Kinds as first-kinds

-- what is done, pending and noted after an answer, in one call and in another
abbrev Left : (o o' w w' z z' : List ℕ) (s s' : Stand) → Result ℕ LeftRange → Type 0
Left o o' w w' z z' s s' (Ok e) =
    (take (e * 16) o ≡ take (e * 16) o') × (drop (s.place * 16) w ≡ drop (s.place * 16) w') × (take s.noted z ≡ take s.noted z')
    × (s.place ≡ s'.place) × (s.noted ≡ s'.noted) × (s.openings ≡ s'.openings) × (s.tries ≡ s'.tries)
Left o o' w w' z z' s s' (Err l) = s.noted ≡ s'.noted

module _ (c : Call) (o o' w w' z z' : List ℕ) (s s' : Stand) (long : length w ≡ length w') where
  reached_once : (e e' : ℕ) → Reached c o w z s e → Reached c o' w' z' s' e'
      → (◌≡◌ {A = Result ℕ LeftRange} (Ok e) (Ok e')) × Left o o' w w' z z' s s' (Ok e)
  reached_once e e' a a' =
      let h = a.drove in
      let h' = a'.drove in
      let same : done h.to h.ks a.o a.τ ≡ done h'.to h'.ks a'.o a'.τ = sym h.ran ∙ h'.ran in
      let tree : h.to ≡ h'.to = cc in
      let steps : h.ks ≡ h'.ks = cc in
      let openings : a.o ≡ a'.o = cc in
      let tries : a.τ ≡ a'.τ = cc in
      let d = c.stand.node in
      let k = c.stand.noted in
      let end : e ≡ e' = h.end ∙ ap (λ t. d + records t) tree ∙ sym h'.end in
      let noted : s.noted ≡ s'.noted = h.noted_end ∙ ap (λ (l : List ℕ). k + length l) steps ∙ sym h'.noted_end in
      let place : s.place ≡ s'.place = omega (arith, h.place, h'.place) in (
        ap (λ i. Ok i) end,
        (
          h.wrote ∙ ap (λ t. take (d * 16) c.out ++ with_notes t) tree ∙ sym h'.wrote ∙ ap (λ i. take (i * 16) o') (sym end),
          h.left ∙ sym h'.left ∙ ap (λ i. drop (i * 16) w') (sym place),
          h.noted ∙ ap (λ (l : List ℕ). take k c.steps ++ l) steps ∙ sym h'.noted ∙ ap (λ i. take i z') (sym noted),
          place,
          noted,
          a.openings_are ∙ ap (λ i. c.stand.openings + i) openings ∙ sym a'.openings_are,
          a.tries_are ∙ ap (λ i. c.stand.tries + i) tries ∙ sym a'.tries_are,
        ),
      )

  fell_once : (n n' : ℕ) → Fell c n → Fell c n' → n ≡ n'
  fell_once n n' h h' =
      let same : over h.0 ≡ over h'.0 = sym h.1 ∙ h'.1 in
      let steps : h.0 ≡ h'.0 = cc in
      h.2 ∙ ap (λ i. c.stand.noted + i) steps ∙ sym h'.2

  driven_once : (r r' : Result ℕ LeftRange) → DrivenTo c o w z s r → IfErr r (λ l. s.noted ≡ l.steps)
      → DrivenTo c o' w' z' s' r' → IfErr r' (λ l. s'.noted ≡ l.steps) → (r ≡ r') × Left o o' w w' z z' s s' r
  driven_once (Err l) (Err l') h n h' n' =
      let same : l.steps ≡ l'.steps = fell_once l.steps l'.steps h h' in
      (ap (λ i. Err (record { steps = i })) same, n ∙ same ∙ sym n')
  driven_once (Err l) (Ok e') h n h' n' =
      let a = h.1 in
      let b = h'.drove.ran in
      absurd (let q : ◌≡◌ {A = ℕ} 0 1 = cc in omega arith)
  driven_once (Ok e) (Err l') h n h' n' =
      let a = h.drove.ran in
      let b = h'.1 in
      absurd (let q : ◌≡◌ {A = ℕ} 0 1 = cc in omega arith)
  driven_once (Ok e) (Ok e') h n h' n' = reached_once e e' h h'

pub drive_once : (κs : Lfts 4) (a : Dens κs kinds.ps) (t : Tree) (rest : List ℕ) (r r' : Result ℕ LeftRange) (x x' : AtExit (ended_of 4 kinds.ps kinds.r) κs)
    → Called (call a.0.now a.1.0.now a.1.1.0.now a.1.1.1.0.now t rest)
    → length x.1.0.now ≡ length x'.1.0.now → reads.Post κs a r x → reads.Post κs a r' x'
    → (r ≡ r') × Left x.0.now x'.0.now x.1.0.now x'.1.0.now x.1.1.0.now x'.1.1.0.now
    x.1.1.1.0.now x'.1.1.1.0.now r
drive_once κs a t rest r r' x x' h l p p' =
    driven_once (call a.0.now a.1.0.now a.1.1.0.now a.1.1.1.0.now t rest)
    x.0.now x'.0.now x.1.0.now x'.1.0.now
    x.1.1.0.now x'.1.1.0.now x.1.1.1.0.now x'.1.1.1.0.now l r r' (p.0 t rest h) p.1 (p'.0 t rest h) p'.1

-- where the driver begins is told by the edition and the place
pub first_stand_once : Once 0 first-kinds.ps first-kinds.r first-reads.Pre first-reads.Post
first_stand_once κs a v v' x x' q p p' = p ∙ sym p'

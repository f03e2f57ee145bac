-- The rules, asked one after the other: as long as none applies, asking all of them is asking those that are left, and all is ready for
-- the next; the first that applies, or leaves the range, gives the answer. The i-th that is asked is the rule of the i-th step of the
-- paper's order, in both editions. To begin, only the rules for the tree's kind are left, for those before them do not apply to it; and
-- when these are done no rule applies, for those after them do not either: the paper gives each rule for sums alone, for products alone or
-- for powers alone.
use Prim.Native.Nat.{ℕ, zero, suc, ◌+◌, ◌*◌, ◌<◌, ◌≤◌}
use mathlib.Core.Path.{◌≡◌, refl, sym, ap, ◌∙◌}
use mathlib.Core.Bool.{Bool, true, false, cond}
use mathlib.Core.List.{List, [], ◌∷◌}
use native.Mathlib.Omega.{arith}
use borrow.Author.Tests.{eqb-true, ne_eqb}
use lib.Dec.{eqb}
use lib.ListN.{length, take, drop, get_or}
use Rattle.paper.specs.Tree.{Tree, to_list}
use Rattle.paper.specs.Record.{kind}
use Rattle.paper.specs.Rules as paper
use Rattle.paper.specs.Rules.{edition_one, edition_two, rules_of, on_sum_members, on_product_members, on_power_parts}
use Rattle.paper.specs.Rules.{add_zero, combine_like_terms, multiply_zero, multiply_one, combine_like_factors, power_one, power_constant, power_power}
use Rattle.paper.specs.Driver.{Asked, no_rule, step, out_of_range, ask}
use Rattle.paper.proofs.Tests.{never, or_neither}
use Rattle.note.proofs.ToldLaws.{Seen, an_integer, a_symbol, a_sum, a_product, a_power}
use Rattle.note.specs.Note.{note}
use Rattle.part.specs.Like.{node_kind}
use Rattle.rules.specs.Alike.{numbered, rule_of, first_for, end_for, combine_like, step_of, any_earlier}
use Rattle.rules.specs.Asked.{Ready, AskedIs}
use Rattle.rules.specs.Tried.{Answers}
use Rattle.std.specs.Prelude.{Some, None, Ok}
use Rattle.rules.proofs.RuleLaws.{ready_seen, ready_again, IsNode, drops, zeroes, looks_elsewhere, combine_other, finds_none}

-- the i-th step of the paper's order, and its rule; how many rules an edition has
abbrev pub step_at : ℕ → ℕ
step_at i = get_or (1 ∷ 2 ∷ 3 ∷ 4 ∷ 6 ∷ 7 ∷ 8 ∷ 9 ∷ []) i 0

abbrev many_of : Bool → ℕ
many_of x = cond x 8 5

abbrev pub rules_in : ℕ → ℕ
rules_in ed = many_of (eqb ed 2)

pub rules_in_lem : (ed : ℕ) → rules_in ed ≤ 8
rules_in_lem ed = go (eqb ed 2)
  where
    go : (x : Bool) → many_of x ≤ 8
    go true = omega arith
    go false = omega arith

abbrev chosen_by : Bool → List paper.Rule
chosen_by x = cond x edition_two edition_one

abbrev FirstLeft : Bool → ℕ → Type 0
FirstLeft x i = drop i (chosen_by x) ≡ record { number = step_at i; try = rule_of (step_at i) } ∷ drop (i + 1) (chosen_by x)

first_of_one : (i : ℕ) → i < 5 → FirstLeft false i
unfolding edition_one edition_two rule_of numbered
first_of_one zero h = refl
first_of_one (suc zero) h = refl
first_of_one (suc (suc zero)) h = refl
first_of_one (suc (suc (suc zero))) h = refl
first_of_one (suc (suc (suc (suc zero)))) h = refl
first_of_one (suc (suc (suc (suc (suc i))))) h = absurd (omega arith)

first_of_two : (i : ℕ) → i < 8 → FirstLeft true i
unfolding edition_one edition_two rule_of numbered
first_of_two zero h = refl
first_of_two (suc zero) h = refl
first_of_two (suc (suc zero)) h = refl
first_of_two (suc (suc (suc zero))) h = refl
first_of_two (suc (suc (suc (suc zero)))) h = refl
first_of_two (suc (suc (suc (suc (suc zero))))) h = refl
first_of_two (suc (suc (suc (suc (suc (suc zero)))))) h = refl
first_of_two (suc (suc (suc (suc (suc (suc (suc zero))))))) h = refl
first_of_two (suc (suc (suc (suc (suc (suc (suc (suc i)))))))) h = absurd (omega arith)

first_left : (ed i : ℕ) → i < rules_in ed → drop i (rules_of ed) ≡ record { number = step_at i; try = rule_of (step_at i) } ∷ drop (i + 1) (rules_of ed)
unfolding rules_of
first_left ed i = go (eqb ed 2)
  where
    go : (x : Bool) → i < many_of x → FirstLeft x i
    go true h = first_of_two i h
    go false h = first_of_one i h

-- a step that none of the rules has
pub no_rule_of : (k : ℕ) (t : Tree) → (k ≡ 1 → ⊥) → (k ≡ 2 → ⊥) → (k ≡ 3 → ⊥) → (k ≡ 4 → ⊥) → (k ≡ 6 → ⊥) → (k ≡ 7 → ⊥) → (k ≡ 8 → ⊥)
    → (k ≡ 9 → ⊥) → rule_of k t ≡ paper.does_not_apply
unfolding edition_one edition_two rule_of numbered
no_rule_of k t a b c d e f g h =
    simp
    (ne_eqb k 1 a, ne_eqb k 2 b, ne_eqb k 3 c, ne_eqb k 4 d, ne_eqb k 6 e, ne_eqb k 7 f, ne_eqb k 8 g, ne_eqb k 9 h)

-- which rules can apply to a tree, by the kind of its record: none before the first for that kind, and none from their end on. By cases
-- on the tree, where the rules compute
only_its_own : (ed : ℕ) {w : List ℕ} {p : ℕ} {t : Tree} → Seen note w p t
    → let k = kind w p in
    (ask (rules_of ed) t ≡ ask (drop (first_for k) (rules_of ed)) t) × (ask (drop (end_for k ed) (rules_of ed)) t ≡ no_rule)
unfolding ask rules_of edition_one edition_two add_zero combine_like_terms multiply_zero multiply_one combine_like_factors
    power_one power_constant power_power on_sum_members on_product_members on_power_parts
only_its_own ed {w} {p} {t} s = go (eqb ed 2) s
  where
    go : (x : Bool) {t : Tree} → Seen note w p t
        → let k = kind w p in
        let rs = chosen_by x in
        (ask rs t ≡ ask (drop (first_for k) rs) t)
        × (ask (drop (cond (eqb k 2) 2 (cond (eqb k 3) 5 (cond (eqb k 4) (cond x 8 5) 0))) rs) t ≡ no_rule)
    go true (an_integer e b w) = rw e (refl, refl)
    go true (a_symbol e v w) = rw e (refl, refl)
    go true (a_sum e m c w s) = rw e (refl, refl)
    go true (a_product e m c w s) = rw e (refl, refl)
    go true (a_power e w b p q x y z) = rw e (refl, refl)
    go false (an_integer e b w) = rw e (refl, refl)
    go false (a_symbol e v w) = rw e (refl, refl)
    go false (a_sum e m c w s) = rw e (refl, refl)
    go false (a_product e m c w s) = rw e (refl, refl)
    go false (a_power e w b p q x y z) = rw e (refl, refl)

-- the first for a kind is not after their end, and that is not after the last of the edition's rules
pub in_order_lem : (k ed : ℕ) → (first_for k ≤ end_for k ed) × (end_for k ed ≤ rules_in ed)
in_order_lem k ed = go (eqb k 2) (eqb k 3) (eqb k 4) (rules_in ed) (five (eqb ed 2)) (λ e. let two = eqb-true k 2 e in ne_eqb k 4 (λ f. omega arith))
  where
    five : (x : Bool) → 5 ≤ many_of x
    five true = omega arith
    five false = omega arith

    go : (a b c : Bool) (n : ℕ) → 5 ≤ n → (a ≡ true → c ≡ false)
        → (cond b 2 (cond c 5 0) ≤ cond a 2 (cond b 5 (cond c n 0))) × (cond a 2 (cond b 5 (cond c n 0)) ≤ n)
    go true true c n h o = (omega arith, omega arith)
    go true false true n h o = never (sym (o refl))
    go true false false n h o = (omega arith, omega arith)
    go false true c n h o = (omega arith, omega arith)
    go false false true n h o = (omega arith, omega arith)
    go false false false n h o = (omega arith, omega arith)

-- those from the i-th on are left to ask, and all is ready for them
pub record Going (ed : ℕ) (t : Tree) (rest o : List ℕ) (d p i : ℕ) (o' w' : List ℕ) : Type 0 where
  pub same : ask (rules_of ed) t ≡ ask (drop i (rules_of ed)) t
  pub ready : Ready o' w' d p t rest
  pub done : take (d * 16) o' ≡ take (d * 16) o

pub begins : {ed : ℕ} {t : Tree} {rest o w : List ℕ} {d p i : ℕ} → Ready o w d p t rest → i ≡ first_for (kind w p) → Going ed t rest o d p i o w
begins {ed} {t} h e =
    record { same = (only_its_own ed (ready_seen h)).0 ∙ ap (λ n. ask (drop n (rules_of ed)) t) (sym e); ready = h; done = refl }

pub ends : {ed : ℕ} {t : Tree} {rest o w : List ℕ} {d p i : ℕ} {o₁ w₁ : List ℕ} → Ready o w d p t rest → i ≡ end_for (kind w p) ed
    → Going ed t rest o d p i o₁ w₁ → AskedIs (rules_of ed) t rest o o₁ w₁ d p (Ok None)
ends {ed} {t} h e g = (g.same ∙ ap (λ n. ask (drop n (rules_of ed)) t) e ∙ (only_its_own ed (ready_seen h)).1, g.ready.stands, g.done)

-- what is asked when the first rule, of the step k, gave the outcome x and the rules rs are left
abbrev pub told : paper.Tried → ℕ → List paper.Rule → Tree → Asked
told x k rs t = elim x [ paper.does_not_apply ↦ ask rs t | paper.applies u ↦ step k u | paper.range_exceeded ↦ out_of_range ]

first_asked : (r : paper.Rule) (rs : List paper.Rule) (t : Tree) (x : paper.Tried) → r.try t ≡ x → ask (r ∷ rs) t ≡ told x r.number rs t
unfolding ask
first_asked r rs t x e = ap (λ y. told y r.number rs t) e

-- the i-th is asked
module _ {ed : ℕ} {t : Tree} {rest o : List ℕ} {d p i : ℕ} {o₁ w₁ : List ℕ} (g : Going ed t rest o d p i o₁ w₁) (l : i < rules_in ed) where
  answered : (x : paper.Tried) → rule_of (step_at i) t ≡ x → ask (rules_of ed) t ≡ told x (step_at i) (drop (i + 1) (rules_of ed)) t
  answered x e = g.same ∙ ap (λ rs. ask rs t) (first_left ed i l) ∙ first_asked _ _ t x e

  pub leaves : rule_of (step_at i) t ≡ paper.range_exceeded → ask (rules_of ed) t ≡ out_of_range
  leaves e = answered paper.range_exceeded e

  module _ (o₂ w₂ : List ℕ) where
    pub goes_on : length o₂ ≡ length o₁ → length w₂ ≡ length w₁ → Answers (rule_of (step_at i) t) rest o₁ o₂ w₁ w₂ d p (Ok None)
        → Going ed t rest o d p (i + 1) o₂ w₂
    goes_on a b x =
        record {
          same = answered paper.does_not_apply x.0;
          ready = ready_again g.ready o₂ w₂ a b x.1;
          done = x.2 ∙ g.done;
        }

    pub steps : (q : ℕ) → Answers (rule_of (step_at i) t) rest o₁ o₂ w₁ w₂ d p (Ok (Some q))
        → AskedIs (rules_of ed) t rest o o₂ w₂ d p (Ok (Some (record { step = step_at i; at = q })))
    steps q x = (x.0, answered (paper.applies x.0) x.1, x.2, x.3 ∙ g.done)

-- ---- step 2 at a sum, step 6 at a product, where no rule before it applies
passes : (r : paper.Rule) (rs : List paper.Rule) (t : Tree) → r.try t ≡ paper.does_not_apply → ask (r ∷ rs) t ≡ ask rs t
passes r rs t e = first_asked r rs t paper.does_not_apply e

module _ (ed : ℕ) (t : Tree) (x : paper.Tried) where
  second : add_zero t ≡ paper.does_not_apply → combine_like_terms t ≡ x → ask (rules_of ed) t ≡ told x 2 (drop 2 (rules_of ed)) t
  unfolding rules_of edition_one edition_two
  second a c = go (eqb ed 2)
    where
      go : (y : Bool) → ask (chosen_by y) t ≡ told x 2 (drop 2 (chosen_by y)) t
      go true = passes _ _ t a ∙ first_asked _ _ t x c
      go false = passes _ _ t a ∙ first_asked _ _ t x c

  fifth : add_zero t ≡ paper.does_not_apply → combine_like_terms t ≡ paper.does_not_apply → multiply_zero t ≡ paper.does_not_apply
      → multiply_one t ≡ paper.does_not_apply → combine_like_factors t ≡ x → ask (rules_of ed) t ≡ told x 6 (drop 5 (rules_of ed)) t
  unfolding rules_of edition_one edition_two
  fifth a b c d e = go (eqb ed 2)
    where
      go : (y : Bool) → ask (chosen_by y) t ≡ told x 6 (drop 5 (chosen_by y)) t
      go true = passes _ _ t a ∙ passes _ _ t b ∙ passes _ _ t c ∙ passes _ _ t d ∙ first_asked _ _ t x e
      go false = passes _ _ t a ∙ passes _ _ t b ∙ passes _ _ t c ∙ passes _ _ t d ∙ first_asked _ _ t x e

module _ (ed : ℕ) {o w : List ℕ} {d p : ℕ} {t : Tree} {rest : List ℕ} (h : Ready o w d p t rest) where
  pub combine_asked : (b : Bool) → kind w p ≡ node_kind b → (s : IsNode b o w d p t rest) → any_earlier b (to_list s.members) ≡ false → (x : paper.Tried)
      → combine_like b t ≡ x → ask (rules_of ed) t ≡ told x (step_of b) (drop (end_for (node_kind b) ed) (rules_of ed)) t
  combine_asked true k s e x c = second ed t x (finds_none s (drops true) e) c
  combine_asked false k s e x c =
      let none = or_neither _ _ e in
      let other : kind w p ≡ 2 → ⊥ = λ z. omega (arith, k, z) in
      fifth ed t x (looks_elsewhere h (drops true) other) (combine_other h true other) (finds_none s zeroes none.0) (finds_none s (drops false) none.1) c

  -- where it does not apply either, none does: those after it are for other trees
  pub combine_none : (b : Bool) → kind w p ≡ node_kind b → (s : IsNode b o w d p t rest) → any_earlier b (to_list s.members) ≡ false
      → combine_like b t ≡ paper.does_not_apply → ask (rules_of ed) t ≡ no_rule
  combine_none b k s e c =
      combine_asked b k s e paper.does_not_apply c
      ∙ ap (λ i. ask (drop (end_for i ed) (rules_of ed)) t) (sym k)
      ∙ (only_its_own ed (ready_seen h)).1

-- Which of the members that came out are none of the node's: none, one at a known record, or more, of which nothing is said. A member that is kept
-- is one of the node's, and so are those that are left, in whatever order; a new one is the only one where there was none. By induction on the members.
use Rattle.std.proofs.Common.{◌≡◌, ℕ, zero, suc, ◌+◌, List, [], ◌∷◌, ◌++◌, refl, ap, ◌∙◌, subst, append_assoc, arith}
use Rattle.paper.specs.Tree.{Tree, of_list, recordses}
use Rattle.paper.specs.Walk.{last_of, init_of, last_first}
use Rattle.walk.specs.Walked.{OneOf, here, there, AllOf, OneNew}

-- ---- members that are all of l
pub all_of_snoc : (l m : List Tree) (t : Tree) → AllOf l m → OneOf t l → AllOf l (m ++ (t ∷ []))
all_of_snoc l [] t a o = (o, tt)
all_of_snoc l (u ∷ m) t a o = (a.0, all_of_snoc l m t a.1 o)

all_more : (u : Tree) (l m : List Tree) → AllOf l m → AllOf (u ∷ l) m
all_more u l [] a = tt
all_more u l (t ∷ m) a = (there a.0, all_more u l m a.1)

pub all_own : (l : List Tree) → AllOf l l
all_own [] = tt
all_own (t ∷ l) = (here, all_more t l l (all_own l))

all_last : (l : List Tree) (a : Tree) (m : List Tree) → AllOf l (a ∷ m) → OneOf (last_of a m) l × AllOf l (init_of a m)
unfolding last_of init_of
all_last l a [] h = (h.0, tt)
all_last l a (u ∷ m) h = let r = all_last l u m h.1 in (r.0, (h.0, r.1))

pub all_last_first : (l m : List Tree) → AllOf l m → AllOf l (last_first m)
unfolding last_first
all_last_first l [] h = tt
all_last_first l (a ∷ m) h = all_last l a m h

-- ---- n of the members m, which stand behind record d, are new; where it is one, it stands at record f
abbrev pub News : List Tree → List Tree → (d n f : ℕ) → Type 0
News l m d zero f = AllOf l m
News l m d (suc zero) f = OneNew l m d f
News l m d (suc (suc n)) f = Unit {0}

pub news_kept : (l m : List Tree) (d n f : ℕ) (t : Tree) → News l m d n f → OneOf t l → News l (m ++ (t ∷ [])) d n f
news_kept l m d zero f t h o = all_of_snoc l m t h o
news_kept l m d (suc zero) f t h o =
    record {
      before = h.before;
      new = h.new;
      after = h.after ++ (t ∷ []);
      are = ap (λ (x : List Tree). x ++ (t ∷ [])) h.are ∙ append_assoc h.before (h.new ∷ h.after) (t ∷ []);
      place = h.place;
      kept = (h.kept.0, all_of_snoc l h.after t h.kept.1 o);
    }
news_kept l m d (suc (suc n)) f t h o = tt

pub news_new : (l m : List Tree) (d n f e : ℕ) (t : Tree) → News l m d n f → e ≡ d + 1 + recordses (of_list m) → News l (m ++ (t ∷ [])) d (n + 1) e
news_new l m d zero f e t h q = record { before = m; new = t; after = []; are = refl; place = q; kept = (h, tt) }
news_new l m d (suc n) f e t h q = let two : suc (suc n) ≡ suc n + 1 = omega arith in subst (λ k. News l (m ++ (t ∷ [])) d k e) two tt

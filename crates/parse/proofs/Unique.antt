-- Two answers that meet a contract of this crate, as the check reads it from the source, are the same: each equals one definition of the text. Of
-- `write` the area is one where the text has a tree that is not over the limit and whose records fit.
use Prim.Native.Nat.{◌≤◌}
use mathlib.Core.Path.{◌≡◌, sym, ◌∙◌}
use mathlib.Core.Option.{some}
use native.Mathlib.Omega.{arith}
use borrow.Fn.Kinds.{Dens, ended_of}
use contract.Lifetimes.{Lfts}
use denote.Triple.Clauses.{AtExit}
use lib.ListN.{length}
use Rattle.paper.specs.Tree.{Tree, weight}
use Rattle.paper.specs.Table.{encode}
use Rattle.paper.specs.Once.{Once}
use Rattle.paper_text.specs.Text.{read_text}
use Rattle.parse.proofs.is_form.Reads as is-form-reads
use Rattle.parse.proofs.is_form.Kinds as is-form-kinds
use Rattle.parse.proofs.weigh.Reads as weigh-reads
use Rattle.parse.proofs.weigh.Kinds as weigh-kinds
use Rattle.parse.proofs.write.Reads as write-reads
use Rattle.parse.proofs.write.Kinds as write-kinds

pub is_form_once : Once 1 is-form-kinds.ps is-form-kinds.r is-form-reads.Pre is-form-reads.Post
is_form_once κs a v v' x x' h p q = p ∙ sym q

pub weigh_once : Once 1 weigh-kinds.ps weigh-kinds.r weigh-reads.Pre weigh-reads.Post
weigh_once κs a v v' x x' h p q = p ∙ sym q

pub write_once : (κs : Lfts 2) (a : Dens κs write-kinds.ps) (x x' : AtExit (ended_of 2 write-kinds.ps write-kinds.r) κs)
    → write-reads.Post κs a tt x → write-reads.Post κs a tt x'
    → (t : Tree) → read_text a.0.now ≡ some t → weight t ≤ a.1.0 → length (encode t) ≤ length a.1.1.0.now
    → x.1.1.0.now ≡ x'.1.1.0.now
write_once κs a x x' p q t e w f = (p t e w).there (omega (arith, f)) ∙ sym ((q t e w).there (omega (arith, f)))

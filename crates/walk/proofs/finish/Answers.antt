-- A member that comes out as it stands is what its part becomes (`stays_itself`), so there is room for it and it is kept; of any other the
-- writer's answer is the answer.
use Rattle.std.proofs.Common.{◌≡◌, ◌*◌, List, ℕ, Bool, true, false, ◌&&◌, Result, Ok, Err, sym, ap, ◌∙◌, subst, arith}
use Rattle.paper.specs.Tree.{Tree, records}
use Rattle.paper.proofs.Tests.{and_both}
use Rattle.note.specs.Note.{note}
use Rattle.note.specs.Noted.{encode_by}
use Rattle.stretch.specs.Put.{put}
use Rattle.number.specs.declared.OutOfRange.{OutOfRange}
use Rattle.part.specs.declared.Part.{Part}
use Rattle.part.specs.Like.{Like, join}
use Rattle.rebuilt.specs.Written.{WrittenIs, Fitting}
use Rattle.walk.specs.Stays.{stays}
use Rattle.std.specs.Result.{IsErr}
use Rattle.walk.specs.Walked.{Turned, FinishedIs}
use Rattle.walk.specs.declared.Finished.{Finished}
use Rattle.walk.proofs.StaysLaws.{stays_itself}
use Rattle.walk.proofs.KeptLaws.{kept_where, new_where}
use Rattle.walk.proofs.finish.Goals as goal

-- a member that comes out as it stands is what its part becomes
itself : {b : Bool} {w : List ℕ} {p i : ℕ} {c : Part} {alone : Bool} {x : Like b} {t : Tree} → Turned b w p i c alone x t
    → (alone && stays b t) ≡ true → join b x ≡ (t, true)
itself {b} {alone = alone} {t = t} h k =
    let both = and_both alone (stays b t) k in
    ap (join b) (h.own both.0) ∙ stays_itself b t h.entry.there.wf both.1

pub keep-requires : goal.keep-requires
keep-requires c =
    let f = c.requires in
    record {
      member = f.member;
      entry = f.turned.entry;
      low = f.low;
      room = λ k. omega (arith, f.fitting.room, ap (λ (y : Tree × Bool). records y.0) (itself f.turned k));
    }

-- the writer's error is the answer
error_is : (kept : Bool) (x : Tree × Bool) (t : Tree) (out out' : List ℕ) (e : ℕ) (r : Result Finished OutOfRange) → IsErr r → kept ≡ false
    → (x.1 ≡ false) × (out' ≡ out) → FinishedIs kept x t out out' e r
error_is kept x t out out' e (Ok f) a b w = absurd (let o : ◌≡◌ {A = ℕ} 0 1 = cc in omega arith)
error_is kept x t out out' e (Err u) a b w = (b, w)

pub returns-in-Some : goal.returns-in-Some
returns-in-Some c = λ x t h.
    let g = c.args in
    let k = kept_where (g.alone && stays g.terms t) t _ _ g.e _ (c.in-Some.ensures t h.entry) in
    let is = itself h k.0 in
    let tree = ap (λ (y : Tree × Bool). y.0) is in (
      k.0,
      tree,
      (
        ap (λ (y : Tree × Bool). y.1) is,
        omega (arith, k.1, ap records tree),
        k.2 ∙ ap (λ u. put g.out.now (g.e * 16) (encode_by note u)) (sym tree),
      ),
    )

pub write_part-requires : goal.write_part-requires
write_part-requires c =
    let g = c.args in
    let f = c.requires in
    let n = new_where (g.alone && stays g.terms f.member) f.member _ _ g.e (c.in_default.ensures f.member f.turned.entry) in
    (g.terms, f.current, f.turned.shown, subst (λ o. Fitting (join g.terms f.current) o g.e) (sym n.1) f.fitting)

pub returns-in_err-end : goal.returns-in_err-end
returns-in_err-end c = λ x t h.
    let g = c.args in
    let n = new_where (g.alone && stays g.terms t) t _ _ g.e (c.in_default.ensures t h.entry) in
    let w = c.in_err-end.ensures g.terms x h.shown in
    error_is _ _ t g.out.now _ g.e _ c.from_residual.ensures.0 n.0 (w.0, w.1 ∙ n.1)

pub returns : goal.returns
returns c = λ x t h.
    let g = c.args in
    let n = new_where (g.alone && stays g.terms t) t _ _ g.e (c.in_default.ensures t h.entry) in
    (n.0, subst (λ o. WrittenIs (join g.terms x) o c.write_part.new.out g.e (Ok c.in_ok-end.end)) n.1 (c.in_ok-end.ensures g.terms x h.shown))

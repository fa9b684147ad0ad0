-- What a reel answers, refused or not, and that its pictures come in turn.
use mathlib.Core.Path.{◌≡◌, sym, ap, ◌∙◌}
use mathlib.Core.List.{List, [], ◌∷◌, ◌++◌, map, flatten, append_assoc}
use Prim.Native.Nat.{ℕ, suc}
use lib.ListN.{length}
use lib.Seq.{take-append_seam, drop-append_seam}
use Rattle.std.specs.Prelude.{Result, Ok, Err}
use borrow.Author.Tests.{ne_eqb}
use Rattle.refusals.proofs.Laws.{numbered, one-refusal}
use Rattle.reel.specs.declared.Stop.{Stop as StopTold}
use Rattle.reel.specs.declared.Reeled.{Reeled as ReeledTold}
use Rattle.condition.specs.declared.Condition.{Condition}
use Rattle.condition.specs.Bytes.{run_of}
use Rattle.condition.proofs.Good.{Sized, run-sized}
use Rattle.planner.specs.Plan.{at_start}
use Rattle.planner.proofs.Refusals.{plan-delivers}
use Rattle.reel.specs.Reel.{Stop}
use Rattle.reel.specs.Reel.{Reeled}
use Rattle.reel.specs.Reel.{Picture, pictures_of, plan_for, plans_of, first_refused, stop_of, written_by, lengths_of}
use Rattle.reel.specs.Reel.{stopped, reeled}
use Rattle.reel.specs.Reel.{reeled_by, refused_at, PicturesInTurn, Promise, Reels}
use Rattle.reel.proofs.Turns.{first_taken, unrefused}

-- where no picture is refused, plans laid end to end with their lengths give the pictures in turn, whatever stands behind
pub comes : (k : ℕ) (c : Condition) (ps : List Picture) (zs rest : List ℕ) → Sized c → (first_refused k c ps).refusal ≡ 0
    → PicturesInTurn c ps (map length (plans_of c ps) ++ zs) (flatten (plans_of c ps) ++ rest)
unfolding PicturesInTurn plans_of flatten
comes k c [] zs rest s e = tt
comes k c (p ∷ ps) zs rest s e =
    let t = first_taken k c p ps e in
    let bytes = plan_for c p in
    let d = plan-delivers c p.wanted p.asked 44 t.0 s.codes-40 s.fonts-40 in
    rw (append_assoc bytes, take-append_seam bytes, drop-append_seam bytes)
    (d, comes (suc k) (run_of c bytes) ps zs rest (run-sized c bytes s) t.1)

-- refused: nothing is put
pub refused : (stop : Stop) (c : Condition) (ps : List Picture) (out : List ℕ) (s : Stop) → s ≡ stop → (s.refusal ≡ 0 → ⊥)
    → (r : Reeled) → r ≡ refused_at s → Promise stop c ps out out r
unfolding written_by lengths_of flatten
refused stop c ps out s e h r er =
    let t = ne_eqb s.refusal 0 h in
    record {
      answer = er ∙ rw (← e, t);
      output = rw (← e, t);
      delivers = λ z. absurd (h (ap (λ (q : Reeled). q.stop.refusal) (sym er) ∙ z));
    }

-- accepted: the plans are put, and answered
pub put : (c : Condition) (codes cursors out : List ℕ) (s : Stop) → s ≡ stop_of c codes cursors (length out) → s.refusal ≡ 0
    → Sized c → (r : Reeled) (after : List ℕ)
    → (r ≡ reeled_by s (plans_of c (pictures_of codes cursors)))
    × (after ≡ at_start (flatten (plans_of c (pictures_of codes cursors))) out)
    → Reels c codes cursors out after r
unfolding written_by lengths_of
put c codes cursors out s e h w r after p =
    let a = unrefused c codes cursors (length out) (rw e at h) in
    record {
      answer = p.0 ∙ rw (← e, h);
      output = rw (← e, h) p.1;
      delivers = λ _. rw (ap (λ (q : Reeled). q.lengths) p.0, p.1) (comes 0 c (pictures_of codes cursors) _ _ w a.1);
    }

-- two answers that a promise allows, and what they leave in the buffer, are the same
pub one-reel : (stop : Stop) (c : Condition) (ps : List Picture) (out x y : List ℕ) (r s : Reeled) → Promise stop c ps out x r
    → Promise stop c ps out y s → (r ≡ s) × (x ≡ y)
one-reel stop c ps out x y r s f g = (f.answer ∙ sym g.answer, f.output ∙ sym g.output)

-- any two answers of the code that are the same in the paper's words are the same
same-stop : (a b : StopTold) → stopped a ≡ stopped b → a ≡ b
same-stop a b e =
    let k : a.picture ≡ b.picture = ap (λ (s : Stop). s.picture) e in
    let n : a.refusal ≡ b.refusal = one-refusal a.refusal b.refusal (ap (λ (s : Stop). s.refusal) e) in
    λ i. record { picture = k i; refusal = n i }

same-put : (a b : ReeledTold) → reeled (Ok a) ≡ reeled (Ok b) → a ≡ b
same-put a b e =
    let n : a.bytes ≡ b.bytes = ap (λ (r : Reeled). r.bytes) e in
    let l : a.lengths ≡ b.lengths = ap (λ (r : Reeled). r.lengths) e in
    λ i. record { bytes = n i; lengths = l i }

pub one-reeled : (r s : Result ReeledTold StopTold) → reeled r ≡ reeled s → r ≡ s
one-reeled (Ok a) (Ok b) e = ap Ok (same-put a b e)
one-reeled (Ok a) (Err b) e = absurd (numbered b.refusal (sym (ap (λ (r : Reeled). r.stop.refusal) e)))
one-reeled (Err a) (Ok b) e = absurd (numbered a.refusal (ap (λ (r : Reeled). r.stop.refusal) e))
one-reeled (Err a) (Err b) e = ap Err (same-stop a b (ap (λ (r : Reeled). r.stop) e))

pub same-reel : (stop : Stop) (c : Condition) (ps : List Picture) (out x y : List ℕ) (r s : Result ReeledTold StopTold)
    → Promise stop c ps out x (reeled r) → Promise stop c ps out y (reeled s) → (r ≡ s) × (x ≡ y)
same-reel stop c ps out x y r s f g =
    let e = one-reel stop c ps out x y (reeled r) (reeled s) f g in
    (one-reeled r s e.0, e.1)

-- What the host's reel leaves, by where it stops.
use mathlib.Core.Path.{◌≡◌, sym, ap, ◌∙◌}
use mathlib.Core.Bool.{true, false}
use mathlib.Core.List.{List, flatten}
use Prim.Native.Nat.{ℕ, ◌<◌}
use native.Mathlib.Omega.{arith}
use lib.Dec.{eqb}
use lib.ListN.{length}
use borrow.Author.Tests.{eq-eqb, ne_eqb}
use Rattle.laws.proofs.Tests.{by_cases, by_equal}
use Rattle.condition.specs.declared.Condition.{Condition}
use Rattle.condition.specs.Condition.{Outcome}
use Rattle.layout.specs.Layout.{condition_in}
use Rattle.reel.specs.Reel.{Stop, Reeled, Picture, matching, naming64, whole_refusal, stop_of, written_by, refused_at, Reels}
use Rattle.reel.proofs.Turns.{start-unformed}
use Rattle.reel.proofs.Answers.{refused}
use Rattle.host.specs.Host.{opened_of, host_refusal_by}
use Rattle.host.proofs.Once.{damaged-by, in_block, left-to}
use Rattle.sign.specs.Calls.{reel_stop_by, host_reel_stop, reel_number, lengths_after, ReelsIn, HostReelPromise, HostReel}

-- The block -----------------------------------------------------------------------------------------------------------------------

module _ (b codes cursors out : List ℕ) where
  pub reel-unmatched : matching codes cursors ≡ false → (s : Stop) → s ≡ naming64 1 → (r : Reeled) → r ≡ refused_at s
      → ReelsIn b codes cursors out out r
  unfolding reel_stop_by host_refusal_by
  reel-unmatched e s es r er = refused _ _ _ out (naming64 1) (rw e) (λ z. omega arith) r (er ∙ ap refused_at es)

  module _ (matched : matching codes cursors ≡ true) (g : Outcome) (o : g ≡ opened_of b) where
    pub reel-damaged : (g.refusal ≡ 0 → ⊥) → (s : Stop) → s ≡ naming64 g.refusal → (r : Reeled) → r ≡ refused_at s
        → ReelsIn b codes cursors out out r
    unfolding reel_stop_by
    reel-damaged bad s es r er =
        let n = whole_refusal (condition_in b) codes cursors (length out) in
        refused _ _ _ out (naming64 g.refusal) (rw (matched, damaged-by b g o n bad, ne_eqb g.refusal 0 bad)) bad r
        (er ∙ ap refused_at es)

    -- what the reel promises of the condition at hand; one that is not well formed it refuses by 3 too
    pub reel-in : g.refusal ≡ 0 → (left : List ℕ) (r : Reeled) → Reels g.condition codes cursors out left r
        → ReelsIn b codes cursors out left r
    unfolding reel_stop_by stop_of
    reel-in z left r q =
        let n = whole_refusal (condition_in b) codes cursors (length out) in
        let three = start-unformed (condition_in b) codes cursors (length out) matched in
        rw (matched, left-to b g o z n three) (rw (in_block b g o z) at q)

-- The call ------------------------------------------------------------------------------------------------------------------------

-- the number tells the bytes of the plans that are written, and a refusal from 65,536 on
written-number : (stop : Stop) (plans : List (List ℕ))
    → reel_number stop (length (flatten (written_by stop plans))) ≡ reel_number stop (length (flatten plans))
unfolding reel_number written_by
written-number stop plans = by_cases (eqb stop.refusal 0) (λ t. rw t) (λ t. rw t)

accepted-below : (stop : Stop) (bytes k : ℕ) → k ≡ reel_number stop bytes → k < 65536 → stop.refusal ≡ 0
unfolding reel_number
accepted-below stop bytes k e m =
    by_equal stop.refusal 0 (λ (z : stop.refusal ≡ 0). z)
    (λ (z : stop.refusal ≡ 0 → ⊥). let n = rw (ne_eqb stop.refusal 0 z) at e in absurd (omega arith))

module _ (b codes cursors lent out : List ℕ) where
  pub reel-short : (length lent ≡ 64 → ⊥) → (k : ℕ) → k ≡ reel_number (naming64 1) 0 → HostReel b codes cursors lent out k lent out
  unfolding host_reel_stop reel_stop_by host_refusal_by reel_number lengths_after written_by flatten
  reel-short h k ek =
      let e = ne_eqb (length lent) 64 h in
      record { answer = rw e ek; lengths = rw e; buffer = rw e; delivers = λ l. absurd (omega arith) }

  -- what the reel promises, given on, with its lengths in those that are lent
  pub reel-done : length lent ≡ 64 → (r : Reeled) (left told : List ℕ) (k : ℕ) → ReelsIn b codes cursors out left r
      → told ≡ r.lengths → k ≡ reel_number r.stop r.bytes
      → HostReel b codes cursors lent out k told left
  unfolding host_reel_stop lengths_after
  reel-done h r left told k q whole ek =
      let e = eq-eqb (length lent) 64 h in
      record {
        answer = rw e (ek ∙ ap (λ (s : Reeled). reel_number s.stop s.bytes) q.answer ∙ written-number _ _);
        lengths = rw e (whole ∙ ap (λ (s : Reeled). s.lengths) q.answer);
        buffer = rw e q.output;
        delivers = λ m. rw whole (q.delivers (accepted-below r.stop r.bytes k ek m));
      }

-- two answers that a promise allows, and what they leave, are the same
pub one-host-reel : (stop : Stop) (c : Condition) (ps : List Picture) (lent out : List ℕ) (r s : ℕ) (x y u v : List ℕ)
    → HostReelPromise stop c ps lent out r x u → HostReelPromise stop c ps lent out s y v → (r ≡ s) × (x ≡ y) × (u ≡ v)
one-host-reel stop c ps lent out r s x y u v p q =
    (p.answer ∙ sym q.answer, p.lengths ∙ sym q.lengths, p.buffer ∙ sym q.buffer)

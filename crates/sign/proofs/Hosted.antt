-- What the host's calls leave, by where they stop.
use mathlib.Core.Path.{◌≡◌, sym, ap, ◌∙◌, subst}
use mathlib.Core.Bool.{Bool, true, false, not}
use mathlib.Core.List.{List, ◌++◌}
use Prim.Native.Nat.{ℕ, ◌+◌, ◌*◌, ◌/◌, ◌%◌, ◌<◌, ◌≤◌}
use native.Mathlib.Omega.{arith}
use lib.Dec.{eqb, leb}
use lib.ListN.{length, take}
use borrow.Author.Tests.{eq-eqb, ne_eqb, leb-true, eqb-true, eqb-false, not-false}
use Rattle.laws.proofs.Tests.{by_cases, by_equal, passed}
use Rattle.condition.specs.declared.Condition.{Condition}
use Rattle.condition.specs.Condition.{Outcome, well_formed, power_up, power_up_answer}
use Rattle.condition.proofs.Good.{Sized, Indexed}
use Rattle.condition.proofs.Kept.{power-up-good, powered, unpowered}
use Rattle.layout.specs.Layout.{condition_in}
use Rattle.layout.proofs.PackedBack.{sized-in, indexed-in}
use Rattle.block.specs.Block.{block_of, put_over}
use Rattle.block.specs.Reading.{read_refusal}
use Rattle.block.specs.Writing.{Written, write_refusal, write_answer, write_out, WritePromise}
use Rattle.block.proofs.Sealing.{put_whole}
use Rattle.block.proofs.Damaged.{whole_length}
use Rattle.block.proofs.RoundTrip.{condition-back, refusal-of, reread}
use Rattle.interpreter.specs.declared.Tally.{Tally}
use Rattle.interpreter.specs.Run.{Ran, limit, RunPromise, run_answer}
use Rattle.interpreter.proofs.Answers.{Within, run-unformed, ran-sized, ran-indexed, ran-within, two_runs}
use Rattle.planner.specs.Answer.{Planned, bytes_by, Promise, Plans, PlansFonts}
use Rattle.host.specs.declared.Base.TheVariants.{Plan}
use Rattle.host.specs.Host.{opened_of, host_refusal_by, host_answer}
use Rattle.host.proofs.Once.{damaged-by, whole, in_block, left-to}
use Rattle.sign.specs.Calls.{tally_at, tally_bytes, ran_of, host_run_refusal, block_after, tally_after}
use Rattle.sign.specs.Calls.{HostRun, HostPromise, host_power_up_refusal, host_power_up_out, HostPowerUp}

-- ---- the tally

four-back : (n : ℕ) → n ≤ limit → n / 1 % 256 + n / 256 % 256 * 256 + n / 65536 % 256 * 65536 + n / 16777216 % 256 * 16777216 ≡ n
four-back n h =
    let first : n / 1 ≡ n = omega arith in
    let third : n / 65536 ≡ n / 256 / 256 = omega arith in
    let fourth : n / 16777216 ≡ n / 256 / 256 / 256 = omega arith in
    let rest : n / 256 / 256 / 256 / 256 ≡ 0 = omega arith in
    rw (first, third, fourth) (omega (arith, rest))

-- what is stored of a tally within its limits is read back as it was
pub tally-back : (t : Tally) → Within t → tally_at (tally_bytes t) ≡ t
unfolding tally_at tally_bytes
tally-back t w =
    let bytes = four-back t.bytes w.bytes in
    let busy = four-back t.busy w.busy in
    let flickerless = four-back t.flickerless w.flickerless in
    let worst = four-back t.worst w.worst in
    λ i. record { bytes = bytes i; busy = busy i; flickerless = flickerless i; worst = worst i }

-- ---- the run

pub run_short : (b t bs : List ℕ) → (length t ≡ 16 → ⊥) → HostRun b t bs 1 b t
unfolding host_refusal_by host_run_refusal block_after tally_after
run_short b t bs h =
    let e = ne_eqb (length t) 16 h in
    record { answer = simp e; block = simp e; tally = simp e; again = λ z. let q : ⊥ = omega arith in absurd q }

module _ (b t bs : List ℕ) (h : length t ≡ 16) where
  by-block : host_run_refusal b t bs ≡ host_refusal_by true b (ran_of b t bs).refusal
  unfolding host_run_refusal
  by-block = rw (eq-eqb (length t) 16 h)

  -- refused, by its number: nothing changes
  run-refused : (n : ℕ) → host_run_refusal b t bs ≡ n → (n ≡ 0 → ⊥) → HostRun b t bs n b t
  unfolding block_after tally_after
  run-refused n e bad =
      let f : eqb (host_run_refusal b t bs) 0 ≡ false = rw e (ne_eqb n 0 bad) in
      record { answer = sym e; block = rw f; tally = rw f; again = λ z. absurd (bad z) }

  module _ (g : Outcome) (o : g ≡ opened_of b) where
    pub run-damaged : (g.refusal ≡ 0 → ⊥) → HostRun b t bs g.refusal b t
    run-damaged bad = run-refused g.refusal (by-block ∙ damaged-by b g o _ bad) bad

    module _ (x : Tally) (r : Ran) (z : g.refusal ≡ 0) (ex : x ≡ tally_at t) (q : RunPromise g.condition x bs r) where
      told : r ≡ ran_of b t bs
      told =
          q.answer ∙ ap (λ (c : Condition). run_answer c x bs) (in_block b g o z)
          ∙ ap (λ (y : Tally). run_answer (condition_in b) y bs) ex

      number : host_run_refusal b t bs ≡ r.refusal
      number =
          by-block ∙ left-to b g o z _ (run-unformed (condition_in b) (tally_at t) bs) ∙ ap (λ (y : Ran). y.refusal) (sym told)

      pub run-stopped : (r.refusal ≡ 0 → ⊥) → HostRun b t bs r.refusal b t
      run-stopped = run-refused r.refusal number

      run-done : (b' t' : List ℕ) → r.refusal ≡ 0 → Sized r.condition → b' ≡ block_of r.condition → t' ≡ tally_bytes r.tally
          → HostRun b t bs 0 b' t'
      unfolding block_after tally_after
      run-done b' t' good s eb et =
          let e : eqb (host_run_refusal b t bs) 0 ≡ true = eq-eqb _ 0 (number ∙ good) in
          record {
            answer = sym (number ∙ good);
            block = eb ∙ simp (e, told);
            tally = et ∙ simp (e, told);
            again =
                λ _. ap read_refusal eb ∙ sym (refusal-of (block_of r.condition))
                ∙ ap (λ (o : Outcome). o.refusal) (reread r.condition s (q.kept good));
          }

      -- the block is put over the lent one, and the tally's numbers are those that are lent
      pub run-written : (b' t' : List ℕ) → r.refusal ≡ 0 → b' ≡ put_over r.condition b → t' ≡ tally_bytes r.tally
          → HostRun b t bs 0 b' t'
      run-written b' t' good eb et =
          let room : length b ≡ 512 = whole_length b (whole b g o z) in
          let s : Sized r.condition = rw told (ran-sized (condition_in b) (tally_at t) bs (sized-in b (omega arith))) in
          run-done b' t' good s (eb ∙ put_whole r.condition b room) et

-- ---- one run or several

-- what an accepted run tells
pub record Done (b t bs b' t' : List ℕ) : Type 0 where
  pub takes : (ran_of b t bs).refusal ≡ 0
  pub sized : Sized (ran_of b t bs).condition
  pub indexed : Indexed (ran_of b t bs).condition
  pub block : b' ≡ block_of (ran_of b t bs).condition
  pub tally : t' ≡ tally_bytes (ran_of b t bs).tally

pub done : {b t bs b' t' : List ℕ} → HostRun b t bs 0 b' t' → Done b t bs b' t'
unfolding host_run_refusal host_refusal_by read_refusal block_after tally_after
done {b} {t} {bs} {b'} {t'} h =
    let e : host_run_refusal b t bs ≡ 0 = sym h.answer in
    let p = passed (not (eqb (length t) 16)) 0 _ e in
    by_cases (eqb (read_refusal b) 0)
    (λ z. let long = passed (not (eqb (length b) 512)) 0 _ (eqb-true (read_refusal b) 0 z) in
    let room : length b ≡ 512 = eqb-true (length b) 512 (not-false _ long.0) in
    record {
      takes = rw z at p.1;
      sized = ran-sized (condition_in b) (tally_at t) bs (sized-in b (omega arith));
      indexed = ran-indexed (condition_in b) (tally_at t) bs (indexed-in b);
      block = h.block ∙ rw e;
      tally = h.tally ∙ rw e;
    })
    (λ z. absurd (eqb-false (read_refusal b) 0 z (rw z at p.1)))

-- two runs on a block and a tally leave what one with the bytes of both leaves, where none of the three is refused
pub two-host-runs : {b t xs ys b₁ t₁ b₂ t₂ b₃ t₃ : List ℕ} → HostRun b t xs 0 b₁ t₁ → HostRun b₁ t₁ ys 0 b₂ t₂
    → HostRun b t (xs ++ ys) 0 b₃ t₃ → (b₂ ≡ b₃) × (t₂ ≡ t₃)
two-host-runs {b} {t} {xs} {ys} {b₁} {t₁} f g h =
    let first = done f in
    let second = done g in
    let whole = done h in
    let r = ran_of b t xs in
    let c : condition_in b₁ ≡ r.condition =
    ap condition_in first.block ∙ condition-back r.condition first.sized first.indexed in
    let y : tally_at t₁ ≡ r.tally =
    ap tally_at first.tally ∙ tally-back r.tally (ran-within (condition_in b) (tally_at t) xs first.takes) in
    let on : ran_of b₁ t₁ ys ≡ run_answer r.condition r.tally ys = rw (c, y) in
    let e : ran_of b₁ t₁ ys ≡ ran_of b t (xs ++ ys) =
    on ∙ two_runs (condition_in b) (tally_at t) xs ys first.takes (rw on at second.takes) whole.takes in (
      second.block ∙ ap (λ (k : Ran). block_of k.condition) e ∙ sym whole.block,
      second.tally ∙ ap (λ (k : Ran). tally_bytes k.tally) e ∙ sym whole.tally,
    )

-- ---- the plans

-- a call that is refused for its lengths, or for the block, or by the planner
module _ (b : List ℕ) (n : ℕ) (bytes : List ℕ) (For : List ℕ → Type 0) (out : List ℕ) (long : Bool) where
  -- the refusal number of the call, and an answer by it
  refused-by : (number k : ℕ) → number ≡ k → (k ≡ 0 → ⊥) → HostPromise number bytes For out (host_answer Plan k 0) out
  unfolding host_answer bytes_by
  refused-by number k e bad =
      let t = ne_eqb k 0 bad in
      record {
        answer = rw (e, t);
        buffer = rw (e, t);
        delivers = λ l. let z : 256 + k < 256 = rw t at l in absurd (omega arith);
      }

  pub plan-short : long ≡ false → HostPromise (host_refusal_by long b n) bytes For out (host_answer Plan 1 0) out
  unfolding host_refusal_by
  plan-short e = refused-by _ 1 (rw e) (λ z. omega arith)

  module _ (fit : long ≡ true) (g : Outcome) (o : g ≡ opened_of b) where
    pub plan-damaged : (g.refusal ≡ 0 → ⊥)
        → HostPromise (host_refusal_by long b n) bytes For out (host_answer Plan g.refusal 0) out
    plan-damaged bad = refused-by _ g.refusal (rw fit (damaged-by b g o n bad)) bad

    -- what the planner promises, given on
    pub plan-done : (r : Planned) (k : ℕ) (left : List ℕ) → g.refusal ≡ 0 → (well_formed (condition_in b) ≡ false → n ≡ 3)
        → Promise n bytes For out left r
        → k ≡ host_answer Plan r.refusal r.length → HostPromise (host_refusal_by long b n) bytes For out k left
    unfolding host_answer bytes_by
    plan-done r k left ok u q e =
        rw (fit, left-to b g o ok n u)
        (by_equal n 0 (λ (z : n ≡ 0). let ra : r.refusal ≡ 0 = ap (λ (y : Planned). y.refusal) q.answer ∙ z in
        let rl : r.length ≡ length bytes = ap (λ (y : Planned). y.length) q.answer ∙ rw (eq-eqb n 0 z) in
        let ek : k ≡ r.length = e ∙ rw (eq-eqb r.refusal 0 ra) in
        record { answer = rw (eq-eqb n 0 z) (ek ∙ rl); buffer = q.output; delivers = λ l. rw ek (q.delivers ra) })
        (λ (z : n ≡ 0 → ⊥). let ra : r.refusal ≡ n = ap (λ (y : Planned). y.refusal) q.answer in
        let ek : k ≡ 256 + n = e ∙ rw (ne_eqb r.refusal 0 (λ (h : r.refusal ≡ 0). z (sym ra ∙ h)), ra) in
        record { answer = rw (ne_eqb n 0 z) ek; buffer = q.output; delivers = λ l. absurd (omega arith) }))

-- the planner's promise of the condition at hand, as one of the condition in the block
module _ (b : List ℕ) (c : Condition) (e : c ≡ condition_in b) where
  pub plan-in : (w : List ℕ) (k : ℕ) (out left : List ℕ) (r : Planned) → Plans c w k out left r
      → Plans (condition_in b) w k out left r
  plan-in w k out left r = subst (λ (c : Condition). Plans c w k out left r) e

  pub fonts-in : (w f : List ℕ) (k : ℕ) (out left : List ℕ) (r : Planned) → PlansFonts c w f k out left r
      → PlansFonts (condition_in b) w f k out left r
  fonts-in w f k out left r = subst (λ (c : Condition). PlansFonts c w f k out left r) e

-- ---- power-up

pub power-up-refused : (font : ℕ) (out : List ℕ) (g : Outcome) → g ≡ power_up_answer font → (g.refusal ≡ 0 → ⊥)
    → HostPowerUp font out g.refusal out
unfolding host_power_up_refusal host_power_up_out
power-up-refused font out g e bad =
    by_cases (leb font 1) (λ h. absurd (bad (ap (λ (o : Outcome). o.refusal) (e ∙ powered font h))))
    (λ h. let three = ap (λ (o : Outcome). o.refusal) (e ∙ unpowered font h) in
    record { answer = simp h three; buffer = simp h; again = λ z. absurd (bad z) })

-- what writing power-up gives, where the font is 0 or 1
power-up-out : (font : ℕ) (out : List ℕ) (r : Written) (left : List ℕ) → leb font 1 ≡ true → WritePromise (power_up font) out r left
    → HostPowerUp font out r.refusal left
unfolding host_power_up_refusal host_power_up_out write_answer write_out write_refusal
power-up-out font out r left h w =
    let f = power-up-good font (leb-true font 1 h) in
    record {
      answer = simp h (ap (λ (o : Written). o.refusal) w.answer ∙ simp f);
      buffer = simp h (w.buffer ∙ simp f);
      again = λ z. sym (refusal-of (take 512 left)) ∙ ap (λ (o : Outcome). o.refusal) (w.back z);
    }

pub power-up-written : (font : ℕ) (out : List ℕ) (g : Outcome) (r : Written) (left : List ℕ) → g ≡ power_up_answer font
    → g.refusal ≡ 0 → WritePromise g.condition out r left → HostPowerUp font out r.refusal left
power-up-written font out g r left e good w =
    by_cases (leb font 1)
    (λ h. power-up-out font out r left h (rw (ap (λ (o : Outcome). o.condition) (e ∙ powered font h)) at w))
    (λ h. let three : g.refusal ≡ 3 = ap (λ (o : Outcome). o.refusal) (e ∙ unpowered font h) in absurd (omega arith))

-- ---- any two allowed answers are equal

pub one-host-run : (b t bs : List ℕ) (r s : ℕ) (x y u v : List ℕ) → HostRun b t bs r x u → HostRun b t bs s y v
    → (r ≡ s) × (x ≡ y) × (u ≡ v)
one-host-run b t bs r s x y u v p q = (p.answer ∙ sym q.answer, p.block ∙ sym q.block, p.tally ∙ sym q.tally)

pub one-host-plan : (number : ℕ) (bytes : List ℕ) (For : List ℕ → Type 0) (out : List ℕ) (r s : ℕ) (x y : List ℕ)
    → HostPromise number bytes For out r x → HostPromise number bytes For out s y → (r ≡ s) × (x ≡ y)
one-host-plan number bytes For out r s x y p q = (p.answer ∙ sym q.answer, p.buffer ∙ sym q.buffer)

pub one-host-power-up : (font : ℕ) (out : List ℕ) (r s : ℕ) (x y : List ℕ) → HostPowerUp font out r x → HostPowerUp font out s y
    → (r ≡ s) × (x ≡ y)
one-host-power-up font out r s x y p q = (p.answer ∙ sym q.answer, p.buffer ∙ sym q.buffer)

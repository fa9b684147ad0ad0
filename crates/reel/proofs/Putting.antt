-- What the loop that puts the plans keeps, turn by turn, and what comes of it.
use mathlib.Core.Path.{◌≡◌, refl, sym, ap, ◌∙◌}
use mathlib.Core.Bool.{false}
use mathlib.Core.List.{List, [], ◌∷◌, ◌++◌, map, flatten}
use Prim.Native.Nat.{ℕ, ◌+◌, ◌-◌, ◌*◌, ◌≤◌, ◌<◌}
use native.Mathlib.Omega.{arith}
use native.Mathlib.Numerals.{add-one}
use lib.ListN.{length, get_or, take, drop, set, replicate, length-append, length-drop, length-map}
use lib.Seq.{sets, length-sets}
use Rattle.laws.proofs.Lists.{tail-part, part_length, drop-replicate, sets-append}
use Rattle.std.specs.Prelude.{Result, Ok, Err}
use Rattle.std.specs.Result.{IsOk}
use borrow.Author.Rules.{rules}
use Rattle.refusals.specs.declared.Refusal.{Refusal}
use Rattle.condition.specs.declared.Condition.{Condition}
use Rattle.condition.specs.Bytes.{run_of}
use Rattle.condition.specs.Steps.{either_start}
use Rattle.planner.specs.Plan.{at_start, pictured, Delivers}
use Rattle.planner.specs.Answer.{Planned, planned, Plans}
use Rattle.planner.proofs.Refusals.{with-room, told}
use Rattle.refusals.proofs.Laws.{numbered}
use Rattle.planner.proofs.Putting.{put-behind, put_front}
use Rattle.reel.specs.Reel.{pictures_of, plan_for, refusal_for, plans_of, first_refused, stop_of, lengths_of, reeled_by}
use Rattle.reel.specs.Reel.{Stop}
use Rattle.reel.proofs.Turns.{picture_at, next-picture, no-picture, first_taken, Fit, unrefused}

-- lengths stored over zeros
lengths-stored : (plans : List (List ℕ)) → length plans ≤ 64 → sets (replicate 64 0) 0 (map length plans) ≡ lengths_of plans
unfolding lengths_of
lengths-stored plans h =
    put_front (replicate 64 0) (map length plans) (omega (arith, length-map plans length))
    ∙ rw (length-map plans length) (ap (λ (zs : List ℕ). map length plans ++ zs) (drop-replicate (length plans) 64 0 h))

-- an answer that is not refused has a length
pub accepted-ok : (r : Result ℕ Refusal) → (planned r).refusal ≡ 0 → IsOk r
accepted-ok (Ok n) e = search rules
accepted-ok (Err r) e = absurd (numbered r e)

-- The loop ------------------------------------------------------------------------------------------------------------------------

-- the plans of the pictures from the k-th on
abbrev plans_from : Condition → List ℕ → List ℕ → ℕ → List (List ℕ)
plans_from left codes cursors k = plans_of left (drop k (pictures_of codes cursors))

-- with k plans put, the others, from where these leave the module, are what is left to store of them all; and that differs from the
-- start in the cells and the cursor alone
pub record Putting (c : Condition) (codes cursors out₀ out lengths : List ℕ) (left : Condition) (at k : ℕ) : Type 0 where
  pub given : Fit codes cursors (length out₀)
  pub inside : k ≤ length cursors
  pub most : at ≤ 44 * k
  like-start : (w : List ℕ) (a : ℕ) → pictured c w a ≡ pictured left w a
  none-refused : (first_refused k left (drop k (pictures_of codes cursors))).refusal ≡ 0
  turns : length (plans_from c codes cursors 0) ≡ k + length (plans_from left codes cursors k)
  end : length (flatten (plans_from c codes cursors 0)) ≡ at + length (flatten (plans_from left codes cursors k))
  laid : sets out₀ 0 (flatten (plans_from c codes cursors 0)) ≡ sets out at (flatten (plans_from left codes cursors k))
  kept : sets (replicate 64 0) 0 (map length (plans_from c codes cursors 0))
      ≡ sets lengths k (map length (plans_from left codes cursors k))

pub put-start : (c : Condition) (codes cursors out lengths : List ℕ) → (stop_of c codes cursors (length out)).refusal ≡ 0
    → lengths ≡ replicate 64 0 → Putting c codes cursors out out lengths c 0 0
put-start c codes cursors out lengths e z =
    let a = unrefused c codes cursors (length out) e in
    record {
      given = a.0;
      inside = omega arith;
      most = omega arith;
      like-start = λ w a. refl;
      none-refused = a.1;
      turns = omega arith;
      end = omega arith;
      laid = refl;
      kept = rw z;
    }

module _ (c : Condition) (codes cursors out₀ out lengths : List ℕ) (left : Condition) (at k : ℕ)
    (v : Putting c codes cursors out₀ out lengths left at k) where
  pub same-long : length out ≡ length out₀
  same-long = sym (simp length-sets at (ap length v.laid))

  module _ (h : k < length cursors) (wanted : List ℕ) (w : wanted ≡ take 40 (drop (k * 40) codes)) where
    pub wanted-40 : length wanted ≡ 40
    wanted-40 = ap length w ∙ part_length (k * 40) 40 codes (omega (arith, v.given.codes-40))

    -- the k-th picture is not refused, so the planner puts its plan
    module _ (p : Planned) (part : List ℕ)
        (q : Plans left wanted (get_or cursors k 0) (take (length out - at) (drop at out)) part p) where
      abbrev bytes : List ℕ
      bytes = plan_for left (picture_at codes cursors k)

      taken : (refusal_for left (picture_at codes cursors k) ≡ 0)
          × ((first_refused (k + 1) (run_of left bytes) (drop (k + 1) (pictures_of codes cursors))).refusal ≡ 0)
      taken =
          let t = first_taken k left _ _ (rw (next-picture codes cursors k h) at v.none-refused) in
          (t.0, rw (← add-one k) at t.1)

      room : 44 ≤ length (take (length out - at) (drop at out))
      room = rw (tail-part out at, length-drop at out) (omega (arith, v.most, v.given.room-44, same-long))

      put : (p.length ≡ length bytes) × (part ≡ at_start bytes (take (length out - at) (drop at out)))
          × Delivers (either_start false) left (take 40 (drop (k * 40) codes)) (get_or cursors k 0) bytes
      put = told _ _ _ _ _ _ (with-room left _ (get_or cursors k 0) _ room ∙ taken.0) (rw w at q)

      pub taken-on : p.refusal ≡ 0
      taken-on =
          ap (λ (r : Planned). r.refusal) q.answer ∙ with-room left wanted (get_or cursors k 0) _ room ∙ rw w taken.0

      pub plan-most : p.length ≤ 44
      plan-most = omega (arith, put.0, put.2.most)

      pub put-turn : (next : Condition) → next ≡ pictured c wanted (get_or cursors k 0)
          → Putting c codes cursors out₀ (take at out ++ (part ++ drop (length out - at) (drop at out)))
          (set lengths k p.length) next (at + p.length) (k + 1)
      unfolding plans_of flatten
      put-turn next e =
          let leaves : next ≡ run_of left bytes = rw w at (e ∙ v.like-start wanted (get_or cursors k 0)) ∙ sym put.2.gives in
          let plans : plans_from left codes cursors k ≡ bytes ∷ plans_from next codes cursors (k + 1) =
          rw (next-picture codes cursors k h, leaves) in
          let fits : at + length bytes ≤ length out = omega (arith, v.most, v.given.room-44, same-long, put.2.most) in
          let whole = put-behind out part at bytes fits put.1 in
          record {
            given = v.given;
            inside = omega arith;
            most = omega (arith, v.most, plan-most);
            like-start = λ u a. ap (λ (d : Condition). pictured d u a) (sym e);
            none-refused = rw leaves taken.1;
            turns = v.turns ∙ rw plans (omega arith);
            end = v.end ∙ rw (plans, length-append bytes _, put.0) (omega arith);
            laid = v.laid ∙ rw (plans, sets-append out at bytes _, whole, put.0);
            kept = v.kept ∙ rw (plans, put.0, add-one k);
          }

  pub put-end : length cursors ≤ k → (stop : Stop)
      → (record { stop = stop; bytes = at; lengths = lengths } ≡ reeled_by stop (plans_from c codes cursors 0))
      × (out ≡ at_start (flatten (plans_from c codes cursors 0)) out₀)
  unfolding plans_of flatten
  put-end h stop =
      let none : plans_from left codes cursors k ≡ [] = rw (no-picture codes cursors k h) in
      let end : at ≡ length (flatten (plans_from c codes cursors 0)) = omega (arith, rw none at v.end) in
      let few : length (plans_from c codes cursors 0) ≤ 64 = omega (arith, rw none at v.turns, v.given.most-64, v.inside) in
      let kept : lengths ≡ lengths_of (plans_from c codes cursors 0) =
      sym (rw none at v.kept) ∙ lengths-stored (plans_from c codes cursors 0) few in
      let fits : length (flatten (plans_from c codes cursors 0)) ≤ length out₀ =
      omega (arith, end, v.most, v.inside, v.given.room-44) in (
        λ i. record { stop = stop; bytes = end i; lengths = kept i },
        sym (rw none at v.laid) ∙ put_front out₀ (flatten (plans_from c codes cursors 0)) fits,
      )

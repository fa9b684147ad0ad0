-- Pictures in turn: what is refused, what each turn of a loop tells, and what comes of them all.
use mathlib.Core.Path.{◌≡◌, refl, sym, ◌∙◌}
use mathlib.Core.Bool.{true, false, cond, not, ◌&&◌, and-false}
use mathlib.Core.List.{List, [], ◌∷◌}
use Prim.Native.Nat.{ℕ, zero, suc, ◌+◌, ◌*◌, ◌/◌, ◌≤◌, ◌<◌}
use native.Mathlib.Omega.{arith}
use native.Mathlib.Numerals.{add-one}
use lib.Dec.{eqb, ltb, leb}
use lib.ListN.{length, get_or, take, drop, drop_of_length-le}
use lib.Seq.{drop-drop, drop-cons}
use borrow.Author.Tests.{eqb-true, eqb-false, ne_eqb, ltb-false, lt-ltb, le-ltb, leb-true, not-false}
use Rattle.laws.proofs.Tests.{by_cases, both, passed}
use Rattle.condition.specs.declared.Condition.{Condition}
use Rattle.condition.specs.Condition.{well_formed}
use Rattle.condition.specs.Bytes.{run_of}
use Rattle.condition.proofs.Good.{Sized, run-sized}
use Rattle.planner.specs.Answer.{plan_refusal}
use Rattle.planner.proofs.Refusals.{leaves, left-alike}
use Rattle.reel.specs.Reel.{Stop}
use Rattle.reel.specs.Reel.{Picture, pictures_of, plan_for, refusal_for, matching, naming64, first_refused, whole_refusal, stop_of}

-- Lengths -------------------------------------------------------------------------------------------------------------------------

pub short : (room m : ℕ) → room / 44 < m → ltb room (44 * m) ≡ true
short room m h = lt-ltb room (44 * m) (omega arith)

pub enough : (room m : ℕ) → m ≤ room / 44 → ltb room (44 * m) ≡ false
enough room m h = le-ltb room (44 * m) (omega arith)

-- Pictures ------------------------------------------------------------------------------------------------------------------------

-- the k-th
abbrev pub picture_at : List ℕ → List ℕ → ℕ → Picture
picture_at codes cursors k = record { wanted = take 40 (drop (k * 40) codes); asked = get_or cursors k 0 }

pictures-drop : (codes cursors : List ℕ) (k : ℕ)
    → drop k (pictures_of codes cursors) ≡ pictures_of (drop (k * 40) codes) (drop k cursors)
unfolding pictures_of
pictures-drop codes cursors zero = refl
pictures-drop codes [] (suc k) = refl
pictures-drop codes (asked ∷ cursors) (suc k) =
    let e : 40 + k * 40 ≡ suc k * 40 = omega arith in
    pictures-drop (drop 40 codes) cursors k ∙ rw (drop-drop (k * 40) 40 codes, e)

-- what is left at its turn, and behind the last
pub next-picture : (codes cursors : List ℕ) (k : ℕ) → k < length cursors
    → drop k (pictures_of codes cursors) ≡ picture_at codes cursors k ∷ drop (k + 1) (pictures_of codes cursors)
unfolding pictures_of
next-picture codes cursors k h =
    let n : k * 40 + 40 ≡ (k + 1) * 40 = omega arith in
    rw (
      pictures-drop codes cursors k,
      pictures-drop codes cursors (k + 1),
      ← n,
      add-one k,
      drop-cons cursors k 0 h,
      drop-drop 40 (k * 40) codes,
    )

pub no-picture : (codes cursors : List ℕ) (k : ℕ) → length cursors ≤ k → drop k (pictures_of codes cursors) ≡ []
unfolding pictures_of
no-picture codes cursors k h = pictures-drop codes cursors k ∙ rw (drop_of_length-le cursors h)

-- The first picture that is refused -----------------------------------------------------------------------------------------------

-- the same, with every picture asked for from c
unfoldable pub first_from : Condition → ℕ → List Picture → Stop
first_from c k [] = naming64 0
first_from c k (p ∷ ps) =
    cond (eqb (refusal_for c p) 0) (first_from c (suc k) ps) (record { picture = k; refusal = refusal_for c p })

-- what a plan leaves is refused what its start is refused, so every picture can be asked for from the start
first_alike : (c d : Condition) (k : ℕ) (ps : List Picture) → Sized d → ((p : Picture) → refusal_for d p ≡ refusal_for c p)
    → first_refused k d ps ≡ first_from c k ps
unfolding first_refused first_from
first_alike c d k [] s alike = refl
first_alike c d k (p ∷ ps) s alike =
    by_cases (eqb (refusal_for d p) 0)
    (λ t. let e = eqb-true (refusal_for d p) 0 t in
    let next = first_alike c (run_of d (plan_for d p)) (suc k) ps (run-sized d (plan_for d p) s)
    (λ q. rw (leaves d p.wanted p.asked 44 e s)
    (left-alike d p.wanted p.asked 44 e q.wanted q.asked 44 ∙ alike q)) in
    rw (t, next, ← alike p, t))
    (λ t. rw (t, ← alike p, t))

pub from_start : (c : Condition) (ps : List Picture) → Sized c → first_refused 0 c ps ≡ first_from c 0 ps
from_start c ps s = first_alike c c 0 ps s (λ p. refl)

-- a turn of the loop over the pictures, where n is what the k-th is refused by
module _ (c : Condition) (codes cursors : List ℕ) (k n : ℕ) (h : k < length cursors) (wanted : List ℕ)
    (w : wanted ≡ take 40 (drop (k * 40) codes)) (r : n ≡ plan_refusal c wanted (get_or cursors k 0) 44) where
  abbrev pictures : List Picture
  pictures = pictures_of codes cursors

  number : n ≡ refusal_for c (picture_at codes cursors k)
  number = r ∙ rw w

  pub goes-on : n ≡ 0 → first_from c k (drop k pictures) ≡ first_from c (k + 1) (drop (k + 1) pictures)
  unfolding first_from
  goes-on z = rw (next-picture codes cursors k h, ← number, z, add-one k)

  pub stops : (n ≡ 0 → ⊥) → first_from c k (drop k pictures) ≡ record { picture = k; refusal = n }
  unfolding first_from
  stops z = rw (next-picture codes cursors k h, ← number, ne_eqb n 0 z)

pub none-stops : (c : Condition) (codes cursors : List ℕ) (k : ℕ) → length cursors ≤ k
    → first_from c k (drop k (pictures_of codes cursors)) ≡ naming64 0
unfolding first_from
none-stops c codes cursors k h = rw (no-picture codes cursors k h)

-- of the pictures that are left the first is not refused, and none of the others
pub first_taken : (k : ℕ) (c : Condition) (p : Picture) (ps : List Picture) → (first_refused k c (p ∷ ps)).refusal ≡ 0
    → (refusal_for c p ≡ 0) × ((first_refused (suc k) (run_of c (plan_for c p)) ps).refusal ≡ 0)
unfolding first_refused
first_taken k c p ps e =
    by_cases (eqb (refusal_for c p) 0) (λ t. (eqb-true (refusal_for c p) 0 t, rw t at e))
    (λ t. absurd (eqb-false (refusal_for c p) 0 t (rw t at e)))

-- Where the reel is refused -------------------------------------------------------------------------------------------------------

-- what a call that is not refused as a whole is given
pub record Fit (codes cursors : List ℕ) (room : ℕ) : Type 0 where
  pub codes-40 : length codes ≡ 40 * length cursors
  pub most-64 : length cursors ≤ 64
  pub room-44 : 44 * length cursors ≤ room

whole-fit : (c : Condition) (codes cursors : List ℕ) (room : ℕ) → whole_refusal c codes cursors room ≡ 0 → Fit codes cursors room
unfolding whole_refusal
whole-fit c codes cursors room e =
    let p1 = passed (not (matching codes cursors)) _ _ e in
    let p3 = passed (not (leb (length cursors) 64 && well_formed c)) _ _ p1.1 in
    let p10 = passed (ltb room (44 * length cursors)) _ _ p3.1 in
    record {
      codes-40 = eqb-true _ _ (not-false _ p1.0);
      most-64 = leb-true _ _ (both (leb (length cursors) 64) _ (not-false _ p3.0)).0;
      room-44 = ltb-false _ _ p10.0;
    }

-- n is what the whole call is refused by
module _ (c : Condition) (codes cursors : List ℕ) (room n : ℕ) (e : n ≡ whole_refusal c codes cursors room) where
  pub whole-stops : (n ≡ 0 → ⊥) → naming64 n ≡ stop_of c codes cursors room
  unfolding stop_of
  whole-stops h = rw (← e, ne_eqb n 0 h)

  pub whole-passes : n ≡ 0 → (s : Stop) → s ≡ first_refused 0 c (pictures_of codes cursors) → s ≡ stop_of c codes cursors room
  unfolding stop_of
  whole-passes z s f = rw (← e, z) f

  pub whole-given : n ≡ 0 → (length codes ≡ 40 * length cursors) × (length cursors ≤ 64)
  whole-given z = let f = whole-fit c codes cursors room (sym e ∙ z) in (f.codes-40, f.most-64)

-- a start that is not well formed is refused by 3 where there are 40 codes for each cursor, whatever else is wrong
pub start-unformed : (c : Condition) (codes cursors : List ℕ) (room : ℕ) → matching codes cursors ≡ true
    → well_formed c ≡ false → whole_refusal c codes cursors room ≡ 3
unfolding whole_refusal
start-unformed c codes cursors room h w = rw (h, w, and-false)

-- a reel that is not refused: neither is the whole call, nor any picture
pub unrefused : (c : Condition) (codes cursors : List ℕ) (room : ℕ) → (stop_of c codes cursors room).refusal ≡ 0
    → Fit codes cursors room × ((first_refused 0 c (pictures_of codes cursors)).refusal ≡ 0)
unfolding stop_of
unrefused c codes cursors room e =
    let n = whole_refusal c codes cursors room in
    by_cases (eqb n 0) (λ t. (whole-fit c codes cursors room (eqb-true n 0 t), rw t at e))
    (λ t. absurd (eqb-false n 0 t (rw t at e)))

-- Bytes put in a buffer.
use mathlib.Core.Path.{◌≡◌, sym, ap, ◌∙◌}
use mathlib.Core.List.{List, [], ◌∷◌, ◌++◌, append_assoc, append-nil}
use Prim.Native.Nat.{ℕ, ◌+◌, ◌-◌, ◌≤◌, ◌<◌}
use native.Mathlib.Nat.{zero-add}
use native.Mathlib.Omega.{arith}
use lib.ListN.{length, set, take, drop, length-append, length-drop, drop_of_length-le}
use lib.Seq.{sets, sets-eq, drop-drop}
use Rattle.laws.proofs.Lists.{tail-part, sets-append}
use Rattle.moves.specs.Ways.{path, PutsWay}
use Rattle.planner.specs.Plan.{at_start}
use Rattle.moves.proofs.Put.{way-path}

-- bytes put at the start of what is lent of a buffer from the place k on
pub put-behind : (out part : List ℕ) (k : ℕ) (bs : List ℕ) → k + length bs ≤ length out
    → part ≡ at_start bs (take (length out - k) (drop k out))
    → take k out ++ (part ++ drop (length out - k) (drop k out)) ≡ sets out k bs
put-behind out part k bs h e =
    let none : drop (length out - k) (drop k out) ≡ [] =
    drop_of_length-le (drop k out) {i = length out - k} (omega (arith, length-drop k out)) in
    rw (e, tail-part out k, none, append-nil, drop-drop (length bs) k out)
    (sym (sets-eq bs out k h ∙ append_assoc (take k out) bs _))

-- bytes put at the start of a buffer
pub put_front : (out xs : List ℕ) → length xs ≤ length out → sets out 0 xs ≡ at_start xs out
put_front out xs h = sets-eq xs out 0 (omega arith) ∙ ap (λ (n : ℕ). xs ++ drop n out) (zero-add (length xs))

-- the way between two places, put at the start of what is lent
pub put-way-law : (out part : List ℕ) (k p q n : ℕ) → PutsWay p q (take (length out - k) (drop k out)) part n → p < 40 → q < 40
    → k + length (path p q) ≤ length out
    → (k + n ≡ k + length (path p q)) × (take k out ++ (part ++ drop (length out - k) (drop k out)) ≡ sets out k (path p q))
put-way-law out part k p q n w hp hq h =
    let lent = take (length out - k) (drop k out) in
    let way = way-path p q hp hq in
    let room : length (path p q) ≤ length lent = rw (tail-part out k, length-drop k out) (omega arith) in
    let put : part ≡ at_start (path p q) lent = w.output ∙ ap (sets lent 0) way ∙ put_front lent (path p q) room in
    (ap (λ (m : ℕ). k + m) (w.answer ∙ ap length way), put-behind out part k (path p q) h put)

-- one byte more behind what was put
pub put_last : (out out' : List ℕ) (k at w : ℕ) (xs : List ℕ) → (at ≡ k + length xs) × (out' ≡ sets out k xs)
    → (at + 1 ≡ k + length (xs ++ w ∷ [])) × (set out' at w ≡ sets out k (xs ++ w ∷ []))
put_last out out' k at w xs d =
    (omega (arith, d.0, length-append xs (w ∷ [])), rw (d.0, d.1) (sym (sets-append out k xs (w ∷ []))))

-- a plan that is put, and the same plan under another name
pub put_same : (after out xs ys : List ℕ) (n : ℕ) → (n ≡ length xs) × (after ≡ at_start xs out) → xs ≡ ys
    → (n ≡ length ys) × (after ≡ at_start ys out)
put_same after out xs ys n d e = (d.0 ∙ ap length e, d.1 ∙ ap (λ (bs : List ℕ). at_start bs out) e)

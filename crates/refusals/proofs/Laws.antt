-- No refusal has the number 0, none a number above 11, and no two the same: so an answer in the paper's words has one form in code.
use Rattle.std.proofs.Common.{ℕ, ◌≡◌, ◌≤◌}
use Rattle.std.specs.Prelude.{Result, Ok, Err, Option, None, Some, cond, eqb}
use mathlib.Core.Path.{refl, sym, ap, ◌∙◌}
use native.Mathlib.Omega.{arith}
use Rattle.refusals.specs.declared.Refusal.{Refusal}
use Rattle.refusals.specs.declared.Refusal.TheVariants.{WrongLength, Damaged, OutOfRange, TooLong, TallyFull, HalfReceived}
use Rattle.refusals.specs.declared.Refusal.TheVariants.{WrongMode, UserOnMove, NoCharacter, NoRoom, Lost}
use Rattle.refusals.specs.Refusals.{number_of, refusal_in, number_or_none}

-- what holds of a refusal by its number
by-number : (P : ℕ → Type 0) → P 1 → P 2 → P 3 → P 4 → P 5 → P 6 → P 7 → P 8 → P 9 → P 10 → P 11 → (e : Refusal) → P (number_of e)
by-number P a b c d f g h i j k l WrongLength = a
by-number P a b c d f g h i j k l Damaged = b
by-number P a b c d f g h i j k l OutOfRange = c
by-number P a b c d f g h i j k l TooLong = d
by-number P a b c d f g h i j k l TallyFull = f
by-number P a b c d f g h i j k l HalfReceived = g
by-number P a b c d f g h i j k l WrongMode = h
by-number P a b c d f g h i j k l UserOnMove = i
by-number P a b c d f g h i j k l NoCharacter = j
by-number P a b c d f g h i j k l NoRoom = k
by-number P a b c d f g h i j k l Lost = l

abbrev Within : ℕ → Type 0
Within n = (n ≡ 0 → ⊥) × (n ≤ 11)

within : (e : Refusal) → Within (number_of e)
within =
    by-number Within (omega arith, omega arith) (omega arith, omega arith) (omega arith, omega arith) (omega arith, omega arith)
    (omega arith, omega arith) (omega arith, omega arith) (omega arith, omega arith) (omega arith, omega arith)
    (omega arith, omega arith) (omega arith, omega arith) (omega arith, omega arith)

pub numbered : (e : Refusal) → number_of e ≡ 0 → ⊥
numbered e = (within e).0

pub most-11 : (e : Refusal) → number_of e ≤ 11
most-11 e = (within e).1

-- the refusal of a number
abbrev by_number : ℕ → Refusal
by_number n =
    cond (eqb n 1) WrongLength
    (cond (eqb n 2) Damaged
    (cond (eqb n 3) OutOfRange
    (cond (eqb n 4) TooLong
    (cond (eqb n 5) TallyFull
    (cond (eqb n 6) HalfReceived
    (cond (eqb n 7) WrongMode
    (cond (eqb n 8) UserOnMove
    (cond (eqb n 9) NoCharacter
    (cond (eqb n 10) NoRoom Lost)))))))))

back : (e : Refusal) → by_number (number_of e) ≡ e
back WrongLength = refl
back Damaged = refl
back OutOfRange = refl
back TooLong = refl
back TallyFull = refl
back HalfReceived = refl
back WrongMode = refl
back UserOnMove = refl
back NoCharacter = refl
back NoRoom = refl
back Lost = refl

pub one-refusal : (a b : Refusal) → number_of a ≡ number_of b → a ≡ b
one-refusal a b h = sym (back a) ∙ ap by_number h ∙ back b

pub one-or-none : (r s : Option Refusal) → number_or_none r ≡ number_or_none s → r ≡ s
one-or-none None None h = refl
one-or-none None (Some b) h = absurd (numbered b (sym h))
one-or-none (Some a) None h = absurd (numbered a h)
one-or-none (Some a) (Some b) h = ap Some (one-refusal a b h)

-- An answer in the paper's words has a number and a value. Where these are 0 and x of `Ok x`, and the number is the refusal's of an
-- `Err`, any two answers of the code that are the same in those words are the same
pub one-answer : {A R : Type 0} (words : Result A Refusal → R) (number : R → ℕ) (value : R → A)
    → ((x : A) → number (words (Ok x)) ≡ 0)
    → ((x : A) → value (words (Ok x)) ≡ x) → ((e : Refusal) → number (words (Err e)) ≡ number_of e) → (r s : Result A Refusal)
    → words r ≡ words s → r ≡ s
one-answer words number value accepted kept refused (Ok x) (Ok y) h = ap Ok (sym (kept x) ∙ ap value h ∙ kept y)
one-answer words number value accepted kept refused (Ok x) (Err b) h =
    absurd (numbered b (sym (refused b) ∙ sym (ap number h) ∙ accepted x))
one-answer words number value accepted kept refused (Err a) (Ok y) h =
    absurd (numbered a (sym (refused a) ∙ ap number h ∙ accepted y))
one-answer words number value accepted kept refused (Err a) (Err b) h =
    ap Err (one-refusal a b (sym (refused a) ∙ ap number h ∙ refused b))

-- and its number is that of its refusal
pub number-in : {A R : Type 0} (words : Result A Refusal → R) (number : R → ℕ) → ((x : A) → number (words (Ok x)) ≡ 0)
    → ((e : Refusal) → number (words (Err e)) ≡ number_of e) → (r : Result A Refusal) → refusal_in r ≡ number (words r)
number-in words number accepted refused (Ok x) = sym (accepted x)
number-in words number accepted refused (Err e) = sym (refused e)

-- Any two answers of the code that the contract of a vetting allows are the same.
use mathlib.Core.Path.{◌≡◌, refl}
use mathlib.Core.List.{List}
use Prim.Native.Nat.{ℕ}
use Rattle.std.specs.Prelude.{Result}
use Rattle.refusals.specs.declared.Refusal.{Refusal}
use Rattle.refusals.proofs.Laws.{one-answer}
use Rattle.condition.specs.declared.Condition.{Condition}
use Rattle.vetting.specs.declared.Verdict.{Verdict as Given}
use Rattle.vetting.specs.declared.Verdict.TheVariants.{Byte as GivenByte, Cell as GivenCell, Cursor as GivenCursor, Yes as GivenYes}
use Rattle.vetting.specs.Verdicts.{Verdict, Refused, Byte, Cell, Cursor, Yes, unrefused, verdict}
use Rattle.vetting.specs.Vetting.{refusal_in, Promise}
use Rattle.vetting.proofs.Answers.{one-verdict}

back : Verdict → Given
back (Refused n) = GivenCursor
back (Byte at) = GivenByte at
back (Cell place) = GivenCell place
back Cursor = GivenCursor
back (Yes excess) = GivenYes excess

accepted : (given : Given) → refusal_in (unrefused given) ≡ 0
accepted (GivenByte at) = refl
accepted (GivenCell place) = refl
accepted GivenCursor = refl
accepted (GivenYes excess) = refl

kept : (given : Given) → back (unrefused given) ≡ given
unfolding back
kept (GivenByte at) = refl
kept (GivenCell place) = refl
kept GivenCursor = refl
kept (GivenYes excess) = refl

pub one-said : (number : ℕ) (c : Condition) (wanted : List ℕ) (asked : ℕ) (string : List ℕ) (r s : Result Given Refusal)
    → Promise number c wanted asked string (verdict r) → Promise number c wanted asked string (verdict s) → r ≡ s
one-said number c wanted asked string r s f g =
    one-answer verdict (λ (v : Verdict). refusal_in v) back accepted kept (λ e. refl) r s
    (one-verdict number c wanted asked string (verdict r) (verdict s) f g)

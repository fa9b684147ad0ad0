-- What the host's vetting answers: 1 to 65,535 exactly where it is a yes.
use mathlib.Core.Path.{◌≡◌, refl, sym, ap, ◌∙◌, subst}
use mathlib.Core.Bool.{true}
use mathlib.Core.List.{List}
use Prim.Native.Nat.{ℕ, ◌+◌, ◌-◌, ◌≤◌, ◌<◌}
use native.Mathlib.Omega.{arith}
use Rattle.laws.proofs.Tests.{clash}
use Rattle.layout.specs.Layout.{condition_in}
use Rattle.vetting.specs.Verdicts.{Verdict, Refused, Byte, Cell, Cursor, Yes}
use Rattle.vetting.specs.Vetting.{is_yes, excess_in, Exceeds, VetsBlock}
use Rattle.vetting.proofs.Answers.{excess-most}
use Rattle.sign.specs.Calls.{vet_number, HostVet}

-- the number of a yes, and that no other is between 0 and 65,536
yes-number : (v : Verdict) → is_yes v ≡ true → vet_number v ≡ 1 + excess_in v
yes-number (Refused n) y = clash y refl
yes-number (Byte at) y = clash y refl
yes-number (Cell place) y = clash y refl
yes-number Cursor y = clash y refl
yes-number (Yes excess) y = refl

number-yes : (v : Verdict) → 0 < vet_number v → vet_number v < 65536 → is_yes v ≡ true
number-yes (Refused n) l h = absurd (omega arith)
number-yes (Byte at) l h = absurd (omega arith)
number-yes (Cell place) l h = absurd (omega arith)
number-yes Cursor l h = absurd (omega arith)
number-yes (Yes excess) l h = refl

module _ (b codes : List ℕ) (cursor : ℕ) (string : List ℕ) (v : Verdict) (p : VetsBlock b codes cursor string v) where
  pub number-most : excess_in v ≤ 32768
  number-most = excess-most b codes cursor string v p

  pub host-vets : (r : ℕ) → r ≡ vet_number v → HostVet b codes cursor string r
  host-vets r e =
      record {
        answer = e ∙ ap vet_number p.answer;
        exactly = (
          λ l. p.exactly.0 (number-yes v (omega (arith, l.0)) (omega (arith, l.1))),
          λ g. let n = yes-number v (p.exactly.1 g) in (omega arith, omega (arith, number-most)),
        );
        excess = λ l h.
            let y = number-yes v (omega arith) (omega arith) in
            let n : excess_in v ≡ r - 1 = omega (arith, yes-number v y) in
            subst (Exceeds (condition_in b) codes cursor string) n (p.excess y);
      }

pub one-host-vet : (b codes : List ℕ) (cursor : ℕ) (string : List ℕ) (r s : ℕ) → HostVet b codes cursor string r
    → HostVet b codes cursor string s → r ≡ s
one-host-vet b codes cursor string r s f g = f.answer ∙ sym g.answer

use mathlib.Core.Path.{◌≡◌, refl, sym, ap, ◌∙◌}
use mathlib.Core.Bool.{Bool, true, ◌&&◌, and-false}
use borrow.Author.Rules.{rules}
use Rattle.lounge.specs.Condition.{well_formed}
use Rattle.lounge.specs.Run.{kinds_formed}
use Rattle.lounge.proofs.Kept.{Sized}
use Rattle.lounge.proofs.Answers.{odd, not-formed, too_many, accepted}
use Rattle.lounge.proofs.run.Goals as goal
use Rattle.lounge.proofs.run.Goals.{Else-not-kinds_formed, Else-not-is_well_formed, Start}

sized : (c : Start) → Sized c.args.c
sized c = record { codes-40 = search rules; marks-40 = search rules; users-48 = search rules; held-4 = search rules }

-- what the tests have told: the condition and the kinds are well formed
is-formed : (c : Else-not-is_well_formed) → well_formed c.args.c ≡ true
is-formed c = sym c.is_well_formed.ensures ∙ c.if-not-is_well_formed.false

kinds : (c : Else-not-kinds_formed) → kinds_formed c.args.pairs.now ≡ true
kinds c = sym c.kinds_formed.ensures ∙ c.if-not-kinds_formed.false

pub returns-then-pairs-eq1 : goal.returns-then-pairs-eq1
returns-then-pairs-eq1 c = odd _ _ _ c.if-pairs-eq1.true refl

pub returns-then-not-is_well_formed : goal.returns-then-not-is_well_formed
returns-then-not-is_well_formed c =
    let k = kinds_formed c.args.pairs.now in
    let no-formed = sym c.is_well_formed.ensures ∙ c.if-not-is_well_formed.true in
    not-formed _ _ _ c.if-pairs-eq1.false (ap (λ (t : Bool). t && k) no-formed) refl

pub returns-then-not-kinds_formed : goal.returns-then-not-kinds_formed
returns-then-not-kinds_formed c =
    let w = well_formed c.args.c in
    let no-formed = sym c.kinds_formed.ensures ∙ c.if-not-kinds_formed.true in
    not-formed _ _ _ c.if-pairs-eq1.false (ap (λ (t : Bool). w && t) no-formed ∙ and-false w) refl

pub returns-then-pairs-gt-MOST_PAIRS : goal.returns-then-pairs-gt-MOST_PAIRS
returns-then-pairs-gt-MOST_PAIRS c =
    let at = goal.at.returns-then-pairs-gt-MOST_PAIRS c in
    too_many _ _ _ c.if-pairs-eq1.false (is-formed at.Else-not-is_well_formed) (kinds at.Else-not-kinds_formed)
    c.if-pairs-gt-MOST_PAIRS.true refl

pub returns : goal.returns
returns c =
    let at = goal.at.returns c in
    accepted _ _ _ c.if-pairs-eq1.false (is-formed at.Else-not-is_well_formed) (kinds at.Else-not-kinds_formed)
    c.if-pairs-gt-MOST_PAIRS.false (sized at.Start) (rw c.run_in.ensures)

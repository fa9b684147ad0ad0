use borrow.Author.Tests.{lt-ltb, le-ltb}
use mathlib.Core.Path.{sym, ◌∙◌}
use Rattle.vetting.specs.Vetting.{long_refusal}
use Rattle.vetting.proofs.checked.Goals as goal

pub returns-then-is_before_length-clause-number : goal.returns-then-is_before_length-clause-number
unfolding long_refusal
returns-then-is_before_length-clause-number c = rw (sym c.is_before_length.ensures ∙ c.if-is_before_length.true)

pub returns-then-size-gt-MOST-clause-number : goal.returns-then-size-gt-MOST-clause-number
unfolding long_refusal
returns-then-size-gt-MOST-clause-number c =
    rw (sym c.is_before_length.ensures ∙ c.if-is_before_length.false, lt-ltb _ _ c.if-size-gt-MOST.true)

pub returns-clause-number : goal.returns-clause-number
unfolding long_refusal
returns-clause-number c =
    rw (sym c.is_before_length.ensures ∙ c.if-is_before_length.false, le-ltb _ _ c.if-size-gt-MOST.false)

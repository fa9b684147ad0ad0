use mathlib.Core.Path.{sym, ◌∙◌}
use native.Mathlib.Omega.{arith}
use Rattle.vetting.proofs.Stepping.{reads-move, reads-jump, reads-none, reads-nothing}
use Rattle.vetting.proofs.steps.read_move.Goals as goal

pub returns-in-len1-up : goal.returns-in-len1-up
returns-in-len1-up c = (reads-move _ _ (sym c.is_move.ensures ∙ c.if-is_move.true) _ c.led.ensures, λ z. omega arith)

pub returns-in-27 : goal.returns-in-27
returns-in-27 c = (
  reads-jump c.args.s.now _ (sym c.is_move.ensures ∙ c.if-is_move.false) (omega arith) (omega arith) (omega arith)
      (omega arith),
  λ z. omega arith,
)

pub returns-in_default : goal.returns-in_default
returns-in_default c = reads-nothing _ _ (omega arith)

pub returns-in_default-2 : goal.returns-in_default-2
returns-in_default-2 c = reads-none _ _ (sym c.is_move.ensures ∙ c.if-is_move.false) (λ l a b d. omega arith)

pub returns-in_default-3 : goal.returns-in_default-3
returns-in_default-3 c = reads-none _ _ (sym c.is_move.ensures ∙ c.if-is_move.false) (λ l a b d. omega arith)

pub returns-in_default-4 : goal.returns-in_default-4
returns-in_default-4 c = reads-none _ _ (sym c.is_move.ensures ∙ c.if-is_move.false) (λ l a b d. omega arith)

pub returns-in_default-5 : goal.returns-in_default-5
returns-in_default-5 c = reads-none _ _ (sym c.is_move.ensures ∙ c.if-is_move.false) (λ l a b d. omega arith)

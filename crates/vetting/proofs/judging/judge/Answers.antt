use mathlib.Core.Path.{refl, sym, ◌∙◌}
use native.Mathlib.Omega.{arith}
use Rattle.vetting.proofs.Through.{judge-start, write-turn, write-stop, move-turn, move-stop, judge-end, wanted-40}
use borrow.Author.Rules.{rules}
use Rattle.vetting.proofs.judging.judge.Goals as goal

pub loop-i-init : goal.loop-i-init
loop-i-init c =
    judge-start _ _ _ c.requires.0 _ _ _ _ (search rules) (search rules) c.clears_first-clear.ensures c.codes_at-codes.ensures
    c.fonts_at-fonts.ensures

pub returns-then-p-low : goal.returns-then-p-low
returns-then-p-low c =
    write-stop _ _ _ c.requires.0 c.loop-i.invariant c.loop-i-test.true
    (omega (arith, c.type_inv.string c.loop-i.i))
    (sym c.is_char.ensures ∙ c.if-is_char.true) c.if-p-low.true

pub loop-i-preserved-then-is_char : goal.loop-i-preserved-then-is_char
loop-i-preserved-then-is_char c =
    write-turn _ _ _ c.requires.0 c.loop-i.invariant c.loop-i-test.true
    (omega (arith, c.type_inv.string c.loop-i.i)) _ _ _
    (sym c.is_char.ensures ∙ c.if-is_char.true)
    c.if-p-low.false c.next-p.ensures c.put.ensures
    c.put-then-is_char.ensures

pub returns-in_default : goal.returns-in_default
returns-in_default c =
    move-stop _ _ _ c.requires.0 c.loop-i.invariant c.loop-i-test.true
    (omega (arith, c.type_inv.string c.loop-i.i)) _
    (sym c.is_char.ensures ∙ c.if-is_char.false) refl (rw c.in_default.is at c.read_move.ensures)

pub loop-i-preserved : goal.loop-i-preserved
loop-i-preserved c =
    move-turn _ _ _ c.requires.0 c.loop-i.invariant c.loop-i-test.true
    (omega (arith, c.type_inv.string c.loop-i.i)) _
    (sym c.is_char.ensures ∙ c.if-is_char.false) c.in-Some.ensures.0 c.in-Some.ensures.1

pub settle-requires : goal.settle-requires
settle-requires c =
    wanted-40 _ _ _ c.requires.0

pub returns : goal.returns
returns c =
    judge-end _ _ _ c.requires.0 c.loop-i.invariant c.loop-i-test.false _ _ _ c.requires.2 c.saturating_sub-excess.ensures
    c.settle.ensures

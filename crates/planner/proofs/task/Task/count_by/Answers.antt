use mathlib.Core.Path.{sym, ◌∙◌}
use Prim.Native.Nat.{ℕ, ◌+◌, ◌<◌}
use native.Mathlib.Omega.{arith}
use Rattle.moves.proofs.Rule.{fewest-length}
use Rattle.planner.proofs.Canvas.{wrong_in}
use Rattle.planner.proofs.Counting.{count-start, count-skip, count-sum, count_fits, count-write, count-end}
use Rattle.planner.proofs.Counting.{end_fits}
use Rattle.planner.proofs.Started.{count_by, clear-most}
use Rattle.planner.proofs.task.Task.count_by.Goals as goal
use Rattle.planner.proofs.task.Task.count_by.Goals.{After-switch_length, then-differs, else-differs}

-- What is counted is the plan -----------------------------------------------------------------------------------------------------
pub loop-j-init : goal.loop-j-init
loop-j-init c = count-start _ _ _ _ _ _ _ _ _ c.args.self.given.cursor-40

pub loop-j-preserved : goal.loop-j-preserved
unfolding wrong_in
loop-j-preserved c =
    let v = c.loop-j.invariant in
    let d = c.differs.ensures in
    let g = c.args.self.given in
    elim c.if-differs.branch [
      | then-differs w ↦
          let sum = count-sum _ _ _ _ _ _ _ _ v _ _ w.number.ensures w.switch_length.ensures (omega (arith, g.wanted-40)) in
          count-write _ _ _ _ _ _ _ _ v _ _ _ (omega (arith, g.wanted-40)) (sym d ∙ w.if-differs.true)
          (omega (arith, w.n-is, sum)) (w.p-is ∙ w.next-p.ensures) w.selected-is
      | else-differs w ↦
          count-skip _ _ _ _ _ _ _ _ v _ _ _ (omega (arith, g.wanted-40)) (sym d ∙ w.if-differs.false) w.p-is w.selected-is w.n-is
    ]

pub returns : goal.returns
returns c =
    let v = c.loop-j.invariant in
    let g = c.args.self.given in
    rw (fewest-length _ _ _ c.number-2.ensures v.inside g.asked-40)
    (count_by c.args.clear _ _ _ _ _ _ c.codes_at-codes.ensures c.fonts_at-standing.ensures _
    (rw (← c.from-n.ensures) (count-end _ _ _ _ _ _ _ _ v (omega (arith, g.wanted-40)))))

-- a byte holds what is counted
abbrev Sum : After-switch_length → ℕ
Sum c =
    let before = c.loop-j.n in
    before + c.number.result + c.switch_length.result + 1

fits : (c : After-switch_length) → Sum c < 256
unfolding wrong_in
fits c =
    let v = c.loop-j.invariant in
    let g = c.args.self.given in
    let one = clear-most c.args.clear in
    let sum = count-sum _ _ _ _ _ _ _ _ v _ _ c.number.ensures c.switch_length.ensures (omega (arith, g.wanted-40)) in
    rw sum
    (count_fits _ _ _ _ _ _ _ _ v (omega (arith, c.from-n.ensures, one)) (omega (arith, g.wanted-40))
    (sym c.differs.ensures ∙ c.if-differs.true))

pub overflow_add-n : goal.overflow_add-n
overflow_add-n c = omega (arith, fits c)

pub overflow_add-n-then-differs : goal.overflow_add-n-then-differs
overflow_add-n-then-differs c = omega (arith, fits c)

pub overflow_add-n-then-differs-2 : goal.overflow_add-n-then-differs-2
overflow_add-n-then-differs-2 c = omega (arith, fits c)

pub overflow_add-result : goal.overflow_add-result
overflow_add-result c =
    let v = c.loop-j.invariant in
    let g = c.args.self.given in
    let last = fewest-length _ _ _ c.number-2.ensures v.inside g.asked-40 in
    let one = clear-most c.args.clear in
    omega (arith, last, end_fits _ _ _ _ _ _ _ _ v (omega (arith, c.from-n.ensures, one)) (omega (arith, g.wanted-40)))

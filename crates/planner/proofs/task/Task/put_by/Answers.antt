use mathlib.Core.Path.{sym, ◌∙◌}
use native.Mathlib.Omega.{arith}
use Rattle.planner.proofs.Canvas.{wrong_in}
use Rattle.planner.proofs.Counting.{plan-start, plan-skip, plan-write, plan-end}
use Rattle.planner.proofs.Counting.{way-room, code-room, end-room, end-long}
use Rattle.planner.proofs.Started.{clearing-long, clear_room, room_by, put-by}
use Rattle.planner.proofs.task.Task.put_by.Goals as goal
use Rattle.planner.proofs.task.Task.put_by.Goals.{then-differs, else-differs}

-- What is put is the plan ---------------------------------------------------------------------------------------------------------
pub loop-j-init : goal.loop-j-init
loop-j-init c =
    plan-start _ _ _ _ _ _ _ _ _ _ c.args.self.given.cursor-40
    (room_by c.args.clear _ _ _ _ _ _ c.codes_at-codes.ensures c.fonts_at-standing.ensures _ _ _ c.requires
    c.put_clear-k.ensures)

pub loop-j-preserved : goal.loop-j-preserved
unfolding wrong_in
loop-j-preserved c =
    let v = c.loop-j.invariant in
    let d = c.differs.ensures in
    let g = c.args.self.given in
    elim c.if-differs.branch [
      | then-differs w ↦
          plan-write _ _ _ _ _ _ _ _ v _ _ _ _ _ _ (omega (arith, g.wanted-40)) (sym d ∙ w.if-differs.true) w.put_way-at.ensures
          (w.k-is ∙ w.put_code-k.ensures.0, w.out-is ∙ w.put_code-k.ensures.1) (w.p-is ∙ w.next-p.ensures) w.selected-is
      | else-differs w ↦
          plan-skip _ _ _ _ _ _ _ _ v _ _ _ _ (omega (arith, g.wanted-40)) (sym d ∙ w.if-differs.false) w.out-is w.p-is
          w.selected-is w.k-is
    ]

pub returns : goal.returns
returns c =
    let v = c.loop-j.invariant in
    let d = c.put_clear-k.ensures in
    let g = c.args.self.given in
    put-by c.args.clear _ _ _ _ _ _ c.codes_at-codes.ensures c.fonts_at-standing.ensures _ _ _ _ _ c.requires d
    (plan-end _ _ _ _ _ _ _ _ v _ _ (omega (arith, g.wanted-40)) c.put_way.ensures)

pub put_clear-k-requires : goal.put_clear-k-requires
put_clear-k-requires c =
    clear_room c.args.clear _ _ _ _ _ _ c.codes_at-codes.ensures c.fonts_at-standing.ensures _ c.requires

pub put_way-at-requires : goal.put_way-at-requires
unfolding wrong_in
put_way-at-requires c =
    let w = sym c.differs.ensures ∙ c.if-differs.true in
    let g = c.args.self.given in (
      c.loop-j.invariant.counting.inside,
      omega (arith, g.wanted-40),
      way-room _ _ _ _ _ _ _ _ c.loop-j.invariant (omega (arith, g.wanted-40)) w,
    )

pub put_code-k-requires : goal.put_code-k-requires
unfolding wrong_in
put_code-k-requires c =
    let v = c.loop-j.invariant in
    let g = c.args.self.given in
    let w = sym c.differs.ensures ∙ c.if-differs.true in
    code-room _ _ _ _ _ _ _ _ v _ _ (omega (arith, g.wanted-40)) w c.put_way-at.ensures

pub put_way-requires : goal.put_way-requires
put_way-requires c =
    let v = c.loop-j.invariant in
    let g = c.args.self.given in
    (v.counting.inside, g.asked-40, end-room _ _ _ _ _ _ _ _ v (omega (arith, g.wanted-40)))

pub shape_of-out : goal.shape_of-out
shape_of-out c =
    let v = c.loop-j.invariant in
    let a = c.args in
    clearing-long a.clear a.out.now _ _ c.put_clear-k.ensures.1
    (end-long _ _ _ _ _ _ _ _ v _ c.put_way.ensures.1)

use native.Mathlib.Omega.{arith}
use Rattle.moves.proofs.Put.{put-none, put_one, put_two, put_all}
use Rattle.moves.proofs.bytes.put_three.Goals as goal

pub returns-then-n-eq0 : goal.returns-then-n-eq0
returns-then-n-eq0 c = put-none _ c.args.n _ _ _ (omega arith)

pub returns-then-n-eq1 : goal.returns-then-n-eq1
returns-then-n-eq1 c =
    put_one _ c.args.n _ _ _ _ c.put.ensures (omega arith)

pub returns-then-n-eq2 : goal.returns-then-n-eq2
returns-then-n-eq2 c =
    put_two _ c.args.n _ _ _ _ _ c.put.ensures c.put-2.ensures (omega arith)

pub returns : goal.returns
returns c =
    put_all _ c.args.n _ _ _ _ _ _ c.put.ensures c.put-2.ensures c.put-3.ensures
    (omega arith)

use native.Mathlib.Omega.{arith}
use native.Mathlib.Numerals.{unary_clauses}
use lib.ListN.{length-set}
use Rattle.users.specs.Users.{put_of}
use Rattle.users.proofs.put.Goals as goal

pub bounds-bytes-at-2 : goal.bounds-bytes-at-2
bounds-bytes-at-2 c = simp length-set (omega arith)

pub bounds-bytes-at-3 : goal.bounds-bytes-at-3
bounds-bytes-at-3 c = simp length-set (omega arith)

pub bounds-bytes-at-4 : goal.bounds-bytes-at-4
bounds-bytes-at-4 c = simp length-set (omega arith)

pub bounds-bytes-at-5 : goal.bounds-bytes-at-5
bounds-bytes-at-5 c = simp length-set (omega arith)

pub bounds-bytes-at-6 : goal.bounds-bytes-at-6
bounds-bytes-at-6 c = simp length-set (omega arith)

pub shape_of-bytes : goal.shape_of-bytes
shape_of-bytes c = simp length-set (omega arith)

pub returns : goal.returns
unfolding put_of
returns c = simp unary_clauses

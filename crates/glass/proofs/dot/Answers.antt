use Rattle.glass.specs.Answers.{dot_answer}
use native.Mathlib.Omega.{arith}
use borrow.Author.Tests.{le-leb, lt-leb}
use Rattle.glass.proofs.dot.Goals as goal
use Rattle.glass.proofs.dot.Goals.{then-k-lt1-via-then-k-lt1, then-k-lt1-via-else-k-lt1+then-k-gt35}

pub returns-then-k-lt1 : goal.returns-then-k-lt1
unfolding dot_answer
returns-then-k-lt1 c =
    let k = c.args.k in
    elim c.then-k-lt1.branch [
      | then-k-lt1-via-then-k-lt1 w ↦ rw (lt-leb 1 k (omega arith))
      | then-k-lt1-via-else-k-lt1+then-k-gt35 w ↦ rw (le-leb 1 k (omega arith), lt-leb k 35 (omega arith))
    ]

pub returns-in_default : goal.returns-in_default
unfolding dot_answer
returns-in_default c =
    rw (le-leb 1 c.args.k (omega arith), le-leb c.args.k 35 (omega arith), ← c.lookup.ensures, c.in_default.is)

pub returns : goal.returns
unfolding dot_answer
returns c =
    rw (le-leb 1 c.args.k (omega arith), le-leb c.args.k 35 (omega arith), ← c.lookup.ensures, c.in-Some.is)
    (rw (c.dot.ensures, c.character_at.ensures, c.list.ensures.0))

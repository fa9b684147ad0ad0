use borrow.Author.Tests.{lt-ltb, le-ltb, eq-eqb, ne_eqb}
use Rattle.lounge.specs.Pairs.{tab_of}
use Rattle.lounge.proofs.Lounge.tab.Goals as goal

pub returns-then-self-lt-LAST_COLUMN : goal.returns-then-self-lt-LAST_COLUMN
unfolding tab_of
returns-then-self-lt-LAST_COLUMN c = rw (lt-ltb _ _ c.if-self-lt-LAST_COLUMN.true)

pub returns-then-self-eq-LAST_COLUMN : goal.returns-then-self-eq-LAST_COLUMN
unfolding tab_of
returns-then-self-eq-LAST_COLUMN c =
    rw (c.go_to.ensures, le-ltb _ _ c.if-self-lt-LAST_COLUMN.false, eq-eqb _ _ c.if-self-eq-LAST_COLUMN.true)

pub returns : goal.returns
unfolding tab_of
returns c =
    rw (
      c.go_to-2.ensures,
      c.scroll.ensures,
      le-ltb _ _ c.if-self-lt-LAST_COLUMN.false,
      ne_eqb _ _ c.if-self-eq-LAST_COLUMN.false,
    )

use Rattle.show_lounge.specs.Rest.{ran_with}
use Rattle.show_lounge.proofs.Laws.{ran-all}
use Rattle.show_lounge.proofs.ran.Goals as goal

pub returns-in_default : goal.returns-in_default
unfolding ran_with
returns-in_default c =
    let e = rw c.reset.ensures at c.run.ensures.answer in
    ran-all _ _ _ (rw c.in_default.is e)

pub returns-then-rest : goal.returns-then-rest
unfolding ran_with
returns-then-rest c = ran-all _ _ _ (rw (c.in-Some.is, c.if-rest.true))

pub returns-then-rest-kinds_formed : goal.returns-then-rest-kinds_formed
unfolding ran_with
returns-then-rest-kinds_formed c =
    ran-all _ _ _ (rw (c.in-Some.is, c.if-rest.false, ← c.kinds_formed.ensures, c.if-rest-kinds_formed.true))

pub returns : goal.returns
unfolding ran_with
returns c =
    ran-all _ _ _ (rw (c.in-Some.is, c.if-rest.false, ← c.kinds_formed.ensures, c.if-rest-kinds_formed.false))

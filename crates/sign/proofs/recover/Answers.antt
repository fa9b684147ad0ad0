use mathlib.Core.Path.{refl}
use Rattle.std.proofs.lemmas.Result.{err_from_is_err_and}
use Rattle.recovery.proofs.Answers.{unformed}
use Rattle.sign.specs.Calls.{host_recover_refusal}
use Rattle.host.specs.Host.{host_answer}
use Rattle.host.proofs.Once.{in_block}
use Rattle.refusals.proofs.Laws.{numbered}
use Rattle.sign.proofs.Hosted.{plan-damaged, plan-done}
use Rattle.sign.proofs.Recovered.{host-exactly, recovers-in}
use Rattle.sign.proofs.recover.Goals as goal

pub returns-in_err-c : goal.returns-in_err-c
unfolding host_recover_refusal
returns-in_err-c c =
    let e = err_from_is_err_and c.from_residual.result c.from_residual.ensures.1 in
    rw (e.1, e.2) (host-exactly _ _ _ _ (plan-damaged _ _ _ _ _ _ refl _ c.in_err-c.ensures (numbered _)))

-- (`host_answer` is for `recover_refused_as_a_question`, whose right program has a number where this one has an `Err`)
pub returns-in_err-length : goal.returns-in_err-length
unfolding host_recover_refusal host_answer
returns-in_err-length c =
    let e = err_from_is_err_and c.from_residual-in_err-length.result c.from_residual-in_err-length.ensures.1 in
    let p = recovers-in _ _ (in_block _ _ c.in_ok-c.ensures refl) _ _ _ c.in_err-length.ensures in
    rw (e.1, e.2)
    (host-exactly _ _ _ _
    (plan-done _ _ _ _ _ _ refl _ c.in_ok-c.ensures _ _ _ refl (λ w. unformed _ _ w) p.gives refl))

pub returns : goal.returns
unfolding host_recover_refusal
returns c =
    let p = recovers-in _ _ (in_block _ _ c.in_ok-c.ensures refl) _ _ _ c.in_ok-length.ensures in
    host-exactly _ _ _ _ (plan-done _ _ _ _ _ _ refl _ c.in_ok-c.ensures _ _ _ refl (λ w. unformed _ _ w) p.gives
    (rw c.from.ensures))

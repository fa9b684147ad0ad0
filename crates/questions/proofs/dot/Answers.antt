use borrow.Author.Rules.{rules}
use Rattle.glass.specs.Answers.{dot_answer}
use Rattle.glass.proofs.Refusals.{dot-unformed}
use Rattle.questions.specs.Questions.{host_dot}
use Rattle.questions.proofs.Asked.{told}
use Rattle.questions.proofs.dot.Goals as goal

pub returns : goal.returns
unfolding host_dot
returns c =
    told _ _ (λ x. dot_answer x c.args.code c.args.k) (λ x value p. search rules) (λ w. dot-unformed _ w _ _) _ c.ask.ensures

use borrow.Author.Rules.{rules}
use Rattle.glass.specs.Answers.{view_answer}
use Rattle.glass.proofs.Refusals.{view-unformed}
use Rattle.questions.specs.Questions.{viewed, host_view}
use Rattle.questions.proofs.Asked.{told}
use Rattle.questions.proofs.view.Goals as goal

pub returns : goal.returns
unfolding host_view
returns c =
    told _ _ (λ x. viewed (view_answer x c.args.position)) (λ x value p. search rules) (λ w. view-unformed _ w _) _ c.ask.ensures

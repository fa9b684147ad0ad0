use borrow.Author.Rules.{rules}
use Rattle.glass.specs.Answers.{underline_answer}
use Rattle.glass.proofs.Refusals.{underline-unformed}
use Rattle.questions.specs.Questions.{host_underline}
use Rattle.questions.proofs.Asked.{told}
use Rattle.questions.proofs.underline.Goals as goal

pub returns : goal.returns
unfolding host_underline
returns c =
    told _ _ (λ x. underline_answer x c.args.code) (λ x value p. search rules) (λ w. underline-unformed _ w _) _ c.ask.ensures

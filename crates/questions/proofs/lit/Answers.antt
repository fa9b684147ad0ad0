use borrow.Author.Rules.{rules}
use Rattle.glass.specs.Answers.{lit_answer}
use Rattle.glass.proofs.Refusals.{lit-unformed}
use Rattle.questions.specs.Questions.{host_lit}
use Rattle.questions.proofs.Asked.{told}
use Rattle.questions.proofs.lit.Goals as goal

pub returns : goal.returns
unfolding host_lit
returns c =
    told _ _ (λ x. lit_answer x c.args.code) (λ x value p. search rules) (λ w. lit-unformed _ w _) _ c.ask.ensures

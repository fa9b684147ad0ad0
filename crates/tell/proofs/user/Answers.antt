use mathlib.Core.Path.{◌≡◌, ap, ◌∙◌}
use Rattle.glass.specs.Answers.{Answer}
use Rattle.lines.proofs.Laws.{both-adds}
use Rattle.tell.specs.Report.{user_line}
use Rattle.tell.proofs.Values.{value-or-0}
use Rattle.tell.proofs.user.Goals as goal

pub returns : goal.returns
unfolding user_line
returns c =
    let underline = c.unwrap_or-underline.ensures ∙ value-or-0 c.underline.result
    ∙ ap (λ (a : Answer). a.value) c.underline.ensures in
    let lit = c.unwrap_or-lit.ensures ∙ value-or-0 c.lit.result ∙ ap (λ (a : Answer). a.value) c.lit.ensures in
    both-adds c.hex.ensures
    (both-adds c.word.ensures
    (both-adds c.dots.ensures
    (both-adds (rw underline at c.number.ensures) (both-adds (rw lit at c.number-2.ensures) c.word-2.ensures))))

use mathlib.Core.Path.{◌≡◌, ap, ◌∙◌}
use Rattle.glass.specs.Answers.{Seen, view_answer}
use Rattle.lines.proofs.Laws.{both-adds}
use Rattle.tell.specs.Report.{cell_line}
use Rattle.tell.proofs.Values.{shown-or-blank}
use Rattle.tell.proofs.cell.Goals as goal

pub returns : goal.returns
unfolding cell_line
returns c =
    let seen = c.unwrap_or-seen.ensures ∙ shown-or-blank c.view.result ∙ ap (λ (s : Seen). s.shows) c.view.ensures in
    both-adds c.number.ensures (both-adds (rw seen at c.shows.ensures) c.word.ensures)

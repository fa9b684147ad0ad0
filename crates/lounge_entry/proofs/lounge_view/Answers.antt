use Rattle.laws.proofs.Tests.{by_cases}
use Rattle.lounge_entry.specs.Entry.{sizes_right, view_number, seen_in, seen_number}
use Rattle.lounge_entry.proofs.lounge_view.Goals as goal

pub returns : goal.returns
unfolding view_number seen_in seen_number
returns c =
    let a = c.args in
    rw (c.seen_number.ensures, c.view.ensures)
    (by_cases (sizes_right a.head.now a.codes.now a.marks.now a.users.now) (λ e. rw e) (λ e. rw e))

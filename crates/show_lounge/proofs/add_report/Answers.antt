use Rattle.lounge.proofs.Kept.{Sized, fit, few-users}
use native.Mathlib.Omega.{arith}
use Rattle.lines.proofs.Laws.{both-adds}
use Rattle.show_lounge.specs.Report.{user_lines, report_of}
use borrow.Author.Rules.{rules}
use Rattle.show_lounge.proofs.add_report.Goals as goal
use Rattle.show_lounge.proofs.add_report.Goals.{Start}

sized : (c : Start) → Sized c.args.c.now
sized c = record { codes-40 = search rules; marks-40 = search rules; users-48 = search rules; held-4 = search rules }

pub add_users-requires : goal.add_users-requires
add_users-requires c =
    let s = sized (goal.at.add_users-requires c).Start in
    omega (arith, s.users-48, few-users c.args.c.now (fit c.args.c.now s c.requires))

pub returns : goal.returns
unfolding report_of user_lines
returns c =
    both-adds c.cells.ensures (both-adds c.add_mark_lines.ensures (both-adds c.add_place.ensures c.add_users.ensures))

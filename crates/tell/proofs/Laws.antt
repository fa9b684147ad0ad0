-- How long a text may be.
use Prim.Native.Nat.{ℕ, ◌≤◌, ◌+◌, min}
use native.Mathlib.Omega.{arith}
use lib.ListN.{length, length-append}
use Rattle.condition.specs.declared.Condition.{Condition}
use Rattle.glass.specs.declared.Shows.{Shows}
use Rattle.glass.specs.declared.Shows.TheVariants.{Blank, User, Euro, BuiltIn}
use Rattle.glass.specs.Answers.{view_answer, dot_answer, underline_answer, lit_answer}
use Rattle.interpreter.specs.Run.{Ran}
use Rattle.lines.specs.Lines.{each}
use Rattle.lines.proofs.Laws.{each-length, decimal-length, print-length}
use Rattle.tell.specs.Report.{shows_text, cell_line, dot_text, user_line, user_at, report_of, told_of}

shows-length : (s : Shows) → length (shows_text s) ≤ 34
unfolding shows_text
shows-length Blank = omega arith
shows-length (User x) = omega arith
shows-length Euro = omega arith
shows-length (BuiltIn x f) = omega (arith, decimal-length f)

cell-length : (c : Condition) (p : ℕ) → length (cell_line c p) ≤ 60
unfolding cell_line
cell-length c p = simp length-append (omega (arith, decimal-length p, shows-length (view_answer c p).shows))

dots-length : (c : Condition) (code : ℕ) → length (each (dot_text c code) 35) ≤ 700
unfolding dot_text
dots-length c code = each-length (dot_text c code) 20 35 (λ i. decimal-length (dot_answer c code (i + 1)).value)

user-length : (c : Condition) (code : ℕ) → length (user_line c code) ≤ 765
unfolding user_line
user-length c code =
    let underline = decimal-length (underline_answer c code).value in
    let lit = decimal-length (lit_answer c code).value in
    simp length-append (omega (arith, dots-length c code))

pub told-length : (r : Ran) → length (told_of r) ≤ 16384
unfolding report_of user_at
told-length r =
    let c = r.condition in
    let cells = each-length (cell_line c) 60 40 (cell-length c) in
    let users = each-length (user_at c) 765 (min c.users.count 16) (λ i. user-length c _) in
    omega (arith, print-length (report_of c) r, length-append (each (cell_line c) 40) (each (user_at c) (min c.users.count 16)))

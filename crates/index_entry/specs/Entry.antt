-- What the tests' entry answers: the refusal of each call that takes a condition, for one whose index is given.
use Rattle.std.specs.Prelude.{ℕ, cond, List, [], length, get_or, replicate, eqb}
use Rattle.condition.specs.declared.Condition.{Condition}
use Rattle.condition.specs.Set.{with_index}
use Rattle.interpreter.specs.Run.{zero_tally, run_answer}
use Rattle.planner.specs.Answer.{plan_refusal, fonts_refusal}
use Rattle.reel.specs.Reel.{stop_of}
use Rattle.recovery.specs.Recovery.{recover_refusal}
use Rattle.block.specs.Writing.{write_refusal}
use Rattle.glass.specs.Answers.{view_answer, dot_answer, underline_answer, lit_answer}
use Rattle.layout.specs.Layout.{unpacked_of}

abbrev pub run_number : Condition → ℕ
run_number c = (run_answer c zero_tally []).refusal

abbrev pub plan_number : Condition → ℕ
plan_number c = plan_refusal c (replicate 40 0x20) 0 44

abbrev pub fonts_number : Condition → ℕ
fonts_number c = fonts_refusal c (replicate 40 0x20) (replicate 40 0) 0 104

abbrev pub reel_number : Condition → ℕ
reel_number c = (stop_of c [] [] 1).refusal

abbrev pub recover_number : Condition → ℕ
recover_number c = recover_refusal c 8

abbrev pub write_number : Condition → ℕ
write_number c = write_refusal c (replicate 512 0)

abbrev pub view_number : Condition → ℕ
view_number c = (view_answer c 0).refusal

abbrev pub dot_number : Condition → ℕ → ℕ
dot_number c code = (dot_answer c code 1).refusal

abbrev pub underline_number : Condition → ℕ → ℕ
underline_number c code = (underline_answer c code).refusal

abbrev pub lit_number : Condition → ℕ → ℕ
lit_number c code = (lit_answer c code).refusal

-- the calls by number; the last three ask about the code in the oldest place
unfoldable pub call_refusal : ℕ → Condition → ℕ
call_refusal call c =
    cond (eqb call 0) (run_number c)
    (cond (eqb call 1) (plan_number c)
    (cond (eqb call 2) (fonts_number c)
    (cond (eqb call 3) (reel_number c)
    (cond (eqb call 4) (recover_number c)
    (cond (eqb call 5) (write_number c)
    (cond (eqb call 6) (view_number c)
    (cond (eqb call 7) (dot_number c (get_or c.users.bytes 0 0))
    (cond (eqb call 8) (underline_number c (get_or c.users.bytes 0 0))
    (lit_number c (get_or c.users.bytes 0 0))))))))))

-- 1 for entries that are not 256
unfoldable pub index_refusal : ℕ → List ℕ → List ℕ → ℕ
index_refusal call s x = cond (eqb (length x) 256) (call_refusal call (with_index (unpacked_of s) x)) 1

-- The bench sheet holds: computed from the definitions, all fifteen cases under one statement.
use mathlib.Core.Path.{◌≡◌, refl, sym, ap, subst, ◌∙◌}
use mathlib.Core.List.{List}
use Prim.Native.Nat.{ℕ}
use lib.ListN.{length}
use borrow.Author.Tests.{eq-eqb, le-leb}
use Rattle.row.specs.Row.{line_start, scrolled, shifted}
use Rattle.users.specs.Users.{room_of, limit_of, found_in, is_user, character_at, put_of, removed, without, with_youngest}
use Rattle.users.specs.Users.{define_of}
use Rattle.dots.specs.Dots.{dot_of, lit_up_to, lit_of}
use Rattle.row.specs.Row.{all_up_to, same_bytes}
use Rattle.users.specs.Users.{absent, places_formed, held_formed}
use Rattle.index.specs.Index.{entries_from, index_of, index_agrees}
use Rattle.condition.specs.Condition.{numbers_good, scroll_good, escape_good, well_formed}
use Rattle.condition.specs.Condition.{power_up}
use Rattle.condition.specs.Bytes.{scroll_of, left_of, right_of, down_of, return_of, clear_of, push_of, write_of, is_char}
use Rattle.condition.specs.Bytes.{control_of}
use Rattle.condition.specs.Bytes.{escape_of, position_of, data_of, step_at, run_of}
use Rattle.condition.specs.Busy.{right_scrolls, down_scrolls, line_shifts, write_busy, control_busy, escape_busy, quick_at}
use Rattle.condition.specs.Busy.{total_of}
use Rattle.interpreter.specs.Run.{within_limit, tallied, run_refusal, run_answer}
use Rattle.glass.specs.Shows.{shows_code, shows_of}
use Rattle.glass.specs.Answers.{lookup_of, dot_answer, lit_answer}
use Rattle.condition.specs.Steps.{wrong}
use Rattle.moves.specs.Moves.{left, next, down, move, near1, near2, dist, fewest_of, Ruled}
use Rattle.moves.specs.Ways.{leaves, first_byte, path_of, path}
use Rattle.planner.specs.Plan.{flagged, plan_of, plan}
use Rattle.planner.specs.Fonts.{wrong_for, switch, fonts_plan_of, fonts_plan}
use Rattle.planner.specs.Clear.{clear_wins, either_by}
use Rattle.planner.specs.Answer.{on_move, on_switch, lacks, some_lacks, refusal_by, plan_refusal, fonts_refusal}
use Rattle.bench_sheet.specs.Sheet.{AllHold, dots_up_to, sheet}
use Rattle.bench_sheet.specs.FontsSheet.{fonts_sheet}
use Rattle.bench_sheet.specs.ClearSheet.{clear_sheet}
use Rattle.bench_sheet.specs.TallySheet.{AllCount, tally_sheet}
use Rattle.reel.specs.Reel.{pictures_of, plans_of, first_refused, whole_refusal, stop_of}
use Rattle.bench_sheet.specs.ReelSheet.{reel_sheet}
use Rattle.recovery.specs.Recovery.{get_back, lost, recover_refusal}
use Rattle.bench_sheet.specs.RecoverySheet.{recovery_sheet}
use Rattle.bench_sheet.specs.IndexSheet.{index_sheet}
use Rattle.bench_sheet.specs.MoveSheet.{table, number_in, Tabled}
use Rattle.moves.proofs.Grid.{listed, grid, grid-is}
use Rattle.moves.proofs.Rule.{ruled}

pub bench : AllHold sheet
unfolding power_up run_of step_at is_char is_user found_in limit_of room_of write_of push_of right_of scroll_of scrolled shifted
    line_start control_of left_of down_of return_of clear_of escape_of position_of data_of define_of removed without with_youngest
    put_of total_of quick_at write_busy control_busy escape_busy right_scrolls down_scrolls line_shifts shows_of shows_code
    dots_up_to dot_answer lit_answer lookup_of well_formed numbers_good scroll_good all_up_to places_formed absent held_formed
    escape_good index_agrees same_bytes index_of entries_from character_at dot_of lit_of lit_up_to wrong left next down move near1
    near2 dist leaves first_byte path_of path flagged plan_of plan clear_wins either_by on_move lacks some_lacks refusal_by
    plan_refusal
bench = (
  (refl, refl),
  (
    (refl, refl, refl),
    (
      (refl, refl, refl),
      (
        (refl, refl, refl, refl),
        (
          (refl, refl, refl, refl),
          (
            (refl, refl),
            (
              (refl, refl, refl),
              (
                refl,
                (
                  (refl, refl),
                  (
                    (refl, refl, λ wanted asked room l q. rw (eq-eqb (length wanted) 40 l, le-leb asked 39 q)),
                    ((refl, refl), ((refl, refl), (((refl, refl), refl), ((refl, refl), ((refl, refl, refl, refl, refl), tt))))),
                  ),
                ),
              ),
            ),
          ),
        ),
      ),
    ),
  ),
)

-- and the cases for two fonts
pub fonts-bench : AllHold fonts_sheet
unfolding power_up run_of step_at is_char is_user found_in limit_of room_of control_of escape_of position_of well_formed
    numbers_good scroll_good all_up_to places_formed absent held_formed escape_good index_agrees same_bytes index_of entries_from
    left next down move near1 near2 dist line_start leaves first_byte path_of path flagged wrong_for switch fonts_plan_of
    fonts_plan clear_wins either_by clear_of on_move on_switch lacks some_lacks refusal_by fonts_refusal
fonts-bench = ((refl, refl), ((refl, refl), ((refl, refl), tt)))

-- and the cases that may start from a clear
pub clear-bench : AllHold clear_sheet
unfolding power_up run_of step_at is_char is_user found_in limit_of room_of write_of right_of control_of escape_of data_of
    define_of removed without with_youngest put_of clear_of well_formed numbers_good scroll_good all_up_to places_formed absent
    held_formed escape_good index_agrees same_bytes index_of entries_from wrong left next down move near1 near2 dist line_start
    leaves first_byte path_of path flagged plan_of plan wrong_for switch fonts_plan_of fonts_plan clear_wins either_by on_move
    on_switch lacks some_lacks refusal_by plan_refusal fonts_refusal
clear-bench = ((refl, refl), ((refl, refl), ((refl, refl), ((refl, refl), ((refl, refl), ((refl, refl), tt))))))

-- and the cases for the tally
pub tally-bench : AllCount tally_sheet
unfolding power_up step_at is_char is_user found_in limit_of room_of write_of right_of control_of down_of escape_of total_of
    quick_at write_busy control_busy escape_busy right_scrolls down_scrolls line_shifts well_formed numbers_good scroll_good
    all_up_to places_formed held_formed escape_good index_agrees same_bytes index_of entries_from absent within_limit tallied
    run_refusal run_answer
tally-bench = ((refl, refl), ((refl, refl), ((refl, refl), tt)))

-- and the cases for reels
pub reel-bench : AllHold reel_sheet
unfolding power_up run_of step_at is_char is_user found_in limit_of room_of write_of right_of control_of left_of down_of return_of
    clear_of well_formed numbers_good scroll_good all_up_to places_formed absent held_formed escape_good index_agrees same_bytes
    index_of entries_from wrong left next down move near1 near2 dist line_start leaves first_byte path_of path flagged plan_of
    plan clear_wins either_by on_move lacks some_lacks refusal_by plan_refusal pictures_of plans_of first_refused whole_refusal
    stop_of
reel-bench = ((refl, refl), (refl, (refl, (refl, ((refl, refl), tt)))))

-- and the cases for getting a lost module back
pub recovery-bench : AllHold recovery_sheet
unfolding power_up run_of step_at is_char is_user found_in limit_of room_of write_of right_of control_of escape_of data_of
    define_of removed without with_youngest put_of well_formed numbers_good scroll_good all_up_to places_formed absent held_formed
    escape_good index_agrees same_bytes index_of entries_from get_back lost recover_refusal
recovery-bench =
    ((refl, refl, refl), ((refl, refl, refl), ((refl, refl, refl), ((refl, refl), ((refl, refl), (((refl, refl), refl), tt))))))

-- and the cases for the index of user codes
pub index-bench : AllHold index_sheet
unfolding power_up run_of step_at is_char is_user found_in limit_of room_of control_of escape_of data_of define_of removed without
    with_youngest put_of index_of entries_from
index-bench = (refl, (refl, ((refl, refl), ((refl, refl, refl), (refl, (refl, tt))))))

-- and the table of the move bytes, computed whole
all-numbers : table ≡ grid dist
unfolding listed grid left next down line_start move near1 near2 dist
all-numbers = refl

-- it answers for any two numbers
number_is : (a b : ℕ) → number_in table a b ≡ fewest_of a b
unfolding fewest_of
number_is a b = ap (λ (rows : List (List ℕ)). number_in rows a b) all-numbers ∙ grid-is dist 0 a b

pub move-bench : Tabled table
move-bench =
    record {
      size = refl;
      same = λ a b r f. f.answer ∙ sym (number_is a b);
      rule = λ a b ha hb. subst (λ (f : ℕ → ℕ → ℕ). Ruled f a b) (λ i x y. sym (number_is x y) i) (ruled a b ha hb);
    }

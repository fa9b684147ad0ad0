-- The cases for the lounge module hold, computed from its definitions; and what marks are.
use mathlib.Core.Path.{refl}
use Rattle.row.specs.Row.{line_start, scrolled, shifted, cleared_line, all_up_to}
use Rattle.users.specs.Users.{room_of, limit_of, found_in, is_user, put_of, removed, without, with_youngest, define_of}
use Rattle.users.specs.Users.{absent, places_formed, users_formed, held_formed}
use Rattle.lounge.specs.Condition.{is_area, numbers_formed, scroll_formed, well_formed, reset_of}
use Rattle.lounge.specs.Marks.{mark_of, has_mark, is_pair, marked_area, cancelled}
use Rattle.lounge.specs.Pairs.{scroll_of, tab_of, return_of, push_of, after_write, write_of, is_char, marking_of, control_of}
use Rattle.lounge.specs.Pairs.{dimmed_by}
use Rattle.lounge.specs.Pairs.{area_of}
use Rattle.lounge.specs.Pairs.{data_of, written_at, home_in, line_reset_of, command_of, step_of, run_of}
use Rattle.lounge.specs.Shows.{shows_of, level_of, seen_of, view_answer}
use Rattle.bench_sheet.specs.LoungeSheet.{AllHoldOf, lounge_sheet}

pub lounge-bench : AllHoldOf lounge_sheet
unfolding reset_of run_of step_of command_of line_reset_of home_in written_at data_of area_of dimmed_by control_of marking_of
    is_char write_of after_write push_of return_of tab_of scroll_of cancelled marked_area is_pair has_mark mark_of well_formed
    scroll_formed numbers_formed is_area view_answer seen_of level_of shows_of line_start scrolled shifted cleared_line all_up_to
    is_user found_in limit_of room_of put_of removed without with_youngest define_of absent places_formed users_formed held_formed
lounge-bench = (
  (refl, refl, refl, refl, refl),
  (
    (refl, refl),
    (
      (refl, refl),
      (
        (refl, refl),
        (
          refl,
          (
            refl,
            (
              (refl, refl, refl, refl, refl, refl),
              (
                (refl, refl, refl),
                (
                  (refl, refl),
                  (
                    (refl, refl),
                    (
                      (refl, refl),
                      (
                        (refl, refl),
                        (
                          (refl, refl, refl),
                          (
                            ((refl, refl), refl, refl, refl),
                            (
                              (refl, refl, refl),
                              (
                                (refl, refl, refl),
                                (
                                  (refl, refl, refl),
                                  ((refl, refl, refl), ((refl, refl), ((refl, refl, refl, refl), tt))),
                                ),
                              ),
                            ),
                          ),
                        ),
                      ),
                    ),
                  ),
                ),
              ),
            ),
          ),
        ),
      ),
    ),
  ),
)

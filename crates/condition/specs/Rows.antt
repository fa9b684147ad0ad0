-- Well-formedness of a condition's rows alone, for rows that stand in a condition or in bytes; proofs/Rows.antt has that with the
-- numbers (Condition.antt: numbers_good, scroll_good) it is well-formedness.
use Rattle.std.specs.Prelude.{ℕ, List, Bool, ◌&&◌, ◌||◌, length, eqb, leb}
use Rattle.condition.specs.declared.Pending.{Pending}
use Rattle.row.specs.Row.{all_up_to}
use Rattle.users.specs.Users.{absent, places_formed, held_formed}
use Rattle.condition.specs.Condition.{idle, held_of}

-- fonts, a count and the bytes of user characters, what is half received and the bytes held: rows of other lengths, and a count
-- above 16, never are well formed
unfoldable pub rows_good : List ℕ → ℕ → List ℕ → Pending → List ℕ → Bool
rows_good fonts n us p h =
    eqb (length fonts) 40 && eqb (length us) 96 && eqb (length h) 4 && leb n 16
    && (all_up_to 1 fonts && places_formed 16 n us && held_formed (held_of p) h && (idle p || absent 0x1b n us))

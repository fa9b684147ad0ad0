-- The tests of the rows: with the numbers and the index they are the whole.
use mathlib.Core.Path.{◌≡◌, refl, sym, ap}
use mathlib.Core.Bool.{Bool, true, false, ◌&&◌, ◌||◌, and-true}
use lib.Dec.{ltb, leb}
use lib.ListN.{length}
use borrow.Author.Tests.{eq-eqb}
use Rattle.row.specs.Row.{all_up_to}
use Rattle.users.specs.Users.{absent, places_formed, held_formed}
use Rattle.index.proofs.Entries.{index-agrees}
use Rattle.condition.specs.declared.Condition.{Condition}
use Rattle.condition.specs.Condition.{idle, held_of, numbers_good, scroll_good, escape_good}
use Rattle.condition.specs.Condition.{formed_but_index, index_good, well_formed}
use Rattle.condition.specs.Set.{reindexed}
use Rattle.condition.specs.Rows.{rows_good}
use Rattle.condition.proofs.Good.{Indexed}

-- the count (k) is looked at with the numbers (m) and with the rows
grouped : (m k s f u p e : Bool) → (m && k && s && (k && (f && u && p && e))) ≡ (m && k && s && f && u && p && e)
grouped false k s f u p e = refl
grouped true false s f u p e = refl
grouped true true false f u p e = refl
grouped true true true false u p e = refl
grouped true true true true false p e = refl
grouped true true true true true false e = refl
grouped true true true true true true e = refl

pub rows-law : (c : Condition) → length c.fonts ≡ 40 → length c.users.bytes ≡ 96 → length c.held ≡ 4
    → (numbers_good c && scroll_good c && rows_good c.fonts c.users.count c.users.bytes c.pending c.held)
    ≡ formed_but_index c
unfolding numbers_good escape_good rows_good
rows-law c f u h =
    let m =
    ltb c.cursor 40 && leb 1 c.mode && leb c.mode 3 && leb c.font 1 && leb c.link 1 && leb c.luminance 3 in
    rw (eq-eqb _ _ f, eq-eqb _ _ u, eq-eqb _ _ h)
    (grouped m (leb c.users.count 16) (scroll_good c) (all_up_to 1 c.fonts) (places_formed 16 c.users.count
    c.users.bytes)
    (held_formed (held_of c.pending) c.held) (idle c.pending || absent 0x1b c.users.count c.users.bytes))

-- of an index that is the list's nothing is to be asked
pub indexed-formed : (c : Condition) → Indexed c → formed_but_index c ≡ well_formed c
unfolding well_formed
indexed-formed c x = sym (rw (index-agrees c.index c.users.bytes c.users.count x) (and-true (formed_but_index c)))

-- the index may be asked beside a condition that has the list's
pub formed-by-list : (c : Condition) → (well_formed (reindexed c) && index_good c) ≡ well_formed c
unfolding well_formed numbers_good scroll_good escape_good
formed-by-list c = ap (λ (t : Bool). t && index_good c) (sym (indexed-formed (reindexed c) refl))

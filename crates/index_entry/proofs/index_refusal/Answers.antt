use Rattle.index_entry.specs.Entry.{index_refusal}
use borrow.Author.Tests.{eq-eqb, ne_eqb}
use Rattle.index_entry.proofs.index_refusal.Goals as goal

pub returns-then-entries-ne-ENTRIES : goal.returns-then-entries-ne-ENTRIES
unfolding index_refusal
returns-then-entries-ne-ENTRIES c = rw (ne_eqb _ _ c.if-entries-ne-ENTRIES.true)

pub returns : goal.returns
unfolding index_refusal
returns c = rw (c.of_call.ensures, c.condition_in.ensures, eq-eqb _ _ c.if-entries-ne-ENTRIES.false)

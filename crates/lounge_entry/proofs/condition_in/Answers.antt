use mathlib.Core.Path.{sym, ◌∙◌}
use Rattle.lounge_entry.specs.Entry.{condition_in}
use Rattle.lounge_entry.proofs.Answers.{sizes}
use Rattle.lounge_entry.proofs.condition_in.Goals as goal

pub returns-then-not-sizes_right : goal.returns-then-not-sizes_right
unfolding condition_in
returns-then-not-sizes_right c = rw (sym c.sizes_right.ensures ∙ c.if-not-sizes_right.true)

pub copy_from_slice-requires : goal.copy_from_slice-requires
copy_from_slice-requires c = sym (sizes _ _ _ _ (sym c.sizes_right.ensures ∙ c.if-not-sizes_right.false)).0

pub copy_from_slice-requires-2 : goal.copy_from_slice-requires-2
copy_from_slice-requires-2 c = sym (sizes _ _ _ _ (sym c.sizes_right.ensures ∙ c.if-not-sizes_right.false)).1

pub copy_from_slice-requires-3 : goal.copy_from_slice-requires-3
copy_from_slice-requires-3 c = sym (sizes _ _ _ _ (sym c.sizes_right.ensures ∙ c.if-not-sizes_right.false)).2

pub copy_from_slice-requires-4 : goal.copy_from_slice-requires-4
copy_from_slice-requires-4 c = sym (sizes _ _ _ _ (sym c.sizes_right.ensures ∙ c.if-not-sizes_right.false)).3

pub returns : goal.returns
unfolding condition_in
returns c =
    rw (
      c.whole.ensures,
      c.copy_from_slice.ensures.after,
      c.copy_from_slice-2.ensures.after,
      c.copy_from_slice-3.ensures.after,
      c.copy_from_slice-4.ensures.after,
      sym c.sizes_right.ensures ∙ c.if-not-sizes_right.false,
    )

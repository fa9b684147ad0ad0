use mathlib.Core.Path.{◌≡◌, refl, sym, ◌∙◌}
use mathlib.Core.Bool.{true, ◌&&◌}
use Rattle.row.specs.Row.{same_bytes}
use Rattle.condition.specs.Condition.{well_formed}
use Rattle.condition.proofs.Good.{Sized}
use Rattle.layout.proofs.PackedBack.{enough}
use Rattle.inplace.proofs.Carrying.{told, starts, carries, not-formed, too_long, carried}
use borrow.Author.Rules.{rules}
use Rattle.inplace.proofs.carry.Goals as goal
use Rattle.inplace.proofs.carry.Goals.{After-is_formed}
use Rattle.inplace.proofs.carry.Goals.{then-not-is_formed-via-then-not-is_formed}
use Rattle.inplace.proofs.carry.Goals.{then-not-is_formed-via-else-not-is_formed+then-not-same}

sized : (c : After-is_formed) → Sized c.args.c
sized c = record { codes-40 = search rules; fonts-40 = search rules; users-96 = search rules; held-4 = search rules }

-- what the tests tell
formed : (c : After-is_formed) → (c.is_formed.result && same_bytes c.args.c.index c.reindex.new.index) ≡ well_formed c.args.c
formed c = told _ _ _ (sized c) c.packed-s.ensures (search rules) c.reindex.ensures _ _ c.is_formed.ensures refl

well : (c : After-is_formed) → c.is_formed.result ≡ true → same_bytes c.args.c.index c.reindex.new.index ≡ true
    → well_formed c.args.c ≡ true
well c e h = sym (formed c) ∙ rw (e, h)

pub returns-then-not-is_formed : goal.returns-then-not-is_formed
returns-then-not-is_formed c =
    let f = formed (goal.at.returns-then-not-is_formed c).After-is_formed in
    not-formed _ _ _
    (sym f ∙ elim c.then-not-is_formed.branch [
      | then-not-is_formed-via-then-not-is_formed w ↦ rw w.if-not-is_formed.true
      | then-not-is_formed-via-else-not-is_formed+then-not-same w ↦
          rw (w.if-not-is_formed.false, ← w.same.ensures, w.if-not-same.true)
    ])
    refl

pub returns-then-bytes-gt-MOST_BYTES : goal.returns-then-bytes-gt-MOST_BYTES
returns-then-bytes-gt-MOST_BYTES c =
    let f = (goal.at.returns-then-bytes-gt-MOST_BYTES c).After-is_formed in
    too_long _ _ _ (well f c.if-not-is_formed.false (sym c.same.ensures ∙ c.if-not-same.false)) c.if-bytes-gt-MOST_BYTES.true refl

pub run_in-spent-requires : goal.run_in-spent-requires
run_in-spent-requires c =
    let f = (goal.at.run_in-spent-requires c).After-is_formed in
    let w = well f c.if-not-is_formed.false (sym c.same.ensures ∙ c.if-not-same.false) in
    let e = starts _ _ _ (sized f) c.packed-s.ensures (search rules) c.reindex.ensures w in
    (e, search rules, c.reindex.ensures)

pub returns : goal.returns
returns c =
    let f = (goal.at.returns c).After-is_formed in
    let w = well f c.if-not-is_formed.false (sym c.same.ensures ∙ c.if-not-same.false) in
    carried _ _ _ w c.if-bytes-gt-MOST_BYTES.false refl
    (carries _ _ _ (sized f) c.packed-s.ensures (search rules) c.reindex.ensures w _ _ _ _
    (c.unpacked.ensures ∙ enough _ (search rules)) c.run_in-spent.ensures.0)

use Prim.Native.Nat.{ℕ}
use mathlib.Core.Path.{◌≡◌, sym, ◌∙◌}
use mathlib.Core.Bool.{Bool, cond}
use Rattle.lounge.specs.declared.Lounge.{Lounge}
use Rattle.lounge.specs.declared.Pending.{Pending}
use Rattle.lounge.specs.declared.Pending.TheVariants.{Nothing}
use Rattle.lounge.specs.Pairs.{is_char, write_of, control_of, written_at}
use Rattle.lounge.proofs.Lounge.data.Goals as goal

-- with nothing half received
nothing : (p : Pending) (c : Lounge) (b : ℕ) {t : Bool} → p ≡ Nothing → is_char c b ≡ t
    → cond t (write_of c b) (control_of c b) ≡ written_at p c b
unfolding written_at
nothing p c b e f = rw (e, f)

pub returns-then-is_char : goal.returns-then-is_char
returns-then-is_char c = c.write.ensures ∙ nothing _ _ _ c.in-Nothing.is (sym c.is_char.ensures ∙ c.if-is_char.true)

pub returns-else-is_char : goal.returns-else-is_char
returns-else-is_char c = c.control.ensures ∙ nothing _ _ _ c.in-Nothing.is (sym c.is_char.ensures ∙ c.if-is_char.false)

pub returns-in-Escape : goal.returns-in-Escape
unfolding written_at
returns-in-Escape c = rw c.in-Escape.is

pub returns-in-UserData : goal.returns-in-UserData
unfolding written_at
returns-in-UserData c = rw (c.user_data.ensures, c.in-UserData.is)

pub returns-in-First : goal.returns-in-First
unfolding written_at
returns-in-First c = rw c.in-First.is

pub returns-in-Second : goal.returns-in-Second
unfolding written_at
returns-in-Second c = rw (c.area.ensures, c.in-Second.is)

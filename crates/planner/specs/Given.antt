-- What the functions that count and put a plan are given: 40 codes and 40 fonts, and places that are there.
use Rattle.std.specs.Prelude.{ℕ, ◌<◌, ◌≡◌, List, length}
use Rattle.condition.specs.declared.Condition.{Condition}

pub record Given (c : Condition) (wanted fonts : List ℕ) (asked : ℕ) : Type 0 where
  pub wanted-40 : length wanted ≡ 40
  pub fonts-40 : length fonts ≡ 40
  pub cursor-40 : c.cursor < 40
  pub asked-40 : asked < 40

-- What a refused query is told as: a blank, or the value 0.
use Prim.Native.Nat.{ℕ}
use mathlib.Core.Path.{◌≡◌, refl}
use Rattle.std.specs.Prelude.{Result, Ok, Err}
use Rattle.std.specs.Result.{result_unwrap_or}
use Rattle.refusals.specs.declared.Refusal.{Refusal}
use Rattle.glass.specs.declared.Shows.{Shows}
use Rattle.glass.specs.declared.Shows.TheVariants.{Blank}
use Rattle.glass.specs.Answers.{seen, answer}

pub shown-or-blank : (r : Result Shows Refusal) → result_unwrap_or r Blank ≡ (seen r).shows
shown-or-blank (Ok s) = refl
shown-or-blank (Err e) = refl

pub value-or-0 : (r : Result ℕ Refusal) → result_unwrap_or r 0 ≡ (answer r).value
value-or-0 (Ok n) = refl
value-or-0 (Err e) = refl

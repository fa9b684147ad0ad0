-- Lines of text in a lent buffer: words, numbers, hex, codes by line, and what ends a program's print of a run.
use Rattle.std.specs.Prelude.{ℕ, zero, suc, ◌+◌, ◌-◌, ◌/◌, ◌%◌, min, ◌≡◌, cond, List, [], ◌∷◌, ◌++◌, length, get_or, take, drop}
use Rattle.std.specs.Prelude.{eqb, ltb}
use Prim.Native.Char.{code}
use Prim.Native.String.{String, [] as []ˢ, ◌∷◌ as ◌∷ˢ◌}
use Rattle.row.specs.Row.{laid}
use Rattle.condition.specs.Condition.{power_up}
use Rattle.interpreter.specs.declared.Tally.{Tally}
use Rattle.interpreter.specs.Run.{Ran, zero_tally, run_answer}
use Rattle.lines.specs.declared.Text.{Text}

-- a text as bytes, one for each character (the texts here are ASCII)
abbrev pub text : String → List ℕ
text []ˢ = []
text (c ∷ˢ s) = code c ∷ text s

-- the text x was added at k, as far as there is room, and r is the place after it
pub record Added (before : List ℕ) (k : ℕ) (x : List ℕ) (after : List ℕ) (r : ℕ) : Type 0 where
  pub next : r ≡ k + min (length x) (length before - k)
  pub buffer : after ≡ take k before ++ laid x (drop k before)

-- the text x was added to what stood there, in the same buffer
pub record Adds (before : Text) (x : List ℕ) (after : Text) : Type 0 where
  pub same : after.out.ghost_name ≡ before.out.ghost_name
  pub added : Added before.out.now before.size x after.out.now after.size

-- the texts f 0 to f (n - 1), one after the other
unfoldable pub each : (ℕ → List ℕ) → ℕ → List ℕ
each f zero = []
each f (suc n) = each f n ++ f n

-- a digit below ten
abbrev pub digit : ℕ → ℕ
digit n = code "0" + n

-- upper-case hex: 0 to 9, A to F
unfoldable pub hex_digit : ℕ → ℕ
hex_digit n = cond (ltb n 10) (digit n) (code "A" + (n - 10))

-- a byte in two digits
abbrev pub hex_of : ℕ → List ℕ
hex_of b = hex_digit (b / 16) ∷ hex_digit (b % 16) ∷ []

-- the last digit of a byte
abbrev pub last_digit : ℕ → List ℕ
last_digit b = hex_digit (b % 16) ∷ []

-- a number in decimal, of at most f digits
unfoldable pub decimal_in : ℕ → ℕ → List ℕ
decimal_in zero n = []
decimal_in (suc f) n = cond (ltb n 10) (digit n ∷ []) (decimal_in f (n / 10) ++ digit (n % 10) ∷ [])

unfoldable pub decimal_of : ℕ → List ℕ
decimal_of n = decimal_in 20 n

-- a word, and a number in decimal
abbrev pub numbered : List ℕ → ℕ → List ℕ
numbered word n = word ++ decimal_of n

abbrev pub new_line : List ℕ
new_line = text "\n"

-- what follows the code at i of n codes: one space between, a new line at the end
unfoldable pub separator_of : ℕ → ℕ → ℕ
separator_of i n = cond (eqb (n - i) 1) (code "\n") (code " ")

-- the code at i in two-digit hex, and what follows it
unfoldable pub code_text : List ℕ → ℕ → List ℕ
code_text codes i = hex_of (get_or codes i 0) ++ separator_of i (length codes) ∷ []

-- codes in two-digit hex with one space between, then a new line
unfoldable pub hex_line : List ℕ → List ℕ
hex_line codes = each (code_text codes) (length codes)

-- codes by line
unfoldable pub cell_lines : List ℕ → List ℕ
cell_lines codes = hex_line (take 20 codes) ++ hex_line (drop 20 codes)

-- the tally: `bytes B busy T flickerless F worst N`
unfoldable pub tally_line : Tally → List ℕ
tally_line t =
    numbered (text "bytes ") t.bytes
    ++ (numbered (text " busy ") t.busy
    ++ (numbered (text " flickerless ") t.flickerless ++ (numbered (text " worst ") t.worst ++ new_line)))

-- `refused N`
unfoldable pub refused_line : ℕ → List ℕ
refused_line n = numbered (text "refused ") n ++ new_line

-- a program's print of a run ends with the tally, after what stands up to k; a refused run prints its refusal alone
unfoldable pub end_start : Ran → ℕ → ℕ
end_start r k = cond (eqb r.refusal 0) k 0

unfoldable pub end_of : Ran → List ℕ
end_of r = cond (eqb r.refusal 0) (tally_line r.tally) (refused_line r.refusal)

-- what ends a print was added to what stood there, in the same buffer
pub record Ends (before : Text) (r : Ran) (after : Text) : Type 0 where
  pub same : after.out.ghost_name ≡ before.out.ghost_name
  pub added : Added before.out.now (end_start r before.size) (end_of r) after.out.now after.size

-- what is printed of a run: a body and the tally, or `refused N` alone
unfoldable pub print_of : List ℕ → Ran → List ℕ
print_of body r = cond (eqb r.refusal 0) (body ++ tally_line r.tally) (refused_line r.refusal)

-- The run that both programs print: of their input, from power-up font 0 with a zero tally

abbrev pub run_from_start : List ℕ → Ran
run_from_start input = run_answer (power_up 0) zero_tally input

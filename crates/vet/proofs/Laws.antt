-- How long a line is, and that so much of the files as is read decides it.
use Prim.Native.Nat.{ℕ, suc, ◌≤◌, ◌<◌}
use mathlib.Core.Path.{◌≡◌, sym, ap, ◌∙◌}
use mathlib.Core.List.{List}
use native.Mathlib.Omega.{arith}
use lib.Dec.{leb}
use lib.ListN.{length, take, length-append, length-take}
use lib.Seq.{take_all}
use borrow.Author.Tests.{eq-eqb, ne_eqb, leb-true, leb-false}
use Rattle.laws.proofs.Tests.{by_cases, by_equal}
use Rattle.lines.proofs.Laws.{decimal-length, refused-length}
use Rattle.vetting.specs.Verdicts.{Verdict, Refused, Byte, Cell, Cursor, Yes}
use Rattle.vetting.specs.Vetting.{block_verdict}
use Rattle.vetting.proofs.Answers.{no_block, too_long}
use Rattle.vet.specs.Line.{files_verdict, verdict_line, vet_line}

pub line-length : (v : Verdict) → length (verdict_line v) ≤ 40
unfolding verdict_line
line-length (Refused n) = omega (arith, refused-length n)
line-length (Byte at) = simp length-append (omega (arith, decimal-length at))
line-length (Cell place) = simp length-append (omega (arith, decimal-length place))
line-length Cursor = omega arith
line-length (Yes excess) = simp length-append (omega (arith, decimal-length excess))

-- Of BLOCK 513 bytes decide, of PICTURE 42 and of STRING 32,769: so many are read, and the line is that of the whole files --------

module _ (m : ℕ) where
  -- a file of another length than m is cut to one of another length, and one of that length is not cut
  cut-other : (l : List ℕ) → (length l ≡ m → ⊥) → length (take (suc m) l) ≡ m → ⊥
  cut-other l h e = h (omega (arith, length-take (suc m) l))

  cut-same : (l : List ℕ) → length l ≤ suc m → take (suc m) l ≡ l
  cut-same l h = take_all (suc m) l h

block-cut : (block wanted : List ℕ) (asked : ℕ) (string : List ℕ)
    → block_verdict (take 513 block) wanted asked string ≡ block_verdict block wanted asked string
block-cut block wanted asked string =
    by_equal (length block) 512 (λ e. ap (λ (b : List ℕ). block_verdict b wanted asked string) (cut-same 512 block (omega arith)))
    (λ h. no_block (take 513 block) wanted asked string (cut-other 512 block h) ∙ sym (no_block block wanted asked string h))

string-cut : (block wanted : List ℕ) (asked : ℕ) (string : List ℕ)
    → block_verdict block wanted asked (take 32769 string) ≡ block_verdict block wanted asked string
string-cut block wanted asked string =
    by_cases (leb (length string) 32769)
    (λ e. ap (block_verdict block wanted asked) (cut-same 32768 string (leb-true _ _ e)))
    (λ e. let l : 32769 < length string = omega (arith, leb-false (length string) 32769 e) in
    too_long block wanted asked (take 32769 string) string (omega (arith, length-take 32769 string)) (omega arith))

pub files-cut : (block picture string : List ℕ)
    → vet_line (take 513 block) (take 42 picture) (take 32769 string) ≡ vet_line block picture string
unfolding files_verdict
files-cut block picture string =
    by_equal (length picture) 41
    (λ e. rw (cut-same 41 picture (omega arith), eq-eqb (length picture) 41 e)
    (ap verdict_line (block-cut block _ _ (take 32769 string) ∙ string-cut block _ _ string)))
    (λ h. rw (ne_eqb (length picture) 41 h, ne_eqb (length (take 42 picture)) 41 (cut-other 41 picture h)))

-- What is kept of the input beyond the pairs that a run may have decides as all of it would; and how long a report may be.
use Prim.Native.Nat.{ℕ, ◌+◌, ◌*◌, ◌/◌, ◌%◌, ◌≤◌, ◌<◌}
use mathlib.Core.Path.{◌≡◌, refl, sym, ap, ◌∙◌}
use mathlib.Core.Bool.{Bool, true, false, cond, not, ◌&&◌, ◌||◌}
use mathlib.Core.List.{List, [], ◌∷◌, ◌++◌, append-nil}
use native.Mathlib.Omega.{arith}
use lib.Dec.{eqb}
use lib.ListN.{length, take, drop, get_or, length-append, length-take, length-drop}
use borrow.Author.Tests.{lt-ltb, eqb-false}
use Rattle.laws.proofs.Tests.{by_cases, by-test, clash}
use Rattle.std.specs.Prelude.{None}
use Rattle.laws.specs.Flags.{flag}
use Rattle.lounge.specs.declared.Lounge.{Lounge}
use Rattle.lounge.specs.Condition.{well_formed, reset_of}
use Rattle.lounge.specs.Pairs.{run_of}
use Rattle.lounge.specs.Run.{Ran, kinds_formed, run_refusal, refused_of, run_answer}
use Rattle.lounge.proofs.Turns.{kinds-append}
use Rattle.lounge.proofs.Kept.{Sized, formed, run-kept, reset-fit}
use Rattle.lines.proofs.Laws.{each-length, decimal-length, hex-length, cells-length}
use Rattle.lines.specs.Lines.{last_digit}
use Rattle.show_lounge.specs.Rest.{Rest, known, is_some, rest_of, more_of, ran_with, Fits, RanAll, Keeps, ReadBeyond}
use Rattle.show_lounge.specs.Report.{mark_line, mark_lines, place_line, user_line, user_lines, report_of, shown_of, ShownAll}

-- A piece more -------------------------------------------------------------------------------------------------------------------

some-append : (xs ys : List ℕ) → (is_some xs || is_some ys) ≡ is_some (xs ++ ys)
some-append [] ys = refl
some-append (x ∷ xs) ys = refl

not-both : (a b : Bool) → (not a || not b) ≡ not (a && b)
not-both true b = refl
not-both false b = refl

pub keeps : (rest : Rest) (bs : List ℕ) (r : Rest) → r ≡ more_of rest bs → Keeps rest bs r
unfolding rest_of more_of
keeps rest bs r e = record { answer = e; whole = whole }
  where
    whole : (before : List ℕ) → length before % 2 ≡ 0 → rest ≡ rest_of before → r ≡ rest_of (before ++ bs)
    whole before h f =
        let l : length (before ++ bs) % 2 ≡ length bs % 2 = omega (arith, length-append before bs) in
        let s = some-append before bs in
        let w = not-both (kinds_formed before) (kinds_formed bs) ∙ ap not (sym (kinds-append before bs h)) in
        e ∙ rw (f, l) (λ i. record { some = s i; odd = eqb (length bs % 2) 1; wrong = w i })

-- the first of the pieces, with bytes and without
pub some-first : (bs : List ℕ) → (length bs ≡ 0 → ⊥) → is_some bs ≡ true
some-first [] h = absurd (h refl)
some-first (b ∷ bs) h = refl

pub none-first : (bs : List ℕ) → length bs ≡ 0 → known None ≡ more_of (known None) bs
unfolding more_of kinds_formed
none-first [] h = refl
none-first (b ∷ bs) h = absurd (omega arith)

-- All of them --------------------------------------------------------------------------------------------------------------------

swapped : (a b : Bool) → not (true && (a && b)) ≡ (not b || not a)
swapped true true = refl
swapped true false = refl
swapped false true = refl
swapped false false = refl

module _ (first bs : List ℕ) (l : length first ≡ 65536) (s : is_some bs ≡ true) where
  -- behind the first bytes nothing is accepted
  beyond : run_refusal reset_of (first ++ bs)
      ≡ cond (eqb (length bs % 2) 1) 1 (cond (not (kinds_formed bs) || not (kinds_formed first)) 3 4)
  unfolding run_refusal
  beyond =
      let n : length (first ++ bs) ≡ 65536 + length bs = length-append first bs ∙ rw l in
      let o : length (first ++ bs) % 2 ≡ length bs % 2 = omega arith in
      let e : length first % 2 ≡ 0 = omega arith in
      rw (o, formed reset_of reset-fit, kinds-append first bs e, swapped (kinds_formed first) (kinds_formed bs))
      (by_cases (eqb (length bs % 2) 1) (λ t. rw t)
      (λ t. let m : 32768 < length (first ++ bs) / 2 = omega (arith, eqb-false (length bs % 2) 1 t, more-than-none bs s) in
      rw (t, lt-ltb 32768 (length (first ++ bs) / 2) m)))
    where
      more-than-none : (bs : List ℕ) → is_some bs ≡ true → 0 < length bs
      more-than-none [] e = clash e refl
      more-than-none (b ∷ bs) e = omega arith

  given : ran_with first (rest_of bs) ≡ run_answer reset_of (first ++ bs)
  unfolding ran_with rest_of run_answer
  given =
      let wrong = not (kinds_formed bs) || not (kinds_formed first) in
      rw (s, beyond) (go (eqb (length bs % 2) 1) wrong)
    where
      go : (o w : Bool) → refused_of (cond o 1 (cond w 3 4)) reset_of
          ≡ cond (eqb (cond o 1 (cond w 3 4)) 0) (record { refusal = 0; condition = run_of reset_of (first ++ bs) })
          (refused_of (cond o 1 (cond w 3 4)) reset_of)
      go true w = refl
      go false true = refl
      go false false = refl

pub ran-all : (first : List ℕ) (rest : Rest) (r : Ran) → r ≡ ran_with first rest → RanAll first rest r
unfolding ran_with rest_of
ran-all first rest r e = record { answer = e; whole = λ bs f k. e ∙ rw k (go bs f) }
  where
    go : (bs : List ℕ) → Fits first bs → ran_with first (rest_of bs) ≡ run_answer reset_of (first ++ bs)
    go [] f = rw (append-nil first)
    go (b ∷ bs) f = given first (b ∷ bs) (f refl) refl

-- accepted or refused, the condition that is answered is well formed
pub ran-formed : (first : List ℕ) (rest : Rest) (r : Ran) → r ≡ ran_with first rest → well_formed r.condition ≡ true
unfolding ran_with run_answer
ran-formed first rest r e =
    ap (λ (k : Ran). well_formed k.condition) e
    ∙ by-test (λ (k : Ran). well_formed k.condition ≡ true) rest.some (λ _. formed reset_of reset-fit)
    (λ _. by-test (λ (k : Ran). well_formed k.condition ≡ true) (eqb (run_refusal reset_of first) 0)
    (λ _. formed (run_of reset_of first) (run-kept reset_of first reset-fit)) (λ _. formed reset_of reset-fit))

-- and what is shown of it
pub shown-all : (first : List ℕ) (rest : Rest) (r : Ran) (x : List ℕ) → RanAll first rest r → x ≡ shown_of r → ShownAll first rest x
shown-all first rest r x a e =
    record { answer = e ∙ ap shown_of a.answer; whole = λ bs f k. e ∙ ap shown_of (a.whole bs f k) }

-- Pieces that were read ----------------------------------------------------------------------------------------------------------

-- so far: what was read beyond the first n bytes is whole pairs as long as the last piece was full
pub record Reading (n size : ℕ) (rest : Rest) : Type 0 where
  pub beyond : List ℕ
  pub kept : rest ≡ rest_of beyond
  pub pairs : size ≡ 65536 → length beyond % 2 ≡ 0
  pub only : is_some beyond ≡ true → n ≡ 65536
  pub full : size ≡ 65536 → n ≡ 65536

pub reading-starts : (n : ℕ) → Reading n n (record { some = false; odd = false; wrong = false })
unfolding rest_of kinds_formed
reading-starts n =
    record { beyond = []; kept = refl; pairs = λ _. refl; only = λ e. clash e refl; full = λ e. e }

pub reading-turns : (n size size' : ℕ) (rest r : Rest) (piece : List ℕ) → Reading n size rest → size ≡ 65536
    → length piece ≡ size' → Keeps rest piece r → Reading n size' r
reading-turns n size size' rest r piece g e l k =
    record {
      beyond = g.beyond ++ piece;
      kept = k.whole g.beyond (g.pairs e) g.kept;
      pairs = λ f. omega (arith, length-append g.beyond piece, g.pairs e);
      only = λ _. g.full e;
      full = λ _. g.full e;
    }

pub reading-ends : (n size : ℕ) (rest : Rest) → Reading n size rest → ReadBeyond n rest
reading-ends n size rest g = record { beyond = g.beyond; kept = g.kept; only = g.only }

-- How long a report may be
-- ---------------------------------------------------------------------------------------------------------

mark-length : (marks : List ℕ) → length (mark_line marks) ≤ length marks + 1
unfolding mark_line
mark-length marks =
    let l = each-length (λ i. last_digit (get_or marks i 0)) 1 (length marks) (λ i. omega arith) in
    simp length-append (omega arith)

user-length : (us : List ℕ) (k : ℕ) → length (user_line us k) ≤ 23
unfolding user_line
user-length us k =
    let h = hex-length (take 6 (drop (k * 6) us)) in
    simp length-append (omega (arith, length-take 6 (drop (k * 6) us)))

pub report-length : (c : Lounge) → Sized c → c.count ≤ 8 → length (report_of c) ≤ 512
unfolding report_of mark_lines place_line user_lines
report-length c s n =
    let users = each-length (user_line c.users) 23 c.count (user-length c.users) in
    let top = mark-length (take 20 c.marks) in
    let bottom = mark-length (drop 20 c.marks) in
    let cells = cells-length c.codes s.codes-40 in
    simp length-append
    (omega (
      arith,
      length-take 20 c.marks,
      length-drop 20 c.marks,
      s.marks-40,
      decimal-length c.cursor,
      decimal-length c.mode,
      decimal-length (flag c.scrolling),
      decimal-length (flag c.dimming),
    ))

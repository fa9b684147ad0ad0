-- A run so far: what it has spent, and what is still to be run.
use Prim.Native.Nat.{ℕ, ◌+◌, ◌≤◌, ◌<◌}
use mathlib.Core.Path.{◌≡◌, refl, sym, ◌∙◌}
use mathlib.Core.List.{List}
use mathlib.Core.Bool.{Bool, true, false}
use native.Mathlib.Omega.{arith}
use lib.Dec.{eqb}
use mir.Val.{bool_byte}
use lib.ListN.{length, get_or, drop}
use Rattle.condition.specs.declared.Condition.{Condition}
use Rattle.laws.specs.Flags.{flag}
use Rattle.condition.specs.Condition.{well_formed}
use Rattle.condition.specs.Bytes.{run_of}
use Rattle.condition.specs.declared.Figures.{Figures}
use Rattle.condition.specs.Busy.{quick_figure, worst_figure, while_on, busy_of, worst_of, flickerless_of}
use Rattle.condition.proofs.Good.{good}
use Rattle.condition.proofs.Kept.{step_kept}
use Rattle.condition.proofs.Pieces.{run-turn, total-turn, run-ended, total-ended, run-most}
use Rattle.layout.specs.Layout.{condition_in}
use Rattle.layout.proofs.PackedBack.{sized-in}
use Rattle.inplace.specs.declared.Spent.{Spent}
use Rattle.inplace.specs.InPlace.{Stepped, Carried, spent_of}
use Rattle.inplace.proofs.InPlace.{cursor-at, flickerless-at}

-- a flag as a number, as the code makes one of it
pub flag-byte : (b : Bool) → bool_byte b ≡ flag b
flag-byte true = refl
flag-byte false = refl

pub flag-most : (b : Bool) → bool_byte b ≤ 1
flag-most true = omega arith
flag-most false = omega arith

-- what at most 32,768 bytes spend is small
abbrev pub Small : Spent → Type 0
Small s = (s.busy ≤ 2129920) × (s.flickerless ≤ 32768) × (s.worst ≤ 8683520)

pub small : (c : Condition) (bs : List ℕ) → length bs ≤ 32768 → Small (spent_of c bs)
small c bs h = let m = run-most c bs in (omega (arith, m.0), omega (arith, m.1), omega (arith, m.2))

-- after i bytes of bs, from the condition c: what stands in s, and what is spent
pub record Going (c : Condition) (bs : List ℕ) (s : List ℕ) (busy flickerless worst i : ℕ) : Type 0 where
  pub upto : i ≤ length bs
  pub room : 200 ≤ length s
  pub formed : well_formed (condition_in s) ≡ true
  pub leaves : run_of (condition_in s) (drop i bs) ≡ run_of c bs
  pub takes : busy + busy_of (condition_in s) (drop i bs) ≡ busy_of c bs
  pub flickers : flickerless + flickerless_of (condition_in s) (drop i bs) ≡ flickerless_of c bs
  pub lasts : worst + worst_of (condition_in s) (drop i bs) ≡ worst_of c bs

pub going-starts : (s bs : List ℕ) → 200 ≤ length s → well_formed (condition_in s) ≡ true → Going (condition_in s) bs s 0 0 0 0
going-starts s bs h w =
    record {
      upto = omega arith;
      room = h;
      formed = w;
      leaves = refl;
      takes = omega arith;
      flickers = omega arith;
      lasts = omega arith;
    }

module _ (c : Condition) (bs s : List ℕ) (busy flickerless worst i : ℕ) (g : Going c bs s busy flickerless worst i) where
  pub going-place : get_or s 3 0 < 40
  going-place = rw cursor-at at (good (condition_in s) g.formed).cursor-40

  -- what is spent so far is no more than all bytes take
  pub going-most : length bs ≤ 32768 → Small (record { busy = busy; flickerless = flickerless; worst = worst })
  going-most h =
      let m = small c bs h in
      (omega (arith, g.takes, m.0), omega (arith, g.flickers, m.1), omega (arith, g.lasts, m.2))

  pub going-turns : (after : List ℕ) (r : Figures) (f : ℕ) → i < length bs → get_or bs i 0 < 256 → length after ≡ length s
      → Stepped (condition_in s) (get_or bs i 0) (condition_in after) r → f ≡ flag (eqb (get_or s 12 0) 1)
      → Going c bs after (busy + r.quick) (flickerless + f) (worst + r.worst) (i + 1)
  going-turns after r f h b l st e =
      let k = condition_in s in
      record {
        upto = omega arith;
        room = omega (arith, g.room);
        formed = rw st.leaves (step_kept k (get_or bs i 0) (sized-in s g.room) b g.formed);
        leaves = rw st.leaves (run-turn k bs i h ∙ g.leaves);
        takes = rw (st.leaves, st.takes) (omega (arith, total-turn quick_figure k bs i h, g.takes));
        flickers = rw (st.leaves, e, ← flickerless-at s) (omega (arith, total-turn while_on k bs i h, g.flickers));
        lasts = rw (st.leaves, st.takes) (omega (arith, total-turn worst_figure k bs i h, g.lasts));
      }

  pub going-ends : length bs ≤ i
      → Carried c bs (condition_in s) (record { busy = busy; flickerless = flickerless; worst = worst })
  going-ends h =
      let k = condition_in s in
      let b : busy ≡ busy_of c bs = omega (arith, total-ended quick_figure k bs i h, g.takes) in
      let f : flickerless ≡ flickerless_of c bs = omega (arith, total-ended while_on k bs i h, g.flickers) in
      let w : worst ≡ worst_of c bs = omega (arith, total-ended worst_figure k bs i h, g.lasts) in
      record { leaves = sym (run-ended k bs i h) ∙ g.leaves; spends = λ j. record { busy = b j; flickerless = f j; worst = w j } }

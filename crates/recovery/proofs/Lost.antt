-- Once ESC is a user character, or is just being made one, every byte leaves it so: no byte string ends in power-up.
use mathlib.Core.Path.{◌≡◌, refl, sym, ◌∙◌}
use mathlib.Core.Bool.{Bool, true, false, cond, or-false}
use mathlib.Core.List.{List}
use Prim.Native.Nat.{ℕ, ◌%◌}
use native.Mathlib.Omega.{arith}
use lib.Dec.{eqb, ltb}
use borrow.Author.Tests.{eqb-true}
use Rattle.laws.proofs.Tests.{clash, by_cases, by-test}
use Rattle.users.specs.declared.Users.{Users}
use Rattle.users.specs.Users.{is_user, room_of, limit_of, found_in}
use Rattle.users.proofs.Places.{defined-user}
use Rattle.condition.specs.declared.Condition.{Condition}
use Rattle.condition.specs.declared.Pending.{Pending}
use Rattle.condition.specs.declared.Pending.TheVariants.{Escape, Position, Luminance, Speed, UserCode, UserData}
use Rattle.condition.specs.Condition.{idle, well_formed, power_up}
use Rattle.condition.specs.Bytes.{data_of, step_of}
use Rattle.condition.proofs.Characters.{user-char}
use Rattle.condition.proofs.Aside.{Aside, left-aside, right-aside, down-aside, return-aside, clear-aside, write-aside}
use Rattle.condition.proofs.Each.{Commands, step_by, run_by}
use Rattle.condition.proofs.Good.{idle-is, good, Sized, room-16, step-sized}
use Rattle.condition.proofs.Kept.{half-free}
use Rattle.recovery.specs.Recovery.{PowersUp, makes_escape, lost, NoWayBack}

-- ESC is a user character and nothing is half received, or it is just being made one
abbrev stuck_by : Users → Pending → Bool
stuck_by u p = cond (idle p) (is_user u 0x1b) (makes_escape p)

abbrev Stuck : Condition → Type 0
Stuck c = stuck_by c.users c.pending ≡ true

-- where a command is half received ESC is no user character, so a lost condition is one of the two
lost-stuck : (c : Condition) → Sized c → well_formed c ≡ true → lost c ≡ true → Stuck c
unfolding lost
lost-stuck c s w l =
    by_cases (idle c.pending)
    (λ i. let e = idle-is c.pending i in rw e (sym (or-false (is_user c.users 0x1b)) ∙ (rw e at l)))
    (λ i. rw i (rw (half-free c s (good c w) i) at l))

-- Every byte keeps it ------------------------------------------------------------------------------------------------------------

module _ (c : Condition) (b : ℕ) (s : Sized c) (k : Stuck c) where
  keeps : (d : Condition) → Aside c d → Stuck d
  keeps d a = rw (a.users, a.pending) k

  -- no other command is half received
  waiting : {A : Type 0} (p : Pending) → c.pending ≡ p → stuck_by c.users p ≡ false → A
  waiting p e f = clash k (rw e f)

  -- the next byte of its data is held, or makes it a user character
  data-stuck : (code n : ℕ) → c.pending ≡ UserData code n → Stuck (data_of c code n b)
  unfolding data_of
  data-stuck code n e =
      let here : eqb code 0x1b ≡ true = rw e at k in
      by-test Stuck (ltb n 4) (λ _. here)
      (λ _. rw (← eqb-true code 0x1b here) (defined-user c.users code c.held (b % 16) (omega (arith, room-16 c s))))

  commands-stuck : Commands Stuck c b
  commands-stuck =
      record {
        write = keeps _ (write-aside c b);
        left = keeps _ (left-aside c);
        right = keeps _ (right-aside c);
        down = keeps _ (down-aside c);
        home = k;
        return = keeps _ (return-aside c);
        clear = keeps _ (clear-aside c);
        mode = λ m l h. k;
        shown = λ x. k;
        international = k;
        katakana = k;
        euro = k;
        begin = λ e n. clash (user-char c 0x1b (rw e at k)) n;
        ignored = k;
        await = λ e p z. waiting Escape e refl;
        initialise = λ e _. waiting Escape e refl;
        steady = λ e. waiting Escape e refl;
        position = λ e. waiting Position e refl;
        luminance = λ e. waiting Luminance e refl;
        speed = λ e. waiting Speed e refl;
        code = λ e. waiting UserCode e refl;
        user-data = data-stuck;
      }

step-stuck : (c : Condition) (b : ℕ) → Sized c × Stuck c → Sized (step_of c b) × Stuck (step_of c b)
step-stuck c b p = (step-sized c b p.0, step_by Stuck c b (commands-stuck c b p.0 p.1))

-- power-up has no user character
power-up-free : (f : ℕ) → stuck_by (power_up f).users (power_up f).pending ≡ false
unfolding power_up is_user found_in limit_of room_of
power-up-free f = refl

-- whatever numbers come
never_back : (c : Condition) → Sized c → well_formed c ≡ true → lost c ≡ true → (bytes : List ℕ) → PowersUp c bytes → ⊥
never_back c s w l bytes e =
    let p = run_by (λ (d : Condition). Sized d × Stuck d) (λ _. Unit {0}) (λ d b _. step-stuck d b) c bytes (λ _. tt)
    (s, lost-stuck c s w l) in
    clash (rw e at p.1) (power-up-free c.link)

pub no_way_back : (c : Condition) → Sized c → well_formed c ≡ true → lost c ≡ true → NoWayBack c
no_way_back c s w l bytes _ = never_back c s w l bytes

-- What moves the cursor, writes or clears leaves aside: the user characters and their index, the half-received command and the
-- default font. The last no byte at all changes, and an index that is the list's stays so.
use mathlib.Core.Path.{◌≡◌, refl, sym, ◌∙◌}
use mathlib.Core.Bool.{◌&&◌}
use mathlib.Core.List.{List}
use Prim.Native.Nat.{ℕ}
use lib.Dec.{eqb, ltb, leb}
use lib.ListN.{replicate}
use Rattle.laws.proofs.Tests.{by-test}
use Rattle.index.proofs.Entries.{index-none}
use Rattle.condition.specs.declared.Condition.{Condition}
use Rattle.condition.specs.Condition.{column, power_up}
use Rattle.condition.specs.Set.{with_cell}
use Rattle.condition.specs.Bytes.{scroll_of, left_of, right_of, down_of, return_of, clear_of, push_of, write_of}
use Rattle.condition.specs.Bytes.{position_of, data_of, step_of, run_of}
use Rattle.condition.proofs.Each.{step_by, run_by}
use Rattle.condition.proofs.Good.{Indexed}

-- d has them as c has them
pub record Aside (c d : Condition) : Type 0 where
  pub users : d.users ≡ c.users
  pub index : d.index ≡ c.index
  pub pending : d.pending ≡ c.pending
  pub link : d.link ≡ c.link

module _ (c : Condition) where
  pub left-aside : Aside c (left_of c)
  unfolding left_of
  left-aside = by-test (Aside c) (eqb (column c) 0) (λ _. search) (λ _. search)

  pub right-aside : Aside c (right_of c)
  unfolding right_of scroll_of
  right-aside =
      by-test (Aside c) (ltb (column c) 19) (λ _. search)
      (λ _. by-test (Aside c) (eqb c.mode 3) (λ _. search)
      (λ _. by-test (Aside c) (eqb c.cursor 19) (λ _. search)
      (λ _. by-test (Aside c) (eqb c.mode 1) (λ _. search) (λ _. search))))

  pub down-aside : Aside c (down_of c)
  unfolding down_of scroll_of
  down-aside =
      by-test (Aside c) (ltb c.cursor 20) (λ _. search)
      (λ _. by-test (Aside c) (eqb c.mode 1) (λ _. search)
      (λ _. by-test (Aside c) (eqb c.mode 2) (λ _. search) (λ _. search)))

  pub return-aside : Aside c (return_of c)
  unfolding return_of
  return-aside = search

  pub clear-aside : Aside c (clear_of c)
  unfolding clear_of
  clear-aside = search

pub write-aside : (c : Condition) (b : ℕ) → Aside c (write_of c b)
unfolding write_of push_of
write-aside c b =
    by-test (Aside c) (eqb c.mode 3 && eqb (column c) 19)
    (λ _. by-test (Aside c) c.scrolling (λ _. search) (λ _. search))
    (λ _. let a = right-aside (with_cell c c.cursor b) in search)

-- no byte changes the default font
step-link : (c : Condition) (b : ℕ) → (step_of c b).link ≡ c.link
unfolding position_of data_of power_up
step-link c b =
    step_by (λ (d : Condition). d.link ≡ c.link) c b
    (record {
      write = (write-aside c b).link;
      left = (left-aside c).link;
      right = (right-aside c).link;
      down = (down-aside c).link;
      home = refl;
      return = (return-aside c).link;
      clear = (clear-aside c).link;
      mode = λ m l h. refl;
      shown = λ x. refl;
      international = refl;
      katakana = refl;
      euro = refl;
      begin = λ e n. refl;
      ignored = refl;
      await = λ e p z. refl;
      initialise = λ e _. refl;
      steady = λ e. refl;
      position = λ e. by-test (λ (d : Condition). d.link ≡ c.link) (leb b 0x27) (λ _. refl) (λ _. refl);
      luminance = λ e. refl;
      speed = λ e. refl;
      code = λ e. refl;
      user-data = λ code n e. by-test (λ (d : Condition). d.link ≡ c.link) (ltb n 4) (λ _. refl) (λ _. refl);
    })

pub run-link : (c : Condition) (bs : List ℕ) → (run_of c bs).link ≡ c.link
run-link c bs = run_by (λ (d : Condition). d.link ≡ c.link) (λ _. Unit {0}) (λ d b _ e. step-link d b ∙ e) c bs (λ _. tt) refl

-- an index that is the list's stays so, whatever else the condition holds
still-indexed : (c d : Condition) → Aside c d → Indexed c → Indexed d
still-indexed c d a x = rw (a.users, a.index) x

step-indexed : (c : Condition) (b : ℕ) → Indexed c → Indexed (step_of c b)
unfolding position_of data_of power_up
step-indexed c b x =
    step_by Indexed c b
    (record {
      write = still-indexed c _ (write-aside c b) x;
      left = still-indexed c _ (left-aside c) x;
      right = still-indexed c _ (right-aside c) x;
      down = still-indexed c _ (down-aside c) x;
      home = x;
      return = still-indexed c _ (return-aside c) x;
      clear = still-indexed c _ (clear-aside c) x;
      mode = λ m l h. x;
      shown = λ _. x;
      international = x;
      katakana = x;
      euro = x;
      begin = λ e n. x;
      ignored = x;
      await = λ e p z. x;
      initialise = λ e _. sym (index-none 256 (replicate 96 0));
      steady = λ e. x;
      position = λ e. by-test Indexed (leb b 0x27) (λ _. x) (λ _. x);
      luminance = λ e. x;
      speed = λ e. x;
      code = λ e. x;
      user-data = λ code n e. by-test Indexed (ltb n 4) (λ _. x) (λ _. refl);
    })

pub run-indexed : (c : Condition) (bs : List ℕ) → Indexed c → Indexed (run_of c bs)
run-indexed c bs x = run_by Indexed (λ _. Unit {0}) (λ d b _ y. step-indexed d b y) c bs (λ _. tt) x

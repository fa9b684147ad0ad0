-- Well-formedness by its parts.
use mathlib.Core.Path.{◌≡◌, refl, ◌∙◌}
use mathlib.Core.Bool.{true, ◌&&◌}
use mathlib.Core.List.{List}
use Prim.Native.Nat.{ℕ, ◌<◌, ◌≤◌, ◌%◌}
use lib.Dec.{leb, ltb, eqb}
use native.Mathlib.Omega.{arith}
use lib.ListN.{set, length, length-set}
use borrow.Author.Tests.{leb-true, ltb-true, le-leb, lt-ltb}
use Rattle.laws.proofs.Tests.{clash, both, by-test}
use Rattle.row.specs.Row.{all_up_to}
use Rattle.row.proofs.Laws.{line-start-most, scrolled-40, shifted-40}
use Rattle.users.specs.Users.{room_of, places_formed, held_formed}
use Rattle.users.proofs.Places.{room_for, define-length}
use Rattle.index.specs.Index.{index_of}
use Rattle.index.proofs.Entries.{agrees-index, index-agrees}
use Rattle.condition.specs.declared.Condition.{Condition}
use Rattle.condition.specs.declared.Pending.{Pending}
use Rattle.condition.specs.declared.Pending.TheVariants.{Nothing, Escape, Position, Luminance, Speed, UserCode, UserData}
use Rattle.condition.specs.Condition.{idle, held_of, column, numbers_good, scroll_good, escape_good}
use Rattle.condition.specs.Condition.{index_good, well_formed, power_up}
use Rattle.condition.specs.Set.{with_cell, reindexed}
use Rattle.condition.specs.Bytes.{scroll_of, left_of, right_of, down_of, return_of, clear_of, push_of, write_of, position_of}
use Rattle.condition.specs.Bytes.{data_of, step_of, run_of}
use Rattle.condition.proofs.Each.{Commands, step_by, run_by}

-- no command is half received
pub idle-is : (p : Pending) → idle p ≡ true → p ≡ Nothing
idle-is Nothing e = refl
idle-is Escape e = clash e refl
idle-is Position e = clash e refl
idle-is Luminance e = clash e refl
idle-is Speed e = clash e refl
idle-is UserCode e = clash e refl
idle-is (UserData code n) e = clash e refl

-- the index is that of the list
abbrev pub Indexed : Condition → Type 0
Indexed c = c.index ≡ index_of 256 c.users.bytes c.users.count

-- such a condition stays as it is when it is given the list's
pub reindexed-same : (c : Condition) → Indexed c → reindexed c ≡ c
reindexed-same c x = rw (← x)

-- the parts of well-formedness
pub record Good (c : Condition) : Type 0 where
  pub cursor-40 : c.cursor < 40
  pub mode-1 : 1 ≤ c.mode
  pub mode-3 : c.mode ≤ 3
  pub font-1 : c.font ≤ 1
  pub link-1 : c.link ≤ 1
  pub luminance-3 : c.luminance ≤ 3
  pub count-16 : c.users.count ≤ 16
  pub scroll : scroll_good c ≡ true
  pub fonts-1 : all_up_to 1 c.fonts ≡ true
  pub users-good : places_formed 16 c.users.count c.users.bytes ≡ true
  pub held-good : held_formed (held_of c.pending) c.held ≡ true
  pub escape : escape_good c ≡ true
  pub indexed : Indexed c

pub good : (c : Condition) → well_formed c ≡ true → Good c
unfolding well_formed numbers_good
good c e =
    let n = numbers_good c in
    let s = scroll_good c in
    let f = all_up_to 1 c.fonts in
    let u = places_formed 16 c.users.count c.users.bytes in
    let p = held_formed (held_of c.pending) c.held in
    let x = escape_good c in
    let p₆ = both (n && s && f && u && p && x) (index_good c) e in
    let p₅ = both (n && s && f && u && p) x p₆.0 in
    let p₄ = both (n && s && f && u) p p₅.0 in
    let p₃ = both (n && s && f) u p₄.0 in
    let p₂ = both (n && s) f p₃.0 in
    let p₁ = both n s p₂.0 in
    let q₆ = both _ (leb c.users.count 16) p₁.0 in
    let q₅ = both _ (leb c.luminance 3) q₆.0 in
    let q₄ = both _ (leb c.link 1) q₅.0 in
    let q₃ = both _ (leb c.font 1) q₄.0 in
    let q₂ = both _ (leb c.mode 3) q₃.0 in
    let q₁ = both _ (leb 1 c.mode) q₂.0 in
    record {
      cursor-40 = ltb-true _ _ q₁.0;
      mode-1 = leb-true _ _ q₁.1;
      mode-3 = leb-true _ _ q₂.1;
      font-1 = leb-true _ _ q₃.1;
      link-1 = leb-true _ _ q₄.1;
      luminance-3 = leb-true _ _ q₅.1;
      count-16 = leb-true _ _ q₆.1;
      scroll = p₁.1;
      fonts-1 = p₂.1;
      users-good = p₃.1;
      held-good = p₄.1;
      escape = p₅.1;
      indexed = agrees-index c.index c.users.bytes c.users.count p₆.1;
    }

pub formed : (c : Condition) → Good c → well_formed c ≡ true
unfolding well_formed numbers_good
formed c g =
    rw (
      lt-ltb _ _ g.cursor-40,
      le-leb _ _ g.mode-1,
      le-leb _ _ g.mode-3,
      le-leb _ _ g.font-1,
      le-leb _ _ g.link-1,
      le-leb _ _ g.luminance-3,
      le-leb _ _ g.count-16,
      g.scroll,
      g.fonts-1,
      g.users-good,
      g.held-good,
      g.escape,
      index-agrees c.index c.users.bytes c.users.count g.indexed,
    )

-- Sizes: every condition of the code has them, and a byte keeps them --------------------------------------------------------

pub record Sized (c : Condition) : Type 0 where
  pub codes-40 : length c.codes ≡ 40
  pub fonts-40 : length c.fonts ≡ 40
  pub users-96 : length c.users.bytes ≡ 96
  pub held-4 : length c.held ≡ 4

-- 96 bytes have room for 16 user characters
pub room-16 : (c : Condition) → Sized c → room_of c.users.bytes ≡ 16
room-16 c s = room_for c.users.bytes 16 s.users-96 (omega arith)

scroll-sized : (c : Condition) → Sized c → Sized (scroll_of c)
unfolding scroll_of
scroll-sized c s =
    record {
      codes-40 = scrolled-40 0x20 c.codes s.codes-40;
      fonts-40 = scrolled-40 c.font c.fonts s.fonts-40;
      users-96 = s.users-96;
      held-4 = s.held-4;
    }

right-sized : (c : Condition) → Sized c → Sized (right_of c)
unfolding right_of
right-sized c s =
    by-test Sized (ltb (column c) 19) (λ _. search)
    (λ _. by-test Sized (eqb c.mode 3) (λ _. s)
    (λ _. by-test Sized (eqb c.cursor 19) (λ _. search)
    (λ _. by-test Sized (eqb c.mode 1) (λ _. search)
    (λ _. let t = scroll-sized c s in search))))

put-sized : (c : Condition) (b : ℕ) → Sized c → Sized (with_cell c c.cursor b)
put-sized c b s =
    record {
      codes-40 = length-set c.codes c.cursor b ∙ s.codes-40;
      fonts-40 = length-set c.fonts c.cursor c.font ∙ s.fonts-40;
      users-96 = s.users-96;
      held-4 = s.held-4;
    }

push-sized : (c : Condition) (b : ℕ) → Sized c → Sized (push_of c b)
unfolding push_of
push-sized c b s =
    by-test Sized c.scrolling
    (λ _. let l = line-start-most c.cursor in
    record {
      codes-40 = shifted-40 _ b c.codes l s.codes-40;
      fonts-40 = shifted-40 _ c.font c.fonts l s.fonts-40;
      users-96 = s.users-96;
      held-4 = s.held-4;
    })
    (λ _. let t = put-sized c b s in search)

write-sized : (c : Condition) (b : ℕ) → Sized c → Sized (write_of c b)
unfolding write_of
write-sized c b s =
    by-test Sized (eqb c.mode 3 && eqb (column c) 19) (λ _. push-sized c b s)
    (λ _. right-sized (with_cell c c.cursor b) (put-sized c b s))

commands-sized : (c : Condition) (b : ℕ) → Sized c → Commands Sized c b
unfolding left_of down_of return_of clear_of position_of data_of power_up
commands-sized c b s =
    record {
      write = write-sized c b s;
      left = by-test Sized (eqb (column c) 0) (λ _. search) (λ _. search);
      right = right-sized c s;
      down =
          by-test Sized (ltb c.cursor 20) (λ _. search)
          (λ _. by-test Sized (eqb c.mode 1) (λ _. search)
          (λ _. by-test Sized (eqb c.mode 2) (λ _. let t = scroll-sized c s in search) (λ _. search)));
      home = search;
      return = search;
      clear = search;
      mode = λ m l h. search;
      shown = λ x. search;
      international = search;
      katakana = search;
      euro = search;
      begin = λ e n. search;
      ignored = s;
      await = λ e p z. search;
      initialise = λ e _. search;
      steady = λ e. search;
      position = λ e. by-test Sized (leb b 0x27) (λ _. search) (λ _. search);
      luminance = λ e. search;
      speed = λ e. search;
      code = λ e. search;
      user-data =
          λ code n e. by-test Sized (ltb n 4)
          (λ _. let l : length (set c.held n b) ≡ 4 = length-set c.held n b ∙ s.held-4 in search)
          (λ _. let r = room-16 c s in
          let l = define-length c.users code c.held (b % 16) (omega arith) ∙ s.users-96 in search);
    }

pub step-sized : (c : Condition) (b : ℕ) → Sized c → Sized (step_of c b)
step-sized c b s = step_by Sized c b (commands-sized c b s)

pub run-sized : (c : Condition) (bs : List ℕ) → Sized c → Sized (run_of c bs)
run-sized c bs s = run_by Sized (λ _. Unit {0}) (λ c b _ t. step-sized c b t) c bs (λ _. tt) s

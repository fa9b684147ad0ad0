-- Every command keeps a condition well formed.
use mathlib.Core.Path.{◌≡◌, refl}
use mathlib.Core.Bool.{Bool, true, false, cond, ◌&&◌, ◌||◌, not, and-false, or-true}
use mathlib.Core.List.{List}
use Prim.Native.Nat.{ℕ, zero, suc, ◌<◌, ◌≤◌, ◌+◌, ◌-◌, ◌/◌, ◌%◌}
use native.Mathlib.Omega.{arith}
use lib.Dec.{leb, ltb, eqb}
use lib.ListN.{get_or, set, replicate}
use borrow.Author.Tests.{ltb-true, leb-true, ne_eqb}
use Rattle.laws.proofs.Tests.{neither, by-test}
use Rattle.row.specs.Row.{line_start, scrolled, shifted, all_up_to}
use Rattle.row.proofs.Ranges.{up-to-set, up-to-replicate, scrolled-up-to, shifted-up-to}
use Rattle.users.specs.Users.{room_of, is_user, absent, places_formed, held_formed}
use Rattle.users.proofs.Places.{not-user, new-not-user, define-most}
use Rattle.users.proofs.Formed.{define-formed, absent-at, at-absent, next-held}
use Rattle.index.proofs.Entries.{none-agrees}
use Rattle.std.specs.Prelude.{Result}
use Rattle.refusals.specs.declared.Refusal.{Refusal}
use Rattle.refusals.proofs.Laws.{one-answer}
use Rattle.condition.specs.declared.Condition.{Condition}
use Rattle.condition.specs.declared.Pending.{Pending}
use Rattle.condition.specs.declared.Pending.TheVariants.{Nothing, Escape, UserData}
use Rattle.condition.specs.Condition.{column, idle, held_of, numbers_good}
use Rattle.condition.specs.Condition.{scroll_good, escape_good, well_formed, power_up, outcome, power_up_answer}
use Rattle.condition.specs.Set.{with_cells, with_cell, with_cursor, with_mode, with_scrolling, with_shown, with_font, with_euro}
use Rattle.condition.specs.Set.{with_luminance, with_speed, with_flickerless, with_pending, go_to}
use Rattle.condition.specs.Bytes.{scroll_of, left_of, right_of, down_of, return_of, clear_of, push_of, write_of, is_char}
use Rattle.condition.specs.Bytes.{position_of, data_of, step_of, run_of}
use Rattle.condition.proofs.Each.{Commands, step_by, run_by}
use Rattle.condition.proofs.Good.{Good, good, formed, Sized, room-16, step-sized}

-- Power-up for font 0 or 1 is well formed ----------------------------------------------------------------------------------

pub power-up-good : (f : ℕ) → f ≤ 1 → well_formed (power_up f) ≡ true
unfolding well_formed power_up numbers_good scroll_good all_up_to places_formed held_formed escape_good
power-up-good zero h = none-agrees (replicate 96 0)
power-up-good (suc zero) h = none-agrees (replicate 96 0)
power-up-good (suc (suc f)) h = absurd (omega arith)

pub power-up-sized : (f : ℕ) → Sized (power_up f)
unfolding power_up
power-up-sized f = record { codes-40 = refl; fonts-40 = refl; users-96 = refl; held-4 = refl }

-- so it is given for a font link of 0 or 1, and refused for any other
pub powered : (f : ℕ) → leb f 1 ≡ true → power_up_answer f ≡ record { refusal = 0; condition = power_up f }
unfolding power_up_answer
powered f h = rw h

pub unpowered : (f : ℕ) → leb f 1 ≡ false → power_up_answer f ≡ record { refusal = 3; condition = power_up 0 }
unfolding power_up_answer
unpowered f h = rw h

-- any two answers that the contract of `power_up`, or of a reading, allows are equal
pub one-outcome : (r s : Result Condition Refusal) → outcome r ≡ outcome s → r ≡ s
one-outcome = one-answer outcome (λ o. o.refusal) (λ o. o.condition) (λ _. refl) (λ _. refl) (λ _. refl)

-- One field changed --------------------------------------------------------------------------------------------------------

module _ (c : Condition) (g : Good c) where
  pub cells-kept : (x y : List ℕ) → all_up_to 1 y ≡ true → Good (with_cells c x y)
  unfolding scroll_good escape_good
  cells-kept x y h = search

  pub go-kept : (x : ℕ) → x < 40 → Good (go_to c x)
  unfolding scroll_good escape_good
  go-kept x h = search

  pub off-kept : Good (with_scrolling c false)
  unfolding scroll_good escape_good
  off-kept = search

  -- scroll-on is off but in mode 3 at column 19
  pub scroll-off : (eqb c.mode 3 && eqb (column c) 19) ≡ false → c.scrolling ≡ false
  unfolding scroll_good
  scroll-off e = go c.scrolling (rw e at g.scroll)
    where
      go : (t : Bool) → (not t || false) ≡ true → t ≡ false
      go false h = refl
      go true h = cc

  pub cursor-kept : (x : ℕ) → x < 40 → c.scrolling ≡ false → Good (with_cursor c x)
  unfolding scroll_good escape_good
  cursor-kept x h e = let s : (not c.scrolling || eqb c.mode 3 && eqb (x % 20) 19) ≡ true = rw e in search

  pub cell-kept : (b : ℕ) → Good (with_cell c c.cursor b)
  cell-kept b =
      cells-kept (set c.codes c.cursor b) (set c.fonts c.cursor c.font)
      (up-to-set 1 c.fonts c.cursor c.font g.fonts-1 g.font-1)

  pub scroll-kept : Good (scroll_of c)
  unfolding scroll_of
  scroll-kept =
      cells-kept (scrolled 0x20 c.codes) (scrolled c.font c.fonts)
      (scrolled-up-to 1 c.font c.fonts g.font-1 g.fonts-1)

  pub clear_kept : Good (clear_of c)
  unfolding clear_of scroll_good escape_good
  clear_kept = let h : all_up_to 1 (replicate 40 c.font) ≡ true = up-to-replicate 1 40 c.font g.font-1 in search

  -- another command is half received, or none, and nothing is held
  pub await-kept : (p : Pending) → held_of c.pending ≡ 0 → held_of p ≡ 0
      → absent 0x1b c.users.count c.users.bytes ≡ true → Good (with_pending c p)
  unfolding scroll_good escape_good
  await-kept p e z a =
      let h : held_formed (held_of p) c.held ≡ true = rw z (rw e at g.held-good) in
      let k : (idle p || absent 0x1b c.users.count c.users.bytes) ≡ true = rw a (or-true (idle p)) in
      search

  pub no-escape : idle c.pending ≡ false → absent 0x1b c.users.count c.users.bytes ≡ true
  unfolding escape_good
  no-escape e = rw e at g.escape

  -- The commands -------------------------------------------------------------------------------------------------------------

  pub left-kept : Good (left_of c)
  unfolding left_of
  left-kept =
      by-test Good (eqb (column c) 0) (λ _. go-kept c.cursor g.cursor-40)
      (λ _. go-kept (c.cursor - 1) (omega (arith, g.cursor-40)))

  pub return_kept : Good (return_of c)
  unfolding return_of line_start
  return_kept =
      go-kept (cond (ltb c.cursor 20) 0 20)
      (by-test (λ (x : ℕ). x < 40) (ltb c.cursor 20) (λ _. omega arith) (λ _. omega arith))

  pub mode-kept : (m : ℕ) → 1 ≤ m → m ≤ 3 → Good (with_scrolling (with_mode c m) false)
  unfolding scroll_good escape_good
  mode-kept m h l = search

  pub shown-kept : (x : Bool) → Good (with_shown c x)
  unfolding scroll_good escape_good
  shown-kept x = search

  pub font-kept : (x : ℕ) → x ≤ 1 → Good (with_font c x)
  unfolding scroll_good escape_good
  font-kept x h = search

  pub euro-kept : (x : Bool) → Good (with_euro c x)
  unfolding scroll_good escape_good
  euro-kept x = search

  pub luminance-kept : (x : ℕ) → x ≤ 3 → Good (with_luminance c x)
  unfolding scroll_good escape_good
  luminance-kept x h = search

  pub speed-kept : (x : ℕ) → Good (with_speed c x)
  unfolding scroll_good escape_good
  speed-kept x = search

  pub flickerless-kept : (x : Bool) → Good (with_flickerless c x)
  unfolding scroll_good escape_good
  flickerless-kept x = search

pub right_kept : (c : Condition) → Good c → Good (right_of c)
unfolding right_of scroll_of
right_kept c g =
    by-test Good (ltb (column c) 19)
    (λ h.
    let l : column c < 19 = ltb-true (column c) 19 h in
    let off = scroll-off c g (rw (ne_eqb (column c) 19 (omega arith), and-false)) in
    cursor-kept c g (c.cursor + 1) (omega (arith, g.cursor-40)) off)
    (λ _. by-test Good (eqb c.mode 3) (λ _. g)
    (λ m. let off : c.scrolling ≡ false = scroll-off c g (rw m) in
    by-test Good (eqb c.cursor 19) (λ _. cursor-kept c g 20 (omega arith) off)
    (λ _. by-test Good (eqb c.mode 1) (λ _. cursor-kept c g 0 (omega arith) off)
    (λ _. cursor-kept (scroll_of c) (scroll-kept c g) 20 (omega arith) off))))

pub down-kept : (c : Condition) → Good c → Good (down_of c)
unfolding down_of
down-kept c g =
    by-test Good (ltb c.cursor 20) (λ h. go-kept c g (c.cursor + 20) (omega (arith, ltb-true c.cursor 20 h)))
    (λ _. by-test Good (eqb c.mode 1) (λ _. go-kept c g (c.cursor - 20) (omega (arith, g.cursor-40)))
    (λ _. by-test Good (eqb c.mode 2) (λ _. off-kept (scroll_of c) (scroll-kept c g)) (λ _. off-kept c g)))

pub push_kept : (c : Condition) (b : ℕ) → Good c → (eqb c.mode 3 && eqb (column c) 19) ≡ true → Good (push_of c b)
unfolding push_of scroll_good escape_good
push_kept c b g e =
    by-test Good c.scrolling
    (λ _. cells-kept c g (shifted (line_start c.cursor) b c.codes) (shifted (line_start c.cursor) c.font c.fonts)
    (shifted-up-to 1 c.font c.fonts g.font-1 g.fonts-1 (line_start c.cursor)))
    (λ _. let k = cell-kept c g b in search)

pub write_kept : (c : Condition) (b : ℕ) → Good c → Good (write_of c b)
unfolding write_of
write_kept c b g =
    by-test Good (eqb c.mode 3 && eqb (column c) 19) (λ e. push_kept c b g e)
    (λ _. right_kept (with_cell c c.cursor b) (cell-kept c g b))

pub data-kept : (c : Condition) (code n d : ℕ) → Sized c → Good c → c.pending ≡ UserData code n → Good (data_of c code n d)
unfolding data_of scroll_good escape_good held_formed all_up_to
data-kept c code n d s g e =
    by-test Good (ltb n 4)
    (λ t.
    let k = next-held c.held n d (ltb-true n 4 t) (rw e at g.held-good) in
    let a = no-escape c g (rw e) in
    search)
    (λ _.
    let r = room-16 c s in
    let m = rw r at (define-most c.users code c.held (d % 16) (omega arith)) in
    let l : c.users.count ≤ room_of c.users.bytes = omega (arith, g.count-16) in
    let u = define-formed 16 c.users code c.held (d % 16) (omega arith) l (omega arith) g.users-good in
    search)

-- 1Bh is no character, so it is no user code
pub escape-free : (c : Condition) → Sized c → Good c → is_char c 0x1b ≡ false
    → absent 0x1b c.users.count c.users.bytes ≡ true
unfolding is_char
escape-free c s g e =
    at-absent 0x1b c.users.count c.users.bytes
    (not-user c.users 0x1b (omega (arith, room-16 c s, g.count-16))
    (neither (is_user c.users 0x1b) _ e).0)

-- and where a command is half received it is none
pub half-free : (c : Condition) → Sized c → Good c → idle c.pending ≡ false → is_user c.users 0x1b ≡ false
half-free c s g e =
    new-not-user c.users 0x1b (absent-at 0x1b c.users.count c.users.bytes (no-escape c g e))
    (omega (arith, room-16 c s, g.count-16))

pub commands-kept : (c : Condition) (b : ℕ) → Sized c → b < 256 → Good c → Commands Good c b
unfolding position_of
commands-kept c b s h g =
    record {
      write = write_kept c b g;
      left = left-kept c g;
      right = right_kept c g;
      down = down-kept c g;
      home = go-kept c g 0 (omega arith);
      return = return_kept c g;
      clear = clear_kept c g;
      mode = mode-kept c g;
      shown = shown-kept c g;
      international = euro-kept (with_font c 0) (font-kept c g 0 (omega arith)) false;
      katakana = font-kept c g 1 (omega arith);
      euro = euro-kept c g true;
      begin = λ e n. await-kept c g Escape (rw e) refl (escape-free c s g n);
      ignored = g;
      await = λ e p z. await-kept c g p (rw e) z (no-escape c g (rw e));
      initialise = λ e _. good (power_up c.link) (power-up-good c.link g.link-1);
      steady = λ e. flickerless-kept (with_pending c Nothing) (ended (rw e) (rw e)) true;
      position =
          λ e. by-test Good (leb b 0x27)
          (λ t. go-kept (with_pending c Nothing) (ended (rw e) (rw e)) b (omega (arith, leb-true b 0x27 t)))
          (λ _. ended (rw e) (rw e));
      luminance = λ e. luminance-kept (with_pending c Nothing) (ended (rw e) (rw e)) (b / 64) (omega arith);
      speed = λ e. speed-kept (with_pending c Nothing) (ended (rw e) (rw e)) b;
      code = λ e. await-kept c g (UserData b 0) (rw e) refl (no-escape c g (rw e));
      user-data = λ code n e. data-kept c code n b s g e;
    }
  where
    ended : held_of c.pending ≡ 0 → idle c.pending ≡ false → Good (with_pending c Nothing)
    ended z i = await-kept c g Nothing z refl (no-escape c g i)

pub step-good : (c : Condition) (b : ℕ) → Sized c → b < 256 → Good c → Good (step_of c b)
step-good c b s h g = step_by Good c b (commands-kept c b s h g)

pub step_kept : (c : Condition) (b : ℕ) → Sized c → b < 256 → well_formed c ≡ true → well_formed (step_of c b) ≡ true
step_kept c b s h w = formed (step_of c b) (step-good c b s h (good c w))

pub run-kept : (c : Condition) (bs : List ℕ) → Sized c → ((i : ℕ) → get_or bs i 0 < 256) → well_formed c ≡ true
    → well_formed (run_of c bs) ≡ true
run-kept c bs s h w =
    formed (run_of c bs)
    (run_by (λ (d : Condition). Sized d × Good d) (λ (b : ℕ). b < 256)
    (λ d b l p. (step-sized d b p.0, step-good d b p.0 l p.1)) c bs h (s, good c w)).1

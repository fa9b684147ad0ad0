-- Every pair keeps a condition well formed.
use Prim.Native.Nat.{ℕ, ◌+◌, ◌-◌, ◌<◌, ◌≤◌, ◌%◌}
use mathlib.Core.Path.{◌≡◌, refl, ◌∙◌}
use mathlib.Core.Bool.{Bool, true, false, cond, not, ◌&&◌, ◌||◌, and-false}
use mathlib.Core.List.{List, [], ◌∷◌, ◌++◌, map}
use native.Mathlib.Omega.{arith}
use lib.Bits.{or_lt, and_le_l}
use lib.Dec.{eqb, ltb, leb}
use lib.ListN.{length, set, take, drop, replicate, length-set, length-map, length-append, length-take, length-drop}
use borrow.Author.Tests.{leb-true, ltb-true, le-leb, lt-ltb, ne_eqb, eqb-false}
use Rattle.laws.proofs.Tests.{both, by-test}
use Rattle.row.specs.Row.{line_start, scrolled, shifted, cleared_line, all_up_to}
use Rattle.row.proofs.Laws.{line-start-most, scrolled-40, shifted-40, cleared-40}
use Rattle.row.proofs.Ranges.{up-to-set, up-to-append, up-to-take, up-to-drop, scrolled-up-to, shifted-up-to, cleared-up-to}
use Rattle.row.proofs.Ranges.{map-up-to}
use Rattle.users.specs.Users.{room_of, places_formed, users_formed, held_formed}
use Rattle.users.proofs.Places.{room_for, define-length}
use Rattle.users.proofs.Formed.{define-users-formed, next-held, none-held}
use Rattle.lounge.specs.declared.Lounge.{Lounge}
use Rattle.lounge.specs.declared.Pending.{Pending}
use Rattle.lounge.specs.declared.Pending.TheVariants.{Nothing, Escape, UserData, First, Second}
use Rattle.lounge.specs.Condition.{column, users_of, held_of, is_area, area_formed, numbers_formed, scroll_formed, well_formed}
use Rattle.lounge.specs.Condition.{reset_of}
use Rattle.lounge.specs.Set.{with_cells, with_marks, with_cursor, with_dimming, with_last, with_pending, with_cell}
use Rattle.lounge.specs.Set.{go_to}
use Rattle.lounge.specs.Marks.{bright, blink, underline, mark_of, is_pair, marked, unmarked, marked_area, cancelled}
use Rattle.lounge.specs.Pairs.{scroll_of, tab_of, return_of, mode_of, push_of, after_write, write_of, is_char}
use Rattle.lounge.specs.Pairs.{marking_of, control_of, dimmed_by, area_of, data_of, written_at, written_of}
use Rattle.lounge.specs.Pairs.{home_in, line_reset_of, command_of, step_of, run_of}

-- Sizes: every condition of the code has them
pub record Sized (c : Lounge) : Type 0 where
  pub codes-40 : length c.codes ≡ 40
  pub marks-40 : length c.marks ≡ 40
  pub users-48 : length c.users ≡ 48
  pub held-4 : length c.held ≡ 4

-- the sizes, and the parts of well-formedness
pub record Fit (c : Lounge) : Type 0 where
  pub codes-40 : length c.codes ≡ 40
  pub marks-40 : length c.marks ≡ 40
  pub users-48 : length c.users ≡ 48
  pub held-4 : length c.held ≡ 4
  pub cursor-40 : c.cursor < 40
  pub mode-1 : 1 ≤ c.mode
  pub mode-2 : c.mode ≤ 2
  pub scroll : scroll_formed c ≡ true
  pub marks-7 : all_up_to 7 c.marks ≡ true
  pub users-formed : users_formed 8 c.users c.count ≡ true
  pub held-formed : held_formed (held_of c.pending) c.held ≡ true
  pub area-formed : area_formed c.pending ≡ true

pub fit : (c : Lounge) → Sized c → well_formed c ≡ true → Fit c
unfolding well_formed numbers_formed
fit c s e =
    let p₅ = both _ (area_formed c.pending) e in
    let p₄ = both _ (held_formed (held_of c.pending) c.held) p₅.0 in
    let p₃ = both _ (users_formed 8 c.users c.count) p₄.0 in
    let p₂ = both _ (all_up_to 7 c.marks) p₃.0 in
    let p₁ = both _ (scroll_formed c) p₂.0 in
    let q₂ = both _ (leb c.mode 2) p₁.0 in
    let q₁ = both _ (leb 1 c.mode) q₂.0 in
    record {
      codes-40 = s.codes-40;
      marks-40 = s.marks-40;
      users-48 = s.users-48;
      held-4 = s.held-4;
      cursor-40 = ltb-true _ _ q₁.0;
      mode-1 = leb-true _ _ q₁.1;
      mode-2 = leb-true _ _ q₂.1;
      scroll = p₁.1;
      marks-7 = p₂.1;
      users-formed = p₃.1;
      held-formed = p₄.1;
      area-formed = p₅.1;
    }

pub formed : (c : Lounge) → Fit c → well_formed c ≡ true
unfolding well_formed numbers_formed
formed c g =
    rw (
      lt-ltb _ _ g.cursor-40,
      le-leb _ _ g.mode-1,
      le-leb _ _ g.mode-2,
      g.scroll,
      g.marks-7,
      g.users-formed,
      g.held-formed,
      g.area-formed,
    )

-- Reset is well formed
pub reset-fit : Fit reset_of
unfolding reset_of scroll_formed all_up_to users_formed room_of places_formed held_formed
reset-fit =
    record {
      codes-40 = refl;
      marks-40 = refl;
      users-48 = refl;
      held-4 = refl;
      cursor-40 = omega arith;
      mode-1 = omega arith;
      mode-2 = omega arith;
      scroll = refl;
      marks-7 = refl;
      users-formed = refl;
      held-formed = refl;
      area-formed = refl;
    }

-- Marks stay 0 to 7 -----------------------------------------------------------------------------------------------------------

mark-below : (area : ℕ) → mark_of area < 8
unfolding mark_of
mark-below area =
    by-test (λ (k : ℕ). k < 8) (eqb area 0x17) (λ _. omega arith)
    (λ _. by-test (λ (k : ℕ). k < 8) (eqb area 0x19) (λ _. omega arith) (λ _. omega arith))

marked-most : (k : ℕ) → k < 8 → (m : ℕ) → m ≤ 7 → marked k m ≤ 7
marked-most k h m l = omega (arith, or_lt 3 m k (omega arith) h)

unmarked_most : (k m : ℕ) → m ≤ 7 → unmarked k m ≤ 7
unmarked_most k m l = omega (arith, and_le_l m (7 - k))

-- One field changed ------------------------------------------------------------------------------------------------------------

module _ (c : Lounge) (g : Fit c) where
  cells-kept : (x y : List ℕ) → length x ≡ 40 → length y ≡ 40 → all_up_to 7 y ≡ true → Fit (with_cells c x y)
  unfolding scroll_formed
  cells-kept x y hx hy h = search

  marks-kept : (y : List ℕ) → length y ≡ 40 → all_up_to 7 y ≡ true → Fit (with_marks c y)
  unfolding scroll_formed
  marks-kept y hy h = search

  go-kept : (x : ℕ) → x < 40 → Fit (go_to c x)
  unfolding scroll_formed
  go-kept x h = search

  mode-kept : (m : ℕ) → 1 ≤ m → m ≤ 2 → Fit (mode_of c m)
  unfolding scroll_formed
  mode-kept m h l = search

  dimming-kept : (x : Bool) → Fit (with_dimming c x)
  unfolding scroll_formed
  dimming-kept x = search

  last-kept : (x : ℕ) → Fit (with_last c x)
  unfolding scroll_formed
  last-kept x = search

  -- scroll-on is off but in DC2 at column 19
  scroll-off : (eqb c.mode 2 && eqb (column c) 19) ≡ false → c.scrolling ≡ false
  unfolding scroll_formed
  scroll-off e = go c.scrolling (rw e at g.scroll)
    where
      go : (t : Bool) → (not t || false) ≡ true → t ≡ false
      go false h = refl
      go true h = cc

  cursor-kept : (x : ℕ) → x < 40 → c.scrolling ≡ false → Fit (with_cursor c x)
  unfolding scroll_formed
  cursor-kept x h e = let s : (not c.scrolling || eqb c.mode 2 && eqb (x % 20) 19) ≡ true = rw e in search

  -- another sequence is half received, or none, and nothing is held
  await-kept : (p : Pending) → held_of c.pending ≡ 0 → held_of p ≡ 0 → area_formed p ≡ true → Fit (with_pending c p)
  unfolding scroll_formed
  await-kept p e z a = let h : held_formed (held_of p) c.held ≡ true = rw z (rw e at g.held-formed) in search

  cell-kept : (b : ℕ) → Fit (with_cell c c.cursor b)
  cell-kept b =
      cells-kept (set c.codes c.cursor b) (set c.marks c.cursor 0)
      (length-set c.codes c.cursor b ∙ g.codes-40) (length-set c.marks c.cursor 0 ∙ g.marks-40)
      (up-to-set 7 c.marks c.cursor 0 g.marks-7 (omega arith))

  scroll-kept : Fit (scroll_of c)
  unfolding scroll_of
  scroll-kept =
      cells-kept (scrolled 0x20 c.codes) (scrolled 0 c.marks)
      (scrolled-40 0x20 c.codes g.codes-40) (scrolled-40 0 c.marks g.marks-40)
      (scrolled-up-to 7 0 c.marks (omega arith) g.marks-7)

  cancel-kept : (k : ℕ) → Fit (with_marks c (cancelled k c.marks))
  unfolding cancelled
  cancel-kept k =
      marks-kept (map (unmarked k) c.marks) (length-map c.marks (unmarked k) ∙ g.marks-40)
      (map-up-to 7 (unmarked k) (unmarked_most k) c.marks g.marks-7)

  area-kept : (k first second : ℕ) → k < 8 → first ≤ second → second ≤ 0x27
      → Fit (with_marks c (marked_area k first second c.marks))
  unfolding marked_area
  area-kept k first second h l m =
      let part = take (second + 1 - first) (drop first c.marks) in
      marks-kept (take first c.marks ++ (map (marked k) part ++ drop (second + 1) c.marks))
      (simp (length-append, length-map, length-take, length-drop) (omega (arith, g.marks-40)))
      (up-to-append 7 (take first c.marks) (map (marked k) part ++ drop (second + 1) c.marks)
      (up-to-take 7 first c.marks g.marks-7)
      (up-to-append 7 (map (marked k) part) (drop (second + 1) c.marks)
      (map-up-to 7 (marked k) (marked-most k h) part
      (up-to-take 7 (second + 1 - first) (drop first c.marks) (up-to-drop 7 first c.marks g.marks-7)))
      (up-to-drop 7 (second + 1) c.marks g.marks-7)))

-- Data writes -------------------------------------------------------------------------------------------------------------------

tab-kept : (c : Lounge) → Fit c → Fit (tab_of c)
unfolding tab_of
tab-kept c g =
    by-test Fit (ltb (column c) 19)
    (λ h.
    let l : column c < 19 = ltb-true (column c) 19 h in
    let off = scroll-off c g (rw (ne_eqb (column c) 19 (omega arith), and-false)) in
    cursor-kept c g (c.cursor + 1) (omega (arith, g.cursor-40)) off)
    (λ _. by-test Fit (eqb c.cursor 19) (λ _. go-kept c g 20 (omega arith))
    (λ _. go-kept (scroll_of c) (scroll-kept c g) 20 (omega arith)))

return_kept : (c : Lounge) → Fit c → Fit (return_of c)
unfolding return_of
return_kept c g = go-kept c g (line_start c.cursor) (omega (arith, line-start-most c.cursor))

push_kept : (c : Lounge) (b : ℕ) → Fit c → (eqb c.mode 2 && eqb (column c) 19) ≡ true → Fit (push_of c b)
unfolding push_of scroll_formed
push_kept c b g e =
    let start = line_start c.cursor in
    let l = line-start-most c.cursor in
    by-test Fit c.scrolling
    (λ _. cells-kept c g (shifted start b c.codes) (shifted start 0 c.marks)
    (shifted-40 start b c.codes l g.codes-40) (shifted-40 start 0 c.marks l g.marks-40)
    (shifted-up-to 7 0 c.marks (omega arith) g.marks-7 start))
    (λ _. let k = cell-kept c g b in search)

write_kept : (c : Lounge) (b : ℕ) → Fit c → Fit (write_of c b)
unfolding write_of after_write
write_kept c b g =
    by-test Fit (eqb c.mode 2 && eqb (column c) 19) (λ e. push_kept c b g e)
    (λ e. cursor-kept (with_cell c c.cursor b) (cell-kept c g b) (cond (eqb c.cursor 39) 0 (c.cursor + 1))
    (by-test (λ (x : ℕ). x < 40) (eqb c.cursor 39) (λ _. omega arith)
    (λ n. omega (arith, g.cursor-40, eqb-false c.cursor 39 n)))
    (scroll-off c g e))

-- with nothing half received
module _ (c : Lounge) (b : ℕ) (g : Fit c) (e : c.pending ≡ Nothing) where
  begin-kept : (p : Pending) → held_of p ≡ 0 → area_formed p ≡ true → Fit (with_pending c p)
  begin-kept p z a = await-kept c g p (rw e) z a

  marking-kept : Fit (marking_of c b)
  unfolding marking_of is_area
  marking-kept =
      by-test Fit (eqb b 0x17) (λ _. begin-kept (First 0x17) refl refl)
      (λ _. by-test Fit (eqb b 0x18) (λ _. dimming-kept (with_marks c (cancelled bright c.marks)) (cancel-kept c g bright) false)
      (λ _. by-test Fit (eqb b 0x19) (λ _. begin-kept (First 0x19) refl refl)
      (λ _. by-test Fit (eqb b 0x1a) (λ _. cancel-kept c g blink)
      (λ _. by-test Fit (eqb b 0x1b) (λ _. begin-kept Escape refl refl)
      (λ _. by-test Fit (eqb b 0x1c) (λ _. begin-kept (First 0x1c) refl refl)
      (λ _. by-test Fit (eqb b 0x1d) (λ _. cancel-kept c g underline)
      (λ _. g)))))))

  control-kept : Fit (control_of c b)
  unfolding control_of
  control-kept =
      by-test Fit (eqb b 0x09) (λ _. tab-kept c g)
      (λ _. by-test Fit (eqb b 0x0d) (λ _. return_kept c g)
      (λ _. by-test Fit (eqb b 0x11) (λ _. mode-kept c g 1 (omega arith) (omega arith))
      (λ _. by-test Fit (eqb b 0x12) (λ _. mode-kept c g 2 (omega arith) (omega arith))
      (λ _. marking-kept))))

data-kept : (c : Lounge) (code n d : ℕ) → Fit c → c.pending ≡ UserData code n → Fit (data_of c code n d)
unfolding data_of scroll_formed
data-kept c code n d g e =
    by-test Fit (ltb n 4)
    (λ t.
    let k = next-held c.held n d (ltb-true n 4 t) (rw e at g.held-formed) in
    let l : length (set c.held n d) ≡ 4 = length-set c.held n d ∙ g.held-4 in
    search)
    (λ _.
    let r = room_for c.users 8 g.users-48 (omega arith) in
    let u = define-users-formed 8 (users_of c) code c.held (d % 8) (omega arith) (omega arith) g.users-formed in
    let l = define-length (users_of c) code c.held (d % 8) (omega arith) ∙ g.users-48 in
    let z : held_formed 0 (replicate 4 0) ≡ true = none-held in
    search)

-- the second position of an area code
pair-kept : (c : Lounge) (area first second : ℕ) → Fit c → Fit (area_of c area first second)
unfolding area_of is_pair dimmed_by
pair-kept c area first second g =
    by-test Fit (leb first second && leb second 0x27)
    (λ e.
    let p = both (leb first second) (leb second 0x27) e in
    let k = area-kept c g (mark_of area) first second (mark-below area) (leb-true first second p.0) (leb-true second 0x27
    p.1) in
    by-test Fit (eqb area 0x17) (λ _. dimming-kept (with_marks c (marked_area (mark_of area) first second c.marks)) k true)
    (λ _. k))
    (λ _. g)

written-kept : (c : Lounge) (b : ℕ) → Fit c → Fit (written_of c b)
unfolding written_at
written-kept c b g = go c.pending refl
  where
    go : (p : Pending) → c.pending ≡ p → Fit (written_at p c b)
    go Nothing e = by-test Fit (is_char c b) (λ _. write_kept c b g) (λ _. control-kept c b g e)
    go Escape e = await-kept c g (UserData b 0) (rw e) refl refl
    go (UserData code n) e = data-kept c code n b g e
    go (First area) e = await-kept c g (Second area b) (rw e) refl (rw e at g.area-formed)
    go (Second area first) e = pair-kept (with_pending c Nothing) area first b (await-kept c g Nothing (rw e) refl refl)

-- Command writes ----------------------------------------------------------------------------------------------------------------

line-reset-kept : (c : Lounge) (start : ℕ) → start ≤ 20 → Fit c → Fit (line_reset_of c start)
unfolding line_reset_of home_in
line-reset-kept c start l g =
    let k =
    cells-kept c g (cleared_line start 0x20 c.codes) (cleared_line start 0 c.marks)
    (cleared-40 start 0x20 c.codes l g.codes-40) (cleared-40 start 0 c.marks l g.marks-40)
    (cleared-up-to 7 0 c.marks (omega arith) g.marks-7 start) in
    by-test Fit (eqb (line_start c.cursor) start)
    (λ _. go-kept (with_cells c (cleared_line start 0x20 c.codes) (cleared_line start 0 c.marks)) k start (omega arith)) (λ _. k)

command-kept : (c : Lounge) (b : ℕ) → Fit c → Fit (command_of c b)
unfolding command_of
command-kept c b g =
    by-test Fit (leb b 0x27) (λ t. go-kept c g b (omega (arith, leb-true b 0x27 t)))
    (λ _. by-test Fit (eqb b 0x40) (λ _. line-reset-kept c 0 (omega arith) g)
    (λ _. by-test Fit (eqb b 0x41) (λ _. line-reset-kept c 20 (omega arith) g)
    (λ _. g)))

-- Pairs ---------------------------------------------------------------------------------------------------------------------------

pub step_kept : (c : Lounge) (kind b : ℕ) → Fit c → Fit (step_of c kind b)
unfolding step_of
step_kept c kind b g =
    by-test Fit (eqb kind 1) (λ _. command-kept (with_last c b) b (last-kept c g b))
    (λ _. written-kept (with_last c b) b (last-kept c g b))

pub run-kept : (c : Lounge) (bs : List ℕ) → Fit c → Fit (run_of c bs)
unfolding run_of
run-kept c [] g = g
run-kept c (kind ∷ []) g = g
run-kept c (kind ∷ b ∷ pairs) g = run-kept (step_of c kind b) pairs (step_kept c kind b g)

-- A well-formed condition has at most eight user characters
pub few-users : (c : Lounge) → Fit c → c.count ≤ 8
unfolding users_formed
few-users c g =
    let p = both (leb c.count (room_of c.users)) (places_formed 8 c.count c.users) g.users-formed in
    let r = room_for c.users 8 g.users-48 (omega arith) in
    omega (arith, leb-true c.count (room_of c.users) p.0)

-- The moves are the interpreter's: in mode 1, nothing half received and no user character on the byte, what a byte of a move does
-- (condition/specs/Bytes) is to bring the cursor to where the move leads.
use mathlib.Core.Path.{◌≡◌, refl, sym, ap, ◌∙◌, subst}
use mathlib.Core.Bool.{Bool, true, false, cond, ◌||◌, or_assoc, or-false}
use mathlib.Core.List.{List, [], ◌∷◌}
use Prim.Native.Nat.{ℕ, ◌+◌, ◌-◌, ◌%◌, ◌≤◌, ◌<◌}
use native.Mathlib.Omega.{arith}
use lib.Dec.{eqb, ltb, leb}
use lib.ListN.{length}
use borrow.Author.Tests.{eqb-true, eqb-false, eq-eqb, ne_eqb, ltb-true, ltb-false, lt-ltb, le-ltb, leb-true, le-leb}
use Rattle.laws.proofs.Tests.{by_cases, clash, both}
use Rattle.row.specs.Row.{line_start}
use Rattle.users.specs.Users.{is_user}
use Rattle.condition.specs.declared.Condition.{Condition}
use Rattle.condition.specs.declared.Pending.{Pending}
use Rattle.condition.specs.declared.Pending.TheVariants.{Nothing, Escape, Position}
use Rattle.condition.specs.Condition.{idle, well_formed}
use Rattle.condition.specs.Set.{with_cursor, with_cell, with_scrolling, with_pending, go_to}
use Rattle.condition.specs.Bytes.{left_of, right_of, down_of, return_of, write_of, control_of, escape_of, position_of}
use Rattle.condition.specs.Bytes.{is_char, step_at, step_of, run_of}
use Rattle.condition.specs.Steps.{is_move, step_byte, low_after, owed, next_byte, in_order}
use Rattle.condition.proofs.Characters.{no-user}
use Rattle.condition.proofs.Good.{idle-is, good}
use Rattle.condition.proofs.Kept.{scroll-off}
use Rattle.moves.specs.Moves.{any, left, next, down, moves, move}
use Rattle.moves.specs.Ways.{Jump, none, escape, place, path, leads_to, at_most}
use Rattle.moves.proofs.Moving.{each-move, move-below}
use Rattle.moves.proofs.Strings.{shortest}

-- a condition from which moves start
pub record Ready (c : Condition) : Type 0 where
  pub one : c.mode ≡ 1
  pub still : c.scrolling ≡ false
  pub inside : c.cursor < 40
  pub whole : c.pending ≡ Nothing

-- a well-formed condition in mode 1 with nothing half received is one
pub ready : (c : Condition) → well_formed c ≡ true → c.mode ≡ 1 → idle c.pending ≡ true → Ready c
ready c w m p =
    record {
      one = m;
      still = scroll-off c (good c w) (rw (ne_eqb c.mode 3 (λ e. omega arith)));
      inside = (good c w).cursor-40;
      whole = idle-is c.pending p;
    }

-- one condition or another, by where the cursor goes
place-by : (f : ℕ → Condition) (t : Bool) (x y : ℕ) → cond t (f x) (f y) ≡ f (cond t x y)
place-by f true x y = refl
place-by f false x y = refl

-- where scroll-on is off, ending it changes nothing
go-is : (c : Condition) (x : ℕ) → c.scrolling ≡ false → go_to c x ≡ with_cursor c x
go-is c x e = λ i. with_scrolling (with_cursor c x) (sym e i)

next-is : (p : ℕ) → p < 40 → cond (ltb (p % 20) 19) (p + 1) (cond (eqb p 19) 20 0) ≡ next p
unfolding next
next-is p h =
    by_cases (ltb (p % 20) 19) (λ e. rw (e, lt-ltb p 39 (omega (arith, ltb-true (p % 20) 19 e))))
    (λ e.
    by_cases (eqb p 19) (λ z. rw (e, z, eqb-true p 19 z))
    (λ z. rw (e, z, le-ltb p 39 (omega (arith, ltb-false (p % 20) 19 e, eqb-false p 19 z)))))

pub right_is : (c : Condition) → c.mode ≡ 1 → c.cursor < 40 → right_of c ≡ with_cursor c (next c.cursor)
unfolding right_of
right_is c m h =
    rw (ne_eqb c.mode 3 (λ e. omega arith), eq-eqb c.mode 1 m)
    (rw (place-by (with_cursor c) (eqb c.cursor 19) 20 0)
    (place-by (with_cursor c) (ltb (c.cursor % 20) 19) (c.cursor + 1) (cond (eqb c.cursor 19) 20 0)
    ∙ ap (with_cursor c) (next-is c.cursor h)))

left_is : (c : Condition) → c.scrolling ≡ false → left_of c ≡ with_cursor c (left c.cursor)
unfolding left_of left
left_is c e = place-by (go_to c) (eqb (c.cursor % 20) 0) c.cursor (c.cursor - 1) ∙ go-is c _ e

down_is : (c : Condition) → c.mode ≡ 1 → c.scrolling ≡ false → down_of c ≡ with_cursor c (down c.cursor)
unfolding down_of down
down_is c m e = rw (eq-eqb c.mode 1 m) (place-by (go_to c) (ltb c.cursor 20) (c.cursor + 20) (c.cursor - 20) ∙ go-is c _ e)

start_is : (c : Condition) → c.scrolling ≡ false → return_of c ≡ with_cursor c (line_start c.cursor)
unfolding return_of
start_is c e = go-is c (line_start c.cursor) e

module _ (c : Condition) (r : Ready c) where
  -- a byte that is no character is a control
  control : (b : ℕ) → is_user c.users b ≡ false → leb 0x20 b ≡ false → step_of c b ≡ control_of c b
  unfolding step_at is_char
  control b u l = rw (r.whole, u, l)

  -- a one-byte move
  pub moves-to : (m : ℕ) → any (eqb m) moves ≡ true → is_user c.users m ≡ false → step_of c m ≡ with_cursor c (move m c.cursor)
  unfolding move control_of
  moves-to =
      each-move (λ m. is_user c.users m ≡ false → step_of c m ≡ with_cursor c (move m c.cursor))
      (λ u. control 0x08 u refl ∙ left_is c r.still)
      (λ u. control 0x09 u refl ∙ right_is c r.one r.inside)
      (λ u. control 0x0a u refl ∙ down_is c r.one r.still)
      (λ u. control 0x0c u refl ∙ go-is c 0 r.still)
      (λ u. control 0x0d u refl ∙ start_is c r.still)

  -- 1Bh
  pub escapes : is_user c.users 0x1b ≡ false → step_of c 0x1b ≡ with_pending c Escape
  unfolding control_of
  escapes u = control 0x1b u refl

  -- a character write
  pub writes : (b : ℕ) → is_char c b ≡ true → step_of c b ≡ with_cursor (with_cell c c.cursor b) (next c.cursor)
  unfolding step_at write_of
  writes b e =
      ap (λ (p : Pending). step_at p c b) r.whole
      ∙ rw (e, ne_eqb c.mode 3 (λ z. omega (arith, r.one))) (right_is (with_cell c c.cursor b) r.one r.inside)

-- 1Bh 48h p, the cursor at p
pub placed : (c : Condition) (p : ℕ) → c.scrolling ≡ false → p < 40
    → step_of (with_pending c Position) p ≡ with_cursor (with_pending c Nothing) p
unfolding step_at position_of
placed c p e h = rw (le-leb p 0x27 (omega arith)) (go-is (with_pending c Nothing) p e)

pub is-move : (b : ℕ) → is_move b ≡ any (eqb b) moves
unfolding is_move
is-move b = simp (or_assoc, or-false)

-- Whole strings of moves -----------------------------------------------------------------------------------------------------

abbrev pending_at : Jump → Pending
pending_at none = Nothing
pending_at escape = Escape
pending_at place = Position

-- c after a part of 1Bh 48h p, with the cursor at a
abbrev partly : Condition → Jump → ℕ → Condition
partly c k a = with_pending (with_cursor c a) (pending_at k)

partly-ready : (c : Condition) (a : ℕ) → Ready c → a < 40 → Ready (partly c none a)
partly-ready c a r h = record { one = r.one; still = r.still; inside = h; whole = refl }

-- a string of moves that leads from a to b brings the cursor there, and changes nothing else
module _ (c : Condition) (r : Ready c) (free : (m : ℕ) → any (eqb m) moves ≡ true → is_user c.users m ≡ false)
    (free1b : is_user c.users 0x1b ≡ false) where
  leads-there : (bs : List ℕ) (k : Jump) (a b : ℕ) → a < 40 → leads_to k a b bs ≡ true → run_of (partly c k a) bs ≡ partly c none b
  unfolding run_of leads_to escape_of step_at
  leads-there [] none a b h l = ap (partly c none) (eqb-true a b l)
  leads-there [] escape a b h l = clash l refl
  leads-there [] place a b h l = clash l refl
  leads-there (x ∷ xs) none a b h l =
      let d = partly c none a in
      let g = partly-ready c a r h in
      by_cases (eqb x 0x1b)
      (λ e.
      ap (λ (d : Condition). run_of d xs) (ap (step_of d) (eqb-true x 0x1b e) ∙ escapes d g free1b)
      ∙ leads-there xs escape a b h (rw e at l))
      (λ e. let o = rw e at l in
      let i : any (eqb x) moves ≡ true = (both (any (eqb x) moves) _ o).0 in
      ap (λ (d : Condition). run_of d xs) (moves-to d g x i (free x i))
      ∙ leads-there xs none (move x a) b (move-below x a h) (both (any (eqb x) moves) _ o).1)
  leads-there (x ∷ xs) escape a b h l =
      ap (λ (d : Condition). run_of d xs) (ap (step_of (partly c escape a)) (eqb-true x 0x48 (both (eqb x 0x48) _ l).0))
      ∙ leads-there xs place a b h (both (eqb x 0x48) _ l).1
  leads-there (x ∷ xs) place a b h l =
      let z : x < 40 = (let k = leb-true x 0x27 (both (leb x 0x27) _ l).0 in omega arith) in
      ap (λ (d : Condition). run_of d xs) (placed (with_cursor c a) x r.still z)
      ∙ leads-there xs none x b z (both (leb x 0x27) _ l).1

-- In the words of the condition's own definitions ----------------------------------------------------------------------------

-- a one-byte move of a well-formed condition in mode 1, nothing half received and no user character on the byte
pub move-law : (c : Condition) (m : ℕ) → well_formed c ≡ true → c.mode ≡ 1 → idle c.pending ≡ true → is_user c.users m ≡ false
    → is_move m ≡ true → step_of c m ≡ with_cursor c (move m c.cursor)
move-law c m w one p u i = moves-to c (ready c w one p) m (sym (is-move m) ∙ i) u

-- a string of moves, where no user character sits on a byte that moves
pub string-law : (c : Condition) (bs : List ℕ) (b : ℕ) → well_formed c ≡ true → c.mode ≡ 1 → idle c.pending ≡ true
    → ((m : ℕ) → any (eqb m) moves ≡ true → is_user c.users m ≡ false) → is_user c.users 0x1b ≡ false
    → leads_to none c.cursor b bs ≡ true → run_of c bs ≡ with_cursor c b
string-law c bs b w one p free free1b l =
    let r = ready c w one p in
    ap (λ (d : Condition). run_of d bs) (λ i. with_pending c (r.whole i))
    ∙ leads-there c r free free1b bs none c.cursor b r.inside l
    ∙ (λ i. with_pending (with_cursor c b) (sym r.whole i))

-- what is shown of a condition, shown of one that is the same
carried : (k : Jump) (a : ℕ) (xs : List ℕ) {d e : Condition} → d ≡ e
    → (in_order false false e 40 xs ≡ true → leads_to k a (run_of e xs).cursor xs ≡ true)
    → in_order false false d 40 xs ≡ true → leads_to k a (run_of d xs).cursor xs ≡ true
carried k a xs n f o =
    subst (λ (e : Condition). leads_to k a (run_of e xs).cursor xs ≡ true) (sym n)
    (f (subst (λ (e : Condition). in_order false false e 40 xs ≡ true) n o))

-- The other way round: a string of the planner's steps that writes nothing is a string of moves. No cell is at 40, so where no cell
-- below 40 may be written a string in order has no write.
leads-back : (c : Condition) → Ready c → (bs : List ℕ) (k : Jump) (a : ℕ) → a < 40
    → in_order false false (partly c k a) 40 bs ≡ true
    → leads_to k a (run_of (partly c k a) bs).cursor bs ≡ true
unfolding run_of leads_to owed next_byte in_order step_byte low_after escape_of step_at is_char
leads-back c r [] none a h o = eq-eqb a a refl
leads-back c r [] escape a h o = clash o refl
leads-back c r [] place a h o = clash o refl
leads-back c r (x ∷ xs) none a h o =
    let d = partly c none a in
    let may = (both (next_byte false false d 40 x) _ o).0 in
    let rest = (both (next_byte false false d 40 x) (in_order false false (step_of d x) (low_after d 40 x) xs) o).1 in
    by_cases (is_char c x)
    (λ e. let l : 40 ≤ a = leb-true 40 a (rw e at may) in absurd (omega arith))
    (λ e. let m : (is_move x || eqb x 0x1b) ≡ true = rw e at may in
    let low : low_after d 40 x ≡ 40 = rw e in
    let on = subst (λ (n : ℕ). in_order false false (step_of d x) n xs ≡ true) low rest in
    let u = no-user c x e in
    by_cases (eqb x 0x1b)
    (λ z. let q : x ≡ 0x1b = eqb-true x 0x1b z in
    let n = ap (step_of d) q ∙ escapes d (partly-ready c a r h) (ap (is_user c.users) (sym q) ∙ u) in
    rw z (carried escape a xs n (leads-back c r xs escape a h) on))
    (λ z. let i : any (eqb x) moves ≡ true = sym (is-move x) ∙ (rw (z, or-false) at m) in
    let n = moves-to d (partly-ready c a r h) x i u in
    rw (z, i) (carried none (move x a) xs n (leads-back c r xs none (move x a) (move-below x a h)) on)))
leads-back c r (x ∷ xs) escape a h o =
    let e = (both (eqb x 0x48) _ o).0 in
    let n = ap (step_of (partly c escape a)) (eqb-true x 0x48 e) in
    rw e (carried place a xs n (leads-back c r xs place a h) (both (eqb x 0x48) _ o).1)
leads-back c r (x ∷ xs) place a h o =
    let e = (both (leb x 0x27) _ o).0 in
    let z : x < 40 = (let k = leb-true x 0x27 e in omega arith) in
    let n = placed (with_cursor c a) x r.still z in
    rw e (carried none x xs n (leads-back c r xs none x z) (both (leb x 0x27) _ o).1)

pub writeless : (c : Condition) (bs : List ℕ) → Ready c → in_order false false c 40 bs ≡ true
    → leads_to none c.cursor (run_of c bs).cursor bs ≡ true
writeless c bs r o =
    carried none c.cursor bs (λ i. with_pending c (r.whole i)) (leads-back c r bs none c.cursor r.inside) o

-- so, of all strings of the planner's steps that write nothing and bring the cursor to b, none is shorter than its way, and none of
-- that length is smaller
pub way-law : (c : Condition) (bs : List ℕ) (b : ℕ) → Ready c → b < 40 → in_order false false c 40 bs ≡ true
    → (run_of c bs).cursor ≡ b
    → (length (path c.cursor b) ≤ length bs) × (length bs ≡ length (path c.cursor b) → at_most (path c.cursor b) bs ≡ true)
way-law c bs b r h o e =
    let l = subst (λ (p : ℕ). leads_to none c.cursor p bs ≡ true) e (writeless c bs r o) in
    let w = shortest c.cursor b h in
    (w.fewest bs l, w.smallest bs l)

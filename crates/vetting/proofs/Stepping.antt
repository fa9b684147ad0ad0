-- One step of a string is the module's: what the planner's steps do where nothing is half received, in mode 1.
use Prim.Native.Nat.{ℕ, zero, suc, ◌+◌, ◌≤◌, ◌<◌}
use mathlib.Core.Path.{◌≡◌, refl, sym, ap, ◌∙◌, subst}
use mathlib.Core.Bool.{Bool, true, false, not, ◌&&◌, ◌||◌}
use mathlib.Core.List.{List, [], ◌∷◌}
use native.Mathlib.Omega.{arith}
use lib.Dec.{eqb, leb}
use lib.ListN.{length, get_or, take, drop, set}
use borrow.Author.Tests.{eqb-true, le-leb, lt-leb, leb-true}
use Rattle.laws.proofs.Tests.{by_cases, clash, both}
use Rattle.users.specs.Users.{is_user, found_in}
use Rattle.index.proofs.Entries.{index_at, looked-up}
use Rattle.condition.specs.declared.Condition.{Condition}
use Rattle.condition.specs.declared.Pending.TheVariants.{Nothing, Escape}
use Rattle.condition.specs.Set.{with_cells, with_cursor, with_pending}
use Rattle.condition.specs.Bytes.{is_char, escape_of, step_at, step_of, run_of}
use Rattle.condition.specs.Steps.{is_move, step_byte, low_after, owed, next_byte, in_order}
use Rattle.condition.proofs.Characters.{no-user}
use Rattle.condition.proofs.Good.{Indexed}
use Rattle.moves.specs.Moves.{any, moves, move, next}
use Rattle.moves.proofs.Moving.{next-below, move-below}
use Rattle.moves.proofs.Interpreter.{Ready, moves-to, escapes, writes, placed, is-move}
use Rattle.vetting.specs.declared.steps.Moved.{Moved}
use Rattle.vetting.specs.Steps.{char_in, is_jump, move_of}

-- The move that is read at the start of a string ------------------------------------------------------------------------------

-- what is no whole jump
no-jump : (s : List ℕ) → (3 ≤ length s → get_or s 0 0 ≡ 0x1b → get_or s 1 0 ≡ 0x48 → get_or s 2 0 ≤ 0x27 → ⊥) → is_jump s ≡ false
unfolding is_jump
no-jump s h =
    by_cases (is_jump s)
    (λ j.
    let long = both (leb 3 (length s)) (eqb (get_or s 0 0) 0x1b && eqb (get_or s 1 0) 0x48 && leb (get_or s 2 0) 0x27) j in
    let first = both (eqb (get_or s 0 0) 0x1b && eqb (get_or s 1 0) 0x48) (leb (get_or s 2 0) 0x27) long.1 in
    let two = both (eqb (get_or s 0 0) 0x1b) (eqb (get_or s 1 0) 0x48) first.0 in
    absurd (h (leb-true 3 (length s) long.0) (eqb-true _ 0x1b two.0) (eqb-true _ 0x48 two.1) (leb-true _ 0x27 first.1)))
    (λ j. j)

module _ (s : List ℕ) (p : ℕ) where
  pub reads-move : any (eqb (get_or s 0 0)) moves ≡ true → (q : ℕ) → q ≡ move (get_or s 0 0) p
      → record { bytes = 1; to = q } ≡ move_of s p
  unfolding move_of
  reads-move m q e = rw (e, m)

  pub reads-jump : any (eqb (get_or s 0 0)) moves ≡ false → 3 ≤ length s → get_or s 0 0 ≡ 0x1b → get_or s 1 0 ≡ 0x48
      → get_or s 2 0 ≤ 0x27
      → record { bytes = 3; to = get_or s 2 0 } ≡ move_of s p
  unfolding move_of is_jump
  reads-jump m l a b d =
      let j : is_jump s ≡ true = rw (le-leb 3 (length s) l, a, b, le-leb (get_or s 2 0) 0x27 d) in
      rw (m, j)

  pub reads-none : any (eqb (get_or s 0 0)) moves ≡ false
      → (3 ≤ length s → get_or s 0 0 ≡ 0x1b → get_or s 1 0 ≡ 0x48 → get_or s 2 0 ≤ 0x27 → ⊥)
      → (move_of s p).bytes ≡ 0
  unfolding move_of
  reads-none m h = rw (m, no-jump s h)

-- of no byte there is none
pub reads-nothing : (s : List ℕ) (p : ℕ) → length s < 1 → (move_of s p).bytes ≡ 0
unfolding move_of is_jump
reads-nothing [] p h = refl
reads-nothing (b ∷ bs) p h = absurd (omega arith)

-- a whole jump is these bytes
jump-is : (s : List ℕ) → is_jump s ≡ true → (s ≡ 0x1b ∷ 0x48 ∷ get_or s 2 0 ∷ drop 3 s) × (get_or s 2 0 ≤ 0x27)
unfolding is_jump
jump-is [] e = clash e refl
jump-is (b ∷ []) e = clash e refl
jump-is (b ∷ x ∷ []) e = clash e refl
jump-is (b ∷ x ∷ y ∷ bs) e =
    let t = (both (leb 3 (suc (suc (suc (length bs))))) (eqb b 0x1b && eqb x 0x48 && leb y 0x27) e).1 in
    let first = both (eqb b 0x1b && eqb x 0x48) (leb y 0x27) t in
    let two = both (eqb b 0x1b) (eqb x 0x48) first.0 in
    (rw (eqb-true b 0x1b two.0, eqb-true x 0x48 two.1), leb-true y 0x27 first.1)

-- the characters, by the index
pub char_is : (c : Condition) (b : ℕ) → Indexed c → b < 256 → char_in c.index b ≡ is_char c b
unfolding char_in is_char is_user
char_is c b x h =
    ap (λ (t : Bool). t || leb 0x20 b)
    (ap (λ (l : List ℕ). not (eqb (get_or l b 0) 0)) x
    ∙ ap (λ (n : ℕ). not (eqb n 0)) (index_at 256 c.users.bytes c.users.count b h)
    ∙ looked-up (found_in c.users.bytes c.users.count b))

-- c with other cells and another cursor, nothing half received: all that steps can change
abbrev pub standing : Condition → ℕ → List ℕ → List ℕ → Condition
standing c p cs fs = with_pending (with_cursor (with_cells c cs fs) p) Nothing

-- the bytes are whole steps from there, that write no cell below lo
abbrev pub goes_on : Condition → ℕ → ℕ → List ℕ → List ℕ → List ℕ → Bool
goes_on c p lo cs fs bs = in_order false c.euro (standing c p cs fs) lo bs

-- n bytes of s are a step: what comes after them goes on from another place, with another lowest cell and other cells
pub record Went (c : Condition) (s : List ℕ) (p lo : ℕ) (cs fs : List ℕ) (n p' lo' : ℕ) (cs' fs' : List ℕ) : Type 0 where
  pub long : n ≤ length s
  pub inside : p' < 40
  pub steps : (k : ℕ) → goes_on c p lo cs fs (take (n + k) s) ≡ goes_on c p' lo' cs' fs' (take k (drop n s))
  pub left : run_of (standing c p cs fs) s ≡ run_of (standing c p' cs' fs') (drop n s)

-- the first byte of s is not a step, nor the start of one
abbrev pub Stuck : Condition → List ℕ → ℕ → ℕ → List ℕ → List ℕ → Type 0
Stuck c s p lo cs fs = (k : ℕ) → goes_on c p lo cs fs (take (suc k) s) ≡ false

pub one_more : (k : ℕ) → 1 + k ≡ suc k
one_more k = omega arith

three-more : (k : ℕ) → 3 + k ≡ suc (suc (suc k))
three-more k = omega arith

module _ (c : Condition) (r : Ready c) (p lo : ℕ) (h : p < 40) (cs fs : List ℕ) where
  abbrev here : Condition
  here = standing c p cs fs

  ready-here : Ready here
  ready-here = record { one = r.one; still = r.still; inside = h; whole = refl }

  -- a character write
  writes-on : (b : ℕ) → is_char c b ≡ true → step_of here b ≡ standing c (next p) (set cs p b) (set fs p c.font)
  unfolding is_char
  writes-on b e = writes here ready-here b e

  written : (b : ℕ) (bs : List ℕ) → is_char c b ≡ true
      → goes_on c p lo cs fs (b ∷ bs) ≡ (leb lo p && goes_on c (next p) (p + 1) (set cs p b) (set fs p c.font) bs)
  unfolding in_order next_byte owed step_byte low_after is_char
  written b bs e = rw (writes-on b e, e)

  -- a one-byte move
  moved : (b : ℕ) (bs : List ℕ) → is_char c b ≡ false → any (eqb b) moves ≡ true
      → goes_on c p lo cs fs (b ∷ bs) ≡ goes_on c (move b p) lo cs fs bs
  unfolding in_order next_byte owed step_byte low_after is_char
  moved b bs e m = rw (moves-to here ready-here b m (no-user c b e), e, is-move b, m)

  -- 1Bh, where it is no user code: 48h and a place that is there have to follow
  escaped : (bs : List ℕ) → is_char c 0x1b ≡ false
      → goes_on c p lo cs fs (0x1b ∷ bs) ≡ in_order false c.euro (with_pending here Escape) lo bs
  unfolding in_order next_byte owed step_byte low_after is_move is_char
  escaped bs e = rw (escapes here ready-here (no-user c 0x1b e), e)

  jumped : (x y : ℕ) (bs : List ℕ) → is_char c 0x1b ≡ false
      → goes_on c p lo cs fs (0x1b ∷ x ∷ y ∷ bs) ≡ (eqb x 0x48 && (leb y 0x27 && goes_on c y lo cs fs bs))
  unfolding in_order next_byte owed step_byte low_after escape_of step_at
  jumped x y bs e =
      escaped (x ∷ y ∷ bs) e
      ∙ by_cases (eqb x 0x48)
      (λ k. rw (k, eqb-true x 0x48 k)
      (by_cases (leb y 0x27)
      (λ l. rw (l, placed (with_cursor (with_cells c cs fs) p) y r.still (omega (arith, leb-true y 0x27 l))))
      (λ l. rw l)))
      (λ k. rw k)

  -- any other byte
  pub stopped : (b : ℕ) (bs : List ℕ) → is_char c b ≡ false → any (eqb b) moves ≡ false → eqb b 0x1b ≡ false
      → goes_on c p lo cs fs (b ∷ bs) ≡ false
  unfolding in_order next_byte owed step_byte is_char
  stopped b bs e m z = rw (e, is-move b, m, z)

  -- Writes ------------------------------------------------------------------------------------------------------------------

  pub write-went : (b : ℕ) (bs : List ℕ) → is_char c b ≡ true → lo ≤ p
      → Went c (b ∷ bs) p lo cs fs 1 (next p) (p + 1) (set cs p b) (set fs p c.font)
  unfolding run_of
  write-went b bs e l =
      record {
        long = omega arith;
        inside = next-below p h;
        steps = λ k. ap (λ (n : ℕ). goes_on c p lo cs fs (take n (b ∷ bs))) (one_more k) ∙ written b (take k bs) e
            ∙ rw (le-leb lo p l);
        left = ap (λ (d : Condition). run_of d bs) (writes-on b e);
      }

  pub write-stuck : (b : ℕ) (bs : List ℕ) → is_char c b ≡ true → p < lo → Stuck c (b ∷ bs) p lo cs fs
  write-stuck b bs e l k = written b (take k bs) e ∙ rw (lt-leb lo p l)

  -- Moves -------------------------------------------------------------------------------------------------------------------

  move-went : (b : ℕ) (bs : List ℕ) → is_char c b ≡ false → any (eqb b) moves ≡ true
      → Went c (b ∷ bs) p lo cs fs 1 (move b p) lo cs fs
  unfolding run_of
  move-went b bs e m =
      record {
        long = omega arith;
        inside = move-below b p h;
        steps = λ k. ap (λ (n : ℕ). goes_on c p lo cs fs (take n (b ∷ bs))) (one_more k) ∙ moved b (take k bs) e m;
        left = ap (λ (d : Condition). run_of d bs) (moves-to here ready-here b m (no-user c b e));
      }

  jump-went : (y : ℕ) (bs : List ℕ) → is_char c 0x1b ≡ false → y ≤ 0x27 → Went c (0x1b ∷ 0x48 ∷ y ∷ bs) p lo cs fs 3 y lo cs fs
  unfolding run_of escape_of step_at
  jump-went y bs e l =
      record {
        long = omega arith;
        inside = omega arith;
        steps = λ k. ap (λ (n : ℕ). goes_on c p lo cs fs (take n (0x1b ∷ 0x48 ∷ y ∷ bs))) (three-more k)
            ∙ jumped 0x48 y (take k bs) e ∙ rw (le-leb y 0x27 l);
        left = ap (λ (d : Condition). run_of d (0x48 ∷ y ∷ bs)) (escapes here ready-here (no-user c 0x1b e))
            ∙ ap (λ (d : Condition). run_of d bs) (placed (with_cursor (with_cells c cs fs) p) y r.still (omega arith));
      }

  -- a jump that is not whole: cut off, or with other bytes behind 1Bh
  cut : (x : ℕ) → in_order false c.euro (with_pending here Escape) lo (x ∷ []) ≡ false
  unfolding in_order next_byte owed step_byte escape_of step_at
  cut x = by_cases (eqb x 0x48) (λ k. rw (k, eqb-true x 0x48 k)) (λ k. rw k)

  jump-stuck : (bs : List ℕ) → is_char c 0x1b ≡ false → is_jump (0x1b ∷ bs) ≡ false → Stuck c (0x1b ∷ bs) p lo cs fs
  unfolding in_order is_jump
  jump-stuck bs e j zero = escaped [] e
  jump-stuck [] e j (suc k) = escaped [] e
  jump-stuck (x ∷ bs) e j (suc zero) = escaped (x ∷ []) e ∙ cut x
  jump-stuck (x ∷ []) e j (suc (suc k)) = escaped (x ∷ []) e ∙ cut x
  jump-stuck (x ∷ y ∷ bs) e j (suc (suc k)) =
      let both-not : (eqb x 0x48 && leb y 0x27) ≡ false = rw (le-leb 3 (suc (suc (suc (length bs)))) (omega arith)) at j in
      jumped x y (take k bs) e
      ∙ by_cases (eqb x 0x48) (λ k. let l : leb y 0x27 ≡ false = rw k at both-not in rw (k, l)) (λ k. rw k)

  -- the move that is read at the start of a string
  module _ (b : ℕ) (bs : List ℕ) (e : is_char c b ≡ false) where
    went-by : {m : Moved} (x : Moved) → m ≡ x → Went c (b ∷ bs) p lo cs fs x.bytes x.to lo cs fs
        → Went c (b ∷ bs) p lo cs fs m.bytes m.to lo cs fs
    went-by x q w = rw q w

    whole-jump : is_jump (b ∷ bs) ≡ true → Went c (b ∷ bs) p lo cs fs 3 (get_or (b ∷ bs) 2 0) lo cs fs
    whole-jump j =
        let i = jump-is (b ∷ bs) j in
        let y : ℕ = get_or (b ∷ bs) 2 0 in
        let e1b : is_char c 0x1b ≡ false = ap (λ (s : List ℕ). is_char c (get_or s 0 0)) (sym i.0) ∙ e in
        subst (λ (s : List ℕ). Went c s p lo cs fs 3 y lo cs fs) (sym i.0) (jump-went y (drop 3 (b ∷ bs)) e1b i.1)

    pub read-went : (m : Moved) → m ≡ move_of (b ∷ bs) p → (m.bytes ≡ 0 → ⊥)
        → Went c (b ∷ bs) p lo cs fs m.bytes m.to lo cs fs
    unfolding move_of
    read-went m q z =
        by_cases (any (eqb b) moves)
        (λ a. went-by (record { bytes = 1; to = move b p }) (q ∙ rw a) (move-went b bs e a))
        (λ a.
        by_cases (is_jump (b ∷ bs))
        (λ j. went-by (record { bytes = 3; to = get_or (b ∷ bs) 2 0 }) (q ∙ rw (a, j)) (whole-jump j))
        (λ j. let n : m.bytes ≡ 0 = ap (λ (x : Moved). x.bytes) q ∙ rw (a, j) in absurd (z n)))

    pub read-stuck : (m : Moved) → m ≡ move_of (b ∷ bs) p → m.bytes ≡ 0 → Stuck c (b ∷ bs) p lo cs fs
    unfolding move_of
    read-stuck m q z =
        by_cases (any (eqb b) moves)
        (λ a. let n : m.bytes ≡ 1 = ap (λ (x : Moved). x.bytes) q ∙ rw a in absurd (omega arith))
        (λ a.
        by_cases (is_jump (b ∷ bs))
        (λ j. let n : m.bytes ≡ 3 = ap (λ (x : Moved). x.bytes) q ∙ rw (a, j) in absurd (omega arith))
        (λ j.
        by_cases (eqb b 0x1b)
        (λ y.
        subst (λ (x : ℕ). is_char c x ≡ false → is_jump (x ∷ bs) ≡ false → Stuck c (x ∷ bs) p lo cs fs) (sym (eqb-true b 0x1b y))
        (jump-stuck bs) e j)
        (λ y k. stopped b (take k bs) e a y)))

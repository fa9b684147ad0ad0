-- A string, gone through a step at a time: how far it is permitted, and where it leads.
use Prim.Native.Nat.{ℕ, zero, suc, ◌+◌, ◌-◌, ◌≤◌, ◌<◌}
use mathlib.Core.Path.{◌≡◌, refl, sym, ap, ◌∙◌, subst}
use mathlib.Core.Bool.{Bool, true, false, not, ◌&&◌, and-true, and-false, or-false}
use mathlib.Core.List.{List, [], ◌∷◌}
use native.Mathlib.Nat.{zero-add}
use native.Mathlib.Omega.{arith}
use lib.Dec.{eqb}
use lib.ListN.{length, get_or, take, drop, set, replicate, length-drop, length-set, length-replicate}
use lib.Seq.{take_all, drop-cons, drop-drop, drop-length}
use mir.Val.{bool_byte}
use borrow.Author.Tests.{eq-eqb, eqb-true, lt-ltb, not-true}
use Rattle.laws.proofs.Lists.{tail-part}
use Rattle.laws.proofs.Tests.{by_cases, by_equal, clash, both}
use Rattle.users.specs.Users.{is_user}
use Rattle.condition.specs.declared.Condition.{Condition}
use Rattle.condition.specs.Condition.{idle}
use Rattle.condition.specs.Set.{with_cells, with_scrolling, with_pending}
use Rattle.condition.specs.Bytes.{is_char, clear_of, run_of}
use Rattle.condition.specs.Steps.{owed, in_order, reading_order, clear_byte, either_start}
use Rattle.condition.proofs.Characters.{no_char, no-user}
use Rattle.condition.proofs.Good.{Indexed, good}
use Rattle.moves.specs.Moves.{next}
use Rattle.moves.proofs.Interpreter.{Ready}
use Rattle.planner.specs.Plan.{flagged}
use Rattle.planner.specs.Fonts.{wrong_cell}
use Rattle.planner.specs.Clear.{start_of, either_plan}
use Rattle.planner.specs.Answer.{plan_refusal}
use Rattle.planner.proofs.Refusals.{accepted}
use Rattle.planner.proofs.Clear.{clears, clear-byte}
use Rattle.vetting.specs.Verdicts.{Verdict, Byte}
use Rattle.vetting.specs.declared.steps.Moved.{Moved}
use Rattle.vetting.specs.Steps.{char_in, clears_first, clears_in, move_of}
use Rattle.vetting.specs.Vetting.{permitted, longest, wrong_after, picture_verdict, excess_over, judged_of}
use Rattle.vetting.proofs.Stepping.{char_is, standing, goes_on, Went, Stuck, one_more, stopped}
use Rattle.vetting.proofs.Stepping.{write-went, write-stuck, read-went, read-stuck}

-- The first i bytes of the string are whole steps, which lead to the place p and to these cells; no cell below lo is written any
-- more. So every longer beginning is permitted where the rest of it goes on from there
pub record Reached (c : Condition) (string : List ℕ) (i p lo : ℕ) (cs fs : List ℕ) : Type 0 where
  pub upto : i ≤ length string
  pub inside : p < 40
  pub steps : (k : ℕ) → permitted c (take (i + k) string) ≡ goes_on c p lo cs fs (take k (drop i string))
  pub left : run_of c string ≡ run_of (standing c p cs fs) (drop i string)

module _ {c : Condition} {string : List ℕ} {i p lo : ℕ} {cs fs : List ℕ} (v : Reached c string i p lo cs fs) where
  -- one step more
  pub turn : {n p' lo' : ℕ} {cs' fs' : List ℕ} → Went c (drop i string) p lo cs fs n p' lo' cs' fs'
      → Reached c string (i + n) p' lo' cs' fs'
  turn {n} {p'} {lo'} {cs'} {fs'} w =
      record {
        upto = omega (arith, w.long, length-drop i string);
        inside = w.inside;
        steps = λ k. ap (λ (m : ℕ). permitted c (take m string)) (shift k) ∙ v.steps (n + k) ∙ w.steps k
            ∙ ap (λ (l : List ℕ). goes_on c p' lo' cs' fs' (take k l)) (drop-drop n i string);
        left = v.left ∙ w.left ∙ ap (run_of (standing c p' cs' fs')) (drop-drop n i string);
      }
    where
      shift : (k : ℕ) → i + n + k ≡ i + (n + k)
      shift k = omega arith

  -- Where it stops ------------------------------------------------------------------------------------------------------------

  -- what was gone through is permitted
  so_far : permitted c (take i string) ≡ true
  unfolding in_order owed
  so_far = ap (λ (m : ℕ). permitted c (take m string)) (none i) ∙ v.steps zero
    where
      none : (i : ℕ) → i ≡ i + zero
      none i = omega arith

  module _ (s : Stuck c (drop i string) p lo cs fs) where
    -- and nothing longer
    no_longer : (m : ℕ) → i < m → permitted c (take m string) ≡ false
    no_longer m l =
        let k : ℕ = m - i - 1 in
        let e : m ≡ i + suc k = omega arith in
        ap (λ (m : ℕ). permitted c (take m string)) e ∙ v.steps (suc k) ∙ s k

    longest-is : (n : ℕ) → i ≤ n → longest c string n ≡ i
    unfolding longest
    longest-is zero l = omega arith
    longest-is (suc n) l =
        by_equal i (suc n) (λ e. let t : permitted c (take (suc n) string) ≡ true = subst
        (λ (m : ℕ). permitted c (take m string) ≡ true) e so_far in rw t (sym e))
        (λ d. rw (no_longer (suc n) (omega arith)) (longest-is n (omega arith)))

    pub stops : (wanted : List ℕ) (asked : ℕ) → i < length string → Byte i ≡ judged_of c wanted asked string
    unfolding judged_of
    stops wanted asked l =
        let t : permitted c string ≡ false =
        ap (permitted c) (sym (take_all (length string) string (omega arith))) ∙ no_longer (length string) l in
        rw (t, longest-is (length string) v.upto)

  -- Where it ends -------------------------------------------------------------------------------------------------------------

  pub ends : (wanted : List ℕ) (asked : ℕ) → length string ≤ i
      → picture_verdict (flagged (λ j. wrong_cell (get_or cs j 0) (get_or fs j 0) (get_or wanted j 0) c.font) 40 0) (eqb p asked)
      (excess_over c wanted asked string)
      ≡ judged_of c wanted asked string
  unfolding judged_of wrong_after run_of
  ends wanted asked l =
      let e : i ≡ length string = omega (arith, v.upto) in
      let t : permitted c string ≡ true = ap (permitted c) (sym (take_all i string l)) ∙ so_far in
      let d : run_of c string ≡ standing c p cs fs =
      v.left ∙ ap (run_of (standing c p cs fs)) (ap (λ (m : ℕ). drop m string) e ∙ drop-length string) in
      rw (t, d)

-- Where it starts -----------------------------------------------------------------------------------------------------------------

-- reading order from a condition as it is, and from it cleared
module _ (c : Condition) (r : Ready c) where
  standing-is : c ≡ standing c c.cursor c.codes c.fonts
  standing-is = λ i. with_pending c (r.whole i)

  cleared-is : clear_of c ≡ standing c c.cursor (clear_of c).codes (clear_of c).fonts
  unfolding clear_of
  cleared-is =
      λ i. with_pending (with_scrolling (with_cells c (replicate 40 0x20) (replicate 40 c.font)) (sym r.still i)) (r.whole i)

  order_is : (d : Condition) (bs : List ℕ) → d.mode ≡ 1 → d.euro ≡ c.euro → d ≡ standing c d.cursor d.codes d.fonts
      → reading_order false d bs ≡ goes_on c d.cursor 0 d.codes d.fonts bs
  unfolding reading_order
  order_is d bs one euro e =
      rw (eq-eqb d.mode 1 one)
      (ap (λ (m : Bool). in_order false m d 0 bs) euro ∙ ap (λ (x : Condition). in_order false c.euro x 0 bs) e)

  plain-order : (bs : List ℕ) → reading_order false c bs ≡ goes_on c c.cursor 0 c.codes c.fonts bs
  plain-order bs = order_is c bs r.one refl standing-is

  -- a string that does not begin with a clear is permitted where it is in reading order, and so is each of its beginnings
  no-clear : (string : List ℕ) → clears_first c string ≡ false → (k : ℕ)
      → permitted c (take k string) ≡ reading_order false c (take k string)
  unfolding either_start clears_first
  no-clear string e zero = refl
  no-clear [] e (suc k) = refl
  no-clear (b ∷ bs) e (suc k) = rw (e, or-false)

  -- one that does: 0Eh, and what is in reading order from the cleared condition
  module _ (bs : List ℕ) (u : is_user c.users 0x0e ≡ false) where
    clear-order : (k : ℕ) → permitted c (take (1 + k) (0x0e ∷ bs))
        ≡ goes_on c c.cursor 0 (clear_of c).codes (clear_of c).fonts (take k bs)
    unfolding either_start clear_of
    clear-order k =
        let n = stopped c r c.cursor 0 r.inside c.codes c.fonts 0x0e (take k bs) (no_char c 0x0e u (omega arith)) refl refl in
        ap (λ (m : ℕ). permitted c (take m (0x0e ∷ bs))) (one_more k)
        ∙ rw (plain-order (0x0e ∷ take k bs), n, clear-byte c r u, clears c r u)
        (order_is (clear_of c) (take k bs) r.one refl cleared-is)

    cleared-left : run_of c (0x0e ∷ bs) ≡ run_of (standing c c.cursor (clear_of c).codes (clear_of c).fonts) bs
    unfolding run_of
    cleared-left = ap (λ (d : Condition). run_of d bs) (clears c r u ∙ cleared-is)

    cleared : Reached c (0x0e ∷ bs) 1 c.cursor 0 (clear_of c).codes (clear_of c).fonts
    cleared = record { upto = omega arith; inside = r.inside; steps = clear-order; left = cleared-left }

  -- so, where the string starts
  pub starts : (clear : Bool) (string : List ℕ) → clear ≡ clears_first c string
      → Reached c string (bool_byte clear) c.cursor 0 (start_of clear c).codes (start_of clear c).fonts
  unfolding clears_first clear_byte
  starts true [] e = clash refl e
  starts true (b ∷ bs) e =
      let k = both (idle c.pending && not (is_char c b)) (eqb b 0x0e) (sym e) in
      let z : b ≡ 0x0e = eqb-true b 0x0e k.1 in
      let u = no-user c b (not-true (is_char c b) (both (idle c.pending) (not (is_char c b)) k.0).1) in
      subst (λ (x : ℕ). Reached c (x ∷ bs) 1 c.cursor 0 (clear_of c).codes (clear_of c).fonts) (sym z)
      (cleared bs (ap (is_user c.users) (sym z) ∙ u))
  starts false string e =
      record {
        upto = omega arith;
        inside = r.inside;
        steps = λ k. ap (λ (m : ℕ). permitted c (take m string)) (zero-add k) ∙ no-clear string (sym e) k
            ∙ plain-order (take k string);
        left = ap (λ (d : Condition). run_of d string) standing-is;
      }

-- What the loop keeps -------------------------------------------------------------------------------------------------------------

-- with the rows' lengths
pub record Judging (c : Condition) (string : List ℕ) (i p lo : ℕ) (cs fs : List ℕ) : Type 0 where
  pub reached : Reached c string i p lo cs fs
  pub codes-40 : length cs ≡ 40
  pub fonts-40 : length fs ≡ 40

-- where nothing is refused
module _ (c : Condition) (wanted : List ℕ) (asked : ℕ) (ok : plan_refusal c wanted asked 44 ≡ 0) where
  r : Ready c
  r = (accepted c wanted asked 44 ok).0.ready

  x : Indexed c
  x = (good c (accepted c wanted asked 44 ok).0.formed).indexed

  pub wanted-40 : length wanted ≡ 40
  wanted-40 = (accepted c wanted asked 44 ok).0.wanted-40

  -- its index tells whether the string begins with a clear
  clears-in : (string : List ℕ) → clears_in c.index string ≡ clears_first c string
  unfolding clears_in clears_first clear_byte
  clears-in [] = refl
  clears-in (b ∷ bs) =
      let i : idle c.pending ≡ true = ap idle r.whole in
      rw (i, char_is c 0x0e x (omega arith), lt-ltb 0 (suc (length bs)) (omega arith))
      (by_cases (eqb b 0x0e) (λ e. rw (e, eqb-true b 0x0e e, and-true)) (λ e. rw (e, and-false)))

  module _ {string : List ℕ} {i p lo : ℕ} {cs fs : List ℕ} (v : Judging c string i p lo cs fs) (l : i < length string)
      (small : get_or string i 0 < 256) where
    abbrev byte : ℕ
    byte = get_or string i 0

    abbrev behind : List ℕ
    behind = drop (suc i) string

    here : drop i string ≡ byte ∷ behind
    here = drop-cons string i 0 l

    -- what is lent to the reader of a move
    abbrev lent : List ℕ
    lent = take (length string - i) (drop i string)

    lent_is : {m : Moved} → m ≡ move_of lent p → m ≡ move_of (byte ∷ behind) p
    lent_is q = q ∙ ap (λ (s : List ℕ). move_of s p) (tail-part string i ∙ here)

    char : {t : Bool} → char_in c.index byte ≡ t → is_char c byte ≡ t
    char e = sym (char_is c byte x small) ∙ e

    at-hand : {n p' lo' : ℕ} {cs' fs' : List ℕ} → Went c (byte ∷ behind) p lo cs fs n p' lo' cs' fs'
        → Reached c string (i + n) p' lo' cs' fs'
    at-hand {n} {p'} {lo'} {cs'} {fs'} w =
        turn v.reached (subst (λ (s : List ℕ). Went c s p lo cs fs n p' lo' cs' fs') (sym here) w)

    pub write-turn : (p' : ℕ) (cs' fs' : List ℕ) → char_in c.index byte ≡ true → lo ≤ p → p' ≡ next p → cs' ≡ set cs p byte
        → fs' ≡ set fs p c.font → Judging c string (i + 1) p' (p + 1) cs' fs'
    write-turn p' cs' fs' e h ep ec ef =
        rw (ep, ec, ef)
        (record {
          reached = at-hand (write-went c r p lo v.reached.inside cs fs byte behind (char e) h);
          codes-40 = length-set cs p byte ∙ v.codes-40;
          fonts-40 = length-set fs p c.font ∙ v.fonts-40;
        })

    pub move-turn : (m : Moved) → char_in c.index byte ≡ false → m ≡ move_of lent p → (m.bytes ≡ 0 → ⊥)
        → Judging c string (i + m.bytes) m.to lo cs fs
    move-turn m e q z =
        record {
          reached =
              at-hand (read-went c r p lo v.reached.inside cs fs byte behind (char e) m (lent_is q) z);
          codes-40 = v.codes-40;
          fonts-40 = v.fonts-40;
        }

    stuck-here : Stuck c (byte ∷ behind) p lo cs fs → Byte i ≡ judged_of c wanted asked string
    stuck-here s = stops v.reached (subst (λ (s : List ℕ). Stuck c s p lo cs fs) (sym here) s) wanted asked l

    pub write-stop : char_in c.index byte ≡ true → p < lo → Byte i ≡ judged_of c wanted asked string
    write-stop e h = stuck-here (write-stuck c r p lo v.reached.inside cs fs byte behind (char e) h)

    pub move-stop : (m : Moved) → char_in c.index byte ≡ false → m ≡ move_of lent p → m.bytes ≡ 0
        → Byte i ≡ judged_of c wanted asked string
    move-stop m e q z =
        stuck-here
        (read-stuck c r p lo v.reached.inside cs fs byte behind (char e) m (lent_is q) z)

  -- the rows that it starts with
  started-40 : (clear : Bool) → length c.codes ≡ 40 → length c.fonts ≡ 40
      → (length (start_of clear c).codes ≡ 40) × (length (start_of clear c).fonts ≡ 40)
  unfolding clear_of
  started-40 true lc lf = (length-replicate {A = ℕ} 40 0x20, length-replicate 40 c.font)
  started-40 false lc lf = (lc, lf)

  -- the loop's start, by what the code has there
  pub judge-start : (string : List ℕ) (clear : Bool) (cs fs : List ℕ) → length c.codes ≡ 40 → length c.fonts ≡ 40
      → clear ≡ clears_in c.index string → cs ≡ (start_of clear c).codes → fs ≡ (start_of clear c).fonts
      → Judging c string (bool_byte clear) c.cursor 0 cs fs
  judge-start string clear cs fs lc lf e ec ef =
      rw (ec, ef)
      (record {
        reached = starts c r clear string (e ∙ clears-in string);
        codes-40 = (started-40 clear lc lf).0;
        fonts-40 = (started-40 clear lc lf).1;
      })

  -- and its end, with the verdict by what the code has there
  pub judge-end : {string : List ℕ} {i p lo : ℕ} {cs fs : List ℕ} → Judging c string i p lo cs fs → length string ≤ i
      → (least excess : ℕ) (verdict : Verdict) → least ≡ length (either_plan c wanted asked) → excess ≡ length string - least
      → verdict ≡ picture_verdict (flagged (λ j. wrong_cell (get_or cs j 0) (get_or fs j 0) (get_or wanted j 0) c.font) 40 0)
      (eqb p asked) excess
      → verdict ≡ judged_of c wanted asked string
  judge-end v l least excess verdict el ee e = e ∙ rw (ee, el) (ends v.reached wanted asked l)

-- What a refusal number says: 0 that the condition can be planned from, any other that nothing changes.
use mathlib.Core.Path.{◌≡◌, refl, sym, ap, ◌∙◌}
use mathlib.Core.Bool.{Bool, true, false, not, ◌&&◌, ◌||◌}
use mathlib.Core.List.{List, [], ◌∷◌}
use Prim.Native.Nat.{ℕ, zero, suc, ◌≤◌, ◌<◌}
use native.Mathlib.Omega.{arith}
use lib.Dec.{eqb, ltb, leb}
use lib.ListN.{length, get_or, replicate, length-replicate}
use lib.Seq.{take-append_seam}
use Rattle.std.specs.Prelude.{Result, Ok, Err}
use borrow.Author.Tests.{eqb-true, ne_eqb, ltb-false, le-ltb, leb-true, not-false}
use Rattle.laws.proofs.Tests.{by_cases, clash, both, neither, passed}
use Rattle.refusals.specs.declared.Refusal.{Refusal}
use Rattle.refusals.specs.Refusals.{number_of}
use Rattle.refusals.proofs.Laws.{numbered, one-answer}
use Rattle.users.specs.declared.Users.{Users}
use Rattle.users.specs.Users.{is_user}
use Rattle.condition.specs.declared.Condition.{Condition}
use Rattle.row.specs.Row.{all_up_to}
use Rattle.condition.specs.Condition.{idle, well_formed}
use Rattle.condition.specs.Bytes.{is_char, run_of}
use Rattle.condition.specs.Steps.{either_start}
use Rattle.condition.proofs.Characters.{plain-char, user-char, no_char}
use Rattle.condition.proofs.Good.{good, formed, Sized}
use Rattle.condition.proofs.Kept.{cells-kept, cursor-kept}
use Rattle.row.proofs.Ranges.{up-to-at, up-to-replicate}
use Rattle.moves.specs.Moves.{any, moves}
use Rattle.moves.proofs.Moving.{each-move}
use Rattle.moves.proofs.Interpreter.{Ready, ready}
use Rattle.planner.specs.Plan.{at_start, pictured, Delivers}
use Rattle.planner.specs.Fonts.{FontsDelivers}
use Rattle.planner.specs.Clear.{either_plan, either_fonts_plan}
use Rattle.planner.specs.Given.{Given}
use Rattle.planner.specs.Answer.{on_move, on_switch, lacks, some_lacks, refusal_by, plan_refusal, fonts_refusal, bytes_by, Promise}
use Rattle.planner.specs.Answer.{Counts, Planned, planned}
use Rattle.planner.proofs.Serving.{Plannable, Switchable}
use Rattle.planner.proofs.Demand.{either-delivers, either-fonts-deliver}

-- no refusal is given
record Unrefused (long ranged blocked short : Bool) (c : Condition) (wanted : List ℕ) : Type 0 where
  lengths : long ≡ true
  formed : well_formed c ≡ true
  in-range : ranged ≡ true
  nothing-half : idle c.pending ≡ true
  mode-1 : c.mode ≡ 1
  unblocked : blocked ≡ false
  codes-shown : some_lacks c.users wanted ≡ false
  room : short ≡ false

unrefused : (long ranged blocked short : Bool) (c : Condition) (wanted : List ℕ) → refusal_by long ranged blocked short c wanted ≡ 0
    → Unrefused long ranged blocked short c wanted
unfolding refusal_by
unrefused long ranged blocked short c wanted e =
    let p1 = passed (not long) _ _ e in
    let p3 = passed (not (well_formed c && ranged)) _ _ p1.1 in
    let p6 = passed (not (idle c.pending)) _ _ p3.1 in
    let p7 = passed (not (eqb c.mode 1)) _ _ p6.1 in
    let p8 = passed blocked _ _ p7.1 in
    let p9 = passed (some_lacks c.users wanted) _ _ p8.1 in
    let p10 = passed short _ _ p9.1 in
    let g = not-false _ p3.0 in
    record {
      lengths = not-false _ p1.0;
      formed = (both (well_formed c) ranged g).0;
      in-range = (both (well_formed c) ranged g).1;
      nothing-half = not-false _ p6.0;
      mode-1 = eqb-true _ _ (not-false _ p7.0);
      unblocked = p8.0;
      codes-shown = p9.0;
      room = p10.0;
    }

-- a condition that is not well formed is refused by 3 where the lengths are right, whatever else is wrong
pub unformed : (long ranged blocked short : Bool) (c : Condition) (wanted : List ℕ) → long ≡ true → well_formed c ≡ false
    → refusal_by long ranged blocked short c wanted ≡ 3
unfolding refusal_by
unformed long ranged blocked short c wanted h w = rw (h, w)

-- 8 is not given: no user character on a code that the planner moves with
record Free (u : Users) : Type 0 where
  at08 : is_user u 0x08 ≡ false
  at09 : is_user u 0x09 ≡ false
  at0a : is_user u 0x0a ≡ false
  at0c : is_user u 0x0c ≡ false
  at0d : is_user u 0x0d ≡ false
  at1b : is_user u 0x1b ≡ false

free : (u : Users) → on_move u ≡ false → Free u
unfolding on_move
free u e =
    let n5 = neither _ (is_user u 0x1b) e in
    let n4 = neither _ (is_user u 0x0d) n5.0 in
    let n3 = neither _ (is_user u 0x0c) n4.0 in
    let n2 = neither _ (is_user u 0x0a) n3.0 in
    let n1 = neither (is_user u 0x08) (is_user u 0x09) n2.0 in
    record { at08 = n1.0; at09 = n1.1; at0a = n2.1; at0c = n3.1; at0d = n4.1; at1b = n5.1 }

moves-free : (c : Condition) → Free c.users → (b : ℕ) → any (eqb b) moves ≡ true → is_char c b ≡ false
moves-free c f =
    each-move (λ b. is_char c b ≡ false) (no_char c 0x08 f.at08 (omega arith)) (no_char c 0x09 f.at09 (omega arith))
    (no_char c 0x0a f.at0a (omega arith)) (no_char c 0x0c f.at0c (omega arith)) (no_char c 0x0d f.at0d (omega arith))

escape-free : (c : Condition) → Free c.users → is_char c 0x1b ≡ false
escape-free c f = no_char c 0x1b f.at1b (omega arith)

-- 9 is not given: each wanted code can be shown
shows : (c : Condition) (w : ℕ) → lacks c.users w ≡ false → is_char c w ≡ true
unfolding lacks
shows c w e =
    by_cases (is_user c.users w) (λ h. user-char c w h)
    (λ h. by_cases (ltb w 0x20) (λ l. clash refl (rw (l, h) at e)) (λ l. plain-char c w (ltb-false w 0x20 l)))

all-show : (c : Condition) (ws : List ℕ) → some_lacks c.users ws ≡ false → (i : ℕ) → i < length ws
    → is_char c (get_or ws i 0) ≡ true
unfolding some_lacks
all-show c [] e i h = absurd (omega arith)
all-show c (w ∷ ws) e zero h = shows c w (neither (lacks c.users w) _ e).0
all-show c (w ∷ ws) e (suc i) h = all-show c ws (neither (lacks c.users w) _ e).1 i (omega arith)

-- what the planners can go on with
pub record Accepted (c : Condition) (wanted : List ℕ) (asked : ℕ) : Type 0 where
  pub formed : well_formed c ≡ true
  pub ready : Ready c
  pub plannable : length c.codes ≡ 40 → length c.fonts ≡ 40 → Plannable c wanted asked
  pub cursor-40 : c.cursor < 40
  pub wanted-40 : length wanted ≡ 40
  pub asked-40 : asked < 40

accepted-by : (long ranged blocked short : Bool) (c : Condition) (wanted : List ℕ) (asked : ℕ)
    → Unrefused long ranged blocked short c wanted → length wanted ≡ 40 → leb asked 39 ≡ true → on_move c.users ≡ false
    → Accepted c wanted asked
accepted-by long ranged blocked short c wanted asked k l a u =
    let q : asked ≤ 39 = leb-true asked 39 a in
    let r = ready c k.formed k.mode-1 k.nothing-half in
    let f = free c.users u in
    record {
      formed = k.formed;
      ready = r;
      plannable = λ lc lf. record {
        ready = r;
        codes-40 = lc;
        fonts-40 = lf;
        wanted-40 = l;
        asked-40 = omega arith;
        escape-free = escape-free c f;
        moves-free = moves-free c f;
        shown = λ i h. all-show c wanted k.codes-shown i (omega arith);
      };
      cursor-40 = r.inside;
      wanted-40 = l;
      asked-40 = omega arith;
    }

pub accepted : (c : Condition) (wanted : List ℕ) (asked room : ℕ) → plan_refusal c wanted asked room ≡ 0
    → Accepted c wanted asked × (44 ≤ room)
unfolding plan_refusal
accepted c wanted asked room e =
    let k = unrefused (eqb (length wanted) 40) (leb asked 39) (on_move c.users) (ltb room 44) c wanted e in
    (accepted-by _ _ _ _ c wanted asked k (eqb-true _ _ k.lengths) k.in-range k.unblocked, ltb-false room 44 k.room)

-- for two fonts: 18h, 19h and 1Ah are steps, and the fonts are 0 or 1
pub record FontsAccepted (c : Condition) (wanted fonts : List ℕ) (asked : ℕ) : Type 0 where
  pub codes : Accepted c wanted asked
  pub switchable : Switchable c fonts

pub fonts-accepted : (c : Condition) (wanted fonts : List ℕ) (asked room : ℕ) → fonts_refusal c wanted fonts asked room ≡ 0
    → FontsAccepted c wanted fonts asked × (104 ≤ room)
unfolding fonts_refusal on_switch
fonts-accepted c wanted fonts asked room e =
    let k = unrefused (eqb (length wanted) 40 && eqb (length fonts) 40) (leb asked 39 && all_up_to 1 fonts)
    (on_move c.users || on_switch c.users) (ltb room 104) c wanted e in
    let l = eqb-true _ _ (both (eqb (length wanted) 40) _ k.lengths).0 in
    let m : length fonts ≡ 40 = eqb-true _ _ (both (eqb (length wanted) 40) _ k.lengths).1 in
    let u = neither (on_move c.users) (on_switch c.users) k.unblocked in
    let n2 = neither _ (is_user c.users 0x1a) u.1 in
    let n1 = neither (is_user c.users 0x18) (is_user c.users 0x19) n2.0 in (
      record {
        codes = accepted-by _ _ _ _ c wanted asked k l (both (leb asked 39) _ k.in-range).0 u.0;
        switchable = record {
          wanted-fonts-40 = m;
          wanted-fonts-1 = up-to-at 1 fonts (both (leb asked 39) _ k.in-range).1;
          selected-1 = (good c k.formed).font-1;
          free18 = no_char c 0x18 n1.0 (omega arith);
          free19 = no_char c 0x19 n1.1 (omega arith);
          free1a = no_char c 0x1a n2.1 (omega arith);
        };
      },
      ltb-false room 104 k.room,
    )

-- what the accepted plans are for
pub plan-delivers : (c : Condition) (wanted : List ℕ) (asked room : ℕ) → plan_refusal c wanted asked room ≡ 0
    → length c.codes ≡ 40 → length c.fonts ≡ 40 → Delivers (either_start false) c wanted asked (either_plan c wanted asked)
plan-delivers c wanted asked room e lc lf = either-delivers c wanted asked ((accepted c wanted asked room e).0.plannable lc lf)

pub fonts-plan-delivers : (c : Condition) (wanted fonts : List ℕ) (asked room : ℕ) → fonts_refusal c wanted fonts asked room ≡ 0
    → length c.codes ≡ 40 → length c.fonts ≡ 40
    → FontsDelivers (either_start true) c wanted fonts asked (either_fonts_plan c wanted fonts asked)
fonts-plan-delivers c wanted fonts asked room e lc lf =
    let t = (fonts-accepted c wanted fonts asked room e).0 in
    either-fonts-deliver c wanted fonts asked (t.codes.plannable lc lf) t.switchable

-- what an accepted plan leaves is the picture
pub leaves : (c : Condition) (wanted : List ℕ) (asked room : ℕ) → plan_refusal c wanted asked room ≡ 0 → Sized c
    → run_of c (either_plan c wanted asked) ≡ pictured c wanted asked
leaves c wanted asked room e s = (plan-delivers c wanted asked room e s.codes-40 s.fonts-40).gives

-- and from there the planner refuses what it refused before: neither the cells nor the cursor decide a refusal, as long as the
-- condition is well formed
pub left-alike : (c : Condition) (wanted : List ℕ) (asked room : ℕ) → plan_refusal c wanted asked room ≡ 0
    → (w : List ℕ) (a r : ℕ) → plan_refusal (pictured c wanted asked) w a r ≡ plan_refusal c w a r
unfolding plan_refusal refusal_by
left-alike c wanted asked room e w a r =
    let k = unrefused (eqb (length wanted) 40) (leb asked 39) (on_move c.users) (ltb room 44) c wanted e in
    let l : asked ≤ 39 = leb-true asked 39 k.in-range in
    let g = good c k.formed in
    let cells = cells-kept c g wanted (replicate 40 c.font) (up-to-replicate 1 40 c.font g.font-1) in
    let still = (ready c k.formed k.mode-1 k.nothing-half).still in
    rw (formed (pictured c wanted asked) (cursor-kept _ cells asked (omega arith) still), k.formed)

-- nor does room that is enough
pub with-room : (c : Condition) (wanted : List ℕ) (asked room : ℕ) → 44 ≤ room
    → plan_refusal c wanted asked room ≡ plan_refusal c wanted asked 44
unfolding plan_refusal
with-room c wanted asked room h = rw (le-ltb room 44 h)

-- what puts the accepted plans is given what it asks for
pub plan-given : (c : Condition) (wanted : List ℕ) (asked : ℕ) → Accepted c wanted asked
    → Given c wanted (replicate 40 c.font) asked
plan-given c wanted asked t =
    record {
      wanted-40 = t.wanted-40;
      fonts-40 = length-replicate 40 c.font;
      cursor-40 = t.cursor-40;
      asked-40 = t.asked-40;
    }

pub fonts-given : (c : Condition) (wanted fonts : List ℕ) (asked : ℕ) → FontsAccepted c wanted fonts asked
    → Given c wanted fonts asked
fonts-given c wanted fonts asked t =
    let u = t.codes in
    record {
      wanted-40 = u.wanted-40;
      fonts-40 = t.switchable.wanted-fonts-40;
      cursor-40 = u.cursor-40;
      asked-40 = u.asked-40;
    }

-- Answers -------------------------------------------------------------------------------------------------------------------------

module _ (number : ℕ) (bytes : List ℕ) (For : List ℕ → Type 0) (out : List ℕ) where
  pub refused : (r : Refusal) → number_of r ≡ number → Promise number bytes For out out (planned (Err r))
  unfolding bytes_by
  refused r e =
      let z = numbered r in
      let t = ne_eqb number 0 (λ (h : number ≡ 0). z (e ∙ h)) in
      record { answer = rw (t, e); output = rw t; delivers = λ h. absurd (z h) }

  pub taken-on : (after : List ℕ) (n : ℕ) → number ≡ 0 → For bytes → (n ≡ length bytes) × (after ≡ at_start bytes out)
      → Promise number bytes For out after (planned (Ok n))
  unfolding bytes_by
  taken-on after n e d p =
      record { answer = rw (e, p.0); output = rw e p.1; delivers = λ h. rw (p.0, p.1, take-append_seam bytes _) d }

  -- what an accepted plan tells
  pub told : (after : List ℕ) (r : Planned) → number ≡ 0 → Promise number bytes For out after r
      → (r.length ≡ length bytes) × (after ≡ at_start bytes out) × For bytes
  unfolding bytes_by
  told after r e p =
      let en : r.length ≡ length bytes = ap (λ (q : Planned). q.length) p.answer ∙ rw e in
      let eo : after ≡ at_start bytes out = p.output ∙ rw e in
      let d = p.delivers (ap (λ (q : Planned). q.refusal) p.answer ∙ e) in
      (en, eo, rw (en, eo, take-append_seam bytes _) at d)

  -- two answers that a promise allows, and what they leave in the buffer, are the same
  pub one-plan : (a b : List ℕ) (r s : Planned) → Promise number bytes For out a r → Promise number bytes For out b s
      → (r ≡ s) × (a ≡ b)
  one-plan a b r s f g = (f.answer ∙ sym g.answer, f.output ∙ sym g.output)

-- any two answers of the code that are the same in the paper's words are the same
pub one-planned : (r s : Result ℕ Refusal) → planned r ≡ planned s → r ≡ s
one-planned = one-answer planned (λ p. p.refusal) (λ p. p.length) (λ _. refl) (λ _. refl) (λ _. refl)

pub same-plan : (number : ℕ) (bytes : List ℕ) (For : List ℕ → Type 0) (out a b : List ℕ) (r s : Result ℕ Refusal)
    → Promise number bytes For out a (planned r) → Promise number bytes For out b (planned s) → (r ≡ s) × (a ≡ b)
same-plan number bytes For out a b r s f g =
    let e = one-plan number bytes For out a b (planned r) (planned s) f g in
    (one-planned r s e.0, e.1)

-- what is counted of a plan that is not refused is its length
pub counted : (c : Condition) (wanted : List ℕ) (asked : ℕ) (r : Planned) → Counts c wanted asked r
    → plan_refusal c wanted asked 44 ≡ 0 → r.length ≡ length (either_plan c wanted asked)
unfolding bytes_by
counted c wanted asked r e z = ap (λ (p : Planned). p.length) e ∙ rw z

-- what is counted, and what is not
pub not-counted : (c : Condition) (wanted : List ℕ) (asked : ℕ) (r : Refusal) → number_of r ≡ plan_refusal c wanted asked 44
    → Counts c wanted asked (planned (Err r))
unfolding bytes_by
not-counted c wanted asked r e =
    rw (← e, ne_eqb (number_of r) 0 (numbered r))

pub counted-one : (c : Condition) (wanted : List ℕ) (asked n : ℕ) → plan_refusal c wanted asked 44 ≡ 0
    → n ≡ length (either_plan c wanted asked) → Counts c wanted asked (planned (Ok n))
unfolding bytes_by
counted-one c wanted asked n e l = rw (e, l)

-- Lent entries: a code is looked up in them, and which bytes leave them true.
use Prim.Native.Nat.{ℕ, ◌<◌}
use mathlib.Core.Path.{◌≡◌, refl, ap, ◌∙◌}
use mathlib.Core.Bool.{false, not}
use mathlib.Core.List.{List}
use native.Mathlib.Omega.{arith}
use lib.Dec.{eqb, ltb, leb}
use lib.ListN.{length, get_or}
use borrow.Author.Tests.{le-leb, ltb-false}
use Rattle.laws.proofs.Tests.{clash, by-test}
use Rattle.users.specs.declared.Users.{Users}
use Rattle.users.specs.Users.{is_user, found_in}
use Rattle.index.proofs.Entries.{index_at, looked-up}
use Rattle.condition.specs.declared.Condition.{Condition}
use Rattle.condition.specs.declared.Figures.{Figures}
use Rattle.condition.specs.Bytes.{position_of, data_of, step_of}
use Rattle.condition.proofs.Each.{step_by}
use Rattle.condition.proofs.Aside.{left-aside, right-aside, down-aside, return-aside, clear-aside, write-aside}
use Rattle.layout.specs.Layout.{condition_in}
use Rattle.inplace.specs.InPlace.{LentIndex, alters_users, Stepped}
use Rattle.inplace.proofs.InPlace.{pending-at}

-- a code is looked up in them
pub looked-up-in : (x : List ℕ) (c : Condition) (code : ℕ) → LentIndex x c → code < length x
    → not (eqb (get_or x code 0) 0) ≡ is_user c.users code
unfolding is_user
looked-up-in x c code e h =
    let u : Users = c.users in
    ap (λ (l : List ℕ). not (eqb (get_or l code 0) 0)) e
    ∙ ap (λ (m : ℕ). not (eqb m 0)) (index_at (length x) u.bytes u.count code h)
    ∙ looked-up (found_in u.bytes u.count code)

module _ (c : Condition) (b : ℕ) where
  abbrev SameUsers : Condition → Type 0
  SameUsers d = d.users ≡ c.users

  same-users : alters_users c.pending b ≡ false → SameUsers (step_of c b)
  unfolding position_of data_of
  same-users a =
      step_by SameUsers c b
      (record {
        write = (write-aside c b).users;
        left = (left-aside c).users;
        right = (right-aside c).users;
        down = (down-aside c).users;
        home = refl;
        return = (return-aside c).users;
        clear = (clear-aside c).users;
        mode = λ m l h. refl;
        shown = λ x. refl;
        international = refl;
        katakana = refl;
        euro = refl;
        begin = λ e n. refl;
        ignored = refl;
        await = λ e p z. refl;
        initialise = λ e i. clash refl (rw (e, i) at a);
        steady = λ e. refl;
        position = λ e. by-test SameUsers (leb b 0x27) (λ _. refl) (λ _. refl);
        luminance = λ e. refl;
        speed = λ e. refl;
        code = λ e. refl;
        user-data =
            λ code n e. by-test SameUsers (ltb n 4) (λ _. refl)
            (λ t. clash (le-leb 4 n (omega (arith, ltb-false n 4 t))) (rw e at a));
      })

  pub unaltered : (x : List ℕ) (k : Condition) → alters_users c.pending b ≡ false → k ≡ step_of c b → LentIndex x c → LentIndex x k
  unaltered x k a e h = rw (ap (λ (d : Condition). d.users) e ∙ same-users a) h

-- where nothing is half received no byte alters them
pub idle-step : (s : List ℕ) (b : ℕ) (x : List ℕ) (k : Condition) (r : Figures) → get_or s 13 0 ≡ 0 → LentIndex x (condition_in s)
    → Stepped (condition_in s) b k r → Stepped (condition_in s) b k r × LentIndex x k
idle-step s b x k r z h st = (st, unaltered (condition_in s) b x k (rw (pending-at s, z)) st.leaves h)

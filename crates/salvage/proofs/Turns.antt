-- A block at a time: what is known of the blocks that were read, whatever they were.
use Prim.Native.Nat.{ℕ, zero, suc, ◌+◌, ◌*◌, ◌≤◌, ◌<◌}
use mathlib.Core.Path.{◌≡◌, refl, sym, ap, ◌∙◌, subst}
use mathlib.Core.Bool.{Bool, true, false, cond}
use mathlib.Core.List.{List, [], ◌++◌}
use native.Mathlib.Omega.{arith}
use native.Mathlib.Numerals.{add-one}
use lib.Dec.{eqb}
use lib.ListN.{length, drop, set, length-append, length-drop}
use lib.Seq.{take_all, drop_at, take-append-le, drop-append-le, get_or-set_same, get_or-set_other}
use borrow.Author.Tests.{ne_eqb, eq-eqb}
use Rattle.laws.proofs.Tests.{by-test, by_equal}
use Rattle.std.specs.Prelude.{Option}
use Rattle.std.specs.Io.KnownBytes.{Consumes, Appends}
use Rattle.std.proofs.KnownBytes.{Consumes-nil, Consumes-trans, Appends-nil, Appends-trans}
use Rattle.condition.specs.Condition.{power_up, Outcome}
use Rattle.block.specs.Block.{block_of}
use Rattle.block.specs.Reading.{read_refusal, ReadPromise}
use Rattle.block.proofs.RoundTrip.{refused-by}
use Rattle.lines.specs.Lines.{each}
use Rattle.lines.proofs.Laws.{each_same}
use Rattle.salvage.specs.Salvage.{whole_in, block_at, is_good, last_good, stand_in, written_for, second_of}
use Rattle.salvage.specs.Steps.{Step, Judged, SourcesOf, Sourced, Copied}

-- A file, and a block more -------------------------------------------------------------------------------------------------------

pub last-most : (file : List ℕ) (k : ℕ) → last_good file k ≤ k
unfolding last_good
last-most file zero = omega arith
last-most file (suc k) =
    by-test (λ (n : ℕ). n ≤ suc k) (is_good file k) (λ _. omega arith) (λ _. omega (arith, last-most file k))

module _ (file block : List ℕ) (n : ℕ) (l : length file ≡ n * 512) where
  pub block-before : (k : ℕ) → k < n → block_at (file ++ block) k ≡ block_at file k
  unfolding block_at
  block-before k h =
      let there : k * 512 ≤ length file = omega arith in
      let whole : 512 ≤ length (drop (k * 512) file) = omega (arith, length-drop (k * 512) file) in
      rw (drop-append-le (k * 512) file block there, take-append-le 512 (drop (k * 512) file) block whole)

  pub block_last : length block ≡ 512 → block_at (file ++ block) n ≡ block
  unfolding block_at
  block_last h = rw (drop_at file block (n * 512) l) (take_all 512 block (omega arith))

  pub last-before : (k : ℕ) → k ≤ n → last_good (file ++ block) k ≡ last_good file k
  unfolding last_good
  last-before zero h = refl
  last-before (suc k) h = rw (block-before k (omega arith), last-before k (omega arith))

  pub stand-before : (source : ℕ) → source ≤ n → stand_in (file ++ block) source ≡ stand_in file source
  unfolding stand_in
  stand-before zero h = refl
  stand-before (suc k) h = block-before k (omega arith)

written-before : (file block : List ℕ) (n : ℕ) → length file ≡ n * 512 → (k : ℕ) → k < n
    → written_for (file ++ block) k ≡ written_for file k
unfolding written_for
written-before file block n l k h =
    let low : last_good file k ≤ n = omega (arith, last-most file k) in
    let last = last-before file block n l k (omega arith) in
    rw (block-before file block n l k h, last, stand-before file block n l (last_good file k) low)

-- A block is judged --------------------------------------------------------------------------------------------------------------

judged : (block : List ℕ) (number : ℕ) (last : List ℕ) (source : ℕ) (after : List ℕ) (r : ℕ)
    → r ≡ cond (eqb (read_refusal block) 0) (number + 1) source → after ≡ cond (eqb (read_refusal block) 0) block last
    → Judged block number last source after r
unfolding last_good written_for stand_in
judged block number last source after r e f = record { answer = e; left = f; step = step }
  where
    step : (file : List ℕ) → block_at file number ≡ block → source ≡ last_good file number → last ≡ stand_in file source
        → Step file number after r
    step file b s l =
        let told = go (eqb (read_refusal block) 0) e f in
        record { source = rw b told.0; written = rw b told.1; stands = told.2 }
      where
        go : (t : Bool) → r ≡ cond t (number + 1) source → after ≡ cond t block last
            → (r ≡ cond t (suc number) (last_good file number))
            × (after ≡ cond t block (stand_in file (last_good file number)))
            × (after ≡ stand_in file r)
        go true e f = (e ∙ add-one number, f, f ∙ rw (e, add-one number) (sym b))
        go false e f = (e ∙ s, f ∙ rw (← s) l, f ∙ rw e l)

-- by what reading it answers
pub read-refused : (block : List ℕ) (number : ℕ) (last : List ℕ) (source : ℕ) (o : Outcome) → ReadPromise block o
    → (o.refusal ≡ 0 → ⊥) → Judged block number last source last source
read-refused block number last source o p h =
    let e = ne_eqb _ _ (λ z. h (refused-by block o p ∙ z)) in
    judged block number last source last source (rw e) (rw e)

pub read-accepted : (block : List ℕ) (number : ℕ) (last : List ℕ) (source : ℕ) (o : Outcome) → ReadPromise block o
    → o.refusal ≡ 0 → Judged block number last source block (number + 1)
read-accepted block number last source o p h =
    let z : read_refusal block ≡ 0 = sym (refused-by block o p) ∙ h in
    judged block number last source block (number + 1) (rw (eq-eqb _ _ z)) (rw (eq-eqb _ _ z))

-- From block to block ------------------------------------------------------------------------------------------------------------

-- what is known after n blocks: their sources, and what stands in for what comes next
pub record Taken (n : ℕ) (sources last : List ℕ) (source : ℕ) : Type 0 where
  pub file : List ℕ
  pub long : length file ≡ n * 512
  pub from : source ≡ last_good file n
  pub stands : last ≡ stand_in file source
  pub each : SourcesOf file n sources

pub taken-starts : (sources last : List ℕ) → last ≡ block_of (power_up 0) → Taken 0 sources last 0
unfolding last_good stand_in
taken-starts sources last e = record { file = []; long = refl; from = refl; stands = e; each = λ k h. absurd (omega arith) }

unfoldable pub taken-turns : {n : ℕ} {sources last after : List ℕ} {source r : ℕ} (block : List ℕ) → Taken n sources last source
    → length block ≡ 512 → n < length sources → Judged block n last source after r → Taken (n + 1) (set sources n r) after r
taken-turns {n} {sources} {last} {after} {source} {r} block t l h j =
    let before = t.file in
    let more = before ++ block in
    let low : last_good before n ≤ n = last-most before n in
    let s : source ≡ last_good more n = t.from ∙ sym (last-before before block n t.long n (omega arith)) in
    let w : last ≡ stand_in more source = t.stands ∙ sym (stand-before before block n t.long source (omega (arith, t.from))) in
    let told = j.step more (block_last before block n t.long l) s w in
    record {
      file = more;
      long = omega (arith, length-append before block, t.long);
      from = rw (add-one n) told.source;
      stands = told.stands;
      each = each told.source;
    }
  where
    each : r ≡ last_good (t.file ++ block) (suc n) → SourcesOf (t.file ++ block) (n + 1) (set sources n r)
    each e k m =
        by_equal k n (λ f. rw f (get_or-set_same sources n r 0 h ∙ e))
        (λ f. get_or-set_other sources n k r 0 f
        ∙ (t.each k (omega arith) ∙ sym (last-before t.file block n t.long (suc k) (omega arith))))

pub taken-ends : {n : ℕ} {sources last : List ℕ} {source : ℕ} → Taken n sources last source → Sourced n sources
taken-ends t = record { file = t.file; long = t.long; each = t.each }

-- What was read and what was written ---------------------------------------------------------------------------------------------

-- and of bytes that are known: the blocks are those that were read, and what was written for them stands in turn
pub record Copying (n : ℕ) (sources last : List ℕ) (source : ℕ) (left left' held held' : Option (List ℕ)) : Type 0 where
  pub taken : Taken n sources last source
  pub read : Consumes left left' taken.file
  pub written : Appends held held' (each (written_for taken.file) n)

pub copying-starts : (sources last : List ℕ) (left held : Option (List ℕ)) → last ≡ block_of (power_up 0)
    → Copying 0 sources last 0 left left held held
unfolding each taken-starts
copying-starts sources last left held e =
    record { taken = taken-starts sources last e; read = Consumes-nil left; written = Appends-nil held }

pub copying-turns : {n : ℕ} {sources last after : List ℕ} {source r : ℕ} {left left' left'' held held' held'' : Option (List ℕ)}
    (block : List ℕ) → Copying n sources last source left left' held held' → length block ≡ 512 → n < length sources
    → Judged block n last source after r → Consumes left' left'' block → Appends held' held'' after
    → Copying (n + 1) (set sources n r) after r left left'' held held''
unfolding each taken-turns
copying-turns {n} {sources} {last} {after} {source} {r} {left} {left'} {left''} {held} {held'} {held''} block c l h j took gave =
    record {
      taken = taken-turns block c.taken l h j;
      read = Consumes-trans left left' left'' before block c.read took;
      written =
          subst (λ x. Appends held held'' x) row
          (Appends-trans held held' held'' (each (written_for before) n) after c.written gave);
    }
  where
    before : List ℕ
    before = c.taken.file

    told : Step (before ++ block) n after r
    told =
        j.step (before ++ block) (block_last before block n c.taken.long l)
        (c.taken.from ∙ sym (last-before before block n c.taken.long n (omega arith)))
        (c.taken.stands ∙ sym (stand-before before block n c.taken.long source (omega (arith, c.taken.from, last-most before n))))

    row : each (written_for before) n ++ after ≡ each (written_for (before ++ block)) (n + 1)
    row =
        let same = written-before before block n c.taken.long in
        rw (← each_same (written_for (before ++ block)) (written_for before) n same, told.written)
        (ap (each (written_for (before ++ block))) (sym (add-one n)))

pub copying-ends : {n : ℕ} {sources last : List ℕ} {source : ℕ} {left left' held held' : Option (List ℕ)}
    → Copying n sources last source left left' held held' → Copied n sources left left' held held'
unfolding second_of
copying-ends {n} c =
    let whole : whole_in (length c.taken.file) ≡ n = omega (arith, c.taken.long) in
    record { file = c.taken.file; long = c.taken.long; each = c.taken.each; read = c.read; written = rw whole c.written }

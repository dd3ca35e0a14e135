-- The cells of the signals, one after another.
use Rattle.std.specs.Prelude.{◌≡◌, ◌≢◌, ◌<◌, ◌≤◌, ◌+◌, ℕ, zero, suc, Bool, true, false, not, ◌&&◌, ◌||◌, cond, ltb}
use Rattle.std.specs.Prelude.{List, [], ◌∷◌, length}
use Rattle.std.proofs.Common.{refl, ap, sym, ◌∙◌, arith, inl, inr, subst}
use Rattle.std.proofs.lemmas.Bool.{lt-ltb}
use mathlib.Core.Path.{fun_ext}
use Rattle.est_kernel.proofs.Masks.{bits_zero}
use Rattle.est_kernel.specs.Bits.{bits}
use Rattle.est_kernel.specs.Interfaces.{emittable}
use Rattle.est_kernel.specs.declared.interface.Declaration.{Declaration}
use Rattle.est_kernel.specs.Term.{outer, inner}
use Rattle.est_meaning.specs.Rounds.{how_many}
use Rattle.est_meaning.specs.Environments.{verdict}
use Rattle.est_meaning.specs.declared.status.Status.{Status}
use Rattle.est_meaning.specs.declared.status.Status.TheVariants.{Unknown}
use Rattle.est_meaning.specs.Views.{env_of, set_of}
use Rattle.est_meaning.specs.declared.signal_set.Env.{Env as Known}
use Rattle.est_cells.specs.Tables.{is_sure, is_possible}
use Rattle.est_cells.specs.Whole.{known}
use Rattle.est_net.specs.Cells.{cell_at, learned}
use Rattle.est_net.proofs.OwnerValues.{read_back}
use Rattle.est_net.proofs.Ranges.{last_or_before}
use Rattle.est_micro.specs.Inner.Outputs.{AreSignalsTold, IsToldOne}
use Rattle.est_micro.specs.Parts.{opened}
use Rattle.est_micro.specs.Inner.Views.{Changes}
use Rattle.est_micro.proofs.BegunNodes.{widen, nothing_changes}
use Rattle.est_micro.proofs.Frames.{changes_then, learn_changes}
use Rattle.est_micro.proofs.Rounds.{rank_within}
use Rattle.est_micro.proofs.Telling.{ReadSoFar, read_more, read_none, read_same}

-- the cell that is next, and what was told so far
pub record Telling (f : ℕ → Bool) (n : ℕ) (gate : ℕ → Status) (cell : ℕ) (old new : List Status) : Type 0 where
  pub cell_is : cell ≡ how_many f n
  pub so_far : AreSignalsTold f n gate old new

pub telling_none : (f : ℕ → Bool) (gate : ℕ → Status) (old : List Status) → Telling f 0 gate 0 old old
telling_none f gate old = record {
  cell_is = refl;
  so_far = record { changes = nothing_changes 0 _ old; told = λ n l. absurd (omega arith) };
}

one_more : (f : ℕ → Bool) (n : ℕ) → how_many f n ≤ how_many f (suc n)
one_more f n = omega arith

step_told : (f : ℕ → Bool) (n : ℕ) (gate : ℕ → Status) (old mid new : List Status) (next : ℕ)
    → AreSignalsTold f n gate old mid → IsToldOne (f n) (gate n) (how_many f n) mid new next
    → AreSignalsTold f (suc n) gate old new
step_told f n gate old mid new next x y = go (f n) refl
  where
    go : (b : Bool) → f n ≡ b → AreSignalsTold f (suc n) gate old new
    go true e =
        let t = y.told e in
        let m : how_many f (suc n) ≡ how_many f n + 1 = ap (λ (z : Bool). how_many f n + cond z 1 0) e in
        record {
          changes = changes_then 0 (how_many f n) (how_many f n) (how_many f n + 1) 0 (how_many f (suc n)) old mid new
              (omega arith) (omega arith) (omega arith) (omega arith) x.changes
              (learn_changes (how_many f n) (gate n) mid new t);
          told = λ k l h. elim (last_or_before k n (omega arith)) [
            | inl z ↦ subst (λ (u : ℕ). cell_at new (how_many f u) ≡ learned (cell_at old (how_many f u)) (gate u))
                (sym z)
                (t.here ∙ ap (λ (v : Status). learned v (gate n)) (x.changes.after (how_many f n) (omega arith)))
            | inr z ↦ t.others (how_many f k) (rank_within f n k z h) ∙ x.told k z h
          ];
        }
    go false e =
        let m : how_many f (suc n) ≡ how_many f n + 0 = ap (λ (z : Bool). how_many f n + cond z 1 0) e in
        let same = y.kept e in
        record {
          changes = widen 0 0 (how_many f n) (how_many f (suc n)) old new (omega arith) (omega arith)
              (subst (λ (z : List Status). Changes 0 (how_many f n) old z) (sym same) x.changes);
          told = λ k l h. elim (last_or_before k n (omega arith)) [
            | inl z ↦ let c : false ≡ true = sym e ∙ subst (λ (u : ℕ). f u ≡ true) z h in cc
            | inr z ↦ ap (λ (w : List Status). cell_at w (how_many f k)) same ∙ x.told k z h
          ];
        }

pub telling_more : (f : ℕ → Bool) (n : ℕ) (gate : ℕ → Status) (cell next : ℕ) (old mid new : List Status)
    → Telling f n gate cell old mid → IsToldOne (f n) (gate n) cell mid new next → Telling f (n + 1) gate next old new
telling_more f n gate cell next old mid new x y' =
    let y : IsToldOne (f n) (gate n) (how_many f n) mid new next
    = subst (λ (z : ℕ). IsToldOne (f n) (gate n) z mid new next) x.cell_is y' in
    let e : suc n ≡ n + 1 = omega arith in
    subst (λ (z : ℕ). Telling f z gate next old new) e
    (record { cell_is = y.next_is; so_far = step_told f n gate old mid new next x.so_far y })

-- a signal's cell is there
pub cell_within : (f : ℕ → Bool) (m n cell size : ℕ) → cell ≡ how_many f n → n < m → how_many f m ≤ size → f n ≡ true
    → cell < size
cell_within f m n cell size e l w h = let k = rank_within f m n l h in omega arith

-- what was told and read so far
pub record UpdatingSignals (f : ℕ → Bool) (n : ℕ) (gate : ℕ → Status) (cell : ℕ) (x y : ℕ → Bool)
    (old new : List Status) : Type 0 where
  pub telling : Telling f n gate cell old new
  pub sure : ReadSoFar x (λ k. f k && is_sure (cell_at new (how_many f k))) n
  pub possible : ReadSoFar y (λ k. f k && is_possible (cell_at new (how_many f k))) n

pub exchanging_none : (f : ℕ → Bool) (gate : ℕ → Status) (none : ℕ → Bool) → ((k : ℕ) → none k ≡ false)
    → (old : List Status) → UpdatingSignals f 0 gate 0 none none old old
exchanging_none f gate none h old = record {
  telling = telling_none f gate old;
  sure = read_none none _ h;
  possible = read_none none _ h;
}

pub exchanging_all : (f : ℕ → Bool) (n m : ℕ) (gate : ℕ → Status) (cell : ℕ) (x y : ℕ → Bool) (old new : List Status)
    → n ≡ m → UpdatingSignals f n gate cell x y old new → UpdatingSignals f m gate cell x y old new
exchanging_all f n m gate cell x y old new e h = subst (λ (z : ℕ). UpdatingSignals f z gate cell x y old new) e h

-- a cell that was read stays as it is where a later one is told
stays_read : (pick : Status → Bool) (f : ℕ → Bool) (n : ℕ) (now : Status) (mid new : List Status) (next : ℕ)
    → IsToldOne (f n) now (how_many f n) mid new next → (k : ℕ) → k < n
    → (f k && pick (cell_at mid (how_many f k))) ≡ (f k && pick (cell_at new (how_many f k)))
stays_read pick f n now mid new next y k l = go (f k) refl (f n) refl
  where
    go : (a : Bool) → f k ≡ a → (b : Bool) → f n ≡ b
        → (a && pick (cell_at mid (how_many f k))) ≡ (a && pick (cell_at new (how_many f k)))
    go false e b d = refl
    go true e true d = ap pick (sym ((y.told d).others (how_many f k) (rank_within f n k l e)))
    go true e false d = ap (λ (z : List Status). pick (cell_at z (how_many f k))) (sym (y.kept d))

pub exchanging_more : (f : ℕ → Bool) (n : ℕ) (gate : ℕ → Status) (cell next : ℕ) (a b x y : ℕ → Bool)
    (old mid new : List Status)
    → UpdatingSignals f n gate cell a b old mid → IsToldOne (f n) (gate n) cell mid new next
    → x n ≡ (a n || (f n && is_sure (cell_at new cell))) → ((k : ℕ) → k ≢ n → x k ≡ a k)
    → y n ≡ (b n || (f n && is_possible (cell_at new cell))) → ((k : ℕ) → k ≢ n → y k ≡ b k)
    → UpdatingSignals f (n + 1) gate next x y old new
exchanging_more f n gate cell next a b x y old mid new h t p q r s =
    let c = h.telling.cell_is in
    let u = subst (λ (z : ℕ). IsToldOne (f n) (gate n) z mid new next) c t in
    record {
      telling = telling_more f n gate cell next old mid new h.telling t;
      sure = read_more a x _ n (f n && is_sure (cell_at new cell))
          (read_same a _ (λ k. f k && is_sure (cell_at new (how_many f k))) n h.sure
          (stays_read is_sure f n (gate n) mid new next u)) p q
          (ap (λ (z : ℕ). f n && is_sure (cell_at new z)) c);
      possible = read_more b y _ n (f n && is_possible (cell_at new cell))
          (read_same b _ (λ k. f k && is_possible (cell_at new (how_many f k))) n h.possible
          (stays_read is_possible f n (gate n) mid new next u)) r s
          (ap (λ (z : ℕ). f n && is_possible (cell_at new z)) c);
    }

said : (i f b : Bool) (v : Status) → (f ≡ true → b ≡ true)
    → verdict (i || (b && (f && is_sure v))) (i || (b && (f && is_possible v))) ≡ cond (f && not i) v (verdict i false)
said true true b v h = refl
said true false b v h = refl
said false true true v h = read_back v
said false true false v h = let z : false ≡ true = h refl in cc
said false false true v h = refl
said false false false v h = refl

-- of an open signal nothing is known
said_but : (o x y : Bool) → verdict (x && not o) (y || o) ≡ cond o Unknown (verdict x y)
said_but true true true = refl
said_but true true false = refl
said_but true false true = refl
said_but true false false = refl
said_but false true y = refl
said_but false false true = refl
said_but false false false = refl

-- what is known by the cells of the signals and by what was offered, where some inputs are open
abbrev pub IsKnownBy : (ℕ → Bool) → (ℕ → Bool) → ℕ → (ℕ → Bool) → List Status → Known → Type 0
IsKnownBy unasked f m inputs cells e =
    env_of e ≡ opened unasked (known (record { places = m; has = λ n. f n && not (inputs n) }) inputs
    (λ n. cell_at cells (how_many f n)))

pub known_is : (unasked f : ℕ → Bool) (m : ℕ) (inputs p q a b : ℕ → Bool) (cells : List Status) (e : Known)
    → ((n : ℕ) → f n ≡ true → n < m)
    → ((n : ℕ) → a n ≡ (inputs n || p n)) → ((n : ℕ) → b n ≡ (inputs n || q n))
    → ((n : ℕ) → bits e.present.interface n ≡ (a n && not (unasked n)))
    → ((n : ℕ) → bits e.possible.interface n ≡ (b n || unasked n))
    → ((n : ℕ) → p n ≡ (ltb n m && (f n && is_sure (cell_at cells (how_many f n)))))
    → ((n : ℕ) → q n ≡ (ltb n m && (f n && is_possible (cell_at cells (how_many f n)))))
    → e.present.local ≡ 0 → e.possible.local ≡ 0 → IsKnownBy unasked f m inputs cells e
unfolding env_of set_of known opened
known_is unasked f m inputs p q a b cells e inside x y u v c d l k = fun_ext (elim [
  | outer n ↦ ap (λ (z : Bool). verdict z (bits e.possible.interface n)) (u n)
      ∙ (ap (λ (z : Bool). verdict (a n && not (unasked n)) z) (v n)
      ∙ (said_but (unasked n) (a n) (b n)
      ∙ ap (λ (z : Status). cond (unasked n) Unknown z)
      (ap (λ (z : Bool). verdict z (b n)) (x n ∙ ap (λ (z : Bool). inputs n || z) (c n))
      ∙ (ap (λ (z : Bool). verdict (inputs n || (ltb n m && (f n && is_sure (cell_at cells (how_many f n))))) z)
      (y n ∙ ap (λ (z : Bool). inputs n || z) (d n))
      ∙ said (inputs n) (f n) (ltb n m) (cell_at cells (how_many f n)) (λ h. lt-ltb n m (inside n h))))))
  | inner n ↦ ap (λ (z : ℕ). verdict (bits z n) (bits e.possible.local n)) l
      ∙ (ap (λ (z : ℕ). verdict (bits 0 n) (bits z n)) k
      ∙ (ap (λ (z : Bool). verdict z (bits 0 n)) (bits_zero n) ∙ ap (λ (z : Bool). verdict false z) (bits_zero n)))
])

-- a signal that may be emitted is one of the interface
pub emittable_within : (i : List Declaration) (n : ℕ) → emittable i n ≡ true → n < length i
emittable_within [] n h = let z : false ≡ true = h in cc
emittable_within (d ∷ ds) zero h = omega arith
emittable_within (d ∷ ds) (suc n) h = let k = emittable_within ds n h in omega arith

-- What a statement's reading depends on: its own pauses.
use Rattle.std.proofs.Common.{◌≡◌, ℕ, Bool, true, false, ◌||◌, refl, ap, sym}
use Rattle.std.proofs.lemmas.Bool.{or_parts, eq-eqb, both_ways, or_right}
use Rattle.est_kernel.specs.PauseNumbers.{has_pause, AreApart}
use Rattle.est_kernel.specs.View.{term_of, query_of}
use Rattle.est_meaning.specs.States.{term_at, is_live, IsExclusive}
use Rattle.est_kernel.specs.Term.{held, seq, loop, trap, signal}
use Rattle.est_kernel.specs.declared.statement.Statement.{Statement}
use Rattle.est_kernel.specs.declared.statement.Statement.TheVariants.{Nothing, Pause, Emit, Present', Suspend', Seq'}
use Rattle.est_kernel.specs.declared.statement.Statement.TheVariants.{Loop', Par', Trap', Exit, Local' as Binder'}

-- the same on the pauses of s
abbrev pub Agree : Statement → (ℕ → Bool) → (ℕ → Bool) → Type 0
Agree s a b = (i : ℕ) → has_pause s i ≡ true → a i ≡ b i

-- what agrees on both sides agrees on the left one
pub left_of : (p q : Statement) (a b : ℕ → Bool) → ((i : ℕ) → (has_pause p i || has_pause q i) ≡ true → a i ≡ b i)
    → Agree p a b
left_of p q a b f i h = f i (rw h refl)

-- what agrees on both sides agrees on the right one
pub right_of : (p q : Statement) (a b : ℕ → Bool) → ((i : ℕ) → (has_pause p i || has_pause q i) ≡ true → a i ≡ b i)
    → Agree q a b
right_of p q a b f i h = f i (or_right (has_pause p i) (has_pause q i) h)

-- whether one of its pauses is set
pub live_same : (s : Statement) (a b : ℕ → Bool) → Agree s a b → is_live s a ≡ is_live s b
live_same Nothing a b f = refl
live_same (Pause n) a b f = f n.index (eq-eqb n.index n.index refl)
live_same (Emit s) a b f = refl
live_same (Present' t x p y q) a b f = rw (live_same p a b (left_of p q a b f), live_same q a b (right_of p q a b f))
    refl
live_same (Suspend' t x p) a b f = live_same p a b f
live_same (Seq' x p y q) a b f = rw (live_same p a b (left_of p q a b f), live_same q a b (right_of p q a b f)) refl
live_same (Loop' x p) a b f = live_same p a b f
live_same (Par' x p y q) a b f = rw (live_same p a b (left_of p q a b f), live_same q a b (right_of p q a b f)) refl
live_same (Trap' x p) a b f = live_same p a b f
live_same (Exit k) a b f = refl
live_same (Binder' s x p) a b f = live_same p a b f

-- the term that is left
pub at_same : (s : Statement) (a b : ℕ → Bool) → Agree s a b → term_at s a ≡ term_at s b
at_same Nothing a b f = refl
at_same (Pause n) a b f = refl
at_same (Emit s) a b f = refl
at_same (Present' t x p y q) a b f =
    rw (live_same p a b (left_of p q a b f), at_same p a b (left_of p q a b f), at_same q a b (right_of p q a b f)) refl
at_same (Suspend' t x p) a b f = ap (λ u. held (query_of t) u) (at_same p a b f)
at_same (Seq' x p y q) a b f =
    rw (live_same p a b (left_of p q a b f), at_same p a b (left_of p q a b f), at_same q a b (right_of p q a b f)) refl
at_same (Loop' x p) a b f = ap (λ u. seq u (loop (term_of p))) (at_same p a b f)
at_same (Par' x p y q) a b f =
    rw (
      live_same p a b (left_of p q a b f),
      at_same p a b (left_of p q a b f),
      live_same q a b (right_of p q a b f),
      at_same q a b (right_of p q a b f),
    ) refl
at_same (Trap' x p) a b f = ap (λ u. trap u) (at_same p a b f)
at_same (Exit k) a b f = refl
at_same (Binder' s x p) a b f = ap (λ u. signal s.index u) (at_same p a b f)

-- that no two sides are set at once
pub exclusive_same : (s : Statement) (a b : ℕ → Bool) → Agree s a b → IsExclusive s a → IsExclusive s b
exclusive_same Nothing a b f h = tt
exclusive_same (Pause n) a b f h = tt
exclusive_same (Emit s) a b f h = tt
exclusive_same (Present' t x p y q) a b f h = (
  exclusive_same p a b (left_of p q a b f) h.0,
  exclusive_same q a b (right_of p q a b f) h.1,
  rw (← live_same p a b (left_of p q a b f), ← live_same q a b (right_of p q a b f)) h.2,
)
exclusive_same (Suspend' t x p) a b f h = exclusive_same p a b f h
exclusive_same (Seq' x p y q) a b f h = (
  exclusive_same p a b (left_of p q a b f) h.0,
  exclusive_same q a b (right_of p q a b f) h.1,
  rw (← live_same p a b (left_of p q a b f), ← live_same q a b (right_of p q a b f)) h.2,
)
exclusive_same (Loop' x p) a b f h = exclusive_same p a b f h
exclusive_same (Par' x p y q) a b f h =
    (exclusive_same p a b (left_of p q a b f) h.0, exclusive_same q a b (right_of p q a b f) h.1)
exclusive_same (Trap' x p) a b f h = exclusive_same p a b f h
exclusive_same (Exit k) a b f h = tt
exclusive_same (Binder' s x p) a b f h = exclusive_same p a b f h

-- a statement without set pauses
pub dead_exclusive : (s : Statement) (a : ℕ → Bool) → is_live s a ≡ false → IsExclusive s a
dead_exclusive Nothing a h = tt
dead_exclusive (Pause n) a h = tt
dead_exclusive (Emit s) a h = tt
dead_exclusive (Present' t x p y q) a h =
    let d = or_parts (is_live p a) (is_live q a) h in
    (dead_exclusive p a d.0, dead_exclusive q a d.1, rw d.0 refl)
dead_exclusive (Suspend' t x p) a h = dead_exclusive p a h
dead_exclusive (Seq' x p y q) a h =
    let d = or_parts (is_live p a) (is_live q a) h in
    (dead_exclusive p a d.0, dead_exclusive q a d.1, rw d.0 refl)
dead_exclusive (Loop' x p) a h = dead_exclusive p a h
dead_exclusive (Par' x p y q) a h =
    let d = or_parts (is_live p a) (is_live q a) h in
    (dead_exclusive p a d.0, dead_exclusive q a d.1)
dead_exclusive (Trap' x p) a h = dead_exclusive p a h
dead_exclusive (Exit k) a h = tt
dead_exclusive (Binder' s x p) a h = dead_exclusive p a h

-- where no pause of s is set, it is not live
pub cleared_dead : (s : Statement) (a : ℕ → Bool) → ((i : ℕ) → has_pause s i ≡ true → a i ≡ false) → is_live s a ≡ false
cleared_dead Nothing a f = refl
cleared_dead (Pause n) a f = f n.index (eq-eqb n.index n.index refl)
cleared_dead (Emit s) a f = refl
cleared_dead (Present' t x p y q) a f =
    rw (cleared_dead p a (left_of p q a (λ _. false) f), cleared_dead q a (right_of p q a (λ _. false) f)) refl
cleared_dead (Suspend' t x p) a f = cleared_dead p a f
cleared_dead (Seq' x p y q) a f =
    rw (cleared_dead p a (left_of p q a (λ _. false) f), cleared_dead q a (right_of p q a (λ _. false) f)) refl
cleared_dead (Loop' x p) a f = cleared_dead p a f
cleared_dead (Par' x p y q) a f =
    rw (cleared_dead p a (left_of p q a (λ _. false) f), cleared_dead q a (right_of p q a (λ _. false) f)) refl
cleared_dead (Trap' x p) a f = cleared_dead p a f
cleared_dead (Exit k) a f = refl
cleared_dead (Binder' s x p) a f = cleared_dead p a f

-- a change of q alone leaves p
pub apart_left : (p q : Statement) (a b : ℕ → Bool) → AreApart p q → ((i : ℕ) → has_pause q i ≡ false → b i ≡ a i)
    → Agree p a b
apart_left p q a b d f i h = sym (f i (d i h))

-- a change of p alone leaves q
pub apart_right : (p q : Statement) (a b : ℕ → Bool) → AreApart p q → ((i : ℕ) → has_pause p i ≡ false → b i ≡ a i)
    → Agree q a b
apart_right p q a b d f i h = sym (f i (go (has_pause p i) refl))
  where
    go : (x : Bool) → has_pause p i ≡ x → x ≡ false
    go true e = absurd (both_ways (has_pause q i) (d i e) h)
    go false e = refl

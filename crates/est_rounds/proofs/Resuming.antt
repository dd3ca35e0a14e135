-- A statement goes on: its step, from those of its parts.
use Rattle.std.proofs.Common.{◌≡◌, ◌≢◌, ℕ, Bool, true, false, ◌||◌, cond, max, nat_eq, refl, sym, ◌∙◌}
use Rattle.std.proofs.lemmas.Bool.{eqb-true, eqb-false}
use Rattle.est_kernel.specs.CodeViews.{code_of}
use Rattle.est_kernel.specs.PauseNumbers.{has_pause, HasDistinctPauses, AreApart}
use Rattle.est_kernel.specs.View.{term_of, query_of}
use Rattle.est_meaning.specs.States.{term_at, is_live, IsExclusive}
use Rattle.est_kernel.specs.Term.{nothing}
use Rattle.est_kernel.specs.declared.statement.Statement.{Statement}
use Rattle.est_kernel.specs.declared.statement.Statement.TheVariants.{Present', Suspend', Seq', Loop', Par'}
use Rattle.est_meaning.specs.Signals.{Signals, no_signals, union}
use Rattle.est_meaning.specs.declared.status.Status.TheVariants.{Present}
use Rattle.est_meaning.specs.Environments.{Env, status_of}
use Rattle.est_meaning.specs.Rules.{HasNoRule}
use Rattle.est_meaning.specs.Steps.{StepsTo}
use Rattle.est_meaning.proofs.AgreementLemmas.{apart_left}
use Rattle.est_meaning.proofs.SteppingLemmas.{ready, steps_same, present_first, present_second, seq_stays, seq_goes}
use Rattle.est_meaning.proofs.SteppingLemmas.{seq_second, seq_none, loop_again, loop_none, loop_none_in, par_settles}
use Rattle.est_meaning.proofs.SteppingLemmas.{stays_held, idle}
use Rattle.est_meaning.specs.Views.{set_of}
use Rattle.est_rounds.specs.Inner.Steps.{Sleeps, CannotMove, Moves, IsResumed}
use Rattle.est_rounds.specs.declared.step.Step.{Step}
use Rattle.est_rounds.specs.declared.resume_step.Resumed.{Resumed}
use Rattle.est_rounds.specs.declared.resume_step.Resumed.TheVariants.{Asleep, Stuck, Moved}

-- a code that was found to be n
pub code_is : (k n : ℕ) (b : Bool) → b ≡ nat_eq k n → b ≡ true → k ≡ n
code_is k n b e h = eqb-true k n (sym e ∙ h)

-- a code that was found to be another than n
pub code_is_not : (k n : ℕ) (b : Bool) → b ≡ nat_eq k n → b ≡ false → k ≢ n
code_is_not k n b e h = eqb-false k n (sym e ∙ h)

-- what the second part needs to go on after the first has
pub ready_to_resume : (p q p' q' : Statement) (a m n : ℕ → Bool) → p' ≡ p → q' ≡ q → HasDistinctPauses p
    × HasDistinctPauses q × AreApart p q → IsExclusive q a
    → (is_live p m || is_live q m) ≡ false → ((i : ℕ) → has_pause p' i ≡ false → n i ≡ m i) → HasDistinctPauses q'
    × (IsExclusive q' a × (is_live q' n ≡ false))
ready_to_resume p q p' q' a m n ep eq num x dead f =
    let r = ready p q p' q m n ep refl num dead f in
    rw eq (r.0, (x, r.1))

-- a step of the first part, after the second part has changed its own pauses
pub moved_still : (p q q' : Statement) (a : ℕ → Bool) (e : Env) (step : Step) (m n : ℕ → Bool) → q' ≡ q
    → HasDistinctPauses p × HasDistinctPauses q × AreApart p q
    → ((i : ℕ) → has_pause q' i ≡ false → n i ≡ m i) → Moves p a e step m → Moves p a e step n
moved_still p q q' a e step m n eq num f h = record {
  live = h.live;
  steps = steps_same p (term_at p a) e (set_of step.signals) (code_of step.completion) m n
      (apart_left p q m n num.2 (λ i d. f i (rw eq d))) h.steps;
}

-- `present`: the first branch moves
pub first_moves : {x y : _} {s : _} {p q : Statement} {a : ℕ → Bool} {e : Env} {step : Step} {n : ℕ → Bool}
    → Moves p a e step n → is_live q n ≡ false → Moves (Present' s x p y q) a e step n
first_moves h dead = record { live = rw h.live refl; steps = rw h.live (present_first h.steps dead) }

-- `present`: the first branch sleeps
pub second_resumes : (x y : _) (s : _) (r : Resumed) (p q : Statement) (a : ℕ → Bool) (e : Env) (n : ℕ → Bool)
    → is_live p a ≡ false → is_live p n ≡ false → IsResumed r q a e n → IsResumed r (Present' s x p y q) a e n
second_resumes x y s Asleep p q a e n asleep dead h = record { asleep = rw asleep h.asleep; still = rw dead h.still }
second_resumes x y s Stuck p q a e n asleep dead h = record { live = rw asleep h.live; none = rw asleep h.none }
second_resumes x y s (Moved step) p q a e n asleep dead h =
    record { live = rw asleep h.live; steps = rw asleep (present_second h.steps dead) }

-- `;`: the first part moves and doesn't end
pub seq_waits : {x y : _} {p q : Statement} {a : ℕ → Bool} {e : Env} {step : Step} {n : ℕ → Bool}
    → (code_of step.completion) ≢ 0 → Moves p a e step n → is_live q n ≡ false → Moves (Seq' x p y q) a e step n
seq_waits d h dead = record { live = rw h.live refl; steps = rw h.live (seq_stays d h.steps dead) }

-- `;`: the first part sleeps
pub seq_second_resumes : (x y : _) (r : Resumed) (p q : Statement) (a : ℕ → Bool) (e : Env) (n : ℕ → Bool)
    → is_live p a ≡ false → is_live p n ≡ false → IsResumed r q a e n → IsResumed r (Seq' x p y q) a e n
seq_second_resumes x y Asleep p q a e n asleep dead h = record { asleep = rw asleep h.asleep; still = rw dead h.still }
seq_second_resumes x y Stuck p q a e n asleep dead h = record { live = rw asleep h.live; none = rw asleep h.none }
seq_second_resumes x y (Moved step) p q a e n asleep dead h =
    record { live = rw asleep h.live; steps = rw asleep (seq_second h.steps dead) }

-- a step of code 0
pub ended : {s : Statement} {a : ℕ → Bool} {e : Env} {step : Step} {n : ℕ → Bool} → (code_of step.completion) ≡ 0
    → Moves s a e step n → StepsTo s (term_at s a) e (set_of step.signals) 0 n
ended z h = rw z at h.steps

-- `;`: the first part ends and the second cannot begin
pub seq_stuck : {x y : _} {p q : Statement} {a : ℕ → Bool} {e : Env} {step : Step} {m : ℕ → Bool}
    → (code_of step.completion) ≡ 0 → Moves p a e step m → HasNoRule (term_of q) e → CannotMove (Seq' x p y q) a e
seq_stuck z h none = record { live = rw h.live refl; none = rw h.live (seq_none _ _ _ _ _ (ended z h).gives none) }

-- `;`: the first part ends and the second begins
pub seq_moves : {x y : _} {p q : Statement} {a : ℕ → Bool} {e : Env} {first step : Step} {m n : ℕ → Bool}
    (second : Step)
    → (code_of first.completion) ≡ 0 → Moves p a e first m
    → StepsTo q (term_of q) e (set_of second.signals) (code_of second.completion) n → is_live p n ≡ false
    → set_of step.signals ≡ union (set_of first.signals) (set_of second.signals)
    → (code_of step.completion) ≡ (code_of second.completion) → Moves (Seq' x p y q) a e step n
seq_moves second z h g dead es ec =
    record { live = rw h.live refl; steps = rw (h.live, es, ec) (seq_goes (ended z h) g dead) }

-- `loop`: the body ends and cannot begin again
pub loop_stuck : {x : _} {p : Statement} {a : ℕ → Bool} {e : Env} {step : Step} {m : ℕ → Bool}
    → (code_of step.completion) ≡ 0 → Moves p a e step m → HasNoRule (term_of p) e → CannotMove (Loop' x p) a e
loop_stuck z h none = record { live = h.live; none = seq_none _ _ _ _ _ (ended z h).gives (loop_none_in _ _ none) }

-- `loop`: the body ends, begins again and ends at once
pub loop_races : {x : _} {p : Statement} {a : ℕ → Bool} {e : Env} {first : Step} {m n : ℕ → Bool} (again : Step)
    → (code_of first.completion) ≡ 0 → Moves p a e first m → (code_of again.completion) ≡ 0
    → StepsTo p (term_of p) e (set_of again.signals) (code_of again.completion) n → CannotMove (Loop' x p) a e
loop_races again z h w g =
    let g' = rw w at g.gives in
    record { live = h.live; none = seq_none _ _ _ _ _ (ended z h).gives (loop_none _ _ _ _ g') }

-- `loop`: the body ends and begins again
pub loop_moves : {x : _} {p : Statement} {a : ℕ → Bool} {e : Env} {first step : Step} {m n : ℕ → Bool} (again : Step)
    → (code_of first.completion) ≡ 0 → Moves p a e first m → (code_of again.completion) ≢ 0
    → StepsTo p (term_of p) e (set_of again.signals) (code_of again.completion) n
    → set_of step.signals ≡ union (set_of first.signals) (set_of again.signals)
    → (code_of step.completion) ≡ (code_of again.completion) → Moves (Loop' x p) a e step n
loop_moves again z h d g es ec = record { live = h.live; steps = rw (es, ec) (loop_again d (ended z h) g) }

-- a suspended statement whose signal is present stays where it is
pub held_moves : {x : _} {s : _} {p : Statement} {e : Env} {n : ℕ → Bool} {step : Step} (a m : ℕ → Bool)
    → Present ≡ status_of e (query_of s) → is_live p a ≡ true → IsExclusive p a
    → ((i : ℕ) → n i ≡ cond (has_pause p i) (a i) (m i))
    → set_of step.signals ≡ no_signals → (code_of step.completion) ≡ 1 → Moves (Suspend' s x p) a e step n
held_moves a m d live x f es ec = record { live = live; steps = rw (es, ec) (stays_held a m d live x f) }

-- a side of a parallel that ended before or that moves
pub ended_side : (s : Statement) (a : ℕ → Bool) (e : Env) (n : ℕ → Bool) (o : Signals) (k : ℕ) → is_live s a ≡ false
    → is_live s n ≡ false → o ≡ no_signals → k ≡ 0
    → StepsTo s (cond (is_live s a) (term_at s a) nothing) e o k n
ended_side s a e n o k asleep dead eo ek = rw (asleep, eo, ek) (idle s e n dead)

-- a side of a parallel that has moved
pub moved_side : {s : Statement} {a : ℕ → Bool} {e : Env} {step : Step} {n : ℕ → Bool} → Moves s a e step n
    → StepsTo s (cond (is_live s a) (term_at s a) nothing) e (set_of step.signals) (code_of step.completion) n
moved_side h = rw h.live h.steps

-- `||`: both sides
pub par_moves : {x y : _} {p q : Statement} {a : ℕ → Bool} {e : Env} {step : Step} {n m : ℕ → Bool} (left right : Step)
    → StepsTo p (cond (is_live p a) (term_at p a) nothing) e (set_of left.signals) (code_of left.completion) n
    → StepsTo q (cond (is_live q a) (term_at q a) nothing) e (set_of right.signals) (code_of right.completion) n
    → (is_live p a || is_live q a) ≡ true
    → set_of step.signals ≡ union (set_of left.signals) (set_of right.signals)
    → (code_of step.completion) ≡ max (code_of left.completion) (code_of right.completion)
    → ((code_of step.completion) ≡ 1 → (x : ℕ) → m x ≡ n x) → ((code_of step.completion) ≢ 1 → is_live p m ≡ false)
    → ((code_of step.completion) ≢ 1 → is_live q m ≡ false)
    → Moves (Par' x p y q) a e step m
par_moves left right h g live es ec kept dp dq = record {
  live = live;
  steps = rw (es, ec)
      (par_settles h g (λ z. kept (ec ∙ z)) (λ z. dp (λ w. z (sym ec ∙ w))) (λ z. dq (λ w. z (sym ec ∙ w))));
}

-- `||`: both sides sleep
pub par_sleeps : {x y : _} {p q : Statement} {a n : ℕ → Bool} → is_live p a ≡ false → is_live p n ≡ false
    → Sleeps q a n → Sleeps (Par' x p y q) a n
par_sleeps asleep dead h = record { asleep = rw asleep h.asleep; still = rw dead h.still }

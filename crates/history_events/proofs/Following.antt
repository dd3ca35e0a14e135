-- What holds at the opening and is kept by each event holds before each moment of a run.
use Rattle.std.proofs.Common.{◌≡◌, ◌∙◌, ℕ, zero, suc, List, [], ◌∷◌, ◌++◌, take, drop, ap, sym, subst, append-nil}
use Rattle.std.proofs.Common.{append_assoc}
use Rattle.std.specs.Prelude.{Some, slice_get}
use Rattle.history_events.specs.Runs.{WorldState, opening_world, Moment, EventStep, Follow, IsRun, Comes}

module _ (Holds : List Moment → WorldState → Type 0)
    (kept : (past : List Moment) (m : Moment) → Holds past m.before → EventStep m.event m.before m.reply m.after
    → Holds (past ++ m ∷ []) m.after) where
  -- it holds before the moment, which is a step
  pub record Reached (past : List Moment) (m : Moment) : Type 0 where
    pub holds : Holds past m.before
    pub step : EventStep m.event m.before m.reply m.after

  reached_from : (past : List Moment) (world : WorldState) → Holds past world → (more later : List Moment) (m : Moment)
      → Follow world (more ++ m ∷ later) → Reached (past ++ more) m
  reached_from past world holds [] later m follow =
      record {
        holds = subst (λ p. Holds p m.before) (sym (append-nil past)) (subst (Holds past) (sym follow.0) holds);
        step = follow.1;
      }
  reached_from past world holds (x ∷ more) later m follow =
      let next : Holds (past ++ x ∷ []) x.after = kept past x (subst (Holds past) (sym follow.0) holds) follow.1 in
      subst (λ p. Reached p m) (append_assoc past (x ∷ []) more)
      (reached_from (past ++ x ∷ []) x.after next more later m follow.2)

  pub reached : Holds [] opening_world → (past : List Moment) (m : Moment) → Comes past m → Reached past m
  reached opens past m comes = reached_from [] opening_world opens past comes.later m comes.run

-- a list, split at a place
pub split_at : {A : Type 0} (xs : List A) (n : ℕ) (x : A) → slice_get xs n ≡ Some x
    → xs ≡ take n xs ++ x ∷ drop (suc n) xs
split_at [] n x there = cc
split_at (y ∷ ys) zero x there = let e : y ≡ x = cc in ap (λ z. z ∷ ys) e
split_at (y ∷ ys) (suc n) x there = ap (λ zs. y ∷ zs) (split_at ys n x there)

-- each moment of a run comes after those at the places before it
pub run_comes : (run : List Moment) → IsRun run → (n : ℕ) (m : Moment) → slice_get run n ≡ Some m → Comes (take n run) m
run_comes run is n m there = record { later = drop (suc n) run; run = subst IsRun (split_at run n m there) is }

-- and so does each moment of the past
pub earlier_comes : (past : List Moment) (m : Moment) → Comes past m → (n : ℕ) (x : Moment) → slice_get past n ≡ Some x
    → Comes (take n past) x
earlier_comes past m comes n x there = record {
  later = drop (suc n) past ++ m ∷ comes.later;
  run = subst IsRun
      (ap (λ xs. xs ++ m ∷ comes.later) (split_at past n x there)
      ∙ append_assoc (take n past) (x ∷ drop (suc n) past) (m ∷ comes.later)) comes.run;
}

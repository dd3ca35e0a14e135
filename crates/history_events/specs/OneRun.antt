-- That a list of events has one run, want of memory aside (this project's own form).
use Rattle.std.specs.Prelude.{◌≡◌, ◌⊎◌, List, ◌∷◌, ◌++◌, IsTrue, map}
use Rattle.access_core.specs.declared.refusal.Refusal.TheVariants.{Memory}
use Rattle.access_core.specs.declared.reply.Reply.{Reply}
use Rattle.access_core.specs.declared.reply.Reply.TheVariants.{Refused}
use Rattle.history_events.specs.declared.event.Event.{Event}
use Rattle.history_events.specs.Runs.{WorldState, Moment, IsRun, Comes, wants_memory, EndsIn}

-- the events of moments, in their order
abbrev pub events_of : List Moment → List Event
events_of moments = map (λ (m : Moment). m.event) moments

-- after the same past, the same event is answered the same and leaves the same world, unless memory is refused to one
-- of the two
abbrev pub OneMomentFollows : Type 0
OneMomentFollows =
    (past : List Moment) (m n : Moment) → Comes past m → Comes past n → m.event ≡ n.event
    → ¬ (m.reply ≡ Refused Memory) → ¬ (n.reply ≡ Refused Memory) → m ≡ n

-- two runs are the same up to a moment at which memory is refused to one of them
pub record PartForMemory (run other : List Moment) : Type 0 where
  pub past : List Moment
  pub m : Moment
  pub n : Moment
  pub later : List Moment
  pub rest : List Moment
  pub one : run ≡ past ++ m ∷ later
  pub two : other ≡ past ++ n ∷ rest
  pub refused : IsTrue (wants_memory m.reply) ⊎ IsTrue (wants_memory n.reply)

-- two runs of the same events are the same, or part where memory is refused to one of them
abbrev pub OneRun : Type 0
OneRun =
    (run other : List Moment) → IsRun run → IsRun other → events_of run ≡ events_of other
    → (run ≡ other) ⊎ PartForMemory run other

-- events to none of which memory is refused are answered by the same replies, and end in the same world
abbrev pub OneEnd : Type 0
OneEnd =
    (events : List Event) (replies others : List Reply) (world last : WorldState)
    → EndsIn events replies world → EndsIn events others last → (replies ≡ others) × (world ≡ last)

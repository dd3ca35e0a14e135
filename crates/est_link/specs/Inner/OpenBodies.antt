-- The flat bodies that open bodies of the code are, and the signals that they have (this project's own form).
use Rattle.std.specs.Prelude.{◌≡◌, ◌<◌, ℕ, ◌+◌, Bool, true, List, length, map, get_or, Option, Some, None, is_some}
use Rattle.std.specs.Prelude.{if◌then◌else◌}
use Rattle.est_kernel.specs.Term.{Name, outer, inner, Query, tick, of, Joint}
use Rattle.est_link.specs.Inner.Meant.{itself, again}
use Rattle.est_link.specs.Linking.{Meant, query_meant, queries_meant, body_meant}
use Rattle.est_link.specs.Inner.Watches.{watched}
use Rattle.est_link.specs.declared.meaning.Meaning.{Meaning}
use Rattle.est_link.specs.declared.open_body.OpenBody.{OpenBody}
use Rattle.est_link.specs.declared.open_body.OpenBody.TheVariants.{Nothing, Pause, Halt, Emit, Sustain, Exit, Await}
use Rattle.est_link.specs.declared.open_body.OpenBody.TheVariants.{Present', Watched', Loop', LoopEach', Trap', Signal'}
use Rattle.est_link.specs.declared.open_body.OpenBody.TheVariants.{Seq', Par', Run'}
use Rattle.est_link.specs.declared.used_signals.UsedSignals.{UsedSignals}
use Rattle.est_link.specs.declared.signal_meanings.SignalMeanings.{SignalMeanings}
use Rattle.est_reduce.specs.Bodies.{Body, nothing, pause, halt, emit, sustain, exit, await, present, repeat}
use Rattle.est_reduce.specs.Bodies.{repeat_each, trap, signal, seq, par}
use Rattle.est_reduce.specs.Views.{bound_name, bound_query}
use Rattle.est_reduce.specs.declared.body.BoundTest.{BoundTest}

-- what a value of the code says that a signal means
abbrev pub meaning_of : Meaning → Meant
meaning_of m = record { asked = if m.is_tick then tick else of (bound_name m.signal); sent = bound_name m.signal }

-- the meaning with a number, or another if there is no number
abbrev pub numbered : Option ℕ → List Meant → Meant → Meant
numbered None ms other = other
numbered (Some k) ms other = get_or ms k other

-- what the signals of a body mean
abbrev pub meant_by : SignalMeanings → Name → Meant
meant_by r (outer i) =
    numbered (get_or r.numbers.value.items i None) (map meaning_of r.meanings.items) (meaning_of r.other)
meant_by r (inner k) = itself (inner (r.locals + k))

-- the body, its runs replaced
abbrev pub closed_of : OpenBody → Body
closed_of Nothing = nothing
closed_of Pause = pause
closed_of Halt = halt
closed_of (Emit s) = emit (bound_name s)
closed_of (Sustain s) = sustain (bound_name s)
closed_of (Exit k) = exit k
closed_of (Await w) = await w.immediate (bound_query w.test)
closed_of (Present' t a p b q) = present (bound_query t) (closed_of p) (closed_of q)
closed_of (Watched' watch w a p) = watched watch w.immediate (bound_query w.test) (closed_of p)
closed_of (Loop' a p) = repeat (closed_of p)
closed_of (LoopEach' t a p) = repeat_each (bound_query t) (closed_of p)
closed_of (Trap' a p) = trap (closed_of p)
closed_of (Signal' n a p) = signal n (closed_of p)
closed_of (Seq' a p b q) = seq (closed_of p) (closed_of q)
closed_of (Par' a p b q) = par (closed_of p) (closed_of q)
closed_of (Run' a p r) = body_meant (meant_by r) (closed_of p)

-- ---- the interface signals that a body has

-- whether the interface signal at a place has a number
abbrev pub has_number : UsedSignals → ℕ → Bool
has_number o i = is_some (get_or o.numbers.items i None)

-- each number is in the list, and its meaning is the signal itself
pub record AreUsed (o : UsedSignals) : Type 0 where
  pub listed : (i k : ℕ) → get_or o.numbers.items i None ≡ Some k → k < length o.meanings.items
  pub means : (i k : ℕ) → get_or o.numbers.items i None ≡ Some k → (other : Meant)
      → get_or (map meaning_of o.meanings.items) k other ≡ itself (outer i)

-- those that have a number, and all local signals, mean themselves
pub record MeanThemselves (o : UsedSignals) (g : Name → Meant) : Type 0 where
  pub outers : (i : ℕ) → has_number o i ≡ true → g (outer i) ≡ itself (outer i)
  pub inners : (k : ℕ) → g (inner k) ≡ itself (inner k)

-- a signal that means itself wherever the signals with numbers and the local ones do
abbrev pub IsKept : UsedSignals → Name → Type 0
IsKept o n = (g : Name → Meant) → MeanThemselves o g → g n ≡ itself n

-- a test of such signals stays what it is
abbrev pub IsTestKept : UsedSignals → Query → Type 0
IsTestKept o q = (g : Name → Meant) → MeanThemselves o g → query_meant g q ≡ q

-- tests of the code, of such signals
abbrev pub AreTestsKept : UsedSignals → List BoundTest → Type 0
AreTestsKept o ts = (g : Name → Meant) → MeanThemselves o g
    → map (λ (t : BoundTest). query_meant g (bound_query t)) ts ≡ map bound_query ts

-- operands of such signals
abbrev pub IsJointKept : UsedSignals → Joint → Type 0
IsJointKept o j = (g : Name → Meant) → MeanThemselves o g
    → (query_meant g j.first ≡ j.first) × (queries_meant g j.later ≡ j.later)

-- meanings that are such signals
abbrev pub AreMeaningsKept : UsedSignals → SignalMeanings → Type 0
AreMeaningsKept o r = (g : Name → Meant) → MeanThemselves o g → (n : Name) → meant_by r n ≡ again g (meant_by r n)

-- a body of such signals stays what it is
abbrev pub IsBodyKept : UsedSignals → Body → Type 0
IsBodyKept o b = (g : Name → Meant) → MeanThemselves o g → body_meant g b ≡ b

-- more signals have numbers, and each still means itself
abbrev pub HaveGrown : (old new : UsedSignals) → Type 0
HaveGrown old new = (AreUsed old → AreUsed new)
    × ((g : Name → Meant) → MeanThemselves new g → MeanThemselves old g)

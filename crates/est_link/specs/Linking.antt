-- Linking: a `run` is replaced by the body of the module that it runs, with its interface names bound as the renamings
-- and the names visible there say; each name becomes the number of its binder. (Berry, The Esterel v5 Language Primer,
-- the statement `run`; the numbers of binders are this project's own form)
use Rattle.std.specs.Prelude.{◌≡◌, ℕ, ◌+◌, List, [], ◌∷◌, length, map, get_or, Option, Some, None, if◌then◌else◌}
use Rattle.std.specs.List.{position}
use Rattle.std.specs.Str.{bytes_eq}
use Rattle.est_syntax.specs.Tree.{RenamingTree, TestTree}
use Rattle.est_checks.specs.RecursiveRuns.{HasRun}
use Rattle.est_link.specs.Asking.{test_asked}
use Rattle.est_kernel.specs.Term.{Name, outer, inner, Query, tick, of, negated, joined, Queries, last, more}
use Rattle.est_modules.specs.Derived as derived
use Rattle.est_modules.specs.Derived.{Derived}
use Rattle.est_modules.specs.Occurrences.{Binder, signals, a_trap}
use Rattle.est_modules.specs.Modules.{Program, program_named}
use Rattle.est_modules.specs.Renamings.{renamed}
use Rattle.est_modules.specs.declared.interface.Declared.{Declared}
use Rattle.est_reduce.specs.Bodies.{Body, nothing, pause, halt, emit, sustain, exit, await, present, suspend, abort}
use Rattle.est_reduce.specs.Bodies.{weak_abort, repeat, repeat_each, every, trap, signal, seq, par}

-- ---- what names mean at a place

-- how many local signals lie around a place
abbrev pub locals_around : List Binder → ℕ
locals_around [] = 0
locals_around (signals ns ∷ bs) = locals_around bs + length (ns.first ∷ ns.later)
locals_around (a_trap t ∷ bs) = locals_around bs

-- the interface signal at a place of the interface; a name that has none means `tick`
abbrev pub of_interface : Option ℕ → Query
of_interface None = tick
of_interface (Some i) = of (outer i)

-- the local signal at a place of a list around which l others lie; a name that has none means what it does further
-- out
abbrev pub of_list : Option ℕ → ℕ → Query → Query
of_list None l further = further
of_list (Some i) l further = of (inner (l + i))

-- the signal that a name means in the module p inside binders: the innermost local one, else that of the interface
abbrev pub signal_at : Program → List Binder → List ℕ → Query
signal_at p [] s = of_interface (position (λ (d : Declared). bytes_eq d.name s) p.interface)
signal_at p (signals ns ∷ bs) s =
    of_list (position (λ n. bytes_eq n s) (ns.first ∷ ns.later)) (locals_around bs) (signal_at p bs s)
signal_at p (a_trap t ∷ bs) s = signal_at p bs s

-- how many traps lie between an exit and the innermost trap of its name
abbrev pub trap_at : List Binder → List ℕ → ℕ
trap_at [] t = 0
trap_at (signals ns ∷ bs) t = trap_at bs t
trap_at (a_trap u ∷ bs) t = if bytes_eq u t then 0 else trap_at bs t + 1

-- ---- a body whose signals mean something else

-- what a test of a signal asks, and what its emission emits
pub record Meant : Type 0 where
  pub asked : Query
  pub sent : Name

-- the signal that an emission means: what a name means is one signal or `tick`, and `tick` is never emitted
abbrev pub emitted : Query → Name
emitted (of n) = n
emitted _ = outer 0

-- the meaning that a query gives
abbrev pub meant : Query → Meant
meant q = record { asked = q; sent = emitted q }

abbrev mutual
  -- a test, where each signal means what g says
  pub query_meant : (Name → Meant) → Query → Query
  query_meant g tick = tick
  query_meant g (of n) = (g n).asked
  query_meant g (negated t) = negated (query_meant g t)
  query_meant g (joined c t ts) = joined c (query_meant g t) (queries_meant g ts)

  -- the same of one test or more
  pub queries_meant : (Name → Meant) → Queries → Queries
  queries_meant g (last t) = last (query_meant g t)
  queries_meant g (more t ts) = more (query_meant g t) (queries_meant g ts)

-- a statement, where each signal means what g says. Local signals have numbers from the outermost inwards, so g also
-- says what those mean that the statement itself declares
abbrev pub body_meant : (Name → Meant) → Body → Body
body_meant g nothing = nothing
body_meant g pause = pause
body_meant g halt = halt
body_meant g (emit n) = emit (g n).sent
body_meant g (sustain n) = sustain (g n).sent
body_meant g (exit k) = exit k
body_meant g (await now s) = await now (query_meant g s)
body_meant g (present s p q) = present (query_meant g s) (body_meant g p) (body_meant g q)
body_meant g (suspend now s p) = suspend now (query_meant g s) (body_meant g p)
body_meant g (abort now s p) = abort now (query_meant g s) (body_meant g p)
body_meant g (weak_abort now s p) = weak_abort now (query_meant g s) (body_meant g p)
body_meant g (repeat p) = repeat (body_meant g p)
body_meant g (repeat_each s p) = repeat_each (query_meant g s) (body_meant g p)
body_meant g (every now s p) = every now (query_meant g s) (body_meant g p)
body_meant g (trap p) = trap (body_meant g p)
body_meant g (signal n p) = signal n (body_meant g p)
body_meant g (seq p q) = seq (body_meant g p) (body_meant g q)
body_meant g (par p q) = par (body_meant g p) (body_meant g q)

-- ---- a module's body where it is run

-- what a signal of a module becomes in a run of it, where its interface signals stand for those of a list, inside l
-- local signals
abbrev pub signal_in_run : List Query → ℕ → Name → Query
signal_in_run qs l (outer i) = get_or qs i tick
signal_in_run qs l (inner k) = of (inner (l + k))

-- what a test of that signal asks there, and what its emission emits
abbrev pub in_run : List Query → ℕ → Name → Meant
in_run qs l n = meant (signal_in_run qs l n)

-- what a statement of the module becomes there
abbrev pub body_in_run : List Query → ℕ → Body → Body
body_in_run qs l b = body_meant (in_run qs l) b

-- what the signals of an interface stand for where their module is run in p, inside binders
abbrev pub interface_bound : Program → List Binder → List RenamingTree → List Declared → List Query
interface_bound p bs rs ds = map (λ (d : Declared). signal_at p bs (renamed rs d.name)) ds

-- the interface of the module that is run, if there is one
abbrev pub interface_run : Option Program → List Declared
interface_run None = []
interface_run (Some q) = q.interface

-- what a test asks in the module p inside binders
abbrev pub asked_at : Program → List Binder → TestTree → Query
asked_at p bs t = test_asked (signal_at p bs) t

-- the flat statement of a statement of the module p, where each module m has the flat body (bodies m)
abbrev pub linked : List Program → (List ℕ → Body) → Program → List Binder → Derived → Body
linked ps bodies p bs derived.missing = nothing
linked ps bodies p bs derived.nothing = nothing
linked ps bodies p bs derived.pause = pause
linked ps bodies p bs derived.halt = halt
linked ps bodies p bs (derived.emit s) = emit (emitted (signal_at p bs s))
linked ps bodies p bs (derived.sustain s) = sustain (emitted (signal_at p bs s))
linked ps bodies p bs (derived.exit t) = exit (trap_at bs t)
linked ps bodies p bs (derived.await d) = await d.immediate (asked_at p bs d.test)
linked ps bodies p bs (derived.present s q r) =
    present (asked_at p bs s) (linked ps bodies p bs q) (linked ps bodies p bs r)
linked ps bodies p bs (derived.suspend q d) =
    suspend d.immediate (asked_at p bs d.test) (linked ps bodies p bs q)
linked ps bodies p bs (derived.abort q d) =
    abort d.immediate (asked_at p bs d.test) (linked ps bodies p bs q)
linked ps bodies p bs (derived.weak_abort q d) =
    weak_abort d.immediate (asked_at p bs d.test) (linked ps bodies p bs q)
linked ps bodies p bs (derived.repeat q) = repeat (linked ps bodies p bs q)
linked ps bodies p bs (derived.repeat_each q s) =
    repeat_each (asked_at p bs s) (linked ps bodies p bs q)
linked ps bodies p bs (derived.every d q) =
    every d.immediate (asked_at p bs d.test) (linked ps bodies p bs q)
linked ps bodies p bs (derived.trap t q) = trap (linked ps bodies p (a_trap t ∷ bs) q)
linked ps bodies p bs (derived.signal ns q) =
    signal (length (ns.first ∷ ns.later)) (linked ps bodies p (signals ns ∷ bs) q)
linked ps bodies p bs (derived.run m rs) =
    body_in_run (interface_bound p bs rs (interface_run (program_named ps m))) (locals_around bs) (bodies m)
linked ps bodies p bs (derived.seq q r) = seq (linked ps bodies p bs q) (linked ps bodies p bs r)
linked ps bodies p bs (derived.par q r) = par (linked ps bodies p bs q) (linked ps bodies p bs r)

-- a module has this flat body: its text gives it, where each module that it has a run of has its flat body
pub data IsLinked (ps : List Program) : List ℕ → Body → Type 0 where
  links : {m : List ℕ} {body : Body} (home : Program) (bodies : List ℕ → Body) → program_named ps m ≡ Some home
      → ((n : List ℕ) → HasRun ps m n → IsLinked ps n (bodies n)) → body ≡ linked ps bodies home [] home.body
      → IsLinked ps m body

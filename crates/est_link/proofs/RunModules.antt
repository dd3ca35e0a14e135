-- The modules that a statement runs.
use Rattle.std.proofs.Common.{◌≡◌, ℕ, List, [], ◌∷◌, ◌++◌, length, Some, None, Contains, refl, ap, ◌∙◌, subst}
use Rattle.std.proofs.lemmas.List.Elements.{Contains-append_left, Contains-append_right, Contains-push}
use Rattle.est_modules.specs.Derived.{Derived, missing, nothing, pause, halt, emit, sustain, exit, await, present}
use Rattle.est_modules.specs.Derived.{suspend, abort, weak_abort, repeat, repeat_each, every, trap, signal, run, seq}
use Rattle.est_modules.specs.Derived.{par}
use Rattle.est_modules.specs.Occurrences.{Act, emits, tests, exits, binds, runs, Binder, signals, a_trap, Occurrence}
use Rattle.est_modules.specs.Occurrences.{occurrences, tested}
use Rattle.est_modules.specs.Modules.{Program, program_named, first_in_bodies}
use Rattle.est_checks.specs.MissingModules.{missing_at}
use Rattle.est_checks.specs.RecursiveRuns.{HasRun}
use Rattle.est_link.specs.Linking.{linked, asked_at, interface_bound, interface_run, body_in_run, locals_around}
use Rattle.est_link.specs.Inner.AllRuns.{AllRuns}
use Rattle.est_reduce.specs.Bodies as flat
use Rattle.est_reduce.specs.Bodies.{Body}
use Rattle.est_modules.proofs.Ordering.{IsRunOf}
use Rattle.est_checks.proofs.Uniqueness.{runs_are_there}

-- ---- what a statement runs stands among its occurrences

pub runs_among : (P : List ℕ → Type 0) (bs : List Binder) (d : Derived)
    → ((o : Occurrence) → Contains (occurrences bs d) o → (m : List ℕ) → IsRunOf o.act m → P m) → AllRuns P d
runs_among P bs missing h = tt
runs_among P bs nothing h = tt
runs_among P bs pause h = tt
runs_among P bs halt h = tt
runs_among P bs (emit s) h = tt
runs_among P bs (sustain s) h = tt
runs_among P bs (exit t) h = tt
runs_among P bs (await d) h = tt
runs_among P bs (present s p q) h = (
  runs_among P bs p
      (λ o x. h o
      (Contains-append_right (tested bs s) (occurrences bs p ++ occurrences bs q) o
      (Contains-append_left (occurrences bs p) (occurrences bs q) o x))),
  runs_among P bs q
      (λ o x. h o
      (Contains-append_right (tested bs s) (occurrences bs p ++ occurrences bs q) o
      (Contains-append_right (occurrences bs p) (occurrences bs q) o x))),
)
runs_among P bs (suspend p d) h = runs_among P bs p (λ o x. h o (Contains-append_left (occurrences bs p) _ o x))
runs_among P bs (abort p d) h = runs_among P bs p (λ o x. h o (Contains-append_left (occurrences bs p) _ o x))
runs_among P bs (weak_abort p d) h = runs_among P bs p (λ o x. h o (Contains-append_left (occurrences bs p) _ o x))
runs_among P bs (repeat p) h = runs_among P bs p h
runs_among P bs (repeat_each p s) h = runs_among P bs p (λ o x. h o (Contains-append_left (occurrences bs p) _ o x))
runs_among P bs (every d p) h =
    runs_among P bs p (λ o x. h o (Contains-append_right (tested bs d.test) (occurrences bs p) o x))
runs_among P bs (trap t p) h = runs_among P (a_trap t ∷ bs) p h
runs_among P bs (signal ns p) h = runs_among P (signals ns ∷ bs) p
    (λ o x. h o (Contains-append_right (_ ∷ []) (occurrences (signals ns ∷ bs) p) o x))
runs_among P bs (run m rs) h = h (record { act = runs m rs; around = bs })
    (Contains-push [] (record { act = runs m rs; around = bs })) m refl
runs_among P bs (seq p q) h = (
  runs_among P bs p (λ o x. h o (Contains-append_left (occurrences bs p) (occurrences bs q) o x)),
  runs_among P bs q (λ o x. h o (Contains-append_right (occurrences bs p) (occurrences bs q) o x)),
)
runs_among P bs (par p q) h = (
  runs_among P bs p (λ o x. h o (Contains-append_left (occurrences bs p) (occurrences bs q) o x)),
  runs_among P bs q (λ o x. h o (Contains-append_right (occurrences bs p) (occurrences bs q) o x)),
)

-- ---- the modules that a module has runs of

-- an act that is a run of a module
run_acted : (ps : List Program) (m : List ℕ) (p : Program) → program_named ps m ≡ Some p → (act : Act)
    (bs : List Binder) → Contains (occurrences [] p.body) (record { act = act; around = bs }) → (n : List ℕ)
    → IsRunOf act n → HasRun ps m n
run_acted ps m p found (emits s) bs stands n is_run = absurd is_run
run_acted ps m p found (tests s) bs stands n is_run = absurd is_run
run_acted ps m p found (exits t) bs stands n is_run = absurd is_run
run_acted ps m p found (binds ns) bs stands n is_run = absurd is_run
run_acted ps m p found (runs k rs) bs stands n is_run = record {
  home = p;
  there = found;
  renamings = rs;
  around = bs;
  stands = subst (λ (x : List ℕ). Contains (occurrences [] p.body) (record { act = runs x rs; around = bs })) is_run
      stands;
}

-- what holds of each module that it has a run of
pub from_runs : (ps : List Program) (P : List ℕ → Type 0) (m : List ℕ) (p : Program) → program_named ps m ≡ Some p
    → ((n : List ℕ) → HasRun ps m n → P n) → AllRuns P p.body
from_runs ps P m p found each = runs_among P [] p.body
    (λ o stands n is_run. each n (run_acted ps m p found o.act o.around stands n is_run))

-- each is there, where none is missing
pub run_there : (ps : List Program) → first_in_bodies (missing_at ps) ps ≡ None → (m n : List ℕ) → HasRun ps m n
    → (q : Program) × (program_named ps n ≡ Some q)
run_there ps there m n ran =
    runs_are_there ps m ran.home there ran.there (record { act = runs n ran.renamings; around = ran.around }) ran.stands
    n
    refl

-- ---- what a statement is linked to

-- a statement has the same flat statement where the modules that it runs have the same bodies
pub same_linked : (ps : List Program) (b c : List ℕ → Body) (p : Program) (bs : List Binder) (d : Derived)
    → AllRuns (λ m. b m ≡ c m) d → linked ps b p bs d ≡ linked ps c p bs d
same_linked ps b c p bs missing h = refl
same_linked ps b c p bs nothing h = refl
same_linked ps b c p bs pause h = refl
same_linked ps b c p bs halt h = refl
same_linked ps b c p bs (emit s) h = refl
same_linked ps b c p bs (sustain s) h = refl
same_linked ps b c p bs (exit t) h = refl
same_linked ps b c p bs (await d) h = refl
same_linked ps b c p bs (present s q r) h =
    ap (λ x. flat.present (asked_at p bs s) x (linked ps b p bs r)) (same_linked ps b c p bs q h.0)
    ∙ ap (λ x. flat.present (asked_at p bs s) (linked ps c p bs q) x) (same_linked ps b c p bs r h.1)
same_linked ps b c p bs (suspend q d) h = ap (λ x. flat.suspend d.immediate (asked_at p bs d.test) x)
    (same_linked ps b c p bs q h)
same_linked ps b c p bs (abort q d) h = ap (λ x. flat.abort d.immediate (asked_at p bs d.test) x)
    (same_linked ps b c p bs q h)
same_linked ps b c p bs (weak_abort q d) h = ap (λ x. flat.weak_abort d.immediate (asked_at p bs d.test) x)
    (same_linked ps b c p bs q h)
same_linked ps b c p bs (repeat q) h = ap flat.repeat (same_linked ps b c p bs q h)
same_linked ps b c p bs (repeat_each q s) h = ap (λ x. flat.repeat_each (asked_at p bs s) x)
    (same_linked ps b c p bs q h)
same_linked ps b c p bs (every d q) h = ap (λ x. flat.every d.immediate (asked_at p bs d.test) x)
    (same_linked ps b c p bs q h)
same_linked ps b c p bs (trap t q) h = ap flat.trap (same_linked ps b c p (a_trap t ∷ bs) q h)
same_linked ps b c p bs (signal ns q) h = ap (λ x. flat.signal (length (ns.first ∷ ns.later)) x)
    (same_linked ps b c p (signals ns ∷ bs) q h)
same_linked ps b c p bs (run m rs) h =
    ap (body_in_run (interface_bound p bs rs (interface_run (program_named ps m))) (locals_around bs)) h
same_linked ps b c p bs (seq q r) h =
    ap (λ x. flat.seq x (linked ps b p bs r)) (same_linked ps b c p bs q h.0)
    ∙ ap (λ x. flat.seq (linked ps c p bs q) x) (same_linked ps b c p bs r h.1)
same_linked ps b c p bs (par q r) h =
    ap (λ x. flat.par x (linked ps b p bs r)) (same_linked ps b c p bs q h.0)
    ∙ ap (λ x. flat.par (linked ps c p bs q) x) (same_linked ps b c p bs r h.1)

-- Where no name is at fault, each name of a module's flat body is bound.
use Rattle.std.proofs.Common.{◌≡◌, ℕ, ◌+◌, List, [], ◌∷◌, ◌++◌, length, Bool, true, false, not, ◌||◌, ◌&&◌}
use Rattle.std.proofs.Common.{if◌then◌else◌, Option, Some, None, refl, sym, ◌∙◌, subst, arith}
use Rattle.std.specs.List.{list_any, AllByRecursion}
use Rattle.std.proofs.lemmas.Bool.{or_right, or_left, and_from, not_from_false}
use Rattle.est_modules.specs.Derived as derived
use Rattle.est_modules.specs.Derived.{Derived}
use Rattle.est_checks.specs.RecursiveRuns.{HasRun}
use Rattle.est_link.specs.Bodies.{MayEmit, IsBody, IsSent, HasSoundNames}
use Rattle.est_link.specs.Inner.AllRuns.{AllRuns}
use Rattle.est_checks.specs.Emissions.{refused_at, is_refused, emits_by}
use Rattle.est_link.specs.Linking.{linked, body_in_run, interface_bound, interface_run, locals_around, signal_at}
use Rattle.est_link.specs.Linking.{emitted}
use Rattle.est_modules.specs.Modules.{Program, program_named}
use Rattle.est_modules.specs.Occurrences.{Binder, signals, a_trap, emits, runs, Occurrence, tested, occurrences}
use Rattle.est_modules.specs.Occurrences.{first_of}
use Rattle.est_checks.specs.UnknownNames.{unknown_at, unless}
use Rattle.est_checks.proofs.Seeing.{known as known_name}
use Rattle.est_modules.specs.Visible.{is_local, is_trap, is_visible}
use Rattle.est_syntax.specs.Tree.{RenamingTree}
use Rattle.est_link.proofs.Binding.{bound_body}
use Rattle.est_link.proofs.Naming.{IsFine, test_at, traps_around, trap_within, sent_at, run_bindings}
use Rattle.est_modules.proofs.Testing.{equal_bytes, or_none_parts}
use Rattle.est_modules.proofs.Testing.{all_parts}
use Rattle.est_link.proofs.RunModules.{from_runs}
use Rattle.est_reduce.specs.Bodies.{Body, nothing, pause, halt, emit, sustain, exit, await, present, suspend, abort}
use Rattle.est_reduce.specs.Bodies.{weak_abort, repeat, repeat_each, every, trap, signal, seq, par}

-- a body is bound inside further traps
more_traps : (n : ℕ) (may : ℕ → Type 0) (k t l : ℕ) (f : Body) → IsBody n may t l f → IsBody n may (t + k) l f
more_traps n may k t l nothing h = tt
more_traps n may k t l pause h = tt
more_traps n may k t l halt h = tt
more_traps n may k t l (emit s) h = h
more_traps n may k t l (sustain s) h = h
more_traps n may k t l (exit j) h = omega (arith, h)
more_traps n may k t l (await now s) h = h
more_traps n may k t l (present s p q) h = (h.0, more_traps n may k t l p h.1, more_traps n may k t l q h.2)
more_traps n may k t l (suspend now s p) h = (h.0, more_traps n may k t l p h.1)
more_traps n may k t l (abort now s p) h = (h.0, more_traps n may k t l p h.1)
more_traps n may k t l (weak_abort now s p) h = (h.0, more_traps n may k t l p h.1)
more_traps n may k t l (repeat p) h = more_traps n may k t l p h
more_traps n may k t l (repeat_each s p) h = (h.0, more_traps n may k t l p h.1)
more_traps n may k t l (every now s p) h = (h.0, more_traps n may k t l p h.1)
more_traps n may k t l (trap p) h =
    let P : ℕ → Type 0 = λ x. IsBody n may x l p in
    let e : t + 1 + k ≡ t + k + 1 = omega arith in
    subst P e (more_traps n may k (t + 1) l p h)
more_traps n may k t l (signal j p) h = more_traps n may k t (l + j) p h
more_traps n may k t l (seq p q) h = (more_traps n may k t l p h.0, more_traps n may k t l q h.1)
more_traps n may k t l (par p q) h = (more_traps n may k t l p h.0, more_traps n may k t l q h.1)

-- ---- what is known of each occurrence

emission_here : (local sent : Bool) (others : Bool) → local ≡ false → sent ≡ true
    → ((not local && sent) || others) ≡ true
emission_here local sent others h e = or_left (not local && sent) others
    (and_from (not local) sent (not_from_false local h) e)

pub all_fine : (ps : List Program) (em : List ℕ → List ℕ → Bool) (p : Program) (os : List Occurrence)
    → first_of (unknown_at ps p) os ≡ None → first_of (refused_at ps em p) os ≡ None
    → ((s : List ℕ) → list_any (λ (o : Occurrence). not (is_local o.around s) && emits_by ps em s o.act) os ≡ true
    → em p.name s ≡ true) → AllByRecursion (IsFine ps em p) os
all_fine ps em p [] known accepted sent = tt
all_fine ps em p (o ∷ os) known accepted sent =
    let unknown = or_none_parts (unknown_at ps p o) (first_of (unknown_at ps p) os) known in
    let refused = or_none_parts (refused_at ps em p o) (first_of (refused_at ps em p) os) accepted in
    let later = λ (s : List ℕ). list_any (λ (o : Occurrence). not (is_local o.around s) && emits_by ps em s o.act) os
    in (
      record {
        known = unknown.0;
        accepted = refused.0;
        sent = λ s h e. sent s (emission_here (is_local o.around s) (emits_by ps em s o.act) (later s) h e);
      },
      all_fine ps em p os unknown.1 refused.1
          (λ s h. sent s (or_right (not (is_local o.around s) && emits_by ps em s o.act) (later s) h)),
    )

-- ---- a statement

accepted_name : (b : Bool) (s : List ℕ) → (if b then Some s else None) ≡ None → b ≡ false
accepted_name true s h = cc
accepted_name false s h = refl

fine_emission : (ps : List Program) (em : List ℕ → List ℕ → Bool) (p : Program) (bs : List Binder) (s : List ℕ)
    → IsFine ps em p (record { act = emits s; around = bs })
    → MayEmit (length p.interface) (IsSent em p) (locals_around bs) (emitted (signal_at p bs s))
fine_emission ps em p bs s fine = sent_at em p bs s (known_name (is_visible p bs s) s fine.known)
    (accepted_name (is_refused p bs s) s fine.accepted) (λ h. fine.sent s h (equal_bytes s))

-- the body of a module that is run has its names bound; one that isn't there does nothing
abbrev pub IsSound : (List ℕ → List ℕ → Bool) → Option Program → Body → Type 0
IsSound em None f = f ≡ nothing
IsSound em (Some q) f = IsBody (length q.interface) (IsSent em q) 0 0 f

run_bound : (ps : List Program) (em : List ℕ → List ℕ → Bool) (p : Program) (bs : List Binder) (m : List ℕ)
    (rs : List RenamingTree) (o : Option Program) (f : Body) → program_named ps m ≡ o
    → IsFine ps em p (record { act = runs m rs; around = bs }) → IsSound em o f
    → IsBody (length p.interface) (IsSent em p) (traps_around bs) (locals_around bs)
    (body_in_run (interface_bound p bs rs (interface_run o)) (locals_around bs) f)
run_bound ps em p bs m rs None f found fine sound =
    subst (λ x. IsBody (length p.interface) (IsSent em p) (traps_around bs) (locals_around bs)
    (body_in_run (interface_bound p bs rs []) (locals_around bs) x)) (sym sound) tt
run_bound ps em p bs m rs (Some q) f found fine sound =
    let e : locals_around bs + 0 ≡ locals_around bs = omega arith in
    let none : 0 + traps_around bs ≡ traps_around bs = omega arith in
    subst (λ l. IsBody (length p.interface) (IsSent em p) (traps_around bs) l
    (body_in_run (interface_bound p bs rs q.interface) (locals_around bs) f)) e
    (bound_body (length q.interface) (IsSent em q) (length p.interface) (IsSent em p) (locals_around bs)
    (interface_bound p bs rs q.interface) (run_bindings ps em p bs m rs q found fine) (traps_around bs) 0 f
    (subst (λ t. IsBody (length q.interface) (IsSent em q) t 0 f) none
    (more_traps (length q.interface) (IsSent em q) (traps_around bs) 0 0 f sound)))

pub linked_bound : (ps : List Program) (em : List ℕ → List ℕ → Bool) (p : Program) (b : List ℕ → Body)
    (bs : List Binder) (d : Derived) → AllByRecursion (IsFine ps em p) (occurrences bs d)
    → AllRuns (λ m. IsSound em (program_named ps m) (b m)) d
    → IsBody (length p.interface) (IsSent em p) (traps_around bs) (locals_around bs) (linked ps b p bs d)
linked_bound ps em p b bs derived.missing h r = tt
linked_bound ps em p b bs derived.nothing h r = tt
linked_bound ps em p b bs derived.pause h r = tt
linked_bound ps em p b bs derived.halt h r = tt
linked_bound ps em p b bs (derived.emit s) h r = fine_emission ps em p bs s h.0
linked_bound ps em p b bs (derived.sustain s) h r = fine_emission ps em p bs s h.0
linked_bound ps em p b bs (derived.exit t) h r = trap_within bs t (known_name (is_trap bs t) t h.0.known)
linked_bound ps em p b bs (derived.await d) h r = test_at p bs d.test
linked_bound ps em p b bs (derived.present s q e) h r =
    let rest = all_parts (IsFine ps em p) (tested bs s) (occurrences bs q ++ occurrences bs e) h in
    let parts = all_parts (IsFine ps em p) (occurrences bs q) (occurrences bs e) rest.1 in
    (test_at p bs s, linked_bound ps em p b bs q parts.0 r.0, linked_bound ps em p b bs e parts.1 r.1)
linked_bound ps em p b bs (derived.suspend q d) h r = (
  test_at p bs d.test,
  linked_bound ps em p b bs q (all_parts
      (IsFine ps em p) (occurrences bs q) _ h).0 r,
)
linked_bound ps em p b bs (derived.abort q d) h r = (
  test_at p bs d.test,
  linked_bound ps em p b bs q (all_parts
      (IsFine ps em p) (occurrences bs q) _ h).0 r,
)
linked_bound ps em p b bs (derived.weak_abort q d) h r = (
  test_at p bs d.test,
  linked_bound ps em p b bs q
      (all_parts (IsFine ps em p) (occurrences bs q) _ h).0 r,
)
linked_bound ps em p b bs (derived.repeat q) h r = linked_bound ps em p b bs q h r
linked_bound ps em p b bs (derived.repeat_each q s) h r = (
  test_at p bs s,
  linked_bound ps em p b bs q (all_parts
      (IsFine ps em p) (occurrences bs q) _ h).0 r,
)
linked_bound ps em p b bs (derived.every d q) h r = (
  test_at p bs d.test,
  linked_bound ps em p b bs q (all_parts
      (IsFine ps em p) (tested bs d.test) (occurrences bs q) h).1 r,
)
linked_bound ps em p b bs (derived.trap t q) h r = linked_bound ps em p b (a_trap t ∷ bs) q h r
linked_bound ps em p b bs (derived.signal ns q) h r = linked_bound ps em p b (signals ns ∷ bs) q h.1 r
linked_bound ps em p b bs (derived.run m rs) h r = run_bound ps em p bs m rs (program_named ps m) (b m) refl h.0 r
linked_bound ps em p b bs (derived.seq q e) h r =
    let parts = all_parts (IsFine ps em p) (occurrences bs q) (occurrences bs e) h in
    (linked_bound ps em p b bs q parts.0 r.0, linked_bound ps em p b bs e parts.1 r.1)
linked_bound ps em p b bs (derived.par q e) h r =
    let parts = all_parts (IsFine ps em p) (occurrences bs q) (occurrences bs e) h in
    (linked_bound ps em p b bs q parts.0 r.0, linked_bound ps em p b bs e parts.1 r.1)

-- ---- a module

-- each name of a module's body is bound, where those of the modules that it runs are
pub body_bound : (ps : List Program) (em : List ℕ → List ℕ → Bool) (m : List ℕ) (p : Program) (b : List ℕ → Body)
    → program_named ps m ≡ Some p → HasSoundNames ps em
    → ((n : List ℕ) → HasRun ps m n → IsSound em (program_named ps n) (b n))
    → IsBody (length p.interface) (IsSent em p) 0 0 (linked ps b p [] p.body)
body_bound ps em m p b found names sound =
    linked_bound ps em p b [] p.body
    (all_fine ps em p (occurrences [] p.body) (names.known m p found) (names.accepted m p found)
    (λ s h. names.emissions m p found s ∙ h))
    (from_runs ps (λ n. IsSound em (program_named ps n) (b n)) m p found sound)

-- Inputs that are offered one after another, and the states in which a module stood.
use Rattle.std.proofs.Common.{◌≡◌, ◌<◌, ◌+◌, ◌∷◌, [], ℕ, List, Bor, Bool, true, false, Some, None, Ok, Err}
use Rattle.std.proofs.Common.{length, drop, map, refl, subst, arith, inl, inr}
use Rattle.std.specs.Prelude.{slice_get, if◌then◌else◌}
use Rattle.std.proofs.lemmas.Option.{get_or_from_slice_get, slice_get_within}
use Rattle.std.specs.List.{Contains}
use Rattle.std.proofs.lemmas.List.{drop_more, length-append}
use Rattle.std.proofs.lemmas.List.Elements.{Contains-push_cases}
use Rattle.est_kernel.specs.declared.kernel.Kernel.{Kernel}
use Rattle.est_kernel.specs.declared.state.State.{State}
use Rattle.est_kernel.specs.declared.state.Inputs.{Inputs}
use Rattle.est_meaning.specs.States.{IsState}
use Rattle.est_meaning.specs.declared.status.Status.{Status}
use Rattle.est_relations.specs.Offers.{PendingInputs}
use Rattle.est_relations.specs.declared.refusal.PendingRefusal.{PendingRefusal}
use Rattle.lab_instant.specs.Instants.{IsInstant}
use Rattle.lab_instant.specs.declared.seen.Instant.{Instant}
use Rattle.lab_instant.specs.declared.seen.Instant.TheVariants.{Reaction, Stuck}
use Rattle.lab_instant.specs.declared.instant.InstantReader.{InstantReader}
use Rattle.reactor_core.specs.declared.kernel_module.Module.{Module}
use Rattle.lab_run.specs.Walking.{AreLoaded, AreOffered, IsInstantOf, NameAnswer, SteppedState, states_after}

-- a text that is given as an identifier is that
pub given_name : (b : Bool) (text name : List ℕ) → (if b then Some text else None) ≡ Some name → text ≡ name
given_name true text name given = cc
given_name false text name given = cc

-- the next name is taken
pub one_taken : (names : List (Bor (List ℕ))) (i : ℕ) (name : Bor (List ℕ)) (p next : PendingInputs) (answer : _)
    → slice_get names i ≡ Some name → NameAnswer p name.now (Ok (record {})) next
    → AreOffered next (map (λ t. t.now) (drop (i + 1) names)) answer
    → AreOffered p (map (λ t. t.now) (drop i names)) answer
one_taken names i name p next answer there taken later =
    rw (drop_more names i name (slice_get_within names i name there), get_or_from_slice_get names i name name there)
    (inl (next, taken, later))

-- it is refused
pub one_refused : (names : List (Bor (List ℕ))) (i : ℕ) (name : Bor (List ℕ)) (p after : PendingInputs)
    (fault : PendingRefusal) → slice_get names i ≡ Some name → NameAnswer p name.now (Err fault) after
    → AreOffered p (map (λ t. t.now) (drop i names)) (Err fault)
one_refused names i name p after fault there refused =
    rw (drop_more names i name (slice_get_within names i name there), get_or_from_slice_get names i name name there)
    (inr (fault, after, refused, refl))

-- the states after an instant are states of the kernel
pub fit_after : (k : Kernel) (x : State) (i : Inputs) (cells : List Status) (instant : Instant) (states : List State)
    → IsInstant k x i cells instant → ((y : State) → Contains states y → IsState k.root y)
    → (y : State) → Contains (states_after states instant) y → IsState k.root y
fit_after k x i cells (Reaction o seen) states is fit y h = elim (Contains-push_cases states o.next y h) [
  | inl before ↦ fit y before
  | inr e ↦ subst (λ (z : State). IsState k.root z) e is.reaction.next
]
fit_after k x i cells (Stuck s seen) states is fit y h = fit y h

pub some_after : (states : List State) (instant : Instant) → 0 < length states
    → 0 < length (states_after states instant)
some_after states (Reaction o seen) some = let l = length-append states (o.next ∷ []) in omega arith
some_after states (Stuck s seen) some = some

-- what is loaded after an instant
pub loaded_after : (before : SteppedState) (m : Module) (inside : InstantReader) (states new : List State) (signals : ℕ)
    (instant : Instant) (line : List ℕ) → before ≡ record { loaded = m; states = states }
    → IsInstantOf before signals instant line → AreLoaded m inside states → new ≡ states_after states instant
    → AreLoaded m inside new
loaded_after before m inside states new signals instant line same told are grown =
    let there : SteppedState = record { loaded = m; states = states } in
    let t : IsInstantOf there signals instant line = subst
    (λ (z : SteppedState). IsInstantOf z signals instant line) same told in
    rw grown
    (record {
      engine = are.engine;
      fit = fit_after m.kernel t.state (record { signals = signals }) t.is.cells instant states t.is.right are.fit;
      some = some_after states instant are.some;
    })

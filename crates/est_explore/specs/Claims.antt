-- What is claimed of all runs of a module (this project's own form).
use Rattle.std.specs.Prelude.{◌≡◌, ◌<◌, ◌≤◌, ℕ, Bool, true, false, List, length}
use Rattle.std.specs.List.{All}
use Rattle.est_kernel.specs.Term.{outer, inner, Term}
use Rattle.est_kernel.specs.View.{query_of}
use Rattle.est_kernel.specs.declared.statement.Test.{Test}
use Rattle.est_meaning.specs.Environments.{Env, status_of, verdict}
use Rattle.est_meaning.specs.declared.status.Status.{Status}
use Rattle.est_meaning.specs.declared.status.Status.TheVariants.{Present, Absent, Unknown}
use Rattle.est_cover.specs.InputSets.{InputSet}
use Rattle.est_explore.specs.Runs.{Module, IsLawful, Instant, is_present, Goes, Runs, start, IsRun}
use Rattle.est_explore.specs.declared.claim.Claim.{Claim}
use Rattle.est_explore.specs.declared.claim.Claim.TheVariants.{NeverStuck, Always}

-- these signals of the interface are present, and all others absent
unfoldable pub known : (present : ℕ → Bool) → Env
known present (outer n) = verdict (present n) (present n)
known present (inner n) = Absent

-- whether that is what is asked for
abbrev pub is_yes : Status → Bool
is_yes Present = true
is_yes Absent = false
is_yes Unknown = false

-- whether the test holds where these signals are present: as a `present` of the language asks it
abbrev pub holds : Test → (present : ℕ → Bool) → Bool
holds test present = is_yes (status_of (known present) (query_of test))

-- these signals of the interface tell the test: where no other is different, it is the same
abbrev pub IsToldBy : Test → (signals : ℕ → Bool) → Type 0
IsToldBy test signals = (p q : ℕ → Bool) → ((n : ℕ) → signals n ≡ true → p n ≡ q n) → holds test p ≡ holds test q

-- these signals tell what the claim asks
abbrev pub IsClaimToldBy : Claim → (signals : ℕ → Bool) → Type 0
IsClaimToldBy NeverStuck signals = Unit {0}
IsClaimToldBy (Always test) signals = IsToldBy test.now signals

-- the term reacts to the inputs
pub record HasReaction (m : Module) (t : Term) (inputs : InputSet) : Type 0 where
  pub outputs : ℕ → Bool
  pub next : Term
  pub goes : Goes m t inputs outputs next

-- the claim holds in the first n instants of every run: that it is never Stuck, when after each run of fewer instants
-- it
-- reacts to each lawful set of inputs; that a test always holds, when it holds in each instant of each run of so many
abbrev pub HoldsFor : Module → Claim → ℕ → Type 0
HoldsFor m NeverStuck n = (run : List Instant) (t : Term) → Runs m (start m) run t → length run < n
    → (inputs : InputSet) → IsLawful m inputs → HasReaction m t inputs
HoldsFor m (Always test) n = (run : List Instant) → IsRun m run → length run ≤ n
    → All (λ i. holds test.now (is_present i) ≡ true) run

-- the claim holds in every instant of every run
abbrev pub Holds : Module → Claim → Type 0
Holds m claim = (n : ℕ) → HoldsFor m claim n

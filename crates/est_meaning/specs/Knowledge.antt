-- More and less defined environments, and larger and smaller acts (Berry, The Constructive Semantics of Pure Esterel).
use Rattle.std.specs.Prelude.{◌≡◌, Bool, true, ◌⊎◌}
use Rattle.est_kernel.specs.Term.{Name}
use Rattle.est_meaning.specs.declared.status.Status.{Status}
use Rattle.est_meaning.specs.declared.status.Status.TheVariants.{Unknown}
use Rattle.est_meaning.specs.Environments.{Env}
use Rattle.est_meaning.specs.MustCan.{Acts}

-- nothing is known yet, or it is the same
abbrev pub IsBelow : Status → Status → Type 0
IsBelow v w = (v ≡ Unknown) ⊎ (v ≡ w)

-- f is at least as defined as e: what e knows, f knows too
abbrev pub KnowsLess : Env → Env → Type 0
KnowsLess e f = (s : Name) → IsBelow (e s) (f s)

-- each member of a is one of b
abbrev pub IsIn : {A : Type 0} → (A → Bool) → (A → Bool) → Type 0
IsIn {A} a b = (x : A) → a x ≡ true → b x ≡ true

-- the signals and the codes of a are among those of b
pub record IsWithin (a b : Acts) : Type 0 where
  pub signals : IsIn a.signals b.signals
  pub codes : IsIn a.codes b.codes

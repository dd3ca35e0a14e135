-- Tests over the signals of an instant.
use Rattle.std.proofs.Common.{◌≡◌, ◌∙◌, ℕ, sym, ap, refl}
use mathlib.Core.Path.{fun_ext}
use Rattle.est_kernel.specs.Bits.{bits}
use Rattle.est_kernel.specs.Term.{Name, outer, inner}
use Rattle.est_kernel.specs.declared.statement.Test.{Test}
use Rattle.est_kernel.specs.View.{query_of}
use Rattle.est_kernel.proofs.Masks.{bits_zero}
use Rattle.est_meaning.specs.Environments.{Env, status_of}
use Rattle.est_meaning.specs.declared.status.Status.{Status}
use Rattle.est_meaning.specs.Views.{env_of, set_of}
use Rattle.est_meaning.specs.declared.signal_set.Env.{Env as Masks}
use Rattle.est_explore.specs.Claims.{known, holds, is_yes}

-- the signals of a mask, and no local ones
abbrev pub masks : ℕ → Masks
masks m = record { present = record { interface = m; local = 0 }; possible = record { interface = m; local = 0 } }

pub known_is : (m : ℕ) → env_of (masks m) ≡ known (bits m)
unfolding env_of set_of known
known_is m = fun_ext at where
  at : (s : Name) → env_of (masks m) s ≡ known (bits m) s
  at (outer n) = refl
  at (inner n) = rw (bits_zero n) refl

pub holds_is : (t : Test) (m : ℕ) (v w : Status) → v ≡ status_of (env_of (masks m)) (query_of t) → v ≡ w
    → is_yes w ≡ holds t (bits m)
holds_is t m v w e f = ap is_yes (sym f ∙ (e ∙ ap (λ (x : Env). status_of x (query_of t)) (known_is m)))

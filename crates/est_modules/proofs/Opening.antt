-- Names of modules that are run, as far as no `signal` around a place declares them.
use Rattle.std.proofs.Common.{◌≡◌, ℕ, List, [], ◌∷◌, Option, Some, Bool, true, false, cond, refl, sym, subst}
use Rattle.std.proofs.lemmas.Bool.{true≢false}
use Rattle.std.proofs.lemmas.Option.{none-some}
use Rattle.std.specs.List.{find}
use Rattle.std.specs.Str.{bytes_eq}
use Rattle.est_modules.specs.NamedNumbers.{AreNumbers, Tells}
use Rattle.est_modules.specs.NameTables.{IsTable}
use Rattle.est_modules.specs.Occurrences.{Binder, signals, a_trap}
use Rattle.est_modules.specs.OpenNames.{AreKept, IsSame, IsOpen}
use Rattle.est_modules.specs.declared.names.table.NameTable.{NameTable}
use Rattle.est_modules.specs.declared.names.open.OpenNames.{OpenNames}
use Rattle.est_modules.specs.Visible.{has_signals, is_local}
use Rattle.est_modules.specs.declared.names.kept.Kept.{Kept}
use Rattle.est_modules.proofs.Testing.{same_bytes, some_same}

-- ---- local names

-- without a `signal` around a place, no name is local there
pub none_local : (bs : List Binder) (s : List ℕ) → has_signals bs ≡ false → is_local bs s ≡ false
none_local [] s h = refl
none_local (signals ns ∷ bs) s h = absurd (true≢false h)
none_local (a_trap t ∷ bs) s h = none_local bs s h

-- ---- what is kept of modules

kept_here : (t : NameTable) (base : List ℕ → List (List ℕ)) (m : List ℕ) (j k : Kept) (o : Option Kept) (b : Bool)
    → bytes_eq j.module_name m ≡ b → AreNumbers t (base j.module_name) j.numbers
    → (o ≡ Some k → AreNumbers t (base m) k.numbers) → cond b (Some j) o ≡ Some k
    → AreNumbers t (base m) k.numbers
kept_here t base m j k o true same is rest e =
    subst (λ (i : Kept). AreNumbers t (base m) i.numbers) (some_same j k e)
    (subst (λ n. AreNumbers t (base n) j.numbers) (same_bytes j.module_name m same) is)
kept_here t base m j k o false same is rest e = rest e

-- what is found of the module of a name
pub kept_found : (t : NameTable) (base : List ℕ → List (List ℕ)) (m : List ℕ) (ks : List Kept) (k : Kept)
    → AreKept t base ks → find (λ (j : Kept). bytes_eq j.module_name m) ks ≡ Some k
    → AreNumbers t (base m) k.numbers
kept_found t base m [] k h e = absurd (none-some k e)
kept_found t base m (j ∷ ks) k h e =
    kept_here t base m j k (find (λ (j : Kept). bytes_eq j.module_name m) ks) (bytes_eq j.module_name m) refl h.0
    (kept_found t base m ks k h.1) e

-- ---- at a place

pub open_so : (fits : NameTable → List Kept → Type 0) (bs : List Binder) (o : OpenNames) (t : NameTable)
    (ks : List Kept) → IsSame o t ks → fits t ks → IsTable t → Tells t (is_local bs) o.hidden → IsOpen fits bs o
open_so fits bs o t ks same h is tells = (
  subst (λ u. fits u o.modules.now) (sym same.table) (subst (fits t) (sym same.modules) h),
  subst IsTable (sym same.table) is,
  subst (λ u. Tells u (is_local bs) o.hidden) (sym same.table) tells,
)

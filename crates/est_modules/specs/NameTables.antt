-- Numbers of names (this project's own form).
use Rattle.std.specs.Prelude.{◌≡◌, ℕ, List, Bool, true, ◌||◌, Option, Some, is_some}
use Rattle.std.specs.Borrow.{Bor}
use Rattle.std.specs.BTreeMap.{get_by}
use Rattle.std.specs.Cmp.Lexicographic.{slice_cmp}
use Rattle.std.specs.List.{list_any, slice_get}
use Rattle.std.specs.Ordering.{nat_cmp}
use Rattle.est_modules.specs.Modules.{Program, is_declared}
use Rattle.est_modules.specs.Visible.{is_tick}
use Rattle.est_modules.specs.declared.names.table.NameTable.{NameTable}

-- the number of a name
abbrev pub number_in : NameTable → List ℕ → Option ℕ
number_in t s = get_by (λ (k : Bor (List ℕ)). slice_cmp nat_cmp s k.now) t.numbers

-- the name has one
abbrev pub is_numbered : NameTable → List ℕ → Bool
is_numbered t s = is_some (number_in t s)

-- the number of a name is the place at which the name stands in the list
pub record IsTable (t : NameTable) : Type 0 where
  pub named : (s : List ℕ) (i : ℕ) → number_in t s ≡ Some i → slice_get t.names.items i ≡ Some s
  pub numbered : (s : List ℕ) (i : ℕ) → slice_get t.names.items i ≡ Some s → number_in t s ≡ Some i

-- each name of an interface has a number, and `tick`
abbrev pub AreNumbered : NameTable → List Program → Type 0
AreNumbered t ps = (s : List ℕ) → (list_any (λ (p : Program). is_declared p.interface s) ps || is_tick s) ≡ true
    → is_numbered t s ≡ true

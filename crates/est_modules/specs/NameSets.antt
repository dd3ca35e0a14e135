-- Sets of names (this project's own form).
use Rattle.std.specs.Prelude.{ℕ, List, Bool}
use Rattle.std.specs.Borrow.{Bor}
use Rattle.std.specs.BTreeSet.{contains_by}
use Rattle.std.specs.Cmp.Lexicographic.{slice_cmp}
use Rattle.std.specs.Ordering.{nat_cmp}
use Rattle.est_modules.specs.declared.names.set.NameSet.{NameSet}

-- the name is in the set
abbrev pub has : NameSet → List ℕ → Bool
has set s = contains_by (λ (k : Bor (List ℕ)). slice_cmp nat_cmp s k.now) set.names

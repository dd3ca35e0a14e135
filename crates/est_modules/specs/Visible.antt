-- What a name means at a place (this project's own form, after Berry, The Esterel v5 Language Primer).
use Rattle.std.specs.Prelude.{ℕ, List, [], ◌∷◌, Bool, false, ◌||◌, codes}
use Rattle.std.specs.List.{list_any}
use Rattle.std.specs.Str.{bytes_eq}
use Rattle.est_syntax.specs.Tree.{NamesTree}
use Rattle.est_modules.specs.Occurrences.{Binder, signals, a_trap}
use Rattle.est_modules.specs.Modules.{Program, is_declared}
use Rattle.std.specs.Prelude.{true}

-- the signal that is present in every instant, and is nowhere declared (The Esterel v5 Language Primer)
abbrev pub is_tick : List ℕ → Bool
is_tick s = bytes_eq s (codes "tick")

-- a declaration of names has this one
abbrev pub is_among : NamesTree → List ℕ → Bool
is_among ns s = bytes_eq ns.first s || list_any (λ n. bytes_eq n s) ns.later

-- a `signal` around the place declares the name
abbrev pub is_local : List Binder → List ℕ → Bool
is_local [] s = false
is_local (signals ns ∷ bs) s = is_among ns s || is_local bs s
is_local (a_trap t ∷ bs) s = is_local bs s

-- a `trap` around the place has this name
abbrev pub is_trap : List Binder → List ℕ → Bool
is_trap [] t = false
is_trap (signals ns ∷ bs) t = is_trap bs t
is_trap (a_trap u ∷ bs) t = bytes_eq u t || is_trap bs t

-- a signal of this name is visible: a local one, one of the interface, or `tick` (The Esterel v5 Language Primer)
abbrev pub is_visible : Program → List Binder → List ℕ → Bool
is_visible p bs s = is_local bs s || (is_declared p.interface s || is_tick s)

-- the name stands in the list
abbrev pub stands_in : List (List ℕ) → List ℕ → Bool
stands_in ns n = list_any (λ m. bytes_eq m n) ns

-- a `signal` stands around a place
abbrev pub has_signals : List Binder → Bool
has_signals [] = false
has_signals (signals ns ∷ bs) = true
has_signals (a_trap t ∷ bs) = has_signals bs

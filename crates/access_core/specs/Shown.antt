-- What a session is shown of a module's signals (this project's own form).
use Rattle.std.specs.Prelude.{◌≡◌, ◌↔◌, ℕ, List, [], Bool, ◌&&◌, ◌||◌, IsTrue, Some, slice_get, slice_index_or, map}
use Rattle.std.specs.Prelude.{filter, length}
use Rattle.std.specs.List.{range_with_len}
use Rattle.est_kernel.specs.Bits.{bits}
use Rattle.est_kernel.specs.declared.interface.Declaration.{Declaration}
use Rattle.rbac_policy.specs.declared.commands.Entry.{Entry}
use Rattle.rbac_policy.specs.declared.objects.Operation.TheVariants.{Observe}
use Rattle.rbac_policy.specs.declared.objects.Object.TheVariants.{Signal}
use Rattle.rbac_policy.specs.Facts.{May}
use Rattle.reactor_core.specs.declared.entry.PastInstant.{PastInstant}
use Rattle.access_core.specs.declared.reply.ShownSignal.{ShownSignal}

-- the session sees exactly the places of the interface whose signals it may observe in this slot
pub record Observes (entries : List Entry) (session slot : ℕ) (interface : List Declaration)
    (sees : ℕ → Bool) : Type 0 where
  pub exactly : (place : ℕ) (d : Declaration) → slice_get interface place ≡ Some d
      → (IsTrue (sees place) ↔ May entries session Observe (Signal slot d.name))

-- the places of an interface, in the order of declaration
abbrev pub places_of : List Declaration → List ℕ
places_of interface = range_with_len 0 (length interface)

-- the name that is declared at a place
abbrev pub name_at : List Declaration → ℕ → List ℕ
name_at interface place = slice_index_or (map (λ d. d.name) interface) place []

-- the signal at a place, with whether it stands in the set of the present ones
abbrev pub present_at : List Declaration → (present : ℕ) → ℕ → ShownSignal
present_at interface present place = record { name = name_at interface place; present = bits present place }

-- the signal at a place, with whether it stands in the inputs or the outputs of an instant
abbrev pub status_at : List Declaration → PastInstant → ℕ → ShownSignal
status_at interface i place =
    record { name = name_at interface place; present = bits i.inputs place || bits i.outputs place }

-- what is shown of an instant: for each signal that is seen, in declaration order, its name and whether it is among the
-- instant's inputs or outputs
abbrev pub shown_of : List Declaration → (sees : ℕ → Bool) → PastInstant → List ShownSignal
shown_of interface sees i = map (status_at interface i) (filter sees (places_of interface))

-- what is named of a set of signals: the names of those that are seen, in declaration order
abbrev pub names_of : List Declaration → (sees : ℕ → Bool) → (signals : ℕ) → List (List ℕ)
names_of interface sees signals = map (name_at interface)
    (filter (λ place. sees place && bits signals place) (places_of interface))

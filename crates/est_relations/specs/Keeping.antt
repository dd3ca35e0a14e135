-- Relations between signals that may be offered, and which sets of offers keep them (Berry, The Esterel v5 Language
-- Primer, input relations).
use Rattle.std.specs.Prelude.{◌≡◌, ℕ, Bool, true, ◌&&◌, ◌||◌, not, nat_eq, List}
use Rattle.std.specs.List.{list_all}
use Rattle.est_kernel.specs.Interfaces.{offerable}
use Rattle.est_kernel.specs.declared.interface.Declaration.{Declaration}
use Rattle.est_relations.specs.declared.relations.Relation.{Relation}
use Rattle.est_relations.specs.declared.relations.Relation.TheVariants.{Exclusion, Implication}

-- whether at most one of the members is offered, which `present` tells: any two that are offered are the same, so a
-- signal may be written twice
unfoldable pub has_one_at_most : (present : ℕ → Bool) → List ℕ → Bool
has_one_at_most present members = list_all (λ a. list_all (λ b. not (present a && present b) || nat_eq a b) members)
    members

-- whether the second signal is offered where the first is
unfoldable pub has_implied : (present : ℕ → Bool) → (condition implied : ℕ) → Bool
has_implied present condition implied = not (present condition) || present implied

-- whether the relation holds, where it is an exclusion
abbrev pub keeps_exclusion : (present : ℕ → Bool) → Relation → Bool
keeps_exclusion present (Exclusion members) = has_one_at_most present members
keeps_exclusion present (Implication condition implied) = true

-- whether the relation holds of what is offered
abbrev pub keeps : (present : ℕ → Bool) → Relation → Bool
keeps present (Exclusion members) = has_one_at_most present members
keeps present (Implication condition implied) = has_implied present condition.index implied.index

-- lawful inputs: each relation holds of them
abbrev pub AreLawful : List Relation → (present : ℕ → Bool) → Type 0
AreLawful relations present = list_all (keeps present) relations ≡ true

-- whether each signal of the relation is among these
abbrev pub is_within : (signals : ℕ → Bool) → Relation → Bool
is_within signals (Exclusion members) = list_all signals members
is_within signals (Implication condition implied) = signals condition.index && signals implied.index

-- each signal of each relation may be offered: it is an input or an inputoutput
abbrev pub AreOverInputs : List Declaration → List Relation → Type 0
AreOverInputs interface relations = list_all (is_within (offerable interface)) relations ≡ true

-- Linking has one answer.
use Rattle.std.proofs.Common.{◌≡◌, ◌⊎◌, ℕ, inl, inr, List, Some, None}
use Rattle.std.proofs.lemmas.Option.{none-some}
use Rattle.est_checks.specs.FirstFaults.{IsFirstFault}
use Rattle.est_modules.specs.Modules.{Program}
use Rattle.est_checks.specs.declared.fault.LinkFault.{LinkFault}
use Rattle.est_checks.specs.declared.fault.LinkFault.TheVariants.{Memory}
use Rattle.est_modules.proofs.Testing.{some_same}
use Rattle.est_checks.proofs.Uniqueness.{one_first_fault}

-- two faults that are answered are one, unless memory was refused
pub one_fault : (ps : List Program) (main : List ℕ) (a b : LinkFault) → (a ≡ Memory) ⊎ IsFirstFault ps main (Some a)
    → (b ≡ Memory) ⊎ IsFirstFault ps main (Some b) → (a ≡ b) ⊎ (a ≡ Memory) ⊎ (b ≡ Memory)
one_fault ps main a b h k = elim h [
  | inl e ↦ inr (inl e)
  | inr first ↦ (elim k [
    | inl e ↦ inr (inr e)
    | inr second ↦ inl (some_same a b (one_first_fault ps main (Some a) (Some b) first second))
  ])
]

-- where a module is answered, no fault is
pub never_both : (ps : List Program) (main : List ℕ) (b : LinkFault) → IsFirstFault ps main None
    → (b ≡ Memory) ⊎ IsFirstFault ps main (Some b) → b ≡ Memory
never_both ps main b sound h = elim h [
  | inl e ↦ e
  | inr fault ↦ absurd (none-some b (one_first_fault ps main None (Some b) sound fault))
]

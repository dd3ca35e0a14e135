use Rattle.std.proofs.Common.{◌∙◌, List, ℕ, ap}
use Rattle.est_modules.specs.NumberSets.{numbers_of}
use Rattle.est_modules.proofs.SetWords.{bit_in}
use Rattle.est_modules.proofs.names.set.NumberSet.try_clone.Goals as goal

pub returns : goal.returns
unfolding numbers_of
returns c i = ap (λ (ws : List ℕ). bit_in ws i) (c.in_ok-from_slice.ensures.items ∙ c.deref.ensures.value)

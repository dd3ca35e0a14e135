use Rattle.std.proofs.Common.{◌∙◌, List, ℕ, [], ap, arith}
use Rattle.est_modules.specs.NumberSets.{numbers_of}
use Rattle.est_modules.proofs.SetWords.{bit_in, none_behind}
use Rattle.est_modules.proofs.names.set.NumberSet.new.Goals as goal

pub returns : goal.returns
unfolding numbers_of
returns c i = ap (λ (ws : List ℕ). bit_in ws i) c.new.ensures.items ∙ none_behind [] i (omega arith)

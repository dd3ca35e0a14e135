use Rattle.std.proofs.Common.{◌∙◌, ap}
use mathlib.Core.Path.{fun_ext}
use Rattle.est_kernel.specs.Codes.{code}
use Rattle.est_kernel.proofs.code_set.CodeSet.single.Goals as goal

pub returns : goal.returns
unfolding code
returns c = fun_ext c.single.ensures ∙ ap code c.place_of.ensures

-- What the completions and the sets of codes of the code stand for (this project's own form).
use Rattle.std.specs.Prelude.{ℕ, ◌+◌}
use Rattle.est_kernel.specs.Bits.{bits}
use Rattle.est_kernel.specs.Codes.{Codes}
use Rattle.est_kernel.specs.declared.completion.Completion.{Completion}
use Rattle.est_kernel.specs.declared.completion.Completion.TheVariants.{End, Pause, Exit}
use Rattle.est_kernel.specs.declared.code_set.CodeSet.{CodeSet}

-- the code of a completion
abbrev pub code_of : Completion → ℕ
code_of End = 0
code_of Pause = 1
code_of (Exit k) = k.index + 2

-- the codes in a set, those of its mask
abbrev pub codes_of : CodeSet → Codes
codes_of s = bits s.mask

-- Where exits lead, as the code knows it (this project's own form).
use Rattle.std.specs.Prelude.{ℕ}
use Rattle.est_reduce.specs.Reductions.{past_fresh, past_named}
use Rattle.est_reduce.specs.declared.builder.Exits.{Exits}
use Rattle.est_reduce.specs.declared.builder.Exits.TheVariants.{Outermost, Named', Fresh'}

-- the trap of the kernel to which an exit of the k-th trap of the text leads, counted outwards
abbrev pub leads : Exits → ℕ → ℕ
leads Outermost = λ k. k
leads (Named' a rest) = past_named (leads rest)
leads (Fresh' a rest) = past_fresh (leads rest)

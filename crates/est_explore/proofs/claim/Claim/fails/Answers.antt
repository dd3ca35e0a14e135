use Rattle.std.proofs.Common.{◌≡◌, ◌∙◌, ap, not, Bool, ℕ, ◌||◌}
use mathlib.Core.Path.{fun_ext}
use Rattle.est_kernel.specs.Bits.{bits}
use Rattle.est_explore.specs.Claims.{holds}
use Rattle.est_explore.proofs.claim.Claim.fails.Goals as goal

pub returns-in-Always-Reaction : goal.returns-in-Always-Reaction
returns-in-Always-Reaction c =
    let all : bits c.union.result ≡ (λ n. bits c.args.asked.now.inputs n || bits c.in-Always-Reaction.outputs n) =
    fun_ext c.union.ensures in
    rw (c.in-Always-Reaction.is-0, c.in-Always-Reaction.is-1)
    (ap not (c.holds.ensures ∙ ap (λ (f : ℕ → Bool). holds c.in-Always-Reaction.test.now f) all))

use Rattle.std.proofs.Common.{ap, refl, rules, ℕ, ◌≡◌, ◌∙◌}
use Rattle.est_kernel.specs.Bits.{bits}
use Rattle.est_net.proofs.Reaching.{pause_added, pause_left_out}
use Rattle.est_net.proofs.reach.add_pause.Goals as goal

pub returns-then-later-none : goal.returns-then-later-none
returns-then-later-none c =
    let same : c.args.later.end ≡ c.no_signal-none.result = search rules in
    pause_left_out c.args.pause (bits c.args.later.end) (bits c.args.later.exit) c.args.pauses.now.items
    c.no_signal-none.result (λ n. ap (λ (m : ℕ). bits m n) same ∙ c.no_signal-none.ensures n) c.no_signal-none.ensures

pub returns : goal.returns
returns c = pause_added c.args.pause (bits c.args.later.end) (bits c.args.later.exit) c.args.pauses.now.items
    c.push.new.self.items (record { pause = c.args.pause; signals = c.args.later.end }) c.no_signal-none.result
    c.in_ok-push.ensures.items refl refl c.no_signal-none.ensures

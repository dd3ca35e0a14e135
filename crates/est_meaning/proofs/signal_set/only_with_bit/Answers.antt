use Rattle.std.proofs.Common.{ap, ◌∙◌}
use Rattle.est_meaning.specs.Signals.{Signals, no_signals}
use Rattle.est_meaning.proofs.SignalSets.{none_with_bit}
use Rattle.est_meaning.proofs.signal_set.only_with_bit.Goals as goal

pub returns-else-local-lt64 : goal.returns-else-local-lt64
unfolding no_signals
returns-else-local-lt64 c = λ t b. rw c.in-Local.is
    (ap (λ (z : Signals). z t) c.no_signal.ensures ∙ none_with_bit c.in-Local.local.index c.if-local-lt64.false t b)

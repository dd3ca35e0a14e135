-- What the values of the code stand for (this project's own form).
use Rattle.est_kernel.specs.Bits.{bits}
use Rattle.est_kernel.specs.CodeViews.{codes_of}
use Rattle.est_meaning.specs.MustCan as must_can
use Rattle.est_meaning.specs.Rounds as rounds
use Rattle.est_meaning.specs.Views.{set_of}
use Rattle.est_rounds.specs.declared.acts.Acts.{Acts}
use Rattle.est_rounds.specs.declared.judged.JudgedSignals.{JudgedSignals}

-- a set of signals and a set of codes, as the acts of a statement
abbrev pub acts_of : Acts → must_can.Acts
acts_of a = record { signals = set_of a.signals; codes = codes_of a.codes }

-- the signals of the mask, as those that the rounds judge
abbrev pub judged_by : JudgedSignals → rounds.JudgedSignals
judged_by j = record { places = j.places; has = bits j.signals }

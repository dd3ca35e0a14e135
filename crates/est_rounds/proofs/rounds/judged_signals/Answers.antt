use Rattle.std.proofs.Common.{◌≡◌, ◌∙◌, ℕ, Bool, length, ap}
use Rattle.est_kernel.specs.Bits.{bits}
use Rattle.est_kernel.specs.Interfaces.{emittable}
use Rattle.est_meaning.specs.Rounds.{JudgedSignals}
use Rattle.est_rounds.proofs.Known.{judged_signals_are}
use Rattle.est_rounds.proofs.rounds.judged_signals.Goals as goal

abbrev judged_with : ℕ → (ℕ → Bool) → JudgedSignals
judged_with places has = record { places = places; has = has }

pub returns : goal.returns
returns c =
    let interface = c.args.kernel.now.interface in
    let places : c.len.result ≡ length interface = c.len.ensures.len ∙ ap length c.interface-interface.ensures in
    let may_be = c.emittable.ensures ∙ ap emittable c.interface-interface.ensures in
    let has = judged_signals_are interface (bits c.args.inputs) (bits c.emittable.result) (bits c.difference.result)
    may_be
    c.difference.ensures in
    ap (λ (p : ℕ). judged_with p (bits c.difference.result)) places ∙ ap (judged_with (length interface)) has

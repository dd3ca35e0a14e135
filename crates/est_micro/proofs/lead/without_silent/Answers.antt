use Rattle.std.proofs.Common.{◌≡◌, ◌&&◌, ◌||◌, ℕ, true, not, refl, ap, sym, ◌∙◌}
use Rattle.est_kernel.specs.Bits.{bits}
use Rattle.est_meaning.specs.Views.{env_of}
use Rattle.est_micro.proofs.Walks.{IsAsked, both_of, is_asked, silent_absent, silent_walked, was_asked}
use Rattle.est_micro.proofs.lead.without_silent.Goals as goal

pub returns : goal.returns
returns c = record {
  silent = λ f.
      let e = c.args.known.now in
      let kernel = c.args.question.now.kernel.now in
      let inputs = bits c.args.question.now.inputs in
      let unasked = bits c.args.question.now.unasked in
      let silent = bits c.silent_among-silent.result in
      let told : (n : ℕ) → bits c.union-told.result n
      ≡ (bits e.present.interface n || (unasked n || inputs n))
      = λ n. c.union-told.ensures n ∙ ap (λ b. bits e.present.interface n || b) (c.union.ensures n) in
      let wanted : (n : ℕ) → bits c.intersection.result n
      ≡ (bits c.args.signals n && (bits c.args.net.now.emittable n && bits e.possible.interface n))
      = λ n. c.intersection.ensures n ∙ ap (λ b. bits c.args.signals n && b)
      (c.intersection-may_be.ensures n ∙ ap (λ m. bits m n && bits e.possible.interface n) c.emittable.ensures) in
      let asked : (n : ℕ) → silent n ≡ true
      → IsAsked (bits c.args.net.now.emittable n) (bits e.present.interface n) (unasked n) (inputs n)
      = λ n z. is_asked _ _ _ _ _ _
      (sym (c.difference-open.ensures n ∙ both_of (λ a b. a && not b) (wanted n) (told n))
      ∙ (was_asked _ _ (sym (c.silent_among-silent.ensures n) ∙ z)).0) in
      silent_walked kernel c.args.question.now.state.now unasked inputs f c.args.net.now.cells.items e _ silent
      (λ others agree at leads n z. silent_absent kernel c.args.question.now.state.now others f at
      c.args.net.now.cells.items (env_of e) n _
      c.requires.net.emissions leads (sym (ap (λ f. f n) c.requires.net.signals) ∙ (asked n z).emitted_is)
      (agree n (asked n z).unasked_is ∙ (asked n z).offered_is)
      (was_asked _ _ (sym (c.silent_among-silent.ensures n) ∙ z)).1)
      (λ n z. (asked n z).present_is) refl c.difference.ensures refl;
}

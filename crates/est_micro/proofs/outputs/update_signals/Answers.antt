use Rattle.std.proofs.Common.{◌≡◌, ◌<◌, ◌≤◌, ℕ, Bool, true, List, length, refl, ap, sym, ◌∙◌, subst, arith}
use Rattle.est_kernel.specs.Bits.{bits}
use Rattle.est_kernel.specs.Interfaces.{emittable}
use Rattle.est_kernel.specs.declared.interface.Declaration.{Declaration}
use Rattle.est_meaning.specs.Rounds.{how_many}
use Rattle.est_meaning.specs.declared.status.Status.{Status}
use Rattle.est_meaning.specs.declared.signal_set.Env.{Env as Known}
use Rattle.est_rounds.specs.declared.acts.MustCan.{MustCan}
use Rattle.est_net.specs.Layout.{output_count}
use Rattle.est_micro.specs.Inner.Outputs.{AreSignalsTold, told_of}
use Rattle.est_micro.specs.Runs.{AreSignalsUpdated}
use Rattle.est_micro.proofs.UpdatingSignals.{IsKnownBy, emittable_within, known_is}
use Rattle.est_micro.proofs.KernelNets.{still_net}
use Rattle.est_micro.proofs.outputs.update_signals.Goals as goal

exchanged : (i : List Declaration) (unasked f : ℕ → Bool) (m inputs : ℕ) (j : MustCan) (old new : List Status)
    (e : Known) → f ≡ emittable i → m ≡ length i → AreSignalsTold f m (told_of inputs j) old new
    → IsKnownBy unasked f m (bits inputs) new e
    → AreSignalsUpdated i unasked (bits inputs) (bits j.must.signals.interface) (bits j.can.signals.interface) old new e
exchanged i unasked f m inputs j old new e a b t k =
    let t2 = subst (λ (z : ℕ). AreSignalsTold (emittable i) z (told_of inputs j) old new) b
    (subst (λ (g : ℕ → Bool). AreSignalsTold g m (told_of inputs j) old new) a t) in
    let k2 = subst (λ (z : ℕ). IsKnownBy unasked (emittable i) z (bits inputs) new e) b
    (subst (λ (g : ℕ → Bool). IsKnownBy unasked g m (bits inputs) new e) a k) in
    record { changes = t2.changes; told = t2.told; knows = k2 }

count_is : (i : List Declaration) (f : ℕ → Bool) (m size : ℕ) → f ≡ emittable i → m ≡ length i → output_count i ≤ size
    → how_many f m ≤ size
count_is i f m size a b h = subst (λ (g : ℕ → Bool). how_many g m ≤ size) (sym a)
    (subst (λ (z : ℕ). how_many (emittable i) z ≤ size) (sym b) h)

inside : (i : List Declaration) (f : ℕ → Bool) (m : ℕ) → f ≡ emittable i → m ≡ length i → (n : ℕ) → f n ≡ true → n < m
inside i f m a b n h = subst (λ (z : ℕ). n < z) (sym b) (emittable_within i n (ap (λ (g : ℕ → Bool). g n) (sym a) ∙ h))

pub update_all_signals-read-requires-clause-within : goal.update_all_signals-read-requires-clause-within
update_all_signals-read-requires-clause-within c =
    let size = c.requires.net.size in
    count_is c.args.question.now.kernel.now.interface _ _ _
    (ap bits c.emittable-signals.ensures ∙ c.requires.net.signals)
    (c.len-places.ensures.len ∙ ap length c.interface.ensures) (omega (arith, size))

pub returns-clause-updated : goal.returns-clause-updated
returns-clause-updated c =
    let i = c.args.question.now.kernel.now.interface in
    let unasked = bits c.args.question.now.unasked in
    let f = ap bits c.emittable-signals.ensures ∙ c.requires.net.signals in
    let m = c.len-places.ensures.len ∙ ap length c.interface.ensures in
    let r = c.update_all_signals-read.ensures in
    exchanged i unasked _ _ c.args.question.now.inputs c.args.judged.now _ _ _ f m r.told
    (known_is unasked _ _ (bits c.args.question.now.inputs) (bits c.update_all_signals-read.result.sure)
    (bits c.update_all_signals-read.result.possible) _ _ _ _ (inside i _ _ f m) c.union.ensures
    c.union-2.ensures c.difference.ensures c.union-3.ensures r.sure r.possible refl refl)

pub returns-clause-net : goal.returns-clause-net
returns-clause-net c =
    still_net c.args.question.now.kernel.now _ c.args.net.now _ c.requires.net
    c.update_all_signals-read.ensures.told.changes.size c.update_all_signals-read.ensures.kept

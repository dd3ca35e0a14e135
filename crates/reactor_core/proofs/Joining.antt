-- What the pending inputs of a module answer to an offer, and to an instant that is to take them.
use Rattle.std.proofs.Common.{◌≡◌, ◌∙◌, ℕ, List, inl, inr, refl, ap, sym, subst}
use Rattle.std.specs.Prelude.{Result, Ok, Err}
use Rattle.est_kernel.specs.Bits.{bits}
use Rattle.est_relations.specs.Keeping.{AreLawful}
use Rattle.est_relations.specs.Offers.{PendingInputs, KeepsExclusions, Adds, OfferAnswer, ReadyAnswer}
use Rattle.est_relations.specs.Offers.{offer_rules}
use Rattle.est_relations.specs.declared.refusal.PendingRefusal.{PendingRefusal}
use Rattle.est_relations.proofs.OffersKeep.{no_fault}
use Rattle.refusal_rules.proofs.RuleLemmas.{all_passed, answered}
use Rattle.reactor_core.specs.declared.kernel_module.Module.{Module}
use Rattle.reactor_core.specs.Faults.{refusal_of_pending}
use Rattle.reactor_core.specs.Standing.{inputs_of_module, OffersAs, RefusesOffering, RefusesInstant}

pub no_ok : {A E : Type 0} (x : A) (e : E) → Err e ≡ Ok x → ⊥
no_ok x e h = cc

pub same_err : {A E : Type 0} (a b : E) → ◌≡◌ {A = Result A E} (Err a) (Err b) → a ≡ b
same_err a b h = cc

-- an accepted offer adds its signal
pub adds_where : (p : PendingInputs) (name : List ℕ) (after : PendingInputs)
    → OfferAnswer p name (Ok (record {})) after → Adds p name after
adds_where p name after h =
    (all_passed (offer_rules p name) (λ refusal. (Ok (record {}) ≡ Err refusal) × (after ≡ p))
    ((Ok (record {}) ≡ Ok (record {})) × Adds p name after)
    (λ refusal told. no_fault (record {}) refusal told.0) h).1.1

-- a refused one leaves what is pending
stays_where : (p : PendingInputs) (name : List ℕ) (e : PendingRefusal) (after : PendingInputs)
    → OfferAnswer p name (Err e) after → after ≡ p
stays_where p name e after h =
    answered (offer_rules p name) (λ refusal. (Err e ≡ Err refusal) × (after ≡ p))
    ((Err e ≡ Ok (record {})) × Adds p name after) (after ≡ p)
    (λ refusal told. told.1) (λ accepted. absurd (no_ok (record {}) e accepted.0)) h

-- the pending inputs with the signal of an accepted offer
pub joins : (m : Module) (pending : ℕ) (name : List ℕ) (before after : PendingInputs) (mask : ℕ)
    → before ≡ inputs_of_module m pending → mask ≡ after.inputs
    → KeepsExclusions after.interface after.relations after.inputs → OfferAnswer before name (Ok (record {})) after
    → OffersAs m pending name mask
joins m pending name before after mask is read kept h =
    let answer : OfferAnswer (inputs_of_module m pending) name (Ok (record {})) after =
    subst (λ (p : PendingInputs). OfferAnswer p name (Ok (record {})) after) is h in
    let adds = adds_where (inputs_of_module m pending) name after answer in
    let its : mask ≡ _ = read ∙ ap (λ (p : PendingInputs). p.inputs) adds.added in
    let same : after ≡ inputs_of_module m mask = adds.added ∙ ap (λ (n : ℕ). inputs_of_module m n) (sym its) in
    record {
      answer = subst (λ (p : PendingInputs). OfferAnswer (inputs_of_module m pending) name (Ok (record {})) p) same
          answer;
      kept = subst (λ (p : PendingInputs). KeepsExclusions p.interface p.relations p.inputs) same kept;
    }

-- why the name of a refused offer may not join them
pub refuses : (m : Module) (pending : ℕ) (name : List ℕ) (before after : PendingInputs) (e : PendingRefusal)
    → before ≡ inputs_of_module m pending
    → OfferAnswer before name (Err e) after → RefusesOffering m pending name (refusal_of_pending e)
refuses m pending name before after e is h =
    let same : after ≡ inputs_of_module m pending = stays_where before name e after h ∙ is in
    let answer : OfferAnswer (inputs_of_module m pending) name (Err e) after =
    subst (λ (p : PendingInputs). OfferAnswer p name (Err e) after) is h in
    record {
      given = e;
      told = refl;
      answer = subst (λ (p : PendingInputs). OfferAnswer (inputs_of_module m pending) name (Err e) p) same answer;
    }

-- an instant may take pending inputs that are ready
lawful_where : (p : PendingInputs) → ReadyAnswer p (Ok (record {})) → AreLawful p.relations (bits p.inputs)
lawful_where p (inl refused) = absurd (no_fault (record {}) refused.refusal refused.answered)
lawful_where p (inr passes) = passes.next.1

pub takes : (m : Module) (pending : ℕ) (before : PendingInputs) → before ≡ inputs_of_module m pending
    → ReadyAnswer before (Ok (record {}))
    → AreLawful m.relations (bits pending)
takes m pending before is h = lawful_where (inputs_of_module m pending)
    (subst (λ (p : PendingInputs). ReadyAnswer p (Ok (record {}))) is h)

-- why it may not
lacks_where : (m : Module) (pending : ℕ) (e : PendingRefusal) → ReadyAnswer (inputs_of_module m pending) (Err e)
    → RefusesInstant m pending (refusal_of_pending e)
lacks_where m pending e (inl refused) = record {
  number = refused.given.0.0;
  missing = refused.given.0.1;
  told = ap refusal_of_pending (same_err e refused.refusal refused.answered ∙ refused.given.1);
  first = refused.given.2;
}
lacks_where m pending e (inr passes) = absurd (no_ok (record {}) e passes.next.0)

pub lacks : (m : Module) (pending : ℕ) (before : PendingInputs) (e : PendingRefusal)
    → before ≡ inputs_of_module m pending
    → ReadyAnswer before (Err e)
    → RefusesInstant m pending (refusal_of_pending e)
lacks m pending before e is h = lacks_where m pending e (subst (λ (p : PendingInputs). ReadyAnswer p (Err e)) is h)

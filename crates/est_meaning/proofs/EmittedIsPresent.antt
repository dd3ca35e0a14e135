-- In a reaction a signal is present exactly where it is emitted.
use Rattle.std.proofs.Common.{◌≡◌, ◌≢◌, ℕ, zero, suc, Bool, true, false, ◌||◌, List, inl, refl, ap, sym, ◌∙◌, subst}
use Rattle.std.proofs.Common.{arith}
use Rattle.std.proofs.lemmas.Bool.{eq-eqb, both_ways}
use Rattle.est_kernel.specs.Interfaces.{emittable}
use Rattle.est_kernel.specs.declared.interface.Declaration.{Declaration}
use Rattle.est_kernel.specs.Term.{outer, inner, Term, signal}
use Rattle.est_meaning.specs.declared.status.Status.{Status}
use Rattle.est_meaning.specs.declared.status.Status.TheVariants.{Unknown}
use Rattle.est_meaning.specs.Knowledge.{KnowsLess}
use Rattle.est_meaning.specs.Laws.{IsWithinPlaces, IsDecidedAs, IsDecidedWithin}
use Rattle.est_meaning.specs.MustCan.{Acts, sure, must, can, status_within, env_within}
use Rattle.est_meaning.specs.Reaction.{Reacts}
use Rattle.est_meaning.specs.Rounds.{JudgedSignals, judged_signals, first_env, round, env_after, how_many, last_env}
use Rattle.est_meaning.specs.Rules.{Gives}
use Rattle.est_meaning.specs.Signals.{Signals}
use Rattle.est_meaning.specs.Environments.{Env, with_local, verdict}
use Rattle.est_meaning.proofs.RoundsComeToRest.{settles, judged_within}
use Rattle.est_meaning.proofs.KnowledgeIsMonotone.{monotone, local_below, less_same}
use Rattle.est_meaning.proofs.DecidedByMust.{gives_must, gives_can}

-- a status that is the verdict on one answer
decided_as : (v : Status) (b : Bool) → v ≡ verdict b b → IsDecidedAs v b
decided_as v true h = record {
  decided = λ e. cc;
  present = (λ e. refl, λ e. h);
  absent = (λ e. cc, λ e. cc);
}
decided_as v false h = record {
  decided = λ e. cc;
  present = (λ e. cc, λ e. cc);
  absent = (λ e. refl, λ e. h);
}

pub judged_at : (j : JudgedSignals) (t : Term) (e : Env) (n : ℕ) → j.has n ≡ true
    → round j t e (outer n) ≡ verdict ((must t e).signals (outer n)) ((can t sure e).signals (outer n))
unfolding round
judged_at j t e n h = rw h refl

-- in the environment that a round doesn't change
judged_there : (j : JudgedSignals) (t : Term) (e : Env) (o : Signals) (k : ℕ) (u : Term) → round j t e ≡ e
    → Gives t e o k u
    → (n : ℕ) → j.has n ≡ true → e (outer n) ≡ verdict (o (outer n)) (o (outer n))
judged_there j t e o k u still g n h =
    let m = ap (λ (a : Acts). a.signals (outer n)) (gives_must t e o k u g) in
    let c = ap (λ (a : Acts). a.signals (outer n)) (gives_can t e o k u g) in
    ap (λ (f : Env). f (outer n)) (sym still) ∙ (judged_at j t e n h ∙ rw (m, c) refl)

-- each judged signal of a reaction
pub judged_decided : (j : JudgedSignals) → IsWithinPlaces j
    → (inputs : ℕ → Bool) (t : Term) (outputs : ℕ → Bool) (u : Term)
    → Reacts j inputs t outputs u → (n : ℕ) → j.has n ≡ true → IsDecidedAs (last_env j inputs t (outer n)) (outputs n)
judged_decided j w inputs t outputs u r n h =
    let still = settles j w inputs t (suc (how_many j.has j.places)) (omega arith) in
    let there = judged_there j t (last_env j inputs t) r.signals r.code u still r.gives n h in
    decided_as (last_env j inputs t (outer n)) (outputs n) (there ∙ ap (λ b. verdict b b) (sym (r.seen n)))

pub first_offered : (j : JudgedSignals) (inputs : ℕ → Bool) (n : ℕ) → j.has n ≡ false
    → first_env j inputs (outer n) ≡ verdict (inputs n) false
unfolding first_env
first_offered j inputs n h = rw h refl

pub kept : (j : JudgedSignals) (t : Term) (e : Env) (n : ℕ) → j.has n ≡ false → round j t e (outer n) ≡ e (outer n)
unfolding round
kept j t e n h = rw h refl

pub stays_offered : (m : ℕ) (j : JudgedSignals) (inputs : ℕ → Bool) (t : Term) (n : ℕ) → j.has n ≡ false
    → env_after m j t (first_env j inputs) (outer n) ≡ verdict (inputs n) false
stays_offered zero j inputs t n h = first_offered j inputs n h
stays_offered (suc m) j inputs t n h = kept j t (env_after m j t (first_env j inputs)) n h
    ∙ stays_offered m j inputs t n h

one_answer : (b : Bool) → verdict b false ≡ verdict b b
one_answer true = refl
one_answer false = refl

-- each other signal
pub offered_decided : (j : JudgedSignals) (inputs : ℕ → Bool) (t : Term) (n : ℕ) → j.has n ≡ false
    → IsDecidedAs (last_env j inputs t (outer n)) (inputs n)
offered_decided j inputs t n h =
    decided_as (last_env j inputs t (outer n)) (inputs n)
    (stays_offered (how_many j.has j.places) j inputs t n h ∙ one_answer (inputs n))

-- each signal of an interface that may be emitted
pub either_decided : (interface : List Declaration) (inputs : ℕ → Bool) (t : Term) (outputs : ℕ → Bool) (u : Term)
    → Reacts (judged_signals interface inputs) inputs t outputs u → (n : ℕ) → emittable interface n ≡ true
    → IsDecidedAs (last_env (judged_signals interface inputs) inputs t (outer n)) (inputs n || outputs n)
either_decided interface inputs t outputs u r n h = by_offer (inputs n) refl
  where
    by_offer : (b : Bool) → inputs n ≡ b → IsDecidedAs (last_env (judged_signals interface inputs) inputs t (outer n))
        (inputs n || outputs n)
    by_offer true e = subst (λ b. IsDecidedAs (last_env (judged_signals interface inputs) inputs t (outer n)) b)
        (rw e refl) (offered_decided (judged_signals interface inputs) inputs t n (rw (e, h) refl))
    by_offer false e = subst (λ b. IsDecidedAs (last_env (judged_signals interface inputs) inputs t (outer n)) b)
        (rw e refl)
        (judged_decided (judged_signals interface inputs) (judged_within interface inputs) inputs t outputs u r n
        (rw (e, h) refl))

own_status : (e : Env) (s : ℕ) (v : Status) → with_local e s v (inner s) ≡ v
unfolding with_local
own_status e s v = rw (eq-eqb s s refl) refl

-- a decided verdict is the one on what is emitted, where that lies between what must be and what can be
between : (b c x : Bool) → verdict b c ≢ Unknown → (b ≡ true → x ≡ true) → (x ≡ true → c ≡ true)
    → verdict b c ≡ verdict x x
between true c x d f g = rw (f refl) refl
between false true x d f g = absurd (d refl)
between false false true d f g = absurd (both_ways false refl (g refl))
between false false false d f g = refl

-- a local signal of a reaction
pub local_decided : (s : ℕ) (p : Term) (e : Env) (o : Signals) (k : ℕ) (u : Term) → Gives (signal s p) e o k u
    → IsDecidedWithin s p e o k
local_decided s p e o k u g =
    let open_env = with_local e s Unknown in
    let body_env = env_within sure s p e in
    let more : KnowsLess open_env body_env = local_below e e s Unknown (status_within sure s p e) (less_same e)
    (inl refl) in
    let m = ap (λ (a : Acts). a.signals (inner s)) (gives_must p body_env g.body_signals k g.left g.gives) in
    let c = ap (λ (a : Acts). a.signals (inner s)) (gives_can p body_env g.body_signals k g.left g.gives) in
    let is = between _ _ (g.body_signals (inner s)) g.decided
    (λ h. sym m ∙ ((monotone p).must_up open_env body_env more).signals (inner s) h)
    (λ h. ((monotone p).can_down sure open_env body_env more).signals (inner s) (c ∙ h)) in
    record {
      emitted = g.body_signals;
      left = g.left;
      gives = g.gives;
      seen_outside = g.signals;
      status = decided_as (body_env (inner s)) (g.body_signals (inner s))
          (own_status e s (status_within sure s p e) ∙ is);
    }

-- What is known, as masks.
use Rattle.std.proofs.Common.{◌≡◌, ℕ, Bool, true, false, not, ◌&&◌, ◌||◌, cond, List, refl, ap, sym, ◌∙◌}
use mathlib.Core.Path.{fun_ext}
use Rattle.est_kernel.specs.Bits.{bits}
use Rattle.est_kernel.specs.Interfaces.{emittable}
use Rattle.est_kernel.specs.declared.interface.Declaration.{Declaration}
use Rattle.est_kernel.specs.Term.{outer, inner, Term}
use Rattle.est_kernel.proofs.Masks.{bits_zero}
use Rattle.est_meaning.specs.Environments as meaning
use Rattle.est_meaning.specs.declared.status.Status.TheVariants.{Unknown}
use Rattle.est_meaning.specs.MustCan.{must, can, sure}
use Rattle.est_meaning.specs.Rounds.{first_env, round}
use Rattle.est_meaning.specs.Views.{set_of, env_of}
use Rattle.est_meaning.specs.declared.signal_set.Env.{Env}
use Rattle.est_meaning.specs.declared.signal_set.SignalSet.{SignalSet}
use Rattle.est_rounds.specs.Views.{judged_by}
use Rattle.est_rounds.specs.declared.judged.JudgedSignals.{JudgedSignals}

-- the signals that are judged, as a mask
pub judged_signals_are : (i : List Declaration) (inputs may_be judged : ℕ → Bool) → may_be ≡ emittable i
    → ((n : ℕ) → judged n ≡ (may_be n && not (inputs n)))
    → judged ≡ (λ n. emittable i n && not (inputs n))
judged_signals_are i inputs may_be judged e f = fun_ext (λ n. f n ∙ ap (λ (g : ℕ → Bool). g n && not (inputs n)) e)

first_verdict : (o i : Bool) → meaning.verdict (i && not o) (o || i) ≡ cond o Unknown (meaning.verdict i false)
first_verdict true true = refl
first_verdict true false = refl
first_verdict false true = refl
first_verdict false false = refl

-- before the first round
pub first_known_is : (j : JudgedSignals) (i p q : ℕ) → ((n : ℕ) → bits p n ≡ (bits i n && not (bits j.signals n)))
    → ((n : ℕ) → bits q n ≡ (bits j.signals n || bits i n))
    → env_of (record {
      present = record { interface = p; local = 0 };
      possible = record { interface = q; local = 0 };
    }) ≡ first_env (judged_by j) (bits i)
unfolding env_of set_of first_env
first_known_is j i p q f g = fun_ext (elim [
  | outer n ↦ ap (λ x. meaning.verdict x (bits q n)) (f n)
      ∙ (ap (λ x. meaning.verdict (bits i n && not (bits j.signals n)) x) (g n)
      ∙ first_verdict (bits j.signals n) (bits i n))
  | inner n ↦ ap (λ x. meaning.verdict x (bits 0 n)) (bits_zero n) ∙ ap (λ x. meaning.verdict false x) (bits_zero n)
])

chosen : (o b n : Bool) → ((b && not o) || (o && n)) ≡ cond o n b
chosen true true true = refl
chosen true true false = refl
chosen true false true = refl
chosen true false false = refl
chosen false true true = refl
chosen false true false = refl
chosen false false true = refl
chosen false false false = refl

-- a mask of which some places are judged again
pub judged_again_is : (o before now kept found : ℕ) (all : ℕ)
    → ((n : ℕ) → bits kept n ≡ (bits before n && not (bits o n))) → ((n : ℕ) → bits found n ≡ (bits o n && bits now n))
    → ((n : ℕ) → bits all n ≡ (bits kept n || bits found n)) → (n : ℕ)
    → bits all n ≡ cond (bits o n) (bits now n) (bits before n)
judged_again_is o before now kept found all fk ff e n =
    e n ∙ rw (fk n, ff n) (chosen (bits o n) (bits before n) (bits now n))

both_chosen : (o m c p q : Bool) → meaning.verdict (cond o m p) (cond o c q)
    ≡ cond o (meaning.verdict m c) (meaning.verdict p q)
both_chosen true m c p q = refl
both_chosen false m c p q = refl

-- what is known after one more round
pub next_known_is : (j : JudgedSignals) (t : Term) (e : meaning.Env) (ms cs p q : SignalSet) (p' q' : ℕ)
    → e ≡ env_of (record { present = p; possible = q }) → set_of ms ≡ (must t e).signals
    → set_of cs ≡ (can t sure e).signals
    → ((n : ℕ) → bits p' n ≡ cond (bits j.signals n) (bits ms.interface n) (bits p.interface n))
    → ((n : ℕ) → bits q' n ≡ cond (bits j.signals n) (bits cs.interface n) (bits q.interface n))
    → env_of (record {
      present = record { interface = p'; local = p.local };
      possible = record { interface = q'; local = q.local };
    }) ≡ round (judged_by j) t e
unfolding env_of set_of round
next_known_is j t e ms cs p q p' q' ee em ec fp fq = fun_ext (elim [
  | outer n ↦
      rw (fp n, fq n, ← ap (λ h. h (outer n)) em, ← ap (λ h. h (outer n)) ec, ap (λ h. h (outer n)) ee)
      (both_chosen (bits j.signals n) (bits ms.interface n) (bits cs.interface n) (bits p.interface n)
      (bits q.interface n))
  | inner n ↦ sym (ap (λ h. h (inner n)) ee)
])

left_open : (o p q : Bool) → ((o && q) && not p) ≡ (o && meaning.is_unknown (meaning.verdict p q))
left_open true true true = refl
left_open true true false = refl
left_open true false true = refl
left_open true false false = refl
left_open false true true = refl
left_open false true false = refl
left_open false false true = refl
left_open false false false = refl

-- what is left undecided
pub undecided_is : (e : Env) (o u : ℕ)
    → ((n : ℕ) → bits u n ≡ ((bits o n && bits e.possible.interface n) && not (bits e.present.interface n)))
    → (n : ℕ) → bits u n ≡ (bits o n && meaning.is_unknown (env_of e (outer n)))
unfolding env_of set_of
undecided_is e o u f n = f n ∙ left_open (bits o n) (bits e.present.interface n) (bits e.possible.interface n)

-- A term reacts in one way at most.
use Rattle.std.proofs.Common.{◌≡◌, ℕ, Bool, max, ap, sym, ◌∙◌}
use mathlib.Core.Path.{fun_ext}
use Rattle.est_kernel.specs.Codes.{code_out_of_trap}
use Rattle.est_kernel.specs.Term.{outer, Term, nothing, pause, emit, present, suspend, held, seq, loop, par, trap, exit}
use Rattle.est_kernel.specs.Term.{signal}
use Rattle.est_meaning.specs.Signals.{Signals, union, without}
use Rattle.est_meaning.specs.declared.status.Status.{Status}
use Rattle.est_meaning.specs.declared.status.Status.TheVariants.{Present, Absent}
use Rattle.est_meaning.specs.Environments.{Env, status_of}
use Rattle.est_meaning.specs.MustCan.{sure, env_within}
use Rattle.est_meaning.specs.Rules.{Gives, Behaviour, rest_of, IsJust, Inside, takes_first, takes_second, is_held}
use Rattle.est_meaning.specs.Rules.{is_resumed, goes_on, ends_then}
use Rattle.est_meaning.specs.Laws.{IsSame, IsSameReaction}
use Rattle.est_meaning.specs.Reaction.{Reacts}
use Rattle.est_meaning.specs.Rounds.{JudgedSignals, last_env}

-- no status is both
not_both : {A : Type 0} (s : Status) → s ≡ Present → s ≡ Absent → A
not_both s p q = absurd (no (sym p ∙ q))
  where
    no : Present ≡ Absent → ⊥
    no e = cc

-- a step that is exactly this
just_same : {a : Signals} {j : ℕ} {t : Term} {o : Signals} {k : ℕ} {u : Term} {o' : Signals} {k' : ℕ} {u' : Term}
    → IsJust a j t o k u → IsJust a j t o' k' u' → IsSame o k u o' k' u'
just_same g h = record { signals = g.signals ∙ sym h.signals; code = g.code ∙ sym h.code; rest = g.rest ∙ sym h.rest }

-- a step inside the same statement
inside_same : {body : Behaviour} {around : Term → Term} {o : Signals} {k : ℕ} {u : Term} {o' : Signals} {k' : ℕ}
    {u' : Term}
    → (g : Inside body around o k u) (h : Inside body around o' k' u') → IsSame o k g.left o' k' h.left
    → IsSame o k u o' k' u'
inside_same {around = around} {k = k} g h s = record {
  signals = s.signals;
  code = s.code;
  rest = g.rest ∙ (ap (λ t. rest_of k (around t)) s.rest ∙ (ap (λ i. rest_of i (around h.left)) s.code ∙ sym h.rest));
}

-- signals, code and rest
pub unique : (t : Term) (e : Env) (o : Signals) (k : ℕ) (u : Term) (o' : Signals) (k' : ℕ) (u' : Term)
    → Gives t e o k u → Gives t e o' k' u' → IsSame o k u o' k' u'
unique nothing e o k u o' k' u' g h = just_same g h
unique pause e o k u o' k' u' g h = just_same g h
unique (emit s) e o k u o' k' u' g h = just_same g h
unique (exit n) e o k u o' k' u' g h = just_same g h
unique (present s p q) e o k u o' k' u' (takes_first v g) (takes_first w h) = unique p e o k u o' k' u' g h
unique (present s p q) e o k u o' k' u' (takes_first v g) (takes_second w h) = not_both (status_of e s) v w
unique (present s p q) e o k u o' k' u' (takes_second v g) (takes_first w h) = not_both (status_of e s) w v
unique (present s p q) e o k u o' k' u' (takes_second v g) (takes_second w h) = unique q e o k u o' k' u' g h
unique (suspend s p) e o k u o' k' u' g h = inside_same g h (unique p e o k g.left o' k' h.left g.gives h.gives)
unique (held s p) e o k u o' k' u' (is_held v g) (is_held w h) = just_same g h
unique (held s p) e o k u o' k' u' (is_held v g) (is_resumed w h) = not_both (status_of e s) v w
unique (held s p) e o k u o' k' u' (is_resumed v g) (is_held w h) = not_both (status_of e s) w v
unique (held s p) e o k u o' k' u' (is_resumed v g) (is_resumed w h) =
    inside_same g h (unique p e o k g.left o' k' h.left g.gives h.gives)
unique (seq p q) e o k u o' k' u' (goes_on d g) (goes_on c h) =
    inside_same g h (unique p e o k g.left o' k' h.left g.gives h.gives)
unique (seq p q) e o k u o' k' u' (goes_on d g) (ends_then a b v x y z) =
    absurd (d (unique p e o k g.left a 0 v g.gives x).code)
unique (seq p q) e o k u o' k' u' (ends_then a b v x y z) (goes_on d g) =
    absurd (d (unique p e o' k' g.left a 0 v g.gives x).code)
unique (seq p q) e o k u o' k' u' (ends_then a b v x y z) (ends_then a' b' v' x' y' z') =
    let first = unique p e a 0 v a' 0 v' x x' in
    let second = unique q e b k u b' k' u' y y' in
    record {
      signals = z ∙ (ap (λ s. union s b) first.signals ∙ (ap (λ s. union a' s) second.signals ∙ sym z'));
      code = second.code;
      rest = second.rest;
    }
unique (loop p) e o k u o' k' u' g h =
    inside_same g.inside h.inside (unique p e o k g.inside.left o' k' h.inside.left g.inside.gives h.inside.gives)
unique (par p q) e o k u o' k' u' g h =
    let x = unique p e g.left_signals g.left_code g.left_rest h.left_signals h.left_code h.left_rest g.left_gives
    h.left_gives in
    let y = unique q e g.right_signals g.right_code g.right_rest h.right_signals h.right_code h.right_rest
    g.right_gives h.right_gives in
    let c = ap (λ i. max i g.right_code) x.code ∙ ap (λ i. max h.left_code i) y.code in
    record {
      signals = g.signals ∙ (ap (λ s. union s g.right_signals) x.signals
          ∙ (ap (λ s. union h.left_signals s) y.signals ∙ sym h.signals));
      code = g.code ∙ (c ∙ sym h.code);
      rest = g.rest ∙ (ap (λ i. rest_of i (par g.left_rest g.right_rest)) (g.code ∙ (c ∙ sym h.code))
          ∙ (ap (λ t. rest_of k' (par t g.right_rest)) x.rest
          ∙ (ap (λ t. rest_of k' (par h.left_rest t)) y.rest ∙ sym h.rest)));
    }
unique (trap p) e o k u o' k' u' g h =
    let x = unique p e o g.body_code g.left o' h.body_code h.left g.gives h.gives in
    let c = g.code ∙ (ap code_out_of_trap x.code ∙ sym h.code) in
    record {
      signals = x.signals;
      code = c;
      rest = g.rest ∙ (ap (λ i. rest_of i (trap g.left)) c ∙ (ap (λ t. rest_of k' (trap t)) x.rest ∙ sym h.rest));
    }
unique (signal s p) e o k u o' k' u' g h =
    let x = unique p (env_within sure s p e) g.body_signals k g.left h.body_signals k' h.left g.gives h.gives in
    record {
      signals = g.signals ∙ (ap (λ a. without s a) x.signals ∙ sym h.signals);
      code = x.code;
      rest = g.rest
          ∙ (ap (λ i. rest_of i (signal s g.left)) x.code ∙ (ap (λ t. rest_of k' (signal s t)) x.rest ∙ sym h.rest));
    }

-- to the inputs of an instant too
pub one_reaction : (j : JudgedSignals) (inputs : ℕ → Bool) (t : Term) (outputs : ℕ → Bool) (u : Term)
    (outputs' : ℕ → Bool) (u' : Term)
    → Reacts j inputs t outputs u → Reacts j inputs t outputs' u' → IsSameReaction outputs u outputs' u'
one_reaction j inputs t outputs u outputs' u' g h =
    let s = unique t (last_env j inputs t) g.signals g.code u h.signals h.code u' g.gives h.gives in
    record {
      shown = fun_ext (λ n. g.seen n ∙ (ap (λ (f : Signals). f (outer n)) s.signals ∙ sym (h.seen n)));
      next = s.rest;
    }

-- A term that reacts must do just that and can do nothing else; and where Must gives a code, the rules react.
use Rattle.std.specs.Prelude.{◌≡◌, ◌≢◌, ℕ, zero, suc, ◌+◌, Bool, true, false, cond, ◌&&◌, max}
use Rattle.std.proofs.Common.{inl, inr, ap, sym, ◌∙◌, refl, arith}
use Rattle.std.proofs.lemmas.Bool.{eq-eqb, or_cases, and_parts, both_ways, or_right}
use Rattle.est_kernel.specs.Term.{inner, Query, Term, nothing, pause, emit, present, suspend, held, seq, loop, par}
use Rattle.est_kernel.specs.Term.{trap, exit, signal}
use Rattle.est_kernel.specs.Codes.{Codes, no_codes, code, either_code, but_zero, max_codes, some_up_to}
use Rattle.est_kernel.specs.Codes.{codes_out_of_trap, code_out_of_trap}
use Rattle.est_meaning.specs.Signals.{Signals, no_signals, only, union, without}
use Rattle.est_meaning.specs.declared.status.Status.{Status}
use Rattle.est_meaning.specs.declared.status.Status.TheVariants.{Present, Absent, Unknown}
use Rattle.est_meaning.specs.Environments.{Env, status_of, with_local, verdict, by_status}
use Rattle.est_meaning.specs.MustCan.{Acts, no_acts, just_code, must_then, sure, must, can, status_within, env_within}
use Rattle.est_kernel.specs.StartCodes.{start_codes, IsLoopSafe}
use Rattle.est_meaning.specs.Rules.{Gives, HasNoRule, rest_of, takes_first, takes_second, is_held, is_resumed, goes_on}
use Rattle.est_meaning.specs.Rules.{ends_then}
use Rattle.est_meaning.specs.Laws.{just, HasRule, HasNoCode}
use Rattle.est_meaning.proofs.CodeSetLemmas.{code_at, code_zero, max_of_codes, out_of_trap_code, later_code}
use Rattle.est_meaning.proofs.CodeSetLemmas.{up_to_found, max_mono, out_of_trap_mono, code_true, none_true}

-- where the rules react, Must gives just that
pub gives_must : (t : Term) (e : Env) (o : Signals) (k : ℕ) (u : Term) → Gives t e o k u → must t e ≡ just o k
gives_must nothing e o k u g = rw (g.signals, g.code) refl
gives_must pause e o k u g = rw (g.signals, g.code) refl
gives_must (emit s) e o k u g = rw (g.signals, g.code) refl
gives_must (exit n) e o k u g = rw (g.signals, g.code) refl
gives_must (present s p q) e o k u (takes_first v g) = rw v (gives_must p e o k u g)
gives_must (present s p q) e o k u (takes_second v g) = rw v (gives_must q e o k u g)
gives_must (suspend s p) e o k u g = gives_must p e o k g.left g.gives
gives_must (held s p) e o k u (is_held v g) = rw (v, g.signals, g.code) refl
gives_must (held s p) e o k u (is_resumed v g) = rw v (gives_must p e o k g.left g.gives)
gives_must (seq p q) e o k u (goes_on d g) = rw (gives_must p e o k g.left g.gives, code_zero k d) refl
gives_must (seq p q) e o k u (ends_then a b v x y z) = rw
    (gives_must p e a 0 v x, gives_must q e b k u y, code_at 0 0, z) refl
gives_must (loop p) e o k u g = gives_must p e o k g.inside.left g.inside.gives
gives_must (par p q) e o k u g =
    rw (
      gives_must p e g.left_signals g.left_code g.left_rest g.left_gives,
      gives_must q e g.right_signals g.right_code g.right_rest g.right_gives,
      max_of_codes g.left_code g.right_code,
      g.signals,
      g.code,
    ) refl
gives_must (trap p) e o k u g = rw (gives_must p e o g.body_code g.left g.gives, out_of_trap_code g.body_code, g.code)
    refl
gives_must (signal s p) e o k u g = rw (gives_must p (env_within sure s p e) g.body_signals k g.left g.gives, g.signals)
    refl

-- where the rules react, Can gives just that
pub gives_can : (t : Term) (e : Env) (o : Signals) (k : ℕ) (u : Term) → Gives t e o k u → can t sure e ≡ just o k
gives_can nothing e o k u g = rw (g.signals, g.code) refl
gives_can pause e o k u g = rw (g.signals, g.code) refl
gives_can (emit s) e o k u g = rw (g.signals, g.code) refl
gives_can (exit n) e o k u g = rw (g.signals, g.code) refl
gives_can (present s p q) e o k u (takes_first v g) = rw v (gives_can p e o k u g)
gives_can (present s p q) e o k u (takes_second v g) = rw v (gives_can q e o k u g)
gives_can (suspend s p) e o k u g = gives_can p e o k g.left g.gives
gives_can (held s p) e o k u (is_held v g) = rw (v, g.signals, g.code) refl
gives_can (held s p) e o k u (is_resumed v g) = rw v (gives_can p e o k g.left g.gives)
gives_can (seq p q) e o k u (goes_on d g) = rw (gives_can p e o k g.left g.gives, code_zero k d) refl
gives_can (seq p q) e o k u (ends_then a b v x y z) =
    rw (gives_can p e a 0 v x, gives_must p e a 0 v x, code_at 0 0, gives_can q e b k u y, later_code k, z) refl
gives_can (loop p) e o k u g = gives_can p e o k g.inside.left g.inside.gives
gives_can (par p q) e o k u g =
    rw (
      gives_can p e g.left_signals g.left_code g.left_rest g.left_gives,
      gives_can q e g.right_signals g.right_code g.right_rest g.right_gives,
      max_of_codes g.left_code g.right_code,
      g.signals,
      g.code,
    ) refl
gives_can (trap p) e o k u g = rw (gives_can p e o g.body_code g.left g.gives, out_of_trap_code g.body_code, g.code)
    refl
gives_can (signal s p) e o k u g = rw (gives_can p (env_within sure s p e) g.body_signals k g.left g.gives, g.signals)
    refl

chosen_starts : (v : Status) (a b : Acts) (c d : Codes) (k : ℕ) → (a.codes k ≡ true → c k ≡ true)
    → (b.codes k ≡ true → d k ≡ true)
    → (by_status v a b no_acts).codes k ≡ true → either_code c d k ≡ true
unfolding either_code no_codes
chosen_starts Present a b c d k f g h = rw (f h) refl
chosen_starts Absent a b c d k f g h = or_right (c k) (d k) (g h)
chosen_starts Unknown a b c d k f g h = cc

held_starts : (v : Status) (a : Acts) (c : Codes) (k : ℕ) → (a.codes k ≡ true → c k ≡ true)
    → (by_status v (just_code 1) a no_acts).codes k ≡ true → either_code c (code 1) k ≡ true
unfolding either_code no_codes
held_starts Present a c k f h = or_right (c k) (code 1 k) h
held_starts Absent a c k f h = rw (f h) refl
held_starts Unknown a c k f h = cc

seq_starts : (a b : Acts) (c d : Codes) (k : ℕ) → ((i : ℕ) → a.codes i ≡ true → c i ≡ true)
    → (b.codes k ≡ true → d k ≡ true)
    → (must_then a b).codes k ≡ true → cond (c 0) (either_code (but_zero c) d) c k ≡ true
unfolding either_code but_zero
seq_starts a b c d k f g h = go (a.codes 0) refl h
  where
    kept : (k : ℕ) (y : Bool) → a.codes 0 ≡ false → a.codes k ≡ true → cond y (either_code (but_zero c) d) c k ≡ true
    kept zero y z l = absurd (both_ways (a.codes 0) z l)
    kept (suc n) true z l = rw (f (suc n) l) refl
    kept (suc n) false z l = f (suc n) l

    go : (x : Bool) → a.codes 0 ≡ x → (cond x
        (record { signals = union a.signals b.signals; codes = b.codes }) a).codes k ≡ true
        → cond (c 0) (either_code (but_zero c) d) c k ≡ true
    go true e l = rw (f 0 e) (or_right (but_zero c k) (d k) (g l))
    go false e l = kept k (c 0) e l

-- what must be given is among the codes at the start
pub must_starts : (t : Term) (e : Env) (k : ℕ) → (must t e).codes k ≡ true → start_codes t k ≡ true
must_starts nothing e k h = h
must_starts pause e k h = h
must_starts (emit s) e k h = h
must_starts (exit n) e k h = h
must_starts (present s p q) e k h =
    chosen_starts (status_of e s) (must p e) (must q e) _ _ k (must_starts p e k) (must_starts q e k) h
must_starts (suspend s p) e k h = must_starts p e k h
must_starts (held s p) e k h = held_starts (status_of e s) (must p e) _ k (must_starts p e k) h
must_starts (seq p q) e k h = seq_starts (must p e) (must q e) _ _ k (must_starts p e) (must_starts q e k) h
must_starts (loop p) e k h = must_starts p e k h
must_starts (par p q) e k h = max_mono _ _ _ _ k (must_starts p e) (must_starts q e) h
must_starts (trap p) e k h = out_of_trap_mono _ _ k (must_starts p e) h
must_starts (signal s p) e k h = must_starts p _ k h

present_has : (s : Query) (p q : Term) (e : Env) (k : ℕ) (v : Status) → status_of e s ≡ v
    → ((must p e).codes k ≡ true → HasRule p e k) → ((must q e).codes k ≡ true → HasRule q e k)
    → (by_status v (must p e) (must q e) no_acts).codes k ≡ true → HasRule (present s p q) e k
present_has s p q e k Present d f g h = let r = f h in
    record { signals = r.signals; rest = r.rest; gives = takes_first d r.gives }
present_has s p q e k Absent d f g h = let r = g h in
    record { signals = r.signals; rest = r.rest; gives = takes_second d r.gives }
present_has s p q e k Unknown d f g h = none_true k h

held_has : (s : Query) (p : Term) (e : Env) (k : ℕ) (v : Status) → status_of e s ≡ v
    → ((must p e).codes k ≡ true → HasRule p e k)
    → (by_status v (just_code 1) (must p e) no_acts).codes k ≡ true → HasRule (held s p) e k
held_has s p e k Present d f h = record {
  signals = no_signals;
  rest = held s p;
  gives = is_held d (record { signals = refl; code = code_true 1 k h; rest = refl });
}
held_has s p e k Absent d f h =
    let r = f h in
    record {
      signals = r.signals;
      rest = rest_of k (held s r.rest);
      gives = is_resumed d (record { left = r.rest; gives = r.gives; rest = refl });
    }
held_has s p e k Unknown d f h = none_true k h

seq_has : (p q : Term) (e : Env) (k : ℕ) (b : Bool) → (must p e).codes 0 ≡ b
    → ((i : ℕ) → (must p e).codes i ≡ true → HasRule p e i) → ((must q e).codes k ≡ true → HasRule q e k)
    → (cond b (record { signals = union (must p e).signals (must q e).signals; codes = (must q e).codes })
    (must p e)).codes k ≡ true → HasRule (seq p q) e k
seq_has p q e k true d f g h =
    let r = f 0 d in
    let w = g h in
    record {
      signals = union r.signals w.signals;
      rest = w.rest;
      gives = ends_then r.signals w.signals r.rest r.gives w.gives refl;
    }
seq_has p q e k false d f g h =
    let r = f k h in
    record {
      signals = r.signals;
      rest = rest_of k (seq r.rest q);
      gives = goes_on (λ z. both_ways ((must p e).codes 0) d (rw z at h))
          (record { left = r.rest; gives = r.gives; rest = refl });
    }

both_have : (p q : Term) (e : Env) (i j k : ℕ) → HasRule p e i → HasRule q e j → k ≡ max i j → HasRule (par p q) e k
both_have p q e i j k r w c = record {
  signals = union r.signals w.signals;
  rest = rest_of k (par r.rest w.rest);
  gives = record {
    left_signals = r.signals;
    left_code = i;
    left_rest = r.rest;
    left_gives = r.gives;
    right_signals = w.signals;
    right_code = j;
    right_rest = w.rest;
    right_gives = w.gives;
    signals = refl;
    code = c;
    rest = refl;
  };
}

par_has : (p q : Term) (e : Env) (k : ℕ) → ((i : ℕ) → (must p e).codes i ≡ true → HasRule p e i)
    → ((i : ℕ) → (must q e).codes i ≡ true → HasRule q e i)
    → max_codes (must p e).codes (must q e).codes k ≡ true → HasRule (par p q) e k
unfolding max_codes
par_has p q e k f g h =
    elim (or_cases ((must p e).codes k && some_up_to (must q e).codes k)
    ((must q e).codes k && some_up_to (must p e).codes k) h) [
      | inl l ↦
          let x = and_parts ((must p e).codes k) (some_up_to (must q e).codes k) l in
          let j = up_to_found (must q e).codes k x.1 in
          both_have p q e k j.0 k (f k x.0) (g j.0 j.2) (omega (arith, j.1))
      | inr l ↦
          let x = and_parts ((must q e).codes k) (some_up_to (must p e).codes k) l in
          let j = up_to_found (must p e).codes k x.1 in
          both_have p q e j.0 k k (f j.0 j.2) (g k x.0) (omega (arith, j.1))
    ]

trap_with : (p : Term) (e : Env) (i k : ℕ) → HasRule p e i → k ≡ code_out_of_trap i → HasRule (trap p) e k
trap_with p e i k r c = record {
  signals = r.signals;
  rest = rest_of k (trap r.rest);
  gives = record { body_code = i; left = r.rest; gives = r.gives; code = c; rest = refl };
}

trap_has : (p : Term) (e : Env) (k : ℕ) → ((i : ℕ) → (must p e).codes i ≡ true → HasRule p e i)
    → codes_out_of_trap (must p e).codes k ≡ true → HasRule (trap p) e k
unfolding codes_out_of_trap
trap_has p e zero f h = elim (or_cases ((must p e).codes 0) ((must p e).codes 2) h) [
  | inl l ↦ trap_with p e 0 0 (f 0 l) refl
  | inr l ↦ trap_with p e 2 0 (f 2 l) refl
]
trap_has p e (suc zero) f h = trap_with p e 1 1 (f 1 h) refl
trap_has p e (suc (suc k)) f h = trap_with p e (suc (suc (suc k))) (suc (suc k)) (f (suc (suc (suc k))) h) refl

verdict_known : (b c : Bool) → b ≡ c → verdict b c ≢ Unknown
verdict_known true c e h = cc
verdict_known false true e h = cc
verdict_known false false e h = cc

signal_has : (s : ℕ) (p : Term) (e : Env) (k : ℕ) → HasRule p (env_within sure s p e) k → HasRule (signal s p) e k
signal_has s p e k r = record {
  signals = without s r.signals;
  rest = rest_of k (signal s r.rest);
  gives = record {
    decided = known;
    body_signals = r.signals;
    left = r.rest;
    gives = r.gives;
    signals = refl;
    rest = refl;
  };
}
  where
    known : status_within sure s p e ≢ Unknown
    known h =
        let g = rw h at r.gives in
        let open_env = with_local e s Unknown in
        let m = ap (λ (a : Acts). a.signals (inner s)) (gives_must p open_env r.signals k r.rest g) in
        let c = ap (λ (a : Acts). a.signals (inner s)) (gives_can p open_env r.signals k r.rest g) in
        verdict_known _ _ (m ∙ sym c) h

inside_of : (p : Term) (e : Env) (k : ℕ) (around : Term → Term) (t : Term)
    → ((o : Signals) (left : Term) → Gives p e o k left → Gives t e o k (rest_of k (around left)))
    → HasRule p e k → HasRule t e k
inside_of p e k around t f r =
    record { signals = r.signals; rest = rest_of k (around r.rest); gives = f r.signals r.rest r.gives }

-- where Must has a code, the rules react with it
pub must_gives : (t : Term) (e : Env) (k : ℕ) → IsLoopSafe t → (must t e).codes k ≡ true → HasRule t e k
must_gives nothing e k i h =
    record {
      signals = no_signals;
      rest = nothing;
      gives =
          record { signals = refl; code = code_true 0 k h; rest = refl };
    }
must_gives pause e k i h =
    record {
      signals = no_signals;
      rest = nothing;
      gives =
          record { signals = refl; code = code_true 1 k h; rest = refl };
    }
must_gives (emit s) e k i h =
    record { signals = only s; rest = nothing; gives = record { signals = refl; code = code_true 0 k h; rest = refl } }
must_gives (exit n) e k i h = record {
  signals = no_signals;
  rest = nothing;
  gives = record { signals = refl; code = code_true (n + 2) k h; rest = refl };
}
must_gives (present s p q) e k i h = present_has s p q e k (status_of e s) refl (must_gives p e k i.0)
    (must_gives q e k i.1) h
must_gives (suspend s p) e k i h = inside_of p e k (λ t. held s t) (suspend s p)
    (λ o v g. record { left = v; gives = g; rest = refl }) (must_gives p e k i h)
must_gives (held s p) e k i h = held_has s p e k (status_of e s) refl (must_gives p e k i) h
must_gives (seq p q) e k i h = seq_has p q e k ((must p e).codes 0) refl (λ j. must_gives p e j i.0)
    (must_gives q e k i.1) h
must_gives (loop p) e k i h =
    let not_ended : k ≢ 0 = λ z. both_ways (start_codes p 0) i.1 (must_starts p e 0 (rw z at h)) in
    inside_of p e k (λ t. seq t (loop p)) (loop p)
    (λ o v g. record { not_ended = not_ended; inside = record { left = v; gives = g; rest = refl } })
    (must_gives p e k i.0 h)
must_gives (par p q) e k i h = par_has p q e k (λ j. must_gives p e j i.0) (λ j. must_gives q e j i.1) h
must_gives (trap p) e k i h = trap_has p e k (λ j. must_gives p e j i) h
must_gives (signal s p) e k i h = signal_has s p e k (must_gives p (env_within sure s p e) k i h)

-- where the rules react with a code, Must has it
pub rule_has_code : (t : Term) (e : Env) (k : ℕ) → HasRule t e k → (must t e).codes k ≡ true
rule_has_code t e k r = ap (λ (a : Acts). a.codes k) (gives_must t e r.signals k r.rest r.gives)
    ∙ (code_at k k ∙ eq-eqb k k refl)

-- where the rules give nothing, Must has no code
pub must_silent : (t : Term) (e : Env) → IsLoopSafe t → HasNoRule t e → HasNoCode (must t e)
must_silent t e i none k = go ((must t e).codes k) refl
  where
    go : (b : Bool) → (must t e).codes k ≡ b → b ≡ false
    go true h = let r = must_gives t e k i h in absurd (none r.signals k r.rest r.gives)
    go false h = refl

-- where Must has no code, the rules give nothing
pub silent_none : (t : Term) (e : Env) → HasNoCode (must t e) → HasNoRule t e
silent_none t e f o k u g =
    both_ways ((must t e).codes k) (f k) (rule_has_code t e k (record { signals = o; rest = u; gives = g }))

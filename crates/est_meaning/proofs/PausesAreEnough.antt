-- Where the rules react, some set of pauses stands for what is left.
use Rattle.std.proofs.Common.{ap, ◌≡◌, ◌≢◌, ℕ, zero, suc, Bool, true, false, ◌&&◌, ◌||◌, cond, nat_eq, max, refl, sym}
use Rattle.std.proofs.Common.{◌∙◌, inl, inr, subst, arith}
use Rattle.std.proofs.lemmas.Bool.{ne_eqb, eq-eqb, or_parts, both_ways, cases_eq}
use Rattle.est_kernel.specs.Codes.{code_out_of_trap}
use Rattle.est_kernel.specs.PauseNumbers.{has_pause, HasDistinctPauses, AreApart}
use Rattle.est_kernel.specs.View.{term_of, query_of}
use Rattle.est_kernel.specs.Term.{Term, nothing, suspend, held, seq, loop, par, trap, signal}
use Rattle.est_kernel.specs.declared.statement.Statement.{Statement}
use Rattle.est_kernel.specs.declared.statement.Statement.TheVariants.{Nothing, Pause, Emit, Present', Suspend', Seq'}
use Rattle.est_kernel.specs.declared.statement.Statement.TheVariants.{Loop', Par', Trap', Exit, Local' as Binder'}
use Rattle.est_kernel.specs.declared.statement.LocalSignal.{LocalSignal}
use Rattle.est_meaning.specs.Signals.{Signals, no_signals, union, without}
use Rattle.est_meaning.specs.declared.status.Status.TheVariants.{Unknown}
use Rattle.est_meaning.specs.Environments.{Env}
use Rattle.est_meaning.specs.MustCan.{sure, status_within, env_within}
use Rattle.est_meaning.specs.Rules.{Gives, rest_of, takes_first, takes_second, is_held, is_resumed, goes_on, ends_then}
use Rattle.est_meaning.specs.Steps.{StepsTo}
use Rattle.est_meaning.specs.Laws.{IsStateFor, SomeStateFor}
use Rattle.est_meaning.specs.States.{term_at, is_live, IsExclusive, HasPausedAt, IsState, state_term}
use Rattle.est_kernel.specs.Pauses.{pauses_of}
use Rattle.est_kernel.specs.declared.state.State.{State}
use Rattle.est_kernel.specs.declared.state.State.TheVariants.{Fresh, Done, Paused}
use Rattle.est_meaning.proofs.PauseWordLemmas.{words_from, has_members, is_word_set, no_pause_above}
use Rattle.est_meaning.proofs.OneReactionAtMost.{unique}
use Rattle.est_meaning.proofs.AgreementLemmas.{dead_exclusive, cleared_dead}
use Rattle.est_meaning.proofs.SteppingLemmas.{steps_same, rest_in, seq_stays, seq_goes, seq_second, loop_again}
use Rattle.est_meaning.proofs.SteppingLemmas.{present_on, present_off, present_first, present_second, par_pauses}
use Rattle.est_meaning.proofs.SteppingLemmas.{par_ends, stays_held}

-- the pauses after a step, none of them outside of the statement
pub record Next (s : Statement) (t : Term) (e : Env) (o : Signals) (k : ℕ) : Type 0 where
  pub next : ℕ → Bool
  pub steps : StepsTo s t e o k next
  pub own : (i : ℕ) → has_pause s i ≡ false → next i ≡ false

no_bits : ℕ → Bool
no_bits i = false

-- a set of the pauses of one side alone
pub other_dead : (p q : Statement) (n : ℕ → Bool) → ((i : ℕ) → has_pause q i ≡ true → has_pause p i ≡ false)
    → ((i : ℕ) → has_pause p i ≡ false → n i ≡ false) → is_live q n ≡ false
other_dead p q n apart own = cleared_dead q n (λ i h. own i (apart i h))

pub turned : (p q : Statement) → AreApart p q → (i : ℕ) → has_pause q i ≡ true → has_pause p i ≡ false
turned p q d i h = go (has_pause p i) refl
  where
    go : (x : Bool) → has_pause p i ≡ x → x ≡ false
    go true e = absurd (both_ways (has_pause q i) (d i e) h)
    go false e = refl

quiet_at : (s : Statement) (t : Term) (e : Env) (o : Signals) (k : ℕ) → (k ≡ 1 → ⊥) → is_live s (λ _. false) ≡ false
    → Gives t e o k (rest_of k (term_at s (λ _. false))) → Next s t e o k
quiet_at s t e o k z dead g = record {
  next = λ _. false;
  steps = record { gives = g; live = dead ∙ sym (ne_eqb k 1 z); exclusive = dead_exclusive s (λ _. false) dead };
  own = λ i h. refl;
}

pub not_one : (k : ℕ) → k ≡ 0 → k ≡ 1 → ⊥
not_one k z h = absurd (omega (arith, z, h))

pub gone : (k : ℕ) → (k ≡ 1 → ⊥) → rest_of k nothing ≡ nothing
gone zero d = refl
gone (suc zero) d = refl
gone (suc (suc k)) d = refl

suspends : {a : _} {x : _} {p : Statement} {e : Env} {o : Signals} {k : ℕ} → Next p (term_of p) e o k
    → Next (Suspend' x a p) (suspend (query_of x) (term_of p)) e o k
suspends {x = x} {p = p} {k = k} n = record {
  next = n.next;
  steps = record {
    gives = record {
      left = rest_of k (term_at p n.next);
      gives = n.steps.gives;
      rest = rest_in (λ u. held (query_of x) u) k (term_at p n.next);
    };
    live = n.steps.live;
    exclusive = n.steps.exclusive;
  };
  own = n.own;
}

loops : {a : _} {p : Statement} {e : Env} {o : Signals} {k : ℕ} → k ≢ 0 → Next p (term_of p) e o k
    → Next (Loop' a p) (loop (term_of p)) e o k
loops {p = p} {k = k} d n = record {
  next = n.next;
  steps = record {
    gives = record {
      not_ended = d;
      inside = record {
        left = rest_of k (term_at p n.next);
        gives = n.steps.gives;
        rest = rest_in (λ u. seq u (loop (term_of p))) k (term_at p n.next);
      };
    };
    live = n.steps.live;
    exclusive = n.steps.exclusive;
  };
  own = n.own;
}

pub out_of_trap_live : (i : ℕ) → nat_eq i 1 ≡ nat_eq (code_out_of_trap i) 1
out_of_trap_live zero = refl
out_of_trap_live (suc zero) = refl
out_of_trap_live (suc (suc zero)) = ne_eqb 2 1 (λ h. absurd (omega arith))
out_of_trap_live (suc (suc (suc i))) =
    ne_eqb (suc (suc (suc i))) 1 (λ h. absurd (omega arith)) ∙ sym (ne_eqb (suc (suc i)) 1 (λ h. absurd (omega arith)))

pub out_of_trap_rest : (i : ℕ) (x : Term) → rest_of (code_out_of_trap i) (trap x)
    ≡ rest_of (code_out_of_trap i) (trap (rest_of i x))
out_of_trap_rest zero x = refl
out_of_trap_rest (suc zero) x = refl
out_of_trap_rest (suc (suc zero)) x = refl
out_of_trap_rest (suc (suc (suc i))) x = refl

traps : {a : _} {p : Statement} {t : Term} {e : Env} {o : Signals} {i k : ℕ} → k ≡ code_out_of_trap i
    → Next p t e o i → Next (Trap' a p) (trap t) e o k
traps {p = p} {t = t} {e = e} {o = o} {i = i} {k = k} z n = record {
  next = n.next;
  steps = record {
    gives = record {
      body_code = i;
      left = rest_of i (term_at p n.next);
      gives = n.steps.gives;
      code = z;
      rest = rw z (out_of_trap_rest i (term_at p n.next));
    };
    live = rw z (n.steps.live ∙ out_of_trap_live i);
    exclusive = n.steps.exclusive;
  };
  own = n.own;
}

binds : {a : _} {x : LocalSignal} {p : Statement} {t : Term} {e : Env} {o r : Signals} {k : ℕ}
    → status_within sure x.index t e ≢ Unknown → r ≡ without x.index o
    → Next p t (env_within sure x.index t e) o k → Next (Binder' x a p) (signal x.index t) e r k
binds {x = x} {p = p} {o = o} {k = k} d z n = record {
  next = n.next;
  steps = record {
    gives = record {
      decided = d;
      body_signals = o;
      left = rest_of k (term_at p n.next);
      gives = n.steps.gives;
      signals = z;
      rest = rest_in (λ u. signal x.index u) k (term_at p n.next);
    };
    live = n.steps.live;
    exclusive = n.steps.exclusive;
  };
  own = n.own;
}

-- both sides, each with its own pauses
sides : {a b : _} {p q : Statement} {t u : Term} {e : Env} {o o' : Signals} {i j : ℕ} → AreApart p q → Next p t e o i
    → Next q u e o' j → Next (Par' a p b q) (par t u) e (union o o') (max i j)
sides {a = a} {b = b} {p = p} {q = q} {t = t} {u = u} {e = e} {o = o} {o' = o'} {i = i} {j = j} apart m n =
    elim (cases_eq (max i j) 1) [
      | inl one ↦ record {
        next = both;
        steps = par_pauses one left right;
        own = λ x h. let d = or_parts (has_pause p x) (has_pause q x) h in rw (m.own x d.0, n.own x d.1) refl;
      }
      | inr many ↦ record {
        next = λ _. false;
        steps = par_ends many left right (cleared_dead p (λ _. false) (λ _ _. refl))
            (cleared_dead q (λ _. false) (λ _ _. refl));
        own = λ _ _. refl;
      }
    ]
  where
    both : ℕ → Bool
    both x = m.next x || n.next x

    in_left : (x y : Bool) → y ≡ false → x ≡ (x || y)
    in_left true y h = refl
    in_left false y h = sym h

    left : StepsTo p t e o i both
    left = steps_same p t e o i m.next both (λ x h. in_left (m.next x) (n.next x) (n.own x (apart x h))) m.steps

    in_right : (x y : Bool) → x ≡ false → y ≡ (x || y)
    in_right true y h = absurd (both_ways true h refl)
    in_right false y h = refl

    right : StepsTo q u e o' j both
    right = steps_same q u e o' j n.next both (λ x h. in_right (m.next x) (n.next x) (m.own x (turned p q apart x h)))
        n.steps

-- a statement that begins
pub begins : (s : Statement) → HasDistinctPauses s → (e : Env) (o : Signals) (k : ℕ) (u : Term)
    → Gives (term_of s) e o k u → Next s (term_of s) e o k
begins Nothing num e o k u g =
    quiet_at Nothing _ e o k (not_one k g.code) refl
    (record { signals = g.signals; code = g.code; rest = rw g.code refl })
begins (Emit s) num e o k u g =
    quiet_at (Emit s) _ e o k (not_one k g.code) refl
    (record { signals = g.signals; code = g.code; rest = rw g.code refl })
begins (Exit n) num e o k u g = quiet_at (Exit n) _ e o k (λ h. absurd (omega (arith, h, g.code))) refl
    (record { signals = g.signals; code = g.code; rest = gone k (λ h. absurd (omega (arith, h, g.code))) })
begins (Pause n) num e o k u g = record {
  next = λ i. nat_eq n.index i;
  steps = record {
    gives = record { signals = g.signals; code = g.code; rest = rw g.code refl };
    live = eq-eqb n.index n.index refl ∙ sym (rw g.code refl);
    exclusive = tt;
  };
  own = λ i h. h;
}
begins (Present' x a p b q) num e o k u (takes_first v g) =
    let n = begins p num.0 e o k u g in
    record {
      next = n.next;
      steps = present_on (sym v) n.steps (other_dead p q n.next (turned p q num.2) n.own);
      own = λ i h. n.own i (or_parts (has_pause p i) (has_pause q i) h).0;
    }
begins (Present' x a p b q) num e o k u (takes_second v g) =
    let n = begins q num.1 e o k u g in
    record {
      next = n.next;
      steps = present_off (sym v) n.steps (other_dead q p n.next num.2 n.own);
      own = λ i h. n.own i (or_parts (has_pause p i) (has_pause q i) h).1;
    }
begins (Suspend' x a p) num e o k u g = suspends (begins p num e o k g.left g.gives)
begins (Seq' a p b q) num e o k u (goes_on d g) =
    let n = begins p num.0 e o k g.left g.gives in
    record {
      next = n.next;
      steps = seq_stays d n.steps (other_dead p q n.next (turned p q num.2) n.own);
      own = λ i h. n.own i (or_parts (has_pause p i) (has_pause q i) h).0;
    }
begins (Seq' a p b q) num e o k u (ends_then before after v x y w) =
    let m = begins p num.0 e before 0 v x in
    let n = begins q num.1 e after k u y in
    record {
      next = n.next;
      steps = subst (λ (z : Signals). StepsTo (Seq' a p b q) (seq (term_of p) (term_of q)) e z k n.next) (sym w)
          (seq_goes m.steps n.steps (other_dead q p n.next num.2 n.own));
      own = λ i h. n.own i (or_parts (has_pause p i) (has_pause q i) h).1;
    }
begins (Loop' a p) num e o k u g = loops g.not_ended (begins p num e o k g.inside.left g.inside.gives)
begins (Par' a p b q) num e o k u g =
    let m = begins p num.0 e g.left_signals g.left_code g.left_rest g.left_gives in
    let n = begins q num.1 e g.right_signals g.right_code g.right_rest g.right_gives in
    subst (λ (z : ℕ). Next (Par' a p b q) (par (term_of p) (term_of q)) e o z) (sym g.code)
    (subst (λ (z : Signals). Next (Par' a p b q) (par (term_of p) (term_of q)) e z (max g.left_code g.right_code))
    (sym g.signals) (sides num.2 m n))
begins (Trap' a p) num e o k u g = traps g.code (begins p num e o g.body_code g.left g.gives)
begins (Binder' x a p) num e o k u g = binds g.decided g.signals (begins p num _ g.body_signals k g.left g.gives)

-- a side of a parallel that goes on
side_goes : (s : Statement) (b : ℕ → Bool) (e : Env) (o : Signals) (k : ℕ) (u : Term) (x : Bool) → is_live s b ≡ x
    → (is_live s b ≡ true → Gives (term_at s b) e o k u → Next s (term_at s b) e o k)
    → Gives (cond x (term_at s b) nothing) e o k u → Next s (cond x (term_at s b) nothing) e o k
side_goes s b e o k u true l f g = f l g
side_goes s b e o k u false l f g = quiet_at s nothing e o k (not_one k g.code)
    (cleared_dead s (λ _. false) (λ _ _. refl)) (record { signals = g.signals; code = g.code; rest = rw g.code refl })

present_goes : {a c : _} {y : _} (p q : Statement) → AreApart p q
    → (b : ℕ → Bool) (e : Env) (o : Signals) (k : ℕ) (u : Term) (x : Bool) → is_live p b ≡ x
    → (is_live p b || is_live q b) ≡ true
    → (is_live p b ≡ true → Gives (term_at p b) e o k u → Next p (term_at p b) e o k)
    → (is_live q b ≡ true → Gives (term_at q b) e o k u → Next q (term_at q b) e o k)
    → Gives (cond x (term_at p b) (term_at q b)) e o k u → Next (Present' y a p c q)
    (cond x (term_at p b) (term_at q b)) e o k
present_goes p q apart b e o k u true l live f h g =
    let n = f l g in
    record {
      next = n.next;
      steps = present_first n.steps (other_dead p q n.next (turned p q apart) n.own);
      own = λ i d. n.own i (or_parts (has_pause p i) (has_pause q i) d).0;
    }
present_goes p q apart b e o k u false l live f h g =
    let n = h (rw l at live) g in
    record {
      next = n.next;
      steps = present_second n.steps (other_dead q p n.next apart n.own);
      own = λ i d. n.own i (or_parts (has_pause p i) (has_pause q i) d).1;
    }

seq_on : {a c : _} (p q : Statement) → HasDistinctPauses q → AreApart p q
    → (b : ℕ → Bool) (e : Env) (o : Signals) (k : ℕ) (u : Term) (x : Bool) → is_live p b ≡ x
    → (is_live p b || is_live q b) ≡ true
    → (is_live p b ≡ true → (o : Signals) (k : ℕ) (u : Term) → Gives (term_at p b) e o k u → Next p (term_at p b) e o k)
    → (is_live q b ≡ true → Gives (term_at q b) e o k u → Next q (term_at q b) e o k)
    → Gives (cond x (seq (term_at p b) (term_of q)) (term_at q b)) e o k u
    → Next (Seq' a p c q) (cond x (seq (term_at p b) (term_of q)) (term_at q b)) e o k
seq_on p q numq apart b e o k u true l live f h (goes_on d g) =
    let n = f l o k g.left g.gives in
    record {
      next = n.next;
      steps = seq_stays d n.steps (other_dead p q n.next (turned p q apart) n.own);
      own = λ i d. n.own i (or_parts (has_pause p i) (has_pause q i) d).0;
    }
seq_on {a} {c} p q numq apart b e o k u true l live f h (ends_then before after v x y w) =
    let m = f l before 0 v x in
    let n = begins q numq e after k u y in
    record {
      next = n.next;
      steps = subst (λ (z : Signals). StepsTo (Seq' a p c q) (seq (term_at p b) (term_of q)) e z k n.next) (sym w)
          (seq_goes m.steps n.steps (other_dead q p n.next apart n.own));
      own = λ i d. n.own i (or_parts (has_pause p i) (has_pause q i) d).1;
    }
seq_on p q numq apart b e o k u false l live f h g =
    let n = h (rw l at live) g in
    record {
      next = n.next;
      steps = seq_second n.steps (other_dead q p n.next apart n.own);
      own = λ i d. n.own i (or_parts (has_pause p i) (has_pause q i) d).1;
    }

loop_on : {a : _} (p : Statement) → HasDistinctPauses p → (t : Term) (e : Env) (o : Signals) (k : ℕ) (u : Term)
    → ((o : Signals) (k : ℕ) (u : Term) → Gives t e o k u → Next p t e o k)
    → Gives (seq t (loop (term_of p))) e o k u → Next (Loop' a p) (seq t (loop (term_of p))) e o k
loop_on p num t e o k u f (goes_on d g) =
    let n = f o k g.left g.gives in
    record {
      next = n.next;
      steps = record {
        gives = goes_on d (record {
          left = rest_of k (term_at p n.next);
          gives = n.steps.gives;
          rest = rest_in (λ u. seq u (loop (term_of p))) k (term_at p n.next);
        });
        live = n.steps.live;
        exclusive = n.steps.exclusive;
      };
      own = n.own;
    }
loop_on {a} p num t e o k u f (ends_then before after v x y w) =
    let m = f before 0 v x in
    let n = begins p num e after k y.inside.left y.inside.gives in
    record {
      next = n.next;
      steps = subst (λ (z : Signals). StepsTo (Loop' a p) (seq t (loop (term_of p))) e z k n.next) (sym w)
          (loop_again y.not_ended m.steps n.steps);
      own = n.own;
    }

held_goes : {a : _} {x : _} (p : Statement) (b : ℕ → Bool) (e : Env) (o : Signals) (k : ℕ) (u : Term)
    → is_live p b ≡ true → IsExclusive p b
    → ((v : Term) → Gives (term_at p b) e o k v → Next p (term_at p b) e o k)
    → Gives (held (query_of x) (term_at p b)) e o k u → Next (Suspend' x a p) (held (query_of x) (term_at p b)) e o k
held_goes {a} {x} p b e o k u live excl f (is_held v g) =
    record {
      next = λ i. has_pause p i && b i;
      steps = subst (λ (z : Signals). StepsTo (Suspend' x a p) (held (query_of x) (term_at p b)) e z k
          (λ i. has_pause p i && b i)) (sym g.signals)
          (subst (λ (z : ℕ). StepsTo (Suspend' x a p) (held (query_of x) (term_at p b)) e no_signals z
          (λ i. has_pause p i && b i)) (sym g.code)
          (stays_held b (λ _. false) (sym v) live excl (λ i. kept (has_pause p i) (b i))));
      own = λ i h. rw h refl;
    }
  where
    kept : (y z : Bool) → (y && z) ≡ cond y z false
    kept true z = refl
    kept false z = refl
held_goes {a} {x} p b e o k u live excl f (is_resumed v g) =
    let n = f g.left g.gives in
    record {
      next = n.next;
      steps = record {
        gives = is_resumed v (record {
          left = rest_of k (term_at p n.next);
          gives = n.steps.gives;
          rest = rest_in (λ u. held (query_of x) u) k (term_at p n.next);
        });
        live = n.steps.live;
        exclusive = n.steps.exclusive;
      };
      own = n.own;
    }

dead_cannot : {A : Type 0} → false ≡ true → A
dead_cannot h = cc

-- a statement that goes on
pub resumes : (s : Statement) → HasDistinctPauses s → (b : ℕ → Bool) → is_live s b ≡ true → IsExclusive s b
    → (e : Env) (o : Signals) (k : ℕ) (u : Term) → Gives (term_at s b) e o k u → Next s (term_at s b) e o k
resumes Nothing num b l x e o k u g = dead_cannot l
resumes (Pause n) num b l x e o k u g = quiet_at (Pause n) nothing e o k (not_one k g.code) refl
    (record { signals = g.signals; code = g.code; rest = rw g.code refl })
resumes (Emit s) num b l x e o k u g = dead_cannot l
resumes (Exit n) num b l x e o k u g = dead_cannot l
resumes (Present' y a p c q) num b l x e o k u g =
    present_goes p q num.2 b e o k u (is_live p b) refl l (λ h. resumes p num.0 b h x.0 e o k u)
    (λ h. resumes q num.1 b h x.1 e o k u) g
resumes (Suspend' y a p) num b l x e o k u g = held_goes p b e o k u l x (λ v. resumes p num b l x e o k v) g
resumes (Seq' a p c q) num b l x e o k u g =
    seq_on p q num.1 num.2 b e o k u (is_live p b) refl l (λ h. resumes p num.0 b h x.0 e)
    (λ h. resumes q num.1 b h x.1 e o k u) g
resumes (Loop' a p) num b l x e o k u g = loop_on p num (term_at p b) e o k u (resumes p num b l x e) g
resumes (Par' a p c q) num b l x e o k u g =
    let m = side_goes p b e g.left_signals g.left_code g.left_rest (is_live p b) refl
    (λ h. resumes p num.0 b h x.0 e g.left_signals g.left_code g.left_rest) g.left_gives in
    let n = side_goes q b e g.right_signals g.right_code g.right_rest (is_live q b) refl
    (λ h. resumes q num.1 b h x.1 e g.right_signals g.right_code g.right_rest) g.right_gives in
    let t = par (cond (is_live p b) (term_at p b) nothing) (cond (is_live q b) (term_at q b) nothing) in
    subst (λ (z : ℕ). Next (Par' a p c q) t e o z) (sym g.code)
    (subst (λ (z : Signals). Next (Par' a p c q) t e z (max g.left_code g.right_code)) (sym g.signals)
    (sides num.2 m n))
resumes (Trap' a p) num b l x e o k u g = traps g.code (resumes p num b l x e o g.body_code g.left g.gives)
resumes (Binder' y a p) num b l x e o k u g = binds g.decided g.signals
    (resumes p num b l x _ g.body_signals k g.left g.gives)

same_paused : (s : Statement) (a b : ℕ → Bool) → a ≡ b → HasPausedAt s a → HasPausedAt s b
same_paused s a b e h = subst (λ f. HasPausedAt s f) e h

-- the state after a step of code 1
paused_after : (s : Statement) (t : Term) (e : Env) (o : Signals) (u : Term) → Gives t e o 1 u → Next s t e o 1
    → SomeStateFor s u
paused_after s t e o u g n =
    let members = sym (has_members n.next (λ i l. n.own i (no_pause_above s i l))) in
    record {
      state = Paused (record { words = words_from n.next 0 32 });
      can_be_held = is_word_set n.next;
      stands = record {
        is_state =
            same_paused s n.next _ members (record { live = n.steps.live; exclusive = n.steps.exclusive; own = n.own });
        term = ap (λ f. term_at s f) (sym members) ∙ (unique t e o 1 (term_at s n.next) o 1 u n.steps.gives g).rest;
      };
    }

done_for : (s : Statement) (u : Term) → nothing ≡ u → SomeStateFor s u
done_for s u e = record { state = Done; can_be_held = tt; stands = record { is_state = tt; term = e } }

-- the state after a step
state_after : (s : Statement) (t : Term) (e : Env) (o : Signals) (k : ℕ) (u : Term) → Gives t e o k u
    → Next s t e o k → SomeStateFor s u
state_after s t e o zero u g n = done_for s u (unique t e o 0 nothing o 0 u n.steps.gives g).rest
state_after s t e o (suc zero) u g n = paused_after s t e o u g n
state_after s t e o (suc (suc k)) u g n =
    done_for s u (unique t e o (suc (suc k)) nothing o (suc (suc k)) u n.steps.gives g).rest

-- what is left of a state's term has a state
next_stands : (s : Statement) → HasDistinctPauses s → (x : State) → IsState s x
    → (e : Env) (o : Signals) (k : ℕ) (u : Term) → Gives (state_term s x) e o k u → SomeStateFor s u
next_stands s num Fresh h e o k u g = state_after s (term_of s) e o k u g (begins s num e o k u g)
next_stands s num Done h e o k u g = done_for s u (sym g.rest)
next_stands s num (Paused p) h e o k u g =
    state_after s (term_at s (pauses_of p)) e o k u g (resumes s num (pauses_of p) h.live h.exclusive e o k u g)

-- what is left of the term that a state stands for has a state
pub goes_on_from : (s : Statement) → HasDistinctPauses s → (x : State) (t : Term) → IsStateFor s x t
    → (e : Env) (o : Signals) (k : ℕ) (u : Term) → Gives t e o k u → SomeStateFor s u
goes_on_from s num x t h e o k u g = next_stands s num x h.is_state e o k u
    (subst (λ (v : Term). Gives v e o k u) (sym h.term) g)

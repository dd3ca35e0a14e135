-- Steps of a statement from those of its parts.
use Rattle.std.proofs.Common.{inl, inr, ◌≡◌, ◌≢◌, ℕ, zero, suc, Bool, true, false, ◌&&◌, ◌||◌, cond, nat_eq, max, refl}
use Rattle.std.proofs.Common.{ap, sym, ◌∙◌, subst, arith, Option, Some, None, IfSome, IfNone}
use Rattle.est_kernel.specs.PauseNumbers.{has_pause, HasDistinctPauses, AreApart}
use Rattle.est_kernel.specs.View.{term_of, query_of}
use Rattle.est_meaning.specs.States.{term_at, is_live, IsExclusive}
use Rattle.est_kernel.specs.Term.{Term, nothing, present, held, seq, loop, par}
use Rattle.est_kernel.specs.declared.statement.Statement.{Statement}
use Rattle.est_kernel.specs.declared.statement.Statement.TheVariants.{Present', Suspend', Seq', Loop', Par'}
use Rattle.est_meaning.specs.Signals.{Signals, no_signals, union}
use Rattle.est_meaning.specs.declared.status.Status.TheVariants.{Present, Absent}
use Rattle.est_meaning.specs.Environments.{Env, status_of}
use Rattle.est_meaning.specs.Rules.{Gives, HasNoRule, rest_of, takes_first, takes_second, is_held, goes_on, ends_then}
use Rattle.est_meaning.proofs.OneReactionAtMost.{unique}
use Rattle.std.proofs.lemmas.Bool.{cases_eq, ne_eqb, or_parts}
use Rattle.est_meaning.specs.Steps.{StepsTo}
use Rattle.est_meaning.proofs.AgreementLemmas.{Agree, live_same, at_same, exclusive_same, dead_exclusive, apart_left}
use Rattle.est_meaning.proofs.AgreementLemmas.{apart_right}

-- the same step, over pauses that agree on s
pub steps_same : (s : Statement) (t : Term) (e : Env) (o : Signals) (k : ℕ) (a b : ℕ → Bool) → Agree s a b
    → StepsTo s t e o k a → StepsTo s t e o k b
steps_same s t e o k a b f h = record {
  gives = subst (λ u. Gives t e o k (rest_of k u)) (at_same s a b f) h.gives;
  live = sym (live_same s a b f) ∙ h.live;
  exclusive = exclusive_same s a b f h.exclusive;
}

-- what is left inside a statement is left once
pub rest_in : (f : Term → Term) (k : ℕ) (x : Term) → rest_of k (f x) ≡ rest_of k (f (rest_of k x))
rest_in f zero x = refl
rest_in f (suc zero) x = refl
rest_in f (suc (suc k)) x = refl

rest_chosen : (f : Term → Term) (k : ℕ) (l : Bool) (x y : Term) → l ≡ nat_eq k 1
    → rest_of k (cond l (f x) y) ≡ rest_of k (f (rest_of k x))
rest_chosen f zero l x y e = refl
rest_chosen f (suc zero) l x y e = rw e refl
rest_chosen f (suc (suc k)) l x y e = refl

rest_other : (k : ℕ) (x y : Term) → (k ≡ 1 → ⊥) → rest_of k x ≡ rest_of k y
rest_other zero x y d = refl
rest_other (suc zero) x y d = absurd (d refl)
rest_other (suc (suc k)) x y d = refl

cond_rest : (k : ℕ) (l : Bool) (x : Term) → l ≡ nat_eq k 1 → cond l x nothing ≡ rest_of k x
cond_rest zero l x e = rw e refl
cond_rest (suc zero) l x e = rw e refl
cond_rest (suc (suc k)) l x e =
    let f : nat_eq (suc (suc k)) 1 ≡ false = ne_eqb (suc (suc k)) 1 (λ h. absurd (omega arith)) in rw (e, f) refl

or_false : (x : Bool) → (x || false) ≡ x
or_false true = refl
or_false false = refl

pub and_false : (x : Bool) → (x && false) ≡ false
and_false true = refl
and_false false = refl

-- a step of the first part that does not end
pub seq_stays : {a b : _} {p q : Statement} {t : Term} {e : Env} {o : Signals} {k : ℕ} {n : ℕ → Bool}
    → k ≢ 0 → StepsTo p t e o k n → is_live q n ≡ false → StepsTo (Seq' a p b q) (seq t (term_of q)) e o k n
seq_stays {p = p} {q = q} {t = t} {e = e} {o = o} {k = k} {n = n} d h dead = record {
  gives = goes_on d (record {
    left = rest_of k (term_at p n);
    gives = h.gives;
    rest = rest_chosen (λ u. seq u (term_of q)) k (is_live p n) (term_at p n) (term_at q n) h.live;
  });
  live = rw (dead, or_false (is_live p n)) h.live;
  exclusive = (h.exclusive, dead_exclusive q n dead, rw (dead, and_false (is_live p n)) refl);
}

-- a step of both parts
pub seq_goes : {a b : _} {p q : Statement} {t : Term} {e : Env} {o o' : Signals} {k : ℕ} {m n : ℕ → Bool}
    → StepsTo p t e o 0 m → StepsTo q (term_of q) e o' k n → is_live p n ≡ false
    → StepsTo (Seq' a p b q) (seq t (term_of q)) e (union o o') k n
seq_goes {p = p} {q = q} {t = t} {e = e} {o = o} {o' = o'} {k = k} {m = m} {n = n} h g dead = record {
  gives = ends_then o o' nothing h.gives (rw dead g.gives) refl;
  live = rw dead g.live;
  exclusive = (dead_exclusive p n dead, g.exclusive, rw dead refl);
}

-- what the second part needs after a step of the first
pub ready : (p q p' q' : Statement) (m n : ℕ → Bool) → p' ≡ p → q' ≡ q
    → HasDistinctPauses p × HasDistinctPauses q × AreApart p q
    → (is_live p m || is_live q m) ≡ false → ((i : ℕ) → has_pause p' i ≡ false → n i ≡ m i) → HasDistinctPauses q'
    × (is_live q' n ≡ false)
ready p q p' q' m n ep eq num dead f =
    let f' : (i : ℕ) → has_pause p i ≡ false → n i ≡ m i = λ i h. f i (rw ep h) in
    rw eq (num.1, sym (live_same q m n (apart_right p q m n num.2 f')) ∙ (or_parts (is_live p m) (is_live q m) dead).1)

-- what the first part is after a step of the second
pub stays_dead : (p q q' : Statement) (m n : ℕ → Bool) → q' ≡ q
    → HasDistinctPauses p × HasDistinctPauses q × AreApart p q
    → is_live p m ≡ false → ((i : ℕ) → has_pause q' i ≡ false → n i ≡ m i) → is_live p n ≡ false
stays_dead p q q' m n eq num dead f =
    sym (live_same p m n (apart_left p q m n num.2 (λ i h. f i (rw eq h)))) ∙ dead

-- the first part stays without pauses
pub first_dead : (p q q' : Statement) (m n : ℕ → Bool) → q' ≡ q
    → HasDistinctPauses p × HasDistinctPauses q × AreApart p q
    → (is_live p m || is_live q m) ≡ false → ((i : ℕ) → has_pause q' i ≡ false → n i ≡ m i) → is_live p n ≡ false
first_dead p q q' m n eq num dead f = stays_dead p q q' m n eq num (or_parts (is_live p m) (is_live q m) dead).0 f

-- the second part stays without pauses
pub second_dead : (p q : Statement) (m n : ℕ → Bool) → AreApart p q
    → (is_live p m || is_live q m) ≡ false → ((i : ℕ) → has_pause p i ≡ false → n i ≡ m i) → is_live q n ≡ false
second_dead p q m n apart dead f =
    sym (live_same q m n (apart_right p q m n apart f)) ∙ (or_parts (is_live p m) (is_live q m) dead).1

-- a sequence whose second part has no rule
pub seq_none : (p q : Term) (e : Env) (o : Signals) (u : Term) → Gives p e o 0 u → HasNoRule q e → HasNoRule (seq p q) e
seq_none p q e o u g none o' k' u' (goes_on d h) = d (unique p e o' k' h.left o 0 u h.gives g).code
seq_none p q e o u g none o' k' u' (ends_then a b v x y z) = none b k' u' y

-- a loop whose body ends at once
pub loop_none : (p : Term) (e : Env) (o : Signals) (u : Term) → Gives p e o 0 u → HasNoRule (loop p) e
loop_none p e o u g o' k' u' h = h.not_ended (unique p e o' k' h.inside.left o 0 u h.inside.gives g).code

-- what some value has, by what follows from it
pub some_weaker : {A : Type 0} (r : Option A) (P Q : A → Type 0) → ((x : A) → P x → Q x) → IfSome r P → IfSome r Q
some_weaker None P Q f h = tt
some_weaker (Some x) P Q f h = f x h

-- a fact that needs no value
pub none_from : {A : Type 0} (r : Option A) (P : Type 0) → P → IfNone r P
none_from None P p = p
none_from (Some x) P p = tt

-- the step of the first branch
pub present_on : {a b : _} {s : _} {p q : Statement} {e : Env} {o : Signals} {k : ℕ} {n : ℕ → Bool}
    → Present ≡ status_of e (query_of s) → StepsTo p (term_of p) e o k n → is_live q n ≡ false
    → StepsTo (Present' s a p b q) (present (query_of s) (term_of p) (term_of q)) e o k n
present_on {p = p} {q = q} {e = e} {o = o} {k = k} {n = n} d h dead = record {
  gives = takes_first (sym d) (subst (λ u. Gives (term_of p) e o k u)
      (rest_in (λ u. u) k (term_at p n) ∙ sym (rest_chosen (λ u. u) k (is_live p n) (term_at p n) (term_at q n) h.live))
      h.gives);
  live = rw (dead, or_false (is_live p n)) h.live;
  exclusive = (h.exclusive, dead_exclusive q n dead, rw (dead, and_false (is_live p n)) refl);
}

-- the step of the second branch
pub present_off : {a b : _} {s : _} {p q : Statement} {e : Env} {o : Signals} {k : ℕ} {n : ℕ → Bool}
    → Absent ≡ status_of e (query_of s) → StepsTo q (term_of q) e o k n → is_live p n ≡ false
    → StepsTo (Present' s a p b q) (present (query_of s) (term_of p) (term_of q)) e o k n
present_off {p = p} {q = q} {e = e} {o = o} {k = k} {n = n} d h dead = record {
  gives = takes_second (sym d) (rw dead h.gives);
  live = rw dead h.live;
  exclusive = (dead_exclusive p n dead, h.exclusive, rw dead refl);
}

-- both sides, where one pauses and none leaves
pub par_pauses : {a b : _} {p q : Statement} {t u : Term} {e : Env} {o o' : Signals} {i j : ℕ} {n : ℕ → Bool}
    → max i j ≡ 1 → StepsTo p t e o i n → StepsTo q u e o' j n
    → StepsTo (Par' a p b q) (par t u) e (union o o') (max i j) n
par_pauses {p = p} {q = q} {t = t} {u = u} {e = e} {o = o} {o' = o'} {i = i} {j = j} {n = n} one h g = record {
  gives = record {
    left_signals = o;
    left_code = i;
    left_rest = rest_of i (term_at p n);
    left_gives = h.gives;
    right_signals = o';
    right_code = j;
    right_rest = rest_of j (term_at q n);
    right_gives = g.gives;
    signals = refl;
    code = refl;
    rest = ap (rest_of (max i j)) (rw (
      cond_rest i (is_live p n) (term_at p n) h.live,
      cond_rest j (is_live q n) (term_at q n) g.live,
    ) refl);
  };
  live = rw (h.live, g.live) (one_or i j one);
  exclusive = (h.exclusive, g.exclusive);
}
  where
    one_or : (i j : ℕ) → max i j ≡ 1 → (nat_eq i 1 || nat_eq j 1) ≡ nat_eq (max i j) 1
    one_or zero zero e = absurd (omega (arith, e))
    one_or zero (suc zero) e = refl
    one_or (suc zero) zero e = refl
    one_or (suc zero) (suc zero) e = refl
    one_or (suc (suc i)) j e = absurd (omega (arith, e))
    one_or i (suc (suc j)) e = absurd (omega (arith, e))

-- both sides, where the whole does not pause
pub par_ends : {a b : _} {p q : Statement} {t u : Term} {e : Env} {o o' : Signals} {i j : ℕ} {n m : ℕ → Bool}
    → (max i j ≡ 1 → ⊥) → StepsTo p t e o i n → StepsTo q u e o' j n → is_live p m ≡ false → is_live q m ≡ false
    → StepsTo (Par' a p b q) (par t u) e (union o o') (max i j) m
par_ends {p = p} {q = q} {t = t} {u = u} {e = e} {o = o} {o' = o'} {i = i} {j = j} {n = n} {m = m} d h g dp dq =
    record {
      gives = record {
        left_signals = o;
        left_code = i;
        left_rest = rest_of i (term_at p n);
        left_gives = h.gives;
        right_signals = o';
        right_code = j;
        right_rest = rest_of j (term_at q n);
        right_gives = g.gives;
        signals = refl;
        code = refl;
        rest = rest_other (max i j) _ _ d;
      };
      live = rw (dp, dq) (sym (ne_eqb (max i j) 1 d));
      exclusive = (dead_exclusive p m dp, dead_exclusive q m dq);
    }

-- going on in one side of a `present` or a `;`
pub present_first : {a b : _} {s : _} {p q : Statement} {t : Term} {e : Env} {o : Signals} {k : ℕ} {n : ℕ → Bool}
    → StepsTo p t e o k n → is_live q n ≡ false → StepsTo (Present' s a p b q) t e o k n
present_first {p = p} {q = q} {t = t} {e = e} {o = o} {k = k} {n = n} h dead = record {
  gives = subst (λ u. Gives t e o k u)
      (rest_in (λ u. u) k (term_at p n) ∙ sym (rest_chosen (λ u. u) k (is_live p n) (term_at p n) (term_at q n) h.live))
      h.gives;
  live = rw (dead, or_false (is_live p n)) h.live;
  exclusive = (h.exclusive, dead_exclusive q n dead, rw (dead, and_false (is_live p n)) refl);
}

-- the second branch goes on
pub present_second : {a b : _} {s : _} {p q : Statement} {t : Term} {e : Env} {o : Signals} {k : ℕ} {n : ℕ → Bool}
    → StepsTo q t e o k n → is_live p n ≡ false → StepsTo (Present' s a p b q) t e o k n
present_second {p = p} {q = q} {n = n} h dead = record {
  gives = rw dead h.gives;
  live = rw dead h.live;
  exclusive = (dead_exclusive p n dead, h.exclusive, rw dead refl);
}

-- the second part goes on
pub seq_second : {a b : _} {p q : Statement} {t : Term} {e : Env} {o : Signals} {k : ℕ} {n : ℕ → Bool}
    → StepsTo q t e o k n → is_live p n ≡ false → StepsTo (Seq' a p b q) t e o k n
seq_second {p = p} {q = q} {n = n} h dead = record {
  gives = rw dead h.gives;
  live = rw dead h.live;
  exclusive = (dead_exclusive p n dead, h.exclusive, rw dead refl);
}

-- a loop that ends and begins again
pub loop_again : {a : _} {p : Statement} {t : Term} {e : Env} {o o' : Signals} {k : ℕ} {m n : ℕ → Bool}
    → k ≢ 0 → StepsTo p t e o 0 m → StepsTo p (term_of p) e o' k n
    → StepsTo (Loop' a p) (seq t (loop (term_of p))) e (union o o') k n
loop_again {p = p} {t = t} {o = o} {o' = o'} {k = k} {n = n} d h g = record {
  gives = ends_then o o' nothing h.gives (record {
    not_ended = d;
    inside = record {
      left = rest_of k (term_at p n);
      gives = g.gives;
      rest = rest_in (λ u. seq u (loop (term_of p))) k (term_at p n);
    };
  }) refl;
  live = g.live;
  exclusive = g.exclusive;
}

-- a loop whose body has no rule
pub loop_none_in : (p : Term) (e : Env) → HasNoRule p e → HasNoRule (loop p) e
loop_none_in p e none o k u h = none o k h.inside.left h.inside.gives

-- a suspended statement that stays as it is
pub stays_held : {a : _} {s : _} {p : Statement} {e : Env} {n : ℕ → Bool} (b m : ℕ → Bool)
    → Present ≡ status_of e (query_of s) → is_live p b ≡ true → IsExclusive p b
    → ((i : ℕ) → n i ≡ cond (has_pause p i) (b i) (m i))
    → StepsTo (Suspend' s a p) (held (query_of s) (term_at p b)) e no_signals 1 n
stays_held {s = s} {p = p} {n = n} b m d live excl f =
    let same : Agree p b n = λ i h. sym (f i ∙ rw h refl) in
    record {
      gives = is_held (sym d) (record {
        signals = refl;
        code = refl;
        rest = ap (λ u. held (query_of s) u) (sym (at_same p b n same));
      });
      live = sym (live_same p b n same) ∙ live;
      exclusive = exclusive_same p b n same excl;
    }

-- a side that has ended takes a step that does nothing
pub idle : (p : Statement) (e : Env) (n : ℕ → Bool) → is_live p n ≡ false → StepsTo p nothing e no_signals 0 n
idle p e n dead =
    record {
      gives = record { signals = refl; code = refl; rest = refl };
      live = dead;
      exclusive = dead_exclusive p n dead;
    }

-- both sides, where the pauses of the whole are kept exactly where it pauses
pub par_settles : {a b : _} {p q : Statement} {t u : Term} {e : Env} {o o' : Signals} {i j : ℕ} {n m : ℕ → Bool}
    → StepsTo p t e o i n → StepsTo q u e o' j n → (max i j ≡ 1 → (x : ℕ) → m x ≡ n x)
    → (max i j ≢ 1 → is_live p m ≡ false) → (max i j ≢ 1 → is_live q m ≡ false)
    → StepsTo (Par' a p b q) (par t u) e (union o o') (max i j) m
par_settles {p = p} {q = q} {i = i} {j = j} {n = n} {m = m} h g kept left right = elim (cases_eq (max i j) 1) [
  | inl one ↦ par_pauses one (steps_same p _ _ _ _ n m (λ x _. sym (kept one x)) h)
      (steps_same q _ _ _ _ n m (λ x _. sym (kept one x)) g)
  | inr d ↦ par_ends d h g (left d) (right d)
]

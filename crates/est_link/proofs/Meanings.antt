-- What a body becomes where its signals mean something else.
use Rattle.std.proofs.Common.{◌≡◌, ℕ, zero, suc, ◌+◌, Bool, true, false, ◌||◌, List, [], ◌∷◌, map, get_or, Option, Some}
use Rattle.std.proofs.Common.{None, if◌then◌else◌, refl, ap, sym, ◌∙◌, arith}
use Rattle.est_kernel.specs.Term.{Name, outer, inner, Query, tick, of, negated, joined, Queries, last, more}
use Rattle.est_kernel.specs.View.{queries_of}
use Rattle.est_link.specs.Inner.Meant.{itself, again}
use Rattle.est_link.specs.Linking.{Meant, query_meant, queries_meant, body_meant}
use Rattle.est_link.specs.Inner.OpenBodies.{meaning_of, numbered, meant_by}
use Rattle.est_link.specs.declared.meaning.Meaning.{Meaning}
use Rattle.est_link.specs.declared.signal_meanings.SignalMeanings.{SignalMeanings}
use Rattle.est_reduce.specs.Bodies.{Body, nothing, pause, halt, emit, sustain, exit, await, present, suspend, abort}
use Rattle.est_reduce.specs.Bodies.{weak_abort, repeat, repeat_each, every, trap, signal, seq, par}
use Rattle.est_reduce.specs.Views.{bound_name, bound_query}
use Rattle.est_reduce.specs.declared.body.BoundSignal.{BoundSignal}
use Rattle.est_reduce.specs.declared.body.BoundTest.{BoundTest}

-- ---- meanings of meanings

asked_further : (g : Name → Meant) (s : BoundSignal) (t u : Bool) (n : Name)
    → (if u then tick else of n) ≡ (g (bound_name s)).asked
    → (if t || u then tick else of n) ≡ query_meant g (if t then tick else of (bound_name s))
asked_further g s true u n e = refl
asked_further g s false u n e = e

-- what is meant where the signal of a meaning has a meaning
pub meant_further : (g : Name → Meant) (m s : Meaning) → meaning_of s ≡ g (bound_name m.signal)
    → meaning_of (record { signal = s.signal; is_tick = m.is_tick || s.is_tick }) ≡ again g (meaning_of m)
meant_further g m s e =
    ap (λ (q : Query). let x : Meant = record { asked = q; sent = bound_name s.signal } in x)
    (asked_further g m.signal m.is_tick s.is_tick (bound_name s.signal) (ap (λ (x : Meant). x.asked) e))
    ∙ ap (λ (n : Name). let x : Meant = record
    { asked = query_meant g (meaning_of m).asked; sent = n } in x) (ap (λ (x : Meant). x.sent) e)

pub got_again : (g : Name → Meant) (xs : List Meaning) (k : ℕ) (x : Meant)
    → get_or (map (λ (m : Meaning). again g (meaning_of m)) xs) k (again g x)
    ≡ again g (get_or (map meaning_of xs) k x)
got_again g [] k x = refl
got_again g (m ∷ xs) zero x = refl
got_again g (m ∷ xs) (suc k) x = got_again g xs k x

numbered_again : (g : Name → Meant) (o : Option ℕ) (xs : List Meaning) (ys : List Meant) (x y : Meant)
    → ys ≡ map (λ (m : Meaning). again g (meaning_of m)) xs → y ≡ again g x
    → numbered o ys y ≡ again g (numbered o (map meaning_of xs) x)
numbered_again g None xs ys x y h e = e
numbered_again g (Some k) xs ys x y h e =
    ap (λ zs. get_or zs k y) h
    ∙ ap (λ z. get_or (map (λ (m : Meaning). again g (meaning_of m)) xs) k z) e
    ∙ got_again g xs k x

-- the meanings of a run where signals mean what g says, inside l local signals
pub run_again : (g : Name → Meant) (l : ℕ) → ((k : ℕ) → g (inner k) ≡ itself (inner (l + k)))
    → (old new : SignalMeanings) → new.numbers.value.items ≡ old.numbers.value.items
    → map meaning_of new.meanings.items ≡ map (λ (m : Meaning). again g (meaning_of m)) old.meanings.items
    → meaning_of new.other ≡ again g (meaning_of old.other) → new.locals ≡ l + old.locals
    → (n : Name) → meant_by new n ≡ again g (meant_by old n)
run_again g l locals old new numbers meanings other around (outer i) =
    ap (λ (ns : List (Option ℕ)).
    numbered (get_or ns i None) (map meaning_of new.meanings.items) (meaning_of new.other)) numbers
    ∙ numbered_again g (get_or old.numbers.value.items i None) old.meanings.items (map meaning_of new.meanings.items)
    (meaning_of old.other) (meaning_of new.other) meanings other
run_again g l locals old new numbers meanings other around (inner k) =
    let place : new.locals + k ≡ l + (old.locals + k) = omega (arith, around) in
    ap (λ (i : ℕ). itself (inner i)) place ∙ sym (locals (old.locals + k))

-- ---- bodies whose signals mean something else twice

mutual
  asked_in : (g h k : Name → Meant) → ((n : Name) → k n ≡ again g (h n)) → (q : Query)
      → query_meant g (query_meant h q) ≡ query_meant k q
  asked_in g h k e tick = refl
  asked_in g h k e (of n) = sym (ap (λ (m : Meant). m.asked) (e n))
  asked_in g h k e (negated t) = ap negated (asked_in g h k e t)
  asked_in g h k e (joined c t ts) =
      ap (λ x. joined c x (queries_meant g (queries_meant h ts))) (asked_in g h k e t)
      ∙ ap (joined c (query_meant k t)) (all_asked_in g h k e ts)

  all_asked_in : (g h k : Name → Meant) → ((n : Name) → k n ≡ again g (h n)) → (ts : Queries)
      → queries_meant g (queries_meant h ts) ≡ queries_meant k ts
  all_asked_in g h k e (last t) = ap last (asked_in g h k e t)
  all_asked_in g h k e (more t ts) =
      ap (λ x. more x (queries_meant g (queries_meant h ts))) (asked_in g h k e t)
      ∙ ap (more (query_meant k t)) (all_asked_in g h k e ts)

-- a body whose signals mean what h says, where signals mean what g says
pub meant_in : (g h k : Name → Meant) → ((n : Name) → k n ≡ again g (h n)) → (b : Body)
    → body_meant g (body_meant h b) ≡ body_meant k b
meant_in g h k e nothing = refl
meant_in g h k e pause = refl
meant_in g h k e halt = refl
meant_in g h k e (emit n) = sym (ap (λ (m : Meant). emit m.sent) (e n))
meant_in g h k e (sustain n) = sym (ap (λ (m : Meant). sustain m.sent) (e n))
meant_in g h k e (exit t) = refl
meant_in g h k e (await now s) = ap (await now) (asked_in g h k e s)
meant_in g h k e (present s p q) =
    ap (λ x. present x (body_meant g (body_meant h p)) (body_meant g (body_meant h q))) (asked_in g h k e s)
    ∙ ap (λ x. present (query_meant k s) x (body_meant g (body_meant h q))) (meant_in g h k e p)
    ∙ ap (present (query_meant k s) (body_meant k p)) (meant_in g h k e q)
meant_in g h k e (suspend now s p) =
    ap (λ x. suspend now x (body_meant g (body_meant h p))) (asked_in g h k e s)
    ∙ ap (suspend now (query_meant k s)) (meant_in g h k e p)
meant_in g h k e (abort now s p) =
    ap (λ x. abort now x (body_meant g (body_meant h p))) (asked_in g h k e s)
    ∙ ap (abort now (query_meant k s)) (meant_in g h k e p)
meant_in g h k e (weak_abort now s p) =
    ap (λ x. weak_abort now x (body_meant g (body_meant h p))) (asked_in g h k e s)
    ∙ ap (weak_abort now (query_meant k s)) (meant_in g h k e p)
meant_in g h k e (repeat p) = ap repeat (meant_in g h k e p)
meant_in g h k e (repeat_each s p) =
    ap (λ x. repeat_each x (body_meant g (body_meant h p))) (asked_in g h k e s)
    ∙ ap (repeat_each (query_meant k s)) (meant_in g h k e p)
meant_in g h k e (every now s p) =
    ap (λ x. every now x (body_meant g (body_meant h p))) (asked_in g h k e s)
    ∙ ap (every now (query_meant k s)) (meant_in g h k e p)
meant_in g h k e (trap p) = ap trap (meant_in g h k e p)
meant_in g h k e (signal n p) = ap (signal n) (meant_in g h k e p)
meant_in g h k e (seq p q) =
    ap (λ x. seq x (body_meant g (body_meant h q))) (meant_in g h k e p)
    ∙ ap (seq (body_meant k p)) (meant_in g h k e q)
meant_in g h k e (par p q) =
    ap (λ x. par x (body_meant g (body_meant h q))) (meant_in g h k e p)
    ∙ ap (par (body_meant k p)) (meant_in g h k e q)

-- ---- tests of the code

-- what a test of the code asks where its signals mean what g says
abbrev pub test_meant : (Name → Meant) → BoundTest → Query
test_meant g t = query_meant g (bound_query t)

pub listed_meant : (g : Name → Meant) (q : Query) (ts : List BoundTest)
    → queries_meant g (queries_of q (map bound_query ts)) ≡ queries_of (query_meant g q) (map (test_meant g) ts)
listed_meant g q [] = refl
listed_meant g q (t ∷ ts) = ap (more (query_meant g q)) (listed_meant g (bound_query t) ts)

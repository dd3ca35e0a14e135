-- Rounds only learn, and there are enough of them.
use Rattle.std.proofs.Common.{◌≡◌, ◌≤◌, ◌<◌, ℕ, zero, suc, ◌+◌, Bool, true, false, not, cond, ◌&&◌, inl, inr, refl, ap}
use Rattle.std.proofs.Common.{sym, ◌∙◌, arith, List, length}
use Rattle.std.proofs.lemmas.Bool.{and_parts, both_ways, cases_eq, cases_lt, and_from}
use mathlib.Core.Path.{fun_ext}
use Rattle.est_kernel.proofs.Interfaces.{declares_beyond}
use Rattle.est_kernel.specs.Interfaces.{can_be_emitted, emittable}
use Rattle.est_kernel.specs.Term.{outer, inner, Term}
use Rattle.est_kernel.specs.declared.interface.Declaration.{Declaration}
use Rattle.est_meaning.specs.declared.status.Status.{Status}
use Rattle.est_meaning.specs.declared.status.Status.TheVariants.{Present, Absent, Unknown}
use Rattle.est_meaning.specs.Environments.{Env, verdict, is_unknown}
use Rattle.est_meaning.specs.MustCan.{sure, must, can}
use Rattle.est_meaning.specs.Knowledge.{IsBelow, KnowsLess}
use Rattle.est_meaning.specs.Rounds.{JudgedSignals, judged_signals, first_env, round, env_after, how_many, last_env}
use Rattle.est_meaning.specs.Laws.{IsWithinPlaces}
use Rattle.est_meaning.proofs.KnowledgeIsMonotone.{verdict_below, monotone, must_can}
use Rattle.est_meaning.proofs.SettledLemmas.{settled}

-- a round keeps the order of knowledge
round_grows : (j : JudgedSignals) (t : Term) (e f : Env) → KnowsLess e f → KnowsLess (round j t e) (round j t f)
unfolding round
round_grows j t e f k (outer n) = go (j.has n)
  where
    go : (b : Bool)
        → IsBelow (cond b (verdict ((must t e).signals (outer n)) ((can t sure e).signals (outer n))) (e (outer n)))
        (cond b (verdict ((must t f).signals (outer n)) ((can t sure f).signals (outer n))) (f (outer n)))
    go true = verdict_below _ _ _ _
        (((monotone t).must_up e f k).signals (outer n))
        (((monotone t).can_down sure e f k).signals (outer n))
        ((must_can t f).signals (outer n))
    go false = k (outer n)
round_grows j t e f k (inner n) = k (inner n)

first_below : (j : JudgedSignals) (inputs : ℕ → Bool) (t : Term)
    → KnowsLess (first_env j inputs) (round j t (first_env j inputs))
unfolding round first_env
first_below j inputs t (outer n) = go (j.has n) _
  where
    go : (b : Bool) (v : Status) → IsBelow (cond b Unknown (verdict (inputs n) false))
        (cond b v (cond b Unknown (verdict (inputs n) false)))
    go true v = inl refl
    go false v = inr refl
first_below j inputs t (inner n) = inr refl

-- statuses only become more defined
pub learns : (j : JudgedSignals) (inputs : ℕ → Bool) (t : Term) (n : ℕ)
    → KnowsLess (env_after n j t (first_env j inputs)) (env_after (suc n) j t (first_env j inputs))
learns j inputs t zero = first_below j inputs t
learns j inputs t (suc n) = round_grows j t _ _ (learns j inputs t n)

bit_le : (b c : Bool) → (c ≡ true → b ≡ true) → cond c 1 0 ≤ cond b 1 0
bit_le b true f = rw (f refl) (omega arith)
bit_le b false f = omega arith

bit_same : (b c : Bool) → (c ≡ true → b ≡ true) → cond b 1 0 ≤ cond c 1 0 → b ≡ c
bit_same b true f h = f refl
bit_same true false f h = absurd (omega (arith, h))
bit_same false false f h = refl

fewer : (f g : ℕ → Bool) → ((n : ℕ) → g n ≡ true → f n ≡ true) → (p : ℕ) → how_many g p ≤ how_many f p
fewer f g s zero = omega arith
fewer f g s (suc p) =
    let a = fewer f g s p in
    let b = bit_le (f p) (g p) (s p) in
    omega (arith, a, b)

-- a subset with as many members has the same members
as_many : (f g : ℕ → Bool) → ((n : ℕ) → g n ≡ true → f n ≡ true) → (p : ℕ) → how_many f p ≤ how_many g p → (n : ℕ)
    → n < p → f n ≡ g n
as_many f g s zero h n l = absurd (omega (arith, l))
as_many f g s (suc p) h n l =
    let a = fewer f g s p in
    let b = bit_le (f p) (g p) (s p) in
    elim (cases_eq n p) [
      | inl e ↦ rw e (bit_same (f p) (g p) (s p) (omega (arith, a, b, h)))
      | inr d ↦ as_many f g s p (omega (arith, a, b, h)) n (omega (arith, l, d))
    ]

-- the judged signals that are not known
abbrev pub open_in : JudgedSignals → Env → ℕ → Bool
open_in j e n = j.has n && is_unknown (e (outer n))

unknown_stays : (v w : Status) → IsBelow v w → is_unknown w ≡ true → is_unknown v ≡ true
unknown_stays v w (inl h) g = rw h refl
unknown_stays v w (inr h) g = rw h g

open_fewer : (j : JudgedSignals) (e f : Env) → KnowsLess e f → (n : ℕ) → open_in j f n ≡ true → open_in j e n ≡ true
open_fewer j e f k n h =
    let p = and_parts (j.has n) (is_unknown (f (outer n))) h in
    and_from (j.has n) (is_unknown (e (outer n))) p.0 (unknown_stays (e (outer n)) (f (outer n)) (k (outer n)) p.1)

known_same : (v w : Status) → IsBelow v w → is_unknown v ≡ is_unknown w → v ≡ w
known_same v w (inr h) g = h
known_same v w (inl h) g = h ∙ sym (is_it w (sym g ∙ ap is_unknown h))
  where
    is_it : (w : Status) → is_unknown w ≡ true → w ≡ Unknown
    is_it Present e = cc
    is_it Absent e = cc
    is_it Unknown e = refl

when_has : (b x y : Bool) → b ≡ true → (b && x) ≡ (b && y) → x ≡ y
when_has b x y e h = rw e at h

pub inner_kept : (j : JudgedSignals) (t : Term) (e : Env) (n : ℕ) → round j t e (inner n) ≡ e (inner n)
unfolding round
inner_kept j t e n = refl

kept : (j : JudgedSignals) (t : Term) (e : Env) (n : ℕ) → j.has n ≡ false → round j t e (outer n) ≡ e (outer n)
unfolding round
kept j t e n d = rw d refl

-- a round that leaves as many open changes nothing
changes_nothing : (j : JudgedSignals) → IsWithinPlaces j → (t : Term) (e : Env) → KnowsLess e (round j t e)
    → how_many (open_in j e) j.places ≤ how_many (open_in j (round j t e)) j.places → round j t e ≡ e
changes_nothing j w t e k h = fun_ext (elim [ outer n ↦ at n (j.has n) refl | inner n ↦ inner_kept j t e n ])
  where
    at : (n : ℕ) (b : Bool) → j.has n ≡ b → round j t e (outer n) ≡ e (outer n)
    at n true d =
        let same = as_many (open_in j e) (open_in j (round j t e)) (open_fewer j e (round j t e) k) j.places h n
        (w n d) in
        sym (known_same (e (outer n)) (round j t e (outer n)) (k (outer n))
        (when_has (j.has n) (is_unknown (e (outer n))) (is_unknown (round j t e (outer n))) d same))
    at n false d = kept j t e n d

-- where at most k signals are open after n rounds, nothing changes after k more
enough : (j : JudgedSignals) → IsWithinPlaces j → (inputs : ℕ → Bool) (t : Term) (k n : ℕ)
    → how_many (open_in j (env_after n j t (first_env j inputs))) j.places ≤ k
    → round j t (env_after (k + n) j t (first_env j inputs)) ≡ env_after (k + n) j t (first_env j inputs)
enough j w inputs t zero n h =
    let c : 0 + n ≡ n = omega arith in
    rw c (changes_nothing j w t (env_after n j t (first_env j inputs)) (learns j inputs t n) (omega (arith, h)))
enough j w inputs t (suc k) n h =
    elim (cases_lt k (how_many (open_in j (env_after (suc n) j t (first_env j inputs))) j.places)) [
      | inl l ↦
          let still = changes_nothing j w t (env_after n j t (first_env j inputs)) (learns j inputs t n)
          (omega (arith, h, l)) in
          let same = settled (suc k + n) n (omega arith) j t (first_env j inputs) still in
          ap (round j t) (sym same) ∙ (still ∙ same)
      | inr l ↦
          let c : suc k + n ≡ k + suc n = omega arith in
          rw c (enough j w inputs t k (suc n) l)
    ]

-- after as many rounds as there are judged signals nothing changes
pub settles : (j : JudgedSignals) → IsWithinPlaces j → (inputs : ℕ → Bool) (t : Term) (m : ℕ)
    → how_many j.has j.places ≤ m → env_after m j t (first_env j inputs) ≡ last_env j inputs t
settles j w inputs t m l =
    let rounds = how_many j.has j.places in
    let few = fewer j.has (open_in j (first_env j inputs))
    (λ n h. (and_parts (j.has n) (is_unknown (first_env j inputs (outer n))) h).0) j.places in
    let c : rounds + 0 ≡ rounds = omega arith in
    let still = rw c at (enough j w inputs t rounds 0 few) in
    sym (settled m rounds l j t (first_env j inputs) still)

-- the judged signals of an interface have places in it
pub judged_within : (interface : List Declaration) (inputs : ℕ → Bool)
    → IsWithinPlaces (judged_signals interface inputs)
judged_within interface inputs n h = elim (cases_lt n (length interface)) [
  | inl l ↦ l
  | inr g ↦
      absurd (both_ways (emittable interface n) (declares_beyond can_be_emitted interface n g)
      (and_parts (emittable interface n) (not (inputs n)) h).0)
]

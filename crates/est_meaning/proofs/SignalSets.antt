-- Sets of signals by their masks.
use Rattle.std.proofs.Common.{◌≡◌, ◌≢◌, ◌<◌, ◌≤◌, ◌^◌, ℕ, Bool, true, false, not, ◌&&◌, cond, nat_eq, Decides}
use Rattle.std.proofs.Common.{refl, ap, sym, ◌∙◌, inl, inr, arith, w64}
use Rattle.std.specs.Int.{trailing_zeros}
use Rattle.std.proofs.lemmas.Bool.{eq-eqb, ne_eqb, cases_eq}
use Rattle.std.proofs.lemmas.Nat.Bits.{bit_at-trailing_zeros}
use mathlib.Core.Path.{fun_ext}
use Rattle.est_kernel.specs.Masks.{HasNameBit}
use Rattle.est_kernel.specs.Term.{Name, outer, inner}
use Rattle.est_meaning.specs.Signals.{Signals, no_signals, only, without, same_name, Meet}
use Rattle.est_meaning.specs.Environments.{verdict, with_local}
use Rattle.est_meaning.specs.Views.{set_of, env_of, with_member}
use Rattle.est_meaning.specs.declared.signal_set.SignalSet.{SignalSet}
use Rattle.est_kernel.specs.Bits.{bits}
use Rattle.est_kernel.proofs.Masks.{bits_zero}

-- two empty masks
pub no_signals_set : set_of (record { interface = 0; local = 0 }) ≡ no_signals
unfolding set_of no_signals
no_signals_set = fun_ext (elim [ outer n ↦ bits_zero n | inner n ↦ bits_zero n ])

-- one signal of the interface
pub only_outer : (m k : ℕ) → ((n : ℕ) → bits m n ≡ nat_eq k n)
    → set_of (record { interface = m; local = 0 }) ≡ only (outer k)
unfolding set_of only
only_outer m k e = fun_ext (elim [ outer n ↦ e n | inner n ↦ bits_zero n ])

-- one local signal
pub only_inner : (m k : ℕ) → ((n : ℕ) → bits m n ≡ nat_eq k n)
    → set_of (record { interface = 0; local = m }) ≡ only (inner k)
unfolding set_of only
only_inner m k e = fun_ext (elim [ outer n ↦ bits_zero n | inner n ↦ e n ])

-- a mask of local signals with one bit set as said
pub with_member_set : (i l m k : ℕ) (b : Bool) → bits m k ≡ b → ((n : ℕ) → n ≢ k → bits m n ≡ bits l n)
    → set_of (record { interface = i; local = m }) ≡ with_member (set_of (record { interface = i; local = l })) k b
unfolding set_of with_member
with_member_set i l m k b same other = fun_ext (elim [
  | outer n ↦ refl
  | inner n ↦ elim (cases_eq k n) [
    | inl e ↦ rw (eq-eqb k n e) (ap (bits m) (sym e) ∙ same)
    | inr d ↦ rw (ne_eqb k n d) (other n (λ e. d (sym e)))
  ]
])

-- the set without a local signal
pub without_is : (a : Signals) (k : ℕ) → with_member a k false ≡ without k a
unfolding with_member without
without_is a k = fun_ext (λ t. go (same_name (inner k) t) (a t))
  where
    go : (b c : Bool) → cond b false c ≡ (not b && c)
    go true c = refl
    go false c = refl

-- a local signal that is set in both masks
pub set_env : (p q p' q' : SignalSet) (k : ℕ) (b c : Bool)
    → set_of p' ≡ with_member (set_of p) k b → set_of q' ≡ with_member (set_of q) k c
    → env_of (record { present = p'; possible = q' }) ≡ with_local (env_of (record { present = p; possible = q })) k
    (verdict b c)
unfolding env_of with_local with_member
set_env p q p' q' k b c e f =
    fun_ext (λ t. ap (λ g. verdict (g t) (set_of q' t)) e
    ∙ (ap (λ g. verdict (cond (same_name (inner k) t) b (set_of p t)) (g t)) f
    ∙ go (same_name (inner k) t) b c (set_of p t) (set_of q t)))
  where
    go : (t b c x y : Bool) → verdict (cond t b x) (cond t c y) ≡ cond t (verdict b c) (verdict x y)
    go true b c x y = refl
    go false b c x y = refl

-- a local signal whose number has no bit is none of those that have one
pub none_with_bit : (k : ℕ) → 64 ≤ k → (t : Name) → HasNameBit t → false ≡ only (inner k) t
unfolding only
none_with_bit k l (outer n) b = refl
none_with_bit k l (inner n) b = sym (ne_eqb k n (λ e. absurd (omega arith)))

-- the first bit of a mask that has one
pub least_is : (x : ℕ) → x ≢ 0 → x < 2 ^ 64 → bits x (trailing_zeros w64 x) ≡ true
unfolding bits
least_is x d l = ap (λ (b : ℕ). nat_eq b 1) (bit_at-trailing_zeros w64 x (omega arith) l).1

in_both : (b c d : Bool) → b ≡ true → b ≡ (c && d) → (c ≡ true) × (d ≡ true)
in_both b true d h e = (refl, sym e ∙ h)
in_both b false d h e = let z : false ≡ true = sym e ∙ h in cc

-- two masks that have a bit in common
shared_bit : (y z x : ℕ) → x ≢ 0 → x < 2 ^ 64 → ((n : ℕ) → bits x n ≡ (bits y n && bits z n))
    → (bits y (trailing_zeros w64 x) ≡ true) × (bits z (trailing_zeros w64 x) ≡ true)
shared_bit y z x d l e = in_both _ _ _ (least_is x d l) (e (trailing_zeros w64 x))

-- no bit is in two masks that have none in common
unshared : (y z x : ℕ) → x ≡ 0 → ((n : ℕ) → bits x n ≡ (bits y n && bits z n)) → (n : ℕ) → bits y n ≡ true
    → bits z n ≡ true → ⊥
unshared y z x g e n p q =
    let f : false ≡ true = sym (bits_zero n) ∙ (ap (λ w. bits w n) (sym g) ∙ (e n ∙ rw (p, q) refl)) in cc

-- two sets with a signal of the interface in common
pub meet_outer : (a b : SignalSet) (x : ℕ) → x ≢ 0 → x < 2 ^ 64
    → ((n : ℕ) → bits x n ≡ (bits a.interface n && bits b.interface n)) → Meet (set_of a) (set_of b)
unfolding set_of
meet_outer a b x d l e =
    let k = shared_bit a.interface b.interface x d l e in
    record { common = outer (trailing_zeros w64 x); in_first = k.0; in_second = k.1 }

-- two sets with none of the interface in common meet where they have a local signal in common
pub meet_inner : (a b : SignalSet) (x y : ℕ) → x ≡ 0 → y < 2 ^ 64
    → ((n : ℕ) → bits x n ≡ (bits a.interface n && bits b.interface n))
    → ((n : ℕ) → bits y n ≡ (bits a.local n && bits b.local n))
    → Decides (not (nat_eq y 0)) (Meet (set_of a) (set_of b))
unfolding set_of
meet_inner a b x y g l e f = elim (cases_eq y 0) [
  | inl h ↦ (
    λ r. let z : false ≡ true = ap not (sym (eq-eqb y 0 h)) ∙ r in cc,
    λ m. absurd (none_common m.common h m.in_first m.in_second),
  )
  | inr d ↦ (
    λ r. let k = shared_bit a.local b.local y d l f in
        record { common = inner (trailing_zeros w64 y); in_first = k.0; in_second = k.1 },
    λ m. ap not (ne_eqb y 0 d),
  )
]
  where
    none_common : (t : Name) → y ≡ 0 → set_of a t ≡ true → set_of b t ≡ true → ⊥
    none_common (outer n) h p q = unshared a.interface b.interface x g e n p q
    none_common (inner n) h p q = unshared a.local b.local y h f n p q

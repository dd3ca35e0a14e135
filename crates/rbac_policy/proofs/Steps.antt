-- What one more entry makes of the facts.
use Rattle.std.proofs.Common.{◌≡◌, ℕ, zero, suc, ◌<◌, ◌≤◌, ◌⊎◌, ◌↔◌, List, [], ◌∷◌, ◌++◌, length, take, inl, inr, arith}
use Rattle.std.proofs.Common.{sym, ◌∙◌, ap, refl, subst}
use Rattle.std.specs.Prelude.{slice_get, Some}
use Rattle.std.proofs.lemmas.Bool.{cases_lt}
use Rattle.std.proofs.lemmas.Option.{slice_get_within, same_Some}
use Rattle.std.proofs.lemmas.List.{take-append-le, length_push}
use Rattle.std.proofs.lemmas.Grind.{common_steps}
use Rattle.rbac_policy.specs.declared.commands.Entry.{Entry}
use Rattle.rbac_policy.specs.Entries.{InForce}

pub get_front : {X : Type 0} (xs : List X) (y : X) (i : ℕ) → i < length xs → slice_get (xs ++ y ∷ []) i ≡ slice_get xs i
get_front [] y i h = absurd (omega arith)
get_front (x ∷ xs) y zero h = refl
get_front (x ∷ xs) y (suc i) h = get_front xs y i (omega arith)

pub get_last : {X : Type 0} (xs : List X) (y : X) → slice_get (xs ++ y ∷ []) (length xs) ≡ Some y
get_last [] y = refl
get_last (x ∷ xs) y = get_last xs y

pub get_push : {X : Type 0} (xs : List X) (y e : X) (i : ℕ) → slice_get (xs ++ y ∷ []) i ≡ Some e
    → ((i < length xs) × (slice_get xs i ≡ Some e)) ⊎ ((i ≡ length xs) × (y ≡ e))
get_push xs y e i h =
    let within : i < length (xs ++ y ∷ []) = slice_get_within (xs ++ y ∷ []) i e h in
    elim (cases_lt i (length xs)) [
      | inl l ↦ inl (l, sym (get_front xs y i l) ∙ h)
      | inr l ↦
          let at : i ≡ length xs = omega (arith, length_push xs y) in
          inr (at, same_Some y e (sym (get_last xs y) ∙ subst (λ k. slice_get (xs ++ y ∷ []) k ≡ Some e) at h))
    ]

pub take_front : {X : Type 0} (xs : List X) (y : X) (n : ℕ) → n ≤ length xs → take n (xs ++ y ∷ []) ≡ take n xs
take_front xs y n h = take-append-le n xs (y ∷ []) h

pub take_whole : {X : Type 0} (xs : List X) (y : X) → take (length xs) (xs ++ y ∷ []) ≡ xs
take_whole xs y = grind (arith, common_steps)

-- a fact stands after one more entry where that entry makes it, or where it stood and the entry does not undo it
pub in_force_push : (M : List Entry → Entry → Type 0) (U : Entry → Type 0) (L : List Entry) (e : Entry)
    → InForce M U (L ++ e ∷ []) ↔ (M L e ⊎ (InForce M U L × (U e → ⊥)))
in_force_push M U L e = (
  λ s. elim (get_push L e s.entry s.at s.there) [
    | inl p ↦ inr (
      record {
        at = s.at;
        entry = s.entry;
        there = p.1;
        made = subst (λ b. M b s.entry) (take_front L e s.at (omega (arith, p.0))) s.made;
        kept = λ later x after there. s.kept later x after
            (get_front L e later (slice_get_within L later x there) ∙ there);
      },
      λ u. s.kept (length L) e p.0 (get_last L e) u,
    )
    | inr p ↦
        inl (subst (M L) (sym p.1)
        (subst (λ b. M b s.entry) (ap (λ k. take k (L ++ e ∷ [])) p.0 ∙ take_whole L e) s.made))
  ],
  λ h. elim h [
    | inl m ↦ record {
      at = length L;
      entry = e;
      there = get_last L e;
      made = subst (λ b. M b e) (sym (take_whole L e)) m;
      kept = λ later x after there. absurd
          (omega (arith, slice_get_within (L ++ e ∷ []) later x there, length_push L e));
    }
    | inr p ↦
        let s = p.0 in
        let within : s.at < length L = slice_get_within L s.at s.entry s.there in
        record {
          at = s.at;
          entry = s.entry;
          there = get_front L e s.at within ∙ s.there;
          made = subst (λ b. M b s.entry) (sym (take_front L e s.at (omega arith))) s.made;
          kept = λ later x after there. elim (get_push L e x later there) [
            | inl q ↦ s.kept later x after q.1
            | inr q ↦ λ u. p.1 (subst U (sym q.1) u)
          ];
        }
  ],
)

pub none_in_force : (M : List Entry → Entry → Type 0) (U : Entry → Type 0) → InForce M U [] → ⊥
none_in_force M U s = absurd (omega (arith, slice_get_within [] s.at s.entry s.there))

-- What one more element makes of what was made and not undone since.
use Rattle.std.proofs.Common.{◌⊎◌, ◌↔◌, List, [], ◌∷◌, ◌++◌, length, inl, inr, arith, sym, ◌∙◌, subst}
use Rattle.std.proofs.lemmas.Option.{slice_get_within}
use Rattle.std.proofs.lemmas.List.{length_push}
use Rattle.rbac_policy.proofs.Steps.{get_front, get_last, get_push}
use Rattle.history_events.specs.Since.{Since}

module _ {A : Type 0} (M U : A → Type 0) where
  pub none_since : Since M U [] → ⊥
  none_since s = absurd (omega (arith, slice_get_within [] s.at s.maker s.there))

  pub since_push : (xs : List A) (x : A) → Since M U (xs ++ x ∷ []) ↔ (M x ⊎ (Since M U xs × (U x → ⊥)))
  since_push xs x = (
    λ s. elim (get_push xs x s.maker s.at s.there) [
      | inl p ↦ inr (
        record {
          at = s.at;
          maker = s.maker;
          there = p.1;
          made = s.made;
          kept = λ later a after there. s.kept later a after
              (get_front xs x later (slice_get_within xs later a there) ∙ there);
        },
        λ u. s.kept (length xs) x p.0 (get_last xs x) u,
      )
      | inr p ↦ inl (subst M (sym p.1) s.made)
    ],
    λ h. elim h [
      | inl m ↦ record {
        at = length xs;
        maker = x;
        there = get_last xs x;
        made = m;
        kept = λ later a after there. absurd
            (omega (arith, slice_get_within (xs ++ x ∷ []) later a there, length_push xs x));
      }
      | inr p ↦
          let s = p.0 in
          record {
            at = s.at;
            maker = s.maker;
            there = get_front xs x s.at (slice_get_within xs s.at s.maker s.there) ∙ s.there;
            made = s.made;
            kept = λ later a after there. elim (get_push xs x a later there) [
              | inl q ↦ s.kept later a after q.1
              | inr q ↦ λ u. p.1 (subst U (sym q.1) u)
            ];
          }
    ],
  )

-- Which sessions live after one more entry.
use Rattle.std.proofs.Common.{◌≡◌, ℕ, ◌<◌, ◌≤◌, ◌⊎◌, List, [], ◌∷◌, ◌++◌, length, take, inl, inr, arith, sym, ◌∙◌, ap}
use Rattle.std.proofs.Common.{subst}
use Rattle.std.proofs.lemmas.Bool.{cases_lt}
use Rattle.std.proofs.lemmas.Option.{slice_get_within}
use Rattle.std.proofs.lemmas.List.{length_push}
use Rattle.std.proofs.lemmas.Grind.{common_steps}
use Rattle.rbac_policy.specs.declared.commands.Entry.{Entry}
use Rattle.rbac_policy.specs.Facts.{Creates, Ends, Lives, HasOnlyAuthorized}
use Rattle.rbac_policy.specs.Names.{NameText}
use Rattle.rbac_policy.proofs.Steps.{get_front, get_last, get_push, take_front, take_whole}

-- the entry makes the session
pub record Made (L : List Entry) (e : Entry) (s : ℕ) (u : NameText) : Type 0 where
  pub roles : List NameText
  pub creates : Creates s u roles L e

-- the session is made by the entry, or lived and the entry does not end it
abbrev pub Remains : List Entry → Entry → ℕ → NameText → Type 0
Remains L e s u = Made L e s u ⊎ (Lives L s u × (Ends s u e → ⊥))

take_past : {X : Type 0} (xs : List X) (y : X) (n : ℕ) → length xs < n → take n (xs ++ y ∷ []) ≡ xs ++ y ∷ []
take_past xs y n h = grind (arith, common_steps)

-- of the lists up to one past the end, the last is the whole list
upto : (L : List Entry) (e : Entry) (P : List Entry → Type 0) (n : ℕ) → n ≤ length (L ++ e ∷ [])
    → (n ≤ length L → P (take n L)) → P (L ++ e ∷ []) → P (take n (L ++ e ∷ []))
upto L e P n h small whole = elim (cases_lt (length L) n) [
  | inl past ↦ subst P (sym (take_past L e n past)) whole
  | inr within ↦ subst P (sym (take_front L e n within)) (small within)
]

pub lives_after : (L : List Entry) (e : Entry) (s : ℕ) (u : NameText) → Lives (L ++ e ∷ []) s u
    → Remains L e s u × HasOnlyAuthorized (L ++ e ∷ []) s u
lives_after L e s u l =
    let past : length L < length (L ++ e ∷ []) = omega (arith, length_push L e) in
    let at_end = subst (λ k. HasOnlyAuthorized k s u) (take_past L e (length (L ++ e ∷ [])) past)
    (l.authorized (length (L ++ e ∷ [])) (slice_get_within (L ++ e ∷ []) l.at l.entry l.there) (omega arith)) in (
      elim (get_push L e l.entry l.at l.there) [
        | inl p ↦ inr (
          record {
            at = l.at;
            entry = l.entry;
            roles = l.roles;
            there = p.1;
            made = subst (λ b. Creates s u l.roles b l.entry) (take_front L e l.at (omega (arith, p.0))) l.made;
            kept = λ later x after there. l.kept later x after
                (get_front L e later (slice_get_within L later x there) ∙ there);
            authorized = λ n after within. subst (λ k. HasOnlyAuthorized k s u) (take_front L e n within)
                (l.authorized n after (omega arith));
          },
          λ ends. l.kept (length L) e p.0 (get_last L e) ends,
        )
        | inr p ↦ inl (record {
          roles = l.roles;
          creates =
              subst (Creates s u l.roles L) (sym p.1)
              (subst (λ b. Creates s u l.roles b l.entry) (ap (λ k. take k (L ++ e ∷ [])) p.0 ∙ take_whole L e) l.made);
        })
      ],
      at_end,
    )

pub lives_before : (L : List Entry) (e : Entry) (s : ℕ) (u : NameText) → Remains L e s u
    → HasOnlyAuthorized (L ++ e ∷ []) s u → Lives (L ++ e ∷ []) s u
lives_before L e s u h all = elim h [
  | inl m ↦ record {
    at = length L;
    entry = e;
    roles = m.roles;
    there = get_last L e;
    made = subst (λ b. Creates s u m.roles b e) (sym (take_whole L e)) m.creates;
    kept = λ later x after there. absurd (omega (arith, slice_get_within (L ++ e ∷ []) later x there, length_push L e));
    authorized = λ n after within. upto L e (λ k. HasOnlyAuthorized k s u) n within (λ small. absurd (omega arith)) all;
  }
  | inr p ↦
      let l = p.0 in
      let inside : l.at < length L = slice_get_within L l.at l.entry l.there in
      record {
        at = l.at;
        entry = l.entry;
        roles = l.roles;
        there = get_front L e l.at inside ∙ l.there;
        made = subst (λ b. Creates s u l.roles b l.entry) (sym (take_front L e l.at (omega arith))) l.made;
        kept = λ later x after there. elim (get_push L e x later there) [
          | inl q ↦ l.kept later x after q.1
          | inr q ↦ λ ends. p.1 (subst (Ends s u) (sym q.1) ends)
        ];
        authorized = λ n after within. upto L e (λ k. HasOnlyAuthorized k s u) n within
            (λ small. l.authorized n after small) all;
      }
]

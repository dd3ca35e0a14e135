-- At most one member is offered exactly when, without the first that is, none is.
use Rattle.std.proofs.Common.{◌≡◌, ◌∙◌, inl, inr, ℕ, Bool, true, false, not, ◌&&◌, nat_eq, List, Option, None, refl}
use Rattle.std.proofs.Common.{sym, ap, option_map}
use Rattle.std.specs.Option.{is_some}
use Rattle.est_kernel.specs.declared.statement.InterfaceSignal.{InterfaceSignal}
use Rattle.std.specs.Prelude.{Some}
use Rattle.std.specs.List.{find, list_any}
use Rattle.std.proofs.lemmas.Bool.{cases_eq, cases_Bool, eq-eqb, ne_eqb, false≢true}
use Rattle.est_relations.proofs.Members.{found_is, none_found, one_means, one_where}
use Rattle.est_relations.specs.Keeping.{has_implied, has_one_at_most}
use Rattle.est_relations.proofs.Answering.{and_first}

-- where none is offered
pub none_is_kept : (present : ℕ → Bool) (ms : List ℕ) → find present ms ≡ None → has_one_at_most present ms ≡ true
none_is_kept present ms none = one_where present ms (λ a b p q x y.
    absurd (false≢true (sym (none_found present ms a none p) ∙ x)))

stays : (x e : Bool) → x ≡ true → e ≡ false → (x && not e) ≡ true
stays true e h f = rw f refl
stays false e h f = absurd (false≢true h)

leaves : (x e : Bool) → e ≡ true → (x && not e) ≡ false
leaves true e h = rw h refl
leaves false e h = refl

-- where one is, and no other is
pub one_is_kept : (present others : ℕ → Bool) (ms : List ℕ) (s : ℕ)
    → ((n : ℕ) → others n ≡ (present n && not (nat_eq s n)))
    → find others ms ≡ None → has_one_at_most present ms ≡ true
one_is_kept present others ms s are none = one_where present ms (λ a b p q x y. sym (is_it a p x) ∙ is_it b q y) where
  is_it : (n : ℕ) → list_any (nat_eq n) ms ≡ true → present n ≡ true → s ≡ n
  is_it n p x = elim (cases_eq s n) [
    | inl e ↦ e
    | inr d ↦ absurd (false≢true
        (sym (none_found others ms n none p) ∙ (are n ∙ stays (present n) (nat_eq s n) x (ne_eqb s n d))))
  ]

-- where one is, and another is
pub two_break : (present others : ℕ → Bool) (ms : List ℕ) (s t : ℕ)
    → ((n : ℕ) → others n ≡ (present n && not (nat_eq s n)))
    → find present ms ≡ Some s → find others ms ≡ Some t → has_one_at_most present ms ≡ false
two_break present others ms s t are first second = elim (cases_Bool (has_one_at_most present ms)) [
  | inl h ↦
      let one = found_is present ms s first in
      let two = found_is others ms t second in
      let there : present t ≡ true = and_first (present t) (not (nat_eq s t)) (sym (are t) ∙ two.1) in
      let same : s ≡ t = one_means present ms h s t one.0 two.0 one.1 there in
      absurd (false≢true (sym (leaves (present t) (nat_eq s t) (eq-eqb s t same)) ∙ (sym (are t) ∙ two.1)))
  | inr f ↦ f
]

-- what is found without the first tells whether there is another
pub one_or_two : (present others : ℕ → Bool) (ms : List ℕ) (s : ℕ) (o : Option InterfaceSignal) (none : Bool)
    → {one : ℕ → Bool} → ((n : ℕ) → others n ≡ (present n && not (one n))) → ((n : ℕ) → one n ≡ nat_eq s n)
    → find present ms ≡ Some s → option_map {T = InterfaceSignal} {U = ℕ} (λ m. m.index) o ≡ find others ms
    → is_some o ≡ not none → none ≡ has_one_at_most present ms
one_or_two present others ms s None none are is first second told =
    opposite none told ∙ sym (one_is_kept present others ms s (λ n. are n ∙ ap (λ b. present n && not b) (is n)) (sym
    second))
  where
    opposite : (b : Bool) → false ≡ not b → b ≡ true
    opposite true h = refl
    opposite false h = h
one_or_two present others ms s (Some m) none are is first second told =
    opposite none told ∙ sym (two_break present others ms s m.index
    (λ n. are n ∙ ap (λ b. present n && not b) (is n)) first (sym second))
  where
    opposite : (b : Bool) → true ≡ not b → b ≡ false
    opposite true h = h
    opposite false h = refl

-- an implication whose condition is not offered, and one whose condition is
pub first_there : (present : ℕ → Bool) (a b : ℕ) → present a ≡ true → present b ≡ has_implied present a b
unfolding has_implied
first_there present a b h = rw h refl

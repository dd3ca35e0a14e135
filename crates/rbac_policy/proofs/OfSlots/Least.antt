-- The least by a key of what the values of a list give.
use Rattle.std.proofs.Common.{◌≡◌, ℕ, zero, suc, ◌≤◌, ◌⊎◌, List, [], ◌∷◌, fold, cond, true, false, Bool, arith, sym}
use Rattle.std.proofs.Common.{◌∙◌, ap, refl, subst, inl, inr}
use Rattle.std.specs.Prelude.{slice_get, Option, Some, None, nat_lt}
use Rattle.std.proofs.lemmas.Bool.{cases_lt}
use Rattle.std.proofs.lemmas.Bool.Decides.{Decides-ltb}
use Rattle.std.proofs.lemmas.Option.{same_Some}
use Rattle.rbac_policy.specs.Inner.Violations.{lesser}

-- some value that was seen gives it, and none gives a lesser one
pub record LeastOf {Y R : Type 0} (key : R → ℕ) (g : Y → Option R) (seen : Y → Type 0) (best : R) : Type 0 where
  pub from : Y
  pub is_seen : seen from
  pub gives : g from ≡ Some best
  pub least : (y : Y) (r : R) → seen y → g y ≡ Some r → key best ≤ key r

-- it is the least that the values give which were seen, or they give none
abbrev pub Judged : {Y R : Type 0} → (R → ℕ) → (Y → Option R) → (Y → Type 0) → Option R → Type 0
Judged {Y = Y} {R = R} key g seen None = (y : Y) (r : R) → seen y → g y ≡ Some r → ⊥
Judged key g seen (Some best) = LeastOf key g seen best

module _ {Y R : Type 0} (key : R → ℕ) (g : Y → Option R) where
  same : (A B : Y → Type 0) → ((y : Y) → A y → B y) → ((y : Y) → B y → A y) → (o : Option R) → Judged key g A o
      → Judged key g B o
  same A B there back None j = λ y r b e. j y r (back y b) e
  same A B there back (Some best) j =
      record {
        from = j.from;
        is_seen = there j.from j.is_seen;
        gives = j.gives;
        least = λ y r b e. j.least y r (back y b) e;
      }

  module _ (seen : Y → Type 0) (y : Y) where
    abbrev More : Y → Type 0
    More z = seen z ⊎ (y ≡ z)

    given : (found : R) → g y ≡ Some found → (z : Y) (r : R) → y ≡ z → g z ≡ Some r → found ≡ r
    given found e z r eq gz = same_Some found r (sym e ∙ ap g eq ∙ gz)

    step : (o c : Option R) → g y ≡ c → Judged key g seen o → Judged key g More (lesser key o c)
    step None None e j = λ z r s gz. elim s [ inl a ↦ j z r a gz | inr eq ↦ cc (sym e ∙ ap g eq ∙ gz) ]
    step None (Some found) e j = record {
      from = y;
      is_seen = inr refl;
      gives = e;
      least = λ z r s gz. elim s [
        | inl a ↦ absurd (j z r a gz)
        | inr eq ↦
            omega (arith, ap key (given found e z r eq gz))
      ];
    }
    step (Some known) None e j = record {
      from = j.from;
      is_seen = inl j.is_seen;
      gives = j.gives;
      least = λ z r s gz. elim s [ inl a ↦ j.least z r a gz | inr eq ↦ absurd (cc (sym e ∙ ap g eq ∙ gz)) ];
    }
    step (Some known) (Some found) e j = elim (cases_lt (key found) (key known)) [
      | inl low ↦
          subst (Judged key g More)
          (sym (ap (λ b. cond b (Some found) (Some known)) ((Decides-ltb (key found) (key known)).1 low))) (record {
            from = y;
            is_seen = inr refl;
            gives = e;
            least = λ z r s gz. elim s [
              | inl a ↦ omega (arith, low, j.least z r a gz)
              | inr eq ↦
                  omega (arith, ap key (given found e z r eq gz))
            ];
          })
      | inr high ↦ by_test high (nat_lt (key found) (key known)) refl
    ] where
      by_test : key known ≤ key found → (b : Bool) → nat_lt (key found) (key known) ≡ b
          → Judged key g More (lesser key (Some known) (Some found))
      by_test high true t = absurd (omega (arith, high, (Decides-ltb (key found) (key known)).0 t))
      by_test high false t = subst (Judged key g More) (sym (ap (λ b. cond b (Some found) (Some known)) t)) (record {
        from = j.from;
        is_seen = inl j.is_seen;
        gives = j.gives;
        least = λ z r s gz. elim s [
          | inl a ↦ j.least z r a gz
          | inr eq ↦
              omega (arith, high, ap key (given found e z r eq gz))
        ];
      })

  -- the value stands in the list
  abbrev pub Stands : List Y → Y → Type 0
  Stands ys z = (at : ℕ) × (slice_get ys at ≡ Some z)

  all : (ys : List Y) (o : Option R) (seen : Y → Type 0) → Judged key g seen o
      → Judged key g (λ z. seen z ⊎ Stands ys z) (fold (λ o y. lesser key o (g y)) o ys)
  all [] o seen j = same seen (λ z. seen z ⊎ Stands [] z) (λ z s. inl s)
      (λ z s. elim s [ inl a ↦ a | inr b ↦ (let e = b.1 in cc) ]) o j
  all (y ∷ ys) o seen j =
      same (λ z. More seen y z ⊎ Stands ys z) (λ z. seen z ⊎ Stands (y ∷ ys) z)
      (λ z s. elim s [ inl a ↦ elim a [ inl b ↦ inl b | inr e ↦ inr (0, ap Some e) ] | inr b ↦ inr (suc b.0, b.1) ])
      (λ z s. elim s [ inl a ↦ inl (inl a) | inr b ↦ by_place z b.0 b.1 ])
      (fold (λ o y. lesser key o (g y)) (lesser key o (g y)) ys)
      (all ys (lesser key o (g y)) (More seen y) (step seen y o (g y) refl j)) where
        by_place : (z : Y) (at : ℕ) → slice_get (y ∷ ys) at ≡ Some z → More seen y z ⊎ Stands ys z
        by_place z zero there = inl (inr (same_Some y z there))
        by_place z (suc at) there = inr (at, there)

  pub judged : (ys : List Y) → Judged key g (Stands ys) (fold (λ o y. lesser key o (g y)) None ys)
  judged ys = same (λ z. ⊥ ⊎ Stands ys z) (Stands ys) (λ z s. elim s [ inl a ↦ absurd a | inr b ↦ b ]) (λ z b. inr b)
      (fold (λ o y. lesser key o (g y)) None ys)
      (all ys None (λ z. ⊥) (λ y r s e. s))

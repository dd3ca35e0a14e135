-- Chains of edges, where edges are added or taken away.
use Rattle.std.proofs.Common.{◌≡◌, ◌⊎◌, inl, inr, subst, refl}
use Rattle.rbac_closure.specs.Edges.{Chain, stay, step}

-- one chain after another
pub joined : {A : Type 0} {Edge : A → A → Type 0} {a b c : A} → Chain Edge a b → Chain Edge b c → Chain Edge a c
joined stay q = q
joined (step e p) q = step e (joined p q)

-- a chain over edges that are also others
pub widened : {A : Type 0} {Edge More : A → A → Type 0} → ((x y : A) → Edge x y → More x y) → {a b : A} → Chain Edge a b
    → Chain More a b
widened h stay = stay
widened h (step e rest) = step (h _ _ e) (widened h rest)

-- a chain over no edges stays where it is
pub stays : {A : Type 0} {Edge : A → A → Type 0} → ((x y : A) → Edge x y → ⊥) → {a b : A} → Chain Edge a b → b ≡ a
stays none stay = refl
stays none (step e rest) = absurd (none _ _ e)

-- with one edge more, a chain is one without it, or one to its senior and one from its junior
pub with_edge : {A : Type 0} {Edge More : A → A → Type 0} (senior junior : A)
    → ((x y : A) → More x y → Edge x y ⊎ ((x ≡ senior) × (y ≡ junior)))
    → {a b : A} → Chain More a b → Chain Edge a b ⊎ (Chain Edge a senior × Chain Edge junior b)
with_edge senior junior h stay = inl stay
with_edge {Edge = Edge} senior junior h (step {a = a} {b = m} {c = c} e rest) =
    let last : Chain Edge m c ⊎ (Chain Edge m senior × Chain Edge junior c) = with_edge senior junior h rest in
    elim (h a m e) [
      | inl old ↦ elim last [ inl q ↦ inl (step old q) | inr p ↦ inr (step old p.0, p.1) ]
      | inr new ↦
          let at : Chain Edge a senior = subst (λ x. Chain Edge a x) new.0 stay in
          elim last [ inl q ↦ inr (at, subst (λ y. Chain Edge y c) new.1 q) | inr p ↦ inr (at, p.1) ]
    ]

-- with a senior's edges more, a chain is one without them, or one to their senior and one from one of their juniors
pub with_row : {A : Type 0} {Edge More : A → A → Type 0} (senior : A) (Junior : A → Type 0)
    → ((x y : A) → More x y → Edge x y ⊎ ((x ≡ senior) × Junior y))
    → {a b : A} → Chain More a b → Chain Edge a b ⊎ (Chain Edge a senior × ((j : A) × Junior j × Chain Edge j b))
with_row senior Junior h stay = inl stay
with_row {A = A} {Edge = Edge} senior Junior h (step {a = a} {b = m} {c = c} e rest) =
    let last : Chain Edge m c ⊎ (Chain Edge m senior × ((j : A) × Junior j × Chain Edge j c)) =
    with_row senior Junior h rest in
    elim (h a m e) [
      | inl old ↦ elim last [ inl q ↦ inl (step old q) | inr p ↦ inr (step old p.0, p.1) ]
      | inr new ↦
          let at : Chain Edge a senior = subst (λ x. Chain Edge a x) new.0 stay in
          elim last [ inl q ↦ inr (at, (m, new.1, q)) | inr p ↦ inr (at, p.1) ]
    ]

-- Tokens have one first fault: what begins a library also begins one with fewer tokens.
use Rattle.std.proofs.Common.{◌≡◌, ◌∙◌, ℕ, ◌≤◌, length, List, [], ◌∷◌, ◌++◌, append_assoc, refl, sym, ap, subst}
use Rattle.est_text.specs.declared.token.Token.{Token}
use Rattle.est_syntax.specs.Tree.{LibraryTree}
use Rattle.est_syntax.specs.Grammar.{spelling, library_depth}
use Rattle.est_syntax.specs.Faults.{Begins, BeginsWithin, IsSyntaxFault, IsTooDeep}

-- two fronts of one list: they are the same, or one goes on where the other ends
data TwoFronts (xs ys us vs : List Token) : Type 0 where
  same : xs ≡ us → ys ≡ vs → TwoFronts xs ys us vs
  longer : (b : Token) (more : List Token) → us ≡ xs ++ b ∷ more → ys ≡ b ∷ more ++ vs → TwoFronts xs ys us vs
  shorter : (b : Token) (more : List Token) → xs ≡ us ++ b ∷ more → vs ≡ b ∷ more ++ ys → TwoFronts xs ys us vs

grown : (x u : Token) (xs ys us vs : List Token) → x ≡ u → TwoFronts xs ys us vs → TwoFronts (x ∷ xs) ys (u ∷ us) vs
grown x u xs ys us vs h (same p q) =
    let w : x ∷ xs ≡ u ∷ us = cc in
    same w q
grown x u xs ys us vs h (longer b more p q) =
    let w : u ∷ us ≡ x ∷ xs ++ b ∷ more = cc in
    longer b more w q
grown x u xs ys us vs h (shorter b more p q) =
    let w : x ∷ xs ≡ u ∷ us ++ b ∷ more = cc in
    shorter b more w q

fronts : (xs ys us vs : List Token) → xs ++ ys ≡ us ++ vs → TwoFronts xs ys us vs
fronts [] ys [] vs e = same refl e
fronts [] ys (u ∷ us) vs e = longer u us refl e
fronts (x ∷ xs) ys [] vs e = shorter x xs refl (sym e)
fronts (x ∷ xs) ys (u ∷ us) vs e =
    let h : x ≡ u = cc in
    let t : xs ++ ys ≡ us ++ vs = cc in
    grown x u xs ys us vs h (fronts xs ys us vs t)

-- what begins a library within a limit does so up to each of its tokens
begins_to : (limit : ℕ) (xs : List Token) (b : Token) (more seen : List Token) → seen ≡ xs ++ b ∷ more
    → BeginsWithin limit seen → BeginsWithin limit (xs ++ b ∷ [])
begins_to limit xs b more seen e p = (
  p.0,
  more ++ p.1,
  p.2,
  append_assoc xs (b ∷ []) (more ++ p.1) ∙ sym (append_assoc xs (b ∷ more) p.1)
      ∙ ap (λ (l : List Token). l ++ p.1) (sym e) ∙ p.3,
)

loosely : (limit : ℕ) (seen : List Token) → BeginsWithin limit seen → Begins seen
loosely limit seen p = (p.0, p.1, p.3)

two_wrong : (limit : ℕ) (tokens : List Token) (at other : ℕ) (f : IsSyntaxFault limit tokens at)
    (g : IsSyntaxFault limit tokens other) → TwoFronts f.seen f.rest g.seen g.rest → at ≡ other
two_wrong limit tokens at other f g (same p q) = f.place ∙ ap (length {A = Token}) p ∙ sym g.place
two_wrong limit tokens at other f g (longer b more p q) =
    absurd (f.stuck b (more ++ g.rest) q
    (loosely limit (f.seen ++ b ∷ []) (begins_to limit f.seen b more g.seen p g.begins)))
two_wrong limit tokens at other f g (shorter b more p q) =
    absurd (g.stuck b (more ++ f.rest) q
    (loosely limit (g.seen ++ b ∷ []) (begins_to limit g.seen b more f.seen p f.begins)))

pub one_syntax_fault : (limit : ℕ) (tokens : List Token) (at other : ℕ) → IsSyntaxFault limit tokens at
    → IsSyntaxFault limit tokens other → at ≡ other
one_syntax_fault limit tokens at other f g =
    two_wrong limit tokens at other f g (fronts f.seen f.rest g.seen g.rest (sym f.whole ∙ g.whole))

never_past : (limit : ℕ) (tokens : List Token) (at : ℕ) (g : IsTooDeep limit tokens at) (b : Token)
    (more vs seen : List Token) → seen ≡ g.seen ++ b ∷ more → g.opener ∷ g.later ≡ b ∷ more ++ vs
    → ¬ (BeginsWithin limit seen)
never_past limit tokens at g b more vs seen p q w =
    let one : b ≡ g.opener = cc in
    g.deep (subst (λ (t : Token). BeginsWithin limit (g.seen ++ t ∷ [])) one (begins_to limit g.seen b more seen p w))

two_deep : (limit : ℕ) (tokens : List Token) (at other : ℕ) (f : IsTooDeep limit tokens at)
    (g : IsTooDeep limit tokens other) → TwoFronts f.seen (f.opener ∷ f.later) g.seen (g.opener ∷ g.later) → at ≡ other
two_deep limit tokens at other f g (same p q) = f.place ∙ ap (length {A = Token}) p ∙ sym g.place
two_deep limit tokens at other f g (longer b more p q) =
    absurd (never_past limit tokens at f b more (g.opener ∷ g.later) g.seen p q g.before)
two_deep limit tokens at other f g (shorter b more p q) =
    absurd (never_past limit tokens other g b more (f.opener ∷ f.later) f.seen p q f.before)

pub one_too_deep : (limit : ℕ) (tokens : List Token) (at other : ℕ) → IsTooDeep limit tokens at
    → IsTooDeep limit tokens other → at ≡ other
one_too_deep limit tokens at other f g = two_deep limit tokens at other f g
    (fronts f.seen (f.opener ∷ f.later) g.seen (g.opener ∷ g.later) (sym f.whole ∙ g.whole))

two_kinds : (limit : ℕ) (tokens : List Token) (at other : ℕ) (f : IsSyntaxFault limit tokens at)
    (g : IsTooDeep limit tokens other) → TwoFronts f.seen f.rest g.seen (g.opener ∷ g.later) → ⊥
two_kinds limit tokens at other f g (same p q) =
    f.stuck g.opener g.later q (subst (λ (l : List Token). Begins (l ++ g.opener ∷ [])) (sym p) g.begins)
two_kinds limit tokens at other f g (longer b more p q) = f.stuck b (more ++ g.opener ∷ g.later) q
    (loosely limit (f.seen ++ b ∷ []) (begins_to limit f.seen b more g.seen p g.before))
two_kinds limit tokens at other f g (shorter b more p q) =
    never_past limit tokens other g b more f.rest f.seen p q f.begins

pub one_kind : (limit : ℕ) (tokens : List Token) (at other : ℕ) → IsSyntaxFault limit tokens at
    → IsTooDeep limit tokens other → ⊥
one_kind limit tokens at other f g =
    two_kinds limit tokens at other f g (fronts f.seen f.rest g.seen (g.opener ∷ g.later) (sym f.whole ∙ g.whole))

whole_or_more : (limit : ℕ) (l : LibraryTree) (at : ℕ) (f : IsSyntaxFault limit (spelling l) at) (rest : List Token)
    → f.rest ≡ rest → ⊥
whole_or_more limit l at f [] e = f.short e l refl
whole_or_more limit l at f (b ∷ later) e =
    f.stuck b later e
    (l, later, append_assoc f.seen (b ∷ []) later ∙ ap (λ (r : List Token). f.seen ++ r) (sym e) ∙ sym f.whole)

pub no_syntax_fault : (limit : ℕ) (l : LibraryTree) (at : ℕ) → IsSyntaxFault limit (spelling l) at → ⊥
no_syntax_fault limit l at f = whole_or_more limit l at f f.rest refl

pub not_too_deep : (limit : ℕ) (l : LibraryTree) (at : ℕ) → library_depth l ≤ limit → IsTooDeep limit (spelling l) at
    → ⊥
not_too_deep limit l at fits g = g.deep (l, g.later, fits, append_assoc g.seen (g.opener ∷ []) g.later ∙ sym g.whole)

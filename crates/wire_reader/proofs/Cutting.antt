-- The lines of a connection are those of its bytes.
use Rattle.std.proofs.Common.{◌≡◌, ℕ, List, [], ◌∷◌, Option, Some, None, refl, subst}
use Rattle.std.specs.Prelude.{map}
use Rattle.wire_reader.specs.Serving.{BetweenLines, Exchange, TakesLine, Runs, KnownCuts}

known_more : (a b c : Option (List ℕ)) (line : List ℕ) (lines : List (List ℕ)) → TakesLine a line b
    → KnownCuts b lines c → KnownCuts a (line ∷ lines) c
known_more None b c line lines p q = tt
known_more (Some xs) None c line lines p q = absurd p
known_more (Some xs) (Some ys) None line lines p q = absurd q
known_more (Some xs) (Some ys) (Some zs) line lines p q = (ys, p, q)

known_none : (a : Option (List ℕ)) → KnownCuts a [] a
known_none None = tt
known_none (Some xs) = refl

-- the lines that are answered are those of the bytes in turn
pub lines_cut : {A : Type 0} (tells : A → List ℕ → List ℕ → A → Type 0) (before after : BetweenLines A)
    (es : List Exchange) → Runs tells before es after
    → KnownCuts before.ahead (map (λ (e : Exchange). e.line) es) after.ahead
lines_cut {A} tells before after [] runs =
    subst (λ (c : BetweenLines A). KnownCuts before.ahead [] c.ahead) runs (known_none before.ahead)
lines_cut tells before after (e ∷ later) runs =
    known_more before.ahead runs.0.ahead after.ahead e.line _ runs.1.takes (lines_cut tells runs.0 after later runs.2)

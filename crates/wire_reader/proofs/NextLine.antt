-- Bytes have one next line.
use Rattle.std.proofs.Common.{◌≡◌, ◌∙◌, ◌<◌, ℕ, List, [], ◌∷◌, ◌++◌, length, refl, sym, ap, subst, inl, inr, arith}
use Rattle.std.proofs.lemmas.Bool.Decides.{nat_tests}
use Rattle.std.proofs.lemmas.Grind.{common_steps}
use Rattle.std.proofs.lemmas.List.{length-append}
use Rattle.wire_reader.specs.Lines.{HasNoEnd, IsNext, IsTooLong}

no_end_first : (b : ℕ) (bs : List ℕ) → 10 ≡ b → HasNoEnd (b ∷ bs) → ⊥
no_end_first b bs e h = grind (arith, nat_tests, common_steps)

no_end_later : (b : ℕ) (bs : List ℕ) → HasNoEnd (b ∷ bs) → HasNoEnd bs
no_end_later b bs h = grind (arith, nat_tests, common_steps)

no_end_inside : (xs others : List ℕ) → HasNoEnd (xs ++ 10 ∷ others) → ⊥
no_end_inside [] others h = no_end_first 10 others refl h
no_end_inside (x ∷ xs) others h = no_end_inside xs others (no_end_later x (xs ++ 10 ∷ others) h)

-- what stands before the first LF, and what stands after it
around_first_end : (one other after rest : List ℕ) → HasNoEnd one → HasNoEnd other
    → one ++ 10 ∷ after ≡ other ++ 10 ∷ rest → (one ≡ other) × (after ≡ rest)
around_first_end [] [] after rest f g e = let same : after ≡ rest = cc in (refl, same)
around_first_end [] (b ∷ bs) after rest f g e = let same : 10 ≡ b = cc in absurd (no_end_first b bs same g)
around_first_end (a ∷ later) [] after rest f g e = let same : 10 ≡ a = cc in absurd (no_end_first a later same f)
around_first_end (a ∷ later) (b ∷ bs) after rest f g e =
    let same : a ≡ b = cc in
    let more : later ++ 10 ∷ after ≡ bs ++ 10 ∷ rest = cc in
    let both = around_first_end later bs after rest (no_end_later a later f) (no_end_later b bs g) more in
    let tails : later ≡ bs = both.0 in
    let whole : a ∷ later ≡ b ∷ bs = cc in
    (whole, both.1)

-- bytes have one next line at most
pub one_next_line : (bytes line others other rest : List ℕ) → IsNext bytes line others → IsNext bytes other rest
    → (line ≡ other) × (others ≡ rest)
one_next_line bytes line others other rest p q =
    elim p.ended [
      | inl a ↦ elim q.ended [
        | inl b ↦ around_first_end line other others rest p.no_end q.no_end (sym a ∙ b)
        | inr b ↦ absurd (no_end_inside line others (subst HasNoEnd (sym b.all ∙ a) q.no_end))
      ]
      | inr a ↦ elim q.ended [
        | inl b ↦ absurd (no_end_inside other rest (subst HasNoEnd (sym a.all ∙ b) p.no_end))
        | inr b ↦ (sym a.all ∙ b.all, a.nothing ∙ sym b.nothing)
      ]
    ]

-- a front without an LF ends before the first
end_inside : (line others front rest : List ℕ) → HasNoEnd front → length line < length front
    → line ++ 10 ∷ others ≡ front ++ rest → ⊥
end_inside [] others [] rest none longer e = omega arith
end_inside [] others (b ∷ bs) rest none longer e = let same : 10 ≡ b = cc in no_end_first b bs same none
end_inside (a ∷ later) others [] rest none longer e = omega arith
end_inside (a ∷ later) others (b ∷ bs) rest none longer e =
    let more : later ++ 10 ∷ others ≡ bs ++ rest = cc in
    end_inside later others bs rest (no_end_later b bs none) (omega (arith, longer)) more

-- bytes with a next line are not too long
pub next_or_too_long : (bytes line others : List ℕ) → IsNext bytes line others → IsTooLong bytes → ⊥
next_or_too_long bytes line others p long =
    elim p.ended [
      | inl a ↦ end_inside line others long.front long.others long.no_end (omega (arith, p.short, long.long))
          (sym a ∙ long.whole)
      | inr a ↦
          omega (arith, p.short, long.long, length-append long.front long.others, ap length (sym a.all ∙ long.whole))
    ]

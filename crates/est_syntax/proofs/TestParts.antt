-- A part of a test from its parts: what the functions of the parser answer.
use Rattle.std.proofs.Common.{◌≡◌, ◌∙◌, ℕ, suc, ◌+◌, ◌≤◌, List, [], ◌∷◌, ◌++◌, length, refl, sym, ap, arith}
use Rattle.std.specs.Prelude.{None}
use Rattle.est_text.specs.declared.token.Token.{Token}
use Rattle.est_text.specs.declared.token.Token.TheVariants.{Keyword, Identifier, Symbol}
use Rattle.est_text.specs.declared.keyword.Keyword.TheVariants as keyword
use Rattle.est_text.specs.declared.token.Symbol.TheVariants as symbol
use Rattle.est_syntax.specs.Tree.{LiteralTree, negated, enclosed, ExpressionTree, ConjunctionTree, LiteralsTree}
use Rattle.est_syntax.specs.Tree.{ConjunctionsTree, conjunction, expression}
use Rattle.est_syntax.specs.Grammar as g
use Rattle.est_syntax.specs.Views.{literals_of, conjunctions_of}
use Rattle.est_syntax.specs.Inner.Machine as m
use Rattle.est_syntax.specs.Inner.Machine.{Want, run, Skips, open_count, deep}
use Rattle.est_syntax.specs.Inner.Parsing.{IsPart, Round}
use Rattle.est_syntax.specs.declared.parse.TheConstants.{MOST_OPEN_UNITS}
use Rattle.est_syntax.proofs.TestRuns.{leave_over}
use Rattle.est_syntax.proofs.TestRuns.{open_part}
use Rattle.est_syntax.proofs.Opening.{deep_part}

-- ---- the wants around a part

pub round_same : (room : ℕ) (w : Want) (s : List Want) → Round room None s → open_count (w ∷ s) ≡ open_count s
    → Round room None (w ∷ s)
round_same room w s r e = record { fits = omega (arith, r.fits, e); closing = tt }

-- ---- a literal that opens a unit

-- what `not` leads to
pub not_opens : (room : ℕ) (s : List Want) (bs : List Token) → open_count s + suc room ≡ MOST_OPEN_UNITS
    → run MOST_OPEN_UNITS (m.literal ∷ s) (Keyword keyword.Not ∷ bs) ≡ run MOST_OPEN_UNITS (m.literal ∷ m.leave ∷ s) bs
not_opens room s bs r = open_part MOST_OPEN_UNITS (m.literal ∷ m.leave ∷ s) (Keyword keyword.Not) bs (omega (arith, r))

pub not_deep : (s : List Want) (bs : List Token) → open_count s + 0 ≡ MOST_OPEN_UNITS
    → run MOST_OPEN_UNITS (m.literal ∷ s) (Keyword keyword.Not ∷ bs) ≡ deep (Keyword keyword.Not ∷ bs)
not_deep s bs r = deep_part (m.literal ∷ m.leave ∷ s) (Keyword keyword.Not) bs (omega (arith, r))

-- what is wanted inside parentheses and after them
abbrev pub enclosed_wants : List Want → List Want
enclosed_wants s = m.expression ∷ m.one (Symbol symbol.CloseParenthesis) ∷ m.leave ∷ s

pub enclosed_opens : (room : ℕ) (s : List Want) (bs : List Token) → open_count s + suc room ≡ MOST_OPEN_UNITS
    → run MOST_OPEN_UNITS (m.literal ∷ s) (Symbol symbol.OpenParenthesis ∷ bs)
    ≡ run MOST_OPEN_UNITS (enclosed_wants s) bs
enclosed_opens room s bs r = open_part MOST_OPEN_UNITS (enclosed_wants s) (Symbol symbol.OpenParenthesis) bs
    (omega (arith, r))

pub not_part : (room less : ℕ) (l : LiteralTree) (old mid new : List Token) → room ≡ suc less
    → old ≡ Keyword keyword.Not ∷ mid
    → IsPart less None (m.literal ∷ []) (g.literal_onto l new) (g.literal_depth l) mid new
    → IsPart room None (m.literal ∷ []) (g.literal_onto (negated l) new) (g.literal_depth (negated l)) old new
not_part room less l old mid new e f h = record {
  spelt = f ∙ ap (λ (b : List Token). Keyword keyword.Not ∷ b) h.spelt;
  fits = omega (arith, e, h.fits);
  passes = λ s r. ap (run MOST_OPEN_UNITS (m.literal ∷ s)) f
      ∙ not_opens less s mid (ap (λ (n : ℕ). open_count s + n) (sym e) ∙ r.fits)
      ∙ h.passes (m.leave ∷ s) (record { fits = omega (arith, e, r.fits); closing = tt })
      ∙ leave_over MOST_OPEN_UNITS s new;
  shorter = omega (arith, h.shorter, ap (length {A = Token}) f);
}

pub enclosed_part : (room less : ℕ) (e : ExpressionTree) (old mid behind new : List Token) → room ≡ suc less
    → old ≡ Symbol symbol.OpenParenthesis ∷ mid
    → IsPart less None (m.expression ∷ []) (g.expression_onto e behind) (g.expression_depth e) mid behind
    → behind ≡ Symbol symbol.CloseParenthesis ∷ new
    → IsPart room None (m.literal ∷ []) (g.literal_onto (enclosed e) new) (g.literal_depth (enclosed e)) old new
enclosed_part room less e old mid behind new q f h k = record {
  spelt = f ∙ ap (λ (b : List Token). Symbol symbol.OpenParenthesis ∷ b) (h.spelt ∙ ap (g.expression_onto e) k);
  fits = omega (arith, q, h.fits);
  passes = λ s r. ap (run MOST_OPEN_UNITS (m.literal ∷ s)) f
      ∙ enclosed_opens less s mid (ap (λ (n : ℕ). open_count s + n) (sym q) ∙ r.fits)
      ∙ h.passes (m.one (Symbol symbol.CloseParenthesis) ∷ m.leave ∷ s)
      (record { fits = omega (arith, q, r.fits); closing = tt })
      ∙ ap (run MOST_OPEN_UNITS (m.one (Symbol symbol.CloseParenthesis) ∷ m.leave ∷ s)) k
      ∙ leave_over MOST_OPEN_UNITS s new;
  shorter = omega (arith, h.shorter, ap (length {A = Token}) f, ap (length {A = Token}) k);
}

-- another begins with a name
pub literal_is_name : (s : List Want) (bs : List Token) → Skips (Keyword keyword.Not) bs
    → Skips (Symbol symbol.OpenParenthesis) bs → run MOST_OPEN_UNITS (m.literal ∷ s) bs
    ≡ run MOST_OPEN_UNITS (m.name ∷ s) bs
literal_is_name s [] h k = refl
literal_is_name s (Identifier n ∷ bs) h k = refl
literal_is_name s (Keyword keyword.Not ∷ bs) h k = cc
literal_is_name s (Symbol symbol.OpenParenthesis ∷ bs) h k = cc
literal_is_name s (_ ∷ bs) h k = refl

-- ---- literals with `and` between them

pub literals_push : (ls : List LiteralTree) (l : LiteralTree) (rest : List Token)
    → g.literals_onto (literals_of (ls ++ l ∷ [])) rest
    ≡ g.literals_onto (literals_of ls) (Keyword keyword.And ∷ g.literal_onto l rest)
literals_push [] l rest = refl
literals_push (k ∷ ls) l rest = ap (λ (b : List Token). Keyword keyword.And ∷ g.literal_onto k b)
    (literals_push ls l rest)

literals_deeper : (ls : List LiteralTree) (l : LiteralTree) (room : ℕ) → g.literals_depth (literals_of ls) ≤ room
    → g.literal_depth l ≤ room → g.literals_depth (literals_of (ls ++ l ∷ [])) ≤ room
literals_deeper [] l room h k = omega (arith, h, k)
literals_deeper (v ∷ ls) l room h k = let d = literals_deeper ls l room (omega (arith, h)) k in omega (arith, d, h)

-- what the loop over the further literals keeps
pub record LiteralsSoFar (room : ℕ) (ls : LiteralsTree) (old new : List Token) : Type 0 where
  pub spelt : old ≡ g.literals_onto ls new
  pub fits : g.literals_depth ls ≤ room
  pub passes : (s : List Want) → Round room None s
      → run MOST_OPEN_UNITS (m.conjunction_tail ∷ s) old ≡ run MOST_OPEN_UNITS (m.conjunction_tail ∷ s) new
  pub shorter : length new ≤ length old

pub one_more_literal : (room : ℕ) (ls : List LiteralTree) (l : LiteralTree) (old left mid new : List Token)
    → LiteralsSoFar room (literals_of ls) old left → left ≡ Keyword keyword.And ∷ mid
    → IsPart room None (m.literal ∷ []) (g.literal_onto l new) (g.literal_depth l) mid new
    → LiteralsSoFar room (literals_of (ls ++ l ∷ [])) old new
one_more_literal room ls l old left mid new h e p = record {
  spelt = h.spelt ∙ ap (g.literals_onto (literals_of ls))
      (e ∙ ap (λ (b : List Token). Keyword keyword.And ∷ b) p.spelt) ∙ sym (literals_push ls l new);
  fits = literals_deeper ls l room h.fits p.fits;
  passes = λ s r. h.passes s r ∙ ap (run MOST_OPEN_UNITS (m.conjunction_tail ∷ s)) e
      ∙ p.passes (m.conjunction_tail ∷ s) (round_same room m.conjunction_tail s r refl);
  shorter = omega (arith, h.shorter, ap (length {A = Token}) e, p.shorter);
}

-- ---- conjunctions with `or` between them

pub conjunctions_push : (cs : List ConjunctionTree) (c : ConjunctionTree) (rest : List Token)
    → g.conjunctions_onto (conjunctions_of (cs ++ c ∷ [])) rest
    ≡ g.conjunctions_onto (conjunctions_of cs) (Keyword keyword.Or ∷ g.conjunction_onto c rest)
conjunctions_push [] c rest = refl
conjunctions_push (k ∷ cs) c rest =
    ap (λ (b : List Token). Keyword keyword.Or ∷ g.conjunction_onto k b) (conjunctions_push cs c rest)

conjunctions_deeper : (cs : List ConjunctionTree) (c : ConjunctionTree) (room : ℕ)
    → g.conjunctions_depth (conjunctions_of cs) ≤ room → g.conjunction_depth c ≤ room
    → g.conjunctions_depth (conjunctions_of (cs ++ c ∷ [])) ≤ room
conjunctions_deeper [] c room h k = omega (arith, h, k)
conjunctions_deeper (v ∷ cs) c room h k = let d = conjunctions_deeper cs c room (omega (arith, h)) k in
    omega (arith, d, h)

-- what the loop over the further conjunctions keeps
pub record ConjunctionsSoFar (room : ℕ) (cs : ConjunctionsTree) (old new : List Token) : Type 0 where
  pub spelt : old ≡ g.conjunctions_onto cs new
  pub fits : g.conjunctions_depth cs ≤ room
  pub passes : (s : List Want) → Round room None s
      → run MOST_OPEN_UNITS (m.expression_tail ∷ s) old ≡ run MOST_OPEN_UNITS (m.expression_tail ∷ s) new
  pub shorter : length new ≤ length old

pub one_more_conjunction : (room : ℕ) (cs : List ConjunctionTree) (c : ConjunctionTree) (old left mid new : List Token)
    → ConjunctionsSoFar room (conjunctions_of cs) old left → left ≡ Keyword keyword.Or ∷ mid
    → IsPart room None (m.conjunction ∷ []) (g.conjunction_onto c new) (g.conjunction_depth c) mid new
    → ConjunctionsSoFar room (conjunctions_of (cs ++ c ∷ [])) old new
one_more_conjunction room cs c old left mid new h e p = record {
  spelt = h.spelt ∙ ap (g.conjunctions_onto (conjunctions_of cs))
      (e ∙ ap (λ (b : List Token). Keyword keyword.Or ∷ b) p.spelt) ∙ sym (conjunctions_push cs c new);
  fits = conjunctions_deeper cs c room h.fits p.fits;
  passes = λ s r. h.passes s r ∙ ap (run MOST_OPEN_UNITS (m.expression_tail ∷ s)) e
      ∙ p.passes (m.expression_tail ∷ s) (round_same room m.expression_tail s r refl);
  shorter = omega (arith, h.shorter, ap (length {A = Token}) e, p.shorter);
}

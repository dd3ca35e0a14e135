-- The machine takes what a test spells.
use Rattle.std.proofs.Common.{◌≡◌, ◌∙◌, ℕ, ◌+◌, ◌≤◌, List, [], ◌∷◌, Bool, true, false, if◌then◌else◌, refl, ap, arith}
use Rattle.std.proofs.lemmas.Bool.{le-leb}
use Rattle.est_text.specs.declared.token.Token.{Token}
use Rattle.est_text.specs.declared.token.Token.TheVariants.{Keyword, Symbol}
use Rattle.est_text.specs.declared.keyword.Keyword.TheVariants as keyword
use Rattle.est_text.specs.declared.token.Symbol.TheVariants as symbol
use Rattle.est_syntax.specs.Tree.{LiteralTree, named, negated, enclosed, ConjunctionTree, conjunction, LiteralsTree}
use Rattle.est_syntax.specs.Tree.{no_literals, literals, ExpressionTree, expression, ConjunctionsTree, no_conjunctions}
use Rattle.est_syntax.specs.Tree.{conjunctions, TestTree, bare, bracketed, DelayTree}
use Rattle.est_syntax.specs.Grammar as g
use Rattle.est_syntax.specs.Inner.Machine as m
use Rattle.est_syntax.specs.Inner.Machine.{Want, Step, Outcome, to, opens, deep, step, go_on, open_count, Skips}

-- ---- what may be left out, and is

-- the outcome of a want that may be left out, by whether its token stands there
abbrev pub either : ℕ → Token → List Token → Step → Step → Bool → Outcome
either limit b bs here other x = go_on limit (if x then here else other) (b ∷ bs) (λ t. m.run limit t bs)

pub may_over : (limit : ℕ) (t : Token) (s : List Want) (bs : List Token) → Skips t bs
    → m.run limit (m.may t ∷ s) bs ≡ m.run limit s bs
may_over limit t s [] h = refl
may_over limit t s (b ∷ bs) h = ap (either limit b bs (to s) (step s b)) h

pub leave_over : (limit : ℕ) (s : List Want) (bs : List Token) → m.run limit (m.leave ∷ s) bs ≡ m.run limit s bs
leave_over limit s [] = refl
leave_over limit s (b ∷ bs) = refl

pub conjunction_over : (limit : ℕ) (s : List Want) (bs : List Token) → Skips (Keyword keyword.And) bs
    → m.run limit (m.conjunction_tail ∷ s) bs ≡ m.run limit s bs
conjunction_over limit s [] h = refl
conjunction_over limit s (b ∷ bs) h = ap (either limit b bs (to (m.literal ∷ m.conjunction_tail ∷ s)) (step s b)) h

pub expression_over : (limit : ℕ) (s : List Want) (bs : List Token) → Skips (Keyword keyword.Or) bs
    → m.run limit (m.expression_tail ∷ s) bs ≡ m.run limit s bs
expression_over limit s [] h = refl
expression_over limit s (b ∷ bs) h = ap (either limit b bs (to (m.conjunction ∷ m.expression_tail ∷ s)) (step s b)) h

-- the step that opens a unit, where there is room
pub open_part : (limit : ℕ) (s : List Want) (b : Token) (bs : List Token) → open_count s ≤ limit
    → go_on limit (opens s) (b ∷ bs) (λ t. m.run limit t bs) ≡ m.run limit s bs
open_part limit s b bs h = ap (λ (x : Bool). if x then m.run limit s bs else deep (b ∷ bs))
    (le-leb (open_count s) limit h)

-- ---- a want that stands for others

pub conjunction_is : (limit : ℕ) (s : List Want) (bs : List Token)
    → m.run limit (m.conjunction ∷ s) bs ≡ m.run limit (m.literal ∷ m.conjunction_tail ∷ s) bs
conjunction_is limit s [] = refl
conjunction_is limit s (b ∷ bs) = refl

pub expression_is : (limit : ℕ) (s : List Want) (bs : List Token)
    → m.run limit (m.expression ∷ s) bs ≡ m.run limit (m.conjunction ∷ m.expression_tail ∷ s) bs
expression_is limit s [] = refl
expression_is limit s (b ∷ bs) = refl

pub test_is : (limit : ℕ) (s : List Want) (bs : List Token) → Skips (Symbol symbol.OpenBracket) bs
    → m.run limit (m.test ∷ s) bs ≡ m.run limit (m.expression ∷ s) bs
test_is limit s [] h = refl
test_is limit s (b ∷ bs) h = ap (either limit b bs (to (m.expression ∷ m.one (Symbol symbol.CloseBracket) ∷ s))
    (step (m.expression ∷ s) b)) h

-- ---- what an expression begins with

pub no_bracket : (e : ExpressionTree) (bs : List Token) → Skips (Symbol symbol.OpenBracket) (g.expression_onto e bs)
no_bracket (expression (conjunction (named n) ls) cs) bs = refl
no_bracket (expression (conjunction (negated l) ls) cs) bs = refl
no_bracket (expression (conjunction (enclosed e) ls) cs) bs = refl

pub no_immediate : (t : TestTree) (bs : List Token) → Skips (Keyword keyword.Immediate) (g.test_onto t bs)
no_immediate (bare (expression (conjunction (named n) ls) cs)) bs = refl
no_immediate (bare (expression (conjunction (negated l) ls) cs)) bs = refl
no_immediate (bare (expression (conjunction (enclosed e) ls) cs)) bs = refl
no_immediate (bracketed e) bs = refl

pub behind_conjunctions : (cs : ConjunctionsTree) (bs : List Token) → Skips (Keyword keyword.And) bs
    → Skips (Keyword keyword.And) (g.conjunctions_onto cs bs)
behind_conjunctions no_conjunctions bs h = h
behind_conjunctions (conjunctions c cs) bs h = refl

-- ---- each part of a test

mutual
  run_literal : (limit : ℕ) (l : LiteralTree) (s : List Want) (bs : List Token)
      → g.literal_depth l + open_count s ≤ limit → m.run limit (m.literal ∷ s) (g.literal_onto l bs) ≡ m.run limit s bs
  run_literal limit (named n) s bs r = refl
  run_literal limit (negated l) s bs r =
      open_part limit (m.literal ∷ m.leave ∷ s) (Keyword keyword.Not) (g.literal_onto l bs) (omega (arith, r))
      ∙ run_literal limit l (m.leave ∷ s) bs (omega (arith, r)) ∙ leave_over limit s bs
  run_literal limit (enclosed e) s bs r =
      open_part limit (m.expression ∷ m.one (Symbol symbol.CloseParenthesis) ∷ m.leave ∷ s)
      (Symbol symbol.OpenParenthesis) (g.expression_onto e (Symbol symbol.CloseParenthesis ∷ bs)) (omega (arith, r))
      ∙ run_expression limit e (m.one (Symbol symbol.CloseParenthesis) ∷ m.leave ∷ s)
      (Symbol symbol.CloseParenthesis ∷ bs) refl refl (omega (arith, r)) ∙ leave_over limit s bs

  run_conjunction : (limit : ℕ) (c : ConjunctionTree) (s : List Want) (bs : List Token) → Skips (Keyword keyword.And) bs
      → g.conjunction_depth c + open_count s ≤ limit
      → m.run limit (m.conjunction ∷ s) (g.conjunction_onto c bs) ≡ m.run limit s bs
  run_conjunction limit (conjunction l ls) s bs h r =
      conjunction_is limit s (g.literal_onto l (g.literals_onto ls bs))
      ∙ run_literal limit l (m.conjunction_tail ∷ s) (g.literals_onto ls bs) (omega (arith, r))
      ∙ run_literals limit ls s bs h (omega (arith, r))

  run_literals : (limit : ℕ) (ls : LiteralsTree) (s : List Want) (bs : List Token) → Skips (Keyword keyword.And) bs
      → g.literals_depth ls + open_count s ≤ limit
      → m.run limit (m.conjunction_tail ∷ s) (g.literals_onto ls bs) ≡ m.run limit s bs
  run_literals limit no_literals s bs h r = conjunction_over limit s bs h
  run_literals limit (literals l ls) s bs h r =
      run_literal limit l (m.conjunction_tail ∷ s) (g.literals_onto ls bs) (omega (arith, r))
      ∙ run_literals limit ls s bs h (omega (arith, r))

  run_expression : (limit : ℕ) (e : ExpressionTree) (s : List Want) (bs : List Token) → Skips (Keyword keyword.And) bs
      → Skips (Keyword keyword.Or) bs → g.expression_depth e + open_count s ≤ limit
      → m.run limit (m.expression ∷ s) (g.expression_onto e bs) ≡ m.run limit s bs
  run_expression limit (expression c cs) s bs h k r =
      expression_is limit s (g.conjunction_onto c (g.conjunctions_onto cs bs))
      ∙ run_conjunction limit c (m.expression_tail ∷ s) (g.conjunctions_onto cs bs) (behind_conjunctions cs bs h)
      (omega (arith, r))
      ∙ run_conjunctions limit cs s bs h k (omega (arith, r))

  run_conjunctions : (limit : ℕ) (cs : ConjunctionsTree) (s : List Want) (bs : List Token)
      → Skips (Keyword keyword.And) bs → Skips (Keyword keyword.Or) bs → g.conjunctions_depth cs + open_count s ≤ limit
      → m.run limit (m.expression_tail ∷ s) (g.conjunctions_onto cs bs) ≡ m.run limit s bs
  run_conjunctions limit no_conjunctions s bs h k r = expression_over limit s bs k
  run_conjunctions limit (conjunctions c cs) s bs h k r =
      run_conjunction limit c (m.expression_tail ∷ s) (g.conjunctions_onto cs bs) (behind_conjunctions cs bs h)
      (omega (arith, r))
      ∙ run_conjunctions limit cs s bs h k (omega (arith, r))

pub run_test : (limit : ℕ) (t : TestTree) (s : List Want) (bs : List Token) → Skips (Keyword keyword.And) bs
    → Skips (Keyword keyword.Or) bs → g.test_depth t + open_count s ≤ limit
    → m.run limit (m.test ∷ s) (g.test_onto t bs) ≡ m.run limit s bs
run_test limit (bare e) s bs h k r =
    test_is limit s (g.expression_onto e bs) (no_bracket e bs) ∙ run_expression limit e s bs h k r
run_test limit (bracketed e) s bs h k r =
    run_expression limit e (m.one (Symbol symbol.CloseBracket) ∷ s) (Symbol symbol.CloseBracket ∷ bs) refl refl r

delay_part : (limit : ℕ) (i : Bool) (t : TestTree) (s : List Want) (bs : List Token)
    → m.run limit (m.may (Keyword keyword.Immediate) ∷ m.test ∷ s)
    (g.token_if i (Keyword keyword.Immediate) (g.test_onto t bs)) ≡ m.run limit (m.test ∷ s) (g.test_onto t bs)
delay_part limit true t s bs = refl
delay_part limit false t s bs =
    may_over limit (Keyword keyword.Immediate) (m.test ∷ s) (g.test_onto t bs) (no_immediate t bs)

pub run_delay : (limit : ℕ) (d : DelayTree) (s : List Want) (bs : List Token) → Skips (Keyword keyword.And) bs
    → Skips (Keyword keyword.Or) bs → g.delay_depth d + open_count s ≤ limit
    → m.run limit (m.may (Keyword keyword.Immediate) ∷ m.test ∷ s) (g.delay_onto d bs) ≡ m.run limit s bs
run_delay limit d s bs h k r = delay_part limit d.immediate d.test s bs ∙ run_test limit d.test s bs h k r

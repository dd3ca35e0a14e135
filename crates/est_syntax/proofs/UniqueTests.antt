-- Tokens are spelt from one test alone: a reading of them gives it back.
use Rattle.std.proofs.Common.{◌≡◌, ◌∙◌, ℕ, zero, suc, ◌+◌, ◌≤◌, List, [], ◌∷◌, Bool, true, false, if◌then◌else◌, Option}
use Rattle.std.proofs.Common.{None, refl, ap, arith}
use Rattle.est_text.specs.declared.token.Token.{Token}
use Rattle.est_text.specs.declared.token.Token.TheVariants.{Keyword, Identifier, Symbol}
use Rattle.est_text.specs.declared.keyword.Keyword.TheVariants as keyword
use Rattle.est_text.specs.declared.token.Symbol.TheVariants as symbol
use Rattle.est_syntax.specs.Tree.{LiteralTree, named, negated, enclosed, ConjunctionTree, LiteralsTree, no_literals}
use Rattle.est_syntax.specs.Tree.{ExpressionTree, ConjunctionsTree, no_conjunctions, TestTree, bare, bracketed}
use Rattle.est_syntax.specs.Tree.{DelayTree, LibraryTree, conjunction as conjunction_tree, literals as literals_tree}
use Rattle.est_syntax.specs.Tree.{expression as expression_tree, conjunctions as conjunctions_tree}
use Rattle.est_syntax.specs.Grammar as g
use Rattle.est_syntax.specs.Inner.Machine.{same, Skips}
use Rattle.est_syntax.proofs.TestRuns.{no_bracket, no_immediate, behind_conjunctions}

-- what a reading answers
abbrev pub Answer : Type 0
Answer = Option LibraryTree

-- ---- the reading, each part with what is done with it and the rest

abbrev pub expect : Token → List Token → (List Token → Answer) → Answer
expect t [] k = None
expect t (b ∷ bs) k = if same t b then k bs else None

abbrev pub maybe : Token → List Token → (Bool → List Token → Answer) → Answer
maybe t [] k = k false []
maybe t (b ∷ bs) k = if same t b then k true bs else k false (b ∷ bs)

abbrev mutual
  pub literal : ℕ → List Token → (LiteralTree → List Token → Answer) → Answer
  literal zero bs k = None
  literal (suc n) (Identifier m ∷ bs) k = k (named m) bs
  literal (suc n) (Keyword keyword.Not ∷ bs) k = literal n bs (λ l r. k (negated l) r)
  literal (suc n) (Symbol symbol.OpenParenthesis ∷ bs) k =
      expression n bs (λ e r. expect (Symbol symbol.CloseParenthesis) r (λ q. k (enclosed e) q))
  literal (suc n) _ k = None

  pub conjunction : ℕ → List Token → (ConjunctionTree → List Token → Answer) → Answer
  conjunction zero bs k = None
  conjunction (suc n) bs k = literal n bs (λ l r. literals n r (λ ls q. k (conjunction_tree l ls) q))

  pub literals : ℕ → List Token → (LiteralsTree → List Token → Answer) → Answer
  literals zero bs k = None
  literals (suc n) bs k = maybe (Keyword keyword.And) bs
      (λ x r. if x then literal n r (λ l q. literals n q (λ ls p. k (literals_tree l ls) p)) else k no_literals r)

  pub expression : ℕ → List Token → (ExpressionTree → List Token → Answer) → Answer
  expression zero bs k = None
  expression (suc n) bs k = conjunction n bs (λ c r. conjunctions n r (λ cs q. k (expression_tree c cs) q))

  pub conjunctions : ℕ → List Token → (ConjunctionsTree → List Token → Answer) → Answer
  conjunctions zero bs k = None
  conjunctions (suc n) bs k = maybe (Keyword keyword.Or) bs
      (λ x r. if x then conjunction n r (λ c q. conjunctions n q (λ cs p. k (conjunctions_tree c cs) p))
      else k no_conjunctions r)

abbrev pub test : ℕ → List Token → (TestTree → List Token → Answer) → Answer
test n bs k = maybe (Symbol symbol.OpenBracket) bs
    (λ x r. if x then expression n r (λ e q. expect (Symbol symbol.CloseBracket) q (λ p. k (bracketed e) p))
    else expression n r (λ e q. k (bare e) q))

abbrev pub delay : ℕ → List Token → (DelayTree → List Token → Answer) → Answer
delay n bs k = maybe (Keyword keyword.Immediate) bs (λ i r. test n r (λ t q. k (record { immediate = i; test = t }) q))

-- ---- how much a test takes

abbrev mutual
  pub literal_size : LiteralTree → ℕ
  literal_size (named n) = 1
  literal_size (negated l) = suc (literal_size l)
  literal_size (enclosed e) = suc (expression_size e)

  pub conjunction_size : ConjunctionTree → ℕ
  conjunction_size (conjunction_tree l ls) = suc (literal_size l + literals_size ls)

  pub literals_size : LiteralsTree → ℕ
  literals_size no_literals = 1
  literals_size (literals_tree l ls) = suc (literal_size l + literals_size ls)

  pub expression_size : ExpressionTree → ℕ
  expression_size (expression_tree c cs) = suc (conjunction_size c + conjunctions_size cs)

  pub conjunctions_size : ConjunctionsTree → ℕ
  conjunctions_size no_conjunctions = 1
  conjunctions_size (conjunctions_tree c cs) = suc (conjunction_size c + conjunctions_size cs)

abbrev pub test_size : TestTree → ℕ
test_size (bare e) = expression_size e
test_size (bracketed e) = expression_size e

pub no_room : (x : ℕ) → suc x ≤ 0 → ⊥
no_room x h = omega (arith, h)

pub if_true : (x : Bool) (a b : Answer) → x ≡ true → (if x then a else b) ≡ a
if_true x a b e = ap (λ (y : Bool). if y then a else b) e

pub if_false : (x : Bool) (a b : Answer) → x ≡ false → (if x then a else b) ≡ b
if_false x a b e = ap (λ (y : Bool). if y then a else b) e

-- ---- each reading gives back what was written

pub maybe_not : (t : Token) (bs : List Token) (k : Bool → List Token → Answer) → Skips t bs → maybe t bs k ≡ k false bs
maybe_not t [] k h = refl
maybe_not t (b ∷ bs) k h = if_false (same t b) (k true bs) (k false (b ∷ bs)) h

pub maybe_is : (t : Token) (c : Bool) (bs : List Token) (k : Bool → List Token → Answer) → same t t ≡ true → Skips t bs
    → maybe t (g.token_if c t bs) k ≡ k c bs
maybe_is t true bs k e h = if_true (same t t) (k true bs) (k false (t ∷ bs)) e
maybe_is t false bs k e h = maybe_not t bs k h

mutual
  literal_is : (l : LiteralTree) (n : ℕ) (bs : List Token) (k : LiteralTree → List Token → Answer)
      → literal_size l ≤ n → literal n (g.literal_onto l bs) k ≡ k l bs
  literal_is (named x) zero bs k h = absurd (no_room 0 h)
  literal_is (negated l) zero bs k h = absurd (no_room (literal_size l) h)
  literal_is (enclosed e) zero bs k h = absurd (no_room (expression_size e) h)
  literal_is (named x) (suc n) bs k h = refl
  literal_is (negated l) (suc n) bs k h = literal_is l n bs (λ l r. k (negated l) r) (omega (arith, h))
  literal_is (enclosed e) (suc n) bs k h = expression_is e n (Symbol symbol.CloseParenthesis ∷ bs)
      (λ e r. expect (Symbol symbol.CloseParenthesis) r (λ q. k (enclosed e) q)) (omega (arith, h)) refl refl

  conjunction_is : (c : ConjunctionTree) (n : ℕ) (bs : List Token) (k : ConjunctionTree → List Token → Answer)
      → conjunction_size c ≤ n → Skips (Keyword keyword.And) bs → conjunction n (g.conjunction_onto c bs) k ≡ k c bs
  conjunction_is (conjunction_tree l ls) zero bs k h a = absurd (no_room (literal_size l + literals_size ls) h)
  conjunction_is (conjunction_tree l ls) (suc n) bs k h a =
      literal_is l n (g.literals_onto ls bs) (λ l r. literals n r (λ ls q. k (conjunction_tree l ls) q))
      (omega (arith, h))
      ∙ literals_are ls n bs (λ ls q. k (conjunction_tree l ls) q) (omega (arith, h)) a

  literals_are : (ls : LiteralsTree) (n : ℕ) (bs : List Token) (k : LiteralsTree → List Token → Answer)
      → literals_size ls ≤ n → Skips (Keyword keyword.And) bs → literals n (g.literals_onto ls bs) k ≡ k ls bs
  literals_are no_literals zero bs k h a = absurd (no_room 0 h)
  literals_are (literals_tree l ls) zero bs k h a = absurd (no_room (literal_size l + literals_size ls) h)
  literals_are no_literals (suc n) bs k h a = maybe_not (Keyword keyword.And) bs _ a
  literals_are (literals_tree l ls) (suc n) bs k h a =
      literal_is l n (g.literals_onto ls bs) (λ l q. literals n q (λ ls p. k (literals_tree l ls) p)) (omega (arith, h))
      ∙ literals_are ls n bs (λ ls p. k (literals_tree l ls) p) (omega (arith, h)) a

  expression_is : (e : ExpressionTree) (n : ℕ) (bs : List Token) (k : ExpressionTree → List Token → Answer)
      → expression_size e ≤ n → Skips (Keyword keyword.And) bs → Skips (Keyword keyword.Or) bs
      → expression n (g.expression_onto e bs) k ≡ k e bs
  expression_is (expression_tree c cs) zero bs k h a o = absurd (no_room (conjunction_size c + conjunctions_size cs) h)
  expression_is (expression_tree c cs) (suc n) bs k h a o =
      conjunction_is c n (g.conjunctions_onto cs bs) (λ c r. conjunctions n r (λ cs q. k (expression_tree c cs) q))
      (omega (arith, h)) (behind_conjunctions cs bs a)
      ∙ conjunctions_are cs n bs (λ cs q. k (expression_tree c cs) q) (omega (arith, h)) a o

  conjunctions_are : (cs : ConjunctionsTree) (n : ℕ) (bs : List Token) (k : ConjunctionsTree → List Token → Answer)
      → conjunctions_size cs ≤ n → Skips (Keyword keyword.And) bs → Skips (Keyword keyword.Or) bs
      → conjunctions n (g.conjunctions_onto cs bs) k ≡ k cs bs
  conjunctions_are no_conjunctions zero bs k h a o = absurd (no_room 0 h)
  conjunctions_are (conjunctions_tree c cs) zero bs k h a o =
      absurd (no_room (conjunction_size c + conjunctions_size cs) h)
  conjunctions_are no_conjunctions (suc n) bs k h a o = maybe_not (Keyword keyword.Or) bs _ o
  conjunctions_are (conjunctions_tree c cs) (suc n) bs k h a o =
      conjunction_is c n (g.conjunctions_onto cs bs) (λ c q. conjunctions n q (λ cs p. k (conjunctions_tree c cs) p))
      (omega (arith, h)) (behind_conjunctions cs bs a)
      ∙ conjunctions_are cs n bs (λ cs p. k (conjunctions_tree c cs) p) (omega (arith, h)) a o

pub test_is : (t : TestTree) (n : ℕ) (bs : List Token) (k : TestTree → List Token → Answer) → test_size t ≤ n
    → Skips (Keyword keyword.And) bs → Skips (Keyword keyword.Or) bs → test n (g.test_onto t bs) k ≡ k t bs
test_is (bare e) n bs k h a o =
    maybe_not (Symbol symbol.OpenBracket) (g.expression_onto e bs) _ (no_bracket e bs)
    ∙ expression_is e n bs (λ e q. k (bare e) q) h a o
test_is (bracketed e) n bs k h a o = expression_is e n (Symbol symbol.CloseBracket ∷ bs)
    (λ e q. expect (Symbol symbol.CloseBracket) q (λ p. k (bracketed e) p)) h refl refl

delay_parts : (i : Bool) (t : TestTree) (n : ℕ) (bs : List Token) (k : DelayTree → List Token → Answer)
    → delay n (g.token_if i (Keyword keyword.Immediate) (g.test_onto t bs)) k
    ≡ test n (g.test_onto t bs) (λ u q. k (record { immediate = i; test = u }) q)
delay_parts true t n bs k = refl
delay_parts false t n bs k = maybe_not (Keyword keyword.Immediate) (g.test_onto t bs) _ (no_immediate t bs)

pub delay_is : (d : DelayTree) (n : ℕ) (bs : List Token) (k : DelayTree → List Token → Answer) → test_size d.test ≤ n
    → Skips (Keyword keyword.And) bs → Skips (Keyword keyword.Or) bs → delay n (g.delay_onto d bs) k ≡ k d bs
delay_is d n bs k h a o =
    delay_parts d.immediate d.test n bs k
    ∙ test_is d.test n bs (λ u q. k (record { immediate = d.immediate; test = u }) q) h a o

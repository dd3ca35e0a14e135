-- What a test asks, by what its names mean.
use Rattle.std.proofs.Common.{◌≡◌, ◌+◌, ◌<◌, ℕ, suc, List, [], ◌∷◌, ◌++◌, length, get_or, map, take, refl, ap, sym, ◌∙◌}
use Rattle.std.proofs.Common.{arith, rules}
use Rattle.std.proofs.Math.Seq.{take-suc}
use Rattle.std.proofs.lemmas.List.{map-append}
use Rattle.est_kernel.specs.Scope.{EachSignal, EachSignalOfAll}
use Rattle.est_kernel.specs.Term.{Name, Query, joined, more}
use Rattle.est_kernel.specs.View.{queries_of}
use Rattle.est_kernel.specs.declared.statement.Connective.TheVariants.{And, Or}
use Rattle.est_syntax.specs.Tree.{LiteralTree, named, negated, enclosed, ConjunctionTree, conjunction, LiteralsTree}
use Rattle.est_syntax.specs.Tree.{no_literals, literals, ExpressionTree, expression, ConjunctionsTree, no_conjunctions}
use Rattle.est_syntax.specs.Tree.{conjunctions, TestTree, bare, bracketed}
use Rattle.est_syntax.specs.Views.{literal_view, conjunction_view, expression_view, literals_of, conjunctions_of}
use Rattle.est_syntax.specs.declared.tree.Literal.{Literal}
use Rattle.est_syntax.specs.declared.tree.Conjunction.{Conjunction}
use Rattle.est_syntax.specs.declared.tree.Expression.{Expression}
use Rattle.est_syntax.specs.declared.tree.Literal.TheViews.{out-Conjunction, out-Expression}
use Rattle.est_syntax.specs.declared.tree.Literal.TheFolds.{the_lemmas}
use Rattle.est_link.specs.Asking.{literal_asked, conjunction_asked, and_literals, all_literals, expression_asked}
use Rattle.est_link.specs.Asking.{or_conjunctions, all_conjunctions, test_asked}

mutual
  -- a property that each name's signal has is one of each signal of the test
  literal_each : (P : Name → Type 0) (f : List ℕ → Query) → ((s : List ℕ) → EachSignal P (f s)) → (l : LiteralTree)
      → EachSignal P (literal_asked f l)
  literal_each P f h (named n) = h n
  literal_each P f h (negated l) = literal_each P f h l
  literal_each P f h (enclosed e) = expression_each P f h e

  conjunction_each : (P : Name → Type 0) (f : List ℕ → Query) → ((s : List ℕ) → EachSignal P (f s))
      → (c : ConjunctionTree) → EachSignal P (conjunction_asked f c)
  conjunction_each P f h (conjunction l ls) = and_each P f h (literal_asked f l) (literal_each P f h l) ls

  and_each : (P : Name → Type 0) (f : List ℕ → Query) → ((s : List ℕ) → EachSignal P (f s)) → (q : Query)
      → EachSignal P q → (ls : LiteralsTree) → EachSignal P (and_literals f q ls)
  and_each P f h q k no_literals = k
  and_each P f h q k (literals l ls) = (k, all_each P f h (literal_asked f l) (literal_each P f h l) ls)

  all_each : (P : Name → Type 0) (f : List ℕ → Query) → ((s : List ℕ) → EachSignal P (f s)) → (q : Query)
      → EachSignal P q → (ls : LiteralsTree) → EachSignalOfAll P (all_literals f q ls)
  all_each P f h q k no_literals = k
  all_each P f h q k (literals l ls) = (k, all_each P f h (literal_asked f l) (literal_each P f h l) ls)

  expression_each : (P : Name → Type 0) (f : List ℕ → Query) → ((s : List ℕ) → EachSignal P (f s))
      → (e : ExpressionTree) → EachSignal P (expression_asked f e)
  expression_each P f h (expression c cs) = or_each P f h (conjunction_asked f c) (conjunction_each P f h c) cs

  or_each : (P : Name → Type 0) (f : List ℕ → Query) → ((s : List ℕ) → EachSignal P (f s)) → (q : Query)
      → EachSignal P q → (cs : ConjunctionsTree) → EachSignal P (or_conjunctions f q cs)
  or_each P f h q k no_conjunctions = k
  or_each P f h q k (conjunctions c cs) = (k, every_each P f h (conjunction_asked f c) (conjunction_each P f h c) cs)

  every_each : (P : Name → Type 0) (f : List ℕ → Query) → ((s : List ℕ) → EachSignal P (f s)) → (q : Query)
      → EachSignal P q → (cs : ConjunctionsTree) → EachSignalOfAll P (all_conjunctions f q cs)
  every_each P f h q k no_conjunctions = k
  every_each P f h q k (conjunctions c cs) = (k, every_each P f h (conjunction_asked f c) (conjunction_each P f h c) cs)

pub test_each : (P : Name → Type 0) (f : List ℕ → Query) → ((s : List ℕ) → EachSignal P (f s)) → (t : TestTree)
    → EachSignal P (test_asked f t)
test_each P f h (bare e) = expression_each P f h e
test_each P f h (bracketed e) = expression_each P f h e

-- ---- along the lists of the code

abbrev pub literal_seen : (List ℕ → Query) → Literal → Query
literal_seen f l = literal_asked f (literal_view l)

abbrev pub conjunction_seen : (List ℕ → Query) → Conjunction → Query
conjunction_seen f c = conjunction_asked f (conjunction_view c)

literals_seen : (f : List ℕ → Query) (q : Query) (ls : List Literal)
    → all_literals f q (literals_of (map literal_view ls)) ≡ queries_of q (map (literal_seen f) ls)
literals_seen f q [] = refl
literals_seen f q (l ∷ ls) = ap (more q) (literals_seen f (literal_seen f l) ls)

conjunctions_seen : (f : List ℕ → Query) (q : Query) (cs : List Conjunction)
    → all_conjunctions f q (conjunctions_of (map conjunction_view cs)) ≡ queries_of q (map (conjunction_seen f) cs)
conjunctions_seen f q [] = refl
conjunctions_seen f q (c ∷ cs) = ap (more q) (conjunctions_seen f (conjunction_seen f c) cs)

conjunction_is : (c : Conjunction) → conjunction_view c
    ≡ conjunction (literal_view (out-Conjunction c).first.value) (literals_of (map literal_view
    (out-Conjunction c).later.items))
conjunction_is c = search (rules, the_lemmas)

expression_is : (e : Expression) → expression_view e
    ≡ expression (conjunction_view (out-Expression e).first.value) (conjunctions_of (map conjunction_view
    (out-Expression e).later.items))
expression_is e = search (rules, the_lemmas)

-- two literals or more
pub more_literals : (f : List ℕ → Query) (c : Conjunction) (l : Literal) (ls : List Literal)
    → (out-Conjunction c).later.items ≡ l ∷ ls → conjunction_seen f c
    ≡ joined And (literal_seen f (out-Conjunction c).first.value) (queries_of (literal_seen f l) (map
    (literal_seen f) ls))
more_literals f c l ls e =
    ap (conjunction_asked f) (conjunction_is c)
    ∙ ap (λ (ls : List Literal). and_literals f (literal_seen f (out-Conjunction c).first.value) (literals_of
    (map literal_view ls))) e
    ∙ ap (joined And (literal_seen f (out-Conjunction c).first.value)) (literals_seen f (literal_seen f l) ls)

-- two conjunctions or more
pub more_conjunctions : (f : List ℕ → Query) (e : Expression) (c : Conjunction) (cs : List Conjunction)
    → (out-Expression e).later.items ≡ c ∷ cs → expression_asked f (expression_view e)
    ≡ joined Or (conjunction_seen f (out-Expression e).first.value) (queries_of (conjunction_seen f c) (map
    (conjunction_seen f) cs))
more_conjunctions f e c cs h =
    ap (expression_asked f) (expression_is e)
    ∙ ap (λ (cs : List Conjunction). or_conjunctions f (conjunction_seen f (out-Expression e).first.value)
    (conjunctions_of (map conjunction_view cs))) h
    ∙ ap (joined Or (conjunction_seen f (out-Expression e).first.value)) (conjunctions_seen f (conjunction_seen f c) cs)

one_more : (i : ℕ) → i + 1 ≡ suc i
one_more i = omega arith

-- one more of a list is seen
pub more_seen : {Y X Z : Type 0} (v : Y → Z) (f : X → Z) (ys : List Y) (y : Y) (xs : List X) (i : ℕ) (d : X)
    → i < length xs
    → map v ys ≡ map f (take i xs) → v y ≡ f (get_or xs i d) → map v (ys ++ y ∷ []) ≡ map f (take (i + 1) xs)
more_seen {Y} {X} {Z} v f ys y xs i d lt h e =
    map-append v ys (y ∷ [])
    ∙ ap (λ (zs : List Z). zs ++ v y ∷ []) h
    ∙ ap (λ z. map f (take i xs) ++ z ∷ []) e
    ∙ sym (map-append f (take i xs) (get_or xs i d ∷ []))
    ∙ sym (ap (λ (k : ℕ). map f (take k xs)) (one_more i) ∙ ap (map f) (take-suc xs i d lt))

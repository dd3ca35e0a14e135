use Rattle.std.proofs.Common.{◌≡◌, ◌∙◌, ◌∷◌, ◌-◌, [], List, suc, ap, sym, subst, map, refl, rules, arith}
use Rattle.std.specs.Prelude.{None}
use Rattle.std.proofs.lemmas.Result.{err_from_is_err_and}
use Rattle.std.proofs.lemmas.List.{map-append}
use Rattle.est_text.specs.declared.token.Token.TheVariants.{Symbol}
use Rattle.est_text.specs.declared.token.Symbol.TheVariants as symbol
use Rattle.est_syntax.specs.declared.tree.Literal.{Literal as LiteralValue}
use Rattle.est_syntax.specs.declared.tree.Literal.TheViews as views
use Rattle.est_syntax.specs.declared.tree.Literal.TheBlock as block
use Rattle.est_syntax.specs.declared.tree.Literal.TheFolds.{the_lemmas}
use Rattle.est_syntax.specs.declared.tree.Conjunction.{Conjunction as ConjunctionValue}
use Rattle.est_syntax.specs.Tree.{LiteralTree, negated, enclosed, ConjunctionTree}
use Rattle.est_syntax.specs.Grammar.{literal_onto, literal_depth}
use Rattle.est_syntax.specs.Views.{literal_view, conjunction_view, expression_view, literals_of, conjunctions_of}
use Rattle.est_syntax.specs.Inner.Machine.{run, Skips, name, literal, conjunction, conjunction_tail, expression}
use Rattle.est_syntax.specs.Inner.Machine.{expression_tail}
use Rattle.est_syntax.specs.Inner.Parsing.{IsPart}
use Rattle.est_syntax.specs.declared.parse.TheConstants.{MOST_OPEN_UNITS}
use Rattle.est_syntax.proofs.Opening.{in_leaf, in_in}
use Rattle.est_syntax.proofs.TestRuns.{conjunction_is, expression_is}
use Rattle.est_syntax.proofs.TestParts as part
use Rattle.est_syntax.proofs.expressions.+parse.Goals as goal

-- ---- a literal

pub literal-returns-then-take_keyword-clause-ok : goal.literal-returns-then-take_keyword-clause-ok
literal-returns-then-take_keyword-clause-ok t c =
    let inner = c.in_ok-inner-2.inner in
    let less : c.args.room ≡ suc (c.args.room - 1) = omega (arith, c.if-room-eq0.false) in
    let is : literal_view (views.Not inner) ≡ negated (literal_view inner.value) = search (rules, the_lemmas) in
    let all = is ∙ ap (λ (l : LiteralValue). negated (literal_view l)) c.in_ok-inner-2.ensures.ok in
    subst (λ (x : LiteralTree). IsPart c.args.room None (literal ∷ []) (literal_onto x c.literal.new.cursor)
    (literal_depth x) c.args.cursor.now c.literal.new.cursor) (sym all)
    (part.not_part c.args.room (c.args.room - 1) (literal_view c.in_ok-inner.inner) c.args.cursor.now
    c.take_keyword.new.self c.literal.new.cursor less (c.if-take_keyword.ensures.first refl) c.in_ok-inner.ensures.ok)

pub literal-returns-then-take_symbol-clause-ok : goal.literal-returns-then-take_symbol-clause-ok
literal-returns-then-take_symbol-clause-ok t c =
    let less : c.args.room ≡ suc (c.args.room - 1) = omega (arith, c.if-room-eq0-2.false) in
    let is : literal_view (block.Group c.in_ok-inner-3.inner) ≡ enclosed (expression_view c.in_ok-inner-3.inner) =
    search (rules, the_lemmas) in
    let start = sym (c.if-take_keyword.ensures.same refl) ∙ c.if-take_symbol.ensures.first refl in
    subst (λ (x : LiteralTree). IsPart c.args.room None (literal ∷ []) (literal_onto x c.expect_symbol.new.self)
    (literal_depth x) c.args.cursor.now c.expect_symbol.new.self) (sym is)
    (part.enclosed_part c.args.room (c.args.room - 1) (expression_view c.in_ok-inner-3.inner) c.args.cursor.now
    c.take_symbol.new.self c.expression.new.cursor c.expect_symbol.new.self less start c.in_ok-inner-3.ensures.ok
    c.in_ok-expect_symbol.ensures.ok)

pub literal-returns-in_err-name-clause-err : goal.literal-returns-in_err-name-clause-err
literal-returns-in_err-name-clause-err t c =
    let p = err_from_is_err_and c.from_residual-in_err-name.result c.from_residual-in_err-name.ensures.1 in
    let old = c.args.cursor.now in
    let first : c.take_keyword.new.self ≡ old = c.if-take_keyword.ensures.same refl in
    let second : c.take_symbol.new.self ≡ c.take_keyword.new.self = c.if-take_symbol.ensures.same refl in
    let skips = subst (Skips (Symbol symbol.OpenParenthesis)) first (c.if-take_symbol.ensures.other refl) in
    rw (p.1, p.2) (in_leaf c.args.room None (literal ∷ []) (name ∷ []) (λ s. s) old c.take_symbol.new.self
    c.in_err-name.field-0.0
    (λ s r. part.literal_is_name s old (c.if-take_keyword.ensures.other refl) skips
    ∙ ap (run MOST_OPEN_UNITS (name ∷ s)) (sym (second ∙ first))) c.in_err-name.ensures.err)

-- ---- literals with `and` between them

pub later_literals-literals-preserved : goal.later_literals-literals-preserved
later_literals-literals-preserved t c =
    let items = c.literals.literals.items in
    let next = c.in_ok-next.next in
    let all = ap (λ (is : List LiteralValue). map literal_view is) c.in_ok-push.ensures.items
    ∙ map-append literal_view items (next ∷ []) in
    subst (λ (ls : List LiteralTree). part.LiteralsSoFar c.args.room
    (literals_of ls) c.args.cursor.now c.literal.new.cursor) (sym all)
    (part.one_more_literal c.args.room (map literal_view items) (literal_view next) c.args.cursor.now c.literals.cursor
    c.take_keyword.new.self c.literal.new.cursor c.literals.invariant (c.literals-test.ensures.first refl)
    c.in_ok-next.ensures.ok)

pub conjunction-returns-in_err-first-clause-err : goal.conjunction-returns-in_err-first-clause-err
conjunction-returns-in_err-first-clause-err t c =
    let p = err_from_is_err_and c.from_residual.result c.from_residual.ensures.1 in
    let bs = c.args.cursor.now in
    rw (p.1, p.2) (in_in c.args.room c.args.room None None (conjunction ∷ []) (literal ∷ [])
    (λ s. conjunction_tail ∷ s) bs bs c.in_err-first.field-0.0
    (λ s r. part.round_same c.args.room conjunction_tail s r refl) (λ s r. conjunction_is MOST_OPEN_UNITS s bs)
    c.in_err-first.ensures.err)

-- ---- conjunctions with `or` between them

pub later_conjunctions-conjunctions-preserved : goal.later_conjunctions-conjunctions-preserved
later_conjunctions-conjunctions-preserved t c =
    let items = c.conjunctions.conjunctions.items in
    let next = c.in_ok-next.next in
    let all = ap (λ (is : List ConjunctionValue). map conjunction_view is) c.in_ok-push.ensures.items
    ∙ map-append conjunction_view items (next ∷ []) in
    subst (λ (cs : List ConjunctionTree). part.ConjunctionsSoFar c.args.room
    (conjunctions_of cs) c.args.cursor.now c.conjunction.new.cursor) (sym all)
    (part.one_more_conjunction c.args.room (map conjunction_view items) (conjunction_view next) c.args.cursor.now
    c.conjunctions.cursor c.take_keyword.new.self c.conjunction.new.cursor c.conjunctions.invariant
    (c.conjunctions-test.ensures.first refl) c.in_ok-next.ensures.ok)

pub expression-returns-in_err-first-clause-err : goal.expression-returns-in_err-first-clause-err
expression-returns-in_err-first-clause-err t c =
    let p = err_from_is_err_and c.from_residual.result c.from_residual.ensures.1 in
    let bs = c.args.cursor.now in
    rw (p.1, p.2) (in_in c.args.room c.args.room None None (expression ∷ []) (conjunction ∷ [])
    (λ s. expression_tail ∷ s) bs bs c.in_err-first.field-0.0
    (λ s r. part.round_same c.args.room expression_tail s r refl) (λ s r. expression_is MOST_OPEN_UNITS s bs)
    c.in_err-first.ensures.err)

use Rattle.std.proofs.Common.{◌≡◌, ◌∙◌, ◌∷◌, List, length, map, ap, sym, refl, arith}
use Rattle.est_text.specs.declared.token.Token.{Token}
use Rattle.est_text.specs.declared.token.Token.TheVariants.{Keyword, Symbol}
use Rattle.est_text.specs.declared.keyword.Keyword.TheVariants as keyword
use Rattle.est_text.specs.declared.token.Symbol.TheVariants as symbol
use Rattle.est_syntax.specs.Grammar.{relation_onto, later_relations_onto}
use Rattle.est_syntax.specs.Views.{relation_view}
use Rattle.est_syntax.specs.Inner.Machine.{run, one, declarations, later_relations}
use Rattle.est_syntax.specs.declared.parse.TheConstants.{MOST_OPEN_UNITS}
use Rattle.est_syntax.proofs.declarations.declaration.Goals as goal

pub returns-then-take_keyword-4-clause-ok : goal.returns-then-take_keyword-4-clause-ok
returns-then-take_keyword-4-clause-ok c =
    let first : c.take_keyword.new.self ≡ c.args.cursor.now = c.if-take_keyword.ensures.same refl in
    let second : c.take_keyword-2.new.self ≡ c.take_keyword.new.self = c.if-take_keyword-2.ensures.same refl in
    let third : c.take_keyword-3.new.self ≡ c.take_keyword-2.new.self = c.if-take_keyword-3.ensures.same refl in
    let start : c.args.cursor.now ≡ Keyword keyword.Relation ∷ c.take_keyword-4.new.self =
    sym (third ∙ second ∙ first) ∙ c.if-take_keyword-4.ensures.first refl in
    let end = c.in_ok-expect_symbol-4.ensures.ok in (
      start ∙ ap (λ (l : List Token). Keyword keyword.Relation ∷ l)
          (c.in_ok-first.ensures.spelt ∙ ap (relation_onto (relation_view c.in_ok-first.first))
          (c.in_ok-later.ensures.spelt ∙ ap (later_relations_onto (map relation_view c.in_ok-later.later.items)) end)),
      omega (
        arith,
        ap (length {A = Token}) start,
        c.in_ok-first.ensures.reads.shorter,
        c.in_ok-later.ensures.reads.shorter,
        ap (length {A = Token}) end,
      ),
      λ s. ap (run MOST_OPEN_UNITS (declarations ∷ s)) start
          ∙ c.in_ok-first.ensures.reads.passes (later_relations ∷ one (Symbol symbol.Semicolon) ∷ declarations ∷ s)
          ∙ c.in_ok-later.ensures.reads.passes (one (Symbol symbol.Semicolon) ∷ declarations ∷ s)
          ∙ ap (run MOST_OPEN_UNITS (one (Symbol symbol.Semicolon) ∷ declarations ∷ s)) end,
    )

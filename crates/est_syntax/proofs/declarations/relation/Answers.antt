use Rattle.std.proofs.Common.{◌∙◌, ◌∷◌, [], ap, sym, refl}
use Rattle.std.proofs.lemmas.Result.{err_from_is_err_and}
use Rattle.est_text.specs.declared.token.Token.TheVariants.{Symbol}
use Rattle.est_text.specs.declared.token.Symbol.TheVariants.{Hash}
use Rattle.est_syntax.specs.Inner.Machine.{run, one, name, relation_tail, later_members}
use Rattle.est_syntax.specs.Inner.Machine.{relation as relation_want}
use Rattle.est_syntax.specs.declared.parse.TheConstants.{MOST_OPEN_UNITS}
use Rattle.est_syntax.proofs.Reading.{fails_from, relation_is, relation_tail_is}
use Rattle.est_syntax.proofs.declarations.relation.Goals as goal

pub returns-in_err-first-clause-err : goal.returns-in_err-first-clause-err
returns-in_err-first-clause-err c =
    let p = err_from_is_err_and c.from_residual.result c.from_residual.ensures.1 in
    rw (p.1, p.2) (fails_from (relation_want ∷ []) (name ∷ [])
    (λ s. relation_tail ∷ s) c.args.cursor.now c.args.cursor.now c.in_err-first.field-0.0
    (λ s. relation_is s c.args.cursor.now) c.in_err-first.ensures.err)

pub returns-in_err-expect_symbol-clause-err : goal.returns-in_err-expect_symbol-clause-err
returns-in_err-expect_symbol-clause-err c =
    let p = err_from_is_err_and c.from_residual-in_err-expect_symbol.result
    c.from_residual-in_err-expect_symbol.ensures.1 in
    let mid = c.expect_name.new.self in
    rw (p.1, p.2) (fails_from (relation_want ∷ []) (one (Symbol Hash) ∷ [])
    (λ s. name ∷ later_members ∷ s) c.args.cursor.now c.take_symbol.new.self c.in_err-expect_symbol.field-0.0
    (λ s. ap (run MOST_OPEN_UNITS (relation_want ∷ s)) c.in_ok-first.ensures.ok
    ∙ relation_tail_is s mid (c.if-take_symbol.ensures.other refl)
    ∙ ap (run MOST_OPEN_UNITS (one (Symbol Hash) ∷ name ∷ later_members ∷ s))
    (sym (c.if-take_symbol.ensures.same refl)))
    c.in_err-expect_symbol.ensures.err)

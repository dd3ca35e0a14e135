use Rattle.std.proofs.Common.{◌≡◌, ◌∙◌, ◌∷◌, [], ap, sym, List, map, length, refl, arith, length-append}
use Rattle.std.proofs.lemmas.List.{length-map}
use Rattle.std.proofs.lemmas.Result.{err_from_is_err_and}
use Rattle.std.proofs.lemmas.List.{map-append}
use Rattle.est_text.specs.declared.token.Token.{Token}
use Rattle.est_text.specs.declared.token.Token.TheVariants.{Symbol}
use Rattle.est_text.specs.declared.token.Symbol.TheVariants.{Comma, CloseBracket}
use Rattle.est_syntax.specs.declared.tree.Renaming.{Renaming}
use Rattle.est_syntax.specs.Inner.Machine.{run, later_renamings, one}
use Rattle.est_syntax.specs.Inner.Machine.{renamings as renamings_want}
use Rattle.est_syntax.specs.Views.{renaming_view}
use Rattle.est_syntax.specs.declared.parse.TheConstants.{MOST_OPEN_UNITS}
use Rattle.est_syntax.proofs.Runs.{later_renamings_over}
use Rattle.est_syntax.proofs.Reading.{one_more_renaming, fails_from}
use Rattle.est_syntax.proofs.names.renamings.Goals as goal

pub renamings-preserved : goal.renamings-preserved
renamings-preserved c =
    let items = c.renamings.renamings.items in
    let next = c.in_ok-next.next in
    let comma : c.renamings.cursor ≡ Symbol Comma ∷ c.take_symbol-in-renamings.new.self =
    c.renamings-test.ensures.first refl in
    record {
      spelt = one_more_renaming c.args.cursor.now c.take_symbol-in-renamings.new.self c.renamings.cursor
          c.renaming-in-renamings.new.cursor (map renaming_view items)
          (map renaming_view c.push-in-renamings.new.self.items) (renaming_view next) c.renamings.invariant.spelt
          (omega (arith, c.renamings.invariant.some, length-map items renaming_view)) comma c.in_ok-next.ensures.spelt
          (ap (λ (k : List Renaming). map renaming_view k) c.in_ok-push-2.ensures.items
          ∙ map-append renaming_view items (next ∷ []));
      some = omega (arith, ap (length {A = Renaming}) c.in_ok-push-2.ensures.items, length-append items (next ∷ []));
      passes = λ s. c.renamings.invariant.passes s
          ∙ ap (run MOST_OPEN_UNITS (later_renamings ∷ one (Symbol CloseBracket) ∷ s)) comma
          ∙ c.in_ok-next.ensures.reads.passes (later_renamings ∷ one (Symbol CloseBracket) ∷ s);
      shorter =
          omega (
            arith,
            c.renamings.invariant.shorter,
            ap (length {A = Token}) comma,
            c.in_ok-next.ensures.reads.shorter,
          );
    }

pub returns-in_err-expect_symbol-clause-err : goal.returns-in_err-expect_symbol-clause-err
returns-in_err-expect_symbol-clause-err c =
    let p = err_from_is_err_and c.from_residual-in_err-expect_symbol.result
    c.from_residual-in_err-expect_symbol.ensures.1 in
    let same : c.take_symbol-in-renamings.new.self ≡ c.renamings.cursor = c.renamings-test.ensures.same refl in
    rw (p.1, p.2) (fails_from (renamings_want ∷ []) (one (Symbol CloseBracket) ∷ [])
    (λ s. s) c.args.cursor.now c.take_symbol-in-renamings.new.self c.in_err-expect_symbol.field-0.0
    (λ s. c.renamings.invariant.passes s
    ∙ later_renamings_over MOST_OPEN_UNITS (one (Symbol CloseBracket) ∷ s) c.renamings.cursor
    (c.renamings-test.ensures.other refl)
    ∙ ap (run MOST_OPEN_UNITS (one (Symbol CloseBracket) ∷ s)) (sym same)) c.in_err-expect_symbol.ensures.err)

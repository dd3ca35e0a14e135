use Rattle.std.proofs.Common.{◌≡◌, ◌∙◌, ◌∷◌, ap, List, length, refl, arith}
use Rattle.est_text.specs.declared.token.Token.{Token}
use Rattle.est_text.specs.declared.token.Token.TheVariants.{Symbol}
use Rattle.est_text.specs.declared.token.Symbol.TheVariants.{Comma}
use Rattle.est_syntax.specs.Inner.Machine.{run, later_names}
use Rattle.est_syntax.specs.declared.parse.TheConstants.{MOST_OPEN_UNITS}
use Rattle.est_syntax.proofs.Reading.{one_more_name}
use Rattle.est_syntax.proofs.names.later_names.Goals as goal

pub names-preserved : goal.names-preserved
names-preserved c =
    let comma : c.names.cursor ≡ Symbol Comma ∷ c.take_symbol.new.self = c.names-test.ensures.first refl in
    let all = comma ∙ ap (λ (l : List Token). Symbol Comma ∷ l) c.in_ok-name.ensures.ok in
    record {
      spelt = one_more_name c.args.cursor.now c.take_symbol.new.self c.names.cursor c.expect_name.new.self
          c.names.names.items c.push.new.self.items c.in_ok-name.name c.names.invariant.spelt comma
          c.in_ok-name.ensures.ok c.in_ok-push.ensures.items;
      passes = λ s. c.names.invariant.passes s ∙ ap (run MOST_OPEN_UNITS (later_names ∷ s)) all;
      shorter = omega (arith, c.names.invariant.shorter, ap (length {A = Token}) all);
    }

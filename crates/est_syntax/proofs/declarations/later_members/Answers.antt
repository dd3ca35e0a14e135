use Rattle.std.proofs.Common.{◌≡◌, ◌∙◌, ◌∷◌, ap, List, length, refl, arith}
use Rattle.est_text.specs.declared.token.Token.{Token}
use Rattle.est_text.specs.declared.token.Token.TheVariants.{Symbol}
use Rattle.est_text.specs.declared.token.Symbol.TheVariants.{Hash}
use Rattle.est_syntax.specs.Inner.Machine.{run, later_members}
use Rattle.est_syntax.specs.declared.parse.TheConstants.{MOST_OPEN_UNITS}
use Rattle.est_syntax.proofs.Reading.{one_more_member}
use Rattle.est_syntax.proofs.declarations.later_members.Goals as goal

pub members-preserved : goal.members-preserved
members-preserved c =
    let hash : c.members.cursor ≡ Symbol Hash ∷ c.take_symbol.new.self = c.members-test.ensures.first refl in
    let all = hash ∙ ap (λ (l : List Token). Symbol Hash ∷ l) c.in_ok-name.ensures.ok in
    record {
      spelt = one_more_member c.args.cursor.now c.take_symbol.new.self c.members.cursor c.expect_name.new.self
          c.members.members.items c.push.new.self.items c.in_ok-name.name c.members.invariant.spelt hash
          c.in_ok-name.ensures.ok c.in_ok-push.ensures.items;
      passes = λ s. c.members.invariant.passes s ∙ ap (run MOST_OPEN_UNITS (later_members ∷ s)) all;
      shorter = omega (arith, c.members.invariant.shorter, ap (length {A = Token}) all);
    }

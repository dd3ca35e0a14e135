use Rattle.std.proofs.Common.{◌≡◌, ◌∙◌, ◌∷◌, [], ap, List, map, length, refl, arith}
use Rattle.std.proofs.lemmas.List.{map-append}
use Rattle.est_text.specs.declared.token.Token.{Token}
use Rattle.est_text.specs.declared.token.Token.TheVariants.{Symbol}
use Rattle.est_text.specs.declared.token.Symbol.TheVariants.{Comma}
use Rattle.est_syntax.specs.declared.tree.Relation.{Relation}
use Rattle.est_syntax.specs.Views.{relation_view}
use Rattle.est_syntax.specs.Inner.Machine.{run, later_relations}
use Rattle.est_syntax.specs.declared.parse.TheConstants.{MOST_OPEN_UNITS}
use Rattle.est_syntax.proofs.Reading.{one_more_relation}
use Rattle.est_syntax.proofs.declarations.later_relations.Goals as goal

pub relations-preserved : goal.relations-preserved
relations-preserved c =
    let items = c.relations.relations.items in
    let next = c.in_ok-next.next in
    let comma : c.relations.cursor ≡ Symbol Comma ∷ c.take_symbol.new.self = c.relations-test.ensures.first refl in
    record {
      spelt = one_more_relation c.args.cursor.now c.take_symbol.new.self c.relations.cursor c.relation.new.cursor
          (map relation_view items) (map relation_view c.push.new.self.items)
          (relation_view next) c.relations.invariant.spelt comma c.in_ok-next.ensures.spelt
          (ap (λ (k : List Relation). map relation_view k) c.in_ok-push.ensures.items
          ∙ map-append relation_view items (next ∷ []));
      passes = λ s. c.relations.invariant.passes s ∙ ap (run MOST_OPEN_UNITS (later_relations ∷ s)) comma
          ∙ c.in_ok-next.ensures.reads.passes (later_relations ∷ s);
      shorter =
          omega (
            arith,
            c.relations.invariant.shorter,
            ap (length {A = Token}) comma,
            c.in_ok-next.ensures.reads.shorter,
          );
    }

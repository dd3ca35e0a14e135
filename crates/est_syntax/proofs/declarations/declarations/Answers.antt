use Rattle.std.proofs.Common.{◌∙◌, ◌∷◌, [], ap, subst, List, map, arith}
use Rattle.std.specs.Prelude.{Option}
use Rattle.std.proofs.lemmas.List.{map-append}
use Rattle.est_syntax.specs.declared.tree.Declaration.{Declaration}
use Rattle.est_syntax.specs.Views.{declaration_view}
use Rattle.est_syntax.specs.Inner.Parsing.{IsDeclared}
use Rattle.est_syntax.proofs.Reading.{one_more_declaration}
use Rattle.est_syntax.proofs.declarations.declarations.Goals as goal

pub declarations-preserved : goal.declarations-preserved
declarations-preserved c =
    let items = c.declarations.declarations.items in
    let next = c.in-Some.next in
    let d = subst (λ (o : Option Declaration). IsDeclared o c.declarations.cursor c.declaration.new.cursor)
    c.in-Some.is c.in_ok-next.ensures.ok in
    record {
      spelt = one_more_declaration c.args.cursor.now c.declarations.cursor c.declaration.new.cursor
          (map declaration_view items) (map declaration_view c.push.new.self.items)
          (declaration_view next) c.declarations.invariant.spelt d.0
          (ap (λ (k : List Declaration). map declaration_view k) c.in_ok-push.ensures.items
          ∙ map-append declaration_view items (next ∷ []));
      passes = λ s. c.declarations.invariant.passes s ∙ d.2 s;
      shorter = omega (arith, c.declarations.invariant.shorter, d.1);
    }

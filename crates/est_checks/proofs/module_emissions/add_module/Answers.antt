use Rattle.std.proofs.Common.{◌∙◌, ℕ, List, [], map, filter, cond, ap, sym, subst}
use Rattle.std.proofs.lemmas.Result.{on_ok_weaker}
use Rattle.std.specs.List.{list_any}
use Rattle.std.specs.Str.{bytes_eq}
use Rattle.est_modules.specs.Modules.{Program, program_of}
use Rattle.est_modules.specs.NamedNumbers.{Tells}
use Rattle.est_modules.specs.NameSets.{has}
use Rattle.est_modules.specs.NameTables.{is_numbered}
use Rattle.est_modules.specs.Occurrences.{first_of, occurrences}
use Rattle.est_modules.specs.Visible.{stands_in}
use Rattle.est_modules.specs.declared.interface.Declared.{Declared}
use Rattle.est_modules.proofs.Standing.{first_none}
use Rattle.est_modules.proofs.Testing.{some_same}
use Rattle.est_checks.specs.Emissions.{emitted_of, emits_here}
use Rattle.est_checks.specs.UnknownNames.{unknown_at}
use Rattle.est_checks.proofs.Emitting.{emitted_more}
use Rattle.est_checks.proofs.Seeing.{module_at, numbered_here}
use Rattle.est_checks.proofs.module_emissions.add_module.Goals as goal

pub emissions_of-requires-clause-numbered : goal.emissions_of-requires-clause-numbered
emissions_of-requires-clause-numbered c s =
    let ps = map program_of c.args.modules.now in
    let home = c.index-as_slice-place.result in
    numbered_here ps c.args.place (program_of home) s (is_numbered c.args.names.now s)
    (module_at c.args.modules.now c.as_slice.result.now c.args.place home c.as_slice.ensures c.requires.place
    c.index-as_slice-place.is) (c.requires.numbered s)

pub emissions_of-requires-clause-known : goal.emissions_of-requires-clause-known
emissions_of-requires-clause-known c =
    let ps = map program_of c.args.modules.now in
    let home = c.index-as_slice-place.result in
    first_none (λ (p : Program). first_of (unknown_at ps p) (occurrences [] p.body)) ps c.args.place (program_of home)
    c.requires.known
    (module_at c.args.modules.now c.as_slice.result.now c.args.place home c.as_slice.ensures c.requires.place
    c.index-as_slice-place.is)

pub returns-clause-emitted : goal.returns-clause-emitted
returns-clause-emitted c =
    let ps = map program_of c.args.modules.now in
    let home = c.index-as_slice-place.result in
    let em = emitted_of c.args.table.now in
    on_ok_weaker c.add-2.result
    (λ said p at m s.
    let same = some_same (program_of home) p
    (sym (module_at c.args.modules.now c.as_slice.result.now c.args.place home c.as_slice.ensures c.requires.place
    c.index-as_slice-place.is) ∙ at) in
    said m s
    ∙ ap (λ b. cond (bytes_eq home.name m) b (em m s)) (c.in_ok-signals.ensures s)
    ∙ ap (λ (q : Program). cond (bytes_eq q.name m) (list_any (emits_here ps em s) (occurrences [] q.body)) (em m s))
    same)
    c.add-2.ensures

pub returns-clause-numbers : goal.returns-clause-numbers
returns-clause-numbers c =
    let ps = map program_of c.args.modules.now in
    let home = c.index-as_slice-place.result in
    let t = c.args.names.now in
    let signals = c.in_ok-signals.signals in
    let numbers = c.in_ok-own_numbers.own_numbers in
    on_ok_weaker c.add-2.result
    (λ emitted. emitted_more t ps (program_of home) c.args.place (emitted_of c.args.table.now)
    (emitted_of c.add-2.new.self) c.args.numbers.now c.add.new.self signals numbers c.requires.distinct
    (module_at c.args.modules.now c.as_slice.result.now c.args.place home c.as_slice.ensures c.requires.place
    c.index-as_slice-place.is)
    (subst (λ (ns : List (List ℕ)). Tells t (stands_in ns) numbers)
    (c.deref.ensures.value ∙ c.in_ok-own.ensures
    ∙ ap (λ (ds : List Declared). filter (has signals) (map (λ (d : Declared). d.name) ds)) c.signals.ensures)
    c.in_ok-own_numbers.ensures)
    emitted c.in_ok-add.ensures c.requires.numbers)
    c.add-2.ensures

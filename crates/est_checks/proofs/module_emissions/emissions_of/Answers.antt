use Rattle.std.proofs.Common.{◌∙◌, ◌||◌, ◌&&◌, ℕ, List, [], map, ap}
use Rattle.std.specs.List.{list_any}
use Rattle.std.specs.Str.{bytes_eq}
use Rattle.est_modules.specs.Modules.{is_declared, program_of}
use Rattle.est_modules.specs.NameTables.{number_in}
use Rattle.est_modules.specs.Occurrences.{occurrences}
use Rattle.est_modules.specs.declared.interface.Declared.{Declared}
use Rattle.est_checks.specs.Emissions.{emitted_of, emits_here}
use Rattle.est_checks.specs.Inner.Noted.{is_noted}
use Rattle.est_checks.proofs.Noting.{noted_all, noted_set}
use Rattle.est_checks.proofs.Seeing.{seen_along}
use Rattle.est_checks.proofs.module_emissions.emissions_of.Goals as goal

pub returns : goal.returns
returns c s =
    let t = c.args.names.now in
    let ps = map program_of c.args.modules.now in
    let em = emitted_of c.args.table.now in
    let p = program_of c.args.home.now in
    let os = occurrences [] p.body in
    let noted = c.walk_body.new.seen in
    let with_tick = λ (n : List ℕ). is_noted noted (number_in t n) && bytes_eq n s in
    let with_own = λ (ds : List Declared). is_noted noted (number_in t s) && is_declared ds s in
    c.in_ok-add_signals.ensures s
    ∙ ap (λ b. b || with_own c.signals.result.now)
    (c.in_ok-add_noted.ensures s ∙ ap (λ b. b || with_tick c.tick.result) (c.new-set.ensures s))
    ∙ ap (λ (ds : List Declared). with_tick c.tick.result || with_own ds) c.signals.ensures
    ∙ ap (λ (n : List ℕ). with_tick n || with_own p.interface) c.tick.ensures
    ∙ noted_set t noted (λ u. list_any (emits_here ps em u) os) (is_declared p.interface) s
    (λ u. noted_all ps em t c.new-noted.result noted os u c.requires.table c.new-noted.ensures
    c.in_ok-walk_body.ensures)
    (seen_along ps em p os s c.requires.known) (c.requires.numbered s)

use Rattle.std.proofs.Common.{◌≡◌, inl, inr, ℕ, List, false, refl, map, sym, subst}
use Rattle.std.proofs.lemmas.Result.{on_ok_weaker}
use Rattle.est_modules.specs.Modules.{program_of}
use Rattle.est_modules.specs.Scopes.{act_of, binders_of}
use Rattle.est_modules.specs.declared.scope.Act.{Act}
use Rattle.est_checks.specs.Emissions.{emitted_of, emits_by}
use Rattle.est_checks.proofs.Noting.{act_noted, none_noted}
use Rattle.est_checks.proofs.module_emissions.EmissionNotesVisitor.visit.Goals as goal

pub returns-in-Emits : goal.returns-in-Emits
returns-in-Emits c =
    let v = c.args.self.now in
    let ps = map program_of v.modules.now in
    let em = emitted_of v.table.now in
    let bs = binders_of c.args.scope.now in
    on_ok_weaker c.note_name.result
    (λ adds. act_noted ps em c.args.kept.now.table.now v.names.now c.args.seen.now c.note_name.new.noted bs _ _
    c.requires.0.0 (sym c.in-Emits.is) (adds bs c.requires.1 c.requires.2))
    c.note_name.ensures

pub returns-in-Tests : goal.returns-in-Tests
returns-in-Tests c =
    let ps = map program_of c.args.self.now.modules.now in
    let em = emitted_of c.args.self.now.table.now in
    let none = λ (s : List ℕ). λ (act : Act). emits_by ps em s (act_of act) ≡ false in
    none_noted ps em c.args.self.now.names.now c.args.seen.now (act_of c.args.act.now) (binders_of c.args.scope.now)
    (λ s. elim c.in-Tests.is [
      | inl test ↦ subst (none s) (sym test.1) refl
      | inr other ↦ (elim other [
        | inl exit ↦ subst (none s) (sym exit.1) refl
        | inr binding ↦ subst (none s) (sym binding.1) refl
      ])
    ])

pub returns-in-Runs : goal.returns-in-Runs
returns-in-Runs c =
    let v = c.args.self.now in
    let ps = map program_of v.modules.now in
    let em = emitted_of v.table.now in
    let bs = binders_of c.args.scope.now in
    on_ok_weaker c.note_run.result
    (λ adds. act_noted ps em c.args.kept.now.table.now v.names.now c.args.seen.now c.note_run.new.noted bs _ _
    c.requires.0.0 (sym c.in-Runs.is) adds)
    c.note_run.ensures

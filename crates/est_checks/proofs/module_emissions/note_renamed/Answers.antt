use Rattle.std.proofs.Common.{◌≡◌, ◌∙◌, ◌&&◌, false, ℕ, List, map, not, ap, sym, subst}
use Rattle.std.proofs.lemmas.List.{take_all}
use Rattle.std.specs.Str.{bytes_eq}
use Rattle.std.proofs.lemmas.Bool.{and_from}
use Rattle.est_syntax.specs.Views.{renaming_view}
use Rattle.est_syntax.specs.declared.tree.Renaming.{Renaming}
use Rattle.est_modules.specs.Modules.{is_declared, program_of}
use Rattle.est_modules.specs.NamedNumbers.{Adds}
use Rattle.est_modules.specs.Renamings.{renamed}
use Rattle.est_modules.specs.Visible.{is_local}
use Rattle.est_modules.specs.declared.names.set.NumberSet.{NumberSet}
use Rattle.est_modules.proofs.TellingNumbers.{adds_none, adds_same, adds_both}
use Rattle.est_checks.specs.Emissions.{emitted_of}
use Rattle.est_checks.specs.Inner.Noted.{emits_inner, emits_renamed}
use Rattle.est_checks.proofs.Leaving.{and_false}
use Rattle.est_checks.proofs.Noting.{renamed_next, emitted_is, unemitted_is}
use Rattle.est_checks.proofs.module_emissions.note_renamed.Goals as goal
use Rattle.est_checks.proofs.module_emissions.note_renamed.Goals.{then-declares+then-emits+in_ok-note_name}
use Rattle.est_checks.proofs.module_emissions.note_renamed.Goals.{else-declares}
use Rattle.est_checks.proofs.module_emissions.note_renamed.Goals.{else-declares-via-then-declares+else-emits}
use Rattle.est_checks.proofs.module_emissions.note_renamed.Goals.{else-declares-via-else-declares}

pub loop-renaming-init : goal.loop-renaming-init
loop-renaming-init c bs is tells = adds_none c.args.kept.now.table.now _ c.args.noted.now
    (λ s. and_false (not (is_local bs s)))

pub loop-renaming-preserved : goal.loop-renaming-preserved
loop-renaming-preserved c bs is tells =
    let t = c.args.kept.now.table.now in
    let em = emitted_of c.args.table.now in
    let q = program_of c.args.run.now in
    let all = c.args.renamings.now in
    let rs = map renaming_view all in
    let r = c.renaming-item.result in
    let n = renamed rs r.inner in
    let k = c.loop-renaming.renaming-index in
    let now = c.loop-renaming.noted in
    let here = λ (s : List ℕ). not (is_local bs s) && (emits_inner em q (renaming_view r) && bytes_eq n s) in
    let declared = is_declared q.interface r.inner in
    let step : Adds t here now c.if-declares.noted =
    elim c.if-declares.branch [
      | then-declares+then-emits+in_ok-note_name w ↦
          let name = w.callers_name.ensures
          ∙ ap (λ (l : List Renaming). renamed (map renaming_view l) r.inner) c.requires in
          adds_same t (λ s. not (is_local bs s) && bytes_eq w.callers_name.result s) here now c.if-declares.noted
          (λ s. ap (λ (m : List ℕ). not (is_local bs s) && bytes_eq m s) name
          ∙ emitted_is bs n s (emits_inner em q (renaming_view r))
          (and_from declared (em q.name r.inner) (sym c.declares.ensures ∙ w.if-declares.true)
          (sym w.emits.ensures ∙ w.if-emits.true)))
          (subst (λ (v : NumberSet). Adds t (λ s. not (is_local bs s) && bytes_eq w.callers_name.result s) now v)
          (sym w.noted-is) (w.in_ok-note_name.ensures bs is tells))
      | else-declares w ↦
          let none : emits_inner em q (renaming_view r) ≡ false = elim w.else-declares.branch [
            | else-declares-via-then-declares+else-emits v ↦
                ap (λ b. declared && b) (sym v.emits.ensures ∙ v.if-emits.false) ∙ and_false declared
            | else-declares-via-else-declares v ↦
                ap (λ b. b && em q.name r.inner) (sym c.declares.ensures ∙ v.if-declares.false)
          ] in
          subst (λ (v : NumberSet). Adds t here now v) (sym w.noted-is)
          (adds_none t here now (λ s. unemitted_is bs n s (emits_inner em q (renaming_view r)) none))
    ] in
    adds_same t _ _ c.args.noted.now c.if-declares.noted
    (λ s. renamed_next em q bs rs all k r s c.renaming-item.is c.loop-renaming-test.true)
    (adds_both t _ here c.args.noted.now now c.if-declares.noted (c.loop-renaming.invariant bs is tells) step)

pub returns : goal.returns
returns c bs is tells =
    let em = emitted_of c.args.table.now in
    let q = program_of c.args.run.now in
    let all = c.args.renamings.now in
    subst
    (λ (l : List Renaming). Adds c.args.kept.now.table.now
    (λ s. not (is_local bs s) && emits_renamed em q (map renaming_view all) (map renaming_view l) s) c.args.noted.now
    c.loop-renaming.noted)
    (take_all c.loop-renaming.renaming-index all c.loop-renaming-test.false)
    (c.loop-renaming.invariant bs is tells)

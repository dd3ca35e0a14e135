use Rattle.std.proofs.Common.{◌++◌, ◌∷◌, [], List, arith, sym, ◌∙◌, ap, subst, refl, rules}
use Rattle.std.specs.Prelude.{Ok}
use Rattle.refusal_rules.proofs.RuleLemmas.{refuse, pass}
use Rattle.rbac_policy.specs.Fits.{Fits}
use Rattle.rbac_policy.specs.StandsFor.{StandsFor}
use Rattle.rbac_policy.proofs.Absorbing.{stands_after}
use Rattle.rbac_policy.proofs.Growing.{fit_push}
use Rattle.rbac_policy.specs.declared.commands.Entry.{Entry}
use Rattle.rbac_admin.specs.PolicyLists.{IsAccepted}
use Rattle.rbac_admin.specs.PolicyStep.{PolicyStep}
use Rattle.rbac_admin.specs.Room.{HasRoomFor}
use Rattle.rbac_admin.proofs.Fitting.{step_fits}
use Rattle.rbac_admin.proofs.PolicyListLemmas.{few_entries, still_leaves}
use Rattle.access_core.specs.declared.refusal.Refusal.TheVariants.{Memory}
use Rattle.access_core.specs.Desk.{DeskState}
use Rattle.access_core.proofs.single.Single.append.Goals as goal
use Rattle.access_core.proofs.single.Single.append.Goals.{in-Ok, in-Err}

pub invariant_of-self : goal.invariant_of-self
invariant_of-self c =
    let policy = c.self.inside.policy in
    let entries = c.self.inside.entries in
    let e = c.args.entry in
    let step : PolicyStep entries e.session e.command (Ok e) =
    subst (λ (d : DeskState). PolicyStep d.entries e.session e.command (Ok e)) (sym c.self.view_is) c.requires in
    let room : HasRoomFor e.command entries = subst (HasRoomFor e.command) c.entries.ensures
    (c.has_room.ensures.0 (search (rules, c.if-not-has_room.false))) in
    let accepted : IsAccepted entries e = record { step = step; room = room } in
    let few = few_entries entries e c.self.invariant.2 accepted in
    let fits : Fits entries e = step_fits policy entries c.self.invariant.0 e.session e.command e
    (omega (arith, few)) step in
    let after = stands_after policy entries c.args.entry c.self.invariant.0 fits in
    elim c.match-append_and_absorb.branch [
      | in-Ok w ↦ (
        rw (w.in-Ok.ensures.0, w.in-Ok.ensures.1) after,
        c.self.invariant.1,
        rw w.in-Ok.ensures.0 (still_leaves _ entries e c.self.invariant.2 after accepted),
        rw w.in-Ok.ensures.0 (fit_push entries c.args.entry c.self.invariant.3 fits),
      )
      | in-Err w ↦ (
        rw (w.in-Err.ensures.0, w.in-Err.ensures.1) c.self.invariant.0,
        c.self.invariant.1,
        rw w.in-Err.ensures.0 c.self.invariant.2,
        rw w.in-Err.ensures.0 c.self.invariant.3,
      )
    ]

pub returns : goal.returns
returns c =
    let policy = c.self.inside.policy in
    let entries = c.self.inside.entries in
    let slots = c.self.inside.slots in
    let e = c.args.entry in
    let step : PolicyStep entries e.session e.command (Ok e) =
    subst (λ (d : DeskState). PolicyStep d.entries e.session e.command (Ok e)) (sym c.self.view_is) c.requires in
    let room : HasRoomFor e.command entries = subst (HasRoomFor e.command) c.entries.ensures
    (c.has_room.ensures.0 (search (rules, c.if-not-has_room.false))) in
    let accepted : IsAccepted entries e = record { step = step; room = room } in
    let few = few_entries entries e c.self.invariant.2 accepted in
    let fits : Fits entries e = step_fits policy entries c.self.invariant.0 e.session e.command e
    (omega (arith, few)) step in
    let after = stands_after policy entries c.args.entry c.self.invariant.0 fits in
    let desk : List Entry → DeskState = λ list. record { entries = list; slots = slots } in
    rw (← c.self.view_is) (pass room (elim c.match-append_and_absorb.branch [
      | in-Ok w ↦
          let stands : StandsFor c.append_and_absorb.new.policy (entries ++ c.args.entry ∷ []) =
          rw w.in-Ok.ensures.1 after in
          pass (record {}) (record {
            replied = w.result-is ∙ w.answer_accepted.ensures entries c.args.entry stands c.change_of-change.ensures;
            appended = ap desk w.in-Ok.ensures.0;
          })
      | in-Err w ↦ refuse Memory refl (record { replied = w.result-is; stays = ap desk w.in-Err.ensures.0 })
    ]))

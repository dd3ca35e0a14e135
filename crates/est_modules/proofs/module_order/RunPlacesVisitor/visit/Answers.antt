use Rattle.std.proofs.Common.{◌≡◌, ◌∙◌, ◌++◌, ℕ, List, OnOk, option_to_list, ap, sym, subst, map}
use Rattle.est_modules.specs.Modules.{program_of}
use Rattle.est_modules.specs.Scopes.{act_of}
use Rattle.est_modules.specs.ModuleOrders.{place_run}
use Rattle.est_modules.proofs.Ordering.{place_found}
use Rattle.est_modules.proofs.module_order.RunPlacesVisitor.visit.Goals as goal

pub returns-in-Runs : goal.returns-in-Runs
returns-in-Runs c =
    let modules = c.args.self.now.modules.now in
    let noted : option_to_list c.place.result ≡ place_run (map program_of modules) (act_of c.args.act.now) =
    ap option_to_list (c.place.ensures ∙ sym (place_found modules c.in-Runs.name))
    ∙ ap (λ act. place_run (map program_of modules) (act_of act)) (sym c.in-Runs.is) in
    subst (λ (xs : List ℕ). OnOk c.note.result (c.note.new.places.items ≡ c.args.seen.now.items ++ xs)) noted
    c.note.ensures

use Rattle.std.proofs.Common.{◌≡◌, ◌∙◌, ◌++◌, ℕ, ap, true}
use Rattle.est_kernel.specs.Term.{outer}
use Rattle.est_kernel.specs.declared.statement.Statement.{Statement}
use Rattle.est_net.specs.Cells.{cell_at}
use Rattle.est_net.specs.Layout.{output_count, sheet_in}
use Rattle.lab_ties.specs.Ties.{ties}
use Rattle.lab_ties.specs.declared.tie.OpenSignal.TheVariants.{Interface}
use Rattle.lab_ties.proofs.stuck.tie_signal.Goals as goal

pub returns : goal.returns
returns c =
    let n = c.args.place in
    let k = c.args.kernel.now in
    let f = cell_at c.args.net.now.cells.items in
    let here : c.output_count.result ≡ output_count k.interface = c.output_count.ensures ∙ c.requires.outputs in
    c.in_ok-add_ties.ensures.tied
    ∙ (ap (λ (s : Statement). c.args.found.now.items
    ++ ties (outer n) (Interface n) true s 0 0 (sheet_in f true s c.output_count.result 0)) c.root.ensures
    ∙ ap (λ (m : ℕ). c.args.found.now.items
    ++ ties (outer n) (Interface n) true k.root 0 0 (sheet_in f true k.root m 0)) here)

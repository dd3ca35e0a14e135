use Rattle.std.proofs.Common.{◌≡◌, ◌∙◌, ◌++◌, ℕ, List, ap, length, true}
use Rattle.est_kernel.specs.declared.statement.Statement.{Statement}
use Rattle.est_net.specs.Cells.{cell_at}
use Rattle.est_net.specs.Layout.{output_count, sheet_in}
use Rattle.lab_ties.specs.Stuck.{signal_ties}
use Rattle.lab_ties.specs.Ties.{local_ties}
use Rattle.lab_ties.specs.declared.tie.Tie.{Tie}
use Rattle.lab_ties.proofs.stuck.ties_of.Goals as goal

pub returns : goal.returns
returns c =
    let k = c.args.kernel.now in
    let cells = c.args.net.now.cells.items in
    let signals = signal_ties k c.args.undecided cells (length k.interface) in
    let here : c.output_count.result ≡ output_count k.interface = c.output_count.ensures ∙ c.requires.outputs in
    let inside = λ (s : Statement) (m : ℕ). local_ties true s 0 0 (sheet_in (cell_at cells) true s m 0) in
    c.in_ok-tie_locals.ensures.tied
    ∙ (ap (λ (xs : List Tie). xs ++ inside c.root.result.now c.output_count.result)
    (c.in_ok-add_all_signal_ties.ensures ∙ ap (λ (xs : List Tie). xs ++ signals) c.new-found.ensures.items)
    ∙ (ap (λ (s : Statement). signals ++ inside s c.output_count.result) c.root.ensures
    ∙ ap (λ (m : ℕ). signals ++ inside k.root m) here))

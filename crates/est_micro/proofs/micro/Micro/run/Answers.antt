use Rattle.std.proofs.Common.{◌≡◌, false, true, refl, sym, ◌∙◌}
use Rattle.est_kernel.proofs.Masks.{bits_zero}
use Rattle.est_kernel.specs.Bits.{bits}
use Rattle.est_micro.proofs.Outcomes.{as_meant, no_reaction}
use Rattle.est_micro.proofs.Settles.{none_knows, none_settled}
use Rattle.est_micro.proofs.micro.Micro.run.Goals as goal

pub decide_cells-run_end-requires-clause-apart : goal.decide_cells-run_end-requires-clause-apart
decide_cells-run_end-requires-clause-apart c = λ n h. let z : false ≡ true = sym (bits_zero n) ∙ h in cc

pub returns-in-Some-clause-ok : goal.returns-in-Some-clause-ok
returns-in-Some-clause-ok c =
    let inputs = bits c.args.inputs.now.signals in
    let s = none_settled (bits 0) c.args.kernel.now c.args.state.now inputs _ _ bits_zero
    (c.decide_cells-run_end.ensures.settled inputs (λ n h. refl)) in
    c.in-Some.ensures.some.reaction c.args.inputs.now s

pub returns-in-Some-clause-values : goal.returns-in-Some-clause-values
returns-in-Some-clause-values c =
    let inputs = bits c.args.inputs.now.signals in
    let s = none_settled (bits 0) c.args.kernel.now c.args.state.now inputs _ _ bits_zero
    (c.decide_cells-run_end.ensures.settled inputs (λ n h. refl)) in
    c.in-Some.ensures.some.values c.args.inputs.now s

pub returns-in-Some-clause-meant : goal.returns-in-Some-clause-meant
returns-in-Some-clause-meant c =
    let inputs = bits c.args.inputs.now.signals in
    let s = none_settled (bits 0) c.args.kernel.now c.args.state.now inputs _ _ bits_zero
    (c.decide_cells-run_end.ensures.settled inputs (λ n h. refl)) in
    as_meant c.args.kernel.now c.args.state.now inputs _ _ s

pub returns-in-None-clause-meant : goal.returns-in-None-clause-meant
returns-in-None-clause-meant c =
    let inputs = bits c.args.inputs.now.signals in
    let s = none_settled (bits 0) c.args.kernel.now c.args.state.now inputs _ _ bits_zero
    (c.decide_cells-run_end.ensures.settled inputs (λ n h. refl)) in
    as_meant c.args.kernel.now c.args.state.now inputs _ _ s

pub returns-in-None-clause-stuck : goal.returns-in-None-clause-stuck
returns-in-None-clause-stuck c =
    let inputs = bits c.args.inputs.now.signals in
    let s = none_settled (bits 0) c.args.kernel.now c.args.state.now inputs _ _ bits_zero
    (c.decide_cells-run_end.ensures.settled inputs (λ n h. refl)) in
    let none = c.in-None.ensures.none in
    no_reaction c.args.kernel.now c.args.state.now c.args.inputs.now _ _ c.decide_cells-run_end.result.env _
    c.args.kernel.now.loop_safe c.requires.state none.lives s
    (none_knows (bits 0) c.args.kernel.now c.args.state.now inputs _ _ bits_zero
    (c.decide_cells-run_end.ensures.settled inputs (λ n h. refl)))
    none.ends none.pauses c.difference.ensures

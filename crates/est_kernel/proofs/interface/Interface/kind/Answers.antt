use Rattle.std.proofs.Common.{◌≡◌, sym, ap, ◌∙◌, get_or}
use Rattle.est_kernel.specs.declared.interface.Declaration.{Declaration}
use Rattle.est_kernel.proofs.Interfaces.{declares_at}
use Rattle.est_kernel.proofs.interface.Interface.kind.Goals as goal

pub returns : goal.returns
returns c passes =
    let is : c.index.result.now ≡ get_or c.args.self.now c.args.signal.index c.index.result.now =
    rw (← c.self.view_is) c.index.ensures in
    declares_at passes c.args.self.now c.args.signal.index c.index.result.now c.requires
    ∙ ap (λ (d : Declaration). passes d.kind) (sym is)

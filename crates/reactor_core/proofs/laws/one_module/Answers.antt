use Rattle.reactor_core.proofs.OneLoad.{same_given}
use Rattle.reactor_core.proofs.laws.one_module.Goals as goal

pub returns : goal.returns
returns c = λ load m n one other. same_given c.one_cut.ensures.tokens c.one_flat.ensures load.main load.text m n one
    other

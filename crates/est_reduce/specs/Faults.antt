-- The fault of a module whose statement makes no kernel (this project's own form).
use Rattle.est_kernel.specs.declared.kernel.LoadFault.{LoadFault}
use Rattle.est_kernel.specs.declared.kernel.LoadFault.TheVariants.{TooLarge, InstantLoop}
use Rattle.est_reduce.specs.declared.fault.ReduceFault.{ReduceFault}
use Rattle.est_reduce.specs.declared.fault.ReduceFault.TheVariants.{TooLarge as TooLargeModule}
use Rattle.est_reduce.specs.declared.fault.ReduceFault.TheVariants.{InstantLoop as LoopInModule}

-- the same fault, of the module
abbrev pub fault_of : LoadFault → ReduceFault
fault_of (TooLarge limit) = TooLargeModule limit
fault_of InstantLoop = LoopInModule

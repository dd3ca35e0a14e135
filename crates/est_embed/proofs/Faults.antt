-- No fault has the number 0.
use Rattle.std.proofs.Common.{◌≡◌, ◌≢◌, ℕ, List, arith}
use Rattle.est_relations.specs.declared.refusal.PendingRefusal.TheVariants.{UnknownSignal, NotInput, AlreadyOffered}
use Rattle.est_relations.specs.declared.refusal.PendingRefusal.TheVariants.{Excluded, Implied}
use Rattle.reactor_core.specs.declared.refusal.ModuleRefusal.{ModuleRefusal}
use Rattle.reactor_core.specs.declared.refusal.ModuleRefusal.TheVariants.{Pending, NoInstant, Lexical, Syntax}
use Rattle.reactor_core.specs.declared.refusal.ModuleRefusal.TheVariants.{MisnamedMain, UnknownModule, RecursiveRun}
use Rattle.reactor_core.specs.declared.refusal.ModuleRefusal.TheVariants.{UnknownName, DuplicateName, EmitInput}
use Rattle.reactor_core.specs.declared.refusal.ModuleRefusal.TheVariants.{BadRename, InstantLoop, TooLarge, Semantics}
use Rattle.reactor_core.specs.declared.refusal.ReactorRefusal.{ReactorRefusal}
use Rattle.reactor_core.specs.declared.refusal.ReactorRefusal.TheVariants as refusal
use Rattle.est_host.specs.Faults.{IsLoadFaultTold, fault_in_text, fault_of, not_text, refused, no_memory}
use Rattle.est_host.specs.declared.loading.HostFault.{HostFault}

in_text : (why : ModuleRefusal) → (fault_in_text why).code ≢ 0
in_text (Pending (Excluded relation signal)) e = omega (arith, e)
in_text (Pending (Implied relation missing)) e = omega (arith, e)
in_text (Pending UnknownSignal) e = omega (arith, e)
in_text (Pending NotInput) e = omega (arith, e)
in_text (Pending AlreadyOffered) e = omega (arith, e)
in_text NoInstant e = omega (arith, e)
in_text (Lexical place) e = omega (arith, e)
in_text (Syntax place) e = omega (arith, e)
in_text MisnamedMain e = omega (arith, e)
in_text (UnknownModule name) e = omega (arith, e)
in_text (RecursiveRun name) e = omega (arith, e)
in_text (UnknownName name) e = omega (arith, e)
in_text (DuplicateName name) e = omega (arith, e)
in_text (EmitInput name) e = omega (arith, e)
in_text (BadRename name) e = omega (arith, e)
in_text InstantLoop e = omega (arith, e)
in_text (TooLarge limit) e = omega (arith, e)
in_text (Semantics relation) e = omega (arith, e)

of_refusal : (why : ReactorRefusal) → (fault_of why).code ≢ 0
of_refusal (refusal.Module why) e = in_text why e
of_refusal refusal.JournalFull e = omega (arith, e)
of_refusal refusal.Memory e = omega (arith, e)

pub told : {main text : List ℕ} {f : HostFault} → IsLoadFaultTold main text f → f.code ≢ 0
told (not_text isnt) e = omega (arith, e)
told (refused why is) e = of_refusal why e
told no_memory e = omega (arith, e)

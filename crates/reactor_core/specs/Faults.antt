-- The refusals that the faults of a load's stages are: of cutting, of the grammar, of linking and of reduction; and
-- those of pending inputs (this project's own form).
use Rattle.std.specs.Prelude.{ℕ, List}
use Rattle.est_kernel.specs.declared.limits.Limit.{Limit as KernelLimit}
use Rattle.est_kernel.specs.declared.limits.Limit.TheVariants as kernel
use Rattle.est_checks.specs.declared.fault.ModuleLimit.{ModuleLimit}
use Rattle.est_checks.specs.declared.fault.ModuleLimit.TheVariants as limit
use Rattle.est_checks.specs.declared.fault.LinkFault.{LinkFault}
use Rattle.est_checks.specs.declared.fault.LinkFault.TheVariants as link
use Rattle.est_reduce.specs.declared.fault.ReduceFault.{ReduceFault}
use Rattle.est_reduce.specs.declared.fault.ReduceFault.TheVariants as reduce
use Rattle.est_relations.specs.declared.refusal.PendingRefusal.{PendingRefusal}
use Rattle.est_relations.specs.declared.refusal.PendingRefusal.TheVariants.{Implied}
use Rattle.est_syntax.specs.declared.parse.ParseFault.{ParseFault}
use Rattle.est_syntax.specs.declared.parse.ParseFault.TheVariants as parse
use Rattle.est_text.specs.declared.lex.LexFault.{LexFault}
use Rattle.est_text.specs.declared.lex.LexFault.TheVariants as lex
use Rattle.reactor_core.specs.declared.refusal.LoadLimit.{LoadLimit}
use Rattle.reactor_core.specs.declared.refusal.LoadLimit.TheVariants.{Nesting, Signals, Relations, Statements, Loops}
use Rattle.reactor_core.specs.declared.refusal.LoadLimit.TheVariants.{Traps, Locals}
use Rattle.reactor_core.specs.declared.refusal.ModuleRefusal.TheVariants.{Pending, Lexical, Syntax, MisnamedMain}
use Rattle.reactor_core.specs.declared.refusal.ModuleRefusal.TheVariants.{UnknownModule, RecursiveRun, UnknownName}
use Rattle.reactor_core.specs.declared.refusal.ModuleRefusal.TheVariants.{DuplicateName, EmitInput, BadRename}
use Rattle.reactor_core.specs.declared.refusal.ModuleRefusal.TheVariants.{InstantLoop, TooLarge, Semantics}
use Rattle.reactor_core.specs.declared.refusal.ReactorRefusal.{ReactorRefusal}
use Rattle.reactor_core.specs.declared.refusal.ReactorRefusal.TheVariants.{Module, Memory}

-- the limit of the same name
abbrev pub limit_of_kernel : KernelLimit → LoadLimit
limit_of_kernel kernel.Statements = Statements
limit_of_kernel kernel.Loops = Loops
limit_of_kernel kernel.Traps = Traps
limit_of_kernel kernel.Locals = Locals

-- the limit of the same name
abbrev pub limit_of_link : ModuleLimit → LoadLimit
limit_of_link limit.Signals = Signals
limit_of_link limit.Relations = Relations
limit_of_link limit.Statements = Statements

-- the refusal that a fault of cutting is
abbrev pub refusal_of_lex : LexFault → ReactorRefusal
refusal_of_lex (lex.Lexical place) = Module (Lexical place)
refusal_of_lex lex.Memory = Memory

-- the refusal that a fault of the grammar is: a unit that is too deep passes the limit of nesting
abbrev pub refusal_of_parse : ParseFault → ReactorRefusal
refusal_of_parse (parse.Syntax place) = Module (Syntax place)
refusal_of_parse (parse.TooLarge place) = Module (TooLarge Nesting)
refusal_of_parse parse.Memory = Memory

-- the refusal of the same name as a fault of linking
abbrev pub refusal_of_link : LinkFault → ReactorRefusal
refusal_of_link (link.DuplicateName name) = Module (DuplicateName name)
refusal_of_link link.MisnamedMain = Module MisnamedMain
refusal_of_link (link.UnknownModule name) = Module (UnknownModule name)
refusal_of_link (link.RecursiveRun name) = Module (RecursiveRun name)
refusal_of_link (link.BadRename name) = Module (BadRename name)
refusal_of_link (link.UnknownName name) = Module (UnknownName name)
refusal_of_link (link.EmitInput name) = Module (EmitInput name)
refusal_of_link (link.Semantics relation) = Module (Semantics relation)
refusal_of_link (link.TooLarge limit) = Module (TooLarge (limit_of_link limit))
refusal_of_link link.Memory = Memory

-- the refusal of the same name as a fault of reduction
abbrev pub refusal_of_reduce : ReduceFault → ReactorRefusal
refusal_of_reduce (reduce.TooLarge limit) = Module (TooLarge (limit_of_kernel limit))
refusal_of_reduce reduce.InstantLoop = Module InstantLoop
refusal_of_reduce reduce.Memory = Memory

-- the refusal that one of the pending inputs is
abbrev pub refusal_of_pending : PendingRefusal → ReactorRefusal
refusal_of_pending refusal = Module (Pending refusal)

-- the refusal of an instant whose pending inputs lack one that a relation implies
abbrev pub implied : (relation : ℕ) → (missing : List ℕ) → ReactorRefusal
implied relation missing = Module (Pending (Implied relation missing))

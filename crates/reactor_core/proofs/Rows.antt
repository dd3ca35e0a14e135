-- The table of a module's refusals, read backwards.
use Rattle.std.proofs.Common.{◌≡◌, ℕ, List, [], ◌∷◌, refl, ap}
use Rattle.std.specs.Prelude.{◌==◌, codes, Option, Some, None, if◌then◌else◌}
use Rattle.std.specs.Str.{bytes_eq}
use Rattle.refusal_rules.specs.Rows.{Fields, TellsApart}
use Rattle.refusal_rules.proofs.TellingApart.{first, second, text_in, number_in, read_back}
use Rattle.est_relations.specs.declared.refusal.PendingRefusal.TheVariants.{UnknownSignal, NotInput, AlreadyOffered}
use Rattle.est_relations.specs.declared.refusal.PendingRefusal.TheVariants.{Excluded, Implied}
use Rattle.est_text.specs.declared.place.Place.{Place}
use Rattle.reactor_core.specs.declared.refusal.LoadLimit.{LoadLimit}
use Rattle.reactor_core.specs.declared.refusal.LoadLimit.TheVariants.{Nesting, Signals, Relations, Statements, Loops}
use Rattle.reactor_core.specs.declared.refusal.LoadLimit.TheVariants.{Traps, Locals}
use Rattle.reactor_core.specs.declared.refusal.ModuleRefusal.{ModuleRefusal}
use Rattle.reactor_core.specs.declared.refusal.ModuleRefusal.TheVariants.{Pending, NoInstant, Lexical, Syntax}
use Rattle.reactor_core.specs.declared.refusal.ModuleRefusal.TheVariants.{MisnamedMain, UnknownModule, RecursiveRun}
use Rattle.reactor_core.specs.declared.refusal.ModuleRefusal.TheVariants.{UnknownName, DuplicateName, EmitInput}
use Rattle.reactor_core.specs.declared.refusal.ModuleRefusal.TheVariants.{BadRename, InstantLoop, TooLarge, Semantics}
use Rattle.reactor_core.specs.Refusals.{row_of, limit_text}

-- the limit of this word
abbrev limit_back : List ℕ → LoadLimit
limit_back text =
    if bytes_eq text (codes "nesting") then Nesting
    else (if bytes_eq text (codes "signals") then Signals
    else (if bytes_eq text (codes "relations") then Relations
    else (if bytes_eq text (codes "statements") then Statements
    else (if bytes_eq text (codes "loops") then Loops
    else (if bytes_eq text (codes "traps") then Traps
    else Locals)))))

limit_is : (limit : LoadLimit) → limit_back (limit_text limit) ≡ limit
limit_is Nesting = refl
limit_is Signals = refl
limit_is Relations = refl
limit_is Statements = refl
limit_is Loops = refl
limit_is Traps = refl
limit_is Locals = refl

abbrev place_back : Fields → Place
place_back fields = record { line = number_in (second fields); column = number_in (first fields) }

abbrev unknown_back : Fields → ModuleRefusal
unknown_back [] = MisnamedMain
unknown_back (field ∷ fields) = UnknownModule (text_in (first (field ∷ fields)))

-- the refusal of this number and these fields
abbrev pub module_back : ℕ → Fields → Option ModuleRefusal
module_back code fields =
    if code == 40 then Some (Pending (Excluded (number_in (first fields)) (text_in (second fields))))
    else (if code == 41 then Some (Pending (Implied (number_in (second fields)) (text_in (first fields))))
    else (if code == 63 then Some (Pending UnknownSignal)
    else (if code == 64 then Some (Pending NotInput)
    else (if code == 65 then Some (Pending AlreadyOffered)
    else (if code == 66 then Some NoInstant
    else (if code == 70 then Some (Lexical (place_back fields))
    else (if code == 71 then Some (Syntax (place_back fields))
    else (if code == 72 then Some (unknown_back fields)
    else (if code == 73 then Some (RecursiveRun (text_in (first fields)))
    else (if code == 74 then Some (UnknownName (text_in (first fields)))
    else (if code == 75 then Some (DuplicateName (text_in (first fields)))
    else (if code == 76 then Some (EmitInput (text_in (first fields)))
    else (if code == 77 then Some (BadRename (text_in (first fields)))
    else (if code == 78 then Some InstantLoop
    else (if code == 79 then Some (TooLarge (limit_back (text_in (first fields))))
    else (if code == 80 then Some (Semantics (number_in (first fields)))
    else None))))))))))))))))

-- each row reads back as its refusal
pub module_is : (given : ModuleRefusal) → module_back (row_of given).code (row_of given).fields ≡ Some given
module_is (TooLarge limit) = ap (λ (l : LoadLimit). Some (TooLarge l)) (limit_is limit)
module_is (Pending (Excluded relation signal)) = refl
module_is (Pending (Implied relation missing)) = refl
module_is (Pending UnknownSignal) = refl
module_is (Pending NotInput) = refl
module_is (Pending AlreadyOffered) = refl
module_is _ = refl

pub told_apart : (one other : ModuleRefusal) → TellsApart row_of one other
told_apart one other = read_back row_of module_back one other (module_is one) (module_is other)

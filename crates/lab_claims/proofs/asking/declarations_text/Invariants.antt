use Rattle.std.proofs.Common.{◌≡◌, ◌++◌, codes, take, string_bytes}
use Rattle.std.specs.List.{flat_map}
use Rattle.lab_claims.specs.Claims.{declaration_text}
use Rattle.lab_claims.proofs.asking.declarations_text.Given as goal

abbrev pub invariant-loop-declaration : goal.invariant-loop-declaration
invariant-loop-declaration l = string_bytes l.text
    ≡ codes "module M: " ++ flat_map declaration_text (take l.declaration-index l.declarations)

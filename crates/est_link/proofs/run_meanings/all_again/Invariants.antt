use Rattle.std.proofs.Common.{◌≡◌, map, take}
use Rattle.est_link.specs.Inner.Meant.{again}
use Rattle.est_link.specs.Inner.OpenBodies.{meaning_of}
use Rattle.est_link.specs.declared.meaning.Meaning.{Meaning}
use Rattle.est_link.proofs.run_meanings.all_again.Given as goal

abbrev pub invariant-loop-meaning : goal.invariant-loop-meaning
invariant-loop-meaning g l =
    map meaning_of l.meanings.items
    ≡ map (λ (m : Meaning). again (g.M.Meanings.means l.outside) (meaning_of m)) (take l.meaning-index l.list)

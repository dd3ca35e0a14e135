use Rattle.std.proofs.Common.{◌≡◌, ◌∷◌, map, take}
use Rattle.est_link.specs.MainModule.{member_place}
use Rattle.est_link.proofs.main_module.members.Given as goal

abbrev pub invariant-loop-name : goal.invariant-loop-name
invariant-loop-name l = l.members ≡ map (member_place l.signals) (l.first ∷ l.second ∷ take l.name-index l.later)

use Rattle.std.proofs.Common.{◌≡◌, ◌≤◌, length, map}
use Rattle.est_modules.specs.Modules.{program_of}
use Rattle.est_order.specs.PlaceSets.{IsIn}
use Rattle.est_link.specs.Inner.Needs.{IsCompleteFrom}
use Rattle.est_link.proofs.needed.needed_places.Given as goal

abbrev pub invariant-loop-left : goal.invariant-loop-left
invariant-loop-left l =
    record {
      within : l.left ≤ length l.order;
      size : length l.needed.items ≡ length l.modules;
      complete : IsCompleteFrom (map program_of l.modules) l.order l.left l.needed.items;
      main : IsIn l.needed.items l.main;
    }

abbrev pub decreases-loop-left : goal.decreases-loop-left
decreases-loop-left l = l.left

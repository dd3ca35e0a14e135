use Rattle.std.proofs.Common.{◌≡◌, map, take}
use Rattle.est_kernel.specs.Term.{Name}
use Rattle.est_link.specs.Inner.Meant.{again}
use Rattle.est_link.specs.Linking.{Meant}
use Rattle.est_link.specs.Inner.OpenBodies.{meaning_of, AreUsed, MeanThemselves}
use Rattle.est_link.specs.declared.meaning.Meaning.{Meaning}
use Rattle.est_link.proofs.used_signals.UsedSignals.add_meanings.Given as goal

abbrev pub invariant-loop-meaning : goal.invariant-loop-meaning
invariant-loop-meaning l =
    record {
      own : AreUsed l.fn.self → AreUsed l.self;
      fewer : (g : Name → Meant) → MeanThemselves l.self g → MeanThemselves l.fn.self g;
      kept : (g : Name → Meant) → MeanThemselves l.self g
          → map (λ (m : Meaning). again g (meaning_of m)) (take l.meaning-index l.meaning-items)
          ≡ map meaning_of (take l.meaning-index l.meaning-items);
    }

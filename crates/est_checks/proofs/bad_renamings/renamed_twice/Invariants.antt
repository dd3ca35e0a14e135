use Rattle.std.proofs.Common.{◌≡◌, ℕ, List, length, take, filter, nat_lt}
use Rattle.std.specs.Str.{bytes_eq}
use Rattle.est_syntax.specs.declared.tree.Renaming.{Renaming}
use Rattle.est_modules.specs.NameSets.{has}
use Rattle.est_checks.proofs.bad_renamings.renamed_twice.Given as goal

abbrev pub invariant-loop-renaming : goal.invariant-loop-renaming
invariant-loop-renaming l =
    record {
      once : (s : List ℕ) → has l.once s
          ≡ nat_lt 0 (length (filter (λ (r : Renaming). bytes_eq r.inner s) (take l.renaming-index l.renamings)));
      twice : (s : List ℕ) → has l.twice s
          ≡ nat_lt 1 (length (filter (λ (r : Renaming). bytes_eq r.inner s) (take l.renaming-index l.renamings)));
    }

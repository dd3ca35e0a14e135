use Rattle.std.proofs.Common.{◌≡◌, map, take}
use Rattle.est_link.specs.Linking.{signal_at}
use Rattle.est_modules.specs.Modules.{program_of}
use Rattle.est_link.specs.Inner.Scopes.{binders_of}
use Rattle.est_reduce.specs.Views.{bound_query as query_view}
use Rattle.est_link.proofs.Asked.{literal_seen, conjunction_seen}
use Rattle.est_link.proofs.bound_tests.+tests.Given as goal

abbrev pub invariant-find_conjunction-loop-literal : goal.invariant-find_conjunction-loop-literal
invariant-find_conjunction-loop-literal l =
    let f = signal_at (program_of l.place.linker.now.home.now) (binders_of l.place.scope.now) in
    map query_view l.later.items ≡ map (literal_seen f) (take l.literal-index l.others)

abbrev pub invariant-find_expression-loop-conjunction : goal.invariant-find_expression-loop-conjunction
invariant-find_expression-loop-conjunction l =
    let f = signal_at (program_of l.place.linker.now.home.now) (binders_of l.place.scope.now) in
    map query_view l.later.items ≡ map (conjunction_seen f) (take l.conjunction-index l.others)

use Rattle.std.proofs.Common.{◌∙◌, refl}
use Rattle.state_search.specs.Inner.Searching.{stops, goes}
use Rattle.state_search.proofs.search.add_row.Goals.{in-Some+in_ok-place_or_insert-in-Some, in-None}
use Rattle.state_search.proofs.search.add_row.Goals as goal

pub returns-clause-adds : goal.returns-clause-adds
returns-clause-adds g c = elim c.match-step.branch [
  | in-Some+in_ok-place_or_insert-in-Some w ↦ goes w.in-Some.state w.in_ok-place_or_insert-in-Some.field-0 w.in-Some.is
      (rw w.nodes-is (rw (w.len.ensures ∙ c.args.rows.now.ok.0) at w.in_ok-place_or_insert-in-Some.ensures.puts))
      (rw w.next-is at c.in_ok-push.ensures.items)
  | in-None w ↦ stops w.in-None.is (rw w.nodes-is refl) (rw w.next-is at c.in_ok-push.ensures.items)
]

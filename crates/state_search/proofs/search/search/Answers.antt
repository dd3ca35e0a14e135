use Rattle.std.proofs.Common.{◌∙◌, refl, arith, inl, []}
use Rattle.state_search.proofs.Nodes.{is_last, puts_first}
use Rattle.state_search.proofs.PlaceLemmas.{no_places}
use Rattle.state_search.proofs.TreeLemmas.{begins}
use Rattle.state_search.proofs.search.search.Goals as goal

pub place_or_insert-requires : goal.place_or_insert-requires
place_or_insert-requires g c =
    rw c.new.ensures.items (no_places _ _ c.new-places.ensures.last c.new-places.ensures.before)

pub loop-found-init : goal.loop-found-init
loop-found-init g c =
    let one = puts_first _ _ _ (rw c.new.ensures.items at c.in_ok-place_or_insert.ensures.puts) in
    record {
      fits = c.requires.fits;
      places = c.in_ok-place_or_insert.ensures.places;
      first = rw one (record { node = _; is = is_last [] _ 0 refl; state = refl });
      searching = rw (one, c.new-2.ensures.items) (begins _ _ _ _ _ c.requires.state refl);
    }

pub loop-found-smaller : goal.loop-found-smaller
loop-found-smaller g c =
    let w = rw c.if-not-branch.false at c.in_ok-expand.ensures.search in
    let e = w.0 in
    omega (arith, c.loop-found.found.nodes.ok.0)

pub loop-found-preserved : goal.loop-found-preserved
loop-found-preserved g c =
    let w = rw c.if-not-branch.false at c.in_ok-expand.ensures.search in
    record {
      fits = c.expand.ensures.fits;
      places = c.in_ok-expand.ensures.places;
      first = c.in_ok-expand.ensures.first _ c.loop-found.invariant.first;
      searching = w.1;
    }

pub returns-then-not-branch-clause-first : goal.returns-then-not-branch-clause-first
returns-then-not-branch-clause-first g c = c.in_ok-expand.ensures.first _ c.loop-found.invariant.first

pub returns-clause-ended : goal.returns-clause-ended
returns-clause-ended g c =
    let f = c.loop-found-test.false in
    let e = c.len.ensures ∙ c.loop-found.found.nodes.ok.0 in
    inl (omega arith)

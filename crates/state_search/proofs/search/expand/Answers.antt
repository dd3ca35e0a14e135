use Rattle.std.proofs.Common.{◌<◌, ◌+◌, refl, arith, length}
use Rattle.std.proofs.lemmas.List.{take_all}
use Rattle.state_search.proofs.Nodes.{is_read}
use Rattle.state_search.proofs.TreeLemmas.{expands, expanded, adding, adds_one, adds_stay, AreSteps}
use Rattle.state_search.proofs.search.expand.Goals as goal

pub loop-step-init : goal.loop-step-init
loop-step-init g c = record {
  places = c.requires.places;
  first = λ x h. h;
  done = refl;
  within = c.requires.within;
  count = omega arith;
  expanding = expands _ _ _ _ _ _ _ _ c.requires.search (is_read _ _ _ c.requires.within c.index.ensures);
}

pub add_row-requires-clause-depth : goal.add_row-requires-clause-depth
add_row-requires-clause-depth g c =
    let h = c.loop-step.invariant.expanding in
    let s = h.found.tree.shallow _ _ h.here in
    let w = h.here.within in
    omega arith

pub loop-step-preserved : goal.loop-step-preserved
loop-step-preserved g c =
    let h = c.loop-step.invariant in
    let a = c.in_ok-add_row.ensures.adds in
    let steps : AreSteps (g.M.TransitionSystem.is_state c.args.system.now)
    (g.M.TransitionSystem.does c.args.system.now)
    (g.M.TransitionSystem.covers c.args.system.now) (g.M.TransitionSystem.apart c.args.system.now) c.index.result.now
    c.as_slice-step-items.result.now =
    rw c.as_slice-step-items.ensures.value (record {
      sound = c.in_ok-whole.ensures.sound;
      states = c.in_ok-whole.ensures.states;
      differ = c.in_ok-whole.ensures.apart;
    }) in
    let next = adding _ _ _ _ _ _ _ _ _ c.loop-step.step-index _ _ _ c.loop-step-test.true c.step-item.is steps
    h.expanding a in
    let more = adds_one (g.M.TransitionSystem.is_state c.args.system.now)
    (g.M.TransitionSystem.does c.args.system.now)
    (g.M.TransitionSystem.covers c.args.system.now) (g.M.TransitionSystem.apart c.args.system.now) _ _ _ _ _ _ _ a in
    record {
      places = c.in_ok-add_row.ensures.places;
      first = λ x k. adds_stay (g.M.TransitionSystem.is_state c.args.system.now)
          (g.M.TransitionSystem.does c.args.system.now)
          (g.M.TransitionSystem.covers c.args.system.now) (g.M.TransitionSystem.apart c.args.system.now) _ _ _ _ _
          _ _ a 0 x
          (h.first x k);
      done = h.done;
      within = next.here.within;
      count = let e = h.count in omega arith;
      expanding = next;
    }

pub returns-then-whole-clause-search : goal.returns-then-whole-clause-search
returns-then-whole-clause-search g c =
    let h = c.loop-step.invariant.expanding in
    let all = rw (take_all c.loop-step.step-index c.as_slice-step-items.result.now (omega arith)) at h in
    let whole = rw c.if-whole.true at c.in_ok-whole.ensures.whole in
    rw (c.if-whole.true, c.loop-step.invariant.done) (
      refl,
      expanded _ _ _ _ _ _ _ _ _ all
          (rw c.as_slice-step-items.ensures.value whole),
    )

pub returns-else-whole-clause-search : goal.returns-else-whole-clause-search
returns-else-whole-clause-search g c =
    let h = c.loop-step.invariant in
    let more = rw c.if-whole.false at c.in_ok-whole.ensures.whole in
    let longer : c.args.most < length c.as_slice-step-items.result.now = rw c.as_slice-step-items.ensures.value more in
    let e = h.count in
    let enough : c.args.most + length c.args.found.now.rows.items < length c.loop-step.found.rows.items = omega arith in
    rw (c.if-whole.false, h.done) (enough, h.expanding.found)

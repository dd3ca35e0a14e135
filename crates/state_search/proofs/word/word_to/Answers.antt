use Rattle.std.proofs.Common.{◌≡◌, ◌∙◌, ap, arith, reverse, [], ◌∷◌}
use Rattle.std.proofs.lemmas.List.{reverse-append}
use Rattle.std.proofs.lemmas.Result.{IfOk-weaker}
use Rattle.state_search.proofs.BackLemmas.{at_row, one_back, all_back, led_by, goes_back}
use Rattle.state_search.proofs.word.word_to.Goals as goal

pub loop-place-init : goal.loop-place-init
loop-place-init g c =
    let gone = at_row (g.M.TransitionSystem.is_state c.args.system.now) (g.M.TransitionSystem.does c.args.system.now)
    (g.M.TransitionSystem.apart c.args.system.now)
    _ _ c.args.at c.index-row.result.now c.requires.tree c.requires.within c.index-row.ensures in
    record {
      within = (gone c.index-row.result.now).at.within;
      gone = λ r. rw (c.in_ok-push.ensures.items, c.new-back.ensures.items) (gone r);
    }

pub index-row-requires-in-loop-place : goal.index-row-requires-in-loop-place
index-row-requires-in-loop-place g c =
    let e = c.args.found.now.rows.ok.0 in
    let w = led_by (g.M.TransitionSystem.is_state c.args.system.now) (g.M.TransitionSystem.does c.args.system.now)
    (g.M.TransitionSystem.apart c.args.system.now) _ c.args.found.now.rows.items _ c.loop-place.place _
    c.index.result.now
    c.requires.tree c.loop-place-test.true
    (c.loop-place.invariant.gone c.index-row.result.now) c.index.ensures in
    rw e w

pub loop-place-smaller : goal.loop-place-smaller
loop-place-smaller g c =
    goes_back (g.M.TransitionSystem.is_state c.args.system.now) (g.M.TransitionSystem.does c.args.system.now)
    (g.M.TransitionSystem.apart c.args.system.now) _ _ _ c.loop-place.place _ c.index.result.now
    c.index-row-in-loop-place.result.now c.requires.tree c.loop-place-test.true
    (c.loop-place.invariant.gone c.index-row.result.now) c.index.ensures c.index-row-in-loop-place.ensures

pub loop-place-preserved : goal.loop-place-preserved
loop-place-preserved g c =
    let word = c.loop-place.back.items in
    let back : reverse c.push-in-loop-place.new.self.items ≡ _ ∷ reverse word =
    ap reverse c.in_ok-push-2.ensures.items ∙ reverse-append word (_ ∷ []) in
    record {
      within = (one_back (g.M.TransitionSystem.is_state c.args.system.now)
          (g.M.TransitionSystem.does c.args.system.now)
          (g.M.TransitionSystem.apart c.args.system.now)
          _ _ _ c.loop-place.place _ c.index.result.now c.index-row-in-loop-place.result.now c.requires.tree
          c.loop-place-test.true (c.loop-place.invariant.gone c.index-row.result.now) c.index.ensures
          c.index-row-in-loop-place.ensures).at.within;
      gone = λ r. rw back (one_back (g.M.TransitionSystem.is_state c.args.system.now)
          (g.M.TransitionSystem.does c.args.system.now)
          (g.M.TransitionSystem.apart c.args.system.now)
          _ _ _ c.loop-place.place _ c.index.result.now c.index-row-in-loop-place.result.now c.requires.tree
          c.loop-place-test.true (c.loop-place.invariant.gone r) c.index.ensures c.index-row-in-loop-place.ensures);
    }

pub returns : goal.returns
returns g c =
    let first : c.loop-place.place ≡ 0 = omega arith in
    IfOk-weaker c.reversed.result _ _ (λ word e start begins r. rw e (rw c.deref.ensures.value
    (all_back (g.M.TransitionSystem.is_state c.args.system.now) (g.M.TransitionSystem.does c.args.system.now)
    (g.M.TransitionSystem.apart c.args.system.now)
    _ _ _ _ start c.requires.tree (rw first at (c.loop-place.invariant.gone r)) begins)))
    c.reversed.ensures

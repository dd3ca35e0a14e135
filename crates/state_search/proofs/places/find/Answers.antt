use Rattle.std.proofs.Common.{◌∙◌, ap, sym, arith}
use Rattle.state_search.proofs.Nodes.{is_read}
use Rattle.state_search.proofs.PlaceLemmas.{last_within, not_here, sought, sought_on, sought_out}
use Rattle.state_search.specs.Inner.Numbers.{number_of}
use Rattle.state_search.specs.declared.found.Node.{Node}
use Rattle.state_search.proofs.places.find.Goals as goal

pub loop-place-init : goal.loop-place-init
loop-place-init g c = record {
  within = last_within (number_of g.S.Hash.hash_input) _ _ _ _ c.requires.last;
  sought = sought (number_of g.S.Hash.hash_input) _ _ _ c.requires.last;
}

pub bounds-nodes-at : goal.bounds-nodes-at
bounds-nodes-at g c = (rw c.in-Some.is at c.loop-place.invariant.sought).here.is.within

pub offset_bounds-nodes-at : goal.offset_bounds-nodes-at
offset_bounds-nodes-at g c =
    let w = (rw c.in-Some.is at c.loop-place.invariant.sought).here.is.within in
    omega arith

pub returns-then-eq : goal.returns-then-eq
returns-then-eq g c = record {
  node = c.index-nodes-at.result;
  is = is_read _ _ _ (rw c.in-Some.is at c.loop-place.invariant.sought).here.is.within c.index-nodes-at.is;
  state = ap (λ (n : Node _). n.state) c.index-nodes-at.is
      ∙ g.met.S.SearchState.exact _ _ (sym c.eq.ensures ∙ c.if-eq.true);
}

pub bounds-before-at : goal.bounds-before-at
bounds-before-at g c = rw c.requires.before.count (rw c.in-Some.is at c.loop-place.invariant.sought).here.is.within

pub loop-place-smaller : goal.loop-place-smaller
loop-place-smaller g c =
    let h = rw c.in-Some.is at c.loop-place.invariant.sought in
    let here = is_read _ _ _ h.here.is.within c.index-nodes-at.is in
    let w = last_within (number_of g.S.Hash.hash_input) _ _ _ _ (c.requires.before.each _ _ here) in
    rw c.in-Some.is (omega (arith, w))

pub loop-place-preserved : goal.loop-place-preserved
loop-place-preserved g c =
    let h = rw c.in-Some.is at c.loop-place.invariant.sought in
    let here = is_read _ _ _ h.here.is.within c.index-nodes-at.is in
    let last = c.requires.before.each _ _ here in
    let w = last_within (number_of g.S.Hash.hash_input) _ _ _ _ last in
    let less = h.here.is.within in
    record {
      within = omega (arith, w);
      sought = sought_on (number_of g.S.Hash.hash_input) _ _ _ _ here
          (not_here g.S.PartialEq.eq g.met.S.Eq.laws.refl _ _ _ _ c.index-nodes-at.is c.eq.ensures c.if-eq.false) h _
          last;
    }

pub returns : goal.returns
returns g c = sought_out (number_of g.S.Hash.hash_input) _ _ _ c.in_default.not-Some c.loop-place.invariant.sought

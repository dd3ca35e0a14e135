use Rattle.std.proofs.Common.{◌≡◌, ◌∙◌, ◌<◌, ◌+◌, ◌-◌, List, Bool, false, true, sym, ap, subst, map, length, replicate}
use Rattle.std.proofs.Common.{slice_index, slice_index_or, slice_set, arith}
use Rattle.std.proofs.lemmas.List.{length-map, length-replicate}
use Rattle.est_order.specs.PlaceSets.{IsIn}
use Rattle.est_link.specs.Inner.Needs.{IsCompleteFrom, with_places}
use Rattle.est_modules.specs.Modules.{program_of}
use Rattle.est_modules.specs.ModuleOrders.{places_run}
use Rattle.est_modules.specs.declared.library_modules.LibraryModule.{LibraryModule}
use Rattle.est_link.proofs.Needing.{are_added, one_place, complete_more, complete_past, complete_whole}
use Rattle.est_modules.proofs.Standing.{order_within, program_at}
use Rattle.est_link.proofs.needed.needed_places.Goals as goal

pub index_mut-requires : goal.index_mut-requires
index_mut-requires c =
    let made = c.in_ok-needed.ensures.items_if_clones_equal (λ y same. same) in
    omega (
      arith,
      c.requires.main,
      ap (λ (xs : List Bool). length xs) made,
      length-replicate (length c.as_slice.result.now) false,
      ap (λ (hs : List LibraryModule). length hs) c.as_slice.ensures,
    )

pub loop-left-init : goal.loop-left-init
loop-left-init c =
    let hs = c.args.modules.now in
    let main = c.args.main in
    let made : c.in_ok-needed.needed.items ≡ replicate (length hs) false =
    c.in_ok-needed.ensures.items_if_clones_equal (λ y same. same)
    ∙ ap (λ (hs : List LibraryModule). replicate (length hs) false) c.as_slice.ensures in
    let start = one_place (length hs) main c.requires.main in
    record {
      within = omega arith;
      size = ap (λ xs. length (slice_set xs main true)) made ∙ start.0;
      complete = λ i from lt. absurd (omega (arith, from, lt));
      main = subst (λ xs. IsIn (slice_set xs main true) main) (sym made) start.1;
    }

pub is_in-requires : goal.is_in-requires
is_in-requires c =
    omega (
      arith,
      ap (λ (xs : List Bool). length xs) c.deref.ensures.value,
      order_within (map program_of c.args.modules.now) c.args.order.now
          (c.loop-left.left - 1) c.requires.order (omega (arith, c.loop-left-test.true, c.loop-left.invariant.within)),
      length-map c.args.modules.now program_of,
      c.loop-left.invariant.size,
    )

pub places_at-requires : goal.places_at-requires
places_at-requires c =
    omega (
      arith,
      order_within (map program_of c.args.modules.now) c.args.order.now
          (c.loop-left.left - 1) c.requires.order (omega (arith, c.loop-left-test.true, c.loop-left.invariant.within)),
      length-map c.args.modules.now program_of,
    )

pub loop-left-preserved-then-is_in : goal.loop-left-preserved-then-is_in
loop-left-preserved-then-is_in c =
    let ps = map program_of c.args.modules.now in
    let order = c.args.order.now in
    let k = c.loop-left.left - 1 in
    let set = c.loop-left.needed.items in
    let lt : k < length order = omega (arith, c.loop-left-test.true, c.loop-left.invariant.within) in
    let at = program_at ps (slice_index order k) (order_within ps order k c.requires.order lt) in
    let grown = c.add_places.ensures
    ∙ ap (with_places set) (c.deref-then-is_in.ensures.value ∙ c.in_ok-places_at.ensures at.0 at.1) in
    let now = are_added set (places_run ps at.0) in
    let before : k + 1 ≡ c.loop-left.left = omega (arith, c.loop-left-test.true) in
    record {
      within = omega (arith, c.loop-left.invariant.within);
      size = ap (λ xs. length xs) grown ∙ now.size ∙ c.loop-left.invariant.size;
      complete = subst (IsCompleteFrom ps order k) (sym grown)
          (complete_more ps order set k at.0 c.requires.order
          (c.loop-left.invariant.size ∙ sym (length-map c.args.modules.now program_of)) lt at.1
          (subst (λ n. IsCompleteFrom ps order n set) (sym before) c.loop-left.invariant.complete));
      main = subst (λ xs. IsIn xs c.args.main) (sym grown) (now.kept c.args.main c.loop-left.invariant.main);
    }

pub loop-left-preserved : goal.loop-left-preserved
loop-left-preserved c =
    let ps = map program_of c.args.modules.now in
    let order = c.args.order.now in
    let k = c.loop-left.left - 1 in
    let set = c.loop-left.needed.items in
    let before : k + 1 ≡ c.loop-left.left = omega (arith, c.loop-left-test.true) in
    record {
      within = omega (arith, c.loop-left.invariant.within);
      size = c.loop-left.invariant.size;
      complete = complete_past ps order set k
          (ap (λ xs. slice_index_or xs (slice_index order k) false) (sym c.deref.ensures.value) ∙ sym c.is_in.ensures
          ∙ c.if-is_in.false)
          (subst (λ n. IsCompleteFrom ps order n set) (sym before) c.loop-left.invariant.complete);
      main = c.loop-left.invariant.main;
    }

pub returns-clause-complete : goal.returns-clause-complete
returns-clause-complete c =
    let ps = map program_of c.args.modules.now in
    let none : c.loop-left.left ≡ 0 = omega arith in
    complete_whole ps c.args.order.now c.loop-left.needed.items c.requires.order
    (subst (λ n. IsCompleteFrom ps c.args.order.now n c.loop-left.needed.items) none c.loop-left.invariant.complete)

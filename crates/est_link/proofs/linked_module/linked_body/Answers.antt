use Rattle.std.proofs.Common.{◌≡◌, ◌∙◌, sym, ap, subst, List, ℕ, Bool, Some, map, length, arith}
use Rattle.std.proofs.lemmas.List.{length-map}
use Rattle.std.proofs.lemmas.Option.{slice_get_within}
use Rattle.std.proofs.lemmas.Result.{IfOk-weaker}
use Rattle.est_link.specs.Bodies.{HasSoundNames}
use Rattle.est_link.specs.Linking.{IsLinked}
use Rattle.est_order.specs.PlaceSets.{IsIn}
use Rattle.est_link.specs.Inner.Needs.{IsComplete}
use Rattle.est_link.specs.Inner.Tables.{bodies_of}
use Rattle.est_link.specs.MainModule.{declarations_of}
use Rattle.est_modules.specs.Modules.{Program, program_of, program_named}
use Rattle.est_link.proofs.MainBody.{main_bound}
use Rattle.est_modules.proofs.Ordering.{place_found}
use Rattle.est_link.proofs.Taking.{main_body, main_there, placed}
use Rattle.est_reduce.specs.Bound.{IsBound}
use Rattle.est_reduce.specs.Views.{body_of}
use Rattle.est_link.proofs.linked_module.linked_body.Goals as goal

pub needed_places-requires-clause-main : goal.needed_places-requires-clause-main
needed_places-requires-clause-main c =
    let ps = map program_of c.args.modules.now in
    let here = placed ps c.args.main.now c.in-Some.place
    (c.in-Some.ensures ∙ sym (place_found c.args.modules.now c.args.main.now)) in
    omega (arith, slice_get_within ps c.in-Some.place here.home here.at, length-map c.args.modules.now program_of)

pub bodies_along-requires-clause-size : goal.bodies_along-requires-clause-size
bodies_along-requires-clause-size c = ap (λ (xs : List Bool). length xs) c.deref.ensures.value
    ∙ c.in_ok-needed-in-Some.ensures.size

pub bodies_along-requires-clause-complete : goal.bodies_along-requires-clause-complete
bodies_along-requires-clause-complete c = subst (IsComplete (map program_of c.args.modules.now))
    (sym c.deref.ensures.value) c.in_ok-needed-in-Some.ensures.complete

pub returns-in_ok-bodies-in-Some-clause-linked : goal.returns-in_ok-bodies-in-Some-clause-linked
returns-in_ok-bodies-in-Some-clause-linked c =
    let ps = map program_of c.args.modules.now in
    let main = c.args.main.now in
    let at = c.in-Some.ensures ∙ sym (place_found c.args.modules.now main) in
    let here = placed ps main c.in-Some.place at in
    let table = c.in_ok-bodies-in-Some.ensures in
    IfOk-weaker c.close.result (λ b. body_of b ≡ bodies_of c.in_ok-bodies-in-Some.bodies main)
    (λ b. IsLinked ps main (body_of b))
    (λ b is. subst (IsLinked ps main) (sym is)
    (main_body ps c.deref.result.now c.in_ok-bodies-in-Some.bodies main c.in-Some.place table.right table.each
    (subst (λ xs. IsIn xs c.in-Some.place) (sym c.deref.ensures.value) c.in_ok-needed-in-Some.ensures.main) at here.home
    here.found).flat) c.close.ensures

pub returns-in_ok-bodies-in-Some-clause-bound : goal.returns-in_ok-bodies-in-Some-clause-bound
returns-in_ok-bodies-in-Some-clause-bound c =
    let ps = map program_of c.args.modules.now in
    let main = c.args.main.now in
    let at = c.in-Some.ensures ∙ sym (place_found c.args.modules.now main) in
    let table = c.in_ok-bodies-in-Some.ensures in
    IfOk-weaker c.close.result (λ b. body_of b ≡ bodies_of c.in_ok-bodies-in-Some.bodies main)
    (λ b. (em : List ℕ → List ℕ → Bool) (p : Program) → HasSoundNames ps em → program_named ps main ≡ Some p
    → IsBound (declarations_of p) 0 0 (body_of b))
    (λ b is em p names found. subst (IsBound (declarations_of p) 0 0) (sym is)
    (main_bound em p 0 0 (bodies_of c.in_ok-bodies-in-Some.bodies main)
    ((main_body ps c.deref.result.now c.in_ok-bodies-in-Some.bodies main c.in-Some.place table.right table.each
    (subst (λ xs. IsIn xs c.in-Some.place) (sym c.deref.ensures.value) c.in_ok-needed-in-Some.ensures.main) at p
    found).bound em names))) c.close.ensures

pub returns-in-None-clause-linked : goal.returns-in-None-clause-linked
returns-in-None-clause-linked c =
    absurd (main_there (map program_of c.args.modules.now) c.args.main.now c.requires.there
    (c.in-None.ensures ∙ sym (place_found c.args.modules.now c.args.main.now)))

use Rattle.std.proofs.Common.{◌≡◌, ℕ, ◌+◌, List, [], sym, ◌∙◌, ap, map, drop, suc, arith}
use Rattle.std.specs.Option.{option_or}
use Rattle.est_checks.specs.Emissions.{emitted_of, refused_at}
use Rattle.est_modules.specs.Modules.{program_of, first_in_bodies}
use Rattle.est_modules.specs.Occurrences.{first_of, occurrences}
use Rattle.est_modules.specs.declared.library_modules.LibraryModule.{LibraryModule}
use Rattle.est_checks.proofs.First.{next_home}
use Rattle.est_checks.proofs.input_emissions.first_refused.Goals as goal

pub returns-in-Some : goal.returns-in-Some
returns-in-Some c =
    let hs = c.as_slice-home-items.result.now in
    let i = c.loop-home.home-index in
    let f = refused_at (map program_of c.args.modules.now) (emitted_of c.args.table.now) in
    let rest = first_in_bodies f (map program_of (drop (suc i) hs)) in
    let here = ap (λ (h : LibraryModule). first_of (f (program_of h)) (occurrences [] (program_of h).body))
    (sym c.home-item.is)
    ∙ sym c.in_ok-name.ensures ∙ c.in-Some.is in
    sym (c.loop-home.invariant
    ∙ ap (λ (xs : List LibraryModule). first_in_bodies f (map program_of (drop i xs)))
    (sym c.as_slice-home-items.ensures)
    ∙ next_home f hs i c.home-item.result c.loop-home-test.true
    ∙ ap (λ o. option_or o rest) here)

pub loop-home-preserved : goal.loop-home-preserved
loop-home-preserved c =
    let hs = c.as_slice-home-items.result.now in
    let i = c.loop-home.home-index in
    let f = refused_at (map program_of c.args.modules.now) (emitted_of c.args.table.now) in
    let rest = first_in_bodies f (map program_of (drop (suc i) hs)) in
    let here = ap (λ (h : LibraryModule). first_of (f (program_of h)) (occurrences [] (program_of h).body))
    (sym c.home-item.is)
    ∙ sym c.in_ok-name.ensures ∙ c.in_default.is in
    let next : suc i ≡ i + 1 = omega arith in
    c.loop-home.invariant
    ∙ ap (λ (xs : List LibraryModule). first_in_bodies f (map program_of (drop i xs)))
    (sym c.as_slice-home-items.ensures)
    ∙ next_home f hs i c.home-item.result c.loop-home-test.true ∙ ap (λ o. option_or o rest) here
    ∙ ap (λ (k : ℕ). first_in_bodies f (map program_of (drop k hs))) next
    ∙ ap (λ (xs : List LibraryModule). first_in_bodies f (map program_of (drop (i + 1) xs)))
    c.as_slice-home-items.ensures

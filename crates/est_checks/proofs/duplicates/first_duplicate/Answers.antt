use Rattle.std.proofs.Common.{◌∙◌, List, [], map, take, ap, sym, arith, ◌+◌, ◌||◌}
use Rattle.std.specs.Str.{bytes_eq}
use Rattle.est_modules.specs.Modules.{program_of}
use Rattle.est_modules.specs.declared.library_modules.LibraryModule.{LibraryModule}
use Rattle.est_checks.specs.Duplicates.{duplicate_after, duplicate_of}
use Rattle.est_checks.proofs.Declaring.{module_found, module_name, module_passed, names_next}
use Rattle.est_checks.proofs.duplicates.first_duplicate.Goals as goal

pub returns-in-Some : goal.returns-in-Some
returns-in-Some c =
    let hs = c.as_slice-all.result.now in
    let k = c.loop-index.index in
    let seen = map module_name (take k hs) in
    module_found hs k c.index-all-index.result c.loop-index-test.true
    (sym c.in-Some.is ∙ c.in_ok-name.ensures.found seen c.loop-index.invariant.met
    ∙ ap (λ (h : LibraryModule). duplicate_of seen (program_of h)) c.index-all-index.is)
    ∙ sym c.loop-index.invariant.found
    ∙ ap (λ (xs : List LibraryModule). duplicate_after [] (map program_of xs)) c.as_slice-all.ensures

pub loop-index-preserved : goal.loop-index-preserved
loop-index-preserved c =
    let hs = c.as_slice-all.result.now in
    let k = c.loop-index.index in
    let item = c.index-all-index.result in
    let seen = map module_name (take k hs) in
    record {
      found = c.loop-index.invariant.found ∙ module_passed hs k (k + 1) item c.loop-index-test.true (omega arith)
          (sym c.in_default.is ∙ c.in_ok-name.ensures.found seen c.loop-index.invariant.met
          ∙ ap (λ (h : LibraryModule). duplicate_of seen (program_of h)) c.index-all-index.is);
      met = λ s.
          c.in_ok-name.ensures.met c.in_default.is s
          ∙ ap (λ b. b || bytes_eq item.name s) (c.loop-index.invariant.met s)
          ∙ names_next hs k item s c.index-all-index.is c.loop-index-test.true;
    }

use Rattle.std.proofs.Common.{◌≡◌, ◌∙◌, ◌||◌, List, ℕ, true, codes, map, sym, ap, subst}
use Rattle.std.proofs.lemmas.List.{take_all}
use Rattle.std.specs.List.{list_any}
use Rattle.est_modules.specs.Modules.{Program, is_declared, program_of}
use Rattle.est_modules.specs.NameTables.{is_numbered}
use Rattle.est_modules.specs.Visible.{is_tick, stands_in}
use Rattle.est_modules.specs.declared.library_modules.LibraryModule.{LibraryModule}
use Rattle.est_modules.proofs.Numbering.{numbered_by}
use Rattle.est_modules.proofs.Testing.{same_bytes, same_or}
use Rattle.est_modules.proofs.names.table.numbered.Goals as goal

pub loop-home-init : goal.loop-home-init
loop-home-init c = record {
  table = c.in_ok-add_names.ensures.table;
  has = λ s. same_or (is_numbered c.add_names.new.table s);
}

pub returns-clause-numbered : goal.returns-clause-numbered
returns-clause-numbered c s h =
    let declared = λ (hs : List LibraryModule). list_any (λ (p : Program). is_declared p.interface s)
    (map program_of hs) in
    c.loop-home.invariant.has s
    ∙ ap (λ (hs : List LibraryModule). is_numbered c.add_names.new.table s || declared hs)
    (take_all c.loop-home.home-index c.as_slice-home-items.result.now c.loop-home-test.false
    ∙ c.as_slice-home-items.ensures)
    ∙ numbered_by (is_numbered c.new-table.result s) (stands_in c.args.further.now s)
    (is_numbered c.add_names.new.table s) (declared c.args.modules.now) (is_tick s)
    (c.in_ok-add_names.ensures.has s)
    (λ tick. subst (λ (n : List ℕ). stands_in c.args.further.now n ≡ true) (sym (same_bytes s (codes "tick") tick))
    c.requires)
    h

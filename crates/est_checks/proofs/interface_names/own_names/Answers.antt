use Rattle.std.proofs.Common.{◌∙◌, ◌||◌, ℕ, List, codes, map, ap}
use Rattle.std.specs.Str.{bytes_eq}
use Rattle.est_modules.specs.Modules.{is_declared}
use Rattle.est_modules.specs.Visible.{is_tick, stands_in}
use Rattle.est_modules.specs.declared.interface.Declared.{Declared}
use Rattle.est_modules.proofs.Lists.{any_map}
use Rattle.est_modules.proofs.TellingNumbers.{adds_both, adds_same, tells_first}
use Rattle.est_checks.proofs.Noting.{turned}
use Rattle.est_checks.proofs.interface_names.own_names.Goals as goal

pub returns : goal.returns
returns c =
    let t = c.args.table.now in
    let ds = c.args.home.now.interface in
    let own = λ (s : List ℕ). is_declared ds s || is_tick s in
    let names = c.deref.result.now in
    let tick = c.tick.result in
    let first = c.new-own.result in
    let last = c.put_name.new.numbers in
    tells_first t own first last c.new-own.ensures
    (adds_same t (λ s. stands_in names s || bytes_eq tick s) own first last
    (λ s. ap (λ (ns : List (List ℕ)). stands_in ns s || bytes_eq tick s)
    (c.deref.ensures.value ∙ c.in_ok-names.ensures ∙ ap (map (λ (d : Declared). d.name)) c.signals.ensures)
    ∙ ap (λ b. b || bytes_eq tick s) (any_map (λ n. bytes_eq n s) (λ (d : Declared). d.name) ds)
    ∙ ap (λ (n : List ℕ). is_declared ds s || bytes_eq n s) c.tick.ensures
    ∙ ap (λ b. is_declared ds s || b) (turned (codes "tick") s))
    (adds_both t (stands_in names) (bytes_eq tick) first c.put_names.new.numbers last c.in_ok-put_names.ensures
    c.in_ok-put_name.ensures))

use Rattle.std.proofs.Common.{◌∙◌, ◌||◌, ◌&&◌, ℕ, List, not, map, filter, ap}
use Rattle.std.proofs.lemmas.Result.{IfOk-weaker}
use Rattle.std.specs.Str.{bytes_eq}
use Rattle.est_modules.specs.Modules.{is_declared, is_input}
use Rattle.est_modules.specs.NameSets.{has}
use Rattle.est_modules.specs.Visible.{is_tick, stands_in}
use Rattle.est_modules.specs.declared.interface.Declared.{Declared}
use Rattle.est_modules.proofs.Lists.{any_map}
use Rattle.est_modules.proofs.TellingNumbers.{tells_same}
use Rattle.est_checks.proofs.Leaving.{stands_left}
use Rattle.est_checks.proofs.allowed_names.allowed_names.Goals as goal

pub returns : goal.returns
returns c =
    let ds = c.args.home.now.interface in
    let names = map (λ (d : Declared). d.name) ds in
    let other = λ (n : List ℕ). not (has c.args.inputs.now n || is_tick n) in
    IfOk-weaker c.numbers_among.result _ _
    (λ set tells. tells_same c.args.table.now (stands_in c.deref.result.now)
    (λ s. not (is_input ds s || is_tick s) && is_declared ds s) set
    (λ s. ap (λ (ns : List (List ℕ)). stands_in ns s)
    (c.deref.ensures.value ∙ c.in_ok-others.ensures
    ∙ ap (λ (l : List Declared). filter other (map (λ (d : Declared). d.name) l)) c.signals.ensures)
    ∙ stands_left other names s
    ∙ ap (λ b. not (b || is_tick s) && stands_in names s) (c.requires.inputs s)
    ∙ ap (λ b. not (is_input ds s || is_tick s) && b)
    (any_map (λ n. bytes_eq n s) (λ (d : Declared). d.name) ds)) tells)
    c.numbers_among.ensures

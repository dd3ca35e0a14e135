use Rattle.std.proofs.Common.{◌≡◌, ◌∙◌, ◌+◌, ◌<◌, List, [], ◌++◌, OnOk, ap, arith, length, sym, subst}
use Rattle.est_kernel.specs.declared.interface.Declaration.{Declaration}
use Rattle.est_kernel.specs.declared.interface.Kind.TheVariants.{Input}
use Rattle.lab_lines.specs.Inner.LineParts.{names_left}
use Rattle.lab_lines.proofs.LineLemmas.{name_later, name_there}
use Rattle.lab_lines.proofs.line_parts.write_name_if.Goals as goal

pub returns-then-has : goal.returns-then-has
returns-then-has c =
    let all = c.declarations-declarations.ensures.all in
    let place = c.args.place in
    let within : place < length c.declarations-declarations.result.now = omega (arith, c.requires, ap length all) in
    subst (λ (ds : List Declaration). OnOk c.text_value.result
    (c.text_value.new.self ++ names_left ds c.args.signals (place + 1)
    ≡ c.args.line.now ++ names_left ds c.args.signals place)) all
    (name_there c.text_value.result c.declarations-declarations.result.now place c.args.signals
    c.index-declarations-place.result
    c.args.line.now c.text_value.new.self within (sym c.has.ensures ∙ c.if-has.true)
    (rw c.as_str.ensures.same at c.text_value.ensures))

pub returns-else-has : goal.returns-else-has
returns-else-has c =
    name_later c.args.interface.now c.args.place c.args.signals (record { name = []; kind = Input }) c.args.line.now
    c.requires (sym c.has.ensures ∙ c.if-has.false)

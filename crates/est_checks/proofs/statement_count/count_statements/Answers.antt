use Rattle.std.proofs.Common.{ℕ, List, Some, None, map, min, subst, ap, ◌∙◌}
use Rattle.est_modules.specs.Modules.{program_of}
use Rattle.est_checks.specs.Inner.Numbers.{IsFilled, number_of}
use Rattle.est_checks.specs.declared.statement_count.TheConstants.{TOO_MANY}
use Rattle.est_checks.proofs.Filling.{is_count, within_limit, past_limit}
use Rattle.est_checks.proofs.statement_count.count_statements.Goals as goal

pub returns-then-number-le-MOST_STATEMENTS : goal.returns-then-number-le-MOST_STATEMENTS
returns-then-number-le-MOST_STATEMENTS c =
    let ps = map program_of c.args.modules.now in
    let filled = subst (λ (order : List ℕ). IsFilled ps order c.in_ok-numbers.numbers.items) c.places.ensures
    c.in_ok-numbers.ensures in
    let number = c.number_of_module-number.ensures ∙ ap (λ (t : List ℕ). min TOO_MANY (number_of ps t c.args.main.now))
    c.deref.ensures.value in
    is_count ps c.args.order.now c.in_ok-numbers.numbers.items c.requires filled c.args.main.now
    c.number_of_module-number.result (Some c.number_of_module-number.result) number
    (λ whole e. within_limit c.number_of_module-number.result whole e c.if-number-le-MOST_STATEMENTS.true)

pub returns : goal.returns
returns c =
    let ps = map program_of c.args.modules.now in
    let filled = subst (λ (order : List ℕ). IsFilled ps order c.in_ok-numbers.numbers.items) c.places.ensures
    c.in_ok-numbers.ensures in
    let number = c.number_of_module-number.ensures ∙ ap (λ (t : List ℕ). min TOO_MANY (number_of ps t c.args.main.now))
    c.deref.ensures.value in
    is_count ps c.args.order.now c.in_ok-numbers.numbers.items c.requires filled c.args.main.now
    c.number_of_module-number.result None number
    (λ whole e. past_limit c.number_of_module-number.result whole e c.if-number-le-MOST_STATEMENTS.false)

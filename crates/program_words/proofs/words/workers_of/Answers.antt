use Rattle.std.proofs.Common.{◌≡◌, ◌∙◌, ℕ, Bool, true, false, Option, Some, None, cond, ap, sym, codes}
use Rattle.std.specs.Option.{UnwrapsOrElse, option_map_or}
use Rattle.clap.specs.Words.{found_of}
use Rattle.program_words.specs.Counts.{may_work}
use Rattle.program_words.specs.Words.{allowed}
use Rattle.program_words.specs.declared.invocation.TheConstants.{DEFAULT_WORKERS}
use Rattle.program_words.proofs.CommandLines.{number_is}
use Rattle.program_words.proofs.words.workers_of.Goals as goal

allowed_by : (b : Bool) (count r : ℕ) (o : Option ℕ) → o ≡ cond b (Some count) None
    → UnwrapsOrElse o (λ w. w ≡ DEFAULT_WORKERS) r
    → r ≡ cond b count DEFAULT_WORKERS
allowed_by true count r o e h = rw e at h
allowed_by false count r o e h = rw e at h

abbrev workers_for : Option ℕ → ℕ
workers_for number = option_map_or allowed number DEFAULT_WORKERS

pub returns-in-Some : goal.returns-in-Some
returns-in-Some c =
    let found = found_of c.args.matches.now in
    let read = c.get_one.ensures in
    let is = number_is found (codes "workers") c.get_one.result read.none read.value in
    let count = c.in-Some.count in
    allowed_by (may_work count) count c.unwrap_or_default.result c.new.result c.new.ensures c.unwrap_or_default.ensures
    ∙ ap workers_for (sym c.in-Some.is ∙ is)

pub returns-in-None : goal.returns-in-None
returns-in-None c =
    let found = found_of c.args.matches.now in
    let read = c.get_one.ensures in
    let is = number_is found (codes "workers") c.get_one.result read.none read.value in
    c.default.ensures ∙ ap workers_for (sym c.in-None.is ∙ is)

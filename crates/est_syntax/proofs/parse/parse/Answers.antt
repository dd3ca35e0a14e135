use Rattle.std.proofs.Common.{◌∙◌, ◌-◌, List, length, sym, ap, subst}
use Rattle.est_text.specs.declared.token.Token.{Token}
use Rattle.est_text.specs.declared.token.Located.{Located}
use Rattle.est_syntax.specs.declared.fault.ParserStop.{ParserStop}
use Rattle.est_syntax.specs.declared.fault.ParserStop.TheVariants.{Syntax, TooDeep}
use Rattle.est_syntax.specs.Grammar.{tokens_of}
use Rattle.est_syntax.specs.Faults.{IsSyntaxFault, IsTooDeep}
use Rattle.est_syntax.specs.Inner.Modules.{Stops}
use Rattle.est_syntax.specs.declared.parse.TheConstants.{MOST_OPEN_UNITS}
use Rattle.est_syntax.proofs.Libraries.{start, wrong_in, deep_in, wrong_at, deep_at, never_wrong, never_deep}
use Rattle.est_syntax.proofs.Unique.{one_library}
use Rattle.est_syntax.specs.Views.{library_view}
use Rattle.est_syntax.proofs.parse.parse.Goals as goal

pub overflow_sub-located : goal.overflow_sub-located
overflow_sub-located c =
    wrong_in c.as_slice-located.result.now c.in-Err-Syntax.left
    (subst (λ (bs : List Token). Stops start bs (Syntax c.in-Err-Syntax.left)) c.new-cursor.ensures
    (subst (λ (e : ParserStop). Stops start c.new-cursor.result e) c.in-Err-Syntax.field-0-is
    c.in-Err-Syntax.ensures.err))

pub overflow_sub-located-in-Err-TooDeep : goal.overflow_sub-located-in-Err-TooDeep
overflow_sub-located-in-Err-TooDeep c =
    deep_in c.as_slice-located.result.now c.in-Err-TooDeep.left
    (subst (λ (bs : List Token). Stops start bs (TooDeep c.in-Err-TooDeep.left)) c.new-cursor.ensures
    (subst (λ (e : ParserStop). Stops start c.new-cursor.result e) c.in-Err-TooDeep.field-0-is
    c.in-Err-TooDeep.ensures.err))

pub returns-in-Err-Syntax-clause-fault : goal.returns-in-Err-Syntax-clause-fault
returns-in-Err-Syntax-clause-fault c =
    let at = length c.as_slice-located.result.now - c.in-Err-Syntax.left in
    let stop = subst (λ (bs : List Token). Stops start bs (Syntax c.in-Err-Syntax.left)) c.new-cursor.ensures
    (subst (λ (e : ParserStop). Stops start c.new-cursor.result e) c.in-Err-Syntax.field-0-is
    c.in-Err-Syntax.ensures.err) in (
      at,
      c.place.ensures,
      subst (λ (ls : List Located). IsSyntaxFault MOST_OPEN_UNITS (tokens_of ls) at) c.as_slice-located.ensures.same
          (wrong_at c.as_slice-located.result.now c.in-Err-Syntax.left stop),
    )

pub returns-in-Err-TooDeep-clause-fault : goal.returns-in-Err-TooDeep-clause-fault
returns-in-Err-TooDeep-clause-fault c =
    let at = length c.as_slice-located.result.now - c.in-Err-TooDeep.left in
    let stop = subst (λ (bs : List Token). Stops start bs (TooDeep c.in-Err-TooDeep.left)) c.new-cursor.ensures
    (subst (λ (e : ParserStop). Stops start c.new-cursor.result e) c.in-Err-TooDeep.field-0-is
    c.in-Err-TooDeep.ensures.err) in (
      at,
      c.place-in-Err-TooDeep.ensures,
      subst (λ (ls : List Located). IsTooDeep MOST_OPEN_UNITS (tokens_of ls) at) c.as_slice-located.ensures.same
          (deep_at c.as_slice-located.result.now c.in-Err-TooDeep.left stop),
    )

pub returns-in-Ok-clause-takes : goal.returns-in-Ok-clause-takes
returns-in-Ok-clause-takes c = λ l e r.
    one_library (library_view c.in-Ok.library) l
    (sym c.in-Ok.ensures.ok.spelt ∙ c.new-cursor.ensures ∙ ap tokens_of c.as_slice-located.ensures.same ∙ e)

pub returns-in-Err-Syntax-clause-takes : goal.returns-in-Err-Syntax-clause-takes
returns-in-Err-Syntax-clause-takes c = λ l e r.
    let stop = subst (λ (bs : List Token). Stops start bs (Syntax c.in-Err-Syntax.left)) c.new-cursor.ensures
    (subst (λ (x : ParserStop). Stops start c.new-cursor.result x) c.in-Err-Syntax.field-0-is
    c.in-Err-Syntax.ensures.err) in
    absurd (never_wrong c.as_slice-located.result.now c.in-Err-Syntax.left l stop
    (ap tokens_of c.as_slice-located.ensures.same ∙ e) r)

pub returns-in-Err-TooDeep-clause-takes : goal.returns-in-Err-TooDeep-clause-takes
returns-in-Err-TooDeep-clause-takes c = λ l e r.
    let stop = subst (λ (bs : List Token). Stops start bs (TooDeep c.in-Err-TooDeep.left)) c.new-cursor.ensures
    (subst (λ (x : ParserStop). Stops start c.new-cursor.result x) c.in-Err-TooDeep.field-0-is
    c.in-Err-TooDeep.ensures.err) in
    absurd (never_deep c.as_slice-located.result.now c.in-Err-TooDeep.left l stop
    (ap tokens_of c.as_slice-located.ensures.same ∙ e) r)

use Rattle.std.proofs.Common.{◌≡◌, ◌∙◌, ◌∷◌, ◌-◌, [], List, length, suc, ap, sym, subst, map, refl, rules, arith}
use Rattle.std.specs.Prelude.{Option, Some, None}
use Rattle.std.proofs.lemmas.Result.{err_from_is_err_and, IfOk-weaker, IfErr-weaker}
use Rattle.std.proofs.lemmas.List.{map-append}
use Rattle.est_text.specs.declared.token.Token.{Token}
use Rattle.est_syntax.specs.declared.fault.ParserStop.{ParserStop}
use Rattle.est_syntax.specs.declared.tree.Branches.TheViews.{roll-Sequence, roll-Statement}
use Rattle.est_syntax.specs.declared.tree.Branches.TheFolds.{the_lemmas}
use Rattle.est_syntax.specs.declared.tree.Unit.{Unit as UnitValue}
use Rattle.est_syntax.specs.declared.tree.Sequence.{Sequence as SequenceValue}
use Rattle.est_syntax.specs.declared.units.Opener.TheVariants as opener
use Rattle.est_syntax.specs.Tree.{UnitTree, SequenceTree, StatementTree}
use Rattle.est_syntax.specs.Tree.{sequence as sequence_tree, statement as statement_tree}
use Rattle.est_syntax.specs.Grammar.{unit_onto, unit_depth, sequence_onto, sequence_depth, statement_onto}
use Rattle.est_syntax.specs.Grammar.{statement_depth}
use Rattle.est_syntax.specs.Views.{unit_view, sequence_view, statement_view, units_of, sequences_of}
use Rattle.est_syntax.specs.Inner.Machine.{run, wrong, test, branches, leave, unit, sequence, sequence_tail, statement}
use Rattle.est_syntax.specs.Inner.Machine.{statement_tail}
use Rattle.est_syntax.specs.Inner.Frames.{IsPlain, IsOpened, IsTail, opener_token, opener_wants, frame_wants}
use Rattle.est_syntax.specs.Inner.Frames.{head_wants}
use Rattle.est_syntax.specs.Inner.Parsing.{IsPart, FailsIn}
use Rattle.est_syntax.specs.declared.parse.TheConstants.{MOST_OPEN_UNITS}
use Rattle.est_syntax.proofs.Runs.{sequence_is, statement_is}
use Rattle.est_syntax.proofs.Opening.{in_in, round_tail, round_side, round_any, round_open, round_branches}
use Rattle.est_syntax.proofs.Parts as part
use Rattle.est_syntax.proofs.statements.+parse.Goals as goal

-- ---- a sequence

pub sequence-returns-in_err-first-clause-err : goal.sequence-returns-in_err-first-clause-err
sequence-returns-in_err-first-clause-err t c =
    let p = err_from_is_err_and c.from_residual.result c.from_residual.ensures.1 in
    let bs = c.args.cursor.now in
    rw (p.1, p.2) (in_in c.args.room c.args.room (Some c.args.ends) (Some c.args.ends) (sequence ∷ []) (unit ∷ [])
    (λ s. sequence_tail ∷ s) bs bs c.in_err-first.field-0.0 (λ s r. round_tail c.args.room c.args.ends s r)
    (λ s r. sequence_is MOST_OPEN_UNITS s bs) c.in_err-first.ensures.err)

pub sequence-returns-in_err-later-clause-err : goal.sequence-returns-in_err-later-clause-err
sequence-returns-in_err-later-clause-err t c =
    let p = err_from_is_err_and c.from_residual-in_err-later.result c.from_residual-in_err-later.ensures.1 in
    let bs = c.args.cursor.now in
    rw (p.1, p.2) (in_in c.args.room c.args.room (Some c.args.ends) (Some c.args.ends) (sequence ∷ [])
    (sequence_tail ∷ []) (λ s. s) bs c.unit.new.cursor c.in_err-later.field-0.0 (λ s r. r)
    (λ s r. sequence_is MOST_OPEN_UNITS s bs
    ∙ c.in_ok-first.ensures.ok.passes (sequence_tail ∷ s) (round_tail c.args.room c.args.ends s r))
    c.in_err-later.ensures.err)

pub sequence-returns-clause-ok : goal.sequence-returns-clause-ok
sequence-returns-clause-ok t c =
    let us = units_of (map unit_view c.in_ok-later.later.items) in
    let p = part.sequence_part c.args.room c.args.ends
    (unit_view c.in_ok-first.first) us c.in_ok-later.closed c.args.cursor.now c.unit.new.cursor
    c.later_units.new.cursor c.in_ok-first.ensures.ok c.in_ok-later.ensures.ok in
    let q : sequence_view (roll-Sequence record {
      first = c.in_ok-first-2.first;
      later = c.in_ok-later.later;
      closed = c.in_ok-later.closed;
    }) ≡ sequence_tree (unit_view c.in_ok-first-2.first.value) us c.in_ok-later.closed = search (rules, the_lemmas) in
    let e = q ∙ ap (λ (u : UnitValue). sequence_tree (unit_view u) us c.in_ok-later.closed)
    c.in_ok-first-2.ensures.ok in
    subst (λ (x : SequenceTree). IsPart c.args.room (Some c.args.ends) (sequence ∷ [])
    (sequence_onto x c.later_units.new.cursor) (sequence_depth x) c.args.cursor.now c.later_units.new.cursor) (sym e) p

-- ---- a statement

pub statement-returns-in_err-first-clause-err : goal.statement-returns-in_err-first-clause-err
statement-returns-in_err-first-clause-err t c =
    let p = err_from_is_err_and c.from_residual.result c.from_residual.ensures.1 in
    let bs = c.args.cursor.now in
    rw (p.1, p.2) (in_in c.args.room c.args.room (Some c.args.ends) (Some c.args.ends) (statement ∷ [])
    (sequence ∷ []) (λ s. statement_tail ∷ s) bs bs c.in_err-first.field-0.0
    (λ s r. round_side c.args.room c.args.ends s r) (λ s r. statement_is MOST_OPEN_UNITS s bs)
    c.in_err-first.ensures.err)

pub statement-returns-in_err-later-clause-err : goal.statement-returns-in_err-later-clause-err
statement-returns-in_err-later-clause-err t c =
    let p = err_from_is_err_and c.from_residual-in_err-later.result c.from_residual-in_err-later.ensures.1 in
    let bs = c.args.cursor.now in
    rw (p.1, p.2) (in_in c.args.room c.args.room (Some c.args.ends) (Some c.args.ends) (statement ∷ [])
    (statement_tail ∷ []) (λ s. s) bs c.sequence.new.cursor c.in_err-later.field-0.0 (λ s r. r)
    (λ s r. statement_is MOST_OPEN_UNITS s bs
    ∙ c.in_ok-first.ensures.ok.passes (statement_tail ∷ s) (round_side c.args.room c.args.ends s r))
    c.in_err-later.ensures.err)

pub statement-returns-clause-ok : goal.statement-returns-clause-ok
statement-returns-clause-ok t c =
    let qs = sequences_of (map sequence_view c.in_ok-later.later.items) in
    let p = part.statement_part c.args.room c.args.ends
    (sequence_view c.in_ok-first.first) qs c.args.cursor.now c.sequence.new.cursor c.later_sequences.new.cursor
    c.in_ok-first.ensures.ok c.in_ok-later.ensures.ok in
    let q : statement_view (roll-Statement record { first = c.in_ok-first-2.first; later = c.in_ok-later.later })
    ≡ statement_tree (sequence_view c.in_ok-first-2.first.value) qs = search (rules, the_lemmas) in
    let e = q ∙ ap (λ (x : SequenceValue). statement_tree (sequence_view x) qs) c.in_ok-first-2.ensures.ok in
    subst (λ (x : StatementTree). IsPart c.args.room (Some c.args.ends) (statement ∷ [])
    (statement_onto x c.later_sequences.new.cursor) (statement_depth x) c.args.cursor.now c.later_sequences.new.cursor)
    (sym e) p

-- ---- a test

pub tested-returns-in_err-asked-clause-err : goal.tested-returns-in_err-asked-clause-err
tested-returns-in_err-asked-clause-err t c =
    let p = err_from_is_err_and c.from_residual.result c.from_residual.ensures.1 in
    let bs = c.args.cursor.now in
    rw (p.1, p.2) (in_in (suc c.args.room) c.args.room None None (test ∷ branches ∷ leave ∷ []) (test ∷ [])
    (λ s. branches ∷ leave ∷ s) bs bs c.in_err-asked.field-0.0
    (λ s r. round_open c.args.room branches None s r refl) (λ s r. refl) c.in_err-asked.ensures.err)

pub tested-returns-in_err-chosen-clause-err : goal.tested-returns-in_err-chosen-clause-err
tested-returns-in_err-chosen-clause-err t c =
    let p = err_from_is_err_and c.from_residual-in_err-chosen.result c.from_residual-in_err-chosen.ensures.1 in
    rw (p.1, p.2) (in_in (suc c.args.room) c.args.room None None (test ∷ branches ∷ leave ∷ []) (branches ∷ [])
    (λ s. leave ∷ s) c.args.cursor.now c.test.new.cursor c.in_err-chosen.field-0.0
    (λ s r. round_branches c.args.room None s r)
    (λ s r. c.in_ok-asked.ensures.ok.passes (branches ∷ leave ∷ s) (round_open c.args.room branches None s r refl))
    c.in_err-chosen.ensures.err)

pub tested-returns-clause-ok : goal.tested-returns-clause-ok
tested-returns-clause-ok t c =
    part.tested_part c.args.room c.in_ok-asked.asked c.in_ok-chosen.chosen c.args.cursor.now c.test.new.cursor
    c.branches.new.cursor c.in_ok-asked.ensures.ok c.in_ok-chosen.ensures.ok

-- ---- a frame

pub framed-returns-in_err-head-clause-err : goal.framed-returns-in_err-head-clause-err
framed-returns-in_err-head-clause-err t c =
    let p = err_from_is_err_and c.from_residual.result c.from_residual.ensures.1 in
    let bs = c.args.cursor.now in
    rw (p.1, p.2) (in_in (suc c.args.room) (suc c.args.room) (Some c.args.ends) None (frame_wants c.args.frame)
    (frame_wants c.args.frame) (λ s. s) bs bs c.in_err-head.field-0.0
    (λ s r. round_any (suc c.args.room) (Some c.args.ends) s r) (λ s r. refl) c.in_err-head.ensures.err)

pub framed-returns-in_err-body-clause-err : goal.framed-returns-in_err-body-clause-err
framed-returns-in_err-body-clause-err t c =
    let p = err_from_is_err_and c.from_residual-in_err-body.result c.from_residual-in_err-body.ensures.1 in
    rw (p.1, p.2) (part.framed_body_fails c.args.room c.args.ends c.args.frame c.in_ok-head.head c.takes_end.result
    c.args.cursor.now c.head_of.new.cursor c.in_err-body.field-0.0 c.in_ok-head.ensures.ok c.takes_end.ensures
    c.in_err-body.ensures.err)

pub framed-returns-clause-ok : goal.framed-returns-clause-ok
framed-returns-clause-ok t c =
    let old = c.args.cursor.now in
    let new = c.tail.new.cursor in
    let body = statement_view c.in_ok-body.body in
    IfOk-weaker c.tail.result
    (λ (u : UnitValue). IsTail c.args.room (Some c.args.ends) c.in_ok-head.head body u c.statement.new.cursor
    new) (λ (u : UnitValue). IsOpened c.args.room (Some c.args.ends) (opener.Frame c.args.frame) u old new)
    (λ u h. part.framed_part c.args.room c.args.ends c.args.frame c.in_ok-head.head c.takes_end.result body u old
    c.head_of.new.cursor c.statement.new.cursor new c.in_ok-head.ensures.ok c.takes_end.ensures
    c.in_ok-body.ensures.ok h) c.tail.ensures.ok

pub framed-returns-clause-err : goal.framed-returns-clause-err
framed-returns-clause-err t c =
    let old = c.args.cursor.now in
    let body = statement_view c.in_ok-body.body in
    IfErr-weaker c.tail.result (λ (x : ParserStop). FailsIn (suc c.args.room) (Some c.args.ends)
    (head_wants c.in_ok-head.head) c.statement.new.cursor x)
    (λ (x : ParserStop). FailsIn (suc c.args.room) (Some c.args.ends) (frame_wants c.args.frame) old x)
    (λ x h. part.framed_tail_fails c.args.room c.args.ends c.args.frame c.in_ok-head.head c.takes_end.result body old
    c.head_of.new.cursor c.statement.new.cursor x c.in_ok-head.ensures.ok c.takes_end.ensures c.in_ok-body.ensures.ok
    h) c.tail.ensures.err

-- ---- a unit

pub unit-returns-in_default-clause-err : goal.unit-returns-in_default-clause-err
unit-returns-in_default-clause-err t c = (
  c.args.cursor.now,
  c.count-here.ensures,
  λ s r. ap (run MOST_OPEN_UNITS (unit ∷ s)) c.in_default.ensures ∙ ap wrong (sym c.in_default.ensures),
)

pub unit-returns-in_err-plain-clause-err : goal.unit-returns-in_err-plain-clause-err
unit-returns-in_err-plain-clause-err t c =
    let p = err_from_is_err_and c.from_residual.result c.from_residual.ensures.1 in
    rw (p.1, p.2) (in_in c.args.room c.args.room (Some c.args.ends) None (unit ∷ []) (unit ∷ []) (λ s. s)
    c.args.cursor.now (c.in-Some.first.now ∷ c.next.new.self) c.in_err-plain.field-0.0
    (λ s r. round_any c.args.room (Some c.args.ends) s r)
    (λ s r. ap (run MOST_OPEN_UNITS (unit ∷ s)) c.in-Some.ensures) c.in_err-plain.ensures.err)

pub unit-returns-in-Some-2-clause-ok : goal.unit-returns-in-Some-2-clause-ok
unit-returns-in-Some-2-clause-ok t c =
    let mid = c.next.new.self in
    let new = c.plain_unit.new.cursor in
    part.plain_part c.args.room c.args.ends c.in-Some.first.now c.in-Some-2.plain c.args.cursor.now mid new
    c.in-Some.ensures
    (subst (λ (o : Option UnitValue). IsPlain c.args.room c.in-Some.first.now o mid new) c.in-Some-2.is
    c.in_ok-plain.ensures.ok)

pub unit-returns-in_default-opener_of-clause-err : goal.unit-returns-in_default-opener_of-clause-err
unit-returns-in_default-opener_of-clause-err t c =
    let first = c.in-Some.first.now in
    let mid = c.next.new.self in
    let plain = subst (λ (o : Option UnitValue). IsPlain c.args.room first o mid c.plain_unit.new.cursor)
    c.in_default-2.is
    c.in_ok-plain.ensures.ok in (
      c.args.cursor.now,
      c.count-here.ensures,
      λ s r. ap (run MOST_OPEN_UNITS (unit ∷ s)) c.in-Some.ensures
          ∙ part.unit_refused first s mid (c.in_default-opener_of.ensures plain.1) ∙ ap wrong (sym c.in-Some.ensures),
    )

pub unit-returns-then-room-eq0-clause-err : goal.unit-returns-then-room-eq0-clause-err
unit-returns-then-room-eq0-clause-err t c = (
  c.args.cursor.now,
  c.count-here.ensures,
  λ s r. part.opens_too_deep c.args.room c.args.ends c.in-Some-opener_of.opener c.in-Some.first.now s
      c.args.cursor.now c.next.new.self c.if-room-eq0.true c.in-Some.ensures c.in-Some-opener_of.ensures r,
)

pub unit-returns-in-Test-clause-ok : goal.unit-returns-in-Test-clause-ok
unit-returns-in-Test-clause-ok t c =
    let old = c.args.cursor.now in
    let mid = c.plain_unit.new.cursor in
    let new = c.tested.new.cursor in
    let first = c.in-Some.first.now in
    let plain =
    subst (λ (o : Option UnitValue). IsPlain c.args.room first o c.next.new.self mid) c.in_default-2.is
    c.in_ok-plain.ensures.ok in
    let start : old ≡ first ∷ mid = c.in-Some.ensures ∙ ap (λ (l : List Token). first ∷ l) (sym plain.0) in
    let less : c.args.room ≡ suc (c.args.room - 1) = omega (arith, c.if-room-eq0.false) in
    IfOk-weaker c.tested.result (λ (u : UnitValue). IsOpened (c.args.room - 1) None opener.Test u mid new)
    (λ (u : UnitValue). IsPart c.args.room (Some c.args.ends) (unit ∷ []) (unit_onto (unit_view u) new)
    (unit_depth (unit_view u)) old new)
    (λ u h. part.opened_part c.args.room
    (c.args.room - 1) c.args.ends None opener.Test first u old mid new less start
    (c.in-Some-opener_of.ensures ∙ ap opener_token c.in-Test.is)
    (λ s r. round_any c.args.room (Some c.args.ends) s r) h) c.tested.ensures.ok

pub unit-returns-in-Test-clause-err : goal.unit-returns-in-Test-clause-err
unit-returns-in-Test-clause-err t c =
    let old = c.args.cursor.now in
    let mid = c.plain_unit.new.cursor in
    let first = c.in-Some.first.now in
    let plain =
    subst (λ (o : Option UnitValue). IsPlain c.args.room first o c.next.new.self mid) c.in_default-2.is
    c.in_ok-plain.ensures.ok in
    let start : old ≡ first ∷ mid = c.in-Some.ensures ∙ ap (λ (l : List Token). first ∷ l) (sym plain.0) in
    let less : c.args.room ≡ suc (c.args.room - 1) = omega (arith, c.if-room-eq0.false) in
    IfErr-weaker c.tested.result (λ (x : ParserStop). FailsIn (suc (c.args.room - 1)) None
    (opener_wants opener.Test) mid x) (λ (x : ParserStop). FailsIn c.args.room (Some c.args.ends) (unit ∷ []) old x)
    (λ x h. part.opened_fails c.args.room (c.args.room - 1) c.args.ends None opener.Test first old mid x less start
    (c.in-Some-opener_of.ensures ∙ ap opener_token c.in-Test.is)
    (λ s r. round_any c.args.room (Some c.args.ends) s r) h) c.tested.ensures.err

pub unit-returns-in-Frame-clause-ok : goal.unit-returns-in-Frame-clause-ok
unit-returns-in-Frame-clause-ok t c =
    let old = c.args.cursor.now in
    let mid = c.plain_unit.new.cursor in
    let new = c.framed.new.cursor in
    let first = c.in-Some.first.now in
    let frame = opener.Frame c.in-Frame.frame in
    let plain =
    subst (λ (o : Option UnitValue). IsPlain c.args.room first o c.next.new.self mid) c.in_default-2.is
    c.in_ok-plain.ensures.ok in
    let start : old ≡ first ∷ mid = c.in-Some.ensures ∙ ap (λ (l : List Token). first ∷ l) (sym plain.0) in
    let less : c.args.room ≡ suc (c.args.room - 1) = omega (arith, c.if-room-eq0.false) in
    IfOk-weaker c.framed.result (λ (u : UnitValue). IsOpened (c.args.room - 1) (Some c.args.ends) frame u mid new)
    (λ (u : UnitValue). IsPart c.args.room (Some c.args.ends) (unit ∷ []) (unit_onto (unit_view u) new)
    (unit_depth (unit_view u)) old new)
    (λ u h. part.opened_part c.args.room (c.args.room - 1) c.args.ends
    (Some c.args.ends) frame first u old mid new less start
    (c.in-Some-opener_of.ensures ∙ ap opener_token c.in-Frame.is) (λ s r. r) h) c.framed.ensures.ok

pub unit-returns-in-Frame-clause-err : goal.unit-returns-in-Frame-clause-err
unit-returns-in-Frame-clause-err t c =
    let old = c.args.cursor.now in
    let mid = c.plain_unit.new.cursor in
    let first = c.in-Some.first.now in
    let frame = opener.Frame c.in-Frame.frame in
    let plain =
    subst (λ (o : Option UnitValue). IsPlain c.args.room first o c.next.new.self mid) c.in_default-2.is
    c.in_ok-plain.ensures.ok in
    let start : old ≡ first ∷ mid = c.in-Some.ensures ∙ ap (λ (l : List Token). first ∷ l) (sym plain.0) in
    let less : c.args.room ≡ suc (c.args.room - 1) = omega (arith, c.if-room-eq0.false) in
    IfErr-weaker c.framed.result (λ (x : ParserStop). FailsIn (suc (c.args.room - 1)) (Some c.args.ends)
    (opener_wants frame) mid x) (λ (x : ParserStop). FailsIn c.args.room (Some c.args.ends) (unit ∷ []) old x)
    (λ x h. part.opened_fails c.args.room (c.args.room - 1) c.args.ends
    (Some c.args.ends) frame first old mid x less start (c.in-Some-opener_of.ensures ∙ ap opener_token c.in-Frame.is)
    (λ s r. r) h) c.framed.ensures.err

-- ---- the further units

pub later_units-units-init : goal.later_units-units-init
later_units-units-init t c =
    part.no_units_yet c.args.room c.args.ends (map unit_view c.new-units.result.items) c.args.cursor.now
    (ap (λ (is : List UnitValue). map unit_view is) c.new-units.ensures.items)

pub later_units-units-smaller : goal.later_units-units-smaller
later_units-units-smaller t c =
    omega (arith, ap (length {A = Token}) (c.units-test.ensures.first refl), c.in_ok-next.ensures.ok.shorter)

pub later_units-returns-then-not-begins_unit-clause-ok : goal.later_units-returns-then-not-begins_unit-clause-ok
later_units-returns-then-not-begins_unit-clause-ok t c =
    part.units_closed c.args.room c.args.ends
    (units_of (map unit_view c.units.units.items)) c.args.cursor.now c.units.cursor c.take_symbol.new.self
    c.units.invariant (c.units-test.ensures.first refl) c.if-not-begins_unit.ensures

pub later_units-returns-in_err-next-clause-err : goal.later_units-returns-in_err-next-clause-err
later_units-returns-in_err-next-clause-err t c =
    let p = err_from_is_err_and c.from_residual.result c.from_residual.ensures.1 in
    rw (p.1, p.2) (part.more_units_fail c.args.room c.args.ends
    (units_of (map unit_view c.units.units.items)) c.args.cursor.now c.units.cursor c.take_symbol.new.self
    c.in_err-next.field-0.0 c.units.invariant
    (c.units-test.ensures.first refl) c.if-not-begins_unit.ensures c.in_err-next.ensures.err)

pub later_units-units-preserved : goal.later_units-units-preserved
later_units-units-preserved t c =
    let items = c.units.units.items in
    let next = c.in_ok-next.next in
    let all =
    ap (λ (is : List UnitValue). map unit_view is) c.in_ok-push.ensures.items
    ∙ map-append unit_view items (next ∷ []) in
    subst (λ (us : List UnitTree). part.UnitsSoFar c.args.room c.args.ends
    (units_of us) c.args.cursor.now c.unit.new.cursor) (sym all)
    (part.one_more_unit c.args.room c.args.ends (map unit_view items)
    (unit_view next) c.args.cursor.now c.units.cursor c.take_symbol.new.self c.unit.new.cursor c.units.invariant
    (c.units-test.ensures.first refl) c.if-not-begins_unit.ensures c.in_ok-next.ensures.ok)

pub later_units-returns-clause-ok : goal.later_units-returns-clause-ok
later_units-returns-clause-ok t c =
    part.units_over c.args.room c.args.ends
    (units_of (map unit_view c.units.units.items)) c.args.cursor.now c.units.cursor c.take_symbol.new.self
    c.units.invariant (c.units-test.ensures.same refl) (c.units-test.ensures.other refl)

-- ---- the further sequences

pub later_sequences-sequences-init : goal.later_sequences-sequences-init
later_sequences-sequences-init t c =
    part.no_sequences_yet c.args.room c.args.ends (map sequence_view c.new-sequences.result.items) c.args.cursor.now
    (ap (λ (is : List SequenceValue). map sequence_view is) c.new-sequences.ensures.items)

pub later_sequences-sequences-smaller : goal.later_sequences-sequences-smaller
later_sequences-sequences-smaller t c =
    omega (arith, ap (length {A = Token}) (c.sequences-test.ensures.first refl), c.in_ok-next.ensures.ok.shorter)

pub later_sequences-returns-in_err-next-clause-err : goal.later_sequences-returns-in_err-next-clause-err
later_sequences-returns-in_err-next-clause-err t c =
    let p = err_from_is_err_and c.from_residual.result c.from_residual.ensures.1 in
    rw (p.1, p.2) (part.more_sequences_fail c.args.room c.args.ends
    (sequences_of (map sequence_view c.sequences.sequences.items)) c.args.cursor.now c.sequences.cursor
    c.take_symbol.new.self c.in_err-next.field-0.0 c.sequences.invariant
    (c.sequences-test.ensures.first refl) c.in_err-next.ensures.err)

pub later_sequences-sequences-preserved : goal.later_sequences-sequences-preserved
later_sequences-sequences-preserved t c =
    let items = c.sequences.sequences.items in
    let next = c.in_ok-next.next in
    let all = ap (λ (is : List SequenceValue). map sequence_view is) c.in_ok-push.ensures.items
    ∙ map-append sequence_view items (next ∷ []) in
    subst (λ (qs : List SequenceTree). part.SequencesSoFar c.args.room c.args.ends
    (sequences_of qs) c.args.cursor.now c.sequence.new.cursor) (sym all)
    (part.one_more_sequence c.args.room c.args.ends (map sequence_view items)
    (sequence_view next) c.args.cursor.now c.sequences.cursor c.take_symbol.new.self c.sequence.new.cursor
    c.sequences.invariant (c.sequences-test.ensures.first refl) c.in_ok-next.ensures.ok)

pub later_sequences-returns-clause-ok : goal.later_sequences-returns-clause-ok
later_sequences-returns-clause-ok t c =
    part.sequences_over c.args.room c.args.ends
    (sequences_of (map sequence_view c.sequences.sequences.items)) c.args.cursor.now c.sequences.cursor
    c.take_symbol.new.self c.sequences.invariant (c.sequences-test.ensures.same refl)
    (c.sequences-test.ensures.other refl)

-- ---- branches

pub branches-returns-in_err-expect_keyword-clause-err : goal.branches-returns-in_err-expect_keyword-clause-err
branches-returns-in_err-expect_keyword-clause-err t c =
    let p = err_from_is_err_and c.from_residual.result c.from_residual.ensures.1 in
    rw (p.1, p.2) (part.else_missing c.args.room c.args.cursor.now c.take_keyword.new.self
    c.in_err-expect_keyword.field-0.0 (c.if-not-take_keyword.ensures.same refl)
    (c.if-not-take_keyword.ensures.other refl) c.in_err-expect_keyword.ensures.err)

pub branches-returns-in_err-other-clause-err : goal.branches-returns-in_err-other-clause-err
branches-returns-in_err-other-clause-err t c =
    let p = err_from_is_err_and c.from_residual-in_err-other.result c.from_residual-in_err-other.ensures.1 in
    let start = sym (c.if-not-take_keyword.ensures.same refl) ∙ c.in_ok-expect_keyword.ensures.ok in
    rw (p.1, p.2) (part.else_body_fails c.args.room c.args.cursor.now c.expect_keyword.new.self
    c.in_err-other.field-0.0 start c.in_err-other.ensures.err)

pub branches-returns-in_err-again-clause-err : goal.branches-returns-in_err-again-clause-err
branches-returns-in_err-again-clause-err t c =
    let p = err_from_is_err_and c.from_residual-in_err-again.result c.from_residual-in_err-again.ensures.1 in
    let start = sym (c.if-not-take_keyword.ensures.same refl) ∙ c.in_ok-expect_keyword.ensures.ok in
    rw (p.1, p.2) (part.else_end_fails c.args.room c.in_ok-other.other c.args.cursor.now c.expect_keyword.new.self
    c.statement.new.cursor c.in_err-again.field-0.0 start c.in_ok-other.ensures.ok c.in_err-again.ensures.err)

pub branches-returns-then-not-take_keyword-clause-ok : goal.branches-returns-then-not-take_keyword-clause-ok
branches-returns-then-not-take_keyword-clause-ok t c =
    let start = sym (c.if-not-take_keyword.ensures.same refl) ∙ c.in_ok-expect_keyword.ensures.ok in
    part.else_part c.args.room c.in_ok-other.other c.in_ok-again.again c.args.cursor.now c.expect_keyword.new.self
    c.statement.new.cursor c.end_again.new.cursor start c.in_ok-other.ensures.ok
    (record { spelt = c.in_ok-again.ensures.spelt; reads = c.in_ok-again.ensures.reads })

pub branches-returns-in_err-body-clause-err : goal.branches-returns-in_err-body-clause-err
branches-returns-in_err-body-clause-err t c =
    let p = err_from_is_err_and c.from_residual-in_err-body.result c.from_residual-in_err-body.ensures.1 in
    rw (p.1, p.2) (part.then_body_fails c.args.room c.args.cursor.now c.take_keyword.new.self c.in_err-body.field-0.0
    (c.if-not-take_keyword.ensures.first refl) c.in_err-body.ensures.err)

pub branches-returns-in_err-again-2-clause-err : goal.branches-returns-in_err-again-2-clause-err
branches-returns-in_err-again-2-clause-err t c =
    let p = err_from_is_err_and c.from_residual-in_err-again-2.result c.from_residual-in_err-again-2.ensures.1 in
    rw (p.1, p.2) (part.then_end_fails c.args.room c.in_ok-body.body c.args.cursor.now c.take_keyword.new.self
    c.statement-2.new.cursor c.take_keyword-2.new.self c.in_err-again-2.field-0.0
    (c.if-not-take_keyword.ensures.first refl) c.in_ok-body.ensures.ok (c.if-not-take_keyword-2.ensures.same refl)
    (c.if-not-take_keyword-2.ensures.other refl) c.in_err-again-2.ensures.err)

pub branches-returns-then-not-take_keyword-2-clause-ok : goal.branches-returns-then-not-take_keyword-2-clause-ok
branches-returns-then-not-take_keyword-2-clause-ok t c =
    part.then_part c.args.room c.in_ok-body.body c.in_ok-again-2.again c.args.cursor.now c.take_keyword.new.self
    c.statement-2.new.cursor c.take_keyword-2.new.self c.end_again-then-not-take_keyword-2.new.cursor
    (c.if-not-take_keyword.ensures.first refl) c.in_ok-body.ensures.ok (c.if-not-take_keyword-2.ensures.same refl)
    (c.if-not-take_keyword-2.ensures.other refl)
    (record { spelt = c.in_ok-again-2.ensures.spelt; reads = c.in_ok-again-2.ensures.reads })

pub branches-returns-in_err-other-2-clause-err : goal.branches-returns-in_err-other-2-clause-err
branches-returns-in_err-other-2-clause-err t c =
    let p = err_from_is_err_and c.from_residual-in_err-other-2.result c.from_residual-in_err-other-2.ensures.1 in
    rw (p.1, p.2) (part.both_body_fails c.args.room c.in_ok-body.body c.args.cursor.now c.take_keyword.new.self
    c.statement-2.new.cursor c.take_keyword-2.new.self c.in_err-other-2.field-0.0
    (c.if-not-take_keyword.ensures.first refl) c.in_ok-body.ensures.ok
    (c.if-not-take_keyword-2.ensures.first refl) c.in_err-other-2.ensures.err)

pub branches-returns-in_err-again-3-clause-err : goal.branches-returns-in_err-again-3-clause-err
branches-returns-in_err-again-3-clause-err t c =
    let p = err_from_is_err_and c.from_residual-in_err-again-3.result c.from_residual-in_err-again-3.ensures.1 in
    rw (p.1, p.2) (part.both_end_fails c.args.room c.in_ok-body.body c.in_ok-other-2.other c.args.cursor.now
    c.take_keyword.new.self c.statement-2.new.cursor c.take_keyword-2.new.self c.statement-3.new.cursor
    c.in_err-again-3.field-0.0 (c.if-not-take_keyword.ensures.first refl) c.in_ok-body.ensures.ok
    (c.if-not-take_keyword-2.ensures.first refl) c.in_ok-other-2.ensures.ok c.in_err-again-3.ensures.err)

pub branches-returns-clause-ok : goal.branches-returns-clause-ok
branches-returns-clause-ok t c =
    part.both_part c.args.room c.in_ok-body.body c.in_ok-other-2.other c.in_ok-again-3.again c.args.cursor.now
    c.take_keyword.new.self c.statement-2.new.cursor c.take_keyword-2.new.self c.statement-3.new.cursor
    c.end_again-2.new.cursor (c.if-not-take_keyword.ensures.first refl) c.in_ok-body.ensures.ok
    (c.if-not-take_keyword-2.ensures.first refl) c.in_ok-other-2.ensures.ok
    (record { spelt = c.in_ok-again-3.ensures.spelt; reads = c.in_ok-again-3.ensures.reads })

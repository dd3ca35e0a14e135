use Rattle.std.proofs.Common.{◌≡◌, ◌∙◌, ◌<◌, List, length, MatchResult, sym, ap, subst}
use Rattle.std.specs.Prelude.{IsNone, Result}
use Rattle.rbac_policy.specs.declared.commands.Entry.{Entry}
use Rattle.reactor_core.specs.declared.entry.SlotEntry.{SlotEntry}
use Rattle.history_receipts.specs.declared.mismatch.TheConstants.{POLICY_LIST}
use Rattle.history_receipts.specs.declared.mismatch.Mismatch.{Mismatch}
use Rattle.history_receipts.specs.declared.mismatch.Mismatch.TheVariants.{Count}
use Rattle.access_core.specs.Journals.{IsLegal}
use Rattle.slot_table.specs.Closing.{ClosingState, IsReadersFault}
use Rattle.slot_table.proofs.closing.Closing.end.Goals as goal

pub invariant_of-self : goal.invariant_of-self
invariant_of-self g c =
    let policy = c.self.inside.board.policy in
    let locked = c.into_inner.result in
    let more =
    subst (λ (r : Result (Unit {0}) Mismatch). MatchResult r (λ _. IsLegal policy g.row.NUMBER locked.journal)
    (λ mismatch. (mismatch ≡ Count POLICY_LIST) × (length policy < length locked.list))) c.in-Err.is
    c.end-journal.ensures.handed in
    subst (λ (p : List Entry). IsReadersFault p c.in-Err.mismatch) (sym c.end-journal.ensures.board) (record {
      named = more.0;
      overseen = record {
        slot = g.row.NUMBER;
        there = c.requires;
        seen = locked.list;
        more = more.1;
        journal = locked.journal;
        legal = c.end-journal.ensures.seen;
      };
    })

pub returns-in_default : goal.returns-in_default
returns-in_default g c =
    let policy = c.self.inside.board.policy in
    let locked = c.into_inner.result in
    let legal =
    subst (λ (r : Result (Unit {0}) Mismatch). MatchResult r (λ _. IsLegal policy g.row.NUMBER locked.journal)
    (λ mismatch. (mismatch ≡ Count POLICY_LIST) × (length policy < length locked.list))) c.in_default.is
    c.end-journal.ensures.handed in
    let same = ap (λ (s : ClosingState). s.policy) c.self.view_is in
    record {
      policy = c.end-journal.ensures.board ∙ same;
      legal = λ none. (
        subst (λ (s : ClosingState). IsNone s.fault) c.self.view_is none,
        subst (λ (p : List Entry). IsLegal p g.row.NUMBER c.end-journal.result.0) same
            (subst (λ (j : List SlotEntry). IsLegal policy g.row.NUMBER j) (sym c.end-journal.ensures.journal) legal),
      );
    }

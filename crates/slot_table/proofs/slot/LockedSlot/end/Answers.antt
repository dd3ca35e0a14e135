use Rattle.std.proofs.Common.{◌≡◌, ◌<◌, List, [], length, MatchResult, sym, subst}
use Rattle.std.specs.Prelude.{Option, unwrap_or}
use Rattle.rbac_policy.specs.declared.commands.Entry.{Entry}
use Rattle.access_core.specs.Journals.{IsLegal}
use Rattle.history_receipts.specs.declared.mismatch.TheConstants.{POLICY_LIST}
use Rattle.history_receipts.specs.declared.mismatch.Mismatch.TheVariants.{Count}
use Rattle.slot_table.specs.LockedState.{LockedState}
use Rattle.slot_table.proofs.Ending.{handed_legal}
use Rattle.slot_table.proofs.slot.LockedSlot.end.Goals as goal

pub returns-clause-seen : goal.returns-clause-seen
returns-clause-seen g c = subst (λ (s : LockedState). IsLegal s.list g.row.NUMBER s.journal) c.self.view_is
    c.self.invariant.2

pub returns-clause-handed : goal.returns-clause-handed
returns-clause-handed g c =
    let journal = c.self.inside.core.journal in
    let policy = c.args.board.now.policy in
    subst (λ (s : LockedState). MatchResult c.reader-handed.result (λ _. IsLegal policy g.row.NUMBER s.journal)
    (λ mismatch. (mismatch ≡ Count POLICY_LIST) × (length policy < length s.list))) c.self.view_is
    (subst (λ (held : Option (List Entry)). MatchResult c.reader-handed.result
    (λ _. IsLegal policy g.row.NUMBER journal)
    (λ mismatch. (mismatch ≡ Count POLICY_LIST) × (length policy < length (unwrap_or held []))))
    (sym c.unwrap-reader.ensures)
    (handed_legal c.unwrap-reader.result policy g.row.NUMBER journal c.reader-handed.result
    (subst (λ (held : Option (List Entry)). IsLegal (unwrap_or held []) g.row.NUMBER journal) c.unwrap-reader.ensures
    c.self.invariant.2)
    c.reader-handed.ensures.seen))

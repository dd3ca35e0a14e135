use Rattle.std.proofs.Common.{◌∙◌, ap, codes, refl}
use Rattle.serde_json.specs.View.{view}
use Rattle.lab_lines.proofs.StatementLemmas.{no_more, with_one, with_two, within, without_parts}
use Rattle.lab_lines.proofs.statements.+listing.Goals.{add_statement-in-Nothing+in_ok-told-in-Nothing}
use Rattle.lab_lines.proofs.statements.+listing.Goals.{add_statement-in-Pause+in_ok-told-in-Pause}
use Rattle.lab_lines.proofs.statements.+listing.Goals.{add_statement-in-Emit+in_ok-told-in-Emit}
use Rattle.lab_lines.proofs.statements.+listing.Goals.{add_statement-in-Present+in_ok-told-in-Present}
use Rattle.lab_lines.proofs.statements.+listing.Goals.{add_statement-in-Suspend+in_ok-told-in-Suspend}
use Rattle.lab_lines.proofs.statements.+listing.Goals.{add_statement-in-Seq+in_ok-told-in-Seq}
use Rattle.lab_lines.proofs.statements.+listing.Goals.{add_statement-in-Loop+in_ok-told-in-Loop}
use Rattle.lab_lines.proofs.statements.+listing.Goals.{add_statement-in-Par+in_ok-told-in-Par}
use Rattle.lab_lines.proofs.statements.+listing.Goals.{add_statement-in-Trap+in_ok-told-in-Trap}
use Rattle.lab_lines.proofs.statements.+listing.Goals.{add_statement-in-Exit+in_ok-told-in-Exit}
use Rattle.lab_lines.proofs.statements.+listing.Goals.{add_statement-in-Local+in_ok-told-in-Local}
use Rattle.lab_lines.proofs.statements.+listing.Goals as goal

pub add_statement-put_statement-requires : goal.add_statement-put_statement-requires
add_statement-put_statement-requires t c = elim c.match-statement.branch [
  | add_statement-in-Nothing+in_ok-told-in-Nothing w ↦ within _ _ _ _ _ _ _
      (c.len-at.ensures ∙ c.args.statements.now.ok.0)
      c.in_ok-push.ensures.items (ap (λ l. l.items) w.statements-is) (no_more _)
  | add_statement-in-Pause+in_ok-told-in-Pause w ↦ within _ _ _ _ _ _ _ (c.len-at.ensures ∙ c.args.statements.now.ok.0)
      c.in_ok-push.ensures.items (ap (λ l. l.items) w.statements-is) (no_more _)
  | add_statement-in-Emit+in_ok-told-in-Emit w ↦ within _ _ _ _ _ _ _ (c.len-at.ensures ∙ c.args.statements.now.ok.0)
      c.in_ok-push.ensures.items (ap (λ l. l.items) w.statements-is) (no_more _)
  | add_statement-in-Present+in_ok-told-in-Present w ↦ within _ _ _ _ _ _ _
      (c.len-at.ensures ∙ c.args.statements.now.ok.0)
      c.in_ok-push.ensures.items (ap (λ l. l.items) w.statements-is) w.in_ok-told-in-Present.ensures.added
  | add_statement-in-Suspend+in_ok-told-in-Suspend w ↦ within _ _ _ _ _ _ _
      (c.len-at.ensures ∙ c.args.statements.now.ok.0)
      c.in_ok-push.ensures.items (ap (λ l. l.items) w.statements-is) w.in_ok-told-in-Suspend.ensures.added
  | add_statement-in-Seq+in_ok-told-in-Seq w ↦ within _ _ _ _ _ _ _ (c.len-at.ensures ∙ c.args.statements.now.ok.0)
      c.in_ok-push.ensures.items (ap (λ l. l.items) w.statements-is) w.in_ok-told-in-Seq.ensures.added
  | add_statement-in-Loop+in_ok-told-in-Loop w ↦ within _ _ _ _ _ _ _ (c.len-at.ensures ∙ c.args.statements.now.ok.0)
      c.in_ok-push.ensures.items (ap (λ l. l.items) w.statements-is) w.in_ok-told-in-Loop.ensures.added
  | add_statement-in-Par+in_ok-told-in-Par w ↦ within _ _ _ _ _ _ _ (c.len-at.ensures ∙ c.args.statements.now.ok.0)
      c.in_ok-push.ensures.items (ap (λ l. l.items) w.statements-is) w.in_ok-told-in-Par.ensures.added
  | add_statement-in-Trap+in_ok-told-in-Trap w ↦ within _ _ _ _ _ _ _ (c.len-at.ensures ∙ c.args.statements.now.ok.0)
      c.in_ok-push.ensures.items (ap (λ l. l.items) w.statements-is) w.in_ok-told-in-Trap.ensures.added
  | add_statement-in-Exit+in_ok-told-in-Exit w ↦ within _ _ _ _ _ _ _ (c.len-at.ensures ∙ c.args.statements.now.ok.0)
      c.in_ok-push.ensures.items (ap (λ l. l.items) w.statements-is) (no_more _)
  | add_statement-in-Local+in_ok-told-in-Local w ↦ within _ _ _ _ _ _ _ (c.len-at.ensures ∙ c.args.statements.now.ok.0)
      c.in_ok-push.ensures.items (ap (λ l. l.items) w.statements-is) w.in_ok-told-in-Local.ensures.added
]

pub add_statement-returns-clause-added : goal.add_statement-returns-clause-added
add_statement-returns-clause-added t c = elim c.match-statement.branch [
  | add_statement-in-Nothing+in_ok-told-in-Nothing w ↦ rw w.in-Nothing.is
      (without_parts c.args.interface.now _ _ _ _ _ _ _ _ (c.len-at.ensures ∙ c.args.statements.now.ok.0)
      c.in_ok-push.ensures.items c.put_statement.ensures (ap (λ l. l.items) w.statements-is) _
      (ap view w.told-is ∙ w.in_ok-told-in-Nothing.ensures) refl)
  | add_statement-in-Pause+in_ok-told-in-Pause w ↦ rw w.in-Pause.is
      (without_parts c.args.interface.now _ _ _ _ _ _ _ _ (c.len-at.ensures ∙ c.args.statements.now.ok.0)
      c.in_ok-push.ensures.items c.put_statement.ensures (ap (λ l. l.items) w.statements-is) _
      (ap view w.told-is ∙ w.in_ok-told-in-Pause.ensures) refl)
  | add_statement-in-Emit+in_ok-told-in-Emit w ↦
      rw w.in-Emit.is
      (without_parts c.args.interface.now _ _ _ _ _ _ _ _ (c.len-at.ensures ∙ c.args.statements.now.ok.0)
      c.in_ok-push.ensures.items c.put_statement.ensures (ap (λ l. l.items) w.statements-is) _
      (ap view w.told-is ∙ w.in_ok-told-in-Emit.ensures) refl)
  | add_statement-in-Present+in_ok-told-in-Present w ↦ rw w.in-Present.is
      (with_two c.args.interface.now _ _ _ _ _ _ _ _ (c.len-at.ensures ∙ c.args.statements.now.ok.0)
      c.in_ok-push.ensures.items c.put_statement.ensures (ap (λ l. l.items) w.statements-is) (codes "present") _ _
      (ap view w.told-is ∙ rw w.deref.ensures at w.in_ok-told-in-Present.ensures.told)
      (rw (w.deref.ensures, w.deref-in-Present.ensures) at w.in_ok-told-in-Present.ensures.added))
  | add_statement-in-Suspend+in_ok-told-in-Suspend w ↦ rw w.in-Suspend.is
      (with_one c.args.interface.now _ _ _ _ _ _ _ _ (c.len-at.ensures ∙ c.args.statements.now.ok.0)
      c.in_ok-push.ensures.items c.put_statement.ensures (ap (λ l. l.items) w.statements-is) (codes "suspend") _
      (ap view w.told-is ∙ w.in_ok-told-in-Suspend.ensures.told)
      (rw w.deref-in-Suspend.ensures at w.in_ok-told-in-Suspend.ensures.added))
  | add_statement-in-Seq+in_ok-told-in-Seq w ↦
      rw w.in-Seq.is (with_two c.args.interface.now _ _ _ _ _ _ _ _ (c.len-at.ensures ∙ c.args.statements.now.ok.0)
      c.in_ok-push.ensures.items c.put_statement.ensures (ap (λ l. l.items) w.statements-is) (codes "seq") _ _
      (ap view w.told-is ∙ rw w.deref-in-Seq.ensures at w.in_ok-told-in-Seq.ensures.told)
      (rw (w.deref-in-Seq.ensures, w.deref-in-Seq-2.ensures) at w.in_ok-told-in-Seq.ensures.added))
  | add_statement-in-Loop+in_ok-told-in-Loop w ↦
      rw w.in-Loop.is (with_one c.args.interface.now _ _ _ _ _ _ _ _ (c.len-at.ensures ∙ c.args.statements.now.ok.0)
      c.in_ok-push.ensures.items c.put_statement.ensures (ap (λ l. l.items) w.statements-is) (codes "loop") _
      (ap view w.told-is ∙ w.in_ok-told-in-Loop.ensures.told)
      (rw w.deref-in-Loop.ensures at w.in_ok-told-in-Loop.ensures.added))
  | add_statement-in-Par+in_ok-told-in-Par w ↦
      rw w.in-Par.is (with_two c.args.interface.now _ _ _ _ _ _ _ _ (c.len-at.ensures ∙ c.args.statements.now.ok.0)
      c.in_ok-push.ensures.items c.put_statement.ensures (ap (λ l. l.items) w.statements-is) (codes "par") _ _
      (ap view w.told-is ∙ rw w.deref-in-Par.ensures at w.in_ok-told-in-Par.ensures.told)
      (rw (w.deref-in-Par.ensures, w.deref-in-Par-2.ensures) at w.in_ok-told-in-Par.ensures.added))
  | add_statement-in-Trap+in_ok-told-in-Trap w ↦
      rw w.in-Trap.is (with_one c.args.interface.now _ _ _ _ _ _ _ _ (c.len-at.ensures ∙ c.args.statements.now.ok.0)
      c.in_ok-push.ensures.items c.put_statement.ensures (ap (λ l. l.items) w.statements-is) (codes "trap") _
      (ap view w.told-is ∙ w.in_ok-told-in-Trap.ensures.told)
      (rw w.deref-in-Trap.ensures at w.in_ok-told-in-Trap.ensures.added))
  | add_statement-in-Exit+in_ok-told-in-Exit w ↦
      rw w.in-Exit.is
      (without_parts c.args.interface.now _ _ _ _ _ _ _ _ (c.len-at.ensures ∙ c.args.statements.now.ok.0)
      c.in_ok-push.ensures.items c.put_statement.ensures (ap (λ l. l.items) w.statements-is) _
      (ap view w.told-is ∙ w.in_ok-told-in-Exit.ensures) refl)
  | add_statement-in-Local+in_ok-told-in-Local w ↦ rw w.in-Local.is
      (with_one c.args.interface.now _ _ _ _ _ _ _ _ (c.len-at.ensures ∙ c.args.statements.now.ok.0)
      c.in_ok-push.ensures.items c.put_statement.ensures (ap (λ l. l.items) w.statements-is) (codes "signal") _
      (ap view w.told-is ∙ w.in_ok-told-in-Local.ensures.told)
      (rw w.deref-in-Local.ensures at w.in_ok-told-in-Local.ensures.added))
]

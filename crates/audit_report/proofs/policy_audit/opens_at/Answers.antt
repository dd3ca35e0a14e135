use Rattle.std.proofs.Common.{◌≡◌, ◌∙◌, length, refl, sym, rules}
use Rattle.std.specs.Prelude.{Some, None, slice_get}
use Rattle.std.proofs.lemmas.Option.{slice_get_read, slice_get_past}
use Rattle.audit_report.proofs.Opened.{is_opening_entry, opening_entry_is, never_none}
use Rattle.audit_report.proofs.policy_audit.opens_at.Goals as goal

pub returns-then-is_none : goal.returns-then-is_none
returns-then-is_none c =
    let entries = c.args.entries.now in
    let place = c.args.place in
    let entry = c.in-Some.entry.now in
    let there : slice_get entries place ≡ Some entry =
    slice_get_read entries (length entries) place entry refl c.in-Some.ensures.lookup.3.0 c.in-Some.ensures.lookup.1 in
    let none : entry.session ≡ None = search (rules, c.if-is_none.true, c.is_none.ensures) in (
      λ test. there ∙ sym (is_opening_entry place entry none (sym c.is_opening.ensures ∙ test)),
      λ same. c.is_opening.ensures ∙ (opening_entry_is place entry (sym same ∙ there)).1,
    )

pub returns-in-None : goal.returns-in-None
returns-in-None c = (
  λ no. absurd (search (rules, no)),
  λ same. absurd (never_none c.args.place c.requires
      (sym same ∙ slice_get_past c.args.entries.now c.args.place c.in-None.ensures.lookup.3)),
)

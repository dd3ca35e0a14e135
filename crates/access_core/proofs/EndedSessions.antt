-- A session that has ended adds nothing to a slot's journal.
use Rattle.std.proofs.Common.{◌≡◌, ℕ, ◌≤◌, List, ◌++◌, take, drop, sym, subst, le_trans}
use Rattle.std.specs.Prelude.{Option, Some, None, slice_get}
use Rattle.std.proofs.lemmas.List.{take-take, take-append-drop}
use Rattle.rbac_policy.specs.declared.commands.Entry.{Entry}
use Rattle.rbac_policy.specs.declared.objects.Object.{Object}
use Rattle.rbac_policy.specs.declared.objects.Operation.{Operation}
use Rattle.rbac_policy.specs.Entries.{logins}
use Rattle.rbac_policy.specs.Facts.{IsLive}
use Rattle.reactor_core.specs.Meaning.{asked}
use Rattle.reactor_core.specs.declared.entry.SlotEntry.{SlotEntry}
use Rattle.access_core.specs.declared.command.SlotCommand.TheVariants.{Move}
use Rattle.access_core.specs.Journals.{IsLegal, HasEnded}
use Rattle.access_core.specs.Needs.{permission_of, Has}
use Rattle.access_core.proofs.Legality.{versions_rise, entry_allowed}

-- a session that has what is needed lives
has_life : (entries : List Entry) (session : ℕ) (needed : Option (Operation × Object)) → Has entries session needed
    → IsLive entries session
has_life entries session None live = live
has_life entries session (Some permission) may = (may.user, may.lives)

-- more of the first entries begin with fewer of them
take_longer : (list : List Entry) (few many : ℕ) → few ≤ many
    → take few list ++ drop few (take many list) ≡ take many list
take_longer list few many le =
    subst (λ front. front ++ drop few (take many list) ≡ take many list) (take-take few many list le)
    (take-append-drop few (take many list))

pub adds_nothing : ((entries more : List Entry) (session : ℕ) → session ≤ logins entries → ¬ (IsLive entries session)
    → ¬ (IsLive (entries ++ more) session))
    → (list : List Entry) (slot session version early late : ℕ) (journal : List SlotEntry) (x y : SlotEntry)
    → IsLegal list slot journal → HasEnded list session version → early ≤ late → slice_get journal early ≡ Some x
    → slice_get journal late ≡ Some y
    → version ≤ x.stamp.version → ¬ (y.stamp.session ≡ session)
adds_nothing stays list slot session version early late journal x y legal has le there then reached same =
    let later : version ≤ y.stamp.version =
    le_trans reached (versions_rise list slot journal legal early late x y le there then) in
    let live = has_life (take y.stamp.version list) y.stamp.session (permission_of slot (Move (asked y.done)))
    (entry_allowed list slot journal legal late y then) in
    let live_there : IsLive (take version list ++ drop version (take y.stamp.version list)) session =
    subst (λ l. IsLive l session) (sym (take_longer list version y.stamp.version later))
    (subst (λ s. IsLive (take y.stamp.version list) s) same live) in
    stays (take version list) (drop version (take y.stamp.version list)) session has.given has.ended live_there

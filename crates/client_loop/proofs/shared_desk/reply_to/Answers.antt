use Rattle.std.proofs.Common.{◌≡◌, ◌∙◌, refl, sym, ap, subst, Some, None}
use Rattle.std.specs.Prelude.{IsSome}
use Rattle.rbac_policy.specs.declared.commands.Entry.{Entry}
use Rattle.access_core.specs.declared.reply.Reply.TheVariants.{Changed, Login}
use Rattle.access_core.specs.Desk.{change_of}
use Rattle.client_loop.proofs.SharedLemmas.{reply_changed, reply_login, session_of_login}
use Rattle.client_loop.proofs.shared_desk.reply_to.Goals as goal

pub returns-in-Some : goal.returns-in-Some
returns-in-Some g c entry old new p =
    let made : change_of c.args.acceptance.now.entry.command ≡ Some c.in-Some.change =
    sym (c.change_of.ensures ∙ ap (λ (e : Entry). change_of e.command) c.entry.ensures) ∙ c.in-Some.is in
    ap (λ n. Changed c.in-Some.change n) c.version-version.ensures
    ∙ reply_changed c.args.acceptance.now entry old new c.in-Some.change p made

pub returns-in-None : goal.returns-in-None
returns-in-None g c entry old new p =
    let none : change_of c.args.acceptance.now.entry.command ≡ None =
    sym (c.change_of.ensures ∙ ap (λ (e : Entry). change_of e.command) c.entry.ensures) ∙ c.in-None.is in
    ap (λ n. Login c.unwrap.result n) c.version-version.ensures
    ∙ reply_login c.args.acceptance.now entry old new c.unwrap.result p none (sym c.session.ensures ∙ c.unwrap.ensures)

pub unwrap-requires : goal.unwrap-requires
unwrap-requires g c =
    let none : change_of c.args.acceptance.now.entry.command ≡ None =
    sym (c.change_of.ensures ∙ ap (λ (e : Entry). change_of e.command) c.entry.ensures) ∙ c.in-None.is in
    let there = session_of_login c.args.acceptance.now c.requires.0 c.requires.1 c.requires.2 c.requires.3 none in
    subst (λ o. IsSome o) (sym (c.session.ensures ∙ there)) refl

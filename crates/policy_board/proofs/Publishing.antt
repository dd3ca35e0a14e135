-- What a publication makes of the writer's state.
use Rattle.std.proofs.Common.{◌≡◌, ℕ, ◌<◌, List, [], ◌∷◌, ◌++◌, length, fold, refl, sym, ap, ◌∙◌, subst, arith}
use Rattle.std.proofs.lemmas.List.Sums.{fold_push}
use Rattle.crossbeam_utils.specs.Register.{TurnsAt}
use Rattle.logbook.specs.Pages.{Book}
use Rattle.rbac_policy.specs.declared.commands.Entry.{Entry}
use Rattle.rbac_policy.specs.declared.policy.Policy.{Policy}
use Rattle.rbac_policy.specs.declared.sizes.TheConstants.{LAST_VERSION}
use Rattle.rbac_policy.specs.Change.{absorbed}
use Rattle.rbac_policy.specs.Opening.{opening_entries}
use Rattle.rbac_policy.specs.StandsFor.{StandsFor}
use Rattle.rbac_policy.proofs.OfSessions.EndingLemmas.{leaves_room}
use Rattle.rbac_admin.specs.PolicyLists.{Begins, IsAccepted, IsPolicyList}
use Rattle.rbac_admin.proofs.Fitting.{accepted_stands}
use Rattle.rbac_admin.proofs.PolicyListLemmas.{opening_is_list, list_grows, few_entries, still_leaves}
use Rattle.rbac_admin.specs.Room.{most_entries}
use Rattle.policy_board.specs.BookPrefixes.{PrefixInBook}
use Rattle.policy_board.specs.Inner.Steps.{after_publication, IsResting}
use Rattle.policy_board.specs.Inner.Publishing.{IsPublishing}
use Rattle.policy_board.specs.declared.published.Publication.{Publication}
use Rattle.policy_board.specs.declared.published.Publication.TheVariants.{Add}
use Rattle.policy_board.specs.declared.published.PublishedPolicy.{PublishedPolicy}
use Rattle.policy_board.proofs.Beginnings.{begins_push}
use Rattle.policy_board.proofs.Rules.{Holds, Then, turns}

-- open: the writer's state with the opening entries
pub publishing_first : (b : Book) (p : Policy) (t : PrefixInBook) (pending : List Publication) → t.book ≡ b
    → t.list ≡ opening_entries → StandsFor p opening_entries → pending ≡ []
    → IsPublishing b p t pending
publishing_first b p t pending own list stands none = record {
  own = own;
  is_list = subst IsPolicyList (sym list) opening_is_list;
  stands = subst (StandsFor p) (sym list) stands;
  leaves = rw list (leaves_room p opening_entries most_entries stands (omega arith));
  resting = ap (λ (xs : List Publication). fold after_publication (p, t) xs) none;
}

-- what is shown once the entry is taken in after what waits
pub next_is : (p : Policy) (t : PrefixInBook) (e : Entry) (book_prefix : PrefixInBook)
    (before pending : List Publication)
    (next : Policy × PrefixInBook)
    → IsResting (p, t) before → pending ≡ before ++ Add e book_prefix ∷ []
    → next ≡ fold after_publication (p, t) pending
    → next ≡ (absorbed p e, book_prefix)
next_is p t e book_prefix before pending next rests is same =
    same
    ∙ (ap (λ (xs : List Publication). fold after_publication (p, t) xs) is
    ∙ (fold_push after_publication (p, t) before (Add e book_prefix)
    ∙ ap (λ (s : Policy × PrefixInBook). after_publication s (Add e book_prefix)) rests))

-- the writer's state with one accepted entry more
pub publishing_more : (b : Book) (p : Policy) (t : PrefixInBook) (before : List Publication) (e : Entry)
    (book_prefix : PrefixInBook)
    → IsPublishing b p t before → IsAccepted t.list e
    → book_prefix.book ≡ b → book_prefix.list ≡ t.list ++ e ∷ [] → IsPublishing b (absorbed p e) book_prefix []
publishing_more b p t before e book_prefix was accepted own list =
    let few : length t.list < LAST_VERSION = omega (arith, few_entries t.list e was.leaves accepted) in
    let stands : StandsFor (absorbed p e) (t.list ++ e ∷ []) =
    accepted_stands p t.list was.stands e.session e.command e few accepted.step in
    record {
      own = own;
      is_list = subst IsPolicyList (sym list) (list_grows t.list e was.is_list accepted);
      stands = subst (StandsFor (absorbed p e)) (sym list) stands;
      leaves = rw list (still_leaves (absorbed p e) t.list e was.leaves stands accepted);
      resting = refl;
    }

-- publish: what is shown goes on to the longer list, and the writer sees it
pub publishes : (b : Book) (place : ℕ) (v : List Entry) (x next : PublishedPolicy) (before pending : List Publication)
    (e : Entry)
    (book_prefix : PrefixInBook) → IsPublishing b x.policy x.book_prefix before
    → IsAccepted x.book_prefix.list e → book_prefix.book ≡ b → book_prefix.list ≡ x.book_prefix.list ++ e ∷ []
    → pending ≡ before ++ Add e book_prefix ∷ []
    → (let s : Policy × PrefixInBook = (next.policy, next.book_prefix) in s)
    ≡ fold after_publication (x.policy, x.book_prefix) pending
    → TurnsAt
    (Holds (λ (y : PublishedPolicy). y.book_prefix.book) b (λ (y : PublishedPolicy). y.policy)
    (λ (y : PublishedPolicy). y.book_prefix.list)) place v x
    next (Then (λ (y : PublishedPolicy). y.book_prefix.book) b (λ (y : PublishedPolicy). y.policy)
    (λ (y : PublishedPolicy). y.book_prefix.list))
publishes b place v x next before pending e book_prefix was accepted own list is same =
    let State : Type 0 = Policy × PrefixInBook in
    let s : State = (next.policy, next.book_prefix) in
    let now : s ≡ (absorbed x.policy e, book_prefix) = next_is x.policy x.book_prefix e book_prefix before pending s
    was.resting is
    same in
    let t : next.book_prefix ≡ book_prefix = ap (λ (s : State). s.1) now in
    let after = publishing_more b x.policy x.book_prefix before e book_prefix was accepted own list in
    turns (λ (y : PublishedPolicy). y.book_prefix.book) b (λ (y : PublishedPolicy). y.policy)
    (λ (y : PublishedPolicy). y.book_prefix.list) place v x next
    (ap (λ (t : PrefixInBook). t.book) t ∙ own)
    (subst (λ (l : List Entry). Begins x.book_prefix.list l) (sym (ap (λ (t : PrefixInBook). t.list) t ∙ list))
    (begins_push x.book_prefix.list e))
    (subst (λ (t : PrefixInBook). IsPolicyList t.list) (sym t) after.is_list)
    (subst (λ (s : State). StandsFor s.0 s.1.list) (sym now) after.stands)

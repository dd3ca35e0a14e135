-- The reply to a command that adds an entry and else changes nothing, from the reactor's answer.
use Rattle.std.proofs.Common.{◌≡◌, ◌∙◌, ℕ, List, [], ◌∷◌, ◌++◌, length, inl, inr, refl, sym, ap, subst}
use Rattle.std.specs.Prelude.{Result, Ok, Err, MatchResult}
use Rattle.refusal_rules.specs.Rules.{MayRefuse, accept, ◌▸◌, Answers}
use Rattle.refusal_rules.proofs.RuleLemmas.{refuse, pass, answered}
use Rattle.reactor_core.specs.declared.entry.Stamp.{Stamp}
use Rattle.reactor_core.specs.Meaning.{PastMove}
use Rattle.reactor_core.specs.declared.entry.Move.TheVariants.{Unload}
use Rattle.reactor_core.specs.declared.entry.SlotWord.TheVariants as word
use Rattle.reactor_core.specs.declared.entry.SlotEntry.{SlotEntry}
use Rattle.reactor_core.specs.declared.refusal.ReactorRefusal.{ReactorRefusal}
use Rattle.reactor_core.specs.declared.refusal.ReactorRefusal.TheVariants as reactor
use Rattle.reactor_core.specs.Meaning.{entry, word_of, instants_of, instants_after}
use Rattle.reactor_core.specs.Answers.{entry_rules as reactor_rules, UnloadAnswer}
use Rattle.reactor_core.proofs.Steps.{after_snoc}
use Rattle.access_core.specs.declared.refusal.Refusal.{Refusal}
use Rattle.access_core.specs.declared.refusal.Refusal.TheVariants.{JournalFull, Memory}
use Rattle.access_core.specs.declared.reply.Reply.{Reply}
use Rattle.access_core.specs.declared.reply.Reply.TheVariants.{Refused, Added}
use Rattle.access_core.specs.Answering.{ByRules, no_memory}
use Rattle.access_core.specs.Refusals.{of_reactor}
use Rattle.access_core.specs.SlotStep.{slot_entry_rules, AddsEntry, tells_added}

module _ {Given : ReactorRefusal → Type 0} {Told : Refusal → Type 0} {Entered Accepted : Type 0} where
  -- memory is refused for the entry, or it is added
  by_memory : ((refusal : ReactorRefusal) → Given refusal → Told (of_reactor refusal)) → (Entered → Accepted)
      → Answers (MayRefuse reactor.Memory ▸ accept) Given Entered → Answers (no_memory ▸ accept) Told Accepted
  by_memory refused added (inl memory) =
      refuse Memory refl (refused reactor.Memory (subst Given memory.given memory.answered))
  by_memory refused added (inr passes) = pass (record {}) (added passes.next)

  -- the rules of the entry of a slot are those of the reactor's
  pub by_entry : (journal : List SlotEntry) → ((refusal : ReactorRefusal) → Given refusal → Told (of_reactor refusal))
      → (Entered → Accepted)
      → Answers (reactor_rules journal) Given Entered → Answers (slot_entry_rules journal) Told Accepted
  by_entry journal refused added (inl full) =
      refuse JournalFull (refl, full.given.1) (refused reactor.JournalFull (subst Given full.given.0 full.answered))
  by_entry journal refused added (inr room) = pass room.passed (by_memory refused added room.next)

-- a command that adds an entry in place, from the reactor's answer
pub entry_answered : (before : List SlotEntry) (move : PastMove) (stamp : Stamp)
    (answer : Result (Unit {0}) ReactorRefusal) (reply : Reply) (after : List SlotEntry)
    → Answers (reactor_rules before) (λ refusal. (answer ≡ Err refusal) × (after ≡ before))
    ((answer ≡ Ok (record {})) × (after ≡ before ++ entry stamp move ∷ []))
    → MatchResult answer (λ _. reply ≡ tells_added (word_of move) stamp.version after)
    (λ refusal. reply ≡ Refused (of_reactor refusal))
    → ByRules (slot_entry_rules before) (AddsEntry move stamp) before reply after
entry_answered before move stamp (Ok done) reply after h told =
    by_entry before (λ refusal no. let e = no.0 in absurd cc) (λ added. record { added = added.1; replied = told }) h
entry_answered before move stamp (Err refusal) reply after h told =
    by_entry before
    (λ given why.
    let e = why.0 in
    let same : refusal ≡ given = cc in
    record { replied = told ∙ ap Refused (ap of_reactor same); stays = why.1 })
    (λ added. let e = added.0 in absurd cc) h

-- an unload, from the reactor's answer
pub unload_answered : (before : List SlotEntry) (stamp : Stamp)
    (answer : Result (List SlotEntry) (ReactorRefusal × List SlotEntry)) (reply : Reply)
    (after : List SlotEntry) → UnloadAnswer before stamp answer
    → MatchResult answer
    (λ journal. (after ≡ journal) × (reply ≡ tells_added word.Unload stamp.version after))
    (λ refused. (after ≡ refused.1) × (reply ≡ Refused (of_reactor refused.0)))
    → ByRules (slot_entry_rules before) (AddsEntry Unload stamp) before reply after
unload_answered before stamp (Ok journal) reply after h told =
    by_entry before (λ refusal no. absurd cc)
    (λ added.
    let same : journal ≡ before ++ entry stamp Unload ∷ [] = cc in
    record { added = told.0 ∙ same; replied = told.1 }) h
unload_answered before stamp (Err refused) reply after h told =
    by_entry before
    (λ given why.
    let same : refused ≡ (given, before) = cc in
    record {
      replied = told.1 ∙ ap Refused (ap of_reactor (ap (λ (r : ReactorRefusal × List SlotEntry). r.0) same));
      stays = told.0 ∙ ap (λ (r : ReactorRefusal × List SlotEntry). r.1) same;
    })
    (λ added. absurd cc) h

-- after an unload there are no instants
pub unload_empties : (before : List SlotEntry) (stamp : Stamp) (journal : List SlotEntry)
    → UnloadAnswer before stamp (Ok journal) → length (instants_of journal) ≡ 0
unload_empties before stamp journal h =
    answered (reactor_rules before) _ _ (length (instants_of journal) ≡ 0)
    (λ refusal no. absurd cc)
    (λ added.
    let same : journal ≡ before ++ entry stamp Unload ∷ [] = cc in
    ap (λ j. length (instants_of j)) same
    ∙ ap length (after_snoc instants_after [] before (entry stamp Unload))) h

-- what is told of an unload
pub unload_told : (version place : ℕ) (journal : List SlotEntry) → place ≡ length journal
    → length (instants_of journal) ≡ 0
    → Added (record { word = word.Unload; place = place; version = version; instants = 0 })
    ≡ tells_added word.Unload version journal
unload_told version place journal counted none =
    ap (λ p. Added (record { word = word.Unload; place = p; version = version; instants = 0 })) counted
    ∙ ap (λ n. Added (record { word = word.Unload; place = length journal; version = version; instants = n }))
    (sym none)

-- a refused unload gives the reactor back
pub unload_stays : (before : List SlotEntry) (stamp : Stamp) (refused : ReactorRefusal × List SlotEntry)
    → UnloadAnswer before stamp (Err refused) → refused.1 ≡ before
unload_stays before stamp refused h =
    answered (reactor_rules before) _ _ (refused.1 ≡ before)
    (λ refusal told. let same : refused ≡ (refusal, before) = cc in
    ap (λ (r : ReactorRefusal × List SlotEntry). r.1) same)
    (λ added. absurd cc) h

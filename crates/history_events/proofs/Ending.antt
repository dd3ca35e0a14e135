-- A run that goes on by one event.
use Rattle.std.proofs.Common.{◌≡◌, false, List, [], ◌∷◌, ◌++◌, refl, sym, ◌∙◌, ap, inl, inr}
use Rattle.std.proofs.lemmas.List.{map-append}
use Rattle.rbac_policy.proofs.Steps.{get_push}
use Rattle.access_core.specs.declared.reply.Reply.{Reply}
use Rattle.history_events.specs.declared.event.Event.{Event}
use Rattle.history_events.specs.Runs.{WorldState, opening_world, Moment, EventStep, Follow, world_after, wants_memory}
use Rattle.history_events.specs.Runs.{EndsIn}

follow_more : (world : WorldState) (moments : List Moment) (m : Moment) → Follow world moments
    → m.before ≡ world_after world moments
    → EventStep m.event m.before m.reply m.after → Follow world (moments ++ m ∷ [])
follow_more world [] m follow before step = (before, step, tt)
follow_more world (x ∷ moments) m follow before step =
    (follow.0, follow.1, follow_more x.after moments m follow.2 before step)

after_more : (world : WorldState) (moments : List Moment) (m : Moment) → world_after world (moments ++ m ∷ []) ≡ m.after
after_more world [] m = refl
after_more world (x ∷ moments) m = after_more x.after moments m

pub one_more : (events : List Event) (replies : List Reply) (before : WorldState) (event : Event) (reply : Reply)
    (after : WorldState)
    → EndsIn events replies before → EventStep event before reply after → wants_memory reply ≡ false
    → EndsIn (events ++ event ∷ []) (replies ++ reply ∷ []) after
one_more events replies before event reply after h step ample =
    let m : Moment = record { before = before; event = event; reply = reply; after = after } in
    record {
      moments = h.moments ++ m ∷ [];
      run = follow_more opening_world h.moments m h.run (sym h.ends) step;
      are = map-append (λ (m : Moment). m.event) h.moments (m ∷ []) ∙ ap (λ xs. xs ++ event ∷ []) h.are;
      answered = map-append (λ (m : Moment). m.reply) h.moments (m ∷ []) ∙ ap (λ xs. xs ++ reply ∷ []) h.answered;
      ends = after_more opening_world h.moments m;
      ample = λ place r there. elim (get_push replies reply r place there) [
        | inl old ↦ h.ample place r old.1
        | inr last ↦ ap wants_memory (sym last.1) ∙ ample
      ];
    }

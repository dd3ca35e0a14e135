-- What the calls of such a run are answered and end in is one, since memory is refused to none of them.
use Rattle.std.proofs.Common.{◌≡◌, ℕ, zero, suc, false, List, [], ◌∷◌, map, refl, sym, subst, Some}
use Rattle.std.specs.Prelude.{slice_get}
use Rattle.std.specs.List.{AllZip}
use Rattle.std.proofs.lemmas.Option.{same_Some}
use Rattle.access_core.specs.declared.reply.Reply.{Reply}
use Rattle.access_core.specs.declared.reply.Reply.TheVariants.{Refused, Login, Changed, Added, Look as Shown}
use Rattle.access_core.specs.declared.reply.Reply.TheVariants.{Audit as Audited, Check}
use Rattle.access_core.specs.Needs.{IsAccepted}
use Rattle.history_events.specs.OneRun.{OneEnd}
use Rattle.history_events.specs.Runs.{Moment, wants_memory}
use Rattle.history_merge.specs.ToldCalls.{ToldCall, Publishes, Commands}
use Rattle.history_laws.specs.CallsInTurn.{IsCallOf, AreOfWorld, CallsEndInJournals}

-- an accepted reply is no want of memory
ample : (reply : Reply) → IsAccepted reply → wants_memory reply ≡ false
ample (Refused refusal) accepted = absurd accepted
ample (Login session version) accepted = refl
ample (Changed change version) accepted = refl
ample (Added added) accepted = refl
ample (Shown instant signals version) accepted = refl
ample (Audited entries instants version) accepted = refl
ample (Check allowed) accepted = refl

accepted_call : (event : ToldCall) (m : Moment) → IsCallOf event m → IsAccepted m.reply
accepted_call (Publishes seat version entry) m call = call.accepted
accepted_call (Commands seat r) m call = call.accepted

all_ample : (events : List ToldCall) (run : List Moment) → AllZip IsCallOf events run → (place : ℕ) (reply : Reply)
    → slice_get (map (λ (m : Moment). m.reply) run) place ≡ Some reply → wants_memory reply ≡ false
all_ample [] [] calls place reply there = cc
all_ample [] (m ∷ run) calls place reply there = absurd calls
all_ample (e ∷ events) [] calls place reply there = absurd calls
all_ample (e ∷ events) (m ∷ run) calls zero reply there =
    subst (λ r. wants_memory r ≡ false) (same_Some m.reply reply there) (ample m.reply (accepted_call e m calls.0))
all_ample (e ∷ events) (m ∷ run) calls (suc place) reply there = all_ample events run calls.1 place reply there

-- so replies and world are those of the run
pub one_world : OneEnd → CallsEndInJournals
one_world ends policy journals seats one replies world end =
    let ran = one.ran in
    let same = ends _ _ replies _ world (record {
      moments = one.run;
      run = ran.is;
      are = refl;
      answered = refl;
      ends = refl;
      ample = all_ample one.events one.run ran.calls;
    }) end in
    (sym same.0, subst (AreOfWorld policy journals) same.1 ran.leaves)

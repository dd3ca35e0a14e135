use Rattle.std.proofs.Common.{◌≡◌, List, [], ◌∷◌, ◌++◌, ap, refl}
use Rattle.std.specs.Prelude.{Result, Ok, Err, MatchResult}
use Rattle.reactor_core.specs.declared.entry.Stamp.{Stamp}
use Rattle.reactor_core.specs.declared.entry.Load.{Load as LoadEntry}
use Rattle.reactor_core.specs.declared.entry.Move.TheVariants.{Load}
use Rattle.reactor_core.specs.declared.entry.SlotEntry.{SlotEntry}
use Rattle.reactor_core.specs.declared.refusal.ReactorRefusal.{ReactorRefusal}
use Rattle.reactor_core.specs.Loading.{GivenModule, Gives}
use Rattle.reactor_core.specs.Meaning.{entry}
use Rattle.reactor_core.specs.Answers.{HasRoom, RefusesEntry, LoadAnswer}
use Rattle.reactor_core.specs.Standing.{given_by}
use Rattle.refusal_rules.proofs.RuleLemmas.{refuse, pass}
use Rattle.reactor_core.proofs.AnswerLemmas.{entry_refused, entry_passes}
use Rattle.reactor_core.proofs.reactor.Reactor.load.Goals as goal

begun : (before : List SlotEntry) (stamp : Stamp) (l : LoadEntry) (m : GivenModule)
    (answer : Result (List SlotEntry) (ReactorRefusal × List SlotEntry))
    → Gives l.main l.text m
    → MatchResult answer
    (λ r. HasRoom before × (r ≡ before ++ entry stamp (Load l) ∷ []))
    (λ refused. RefusesEntry before refused.0 × (refused.1 ≡ before))
    → LoadAnswer before stamp l.main l.text answer
begun before stamp l m (Ok r) gives h =
    pass (m, gives) (entry_passes before h.0 (
      r,
      refl,
      record {
        given = m;
        gives = gives;
        added = h.1;
      },
    ))
begun before stamp l m (Err e) gives h =
    let answer : List SlotEntry → Result (List SlotEntry) (ReactorRefusal × List SlotEntry) = λ journal. Err
    (e.0, journal) in
    pass (m, gives) (entry_refused before e.0 h.0 (ap answer h.1))

pub returns-in-Ok : goal.returns-in-Ok
returns-in-Ok c =
    begun c.args.journal c.args.stamp c.args.load (given_by c.in-Ok.loaded) c.begin.result c.in-Ok.ensures.given
    c.begin.ensures

pub returns-in-Err : goal.returns-in-Err
returns-in-Err c = refuse c.in-Err.fault c.in-Err.ensures.fault refl

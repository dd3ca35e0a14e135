-- What C is answered (this project's own form, over what a machine answers).
use Rattle.std.specs.Prelude.{◌≡◌, ◌-◌, ◌<◌, ◌≤◌, ◌/◌, ◌%◌, ℕ, List, [], ◌∷◌, Option, Some, None, cond, ltb}
use Rattle.std.specs.Prelude.{slice_get, slice_index, slice_set}
use Rattle.est_kernel.specs.Bits.{bits}
use Rattle.est_kernel.specs.Interfaces.{emittable, offerable}
use Rattle.est_kernel.specs.declared.interface.Declaration.{Declaration}
use Rattle.est_kernel.specs.declared.state.State.{State}
use Rattle.est_kernel.specs.declared.state.State.TheVariants.{Fresh}
use Rattle.est_meaning.specs.States.{IsState}
use Rattle.est_machine.specs.Machines.{IsRefused, Reacts, MachineState, in_state}
use Rattle.est_machine.specs.Saved.{AreSaved, IsSavedWord}
use Rattle.est_host.specs.declared.question.HostQuestion.{HostQuestion}
use Rattle.est_host.specs.declared.question.HostQuestion.TheVariants.{React, Given, Reset, Inputs, Outputs, Letter, End}
use Rattle.est_host.specs.declared.question.HostQuestion.TheVariants.{Saved, Restore, Put}
use Rattle.est_host.specs.declared.question.TheConstants.{NOTHING}
use Rattle.est_machine.specs.declared.refusal.MachineRefusal.{MachineRefusal}
use Rattle.est_machine.specs.declared.refusal.MachineRefusal.TheVariants.{Broken, NotInputs, Stuck}
use Rattle.est_host.specs.declared.running.HostedMachine.{HostedMachine}

-- the questions, in the order of their numbers
abbrev pub the_questions : List HostQuestion
the_questions = React ∷ Given ∷ Reset ∷ Inputs ∷ Outputs ∷ Letter ∷ End ∷ Saved ∷ Restore ∷ []

-- the question of a number below 64
abbrev pub named : ℕ → Option HostQuestion
named n = slice_get the_questions n

-- the question of a number: from 64 on, one for each word that is put
abbrev pub question_of : ℕ → Option HostQuestion
question_of n = cond (ltb n 64) (named n) (Some (Put (n - 64)))

-- the status of a refusal
abbrev pub status_of : MachineRefusal → ℕ
status_of (Stuck undecided) = 1
status_of (Broken relation) = 2
status_of (NotInputs others) = 3

-- what a refusal tells: undecided signals, the number of a relation, or signals that are no inputs
abbrev pub told_of : MachineRefusal → ℕ
told_of (Stuck undecided) = undecided
told_of (Broken relation) = relation
told_of (NotInputs others) = others

-- a machine reacts, with status 0, and gives its outputs; or it is refused, tells why, and stays as it was
pub data ReactsAs (m : MachineState) (inputs : ℕ) : (status given : ℕ) → MachineState → Type 0 where
  reacts : (outputs : ℕ) (after : MachineState) → Reacts m inputs outputs after
      → ReactsAs m inputs 0 outputs after
  refuses : (why : MachineRefusal) → IsRefused m inputs why → ReactsAs m inputs (status_of why) (told_of why) m

-- a machine goes where the words were saved of it, with status 0; or they were not, the status is 1, and it stays
pub data RestoresAs (m : MachineState) (words : List ℕ) : (status : ℕ) → MachineState → Type 0 where
  restores : (x : State) → AreSaved (in_state m x) words → RestoresAs m words 0 (in_state m x)
  stays : ((x : State) → IsState m.0.root x → AreSaved (in_state m x) words → ⊥) → RestoresAs m words 1 m

-- a word is put at its place, with status 0; or there is no such place
pub data PutsAs (words : List ℕ) (place word : ℕ) : (status : ℕ) → List ℕ → Type 0 where
  puts : place < 65 → PutsAs words place word 0 (slice_set words place word)
  beyond : 65 ≤ place → PutsAs words place word NOTHING words

-- the letter at this place of the name of a signal, if there is one, else 0
abbrev pub letter_of : Option Declaration → ℕ → ℕ
letter_of None n = 0
letter_of (Some d) n = slice_index d.name n

-- what lies at the pointer beside the machine: what was given last, and the words that were put
abbrev pub BesideMachine : Type 0
BesideMachine = ℕ × List ℕ

-- a question about a machine is answered, and this is what it is afterwards, with what is kept beside it
abbrev pub Tells : HostQuestion → MachineState → BesideMachine → (argument result : ℕ) → MachineState → BesideMachine
    → Type 0
Tells React m k argument result after kept = ReactsAs m argument result kept.0 after × (kept.1 ≡ k.1)
Tells Given m k argument result after kept = (result ≡ k.0) × (after ≡ m) × (kept ≡ k)
Tells Reset m k argument result after kept = (result ≡ 0) × (after ≡ in_state m Fresh) × (kept ≡ k)
Tells Inputs m k argument result after kept =
    (bits result ≡ offerable m.0.interface) × (after ≡ m) × (kept ≡ k)
Tells Outputs m k argument result after kept =
    (bits result ≡ emittable m.0.interface) × (after ≡ m) × (kept ≡ k)
Tells Letter m k argument result after kept =
    (result ≡ letter_of (slice_get m.0.interface (argument / 64)) (argument % 64)) × (after ≡ m) × (kept ≡ k)
Tells Saved m k argument result after kept =
    (argument < 65 → IsSavedWord m.2 m.3 argument result) × (65 ≤ argument → result ≡ NOTHING) × (after ≡ m)
    × (kept ≡ k)
Tells Restore m k argument result after kept = RestoresAs m k.1 result after × (kept ≡ k)
Tells (Put place) m k argument result after kept =
    PutsAs k.1 place argument result kept.1 × (after ≡ m) × (kept.0 ≡ k.0)
Tells End m k argument result after kept = ⊥

-- what lies at the pointer beside the machine
abbrev pub kept_by : HostedMachine → BesideMachine
kept_by r = (r.given, r.words)

-- a question about a machine is answered, and it stays one
pub record IsAnswered (question : HostQuestion) (m : MachineState) (before : HostedMachine) (argument result : ℕ)
    (after : HostedMachine)
    : Type 0 where
  pub machine : MachineState
  pub there : after.machine ≡ Some machine
  pub tells : Tells question m (kept_by before) argument result machine (kept_by after)

-- a question is answered: there is a machine until it is ended, and then nothing more is answered
abbrev pub Does : Option HostQuestion → Option MachineState → HostedMachine → (argument result : ℕ) → HostedMachine
    → Type 0
Does (Some End) (Some m) before argument result after =
    (result ≡ 0) × (after.machine ≡ None) × (kept_by after ≡ kept_by before)
Does (Some question) (Some m) before argument result after = IsAnswered question m before argument result after
Does question m before argument result after = (result ≡ NOTHING) × (after ≡ before)

-- the question of this number is answered
abbrev pub Answered : HostedMachine → (number argument result : ℕ) → HostedMachine → Type 0
Answered before number argument result after = Does (question_of number) before.machine before argument result after

-- Words that have no fault name one of the invocations.
use Rattle.std.proofs.Common.{arith, suc, length, ◌≡◌, ◌∙◌, ◌&&◌, ◌||◌, ◌⊎◌, ℕ, Bool, cond, not, true, false, refl, sym}
use Rattle.std.proofs.Common.{ap, inl, inr, List, [], ◌∷◌, fold, Option, Some, None, is_some, option_map, true≢false}
use Rattle.std.proofs.Common.{codes}
use Rattle.std.specs.Prelude.{find}
use Rattle.std.specs.Str.{bytes_eq}
use Rattle.std.proofs.lemmas.Slice.Eq.{bytes_eq-Decides}
use Rattle.clap.specs.Lexer.{long_of, short_of}
use Rattle.clap.specs.Kinds.{Kinds, or_else}
use Rattle.clap.specs.declared.error.kind.ErrorKind.{ErrorKind}
use Rattle.clap.specs.Walk.{Held, Names as SubcommandNames, Outcome, Rule, Row, Step, Text, Waiting, Walk, after_flag}
use Rattle.clap.specs.Walk.{after_step, answers_to, done, idle, finished, long_or_other, next, option, plain}
use Rattle.clap.specs.Walk.{plain_word, positional, refused, settled, subcommand, to_positional, trailing, value, waits}
use Rattle.clap.specs.Walk.{walk, walk_from, walked, walked_from, word_met, subcommand_met, subcommand_or_other}
use Rattle.clap.specs.Walk.{short_or_plain, nothing_held, stop_after, arg_by_index}
use Rattle.clap.specs.Faults.{built_fault, check_fault, defaults_fault, entered_fault, fault_of, other_fault}
use Rattle.clap.specs.Faults.{settle_fault, step_fault, turn_fault, walk_fault, word_fault}
use Rattle.clap.specs.Simple.{App, Shape, argument_words, built, entered, label_of, names_of, rows_at, subcommand_of}
use Rattle.clap.proofs.OnLiterals.{clap_on_literals}
use Rattle.clap.proofs.WalkLemmas.{walk_stopped}
use Rattle.program_words.specs.Words.{IsNamed, Names, command_line}
use Rattle.program_words.proofs.CommandLines.{some_is, some≢none}

-- ---- no word but a subcommand's name stops a walk

abbrev enters : Step → Bool
enters (subcommand name) = true
enters _ = false

plain_enters : (c : List Rule) (waiting : Waiting) (word : Text) (h : Held)
    → enters (plain_word c waiting word h).1 ≡ false
plain_enters c idle word h = refl
plain_enters c (option id) word h = refl
plain_enters c positional word h = refl

flag_enters : (c : List Rule) (waiting : Waiting) (word : Text) (h : Held) (o : Outcome)
    → enters (after_flag c waiting word h o).1 ≡ false
flag_enters c waiting word h done = refl
flag_enters c waiting word h (waits id) = refl
flag_enters c waiting word h plain = plain_enters c waiting word h
flag_enters c waiting word h refused = plain_enters c waiting word h

short_enters : (c : List Rule) (waiting : Waiting) (word : Text) (flags : Option Text) (h : Held)
    → enters (short_or_plain c waiting word flags h).1 ≡ false
short_enters c waiting word (Some flags) h = flag_enters c waiting word _ _
short_enters c waiting word None h = plain_enters c waiting word h

long_enters : (c : List Rule) (waiting : Waiting) (word : Text) (p : Option (Text × Option Text)) (h : Held)
    → enters (long_or_other c waiting word p h).1 ≡ false
long_enters c waiting word (Some p) h = flag_enters c waiting word _ _
long_enters c waiting word None h = short_enters c waiting word (short_of word) h

other_enters : (c : List Rule) (waiting : Waiting) (position : ℕ) (word : Text) (h : Held)
    → enters (subcommand_or_other c None waiting position word h).1 ≡ false
other_enters c waiting position word h = go (bytes_eq word (45 ∷ 45 ∷ []))
  where
    go : (b : Bool) → enters (cond b (h, trailing position) (long_or_other c waiting word (long_of word) h)).1 ≡ false
    go true = refl
    go false = long_enters c waiting word (long_of word) h

positional_goes_on : (c : List Rule) (a : Option Rule) (word : Text) (w : Walk) (h : Held) → w.stopped ≡ None
    → (to_positional c a word w h).stopped ≡ None
positional_goes_on c None word w h e = e
positional_goes_on c (Some a) word w h e = refl

step_goes_on : (c : List Rule) (word : Text) (w : Walk) (h : Held) (step : Step) → w.stopped ≡ None
    → enters step ≡ false
    → (after_step c word w h step).stopped ≡ None
step_goes_on c word w h (next waiting) e goes = e
step_goes_on c word w h (trailing position) e goes = e
step_goes_on c word w h (subcommand name) e goes = absurd (true≢false goes)
step_goes_on c word w h value e goes = positional_goes_on c (arg_by_index c w.position) word w h e

cons_not_nil : {X : Type 0} (x : X) (xs : List X) → x ∷ xs ≡ [] → ⊥
cons_not_nil x xs e =
    let bad : suc (length xs) ≡ 0 = ap (λ ys. length ys) e in
    absurd (omega arith)

or_else_nil : (a b : Kinds) → or_else a b ≡ [] → (a ≡ []) × (b ≡ [])
or_else_nil [] b e = (refl, e)
or_else_nil (k ∷ ks) b e = absurd (cons_not_nil k ks e)

-- ---- a walk with no fault never stops at `help`

module _ (s : Shape) (names : SubcommandNames) (has_help : s.disable_help_subcommand ≡ false) where
  not_help : (name : Text) (k l : ErrorKind)
      → cond (bytes_eq name (codes "help") && not s.disable_help_subcommand) (k ∷ l ∷ []) [] ≡ []
      → bytes_eq name (codes "help") ≡ false
  not_help name k l = go (bytes_eq name (codes "help")) s.disable_help_subcommand has_help
    where
      go : (b d : Bool) → d ≡ false → cond (b && not d) (k ∷ l ∷ []) [] ≡ [] → b ≡ false
      go false d e f = refl
      go true true e f = absurd (true≢false e)
      go true false e f = absurd (cons_not_nil k (l ∷ []) f)

  -- a word that stops the walk is the name of a subcommand other than `help`
  abbrev Stops : Walk → Walk → Type 0
  Stops w after = (name : Text) × (after ≡ record w { stopped = Some (name, []) })
      × (bytes_eq name (codes "help") ≡ false)

  turned : (w : Walk) (word : Text) → w.stopped ≡ None → (is_trailing : Bool) (met : Option Text)
      → cond is_trailing [] (other_fault s met word w.held) ≡ []
      → let went =
      cond is_trailing (w.held, value) (subcommand_or_other s.rules met w.waiting w.position word w.held) in
      ((after_step s.rules word w went.0 went.1).stopped ≡ None) ⊎ Stops w (after_step s.rules word w went.0 went.1)
  turned w word e true met f = inl (positional_goes_on s.rules (arg_by_index s.rules w.position) word w w.held e)
  turned w word e false None f =
      let went = subcommand_or_other s.rules None w.waiting w.position word w.held in
      inl (step_goes_on s.rules word w went.0 went.1 e (other_enters s.rules w.waiting w.position word w.held))
  turned w word e false (Some name) f = inr (name, refl, not_help name _ _ f)

  abbrev next_fault : Walk → Text → Kinds
  next_fault w word =
      let met = word_met s.rules names w.is_trailing w.waiting w.position word w.held in
      step_fault s w.position met.0 met.1

  turn_from : (w : Walk) (word : Text) (o : Option (Text × List Text)) → o ≡ None → w.stopped ≡ None
      → cond (is_some o) [] (or_else (word_fault s names w.is_trailing w.waiting word w.held) (next_fault w word)) ≡ []
      → ((walked_from s.rules names o w word).stopped ≡ None) ⊎ Stops w (walked_from s.rules names o w word)
  turn_from w word (Some p) none e f = absurd (some≢none p none)
  turn_from w word None none e f = turned w word e w.is_trailing (subcommand_met names w.waiting word)
      (or_else_nil _ _ f).0

  turn : (w : Walk) (word : Text) → w.stopped ≡ None → turn_fault s names w word ≡ []
      → ((walked s.rules names w word).stopped ≡ None) ⊎ Stops w (walked s.rules names w word)
  unfolding walked
  turn w word e f = turn_from w word w.stopped e e f

  ends_there : (w after : Walk) (rest : List Text) (p : Text × List Text)
      → (fold (walked s.rules names) after rest).stopped ≡ Some p
      → (after.stopped ≡ None → bytes_eq p.0 (codes "help") ≡ false) → (after.stopped ≡ None) ⊎ Stops w after
      → bytes_eq p.0 (codes "help") ≡ false
  ends_there w after rest p g on (inl e) = on e
  ends_there w after rest p g on (inr stop) =
      let ends : (fold (walked s.rules names) after rest).stopped ≡ Some (stop.0, rest)
      = ap (λ v. (fold (walked s.rules names) v rest).stopped) stop.1
      ∙ sym (ap (λ (v : Walk). v.stopped) (walk_stopped s.rules names w stop.0 [] rest)) in
      let same : p ≡ (stop.0, rest) = some_is _ _ (sym g ∙ ends) in
      ap (λ (q : Text × List Text). bytes_eq q.0 (codes "help")) same ∙ stop.2

  never_help : (w : Walk) (words : List Text) → w.stopped ≡ None → walk_fault s names w words ≡ []
      → (p : Text × List Text) → (fold (walked s.rules names) w words).stopped ≡ Some p
      → bytes_eq p.0 (codes "help") ≡ false
  unfolding walk_fault
  never_help w [] e f p g = absurd (some≢none p (sym g ∙ e))
  never_help w (word ∷ rest) e f p g =
      let parts = or_else_nil _ _ f in
      let on : (walked s.rules names w word).stopped ≡ None → bytes_eq p.0 (codes "help") ≡ false
      = λ none. never_help (walked s.rules names w word) rest none parts.1 p g in
      ends_there w (walked s.rules names w word) rest p g on (turn w word e parts.0)

bytes_eq_false : (xs ys : List ℕ) → bytes_eq xs ys ≡ false → bytes_eq ys xs ≡ false
bytes_eq_false xs ys e = go (bytes_eq ys xs) refl
  where
    go : (b : Bool) → bytes_eq ys xs ≡ b → b ≡ false
    go false at = refl
    go true at = absurd (true≢false (sym ((bytes_eq-Decides xs ys).1 (sym ((bytes_eq-Decides ys xs).0 at))) ∙ e))

-- ---- a line of two invocations and `help`

abbrev IsOneOf : (x y : Shape) → Option (Text × List Row) → Type 0
IsOneOf x y named = Names x.name named ⊎ Names y.name named

picked : (x y z : Shape) (p : Text × List Text) → answers_to p.0 (label_of z) ≡ false
    → is_some (option_map (λ s. rows_at s p.1) (find (λ s. answers_to p.0 (label_of s)) (x ∷ y ∷ z ∷ []))) ≡ true
    → IsOneOf x y (option_map (λ s. rows_at s p.1) (find (λ s. answers_to p.0 (label_of s)) (x ∷ y ∷ z ∷ [])))
picked x y z p other some =
    go (answers_to p.0 (label_of x)) (answers_to p.0 (label_of y)) (answers_to p.0 (label_of z)) other some
  where
    go : (a b d : Bool) → d ≡ false
        → is_some (option_map (λ s. rows_at s p.1) (cond a (Some x) (cond b (Some y) (cond d (Some z) None)))) ≡ true
        → IsOneOf x y (option_map (λ s. rows_at s p.1) (cond a (Some x) (cond b (Some y) (cond d (Some z) None))))
    go true b d e f = inl (_, refl)
    go false true d e f = inr (_, refl)
    go false false true e f = absurd (true≢false e)
    go false false false e f = absurd (true≢false (sym f))

has_one : (s : Shape) (rows : List Row) (has : Bool) → s.subcommand_required ≡ true → s.arg_required_else_help ≡ false
    → check_fault s rows has ≡ [] → has ≡ true
has_one s rows true wanted no_help e = refl
has_one s rows false wanted no_help e = absurd (cons_not_nil _ [] (rw (wanted, no_help) at e))

-- a command that wants one of two subcommands, and has `help`
record IsOfTwo (a : App) (x y z : Shape) : Type 0 where
  subs : a.subs ≡ x ∷ y ∷ z ∷ []
  help : label_of z ≡ (codes "help", [])
  wanted : a.top.subcommand_required ≡ true
  has_help : a.top.disable_help_subcommand ≡ false
  no_help : a.top.arg_required_else_help ≡ false

at_stop : (a : App) (x y z : Shape) → IsOfTwo a x y z → (words : List Text)
    → walk_fault a.top (names_of a) (walk_from nothing_held) words ≡ []
    → (o : Option (Text × List Text)) → stop_after a.top.rules (names_of a) words ≡ o → is_some (entered a o) ≡ true
    → IsOneOf x y (entered a o)
at_stop a x y z two words f None at some = absurd (true≢false (sym some))
at_stop a x y z two words f (Some p) at some =
    let named : bytes_eq p.0 (codes "help") ≡ false
    = never_help a.top (names_of a) two.has_help (walk_from nothing_held) words refl f p at in
    let other : answers_to p.0 (label_of z) ≡ false
    = ap (answers_to p.0) two.help ∙ ap (λ b. b || false) (bytes_eq_false p.0 (codes "help") named) in
    rw two.subs (picked x y z p other (rw two.subs at some))

names_one : (a : App) (x y z : Shape) → IsOfTwo a x y z → (words : List Text) → built_fault a nothing_held words ≡ []
    → IsOneOf x y (entered a (stop_after a.top.rules (names_of a) words))
names_one a x y z two words f =
    let stop = stop_after a.top.rules (names_of a) words in
    let end = (walk a.top.rules (names_of a) nothing_held words).held in
    let has = is_some (entered a stop) in
    let checks = check_fault a.top (finished a.top.rules end) has in
    let later = or_else (defaults_fault (settled a.top.rules end).rows a.top.rules) checks in
    let settling = or_else (settle_fault a.top.rules a.top.args_override_self end) later in
    let walking = walk_fault a.top (names_of a) (walk_from nothing_held) words in
    let walked_part = or_else_nil walking (or_else (entered_fault a stop) settling) f in
    let below = or_else_nil (entered_fault a stop) settling walked_part.1 in
    let settled_part = or_else_nil (settle_fault a.top.rules a.top.args_override_self end) later below.1 in
    let defaults = or_else_nil (defaults_fault (settled a.top.rules end).rows a.top.rules) checks settled_part.1 in
    let some : has ≡ true = has_one a.top (finished a.top.rules end) has two.wanted two.no_help defaults.1 in
    at_stop a x y z two words walked_part.0 stop refl some

-- the program's line
is_of_two : (x : Shape) × (y : Shape) × (z : Shape) × IsOfTwo (built command_line) x y z
    × (x.name ≡ codes "script") × (y.name ≡ codes "serve")
unfolding clap_on_literals
is_of_two = (_, _, _, record { subs = refl; help = refl; wanted = refl; has_help = refl; no_help = refl }, refl, refl)

pub is_named : (words : List Text) → fault_of command_line words ≡ [] → IsNamed (subcommand_of command_line words)
is_named words f =
    let two = is_of_two in
    let one = names_one (built command_line) two.0 two.1 two.2 two.3 (argument_words command_line words) f in
    go one
  where
    go : IsOneOf is_of_two.0 is_of_two.1 (subcommand_of command_line words) → IsNamed (subcommand_of command_line words)
    go (inl h) = inl (h.0, h.1 ∙ ap (λ name. Some (name, h.0)) is_of_two.4)
    go (inr h) = inr (h.0, h.1 ∙ ap (λ name. Some (name, h.0)) is_of_two.5)

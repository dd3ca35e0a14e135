use Rattle.std.proofs.Common.{◌≡◌, ◌∙◌, ℕ, sym, ap, List, Option, Some, [], arith, codes, slice_index}
use Rattle.std.specs.Prelude.{unwrap_or}
use Rattle.clap.specs.Words.{Row, Text, first_of, subcommand_of}
use Rattle.program_words.specs.Words.{Gives, IsSame, command_line, is_set, number_of, workers_in}
use Rattle.program_words.specs.declared.invocation.Invocation.{Invocation}
use Rattle.program_words.specs.declared.invocation.Invocation.TheVariants.{Script, Serve}
use Rattle.program_words.proofs.laws.words_are_one_invocation.Goals as goal

rows_are : (named : Option (Text × List Row)) (name other : Text) (xs ys : List Row) → named ≡ Some (name, xs)
    → named ≡ Some (other, ys) → (name ≡ other) × (xs ≡ ys)
rows_are named name other xs ys e f =
    let same : ◌≡◌ {A = Option (Text × List Row)} (Some (name, xs)) (Some (other, ys)) = sym e ∙ f in
    let pairs = ap (λ (o : Option (Text × List Row)). unwrap_or o (name, xs)) same in
    (ap (λ (p : Text × List Row). p.0) pairs, ap (λ (p : Text × List Row). p.1) pairs)

names_differ : codes "script" ≡ codes "serve" → ⊥
names_differ e =
    let bad : ◌≡◌ {A = ℕ} 99 101 = ap (λ text. slice_index text 1) e in
    absurd (omega arith)

one : (named : Option (Text × List Row)) (a b : Invocation) → Gives named a → Gives named b → IsSame a b
one named (Script log report) (Script log2 report2) g h =
    let rows = (rows_are named _ _ g.0 h.0 g.1 h.1).1 in
    (g.2 ∙ ap (is_set (codes "log")) rows ∙ sym h.2, g.3 ∙ ap (is_set (codes "report")) rows ∙ sym h.3)
one named (Serve s) (Serve t) g h =
    let rows = (rows_are named _ _ g.0 h.0 g.1 h.1).1 in (
      g.2.path ∙ ap (λ rs. unwrap_or (first_of (codes "socket") rs) []) rows ∙ sym h.2.path,
      g.2.workers ∙ ap workers_in rows ∙ sym h.2.workers,
      g.2.connections ∙ ap (number_of (codes "connections")) rows ∙ sym h.2.connections,
    )
one named (Script log report) (Serve t) g h = absurd (names_differ (rows_are named _ _ g.0 h.0 g.1 h.1).0)
one named (Serve s) (Script log report) g h = absurd (names_differ (sym (rows_are named _ _ g.0 h.0 g.1 h.1).0))

pub returns : goal.returns
returns c words a b g h = one (subcommand_of command_line words) a b g.1 h.1

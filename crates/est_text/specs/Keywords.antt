-- The keywords of the language (Berry, The Esterel v5 Language Primer).
use Rattle.std.specs.Prelude.{ℕ, List, [], ◌∷◌, Option, codes}
use Rattle.std.specs.Map.{lookup}
use Rattle.std.specs.Str.{bytes_eq}
use Rattle.est_text.specs.declared.keyword.Keyword.{Keyword}
use Rattle.est_text.specs.declared.keyword.Keyword.TheVariants as keyword

-- each keyword with its word
abbrev pub keywords : List (List ℕ × Keyword)
keywords =
    (codes "module", keyword.Module) ∷
    (codes "end", keyword.End) ∷
    (codes "input", keyword.Input) ∷
    (codes "output", keyword.Output) ∷
    (codes "inputoutput", keyword.Inputoutput) ∷
    (codes "relation", keyword.Relation) ∷
    (codes "nothing", keyword.Nothing) ∷
    (codes "pause", keyword.Pause) ∷
    (codes "halt", keyword.Halt) ∷
    (codes "emit", keyword.Emit) ∷
    (codes "sustain", keyword.Sustain) ∷
    (codes "present", keyword.Present) ∷
    (codes "then", keyword.Then) ∷
    (codes "else", keyword.Else) ∷
    (codes "suspend", keyword.Suspend) ∷
    (codes "when", keyword.When) ∷
    (codes "immediate", keyword.Immediate) ∷
    (codes "loop", keyword.Loop) ∷
    (codes "each", keyword.Each) ∷
    (codes "every", keyword.Every) ∷
    (codes "do", keyword.Do) ∷
    (codes "await", keyword.Await) ∷
    (codes "abort", keyword.Abort) ∷
    (codes "weak", keyword.Weak) ∷
    (codes "trap", keyword.Trap) ∷
    (codes "in", keyword.In) ∷
    (codes "exit", keyword.Exit) ∷
    (codes "signal", keyword.Signal) ∷
    (codes "run", keyword.Run) ∷
    (codes "and", keyword.And) ∷
    (codes "or", keyword.Or) ∷
    (codes "not", keyword.Not) ∷
    []

-- the keyword that a word is, if it is one
abbrev pub keyword_of : List ℕ → Option Keyword
keyword_of word = lookup (bytes_eq word) keywords

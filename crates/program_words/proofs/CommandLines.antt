-- What is known of clap's arguments and commands by what a parse reads of them, and what a caller reads of the matches.
use Rattle.std.proofs.Common.{◌≡◌, ◌∙◌, ◌^◌, ◌&&◌, ℕ, Bool, true, false, not, refl, sym, ap, ap₂, List, [], ◌∷◌, length}
use Rattle.std.proofs.Common.{Option, Some, None, Result, true≢false, nat_lt, lt-ltb, ltb-true}
use Rattle.std.specs.Prelude.{option_map, option_and_then, unwrap_or, is_some}
use Rattle.std.specs.List.{list_all}
use Rattle.std.specs.Char.{digit_value}
use Rattle.std.specs.Str.Parse.{AllDigits, ExplainsUnsignedError, HasUnsignedDigitsIfOk, ParsesUnsigned, digits_value}
use Rattle.std.specs.Str.Parse.{without_leading_plus}
use Rattle.std.specs.declared.num.ParseIntError.{ParseIntError}
use Rattle.clap.specs.Words.{App, ReadsOne, Row, Rule, Text, app_of, is_simple, is_simple_and_free, one_text, rows_of}
use Rattle.clap.specs.Words.{rule_of, shape_of, subcommand_name_of, subcommand_rows_of}
use Rattle.clap.specs.Walk.{is_empty, is_simple_arg}
use Rattle.clap.specs.ValueTests.{is_numeral}
use Rattle.clap.specs.declared.builder.arg.Arg.{Arg}
use Rattle.clap.specs.declared.builder.command.Command.{Command}
use Rattle.clap.specs.declared.parser.matches.ArgMatches.{ArgMatches}
use Rattle.clap.specs.declared.parser.matches.Found.{Found}
use Rattle.clap.proofs.OnLiterals.{clap_on_literals}
use Rattle.clap.proofs.WalkLemmas.{both, one_text-rows}
use Rattle.clap.proofs.SimpleLemmas.{is_false}
use Rattle.program_words.specs.Words.{command_line, number_in, number_of}

-- ---- arguments and commands

second : (a b : Bool) → (a && b) ≡ true → b ≡ true
second a b e = (both a b e).1

tenth : (a b c d e f g h i j : Bool) → (a && (b && (c && (d && (e && (f && (g && (h && (i && j))))))))) ≡ true
    → j ≡ true
tenth a b c d e f g h i j is =
    second i j
    (second h _ (second g _ (second f _ (second e _ (second d _ (second c _ (second b _ (second a _ is))))))))

simple_is_local : (a : Arg) → is_simple_arg a ≡ true → a.global ≡ false
simple_is_local a e =
    is_false _ (tenth (is_empty a.overrides.items) (is_empty a.default_vals_ifs.items) (is_empty a.groups.items)
    (not (is_some a.val_delim)) (not (is_some a.terminator)) (not a.allow_hyphen_values)
    (not a.allow_negative_numbers) (not a.require_equals) (not a.last) (not a.global) e)

-- an argument that is read by a simple rule is not global
pub is_local : (a : Arg) (r : Rule) → rule_of a ≡ r → r.is_simple ≡ true → a.global ≡ false
is_local a r e simple = simple_is_local a (ap (λ (q : Rule). q.is_simple) e ∙ simple)

-- a command that is read as a plain one is plain
pub is_plain_line : (c : Command) (a : App) → app_of c ≡ a → a.top.is_plain ≡ true → (shape_of c).is_plain ≡ true
is_plain_line c a e plain = ap (λ (b : App). b.top.is_plain) e ∙ plain

-- clap says what it makes of the program's command line, whatever the words
pub is_simple_line : is_simple_and_free command_line ≡ true
unfolding clap_on_literals
is_simple_line = refl

pub has_known_matches : is_simple command_line ≡ true
unfolding clap_on_literals
has_known_matches = refl

-- ---- subcommands

pub some_is : {X : Type 0} (x y : X) → Some x ≡ Some y → x ≡ y
some_is x y e = ap (λ o. unwrap_or o x) e

pub some≢none : {X : Type 0} (x : X) → Some x ≡ None → ⊥
some≢none x e = true≢false (ap (λ o. is_some o) e)

map_twice : {A B C : Type 0} (f : B → C) (g : A → B) (o : Option A)
    → option_map f (option_map g o) ≡ option_map (λ a. f (g a)) o
map_twice f g None = refl
map_twice f g (Some a) = refl

pub first_names : (m : ArgMatches) → option_map (λ p. p.0) (subcommand_rows_of m) ≡ subcommand_name_of m
first_names m = map_twice (λ p. p.0) _ _

pub both_parts : (o : Option (Text × List Row)) (name : Text) (rows : List Row) → option_map (λ p. p.0) o ≡ Some name
    → option_map (λ p. p.1) o ≡ Some rows → o ≡ Some (name, rows)
both_parts None name rows e f = absurd (some≢none name (sym e))
both_parts (Some p) name rows e f = ap₂ (λ n r. Some (n, r)) (some_is p.0 name e) (some_is p.1 rows f)

-- ---- numbers

digits_pass : (ds : List ℕ) → AllDigits 10 ds → list_all (λ d. nat_lt (digit_value d) 10) ds ≡ true
digits_pass [] h = refl
digits_pass (d ∷ ds) h = rw (lt-ltb (digit_value d) 10 h.0) (digits_pass ds h.1)

digits_from : (ds : List ℕ) → list_all (λ d. nat_lt (digit_value d) 10) ds ≡ true → AllDigits 10 ds
digits_from [] e = tt
digits_from (d ∷ ds) e =
    let parts = both _ _ e in
    (ltb-true _ _ parts.0, digits_from ds parts.1)

abbrev fits : List ℕ → Bool
fits ds = is_numeral ds && nat_lt (digits_value 10 ds) (2 ^ 64)

-- how the code reads a number of 64 bits
abbrev pub Reads64 : List ℕ → Result ℕ ParseIntError → Type 0
Reads64 text read = ParsesUnsigned 64 10 text read × ExplainsUnsignedError 10 text read
    × HasUnsignedDigitsIfOk text read

-- what is read of a text as a number of 64 bits
number_reads : (t : List ℕ) (o : Option ℕ) → ReadsOne Reads64 t o → o ≡ number_in t
number_reads t (Some n) h =
    let ds = without_leading_plus t in
    let p = h.0 in
    rw (lt-ltb 0 (length ds) p.0.0.0, digits_pass ds p.0.0.1, lt-ltb (digits_value 10 ds) (2 ^ 64) p.0.1)
    (ap (λ k. Some k) p.1)
number_reads t None h = go (fits (without_leading_plus t)) refl
  where
    go : (b : Bool) → fits (without_leading_plus t) ≡ b → None ≡ number_in t
    go false e = rw e refl
    go true e =
        let outer = both _ _ e in
        let inner = both _ _ outer.0 in
        absurd (h.1.0 ((ltb-true _ _ inner.0, digits_from (without_leading_plus t) inner.1), ltb-true _ _ outer.1))

one_number : (text : Option Text) (o : Option ℕ) → (text ≡ None → o ≡ None)
    → ((t : Text) → text ≡ Some t → ReadsOne Reads64 t o) → o ≡ option_and_then number_in text
one_number None o none some = none refl
one_number (Some t) o none some = number_reads t o (some t refl)

-- what a typed getter reads of an option as a number
pub number_is : (f : Found) (name : Text) (o : Option ℕ) → (one_text f name ≡ None → o ≡ None)
    → ((t : Text) → one_text f name ≡ Some t → ReadsOne Reads64 t o)
    → o ≡ number_of name (rows_of f)
number_is f name o none some =
    one_number (one_text f name) o none some ∙ ap (option_and_then number_in) (one_text-rows f name)

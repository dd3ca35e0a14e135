-- Which words are an invocation, by clap's rules for the program's command line (this project's own form).
use Rattle.std.specs.Prelude.{◌≡◌, ◌⊎◌, ◌&&◌, ◌^◌, ℕ, Bool, true, false, List, [], Option, Some, None, if◌then◌else◌}
use Rattle.std.specs.Prelude.{nat_lt, codes, option_and_then, unwrap_or}
use Rattle.std.specs.Option.{option_map_or}
use Rattle.std.specs.Str.{bytes_eq}
use Rattle.std.specs.Str.Parse.{digits_value, without_leading_plus}
use Rattle.clap.specs.Words.{App, IsAmong, Row, Rule, Text, fault_of, first_of, kind_of, new_app, new_rule, one_of}
use Rattle.clap.specs.Words.{subcommand_of, with_rule, with_subcommand}
use Rattle.clap.specs.ValueTests.{is_numeral}
use Rattle.clap.specs.declared.builder.action.ArgAction.TheVariants.{Set, SetTrue}
use Rattle.clap.specs.declared.builder.value_parser.ValueParser.TheVariants.{Unsigned}
use Rattle.program_words.specs.Counts.{may_work}
use Rattle.program_words.specs.declared.fault.WordFault.{WordFault}
use Rattle.program_words.specs.declared.fault.WordFault.TheVariants as fault
use Rattle.program_words.specs.declared.invocation.Invocation.{Invocation}
use Rattle.program_words.specs.declared.invocation.Invocation.TheVariants.{Script, Serve}
use Rattle.program_words.specs.declared.invocation.ServeOptions.{ServeOptions}
use Rattle.program_words.specs.declared.invocation.TheConstants.{MOST_CONNECTIONS, MOST_WORKERS, DEFAULT_WORKERS}

-- ---- the command line

-- a flag of this name
abbrev pub flag_rule : (name : Text) → Rule
flag_rule name = record (new_rule name) { long = Some name; action = Some SetTrue }

-- `script`, with its flags
abbrev pub script_line : App
script_line = with_rule (with_rule (new_app (codes "script")) (flag_rule (codes "log"))) (flag_rule (codes "report"))

-- an option of this name, which has one value
abbrev pub option_rule : (name : Text) → Rule
option_rule name = record (new_rule name) { long = Some name; action = Some Set; value_names = 1 }

-- `--socket`, which has to be given
abbrev pub socket_rule : Rule
socket_rule = record (option_rule (codes "socket")) { required = true }

-- an option of this name, whose value is a number from 1 to `most`
abbrev pub number_rule : (name : Text) → (most : ℕ) → Rule
number_rule name most = record (option_rule name) { parser = Some (Unsigned 1 most) }

-- `serve`, with its options
abbrev pub serve_line : App
serve_line =
    let with_socket = with_rule (new_app (codes "serve")) socket_rule in
    let with_workers = with_rule with_socket (number_rule (codes "workers") MOST_WORKERS) in
    with_rule with_workers (number_rule (codes "connections") MOST_CONNECTIONS)

-- the program's command line: one of its invocations has to be named, or help or the version is asked for
abbrev pub command_line : App
command_line =
    let bare = new_app (codes "estserve") in
    let named = record bare { top = record bare.top { has_version = true; subcommand_required = true } } in
    with_subcommand (with_subcommand named script_line.top) serve_line.top

-- ---- what is read of the options

-- the flag is set: its value is `true`
abbrev pub is_set : (name : Text) → List Row → Bool
is_set name rows = option_map_or (λ text. bytes_eq text (codes "true")) (first_of name rows) false

-- the number that a text writes, where 64 bits hold it
abbrev pub number_in : Text → Option ℕ
number_in text =
    let digits = without_leading_plus text in
    if is_numeral digits && nat_lt (digits_value 10 digits) (2 ^ 64) then Some (digits_value 10 digits) else None

-- the number that is read of the option of this name, if it is given
abbrev pub number_of : (name : Text) → List Row → Option ℕ
number_of name rows = option_and_then number_in (one_of name rows)

-- the number of workers that was asked for, if that many are allowed; else the default
abbrev pub allowed : (count : ℕ) → ℕ
allowed count = if may_work count then count else DEFAULT_WORKERS

-- the number of workers for which these options ask
abbrev pub workers_in : List Row → ℕ
workers_in rows = option_map_or allowed (number_of (codes "workers") rows) DEFAULT_WORKERS

-- the service for which these options ask
pub record IsService (rows : List Row) (service : ServeOptions) : Type 0 where
  pub path : service.path.now ≡ unwrap_or (first_of (codes "socket") rows) []
  pub workers : service.workers ≡ workers_in rows
  pub connections : service.connections ≡ number_of (codes "connections") rows

-- ---- invocations

-- the invocation that is named, and what is read of its options, give this invocation
abbrev pub Gives : (named : Option (Text × List Row)) → Invocation → Type 0
Gives named (Script log report) = (rows : List Row) × (named ≡ Some (codes "script", rows))
    × (log ≡ is_set (codes "log") rows) × (report ≡ is_set (codes "report") rows)
Gives named (Serve service) = (rows : List Row) × (named ≡ Some (codes "serve", rows)) × IsService rows service

-- what is named is the invocation of this name
abbrev pub Names : (name : Text) → (named : Option (Text × List Row)) → Type 0
Names name named = (rows : List Row) × (named ≡ Some (name, rows))

-- one of the invocations is named
abbrev pub IsNamed : (named : Option (Text × List Row)) → Type 0
IsNamed named = Names (codes "script") named ⊎ Names (codes "serve") named

-- the words are a command line without a fault, and give this invocation
abbrev pub IsInvocation : (words : List Text) → Invocation → Type 0
IsInvocation words invocation = (fault_of command_line words ≡ []) × Gives (subcommand_of command_line words) invocation

-- two invocations are the same, wherever their texts lie in memory
abbrev pub IsSame : Invocation → Invocation → Type 0
IsSame (Script log report) (Script log2 report2) = (log ≡ log2) × (report ≡ report2)
IsSame (Serve one) (Serve other) =
    (one.path.now ≡ other.path.now) × (one.workers ≡ other.workers) × (one.connections ≡ other.connections)
IsSame _ _ = ⊥

-- the words have a fault, of the kind that the error tells; or memory was refused
abbrev pub IsRefused : (words : List Text) → WordFault → Type 0
IsRefused words (fault.Words e) = IsAmong (kind_of e) (fault_of command_line words)
IsRefused words fault.Memory = Unit {0}

use Rattle.std.proofs.Common.{◌≡◌, ◌∙◌, refl, true, ap, ap₂, codes}
use Rattle.std.proofs.lemmas.Result.{IfOk-weaker}
use Rattle.clap.specs.Words.{App, app_of, new_app, with_subcommand}
use Rattle.clap.specs.Simple.{app_of_fields}
use Rattle.clap.proofs.SimpleLemmas.{plain_fields}
use Rattle.program_words.specs.Words.{script_line, serve_line}
use Rattle.program_words.proofs.CommandLines.{is_plain_line}
use Rattle.program_words.proofs.words.program_words.Goals as goal

-- a command that has a version
abbrev versioned : App → App
versioned a = record a { top = record a.top { has_version = true } }

-- a command that has to name a subcommand
abbrev required : App → App
required a = record a { top = record a.top { subcommand_required = true } }

pub returns : goal.returns
returns c =
    let script = c.in_ok-script.script in
    let serve = c.in_ok-serve.serve in
    let script_local = (plain_fields script (is_plain_line script script_line c.in_ok-script.ensures refl)).globals in
    let serve_local = (plain_fields serve (is_plain_line serve serve_line c.in_ok-serve.ensures refl)).globals in
    let about : app_of c.about.result ≡ new_app (codes "estserve") =
    ap app_of_fields c.about.ensures ∙ c.new.ensures.app in
    let version : app_of c.version.result ≡ versioned (new_app (codes "estserve"))
    = ap app_of_fields c.version.ensures ∙ ap versioned about in
    let named : app_of c.subcommand_required.result ≡ required (versioned (new_app (codes "estserve")))
    = ap app_of_fields c.subcommand_required.ensures ∙ ap required version in
    let script_is = ap (λ (a : App). a.top) c.in_ok-script.ensures in
    let serve_is = ap (λ (a : App). a.top) c.in_ok-serve.ensures in
    let first = c.in_ok-subcommand.ensures.shape script_local ∙ ap₂ with_subcommand named script_is in
    IfOk-weaker c.subcommand-2.result _ _ (λ words added.
    added.shape serve_local ∙ ap₂ with_subcommand first serve_is) c.subcommand-2.ensures

-- How the answer to a command is read off rules of refusal: the state before, the reply, and the state afterwards (this
-- project's own form).
use Rattle.std.specs.Prelude.{◌≡◌}
use Rattle.refusal_rules.specs.Rules.{Rule, Rules, MayRefuse, Answers}
use Rattle.access_core.specs.declared.refusal.Refusal.{Refusal}
use Rattle.access_core.specs.declared.refusal.Refusal.TheVariants.{Memory}
use Rattle.access_core.specs.declared.reply.Reply.{Reply}
use Rattle.access_core.specs.declared.reply.Reply.TheVariants.{Refused}

-- the reply is this refusal, and the state stays
pub record IsRefused {S : Type 0} (refusal : Refusal) (before : S) (reply : Reply) (after : S) : Type 0 where
  pub replied : reply ≡ Refused refusal
  pub stays : after ≡ before

-- the reply is a refusal by these rules, which leaves the state; or what follows them answers
abbrev pub ByRules : {S : Type 0} → Rules Refusal → (Next : S → Reply → S → Type 0) → (before : S) → Reply → (after : S)
    → Type 0
ByRules rules Next before reply after = Answers rules (λ refusal. IsRefused refusal before reply after)
    (Next before reply after)

-- memory may be refused
abbrev pub no_memory : Rule Refusal
no_memory = MayRefuse Memory

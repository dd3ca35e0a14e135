use Rattle.est_text.proofs.Ascii.{text_is_read}
use Rattle.rbac_policy.proofs.OfNames.Ascii.{name_is_text}
use Rattle.rbac_policy.proofs.names.Name.as_str.Goals as goal

pub unwrap-requires : goal.unwrap-requires
unwrap-requires c = text_is_read _ _ _ c.from_utf8.result c.from_utf8.ensures.cases (name_is_text _ c.self.invariant.1)

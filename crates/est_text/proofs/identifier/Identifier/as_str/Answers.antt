use Rattle.est_text.proofs.Ascii.{identifier_is_text, text_is_read}
use Rattle.est_text.proofs.identifier.Identifier.as_str.Goals as goal

pub unwrap-requires : goal.unwrap-requires
unwrap-requires c = text_is_read _ _ _ c.from_utf8.result c.from_utf8.ensures.cases
    (identifier_is_text _ c.self.invariant.1)

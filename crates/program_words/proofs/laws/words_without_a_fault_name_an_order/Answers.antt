use Rattle.program_words.proofs.NamedInvocations.{is_named}
use Rattle.program_words.proofs.laws.words_without_a_fault_name_an_order.Goals as goal

pub returns : goal.returns
returns c words e = is_named words e

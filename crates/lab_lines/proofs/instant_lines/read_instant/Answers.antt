use Rattle.std.proofs.Common.{◌≡◌, ◌∙◌, ℕ, List, Some, codes, map, option_map, ap, sym, Bor, Vec, Global}
use Rattle.wire_lines.specs.Inner.Members.{word_at}
use Rattle.lab_lines.proofs.InstantLineLemmas.{asks_instant, asks_try}
use Rattle.lab_lines.proofs.instant_lines.read_instant.Goals as goal

pub returns-in-Some-2 : goal.returns-in-Some-2
returns-in-Some-2 c =
    let later = c.take_word.new.reader in
    asks_instant c.args.text.now later c.in-Some-2.names
    (sym (ap word_at c.in_ok-reader.ensures.ok) ∙ sym c.in-Some.ensures
    ∙ ap (λ (w : List ℕ). Some (w, later)) c.in-instant.is)
    (sym c.in_ok-names-in-instant.ensures
    ∙ ap (option_map (λ (v : Vec (Bor (List ℕ)) Global). map (λ t. t.now) v.items)) c.in-Some-2.is)

pub returns-in-Some-3 : goal.returns-in-Some-3
returns-in-Some-3 c =
    let later = c.take_word.new.reader in
    asks_try c.args.text.now later c.in-Some-3.names
    (sym (ap word_at c.in_ok-reader.ensures.ok) ∙ sym c.in-Some.ensures
    ∙ ap (λ (w : List ℕ). Some (w, later)) c.in-try.is)
    (sym c.in_ok-names-in-try.ensures
    ∙ ap (option_map (λ (v : Vec (Bor (List ℕ)) Global). map (λ t. t.now) v.items)) c.in-Some-3.is)

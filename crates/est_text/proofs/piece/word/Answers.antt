use Rattle.std.proofs.Common.{◌≡◌, ◌∙◌, take, sym, ap}
use Rattle.est_text.specs.Keywords.{keyword_of}
use Rattle.est_text.proofs.Fronts.{word_fault, keyword_found, identifier_found, identifier_read, none_read}
use Rattle.est_text.proofs.piece.word.Goals as goal

pub returns-in_default-clause-none : goal.returns-in_default-clause-none
returns-in_default-clause-none c =
    let rest = c.args.rest.now in
    let n = c.word_len-count.result in
    let e = rw c.split_at.ensures.front at c.from_bytes.ensures in
    word_fault rest n c.requires.some c.requires.letter c.word_len-count.ensures.same c.word_len-count.ensures.stops
    (none_read (take n rest) c.from_bytes.result e c.in_default.is)

pub returns-in-Some-keyword_of-clause-found : goal.returns-in-Some-keyword_of-clause-found
returns-in-Some-keyword_of-clause-found c =
    let rest = c.args.rest.now in
    let n = c.word_len-count.result in
    let e = rw c.split_at.ensures.front at c.from_bytes.ensures in
    let read = identifier_read (take n rest) c.in-Some.name c.from_bytes.result e c.in-Some.is in
    let same : c.as_str.result.now ≡ take n rest = c.as_str.ensures.same ∙ read.1 in
    keyword_found c.in-Some-keyword_of.keyword rest n c.word_len-count.ensures.within c.word_len-count.ensures.stops
    read.0
    (ap keyword_of (sym same) ∙ sym c.keyword_of.ensures ∙ c.in-Some-keyword_of.is)

pub returns-in-None-clause-found : goal.returns-in-None-clause-found
returns-in-None-clause-found c =
    let rest = c.args.rest.now in
    let n = c.word_len-count.result in
    let e = rw c.split_at.ensures.front at c.from_bytes.ensures in
    let read = identifier_read (take n rest) c.in-Some.name c.from_bytes.result e c.in-Some.is in
    let same : c.as_str.result.now ≡ take n rest = c.as_str.ensures.same ∙ read.1 in
    identifier_found c.in-Some.name rest n c.word_len-count.ensures.within c.word_len-count.ensures.stops read.0
    (ap keyword_of (sym same) ∙ sym c.keyword_of.ensures ∙ c.in-None.is) read.1

use Rattle.std.proofs.Common.{◌<◌, ◌/◌, arith, length}
use Rattle.est_net.proofs.CellSets.{first_here, later_first, later_none, none_before, none_here, word_is}
use Rattle.est_net.proofs.cell_set.CellSet.+first_in.Goals as goal

pub returns-then-from-past-clause-none : goal.returns-then-from-past-clause-none
returns-then-from-past-clause-none t c = none_before _ c.args.from c.args.past (omega (arith, c.if-from-past.true))

pub returns-in-None-clause-some : goal.returns-in-None-clause-some
returns-in-None-clause-some t c =
    let words = c.args.self.now.words.items in
    let from = c.args.from in
    let within : from / 64 < length words = omega (arith, c.requires, c.if-from-past.false) in
    later_first words from c.saturating_add.result c.args.past c.index.result.now c.first_in.result
    (word_is words (from / 64) c.index.result.now within c.index.ensures) c.in-None.ensures.none
    (omega (arith, c.saturating_add.ensures)) (omega (arith, c.saturating_add.ensures, c.ranges.from.fits))
    c.first_in.ensures.some

pub returns-in-None-clause-none : goal.returns-in-None-clause-none
returns-in-None-clause-none t c =
    let words = c.args.self.now.words.items in
    let from = c.args.from in
    let within : from / 64 < length words = omega (arith, c.requires, c.if-from-past.false) in
    later_none words from c.saturating_add.result c.args.past c.index.result.now c.first_in.result
    (word_is words (from / 64) c.index.result.now within c.index.ensures) c.in-None.ensures.none
    (omega (arith, c.saturating_add.ensures)) c.first_in.ensures.none

pub returns-then-word-bit-clause-some : goal.returns-then-word-bit-clause-some
returns-then-word-bit-clause-some t c =
    let words = c.args.self.now.words.items in
    let from = c.args.from in
    let within : from / 64 < length words = omega (arith, c.requires, c.if-from-past.false) in
    first_here words from c.args.past c.index.result.now c.in-Some.bit
    (word_is words (from / 64) c.index.result.now within c.index.ensures) c.in-Some.ensures.some c.if-word-bit.true

pub returns-else-word-bit-clause-none : goal.returns-else-word-bit-clause-none
returns-else-word-bit-clause-none t c =
    let words = c.args.self.now.words.items in
    let from = c.args.from in
    let within : from / 64 < length words = omega (arith, c.requires, c.if-from-past.false) in
    none_here words from c.args.past c.index.result.now c.in-Some.bit
    (word_is words (from / 64) c.index.result.now within c.index.ensures) c.in-Some.ensures.some
    (omega (arith, c.if-word-bit.false))

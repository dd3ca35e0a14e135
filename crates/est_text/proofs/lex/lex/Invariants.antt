use Rattle.std.proofs.Common.{◌≡◌, ◌<◌, ◌+◌, ◌^◌, List, length}
use Rattle.est_text.specs.Pieces.{Cut, ArePieces, tokens_from}
use Rattle.est_text.proofs.lex.lex.Given as goal

abbrev pub invariant-loop-rest : goal.invariant-loop-rest
invariant-loop-rest l = record {
  short : length l.text + 1 < 2 ^ 64;
  place : l.start + length l.rest ≡ length l.text;
  so_far : (cs : List Cut) × ArePieces l.text cs l.rest × (l.tokens.items ≡ tokens_from 0 cs);
}

abbrev pub decreases-loop-rest : goal.decreases-loop-rest
decreases-loop-rest l = length l.rest

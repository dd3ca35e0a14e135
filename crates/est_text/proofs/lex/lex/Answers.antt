use Rattle.std.proofs.Common.{◌≡◌, ◌∙◌, ℕ, List, length, take, ◌++◌, ◌∷◌, [], sym, ap, subst, arith, rules}
use Rattle.std.proofs.lemmas.List.{length-drop, length-take}
use Rattle.est_text.specs.Pieces.{Cut, ArePieces, AreTokens, located, tokens_from}
use Rattle.est_text.specs.Lexing.{IsFirstFault}
use Rattle.est_text.proofs.OneCut.{tokens_are_one, tokens_or_fault}
use Rattle.est_text.specs.declared.token.Located.{Located}
use Rattle.est_text.proofs.Runs.{ArePieces-more, tokens-more}
use Rattle.est_text.proofs.lex.lex.Goals as goal

pub loop-rest-preserved : goal.loop-rest-preserved
loop-rest-preserved c =
    let text = c.args.text.now in
    let rest = c.loop-rest.rest.now in
    let found = c.in-Some.ensures.found in
    let far = c.loop-rest.invariant.so_far in
    let cut : Cut = record { is = c.in-Some.piece; bytes = take c.in-Some.count rest } in
    let long : length (take c.in-Some.count rest) ≡ c.in-Some.count = omega (arith, length-take c.in-Some.count rest) in
    record {
      short = c.loop-rest.invariant.short;
      place = omega (arith, ap length c.split_at.ensures.back, length-drop c.in-Some.count rest);
      so_far = (
        far.0 ++ cut ∷ [],
        subst (ArePieces text (far.0 ++ cut ∷ [])) (sym c.split_at.ensures.back)
            (ArePieces-more far.0 text rest c.in-Some.piece c.in-Some.count far.1 found),
        c.in_ok-add.ensures ∙ ap (λ (l : List Located). l ++ located c.in-Some.piece c.loop-rest.start c.in-Some.count)
            far.2
            ∙ sym (tokens-more far.0 text rest 0 c.loop-rest.start cut far.1 (omega arith)
            ∙ ap (λ (n : ℕ). tokens_from 0 far.0 ++ located c.in-Some.piece c.loop-rest.start n) long),
      );
    }

pub returns-in_default-clause-takes : goal.returns-in_default-clause-takes
returns-in_default-clause-takes c = λ all h.
    let fault : IsFirstFault c.args.text.now c.loop-rest.start = search rules in
    absurd (tokens_or_fault c.args.text.now all c.loop-rest.start h fault)

pub returns-clause-takes : goal.returns-clause-takes
returns-clause-takes c = λ all h.
    let own : AreTokens c.args.text.now c.new.result.located = search rules in
    tokens_are_one c.args.text.now c.new.result.located all own h

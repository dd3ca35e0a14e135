use Rattle.language_tests.proofs.parts.+parts.Given as goal

abbrev pub decreases-parts : goal.decreases-parts
decreases-parts l = l.most

use Rattle.lab_lines.proofs.pauses.+add_pauses_below.Given as goal

-- proposed from what the function passes where it calls itself
abbrev pub decreases-add_pauses_below : goal.decreases-add_pauses_below
decreases-add_pauses_below l = l.count

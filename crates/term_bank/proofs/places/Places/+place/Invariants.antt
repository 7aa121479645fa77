use Rattle.term_bank.proofs.places.Places.+place.Given as goal

abbrev pub decreases-term : goal.decreases-term
decreases-term l = l.place

use Rattle.std.proofs.Common.{◌≡◌, drop}
use Rattle.std.specs.List.{list_all}
use Rattle.proof_text.specs.Reading.{term_fits}
use Rattle.proof_text.proofs.ranges.tuple_fits.Given as goal

-- all fit where those that are left do
abbrev pub invariant-loop-term : goal.invariant-loop-term
invariant-loop-term l = list_all term_fits (drop l.term-index l.terms) ≡ list_all term_fits l.terms

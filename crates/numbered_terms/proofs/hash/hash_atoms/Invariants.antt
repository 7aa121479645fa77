use Rattle.std.proofs.Common.{◌≡◌, drop}
use Rattle.logic_core.specs.View.{parts_of}
use Rattle.numbered_terms.specs.Shaped.{shaped_atoms}
use Rattle.term_bank.specs.Hash.{hash_of_parts}
use Rattle.numbered_terms.proofs.hash.hash_atoms.Given as goal

abbrev pub invariant-loop-part : goal.invariant-loop-part
invariant-loop-part l = hash_of_parts l.mixed (parts_of (shaped_atoms (drop l.part-index l.parts))) ≡ hash_of_parts l.start (parts_of (shaped_atoms l.parts))

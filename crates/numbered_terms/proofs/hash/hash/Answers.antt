use Rattle.std.proofs.Common.{FitsSigned, refl, rules}
use Rattle.std.specs.Int.{w128}
use Rattle.std.proofs.lemmas.Int.{to_z-of_z}
use Rattle.numbered_terms.proofs.hash.hash.Goals as goal

pub returns-in-Sum : goal.returns-in-Sum
returns-in-Sum c = let fits : FitsSigned w128 c.in-Sum.rest = search rules in
    rw (c.mix-in-Sum.ensures, c.hash_atoms.ensures, c.number_hash-in-Sum.ensures, c.deref.ensures.value, c.in-Sum.is, to_z-of_z w128 _ fits) refl

pub returns-in-ForAll : goal.returns-in-ForAll
returns-in-ForAll c = rw (c.mix-in-ForAll.ensures, c.hash_lists.ensures, c.hash_number-in-ForAll.ensures, c.deref-in-ForAll.ensures.value, c.in-ForAll.is) refl

pub returns-in-Exists : goal.returns-in-Exists
returns-in-Exists c = rw (c.mix-in-Exists.ensures, c.hash_lists-in-Exists.ensures, c.hash_number-in-Exists.ensures, c.deref-in-Exists.ensures.value, c.in-Exists.is) refl

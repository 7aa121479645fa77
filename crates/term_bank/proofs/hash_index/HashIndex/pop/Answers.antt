use Rattle.std.proofs.Common.{◌≡◌, ◌∙◌, ap, [], ◌∷◌, ◌++◌}
use Rattle.std.specs.Option.{option_to_list}
use Rattle.term_bank.proofs.Indexed.{last_there, indexed_pop}
use Rattle.term_bank.proofs.hash_index.HashIndex.pop.Goals as goal

pub set_back-requires : goal.set_back-requires
set_back-requires c =
    let e : c.self.inside.hashes.items ≡ c.pop.new.self.items ++ c.unwrap-hash.result ∷ [] = c.pop.ensures.items ∙ ap (λ o. c.pop.new.self.items ++ option_to_list o) c.unwrap-hash.ensures in
    last_there c.self.inside.hashes.items c.pop.new.self.items c.self.inside.latest.entries c.self.inside.earlier.items c.unwrap-hash.result c.self.invariant e

pub invariant_of-self : goal.invariant_of-self
invariant_of-self c =
    let e : c.self.inside.hashes.items ≡ c.pop.new.self.items ++ c.unwrap-hash.result ∷ [] = c.pop.ensures.items ∙ ap (λ o. c.pop.new.self.items ++ option_to_list o) c.unwrap-hash.ensures in
    let f : c.self.inside.earlier.items ≡ c.pop-2.new.self.items ++ c.unwrap-before.result ∷ [] = c.pop-2.ensures.items ∙ ap (λ o. c.pop-2.new.self.items ++ option_to_list o) c.unwrap-before.ensures in
    indexed_pop c.self.inside.hashes.items c.pop.new.self.items c.self.inside.latest.entries c.set_back.new.latest.entries c.self.inside.earlier.items c.pop-2.new.self.items c.unwrap-hash.result c.unwrap-before.result c.self.invariant e f c.set_back.ensures

use Rattle.numbered_forms.proofs.Memos.{kept_more, kept_alike}
use Rattle.numbered_facts.specs.Memos.{IsReplacement}
use Rattle.numbered_facts.proofs.replacements.keep_replacement.Goals as goal

pub returns-in_err-put : goal.returns-in_err-put
returns-in_err-put c = kept_alike (λ _. IsReplacement c.args.terms.now) c.args.memo.now.slots.items c.put.new.self.slots.items c.in_err-put.ensures.memory c.requires.right

pub returns : goal.returns
returns c = kept_more (λ _. IsReplacement c.args.terms.now) c.args.memo.now.slots.items c.put.new.self.slots.items c.place_of-place.result c.args.found c.in_ok-put.ensures.ok c.requires.right c.requires.found

use Rattle.std.proofs.Common.{◌≡◌, ◌∙◌, sym, ℕ, Vec}
use Rattle.std.specs.declared.alloc.Global.{Global}
use Rattle.std.proofs.lemmas.Result.{IfOk-weaker}
use Rattle.numbered_terms.specs.Slots.{kept_at}
use Rattle.numbered_facts.specs.Atoms.{AreAtomsIn}
use Rattle.numbered_facts.proofs.AtomsIn.{atoms_in}
use Rattle.numbered_facts.proofs.Found.{not_none}
use Rattle.numbered_facts.proofs.atoms.atoms.Goals as goal

pub returns-in-Some-clause-atoms : goal.returns-in-Some-clause-atoms
returns-in-Some-clause-atoms c = let ts = c.args.terms.now in
    IfOk-weaker c.copy_numbers.result (λ (v : Vec ℕ Global). v.items ≡ c.deref.result.now) (λ (v : Vec ℕ Global). AreAtomsIn ts c.args.id v.items)
    (λ v e. atoms_in ts c.are_stored.ensures c.args.id c.in-Some.found.now v.items (e ∙ c.deref.ensures.value) (c.find_atoms.ensures.right c.args.id c.in-Some.found.now (sym c.in-Some.ensures))) c.copy_numbers.ensures

pub returns-in-None-clause-atoms : goal.returns-in-None-clause-atoms
returns-in-None-clause-atoms c = absurd (not_none (kept_at c.find_atoms.new.memo.slots.items c.args.id) c.in_ok-find_atoms.ensures.there c.in-None.ensures)

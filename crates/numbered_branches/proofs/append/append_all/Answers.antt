use Rattle.std.proofs.Common.{Vec, refl, length, arith}
use Rattle.std.specs.declared.alloc.Global.{Global}
use Rattle.numbered_branches.specs.Branches.{NumberedFact}
use Rattle.numbered_branches.proofs.Appending.{next_over, facts_of, made_of}
use Rattle.numbered_branches.proofs.append.append_all.Goals as goal

pub tightened_each-requires : goal.tightened_each-requires
tightened_each-requires c = record {
  fits = omega (arith, c.in_ok-number.ensures.fits);
  terms = c.requires.terms;
  made = next_over c.args.store.now.terms _ c.args.made.now c.take_numbers.new.made c.in_ok-number.ensures.rest c.requires.made;
}

pub returns-clause-facts : goal.returns-clause-facts
returns-clause-facts c = facts_of c.args.store.now.terms c.tightened_each.new.store.terms c.args.terms.now c.args.made.now c.take_numbers.new.made c.in_ok-number.number (length c.args.terms.now) c.in_ok-number.ensures.number refl c.in_ok-number.ensures.rest
    (λ (v : Vec NumberedFact Global). v.items) c.tightened_each.result c.tightened_each.ensures.facts

pub returns-clause-made : goal.returns-clause-made
returns-clause-made c = made_of c.args.store.now.terms c.tightened_each.new.store.terms c.args.terms.now c.args.made.now c.take_numbers.new.made c.in_ok-number.number (length c.args.terms.now) c.in_ok-number.ensures.number refl c.in_ok-number.ensures.rest
    c.tightened_each.result c.tightened_each.new.made c.tightened_each.ensures.made

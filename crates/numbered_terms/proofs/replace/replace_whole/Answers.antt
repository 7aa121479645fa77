use Rattle.std.proofs.lemmas.Result.{on_ok_weaker}
use Rattle.logic_core.specs.Subterm.{replaced}
use Rattle.term_bank.specs.Numbered.{at}
use Rattle.term_bank.specs.Table.{IsNodeAt}
use Rattle.numbered_terms.proofs.Walking.{still_below, right_later, noted_right, noted_covers, noted_found}
use Rattle.numbered_terms.proofs.Replacing.{rebuilt_below, rebuilt_at}
use Rattle.numbered_terms.proofs.replace.replace_whole.Goals as goal

pub make-requires : goal.make-requires
make-requires c = let is : IsNodeAt c.args.terms.now c.args.id c.node.result.now = (c.node.ensures.node, c.node.ensures.lower) in
    rebuilt_below c.args.terms.now c.args.old c.args.new c.args.id c.args.found.now.entries c.node.result.now c.in_ok-node.node c.requires.id is c.requires.other (c.requires.parts c.node.result.now is) c.in_ok-node.ensures

pub returns-clause-right : goal.returns-clause-right
returns-clause-right c = let ts = c.args.terms.now in let us = c.make.new.self in let b = c.make.ensures.grows in
    let is : IsNodeAt ts c.args.id c.node.result.now = (c.node.ensures.node, c.node.ensures.lower) in
    let made = rebuilt_at ts c.args.old c.args.new c.args.id c.args.found.now.entries c.node.result.now c.in_ok-node.node c.requires.id is c.requires.other (c.requires.parts c.node.result.now is) c.in_ok-node.ensures us c.in_ok-made.made b c.in_ok-made.ensures.number in
    on_ok_weaker c.note.result (λ e. noted_right (replaced (at ts c.args.old) (at ts c.args.new)) us c.args.found.now.entries c.note.new.found.entries c.args.id c.in_ok-made.made e
    (right_later (replaced (at ts c.args.old) (at ts c.args.new)) ts us c.args.found.now.entries b c.requires.right) (still_below ts us c.args.id b c.requires.id) made) c.note.ensures.ok

pub returns-clause-covers : goal.returns-clause-covers
returns-clause-covers c = let ts = c.args.terms.now in let us = c.make.new.self in let b = c.make.ensures.grows in
    let is : IsNodeAt ts c.args.id c.node.result.now = (c.node.ensures.node, c.node.ensures.lower) in
    let made = rebuilt_at ts c.args.old c.args.new c.args.id c.args.found.now.entries c.node.result.now c.in_ok-node.node c.requires.id is c.requires.other (c.requires.parts c.node.result.now is) c.in_ok-node.ensures us c.in_ok-made.made b c.in_ok-made.ensures.number in
    on_ok_weaker c.note.result (λ e. noted_covers (replaced (at ts c.args.old) (at ts c.args.new)) us c.args.found.now.entries c.note.new.found.entries c.args.id c.in_ok-made.made e
    (right_later (replaced (at ts c.args.old) (at ts c.args.new)) ts us c.args.found.now.entries b c.requires.right) (still_below ts us c.args.id b c.requires.id) made) c.note.ensures.ok

pub returns-clause-found : goal.returns-clause-found
returns-clause-found c = let ts = c.args.terms.now in let us = c.make.new.self in let b = c.make.ensures.grows in
    let is : IsNodeAt ts c.args.id c.node.result.now = (c.node.ensures.node, c.node.ensures.lower) in
    let made = rebuilt_at ts c.args.old c.args.new c.args.id c.args.found.now.entries c.node.result.now c.in_ok-node.node c.requires.id is c.requires.other (c.requires.parts c.node.result.now is) c.in_ok-node.ensures us c.in_ok-made.made b c.in_ok-made.ensures.number in
    on_ok_weaker c.note.result (λ e. noted_found (replaced (at ts c.args.old) (at ts c.args.new)) us c.args.found.now.entries c.note.new.found.entries c.args.id c.in_ok-made.made e
    (right_later (replaced (at ts c.args.old) (at ts c.args.new)) ts us c.args.found.now.entries b c.requires.right) (still_below ts us c.args.id b c.requires.id) made) c.note.ensures.ok

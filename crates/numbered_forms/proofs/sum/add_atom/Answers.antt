use Rattle.std.proofs.Common.{◌≡◌, ◌∙◌, ◌<◌, sym, ap, subst, length, Some, arith}
use Rattle.std.specs.Int.{w128}
use Rattle.std.proofs.lemmas.Int.{to_z-of_z}
use Rattle.std.proofs.lemmas.List.{length-map}
use Rattle.logic_core.specs.View.{parts_of}
use Rattle.logic_core.proofs.AtomAdded.{past_none, past_more, past_equal, past_greater, past_all}
use Rattle.term_bank.specs.Numbered.{at}
use Rattle.numbered_terms.specs.Lists.{atoms_at, AtomsBelow}
use Rattle.numbered_terms.proofs.Items.{atom_below}
use Rattle.numbered_forms.proofs.Atoms.{placed, placed_below, joined_gives, joined_below, atom_at, atom_is}
use Rattle.numbered_forms.proofs.sum.add_atom.Goals as goal

pub loop-i-init : goal.loop-i-init
loop-i-init c = rw (to_z-of_z w128 c.args.k c.ranges.k) (past_none c.args.k (at c.args.terms.now c.args.id) (atoms_at c.args.terms.now c.args.parts.items))

pub returns-clause-gives : goal.returns-clause-gives
returns-clause-gives c =
    let ts = c.args.terms.now in let ps = c.args.parts.items in
    let past = rw (to_z-of_z w128 c.args.k c.ranges.k) at c.loop-i.invariant in
    let all : c.len-end.result ≡ c.loop-i.i = omega arith in
    let done = rw (all, to_z-of_z w128 c.args.k c.ranges.k) at c.in_ok-insert_part.ensures in
    past_all c.args.k (at ts c.args.id) (atoms_at ts ps) c.loop-i.i (omega (arith, all, length-map ps (atom_at ts))) past
    ∙ ap Some (sym (ap (λ xs. parts_of (atoms_at ts xs)) done ∙ placed ts ps c.loop-i.i c.loop-i.i c.args.k c.args.id))

pub compare-requires-clause-b : goal.compare-requires-clause-b
compare-requires-clause-b c = atom_below (length c.args.terms.now) c.args.parts.items c.loop-i.i c.index.result.now c.requires.parts (omega arith) c.index.ensures

pub returns-in-Equal-clause-gives : goal.returns-in-Equal-clause-gives
returns-in-Equal-clause-gives c =
    let ts = c.args.terms.now in let ps = c.args.parts.items in let p = c.index.result.now in
    let l : c.loop-i.i < length ps = omega arith in
    let past = rw (to_z-of_z w128 c.args.k c.ranges.k) at c.loop-i.invariant in
    let equal = sym c.in-Equal.is ∙ c.compare.ensures in
    let gives = rw (← c.index.ensures, to_z-of_z w128 c.args.k c.ranges.k) at (c.join_part.ensures.gives p) in
    rw (past_equal c.args.k (at ts c.args.id) (atoms_at ts ps) c.loop-i.i (atom_at ts p) (omega (arith, l, length-map ps (atom_at ts))) (atom_is ts ps c.loop-i.i p l c.index.ensures) equal past)
    (joined_gives ts c.join_part.result ps c.loop-i.i p.1 _ gives)

pub returns-in-Equal-clause-within : goal.returns-in-Equal-clause-within
returns-in-Equal-clause-within c =
    let ps = c.args.parts.items in let p = c.index.result.now in
    let l : c.loop-i.i < length ps = omega arith in
    let gives = rw (← c.index.ensures) at (c.join_part.ensures.gives p) in
    joined_below (length c.args.terms.now) c.join_part.result ps c.loop-i.i p.1 _ c.requires.parts (atom_below (length c.args.terms.now) ps c.loop-i.i p c.requires.parts l c.index.ensures) gives

pub returns-in-Greater-clause-gives : goal.returns-in-Greater-clause-gives
returns-in-Greater-clause-gives c =
    let ts = c.args.terms.now in let ps = c.args.parts.items in let p = c.index.result.now in
    let l : c.loop-i.i < length ps = omega arith in
    let past = rw (to_z-of_z w128 c.args.k c.ranges.k) at c.loop-i.invariant in
    let greater = sym c.in-Greater.is ∙ c.compare.ensures in
    let done = rw (to_z-of_z w128 c.args.k c.ranges.k) at c.in_ok-insert_part-in-Greater.ensures in
    past_greater c.args.k (at ts c.args.id) (atoms_at ts ps) c.loop-i.i (atom_at ts p) (omega (arith, l, length-map ps (atom_at ts))) (atom_is ts ps c.loop-i.i p l c.index.ensures) greater past
    ∙ ap Some (sym (ap (λ xs. parts_of (atoms_at ts xs)) done ∙ placed ts ps c.loop-i.i c.loop-i.i c.args.k c.args.id))

pub returns-in-Greater-clause-within : goal.returns-in-Greater-clause-within
returns-in-Greater-clause-within c =
    let done = rw (to_z-of_z w128 c.args.k c.ranges.k) at c.in_ok-insert_part-in-Greater.ensures in
    subst (AtomsBelow (length c.args.terms.now)) (sym done) (placed_below (length c.args.terms.now) c.args.parts.items c.loop-i.i c.loop-i.i c.args.k c.args.id c.requires.parts c.requires.id)

pub loop-i-preserved : goal.loop-i-preserved
loop-i-preserved c =
    let ts = c.args.terms.now in let ps = c.args.parts.items in let p = c.index.result.now in
    let l : c.loop-i.i < length ps = omega arith in
    let past = rw (to_z-of_z w128 c.args.k c.ranges.k) at c.loop-i.invariant in
    let less = sym c.in-Less.is ∙ c.compare.ensures in
    rw (to_z-of_z w128 c.args.k c.ranges.k) (past_more c.args.k (at ts c.args.id) (atoms_at ts ps) c.loop-i.i (atom_at ts p) (omega (arith, l, length-map ps (atom_at ts))) (atom_is ts ps c.loop-i.i p l c.index.ensures) less past)

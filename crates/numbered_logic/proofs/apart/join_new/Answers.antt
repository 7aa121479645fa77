use Rattle.std.proofs.Common.{◌∙◌, sym, false}
use Rattle.logic_core.specs.Junction.{is_truth}
use Rattle.term_bank.specs.Numbered.{at}
use Rattle.numbered_logic.specs.Apart.{is_among}
use Rattle.numbered_logic.proofs.NoPair.{first_false, second_false, negation_more, fact_more, fact_kept, fact_there, now_among}
use Rattle.numbered_logic.proofs.apart.join_new.Goals as goal

pub returns-then-contains-clause-apart : goal.returns-then-contains-clause-apart
returns-then-contains-clause-apart c = let ts = c.args.terms.now in let old = c.args.apart.now in
    negation_more ts old.facts old.negations c.requires.apart c.insert.new.numbers c.args.negation.now c.in_ok-insert.ensures
    (second_false (is_truth false (at ts c.args.id)) (is_among old.facts c.args.negation.now) (sym c.is_opposed.ensures ∙ c.if-is_opposed.false))

pub returns-clause-apart : goal.returns-clause-apart
returns-clause-apart c =
    let ts = c.args.terms.now in let old = c.args.apart.now in let id = c.args.id in let o = c.args.negation.now in let new = c.insert.new.numbers in
    let opposed = sym c.is_opposed.ensures ∙ c.if-is_opposed.false in let t = is_truth false (at ts id) in let a = is_among old.facts o in
    fact_more ts old.facts new (negation_more ts old.facts old.negations c.requires.apart new o c.in_ok-insert.ensures (second_false t a opposed)) c.insert-2.new.self id c.in_ok-insert-2.ensures.ok
    (record { within = c.requires.id; truth = first_false t a opposed; lacking = sym c.contains.ensures ∙ c.if-contains.false; negation = (o, (c.requires.negation, now_among old.negations new o c.in_ok-insert.ensures)) })

pub returns-clause-kept : goal.returns-clause-kept
returns-clause-kept c = fact_kept c.args.apart.now.facts c.insert-2.new.self c.args.id c.in_ok-insert-2.ensures.ok

pub returns-clause-joined : goal.returns-clause-joined
returns-clause-joined c = λ h. fact_there c.args.apart.now.facts c.insert-2.new.self c.args.id c.in_ok-insert-2.ensures.ok

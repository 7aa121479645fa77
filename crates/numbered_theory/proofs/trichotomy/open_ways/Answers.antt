use Rattle.std.proofs.Common.{◌≡◌, ◌∙◌, sym, true, false}
use Rattle.std.specs.List.{list_any}
use Rattle.theory_rules.specs.Trichotomy.{is_known_way}
use Rattle.numbered_branches.specs.Branches.{branch_at}
use Rattle.numbered_branches.proofs.Changing.{branch_more}
use Rattle.numbered_theory.specs.Forms.{forms_at}
use Rattle.numbered_theory.proofs.WaysOpen.{ways_known, ways_wide, ways_open}
use Rattle.numbered_facts.proofs.Growing.{then}
use Rattle.numbered_theory.proofs.trichotomy.open_ways.Goals as goal

pub is_any_known-requires-clause-branch : goal.is_any_known-requires-clause-branch
is_any_known-requires-clause-branch c = (branch_more c.args.store.now.terms c.three_ways.new.store.terms c.in_ok-forms.ensures.grows.terms c.args.branch.now c.requires.branch).0

pub returns-then-known-clause-opens : goal.returns-then-known-clause-opens
returns-then-known-clause-opens c =
    let n = c.args.store.now in let m = c.three_ways.new.store in let code = c.args.branch.now in
    let is : list_any (is_known_way (branch_at m.terms code)) (forms_at m.terms c.in_ok-forms.forms) ≡ true = cc (c.in_ok-known.ensures.known, c.if-known.true) in
    ways_known n m c.in_ok-forms.ensures.grows code c.requires.branch c.requires.vars c.args.d c.in_ok-forms.forms c.in_ok-forms.ensures.ways is

pub returns-in-Some-clause-opens : goal.returns-in-Some-clause-opens
returns-in-Some-clause-opens c =
    let n = c.args.store.now in let m = c.three_ways.new.store in let code = c.args.branch.now in let v = c.is_any_known.new.store in
    let is : list_any (is_known_way (branch_at m.terms code)) (forms_at m.terms c.in_ok-forms.forms) ≡ false = cc (c.in_ok-known.ensures.known, c.if-known.false) in
    ways_open n m c.in_ok-forms.ensures.grows code c.requires.branch c.requires.vars c.args.d c.in_ok-forms.forms c.in_ok-forms.ensures.ways v c.in_ok-known.ensures.grows c.in-Some.ways is (sym c.all_ways.ensures ∙ c.in-Some.is)

pub returns-in-None-clause-opens : goal.returns-in-None-clause-opens
returns-in-None-clause-opens c =
    let n = c.args.store.now in let m = c.three_ways.new.store in let code = c.args.branch.now in
    let is : list_any (is_known_way (branch_at m.terms code)) (forms_at m.terms c.in_ok-forms.forms) ≡ false = cc (c.in_ok-known.ensures.known, c.if-known.false) in
    λ wide. ways_wide n m c.in_ok-forms.ensures.grows code c.requires.branch c.requires.vars c.args.d c.in_ok-forms.forms c.in_ok-forms.ensures.ways is (sym c.all_ways.ensures ∙ c.in-None.is)

pub three_ways-requires : goal.three_ways-requires
three_ways-requires c = c.requires.d

pub is_any_known-requires-clause-forms : goal.is_any_known-requires-clause-forms
is_any_known-requires-clause-forms c = c.in_ok-forms.ensures.ways.0

pub returns-in_err-forms-clause-grows : goal.returns-in_err-forms-clause-grows
returns-in_err-forms-clause-grows c = c.three_ways.ensures.grows

pub returns-in_err-known-clause-grows : goal.returns-in_err-known-clause-grows
returns-in_err-known-clause-grows c = then c.args.store.now c.three_ways.new.store c.is_any_known.new.store c.in_ok-forms.ensures.grows c.is_any_known.ensures.grows

pub returns-then-known-clause-grows : goal.returns-then-known-clause-grows
returns-then-known-clause-grows c = then c.args.store.now c.three_ways.new.store c.is_any_known.new.store c.in_ok-forms.ensures.grows c.in_ok-known.ensures.grows

pub returns-in-Some-clause-grows : goal.returns-in-Some-clause-grows
returns-in-Some-clause-grows c = then c.args.store.now c.three_ways.new.store c.is_any_known.new.store c.in_ok-forms.ensures.grows c.in_ok-known.ensures.grows

pub returns-in-None-clause-grows : goal.returns-in-None-clause-grows
returns-in-None-clause-grows c = then c.args.store.now c.three_ways.new.store c.is_any_known.new.store c.in_ok-forms.ensures.grows c.in_ok-known.ensures.grows

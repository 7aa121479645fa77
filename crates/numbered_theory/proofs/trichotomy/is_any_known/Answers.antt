use Rattle.std.proofs.Common.{◌≡◌, ◌∙◌, true, false, option_map}
use Rattle.std.proofs.lemmas.Result.{IfOk-weaker}
use Rattle.term_bank.specs.Numbered.{at}
use Rattle.theory_rules.specs.Trichotomy.{is_known_way}
use Rattle.numbered_branches.specs.Branches.{branch_at}
use Rattle.numbered_branches.proofs.Changing.{branch_more}
use Rattle.numbered_theory.proofs.Deciding.{some_later}
use Rattle.numbered_facts.proofs.Growing.{then}
use Rattle.numbered_theory.proofs.KnownWays.{second_known, second_before, third_known}
use Rattle.numbered_theory.proofs.trichotomy.is_any_known.Goals as goal

pub is_known_way-requires-2-clause-branch : goal.is_known_way-requires-2-clause-branch
is_known_way-requires-2-clause-branch c = (branch_more c.args.store.now.terms c.is_known_way.new.store.terms c.in_ok-below.ensures.grows.terms c.args.branch.now c.requires.branch).0

pub is_known_way-requires-2-clause-way : goal.is_known_way-requires-2-clause-way
is_known_way-requires-2-clause-way c = some_later c.args.store.now c.is_known_way.new.store c.args.forms.now.zero c.in_ok-below.ensures.grows c.requires.forms.zero

pub returns-then-zero-clause-known : goal.returns-then-zero-clause-known
returns-then-zero-clause-known c =
    let n = c.args.store.now in let m = c.is_known_way.new.store in let code = c.args.branch.now in let f = c.args.forms.now in
    let first : is_known_way (branch_at n.terms code) (option_map (at n.terms) f.below) ≡ false = cc (c.in_ok-below.ensures.known, c.if-below.false) in
    let second : is_known_way (branch_at m.terms code) (option_map (at m.terms) f.zero) ≡ true = cc (c.in_ok-zero.ensures.known, c.if-zero.true) in
    second_known n m c.in_ok-below.ensures.grows code c.requires.branch f c.requires.forms first second

pub is_known_way-requires-3-clause-branch : goal.is_known_way-requires-3-clause-branch
is_known_way-requires-3-clause-branch c = (branch_more c.args.store.now.terms c.is_known_way-2.new.store.terms (then c.args.store.now c.is_known_way.new.store c.is_known_way-2.new.store c.in_ok-below.ensures.grows c.in_ok-zero.ensures.grows).terms c.args.branch.now c.requires.branch).0

pub is_known_way-requires-3-clause-way : goal.is_known_way-requires-3-clause-way
is_known_way-requires-3-clause-way c = some_later c.args.store.now c.is_known_way-2.new.store c.args.forms.now.above (then c.args.store.now c.is_known_way.new.store c.is_known_way-2.new.store c.in_ok-below.ensures.grows c.in_ok-zero.ensures.grows) c.requires.forms.above

pub returns-clause-known : goal.returns-clause-known
returns-clause-known c =
    let n = c.args.store.now in let m = c.is_known_way.new.store in let w = c.is_known_way-2.new.store in let code = c.args.branch.now in let f = c.args.forms.now in
    let to_w = then n m w c.in_ok-below.ensures.grows c.in_ok-zero.ensures.grows in
    let first : is_known_way (branch_at n.terms code) (option_map (at n.terms) f.below) ≡ false = cc (c.in_ok-below.ensures.known, c.if-below.false) in
    let second : is_known_way (branch_at m.terms code) (option_map (at m.terms) f.zero) ≡ false = cc (c.in_ok-zero.ensures.known, c.if-zero.false) in
    IfOk-weaker c.is_known_way-3.result _ _ (λ b known. known ∙ third_known n w to_w code c.requires.branch f c.requires.forms first (second_before n m c.in_ok-below.ensures.grows code c.requires.branch f c.requires.forms second)) c.is_known_way-3.ensures.known

pub is_known_way-requires-clause-branch : goal.is_known_way-requires-clause-branch
is_known_way-requires-clause-branch c = c.requires.branch

pub is_known_way-requires-clause-way : goal.is_known_way-requires-clause-way
is_known_way-requires-clause-way c = c.requires.forms.below

pub returns-in_err-below-clause-grows : goal.returns-in_err-below-clause-grows
returns-in_err-below-clause-grows c = c.is_known_way.ensures.grows

pub returns-then-below-clause-grows : goal.returns-then-below-clause-grows
returns-then-below-clause-grows c = c.in_ok-below.ensures.grows

pub returns-in_err-zero-clause-grows : goal.returns-in_err-zero-clause-grows
returns-in_err-zero-clause-grows c = then c.args.store.now c.is_known_way.new.store c.is_known_way-2.new.store c.in_ok-below.ensures.grows c.is_known_way-2.ensures.grows

pub returns-then-zero-clause-grows : goal.returns-then-zero-clause-grows
returns-then-zero-clause-grows c = then c.args.store.now c.is_known_way.new.store c.is_known_way-2.new.store c.in_ok-below.ensures.grows c.in_ok-zero.ensures.grows

pub returns-clause-grows : goal.returns-clause-grows
returns-clause-grows c = then c.args.store.now c.is_known_way-2.new.store c.is_known_way-3.new.store (then c.args.store.now c.is_known_way.new.store c.is_known_way-2.new.store c.in_ok-below.ensures.grows c.in_ok-zero.ensures.grows) c.is_known_way-3.ensures.grows

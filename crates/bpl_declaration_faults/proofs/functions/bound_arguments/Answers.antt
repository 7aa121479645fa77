use Rattle.std.proofs.Common.{sym, ap, ◌∙◌, ◌++◌, map, reverse}
use Rattle.std.proofs.lemmas.List.{at_drop_all, append-nil}
use Rattle.bpl_scopes.specs.KnownSorts.{bound_seen, bounds_seen}
use Rattle.bpl_faults.proofs.ListedNames.{map_reversed}
use Rattle.bpl_declaration_faults.specs.Variables.{bound_argument}
use Rattle.bpl_declaration_faults.proofs.functions.bound_arguments.Goals as goal

pub returns : goal.returns
returns c =
    let before = bounds_seen c.loop-argument.bounds.items in
    let all = sym (append-nil before) ∙ sym (at_drop_all (λ xs. before ++ map (bound_argument c.args.types.now) xs) c.args.ins.now c.loop-argument.argument-index c.loop-argument-test.false) ∙ c.loop-argument.invariant in
    ap bounds_seen c.reverse.ensures.items ∙ map_reversed bound_seen c.loop-argument.bounds.items ∙ ap reverse all

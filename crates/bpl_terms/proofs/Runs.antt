-- Runs of operands, the first of them on top of those that are turned round.
use Rattle.std.proofs.Common.{◌≡◌, sym, ap, ◌∙◌, List, [], ◌∷◌, ◌++◌, reverse}
use Rattle.std.proofs.lemmas.List.{reverse-append, reverse-reverse}
use Rattle.logic_core.specs.Tree.{Tree}
use Rattle.logic_core.specs.View.{trees_of}
use Rattle.bpl_terms.specs.Terms.{left_of, nested_left}

pub run_begins : (f : Tree → Tree → Tree) (none first : Tree) (ts turned rest : List Tree) → turned ≡ reverse ts → turned ≡ rest ++ first ∷ [] → nested_left f first (trees_of (reverse rest)) ≡ left_of f none (trees_of ts)
run_begins f none first ts turned rest is split =
    let whole : ts ≡ first ∷ reverse rest = sym (reverse-reverse ts) ∙ ap reverse (sym is ∙ split) ∙ reverse-append rest (first ∷ []) in
    ap (λ l. left_of f none (trees_of l)) (sym whole)

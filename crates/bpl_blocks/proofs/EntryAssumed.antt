-- What is assumed at entry, part by part.
use Rattle.std.specs.Prelude.{◌≡◌, not, List, [], ◌∷◌, ◌++◌, filter, filter_map}
use Rattle.std.proofs.Common.{sym, ap, ◌∙◌, append_assoc}
use Rattle.std.proofs.lemmas.List.Elements.{filter_map-append}
use Rattle.logic_core.specs.Tree.{Tree}
use Rattle.flow_core.specs.declared.command.Command.{Command}
use Rattle.bpl_model.specs.Module.{Local, Proc, Module}
use Rattle.bpl_model.specs.Contract.{preconditions}
use Rattle.bpl_model.specs.Reach.{reached_clauses}
use Rattle.bpl_blocks.specs.Blocks.{assume_all, at_entry}
use Rattle.bpl_blocks.proofs.AmongGlobals.{assumed_behind}

five : (A B C D E : List Tree) → (((A ++ B) ++ C) ++ D) ++ E ≡ A ++ ((B ++ (C ++ D)) ++ E)
five [] B C D E = ap (λ ys. ys ++ E) (append_assoc B C D)
five (a ∷ A) B C D E = λ i. a ∷ five A B C D E i

pub entry_assumed : (m : Module) (p : Proc) (cs : List Command)
    → ((((cs ++ assume_all (reached_clauses m p)) ++ assume_all (filter_map (λ (l : Local). l.clause) p.ins)) ++ assume_all (filter_map (λ (l : Local). l.clause) p.outs)) ++ assume_all (filter_map (λ (l : Local). l.clause) (filter (λ l. not l.own) p.locals))) ++ assume_all (preconditions p.specs)
    ≡ cs ++ assume_all (at_entry m p)
entry_assumed m p cs =
    let h = λ (l : Local). l.clause in
    let A = reached_clauses m p in
    let B = filter_map h p.ins in
    let C = filter_map h p.outs in
    let others = filter (λ (l : Local). not l.own) p.locals in
    let D = filter_map h others in
    let E = preconditions p.specs in
    let joined : filter_map h (p.ins ++ (p.outs ++ others)) ≡ B ++ (C ++ D) = filter_map-append h p.ins (p.outs ++ others) ∙ ap (λ ys. B ++ ys) (filter_map-append h p.outs others) in
    ap (λ ds. ((ds ++ assume_all C) ++ assume_all D) ++ assume_all E) (assumed_behind cs A B)
    ∙ ap (λ ds. (ds ++ assume_all D) ++ assume_all E) (assumed_behind cs (A ++ B) C)
    ∙ ap (λ ds. ds ++ assume_all E) (assumed_behind cs ((A ++ B) ++ C) D)
    ∙ assumed_behind cs (((A ++ B) ++ C) ++ D) E
    ∙ ap (λ ys. cs ++ assume_all ys) (five A B C D E ∙ sym (ap (λ ys. A ++ (ys ++ E)) joined))

-- What is drawn of a whole body is the body's blocks.
use Rattle.std.specs.Prelude.{◌≡◌, ℕ, ◌+◌, List, [], ◌∷◌, ◌++◌, map, length, None, filter_map}
use Rattle.std.proofs.Common.{sym, ap, ◌∙◌}
use Rattle.std.proofs.lemmas.List.{length-append, length-map}
use Rattle.logic_core.specs.Tree.{Tree}
use Rattle.flow_core.specs.declared.command.Command.{Command}
use Rattle.flow_core.specs.declared.block.Block.{Block}
use Rattle.flow_core.specs.Reader.{command_of}
use Rattle.bpl_model.specs.Module.{Const, Global, Local, Stmts, Proc, Module}
use Rattle.bpl_model.specs.Numbering.{sorts_of, first_own}
use Rattle.bpl_model.specs.Clauses.{all_clauses, clause_at, clauses_of}
use Rattle.bpl_model.specs.Contract.{end_checks}
use Rattle.bpl_model.specs.Rising.{inside}
use Rattle.bpl_blocks.specs.Targets.{list_size}
use Rattle.bpl_blocks.specs.Blocks.{block, assume_all, at_entry, list_blocks, body_blocks}
use Rattle.bpl_blocks.specs.Drawn.{clauses_in, Setting, with_list}
use Rattle.bpl_blocks.proofs.DrawnBlocks.{two_last}

both_long : {X Y : Type 0} (xs ys : List X) (us vs : List Y) → length xs ≡ length us → length ys ≡ length vs → length (xs ++ ys) ≡ length (us ++ vs)
both_long xs ys us vs e f = length-append xs ys ∙ ((λ i. e i + f i) ∙ sym (length-append us vs))

mapped_long : {A X Y : Type 0} (f : A → X) (g : A → Y) (xs : List A) → length (map f xs) ≡ length (map g xs)
mapped_long f g xs = length-map xs f ∙ sym (length-map xs g)

-- each variable has a sort, and a clause or none
as_many : (m : Module) (p : Proc) → length (all_clauses m p) ≡ length (sorts_of m p)
as_many m p =
    both_long (map (λ (c : Const). None) m.consts) _ (map (λ (c : Const). c.sort) m.consts) _ (mapped_long (λ (c : Const). None) (λ (c : Const). c.sort) m.consts)
    (both_long (map (λ (g : Global). g.clause) m.globals) _ (map (λ (g : Global). g.sort) m.globals) _ (mapped_long (λ (g : Global). g.clause) (λ (g : Global). g.sort) m.globals)
    (both_long (map (λ (g : Global). None) m.globals) _ (map (λ (g : Global). g.sort) m.globals) _ (mapped_long (λ (g : Global). None) (λ (g : Global). g.sort) m.globals)
    (both_long (map (λ (l : Local). l.clause) p.ins) _ (map (λ (l : Local). l.sort) p.ins) _ (mapped_long (λ (l : Local). l.clause) (λ (l : Local). l.sort) p.ins)
    (both_long (map (λ (l : Local). l.clause) p.outs) _ (map (λ (l : Local). l.sort) p.outs) _ (mapped_long (λ (l : Local). l.clause) (λ (l : Local). l.sort) p.outs)
    (mapped_long (λ (l : Local). l.clause) (λ (l : Local). l.sort) p.locals)))))

clauses_same : (m : Module) (p : Proc) → clauses_in (all_clauses m p) ≡ clauses_of m p
clauses_same m p = λ i xs. filter_map (clause_at m p) (inside 0 (as_many m p i) xs)

pub body_drawn : (m : Module) (p : Proc) (ss : Stmts) (setting : Setting) (cs : List Command) → setting.clauses ≡ all_clauses m p → setting.own ≡ first_own m p → setting.last ≡ list_size ss + 1
    → cs ≡ assume_all (at_entry m p)
    → (let d = with_list setting [] (record { blocks = []; commands = cs }) ss in (d.blocks ++ block d.commands (setting.last ∷ []) ∷ []) ++ block (map command_of (end_checks p.specs)) [] ∷ []) ≡ body_blocks m p ss
body_drawn m p ss setting cs c o l e =
    let ends : Block = block (map command_of (end_checks p.specs)) [] in
    let F : (List ℕ → List Tree) → ℕ → ℕ → List Command → List Block = λ cl own last ds. let r = list_blocks cl own last [] 0 ds ss in (r.0 ++ block r.1 (last ∷ []) ∷ []) ++ ends ∷ [] in
    let r = list_blocks (clauses_of m p) (first_own m p) (list_size ss + 1) [] 0 (assume_all (at_entry m p)) ss in
    (λ i. F ((ap clauses_in c ∙ clauses_same m p) i) (o i) (l i) (e i))
    ∙ two_last r.0 (block r.1 ((list_size ss + 1) ∷ [])) ends

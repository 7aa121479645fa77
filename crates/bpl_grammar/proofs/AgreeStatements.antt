-- What spells a tree of statements spells the production in the grammar.
use Rattle.std.specs.Prelude.{List, ◌∷◌}
use Rattle.bv_base.specs.declared.place.Place.{Place}
use Rattle.bpl_ast.specs.Tree.{Expr, Exprs, Groups}
use Rattle.bpl_ast.specs.Statement as ast
use Rattle.bpl_grammar.specs.Lexeme.{Lexeme}
use Rattle.bpl_grammar.specs.Part.{Part, ◌⨟◌, many, rule, var, body, block, stmt, lhs, guard, if_stmt, inv, e}
use Rattle.bpl_grammar.specs.Grammar.{the, listed, round, square, curly, attrs}
use Rattle.bpl_grammar.specs.Spelling.{Takes, of_kind, of_text, both, left, right, absent, present, no_more, again, by}
use Rattle.bpl_grammar.specs.Types.{Lexemes, Is}
use Rattle.bpl_grammar.specs.Statements as s
use Rattle.bpl_grammar.proofs.Agree.{list_more, in_round, in_square, in_curly, ids_listed, takes_e, es_listed, takes_args, groups_listed}

in_curly_more : {p q : Part} {t u : Lexeme} {ts us vs : Lexemes} → Is "{" t → Takes p ts us → Takes q us (u ∷ vs) → Is "}" u → Takes (curly (p ⨟ q)) (t ∷ ts) vs
in_curly_more h d k j = in_curly h (both d k) j

module _ (place : Lexeme → Place) where
  pub entry_run : {ts us : Lexemes} {xs : Exprs} → s.Entry place ts us xs → Takes (many (square (rule e))) ts us
  entry_run s.Entry.none = no_more
  entry_run (s.Entry.more h d k rest) = again (in_square h (takes_e place d) k) (entry_run rest)

  pub targets_listed : {ts us : Lexemes} {ys : List ast.Target} → s.Targets place ts us ys → Takes (listed (rule lhs)) ts us
  targets_listed (s.Targets.last h d) = both (by (both (of_kind h) (entry_run d))) no_more
  targets_listed (s.Targets.more h d c rest) = list_more (by (both (of_kind h) (entry_run d))) c (targets_listed rest)

  pub takes_guard : {ts us : Lexemes} {g : ast.Guard} → s.Guard' place ts us g → Takes (round (rule guard)) ts us
  takes_guard (s.Guard'.any h k j) = in_round h (by (left (of_text k))) j
  takes_guard (s.Guard'.formula h d j) = in_round h (by (right (takes_e place d))) j

  pub takes_formula : {ts us : Lexemes} {x : Expr} → s.Formula place ts us x → Takes (attrs ⨟ rule e ⨟ the ";") ts us
  takes_formula (s.Formula.formula a d h) = both a (both (takes_e place d) (of_text h))

  pub invs_run : {ts us : Lexemes} {is : List ast.Invariant} → s.Invs place ts us is → Takes (many (rule inv)) ts us
  invs_run s.Invs.none = no_more
  invs_run (s.Invs.checked h d rest) = again (by (both absent (both (of_text h) (takes_formula d)))) (invs_run rest)
  invs_run (s.Invs.free h k d rest) = again (by (both (present (of_text h)) (both (of_text k) (takes_formula d)))) (invs_run rest)

  mutual
    pub takes_stmt : {ts us : Lexemes} {x : ast.Stmt} → s.Stmt' place ts us x → Takes (rule stmt) ts us
    takes_stmt (s.Stmt'.labelled h k d) = by (left (both (of_kind h) (both (of_text k) (takes_stmt d))))
    takes_stmt (s.Stmt'.plain d) = takes_action d

    pub takes_action : {ts us : Lexemes} {a : ast.Action} → s.Action' place ts us a → Takes (rule stmt) ts us
    takes_action (s.Action'.of_assert h d) = by (right (left (both (left (of_text h)) (takes_formula d))))
    takes_action (s.Action'.of_assume h d) = by (right (left (both (right (of_text h)) (takes_formula d))))
    takes_action (s.Action'.of_havoc h d k) = by (right (right (left (both (of_text h) (both (by (ids_listed place d)) (of_text k))))))
    takes_action (s.Action'.of_assign d h xs k) = by (right (right (right (left (both (targets_listed d) (both (of_text h) (both (es_listed place xs) (of_text k))))))))
    takes_action (s.Action'.of_call h a f xs k) = by (right (right (right (right (left (both (of_text h) (both a (both absent (both (of_kind f) (both (takes_args place xs) (of_text k)))))))))))
    takes_action (s.Action'.of_call_with_outs h a ns j f xs k) = by (right (right (right (right (left (both (of_text h) (both a (both (present (both (by (ids_listed place ns)) (of_text j))) (both (of_kind f) (both (takes_args place xs) (of_text k)))))))))))
    takes_action (s.Action'.of_if d) = by (right (right (right (right (right (left (takes_if d)))))))
    takes_action (s.Action'.of_while h g is b) = by (right (right (right (right (right (right (left (both (of_text h) (both (takes_guard g) (both (invs_run is) (takes_block b)))))))))))
    takes_action (s.Action'.of_break h k) = by (right (right (right (right (right (right (right (left (both (of_text h) (both absent (of_text k)))))))))))
    takes_action (s.Action'.of_break_to h l k) = by (right (right (right (right (right (right (right (left (both (of_text h) (both (present (of_kind l)) (of_text k)))))))))))
    takes_action (s.Action'.of_return h k) = by (right (right (right (right (right (right (right (right (left (both (of_text h) (of_text k)))))))))))
    takes_action (s.Action'.of_goto h d k) = by (right (right (right (right (right (right (right (right (right (both (of_text h) (both (by (ids_listed place d)) (of_text k))))))))))))

    pub takes_if : {ts us : Lexemes} {bs : ast.Branches} → s.If place ts us bs → Takes (rule if_stmt) ts us
    takes_if (s.If.alone h g b) = by (both (of_text h) (both (takes_guard g) (both (takes_block b) absent)))
    takes_if (s.If.else_if h g b k d) = by (both (of_text h) (both (takes_guard g) (both (takes_block b) (present (both (of_text k) (left (takes_if d)))))))
    takes_if (s.If.else_block h g b k d) = by (both (of_text h) (both (takes_guard g) (both (takes_block b) (present (both (of_text k) (right (takes_block d)))))))

    pub takes_block : {ts us : Lexemes} {ss : ast.Stmts} → s.Block place ts us ss → Takes (rule block) ts us
    takes_block (s.Block.block h d k) = by (in_curly h (stmts_run d) k)

    pub stmts_run : {ts us : Lexemes} {ss : ast.Stmts} → s.List' place ts us ss → Takes (many (rule stmt)) ts us
    stmts_run s.List'.done = no_more
    stmts_run (s.List'.more d rest) = again (takes_stmt d) (stmts_run rest)

  pub vars_run : {ts us : Lexemes} {gs : List Groups} → s.Vars place ts us gs → Takes (many (rule var)) ts us
  vars_run s.Vars.none = no_more
  vars_run (s.Vars.more h a d k rest) = again (by (both (of_text h) (both a (both (by (groups_listed place d)) (of_text k))))) (vars_run rest)

  pub takes_body : {ts us : Lexemes} {b : ast.Body} → s.Body' place ts us b → Takes (rule body) ts us
  takes_body (s.Body'.body h v d k) = by (in_curly_more h (vars_run v) (stmts_run d) k)

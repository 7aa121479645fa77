-- What spells a tree of declarations spells the production in the grammar.
use Rattle.std.specs.Prelude.{List, Bool, Option}
use Rattle.bv_base.specs.declared.place.Place.{Place}
use Rattle.bpl_ast.specs.Place.{Ty}
use Rattle.bpl_ast.specs.Tree.{Expr, Groups}
use Rattle.bpl_ast.specs.Statement as ast
use Rattle.bpl_grammar.specs.Lexeme.{Lexeme}
use Rattle.bpl_grammar.specs.Part.{◌⨟◌, ◌∣◌, maybe, many, rule, decl, groups, farg, sig, spec, type, e}
use Rattle.bpl_grammar.specs.Grammar.{the, listed, round, curly, attrs}
use Rattle.bpl_grammar.specs.Spelling.{Takes, of_kind, of_text, both, left, right, absent, present, no_more, again, by}
use Rattle.bpl_grammar.specs.Types.{Lexemes}
use Rattle.bpl_grammar.specs.Programs as p
use Rattle.bpl_grammar.proofs.Agree.{list_more, in_round, in_curly, ids_listed, takes_tpar, takes_type, takes_e, groups_listed}
use Rattle.bpl_grammar.proofs.AgreeStatements as s

module _ (place : Lexeme → Place) where
  pub takes_farg : {ts us : Lexemes} {a : ast.Argument} → p.FArg place ts us a → Takes (rule farg) ts us
  takes_farg (p.FArg.typed d) = by (both absent (takes_type place d))
  takes_farg (p.FArg.named h k d) = by (both (present (both (of_kind h) (of_text k))) (takes_type place d))

  pub fargs_listed : {ts us : Lexemes} {as' : List ast.Argument} → p.FArgs place ts us as' → Takes (listed (rule farg)) ts us
  fargs_listed (p.FArgs.last d) = both (takes_farg d) no_more
  fargs_listed (p.FArgs.more d c rest) = list_more (takes_farg d) c (fargs_listed rest)

  pub takes_inputs : {ts us : Lexemes} {as' : List ast.Argument} → p.Inputs place ts us as' → Takes (round (maybe (listed (rule farg)))) ts us
  takes_inputs (p.Inputs.none h k) = in_round h absent k
  takes_inputs (p.Inputs.some h d k) = in_round h (present (fargs_listed d)) k

  pub takes_output : {ts us : Lexemes} {x : Ty} → p.Output place ts us x → Takes (the "returns" ⨟ round (rule farg) ∣ the ":" ⨟ rule type) ts us
  takes_output (p.Output.returns h k d j) = left (both (of_text h) (in_round k (takes_farg d) j))
  takes_output (p.Output.colon h d) = right (both (of_text h) (takes_type place d))

  pub takes_value : {ts us : Lexemes} {x : Option Expr} → p.Value place ts us x → Takes (curly (rule e) ∣ the ";") ts us
  takes_value (p.Value.given h d k) = left (in_curly h (takes_e place d) k)
  takes_value (p.Value.missing h) = right (of_text h)

  pub takes_params : {ts us : Lexemes} {gs : Groups} → p.Params' place ts us gs → Takes (round (maybe (rule groups))) ts us
  takes_params (p.Params'.none h k) = in_round h absent k
  takes_params (p.Params'.some h d k) = in_round h (present (by (groups_listed place d))) k

  pub takes_sig : {ts us : Lexemes} {x : ast.Signature} → p.Sig place ts us x → Takes (rule sig) ts us
  takes_sig (p.Sig.ins_alone d) = by (both (takes_params d) absent)
  takes_sig (p.Sig.ins_and_outs d h k) = by (both (takes_params d) (present (both (of_text h) (takes_params k))))

  pub takes_clause : {f : Bool} {ts us : Lexemes} {x : ast.Spec} → p.Clause' place f ts us x → Takes ((the "requires" ∣ the "ensures") ⨟ attrs ⨟ rule e ⨟ the ";") ts us
  takes_clause (p.Clause'.of_requires h d) = both (left (of_text h)) (s.takes_formula place d)
  takes_clause (p.Clause'.of_ensures h d) = both (right (of_text h)) (s.takes_formula place d)

  pub takes_spec : {ts us : Lexemes} {x : ast.Spec} → p.Spec' place ts us x → Takes (rule spec) ts us
  takes_spec (p.Spec'.checked d) = by (left (both absent (takes_clause d)))
  takes_spec (p.Spec'.free h d) = by (left (both (present (of_text h)) (takes_clause d)))
  takes_spec (p.Spec'.of_modifies h d k) = by (right (both (of_text h) (both (present (by (ids_listed place d))) (of_text k))))
  takes_spec (p.Spec'.of_modifies_none h k) = by (right (both (of_text h) (both absent (of_text k))))

  pub specs_run : {ts us : Lexemes} {xs : List ast.Spec} → p.Specs place ts us xs → Takes (many (rule spec)) ts us
  specs_run p.Specs.none = no_more
  specs_run (p.Specs.more d rest) = again (takes_spec d) (specs_run rest)

  pub takes_decl : {ts us : Lexemes} {x : ast.DeclBody} → p.DeclBody' place ts us x → Takes (rule decl) ts us
  takes_decl (p.DeclBody'.of_const h a ns k t j) = by (left (both (of_text h) (both a (both absent (both (by (ids_listed place ns)) (both (of_text k) (both (takes_type place t) (of_text j))))))))
  takes_decl (p.DeclBody'.of_unique_const h a u ns k t j) = by (left (both (of_text h) (both a (both (present (of_text u)) (both (by (ids_listed place ns)) (both (of_text k) (both (takes_type place t) (of_text j))))))))
  takes_decl (p.DeclBody'.of_function h a n ps ins out b) = by (right (left (both (of_text h) (both a (both (of_kind n) (both (takes_tpar place ps) (both (takes_inputs ins) (both (takes_output out) (takes_value b)))))))))
  takes_decl (p.DeclBody'.of_axiom h d) = by (right (right (left (both (of_text h) (s.takes_formula place d)))))
  takes_decl (p.DeclBody'.of_var h a gs k) = by (right (right (right (left (by (both (of_text h) (both a (both (by (groups_listed place gs)) (of_text k)))))))))
  takes_decl (p.DeclBody'.of_type h a n k) = by (right (right (right (right (left (both (of_text h) (both a (both (of_kind n) (both absent (of_text k))))))))))
  takes_decl (p.DeclBody'.of_synonym h a n k t j) = by (right (right (right (right (left (both (of_text h) (both a (both (of_kind n) (both (present (both (of_text k) (takes_type place t))) (of_text j))))))))))
  takes_decl (p.DeclBody'.of_procedure h a n ps g k ss) = by (right (right (right (right (right (left (both (of_text h) (both a (both (of_kind n) (both (takes_tpar place ps) (both (takes_sig g) (left (both (of_text k) (specs_run ss))))))))))))))
  takes_decl (p.DeclBody'.of_procedure_with_body h a n ps g ss b) = by (right (right (right (right (right (left (both (of_text h) (both a (both (of_kind n) (both (takes_tpar place ps) (both (takes_sig g) (right (both (specs_run ss) (s.takes_body place b))))))))))))))
  takes_decl (p.DeclBody'.of_implementation h a n ps g b) = by (right (right (right (right (right (right (both (of_text h) (both a (both (of_kind n) (both (takes_tpar place ps) (both (takes_sig g) (s.takes_body place b))))))))))))

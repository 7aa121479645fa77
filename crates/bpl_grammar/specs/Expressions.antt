-- Which tokens spell which expressions, production by production.
use Rattle.std.specs.Prelude.{◌≡◌, ◌≤◌, true, false, List, ◌∷◌, length, IsTrue, Option, Some}
use Rattle.bpl_lex.specs.Token.{number as number_kind}
use Rattle.bv_base.specs.declared.place.Place.{Place}
use Rattle.bpl_ast.specs.Place.{Name, Params, Ty}
use Rattle.bpl_ast.specs.Tree.{Relation, eq, ne, lt, le, gt, ge, Quantifier, for_all, exists, Expr, expr, number, truth, variable, apply, old, choose, quantified, iffs, implies, ands, ors, related, sums, products, negation, minus, indexed, Exprs, no_exprs, item, Terms, no_terms, plus, less, Indices, no_indices, at_index, update, Triggers, no_triggers, trigger, Groups, no_groups, group, no_clause, clause, first_place, expr_from, run}
use Rattle.bpl_grammar.specs.Lexeme.{Lexeme, is_kind}
use Rattle.bpl_grammar.specs.Part.{rule, e, attr}
use Rattle.bpl_grammar.specs.Spelling.{Takes}
use Rattle.bpl_grammar.specs.Nesting.{value}
use Rattle.bpl_grammar.specs.Types.{Lexemes, Is, IsId, name, Ids, TPar, Type'}

-- no longer front of the tokens spells an expression
abbrev pub IsLongest : Lexemes → Lexemes → Type 0
IsLongest ts us = (vs : Lexemes) → Takes (rule e) ts vs → length us ≤ length vs

-- the sign of a relation
pub data IsRelation : Lexeme → Relation → Type 0 where
  is_eq : {t : Lexeme} → Is "==" t → IsRelation t eq
  is_ne : {t : Lexeme} → Is "!=" t → IsRelation t ne
  is_lt : {t : Lexeme} → Is "<" t → IsRelation t lt
  is_le : {t : Lexeme} → Is "<=" t → IsRelation t le
  is_gt : {t : Lexeme} → Is ">" t → IsRelation t gt
  is_ge : {t : Lexeme} → Is ">=" t → IsRelation t ge

pub data IsQuantifier : Lexeme → Quantifier → Type 0 where
  is_forall : {t : Lexeme} → Is "forall" t → IsQuantifier t for_all
  is_exists : {t : Lexeme} → Is "exists" t → IsQuantifier t exists

module _ (place : Lexeme → Place) where
  mutual
    -- E = Imp {"<==>" Imp}
    pub data E : Lexemes → Lexemes → Expr → Type 0 where
      e_run : {ts us : Lexemes} {xs : Exprs} {x : Expr} → Iffs ts us xs → run iffs xs ≡ Some x → E ts us x

    pub data Iffs : Lexemes → Lexemes → Exprs → Type 0 where
      iffs_last : {ts us : Lexemes} {x : Expr} → Imp ts us x → Iffs ts us (item x no_exprs)
      iffs_more : {t : Lexeme} {ts us vs : Lexemes} {x : Expr} {xs : Exprs} → Imp ts (t ∷ us) x → Is "<==>" t → Iffs us vs xs → Iffs ts vs (item x xs)

    -- Imp = Log ["==>" Imp]
    pub data Imp : Lexemes → Lexemes → Expr → Type 0 where
      imp_run : {ts us : Lexemes} {xs : Exprs} {x : Expr} → Chain ts us xs → run implies xs ≡ Some x → Imp ts us x

    pub data Chain : Lexemes → Lexemes → Exprs → Type 0 where
      chain_last : {ts us : Lexemes} {x : Expr} → Log ts us x → Chain ts us (item x no_exprs)
      chain_more : {t : Lexeme} {ts us vs : Lexemes} {x : Expr} {xs : Exprs} → Log ts (t ∷ us) x → Is "==>" t → Chain us vs xs → Chain ts vs (item x xs)

    -- Log = Rel ({"&&" Rel} | {"||" Rel})
    pub data Log : Lexemes → Lexemes → Expr → Type 0 where
      by_and : {ts us : Lexemes} {xs : Exprs} {x : Expr} → Ands ts us xs → run ands xs ≡ Some x → Log ts us x
      by_or : {ts us : Lexemes} {xs : Exprs} {x : Expr} → Ors ts us xs → run ors xs ≡ Some x → Log ts us x

    pub data Ands : Lexemes → Lexemes → Exprs → Type 0 where
      ands_last : {ts us : Lexemes} {x : Expr} → Rel ts us x → Ands ts us (item x no_exprs)
      ands_more : {t : Lexeme} {ts us vs : Lexemes} {x : Expr} {xs : Exprs} → Rel ts (t ∷ us) x → Is "&&" t → Ands us vs xs → Ands ts vs (item x xs)

    pub data Ors : Lexemes → Lexemes → Exprs → Type 0 where
      ors_last : {ts us : Lexemes} {x : Expr} → Rel ts us x → Ors ts us (item x no_exprs)
      ors_more : {t : Lexeme} {ts us vs : Lexemes} {x : Expr} {xs : Exprs} → Rel ts (t ∷ us) x → Is "||" t → Ors us vs xs → Ors ts vs (item x xs)

    -- Rel = Sum [("==" | "!=" | "<" | "<=" | ">" | ">=") Sum]
    pub data Rel : Lexemes → Lexemes → Expr → Type 0 where
      rel_alone : {ts us : Lexemes} {x : Expr} → Sum ts us x → Rel ts us x
      rel_both : {t : Lexeme} {ts us vs : Lexemes} {o : Relation} {x y : Expr} → Sum ts (t ∷ us) x → IsRelation t o → Sum us vs y
          → Rel ts vs (expr (first_place x) (related o x y))

    -- Sum = Prod {("+" | "-") Prod}
    pub data Sum : Lexemes → Lexemes → Expr → Type 0 where
      sum_alone : {ts us : Lexemes} {x : Expr} → Prod ts us x → Sum ts us x
      sum_more : {t : Lexeme} {ts us vs : Lexemes} {x : Expr} {xs : Terms} → Prod ts (t ∷ us) x → Terms' (t ∷ us) vs xs → Sum ts vs (expr (first_place x) (sums x xs))

    pub data Terms' : Lexemes → Lexemes → Terms → Type 0 where
      last_plus : {t : Lexeme} {ts us : Lexemes} {x : Expr} → Is "+" t → Prod ts us x → Terms' (t ∷ ts) us (plus x no_terms)
      last_less : {t : Lexeme} {ts us : Lexemes} {x : Expr} → Is "-" t → Prod ts us x → Terms' (t ∷ ts) us (less x no_terms)
      more_plus : {t : Lexeme} {ts us vs : Lexemes} {x : Expr} {xs : Terms} → Is "+" t → Prod ts us x → Terms' us vs xs → Terms' (t ∷ ts) vs (plus x xs)
      more_less : {t : Lexeme} {ts us vs : Lexemes} {x : Expr} {xs : Terms} → Is "-" t → Prod ts us x → Terms' us vs xs → Terms' (t ∷ ts) vs (less x xs)

    -- Prod = Un {"*" Un}
    pub data Prod : Lexemes → Lexemes → Expr → Type 0 where
      prod_run : {ts us : Lexemes} {xs : Exprs} {x : Expr} → Factors ts us xs → run products xs ≡ Some x → Prod ts us x

    pub data Factors : Lexemes → Lexemes → Exprs → Type 0 where
      factors_last : {ts us : Lexemes} {x : Expr} → Un ts us x → Factors ts us (item x no_exprs)
      factors_more : {t : Lexeme} {ts us vs : Lexemes} {x : Expr} {xs : Exprs} → Un ts (t ∷ us) x → Is "*" t → Factors us vs xs → Factors ts vs (item x xs)

    -- Un = ("!" | "-") Un | Post
    pub data Un : Lexemes → Lexemes → Expr → Type 0 where
      not : {t : Lexeme} {ts us : Lexemes} {x : Expr} → Is "!" t → Un ts us x → Un (t ∷ ts) us (expr (place t) (negation x))
      opposite : {t : Lexeme} {ts us : Lexemes} {x : Expr} → Is "-" t → Un ts us x → Un (t ∷ ts) us (expr (place t) (minus x))
      un_post : {ts us : Lexemes} {x : Expr} → Post ts us x → Un ts us x

    -- Post = Atom {"[" E [":=" E] "]"}
    pub data Post : Lexemes → Lexemes → Expr → Type 0 where
      post_alone : {ts us : Lexemes} {x : Expr} → Atom ts us x → Post ts us x
      post_more : {t : Lexeme} {ts us vs : Lexemes} {x : Expr} {xs : Indices} → Atom ts (t ∷ us) x → Indices' (t ∷ us) vs xs → Post ts vs (expr (first_place x) (indexed x xs))

    -- one or more
    pub data Indices' : Lexemes → Lexemes → Indices → Type 0 where
      indices_last : {ts us : Lexemes} {f : Indices → Indices} → Index ts us f → Indices' ts us (f no_indices)
      indices_more : {ts us vs : Lexemes} {f : Indices → Indices} {xs : Indices} → Index ts us f → Indices' us vs xs → Indices' ts vs (f xs)

    pub data Index : Lexemes → Lexemes → (Indices → Indices) → Type 0 where
      read : {t u : Lexeme} {ts us : Lexemes} {x : Expr} → Is "[" t → E ts (u ∷ us) x → Is "]" u → Index (t ∷ ts) us (at_index x)
      write : {t u v : Lexeme} {ts us vs : Lexemes} {x y : Expr} → Is "[" t → E ts (u ∷ us) x → Is ":=" u → E us (v ∷ vs) y → Is "]" v → Index (t ∷ ts) vs (update x y)

    -- Es = E {"," E}
    pub data Es : Lexemes → Lexemes → Exprs → Type 0 where
      es_last : {ts us : Lexemes} {x : Expr} → E ts us x → Es ts us (item x no_exprs)
      es_more : {t : Lexeme} {ts us vs : Lexemes} {x : Expr} {xs : Exprs} → E ts (t ∷ us) x → Is "," t → Es us vs xs → Es ts vs (item x xs)

    -- "(" [Es] ")"
    pub data Args : Lexemes → Lexemes → Exprs → Type 0 where
      no_args : {t u : Lexeme} {us : Lexemes} → Is "(" t → Is ")" u → Args (t ∷ u ∷ us) us no_exprs
      args : {t u : Lexeme} {ts us : Lexemes} {xs : Exprs} → Is "(" t → Es ts (u ∷ us) xs → Is ")" u → Args (t ∷ ts) us xs

    pub data Atom : Lexemes → Lexemes → Expr → Type 0 where
      numeral : {t : Lexeme} {ts : Lexemes} → IsTrue (is_kind number_kind t) → Atom (t ∷ ts) ts (expr (place t) (number (value t.spelling)))
      true_word : {t : Lexeme} {ts : Lexemes} → Is "true" t → Atom (t ∷ ts) ts (expr (place t) (truth true))
      false_word : {t : Lexeme} {ts : Lexemes} → Is "false" t → Atom (t ∷ ts) ts (expr (place t) (truth false))
      of_name : {t : Lexeme} {ts : Lexemes} → IsId t → Atom (t ∷ ts) ts (expr (place t) (variable (name place t)))
      application : {t : Lexeme} {ts us : Lexemes} {xs : Exprs} → IsId t → Args ts us xs → Atom (t ∷ ts) us (expr (place t) (apply (name place t) xs))
      old_value : {t u v : Lexeme} {ts us : Lexemes} {x : Expr} → Is "old" t → Is "(" u → E ts (v ∷ us) x → Is ")" v
          → Atom (t ∷ u ∷ ts) us (expr (place t) (old (place t) x))
      round : {t u : Lexeme} {ts us : Lexemes} {x : Expr} → Is "(" t → E ts (u ∷ us) x → Is ")" u → Atom (t ∷ ts) us (expr_from (place t) x)
      -- the operand after `else` is the longest
      if_then_else : {t u v : Lexeme} {ts us vs ws : Lexemes} {c x y : Expr} → Is "if" t → E ts (u ∷ us) c → Is "then" u → E us (v ∷ vs) x → Is "else" v → E vs ws y
          → IsLongest vs ws → Atom (t ∷ ts) ws (expr (place t) (choose c x y))
      quantifier : {t u v w : Lexeme} {ts us vs ws zs : Lexemes} {q : Quantifier} {ps : Option Params} {gs : Groups} {rs : Triggers} {x : Expr}
          → Is "(" t → IsQuantifier u q → TPar place ts us ps → Groups' us (v ∷ vs) gs → Is "::" v → Trigs vs ws rs → E ws (w ∷ zs) x → Is ")" w
          → Atom (t ∷ u ∷ ts) zs (expr (place t) (quantified q (place t) ps gs rs x))

    -- {Attr | Trig}, Trig = "{" Es "}"; attributes are not kept
    pub data Trigs : Lexemes → Lexemes → Triggers → Type 0 where
      trigs_done : {ts : Lexemes} → Trigs ts ts no_triggers
      attribute : {ts us vs : Lexemes} {rs : Triggers} → Takes (rule attr) ts us → Trigs us vs rs → Trigs ts vs rs
      patterns : {t u : Lexeme} {ts us vs : Lexemes} {xs : Exprs} {rs : Triggers} → Is "{" t → Es ts (u ∷ us) xs → Is "}" u → Trigs us vs rs
          → Trigs (t ∷ ts) vs (trigger (place t) xs rs)

    -- Groups = Group {"," Group}, Group = Ids ":" Type ["where" E]
    pub data Groups' : Lexemes → Lexemes → Groups → Type 0 where
      groups_last : {ts us : Lexemes} {f : Groups → Groups} → Group ts us f → Groups' ts us (f no_groups)
      groups_more : {t : Lexeme} {ts us vs : Lexemes} {f : Groups → Groups} {gs : Groups} → Group ts (t ∷ us) f → Is "," t → Groups' us vs gs → Groups' ts vs (f gs)

    pub data Group : Lexemes → Lexemes → (Groups → Groups) → Type 0 where
      plain : {t : Lexeme} {ts us vs : Lexemes} {ns : List Name} {x : Ty} → Ids place ts (t ∷ us) ns → Is ":" t → Type' place us vs x → Group ts vs (group ns x no_clause)
      guarded : {t u : Lexeme} {ts us vs ws : Lexemes} {ns : List Name} {x : Ty} {y : Expr} → Ids place ts (t ∷ us) ns → Is ":" t → Type' place us (u ∷ vs) x → Is "where" u → E vs ws y
          → Group ts ws (group ns x (clause (place u) y))

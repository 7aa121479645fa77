-- Which tokens spell which declarations and which program.
use Rattle.std.specs.Prelude.{ℕ, List, [], ◌∷◌, ◌++◌, Bool, true, false, Option, Some, None, Result, Ok, Err}
use Rattle.bpl_lex.specs.Token.{Token, slice}
use Rattle.bpl_lex.specs.Lexing.{tokens, end_of}
use Rattle.bv_base.specs.declared.place.Place.{Place}
use Rattle.bpl_ast.specs.Place.{Name, Params, Ty}
use Rattle.bpl_ast.specs.Tree.{Expr, Groups, no_groups}
use Rattle.bpl_ast.specs.Statement.{Spec, requires, ensures, modifies, Body, Signature, Argument, DeclBody, constant, function, axiom_of, variables, synonym, procedure, implementation, Decl, name_of, axioms_with}
use Rattle.bpl_grammar.specs.Lexeme.{Lexeme, lexemes}
use Rattle.bpl_grammar.specs.Part.{rule, program}
use Rattle.bpl_grammar.specs.Grammar.{attrs}
use Rattle.bpl_grammar.specs.Spelling.{Takes}
use Rattle.bpl_grammar.specs.Faultless.{AreFaultless}
use Rattle.bpl_grammar.specs.Types.{Lexemes, Is, IsId, name, Ids, TPar, Type'}
use Rattle.bpl_grammar.specs.Expressions.{E, Groups'}
use Rattle.bpl_grammar.specs.Statements.{Formula, Body'}

module _ (place : Lexeme → Place) where
  -- FArg = [Id ":"] Type
  pub data FArg : Lexemes → Lexemes → Argument → Type 0 where
    typed : {ts us : Lexemes} {x : Ty} → Type' place ts us x → FArg ts us (record { name = None; type = x })
    named : {t u : Lexeme} {ts us : Lexemes} {x : Ty} → IsId t → Is ":" u → Type' place ts us x → FArg (t ∷ u ∷ ts) us (record { name = Some (name place t); type = x })

  -- FArg {"," FArg}
  pub data FArgs : Lexemes → Lexemes → List Argument → Type 0 where
    last : {ts us : Lexemes} {a : Argument} → FArg ts us a → FArgs ts us (a ∷ [])
    more : {t : Lexeme} {ts us vs : Lexemes} {a : Argument} {rest : List Argument} → FArg ts (t ∷ us) a → Is "," t → FArgs us vs rest → FArgs ts vs (a ∷ rest)

  -- "(" [FArg {"," FArg}] ")"
  pub data Inputs : Lexemes → Lexemes → List Argument → Type 0 where
    none : {t u : Lexeme} {us : Lexemes} → Is "(" t → Is ")" u → Inputs (t ∷ u ∷ us) us []
    some : {t u : Lexeme} {ts us : Lexemes} {rest : List Argument} → Is "(" t → FArgs ts (u ∷ us) rest → Is ")" u → Inputs (t ∷ ts) us rest

  -- "returns" "(" FArg ")" | ":" Type; a name of the result is not kept
  pub data Output : Lexemes → Lexemes → Ty → Type 0 where
    returns : {t u v : Lexeme} {ts us : Lexemes} {a : Argument} → Is "returns" t → Is "(" u → FArg ts (v ∷ us) a → Is ")" v → Output (t ∷ u ∷ ts) us a.type
    colon : {t : Lexeme} {ts us : Lexemes} {x : Ty} → Is ":" t → Type' place ts us x → Output (t ∷ ts) us x

  -- "{" E "}" | ";"
  pub data Value : Lexemes → Lexemes → Option Expr → Type 0 where
    given : {t u : Lexeme} {ts us : Lexemes} {x : Expr} → Is "{" t → E place ts (u ∷ us) x → Is "}" u → Value (t ∷ ts) us (Some x)
    missing : {t : Lexeme} {ts : Lexemes} → Is ";" t → Value (t ∷ ts) ts None

  -- "(" [Groups] ")"
  pub data Params' : Lexemes → Lexemes → Groups → Type 0 where
    none : {t u : Lexeme} {us : Lexemes} → Is "(" t → Is ")" u → Params' (t ∷ u ∷ us) us no_groups
    some : {t u : Lexeme} {ts us : Lexemes} {gs : Groups} → Is "(" t → Groups' place ts (u ∷ us) gs → Is ")" u → Params' (t ∷ ts) us gs

  -- Sig = "(" [Groups] ")" ["returns" "(" [Groups] ")"]
  pub data Sig : Lexemes → Lexemes → Signature → Type 0 where
    ins_alone : {ts us : Lexemes} {gs : Groups} → Params' ts us gs → Sig ts us (record { ins = gs; outs = no_groups })
    ins_and_outs : {t : Lexeme} {ts us vs : Lexemes} {gs hs : Groups} → Params' ts (t ∷ us) gs → Is "returns" t → Params' us vs hs → Sig ts vs (record { ins = gs; outs = hs })

  -- ["free"] ("requires" | "ensures") {Attr} E ";", the first token being the word of the clause
  pub data Clause' : Bool → Lexemes → Lexemes → Spec → Type 0 where
    of_requires : {f : Bool} {t : Lexeme} {ts us : Lexemes} {x : Expr} → Is "requires" t → Formula place ts us x → Clause' f (t ∷ ts) us (requires (place t) f x)
    of_ensures : {f : Bool} {t : Lexeme} {ts us : Lexemes} {x : Expr} → Is "ensures" t → Formula place ts us x → Clause' f (t ∷ ts) us (ensures (place t) f x)

  pub data Spec' : Lexemes → Lexemes → Spec → Type 0 where
    checked : {ts us : Lexemes} {s : Spec} → Clause' false ts us s → Spec' ts us s
    free : {t : Lexeme} {ts us : Lexemes} {s : Spec} → Is "free" t → Clause' true ts us s → Spec' (t ∷ ts) us s
    of_modifies : {t u : Lexeme} {ts us : Lexemes} {ns : List Name} → Is "modifies" t → Ids place ts (u ∷ us) ns → Is ";" u → Spec' (t ∷ ts) us (modifies (place t) ns)
    of_modifies_none : {t u : Lexeme} {ts : Lexemes} → Is "modifies" t → Is ";" u → Spec' (t ∷ u ∷ ts) ts (modifies (place t) [])

  -- {Spec}
  pub data Specs : Lexemes → Lexemes → List Spec → Type 0 where
    none : {ts : Lexemes} → Specs ts ts []
    more : {ts us vs : Lexemes} {s : Spec} {ss : List Spec} → Spec' ts us s → Specs us vs ss → Specs ts vs (s ∷ ss)

  pub data DeclBody' : Lexemes → Lexemes → DeclBody → Type 0 where
    of_const : {t u v : Lexeme} {ts us vs ws : Lexemes} {ns : List Name} {x : Ty} → Is "const" t → Takes attrs ts us → Ids place us (u ∷ vs) ns → Is ":" u → Type' place vs (v ∷ ws) x → Is ";" v
        → DeclBody' (t ∷ ts) ws (constant None ns x)
    of_unique_const : {t u v w : Lexeme} {ts us vs ws : Lexemes} {ns : List Name} {x : Ty} → Is "const" t → Takes attrs ts (w ∷ us) → Is "unique" w → Ids place us (u ∷ vs) ns → Is ":" u → Type' place vs (v ∷ ws) x → Is ";" v
        → DeclBody' (t ∷ ts) ws (constant (Some (place w)) ns x)
    of_function : {t u : Lexeme} {ts us vs ws xs ys : Lexemes} {ps : Option Params} {ins : List Argument} {x : Ty} {b : Option Expr} → Is "function" t → Takes attrs ts (u ∷ us) → IsId u → TPar place us vs ps → Inputs vs ws ins → Output ws xs x → Value xs ys b
        → DeclBody' (t ∷ ts) ys (function (name place u) ps ins x b)
    of_axiom : {t : Lexeme} {ts us : Lexemes} {x : Expr} → Is "axiom" t → Formula place ts us x → DeclBody' (t ∷ ts) us (axiom_of x)
    of_var : {t u : Lexeme} {ts us vs : Lexemes} {gs : Groups} → Is "var" t → Takes attrs ts us → Groups' place us (u ∷ vs) gs → Is ";" u → DeclBody' (t ∷ ts) vs (variables gs)
    of_type : {t u v : Lexeme} {ts us : Lexemes} → Is "type" t → Takes attrs ts (u ∷ v ∷ us) → IsId u → Is ";" v → DeclBody' (t ∷ ts) us (synonym (name place u) None)
    of_synonym : {t u v w : Lexeme} {ts us vs : Lexemes} {x : Ty} → Is "type" t → Takes attrs ts (u ∷ v ∷ us) → IsId u → Is "=" v → Type' place us (w ∷ vs) x → Is ";" w → DeclBody' (t ∷ ts) vs (synonym (name place u) (Some x))
    of_procedure : {t u v : Lexeme} {ts us vs ws xs : Lexemes} {ps : Option Params} {s : Signature} {ss : List Spec} → Is "procedure" t → Takes attrs ts (u ∷ us) → IsId u → TPar place us vs ps → Sig vs (v ∷ ws) s → Is ";" v → Specs ws xs ss
        → DeclBody' (t ∷ ts) xs (procedure (name place u) ps s ss None)
    of_procedure_with_body : {t u : Lexeme} {ts us vs ws xs ys : Lexemes} {ps : Option Params} {s : Signature} {ss : List Spec} {b : Body} → Is "procedure" t → Takes attrs ts (u ∷ us) → IsId u → TPar place us vs ps → Sig vs ws s → Specs ws xs ss → Body' place xs ys b
        → DeclBody' (t ∷ ts) ys (procedure (name place u) ps s ss (Some b))
    of_implementation : {t u : Lexeme} {ts us vs ws xs : Lexemes} {ps : Option Params} {s : Signature} {b : Body} → Is "implementation" t → Takes attrs ts (u ∷ us) → IsId u → TPar place us vs ps → Sig vs ws s → Body' place ws xs b
        → DeclBody' (t ∷ ts) xs (implementation (name place u) ps s b)

-- a declaration, where k axioms stand before it, of the text's bytes from one place up to another
abbrev pub decl_of : List ℕ → ℕ → DeclBody → ℕ → ℕ → Decl
decl_of bytes k b start finish = record { name = name_of k b; start = start; finish = finish; source = slice bytes start finish; body = b }

-- Program = {Decl}. Places count from each declaration's first byte; k axioms stand before.
pub data Decls (bytes : List ℕ) : ℕ → List Token → List Decl → Type 0 where
  none : {k : ℕ} → Decls bytes k [] []
  more : {k : ℕ} (t : Token) (ts us : List Token) (b : DeclBody) {ds : List Decl}
      → DeclBody' (λ u. u.place) (lexemes bytes t.start (t ∷ ts ++ us)) (lexemes bytes t.start us) b → Decls bytes (axioms_with k b) us ds
      → Decls bytes k (t ∷ ts ++ us) (decl_of bytes k b t.start (end_of (t ∷ ts)) ∷ ds)

-- the tokens spell the program, and none of them has a fault
pub record SpelledBy (bytes : List ℕ) (ts : List Token) (ds : List Decl) : Type 0 where
  pub spelled : Decls bytes 0 ts ds
  pub faultless : AreFaultless (rule program) (lexemes bytes 0 ts)

abbrev pub SpelledIn : List ℕ → Result (List Token) ℕ → List Decl → Type 0
SpelledIn bytes (Err at) ds = ⊥
SpelledIn bytes (Ok ts) ds = SpelledBy bytes ts ds

-- the text spells the program
abbrev pub SpellsProgram : List ℕ → List Decl → Type 0
SpellsProgram bytes ds = SpelledIn bytes (tokens bytes) ds

-- The faults of a text, and of declarations by names and sorts, as they are written.
use Rattle.std.specs.Prelude.{ℕ, List, slice_get, codes, Option, Some, None}
use Rattle.bpl_ast.specs.Statement.{Decl}
use Rattle.bpl_grammar.specs.Judge.{Mark, syntax, deep, wide}
use Rattle.bpl_grammar.specs.Fault.{Fault as TextFault, lexical, marked}
use Rattle.bpl_scopes.specs.declared.fault.Fault.{Fault}
use Rattle.fault_text.specs.Kinds.{kind_name}
use Rattle.fault_text.specs.Words.{no_word}
use Rattle.fault_text.specs.Written.{Written}
use Rattle.fault_text.specs.Faults.{fault_in_text, fault_in_decl}

abbrev pub mark_name : Mark → List ℕ
mark_name syntax = codes "Syntax"
mark_name deep = codes "Deep"
mark_name wide = codes "Wide"

abbrev pub text_fault : List ℕ → TextFault → Written
text_fault text (lexical at) = fault_in_text text (codes "Lex") at
text_fault text (marked m at) = fault_in_text text (mark_name m) at

abbrev pub written_in : Option Decl → Fault → Written
written_in None f = record { kind = kind_name f.kind; decl = no_word; place = f.at; word = no_word }
written_in (Some d) f = fault_in_decl d f.kind f.at

-- by the position of its declaration
abbrev pub decl_fault : List Decl → ℕ × Fault → Written
decl_fault ds p = written_in (slice_get ds p.0) p.1

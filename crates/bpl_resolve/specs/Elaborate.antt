-- The typed module of a program without fault.
use Rattle.std.specs.Prelude.{ℕ, List, map, length}
use Rattle.bpl_ast.specs.Statement.{Decl}
use Rattle.canonical_text.specs.Lines.{text, contract}
use Rattle.bpl_model.specs.Module.{DeclText, Module}
use Rattle.bpl_scopes.specs.Scopes.{Table, table_of, Counts, no_counts, counts_after}
use Rattle.bpl_texts.specs.Uses.{decl_uses, contract_uses, leads_of}
use Rattle.bpl_resolve.specs.Elaborated.{all_consts, all_axioms, all_functions, all_globals, all_procs}
pub use Rattle.bpl_resolve.specs.Elaborated.{number_of_term, target_number, target_numbers, assignment, assignments, arguments, procedure_number, guard_of, invariants_of, labelled_as, is_else, stmts_of, stmt_of, action_of, chain_of, others_of, clause_term, clause_terms, locals_with, entity_number, modified_number, spec_in, spec_of, Implemented, or_else, implements, implementation_of, own_body, proc_locals, proc_body, proc_of, consts_in, globals_with, globals_in, axioms_in, value_term, function_def, procs_in}

-- among so many declarations
abbrev pub decl_text : Table → ℕ → Decl → DeclText
decl_text t count d = record {
  name = d.name;
  text = text d.body;
  contract = contract d.body;
  leads = leads_of t count (decl_uses d.body);
  contract_leads = leads_of t count (contract_uses d.body);
}

abbrev pub typed_module : List Decl → Table → Counts → Module
typed_module ds t c = record {
  consts = all_consts ds t c;
  axioms = all_axioms ds t c;
  functions = all_functions ds t c;
  globals = all_globals ds t c;
  procs = all_procs ds t c;
  texts = map (decl_text t (length ds)) ds;
}

-- of declarations without fault
abbrev pub module_of : List Decl → Module
module_of ds = typed_module ds (table_of ds) (counts_after no_counts ds)

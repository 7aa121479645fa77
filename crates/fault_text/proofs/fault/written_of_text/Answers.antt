use Rattle.std.proofs.Common.{subst}
use Rattle.bpl_grammar.specs.Part.{rule, program}
use Rattle.bpl_grammar.specs.Judge.{syntax, deep, wide}
use Rattle.bpl_grammar.specs.Fault.{lexical, marked}
use Rattle.bpl_parse.specs.Program.{IsFaultOf}
use Rattle.fault_text.proofs.InText.{fault_inside}
use Rattle.fault_text.proofs.fault.written_of_text.Goals as goal

pub fault_in_text-requires-clause-inside : goal.fault_in_text-requires-clause-inside
fault_in_text-requires-clause-inside c = fault_inside (rule program) c.args.text.now (lexical c.in-Lex.at) (subst (IsFaultOf c.args.text.now) c.in-Lex.is c.requires.there)

pub fault_in_text-requires-in-Syntax-clause-inside : goal.fault_in_text-requires-in-Syntax-clause-inside
fault_in_text-requires-in-Syntax-clause-inside c = fault_inside (rule program) c.args.text.now (marked syntax c.in-Syntax.at) (subst (IsFaultOf c.args.text.now) c.in-Syntax.is c.requires.there)

pub fault_in_text-requires-in-Deep-clause-inside : goal.fault_in_text-requires-in-Deep-clause-inside
fault_in_text-requires-in-Deep-clause-inside c = fault_inside (rule program) c.args.text.now (marked deep c.in-Deep.at) (subst (IsFaultOf c.args.text.now) c.in-Deep.is c.requires.there)

pub fault_in_text-requires-in-Wide-clause-inside : goal.fault_in_text-requires-in-Wide-clause-inside
fault_in_text-requires-in-Wide-clause-inside c = fault_inside (rule program) c.args.text.now (marked wide c.in-Wide.at) (subst (IsFaultOf c.args.text.now) c.in-Wide.is c.requires.there)

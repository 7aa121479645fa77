-- The numbering of a procedure's variables, as the code keeps it.
use Rattle.std.specs.Prelude.{◌+◌, not, List, ◌++◌, map, length, filter}
use Rattle.bpl_model.specs.declared.variables.Variables.{Variables}
use Rattle.bpl_model.specs.Module.{Const, Global, Local, Proc, Module}
use Rattle.bpl_model.specs.Numbering.{local_sorts}

-- the sorts of variables, and the first number of each kind of them
abbrev pub variables_from : List Const → List Global → List Local → List Local → List Local → Variables
variables_from cs gs is os ls = record {
  sorts = map (λ c. c.sort) cs ++ (map (λ g. g.sort) gs ++ (map (λ g. g.sort) gs ++ (local_sorts is ++ (local_sorts os ++ local_sorts ls))));
  first_global = length cs;
  first_entry = length cs + length gs;
  first_in = length cs + length gs + length gs;
  first_out = length cs + length gs + length gs + length is;
  first_local = length cs + length gs + length gs + length is + length os;
  first_own = length cs + length gs + length gs + length is + length os + length (filter (λ l. not l.own) ls);
}

abbrev pub variables_of : Module → Proc → Variables
variables_of m p = variables_from m.consts m.globals p.ins p.outs p.locals

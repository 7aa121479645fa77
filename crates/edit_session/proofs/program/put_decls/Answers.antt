use Rattle.std.proofs.Common.{◌∙◌, sym, ap, subst, List}
use Rattle.bpl_ast.specs.Statement.{Decl}
use Rattle.program_edits.specs.Replaced.{with_replacements, AreThere}
use Rattle.edit_session.proofs.Revised.{last_there, others_there, last_placed}
use Rattle.edit_session.proofs.program.put_decls.Goals as goal

pub put_decl-requires : goal.put_decl-requires
put_decl-requires c = last_there c.loop-replacement.program c.pop.new.self.items c.loop-replacement.replacements.items c.in-Some.replacement c.in-Some.ensures.items c.loop-replacement.invariant.there

pub loop-replacement-preserved : goal.loop-replacement-preserved
loop-replacement-preserved c =
    let rest = c.pop.new.self.items in
    let all = c.loop-replacement.replacements.items in
    record {
      same = ap (λ (ds : List Decl). with_replacements ds rest) c.put_decl.ensures ∙ sym (last_placed c.loop-replacement.program rest all c.in-Some.replacement c.in-Some.ensures.items) ∙ c.loop-replacement.invariant.same;
      there = subst (λ (ds : List Decl). AreThere ds rest) (sym c.put_decl.ensures) (others_there c.loop-replacement.program rest all c.in-Some.replacement c.in-Some.ensures.items c.loop-replacement.invariant.there);
    }

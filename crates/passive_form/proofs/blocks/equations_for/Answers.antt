use Rattle.std.proofs.Common.{◌≡◌, ℕ, ◌++◌, ◌∙◌, ap, sym, subst, map, slice_index_or, IfOk}
use Rattle.std.proofs.lemmas.List.{get_or_default}
use Rattle.logic_core.specs.Tree.{free, equal}
use Rattle.flow_core.specs.declared.command.Command.{Command}
use Rattle.flow_core.specs.declared.command.Command.TheVariants.{Assume}
use Rattle.passive_form.specs.declared.done.Done.{Done}
use Rattle.passive_form.specs.Incarnations.{incarnation, nothing_done}
use Rattle.passive_form.proofs.blocks.equations_for.Goals as goal

pub returns-in-Some : goal.returns-in-Some
returns-in-Some c =
    let done = c.args.done.now in
    let join : slice_index_or done c.args.join nothing_done ≡ c.in-Some.joining.now = get_or_default done c.args.join nothing_done c.in-Some.joining.now c.in-Some.ensures.lookup.3.0 ∙ sym c.in-Some.ensures.lookup.1 in
    let f : (ℕ × ℕ) → Command = λ p. Assume (equal (free p.1) (free (incarnation (slice_index_or done c.args.block nothing_done).last p.0))) in
    subst (λ xs. IfOk c.push_equations.result (λ v. v.items ≡ c.args.commands.items ++ map f xs)) (c.as_slice.ensures ∙ sym (ap (λ (d : Done). d.joined) join)) c.push_equations.ensures

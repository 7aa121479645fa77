use Rattle.std.proofs.Common.{◌≡◌, ℕ, ◌≤◌, true, false, get_or, take, inl, inr, sym, ◌∙◌, subst, arith}
use Rattle.std.specs.Prelude.{Contains}
use Rattle.std.specs.List.{list_any}
use Rattle.std.proofs.lemmas.Bool.{both_ways, cases_Bool}
use Rattle.std.proofs.lemmas.List.{get_or_default}
use Rattle.logic_core.specs.Subterm.{has}
use Rattle.flow_core.specs.declared.command.Command.{Command}
use Rattle.flow_core.specs.Graph.{set_by_each}
use Rattle.flow_core.specs.Reading.{read_by, Reads, is_set, is_unset}
use Rattle.flow_core.proofs.Lists.{below_next, says_yes, says_no}
use Rattle.flow_core.proofs.SetVariables.{set_contained, reads_one, one_read}
use Rattle.flow_core.proofs.calls.sets_before_reading.Goals as goal

pub returns-then-reads_unset : goal.returns-then-reads_unset
returns-then-reads_unset c =
    let cs = c.args.commands.now in
    let i = c.loop-i.i in
    let reads : list_any (has (is_unset c.args.own (take i cs))) (read_by c.index-commands-i.result) ≡ true = sym c.reads_unset.ensures ∙ c.if-reads_unset.true in
    let e = reads_one c.args.own (take i cs) c.index-commands-i.result reads in
    let P : Command → Type 0 = λ k. Reads k e.0 in
    says_no (λ each. e.2 (each i e.0 c.index-commands-i.result c.loop-i-test.true e.1 (subst P c.index-commands-i.is e.3)))

pub loop-i-preserved : goal.loop-i-preserved
loop-i-preserved c =
    let cs = c.args.commands.now in
    let i = c.loop-i.i in
    let fails : list_any (has (is_unset c.args.own (take i cs))) (read_by c.index-commands-i.result) ≡ false = sym c.reads_unset.ensures ∙ c.if-reads_unset.false in
    below_next (λ i. (v : ℕ) (k : Command) → c.args.own ≤ v → Reads (get_or cs i k) v → Contains (set_by_each (take i cs)) v) i c.loop-i.invariant (λ v k le r.
    let P : Command → Type 0 = λ k. Reads k v in
    let r' : Reads c.index-commands-i.result v = subst P (get_or_default cs i k c.index-commands-i.result c.loop-i-test.true ∙ sym c.index-commands-i.is) r in
    elim (cases_Bool (is_set (take i cs) v)) [
      | inl done ↦ set_contained (take i cs) v done
      | inr never ↦ absurd (both_ways (list_any (has (is_unset c.args.own (take i cs))) (read_by c.index-commands-i.result)) fails (one_read c.args.own (take i cs) c.index-commands-i.result v le never r'))
    ])

pub returns : goal.returns
returns c = says_yes (λ i v k there le r. c.loop-i.invariant i (omega arith) v k le r)
